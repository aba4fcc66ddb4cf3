-- The children of a cell: their number, each by its number, and that they are the walk's.
use mathlib.Core.Path.{◌≡◌, refl, ap, sym, ◌∙◌}
use mathlib.Core.Bool.{Bool, true, false}
use mathlib.Core.List.{◌∷◌, ◌++◌, append-nil}
use Prim.Native.Nat.{ℕ, zero, suc, ◌+◌, ◌-◌, ◌*◌, ◌/◌, ◌%◌, ◌≤◌, ◌<◌}
use native.Mathlib.Nat.{le_trans, mul-le-mul_left, mul-le-mul_right, mod_self}
use native.Mathlib.Nat.{div-add-mod', mul-mod_left, lt_of_mul-lt-mul_right}
use native.Mathlib.Decide.{dec_lt}
use native.Mathlib.Omega.{arith}
use lib.IntN.{pos}
use lib.ListN.{length, get_or, drop}
use lib.Seq.{drop-cons}
use borrow.Author.Tests.{le-leb}
use Rattle.rules.specs.Drawings as drawings
use Rattle.rules.specs.Values.{pick}
use Rattle.rules.specs.Drawings.{Region, region, lesser, along_y, along_z, grid_fault, children}
use Rattle.rules.proofs.Regions.{over_parts, children_flat, children_solid}
use Rattle.picture.specs.Shapes.{grid_in}
use Rattle.picture.specs.declared.grid.Grid.{Grid}
use Rattle.walk.specs.Cells.{layers_in, Small, Ends, CellOk, region_in}
use Rattle.walk.specs.declared.cell.Cell.{Cell}
use Rattle.walk.proofs.Along.{layers_start, layers_step, layers_end, lesser_first, lesser_second}
use Rattle.walk.proofs.CellLaws.{kind, cell_layers, cell_rows, ends}
use Rattle.walk.specs.Children.{parts_in, last_end, Axis, Parent, children_in, EndsWhole, Whole, ChildOf}
use Rattle.walk.proofs.Numbered.{parts_end, part_in_lem, parts_few, nowhere, all_length, all_at, Digits, digits}

-- A cell of the grid is a parent for each side that divides its own.
axis : {w i n e : ℕ} → w ≤ 512 → Ends w i n e → Axis i e n
axis h e = record { some = e.some; in_side = e.in_side; small = omega (arith, e.in_grid) }

pub parent_of : {layers : ℕ} {grid : Grid} {c : Cell} (n l : ℕ) → Small layers grid → CellOk layers grid c → 1 ≤ n
    → n ≤ 512
    → c.side ≡ l * n → Parent c n
parent_of n l s k o f e =
    record {
      count = l;
      some = o;
      few = f;
      parts = e;
      xs = axis s.width k.xs;
      ys = axis s.height k.ys;
      zs = axis s.depth k.zs;
    }

pub parent_some : {p : Cell} {n : ℕ} (k : Parent p n) → 1 ≤ k.count
parent_some {p} {n} k = by k.count k.parts
  where
    by : (q : ℕ) → p.side ≡ q * n → 1 ≤ q
    by zero e = absurd (omega (arith, k.xs))
    by (suc q) e = omega arith

-- On one axis at least one part begins.
pub parts_some : (from end n : ℕ) → 1 ≤ n → from < end → 1 ≤ parts_in from end n
parts_some from end n o h = by (parts_in from end n) (parts_end from end n o h).0
  where
    by : (q : ℕ) → end ≤ from + q * n → 1 ≤ q
    by zero k = absurd (omega arith)
    by (suc q) k = omega arith

pub parts_most : (from end n : ℕ) → 1 ≤ n → from < end → end ≤ 512 → parts_in from end n ≤ 512
parts_most from end n o h k =
    let p = parts_end from end n o h in
    by (parts_in from end n) p.1
  where
    by : (q : ℕ) → from + q * n < end + n → q ≤ 512
    by zero e = omega arith
    by (suc q) e = omega (arith, mul-le-mul_left q o)

module _ {p : Cell} {n : ℕ} (k : Parent p n) where
  in_parts : (x e : ℕ) → Axis x e p.side → e ≤ x + k.count * n
  in_parts x e a = omega (arith, k.parts, a.in_side)

  by_ends : children_in p n ≡ along_z k.count k.count p.x p.y p.z n p.xend p.yend p.zend
  unfolding children_in
  by_ends = rw (over_parts p.side n k.count k.some k.parts)

  abbrev across : ℕ
  across = parts_in p.x p.xend n

  abbrev rows : ℕ
  rows = parts_in p.y p.yend n

  abbrev deep : ℕ
  deep = parts_in p.z p.zend n

  pub child_length : length (children_in p n) ≡ deep * (rows * across)
  child_length =
      ap length by_ends
      ∙ all_length n k.some k.count p.x p.xend k.xs.some (in_parts p.x p.xend k.xs)
      p.y p.yend k.ys.some (in_parts p.y p.yend k.ys)
      p.z p.zend k.zs.some (in_parts p.z p.zend k.zs)

  pub child_digits : (m : ℕ) → m < length (children_in p n) → Digits across rows deep m
  child_digits m h =
      digits across rows deep m (parts_some p.x p.xend n k.some k.xs.some)
      (parts_some p.y p.yend n k.some k.ys.some) (omega (arith, child_length))

  -- The closed form.
  pub child_at : (m : ℕ) → m < length (children_in p n) → get_or (children_in p n) m nowhere
      ≡ region (p.x + m % across * n) (p.y + m / across % rows * n) (p.z + (deep - 1 - m / across / rows) * n) n
  child_at m h =
      let d = child_digits m h in
      let e : deep - suc (m / across / rows) ≡ deep - 1 - m / across / rows = omega arith in
      ap (λ v. get_or (children_in p n) v nowhere) d.sum
      ∙ ap
      (λ v. get_or v (m / across / rows * (rows * across) + (m / across % rows * across + m % across)) nowhere) by_ends
      ∙ all_at n k.some k.count p.x p.xend k.xs.some (in_parts p.x p.xend k.xs)
      p.y p.yend k.ys.some (in_parts p.y p.yend k.ys)
      p.z p.zend k.zs.some (in_parts p.z p.zend k.zs)
      (m / across / rows) (m / across % rows) (m % across) d.layer d.row d.column
      ∙ ap (λ v. region (p.x + m % across * n) (p.y + m / across % rows * n) (p.z + v * n) n) e

  pub child_next : (m : ℕ) {q : Region} → m < length (children_in p n) → get_or (children_in p n) m nowhere ≡ q
      → drop m (children_in p n) ≡ q ∷ drop (suc m) (children_in p n)
  child_next m h e = drop-cons (children_in p n) m nowhere h ∙ ap (λ v. v ∷ drop (suc m) (children_in p n)) e

-- The products of the numbers of parts stay small.
pub small_product : (a b c d : ℕ) → a ≤ c → b ≤ d → a * b ≤ c * d
small_product a b c d h k = le_trans (mul-le-mul_right b h) (mul-le-mul_left c k)

-- The end of a part, from its parent's end.
lesser_least : (a b : ℕ) → b ≤ a → lesser a b ≡ b
lesser_least a b h =
    elim (dec_lt b a) [
      | yes u ↦ lesser_second a b u
      | no u ↦ let e : a ≡ b = omega arith in lesser_first a b (omega arith) ∙ e
    ]

lesser_part : (w a b : ℕ) → b ≤ a → lesser (lesser w a) b ≡ lesser w b
lesser_part w a b h =
    elim (dec_lt a w) [
      | yes t ↦ ap (λ v. lesser v b) (lesser_second w a t) ∙ lesser_least a b h ∙ sym (lesser_second w b (omega arith))
      | no t ↦ ap (λ v. lesser v b) (lesser_first w a (omega arith))
    ]

part_ends : {w i n e : ℕ} (x k end : ℕ) → Ends w i n e → 1 ≤ k → x < e → x + k ≤ i + n → end ≡ lesser e (x + k)
    → Ends w x k end
part_ends {w} {i} {n} {e} x k end c o h t s =
    ends w x k end (s ∙ ap (λ v. lesser v (x + k)) c.least ∙ lesser_part w (i + n) (x + k) t)
    (omega (arith, c.in_grid)) o

-- The same of a parent that ends where the axis does or whole parts behind its start.
whole_ends : {w i e n : ℕ} (a end : ℕ) → EndsWhole w i e n → 1 ≤ n → i + a * n < e → end ≡ lesser e (i + a * n + n)
    → Ends w (i + a * n) n end
whole_ends {w} {i} {e} {n} a end c o h s =
    ends w (i + a * n) n end
    (s
    ∙ elim (dec_lt e w) [
      | yes t ↦
          let q = (e - i) / n in
          let u : e - i ≡ q * n = omega (arith, div-add-mod' (e - i) n, c.whole t) in
          let l : a * n < q * n = omega arith in
          let m = mul-le-mul_right n (lt_of_mul-lt-mul_right n l) in
          lesser_least e (i + a * n + n) (omega arith) ∙ sym (lesser_second w (i + a * n + n) (omega arith))
      | no t ↦ let u : e ≡ w = omega (arith, c.in_grid) in ap (λ v. lesser v (i + a * n + n)) u
    ])
    (omega (arith, c.in_grid)) o

-- A cell of the grid is such a parent.
ends_whole : {w i s e n : ℕ} (l : ℕ) → s ≡ l * n → Ends w i s e → EndsWhole w i e n
ends_whole {w} {i} {s} {e} {n} l h c =
    record {
      in_grid = c.in_grid;
      whole = λ t.
          let u : e - i ≡ l * n = elim (dec_lt (i + s) w) [
            | yes r ↦ omega (arith, c.least ∙ lesser_second w (i + s) r)
            | no r ↦ absurd (omega (arith, c.least ∙ lesser_first w (i + s) (omega arith)))
          ] in
          ap (λ v. v % n) u ∙ mul-mod_left l n;
    }

pub cell_whole : {layers : ℕ} {grid : Grid} {c : Cell} {n : ℕ} (l : ℕ) → c.side ≡ l * n → CellOk layers grid c
    → Whole layers grid c n
cell_whole l e k = record { xs = ends_whole l e k.xs; ys = ends_whole l e k.ys; zs = ends_whole l e k.zs }

abbrev pub ends_grid : Cell → drawings.Grid
ends_grid p =
    record {
      width = p.xend;
      height = p.yend;
      depth = p.zend;
      origin_x = pos 0;
      origin_y = pos 0;
      origin_z = pos 0;
      step_x = pos 0;
      step_y = pos 0;
      step_z = pos 0;
    }

-- Where child number m is, with the numbers of parts and the digits of m as they were computed.
pub record Spot (p : Cell) (n m nx ny nz column row above : ℕ) : Type 0 where
  pub some_x : 1 ≤ nx
  pub some_y : 1 ≤ ny
  pub in_layers : above < nz
  pub x_in : p.x + column * n < p.xend
  pub y_in : p.y + row * n < p.yend
  pub z_in : p.z + (nz - 1 - above) * n < p.zend
  pub x_to : p.x + column * n + n ≤ p.x + p.side
  pub y_to : p.y + row * n + n ≤ p.y + p.side
  pub z_to : p.z + (nz - 1 - above) * n + n ≤ p.z + p.side
  pub x_last : p.x + column * n + n ≤ last_end p.x p.xend n
  pub y_last : p.y + row * n + n ≤ last_end p.y p.yend n
  pub next : drop m (children_in p n)
      ≡ region (p.x + column * n) (p.y + row * n) (p.z + (nz - 1 - above) * n) n
      ∷ drop (suc m) (children_in p n)

-- Its place by the digits of m themselves.
abbrev pub SpotBy : Cell → ℕ → ℕ → ℕ → ℕ → ℕ → Type 0
SpotBy p n m nx ny nz = Spot p n m nx ny nz (m % nx) (m / nx % ny) (m / nx / ny)

pub spot_at : {p : Cell} {n m nx ny nz before column row above : ℕ} → SpotBy p n m nx ny nz → before ≡ m / nx
    → column ≡ m % nx → above ≡ before / ny → row ≡ before % ny → Spot p n m nx ny nz column row above
spot_at s eb ec ea er = rw (ec, ea, er, eb) s

module _ {p : Cell} {n : ℕ} (k : Parent p n) where
  part_to : (x e a : ℕ) → Axis x e p.side → a < parts_in x e n → x + a * n + n ≤ x + p.side
  part_to x e a h t =
      let f = parts_few x e n k.count k.some h.some (in_parts k x e h) in
      omega (arith, k.parts, mul-le-mul_right n f, mul-le-mul_right n t)

  part_last : (x e a : ℕ) → a < parts_in x e n → x + a * n + n ≤ last_end x e n
  part_last x e a t = omega (arith, mul-le-mul_right n t)

  pub child_spot : (m : ℕ) → m < length (children_in p n) → SpotBy p n m (across k) (rows k) (deep k)
  child_spot m h =
      let d = child_digits k m h in
      let t : deep k - 1 - m / across k / rows k < deep k = omega (arith, d.layer) in
      record {
        some_x = parts_some p.x p.xend n k.some k.xs.some;
        some_y = parts_some p.y p.yend n k.some k.ys.some;
        in_layers = d.layer;
        x_in = part_in_lem p.x p.xend n (m % across k) k.some k.xs.some d.column;
        y_in = part_in_lem p.y p.yend n (m / across k % rows k) k.some k.ys.some d.row;
        z_in = part_in_lem p.z p.zend n (deep k - 1 - m / across k / rows k) k.some k.zs.some t;
        x_to = part_to p.x p.xend (m % across k) k.xs d.column;
        y_to = part_to p.y p.yend (m / across k % rows k) k.ys d.row;
        z_to = part_to p.z p.zend (deep k - 1 - m / across k / rows k) k.zs t;
        x_last = part_last p.x p.xend (m % across k) d.column;
        y_last = part_last p.y p.yend (m / across k % rows k) d.row;
        next = child_next k m h (child_at k m h);
      }

  pub spot : {nx ny nz : ℕ} (m : ℕ) → nx ≡ across k → ny ≡ rows k → nz ≡ deep k → m < length (children_in p n)
      → SpotBy p n m nx ny nz
  spot m ex ey ez h = rw (ex, ey, ez) (child_spot m h)

  -- The child as a cell.
  pub child_of : {nx ny nz column row above : ℕ} (m : ℕ) (xend yend zend : ℕ) → Spot p n m nx ny nz column row above
      → xend ≡ lesser p.xend (p.x + column * n + n)
      → yend ≡ lesser p.yend (p.y + row * n + n)
      → zend ≡ lesser p.zend (p.z + (nz - 1 - above) * n + n)
      → ChildOf p n m (record {
        x = p.x + column * n;
        xend = xend;
        y = p.y + row * n;
        yend = yend;
        z = p.z + (nz - 1 - above) * n;
        zend = zend;
        side = n;
      })
  child_of {nz = nz} {column} {row} {above} m xend yend zend s ex ey ez =
      record {
        next = s.next;
        ok = λ layers grid c.
            record {
              xs = part_ends _ n xend c.xs k.some s.x_in s.x_to ex;
              ys = part_ends _ n yend c.ys k.some s.y_in s.y_to ey;
              zs = part_ends _ n zend c.zs k.some s.z_in s.z_to ez;
            };
        cell = λ layers grid c.
            record {
              xs = whole_ends column xend c.xs k.some s.x_in ex;
              ys = whole_ends row yend c.ys k.some s.y_in ey;
              zs = whole_ends (nz - 1 - above) zend c.zs k.some s.z_in ez;
            };
        side = refl;
        column = _;
        at_x = refl;
        x_to = s.x_to;
        y_from = omega arith;
        y_to = s.y_to;
        x_last = s.x_last;
        y_last = s.y_last;
      }

  -- At most l along each axis, and d layers.
  pub parts_fewer : (l d : ℕ) → p.side ≡ l * n → p.zend ≤ p.z + d * n → length (children_in p n) ≤ d * (l * l)
  parts_fewer l d e h =
      let x = parts_few p.x p.xend n l k.some k.xs.some (omega (arith, k.xs.in_side)) in
      let y = parts_few p.y p.yend n l k.some k.ys.some (omega (arith, k.ys.in_side)) in
      let z = parts_few p.z p.zend n d k.some k.zs.some h in
      let f : rows k * across k ≤ l * l = small_product (rows k) (across k) l l y x in
      omega (arith, child_length k, small_product (deep k) (rows k * across k) d (l * l) z f)

  -- They are the children in the grid that ends where the parent does.
  pub children_of : children_in p n ≡ children (ends_grid p) (region_in p) n
  unfolding children_in children
  children_of =
      rw (
        le-leb 1 p.zend (omega (arith, k.zs.some)),
        lesser_first p.xend (p.x + p.side) k.xs.in_side,
        lesser_first p.yend (p.y + p.side) k.ys.in_side,
        lesser_first p.zend (p.z + p.side) k.zs.in_side,
      )

-- The children by a cell's ends are the walk's.
pub children_in_lem : (isSolid : Bool) (grid : Grid) (c : Cell) (n l : ℕ) → 1 ≤ n → 1 ≤ l → c.side ≡ l * n
    → grid_fault isSolid (grid_in grid isSolid) ≡ 0 → CellOk (layers_in isSolid grid) grid c
    → children (grid_in grid isSolid) (region_in c) n ≡ children_in c n
unfolding children_in
children_in_lem true grid c n l o s e f k =
    cell_layers grid c n l o s e k f ∙ rw (over_parts c.side n l o e)
children_in_lem false grid c n l o s e f k =
    let z = k.zs in
    let h : c.z ≡ 0 = omega arith in
    let t : c.zend ≡ 1 = omega arith in
    let i = c.x in
    let j = c.y in
    let px = c.xend in
    let py = c.yend in
    let one : n - n ≡ 0 = omega arith in
    let w : n - 0 ≡ n = omega arith in
    let m : (n - 0) % n ≡ 0 = ap (λ v. v % n) w ∙ mod_self n in
    let u : along_z l l i j 0 n px py 1 ≡ along_y l l i j 0 n px py =
    layers_start l l i j 0 n px py o 1 n (omega arith) m o (omega arith)
    ∙ layers_step l l i j 0 n px py o n o (omega (arith, mul-le-mul_left n s)) m
    ∙ ap (λ v. along_y l l i j v n px py ++ along_z l l i j 0 n px py v) one
    ∙ ap (λ v. along_y l l i j 0 n px py ++ v) (layers_end l l i j 0 n px py o 0 (omega arith))
    ∙ append-nil _ in
    cell_rows grid c n l o s e k ∙ sym u ∙ rw (over_parts c.side n l o e, h, t)

-- How many they are at most: l along each axis, and one layer of a flat grid.
pub children_few : (isSolid : Bool) (grid : Grid) (c : Cell) (n l : ℕ) → 1 ≤ n → 1 ≤ l → c.side ≡ l * n
    → grid_fault isSolid (grid_in grid isSolid) ≡ 0 → CellOk (layers_in isSolid grid) grid c
    → length (children_in c n) ≤ pick isSolid (l * l * l) (l * l)
children_few true grid c n l o s e f k =
    rw (← children_in_lem true grid c n l o s e f k)
    (children_solid (grid_in grid true) (region_in c) n l (record { positive = o; parts = e; some_part = s })
    (kind true grid f))
children_few false grid c n l o s e f k =
    rw (← children_in_lem false grid c n l o s e f k)
    (children_flat (grid_in grid false) (region_in c) n l (record { positive = o; parts = e; some_part = s })
    (kind false grid f))
