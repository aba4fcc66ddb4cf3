-- One number at a pixel; a region drawn part by part.
use mathlib.Core.Path.{◌≡◌, refl, sym, ap, ◌∙◌}
use mathlib.Core.Bool.{false}
use mathlib.Core.List.{List, [], ◌∷◌}
use mathlib.Core.Logic.{◌⊎◌, inl, inr}
use Prim.Native.Nat.{ℕ, suc, ◌+◌, ◌*◌, ◌≤◌, ◌<◌}
use native.Mathlib.Nat.{mul_comm, mul-le-mul, mul-le-mul_right}
use native.Mathlib.Numerals.{add-one}
use native.Mathlib.Omega.{arith}
use native.Mathlib.Decide.{ℕ_discrete}
use lib.ListN.{length, set, drop, drop_of_length-le}
use lib.Seq.{get_or-set_same, get_or-set_other}
use Rattle.rules.specs.Drawings.{Region, Inside, layers}
use Rattle.rules.proofs.Heights.{same_pixel}
use Rattle.rules.proofs.Regions.{Some, here, there, children_cover, lesser_both}
use Rattle.picture.specs.declared.grid.Grid.{Grid}
use Rattle.walk.specs.Cells.{Ends, CellOk, region_in}
use Rattle.walk.specs.Children.{Parent, children_in, ChildOf}
use Rattle.walk.specs.declared.cell.Cell.{Cell}
use Rattle.walk.proofs.CellLaws.{small}
use Rattle.walk.proofs.ChildLaws.{ends_grid, children_of, parent_of, parent_some, parts_fewer}
use Rattle.swept_pixels.specs.Puts.{Right, Draws, Constantly, OnGrid}

-- The place of a pixel.
module _ (grid : Grid) (x y : ℕ) (hx : x < grid.width) (hy : y < grid.height) where
  most : suc y * grid.width ≤ grid.height * grid.width
  most = mul-le-mul_right grid.width hy

  pub place_in : {b : List ℕ} → OnGrid grid b → y * grid.width + x < length b
  place_in o = omega (arith, most, o.size, mul_comm grid.width grid.height)

  pub place_most : {b : List ℕ} → OnGrid grid b → y * grid.width + x < 262144
  place_most o =
      let s = small false grid o.fault in
      let m : y ≤ 511 = omega (arith, s.height) in
      let k : y * grid.width ≤ 511 * 512 = mul-le-mul m s.width in
      omega (arith, k, s.width)

-- A number stored at a pixel of side 1.
pub put_draws : {grid : Grid} {c : Cell} {b : List ℕ} (v : ℕ) → OnGrid grid b → CellOk 1 grid c → c.side ≡ 1
    → Draws (Constantly v grid (region_in c)) grid (region_in c) b (set b (c.y * grid.width + c.x) v)
put_draws {grid} {c} {b} v o k s =
    record {
      puts = λ f a. record {
        kept = λ i j hi hj r. other f a i j hi hj r (ℕ_discrete (c.y * grid.width + c.x) (j * grid.width + i));
        done = λ i j w hi hj. here_at f a i j hi hj (omega (arith, w, s)) (omega (arith, w, s));
      };
    }
  where
    in_list : c.y * grid.width + c.x < length b
    in_list = place_in grid c.x c.y (omega (arith, k.xs)) (omega (arith, k.ys)) o

    own : (f : ℕ → ℕ → ℕ) → Constantly v grid (region_in c) f → f c.x c.y ≡ v
    own f a =
        a.same c.x c.y (omega (arith, s, k.zs)) (omega (arith, k.xs)) (omega (arith, k.ys))

    here_at : (f : ℕ → ℕ → ℕ) → Constantly v grid (region_in c) f → (i j : ℕ) → i < grid.width → j < grid.height
        → i ≡ c.x → j ≡ c.y → Right f grid (set b (c.y * grid.width + c.x) v) i j
    here_at f a i j hi hj p q =
        rw (p, q) (get_or-set_same b (c.y * grid.width + c.x) v 0 in_list ∙ sym (own f a))

    other : (f : ℕ → ℕ → ℕ) → Constantly v grid (region_in c) f → (i j : ℕ) → i < grid.width → j < grid.height
        → Right f grid b i j → Dec (c.y * grid.width + c.x ≡ j * grid.width + i)
        → Right f grid (set b (c.y * grid.width + c.x) v) i j
    other f a i j hi hj r (yes e) =
        let p = same_pixel grid.width c.x c.y i j (omega (arith, k.xs)) hi e in
        here_at f a i j hi hj (sym p.0) (sym p.1)
    other f a i j hi hj r (no e) =
        get_or-set_other b (c.y * grid.width + c.x) (j * grid.width + i) v 0 (λ z. e (sym z)) ∙ r

-- What holds of the numbers of a region holds of more.
pub draws_of : {A B : (ℕ → ℕ → ℕ) → Type 0} {grid : Grid} {r : Region} {b b' : List ℕ}
    → ((f : ℕ → ℕ → ℕ) → A f → B f) → Draws B grid r b b' → Draws A grid r b b'
draws_of h d = record { puts = λ f a. d.puts f (h f a) }

-- A child lies in its parent.
pub child_inside : {grid : Grid} {p d : Cell} {n m : ℕ} → CellOk 1 grid p → CellOk 1 grid d → ChildOf p n m d
    → (i j : ℕ) → Inside (region_in d) i j 0 → Inside (region_in p) i j 0
child_inside k l h i j w =
    record {
      x_from = omega (arith, w.x_from, h.at_x);
      x_to = omega (arith, w.x_to, h.side, h.x_to);
      y_from = omega (arith, w.y_from, h.y_from);
      y_to = omega (arith, w.y_to, h.side, h.y_to);
      z_from = omega (arith, k.zs);
      z_to = omega (arith, k.zs, w, h.side, h.x_to, h.at_x);
    }

pub constant_part : {v : ℕ} {grid : Grid} {p d : Cell} {n m : ℕ} → CellOk 1 grid p → CellOk 1 grid d → ChildOf p n m d
    → (f : ℕ → ℕ → ℕ) → Constantly v grid (region_in p) f → Constantly v grid (region_in d) f
constant_part k l h f a = record { same = λ i j w. a.same i j (child_inside k l h i j w) }

-- A cell of at most 64 as the parent of parts of side n.
pub cell_parent : {grid : Grid} {b : List ℕ} {c : Cell} (n l : ℕ) → OnGrid grid b → CellOk 1 grid c → 1 ≤ n → n ≤ 512
    → c.side ≡ l * n → Parent c n
cell_parent {grid} n l o k s f e = parent_of n l (small false grid o.fault) k s f e

pub cell_few : {grid : Grid} {b : List ℕ} {c : Cell} (n l : ℕ) → OnGrid grid b → CellOk 1 grid c → 1 ≤ n → n ≤ 512
    → c.side ≡ l * n → l ≤ 64 → length (children_in c n) ≤ 4096
cell_few {c = c} n l o k s f e m =
    let q : l * l ≤ 64 * 64 = mul-le-mul m m in
    omega (arith, parts_fewer (cell_parent n l o k s f e) l 1 e (omega (arith, k.zs)), q)

-- Before the parts us of the region r.
pub record AtPart (A : (ℕ → ℕ → ℕ) → Type 0) (grid : Grid) (r : Region) (us : List Region) (b b' : List ℕ) : Type 0 where
  pub kept : (f : ℕ → ℕ → ℕ) → A f → (i j : ℕ) → i < grid.width → j < grid.height → Right f grid b i j
      → Right f grid b' i j
  pub done : (f : ℕ → ℕ → ℕ) → A f → (i j : ℕ) → Inside r i j 0 → i < grid.width → j < grid.height
      → Right f grid b' i j ⊎ Some (λ q. Inside q i j 0) us
  pub size : length b' ≡ length b

ends_below : {w i n e x : ℕ} → Ends w i n e → x < w → x < i + n → x < e
ends_below {w} {i} {n} {x = x} k h l = rw k.least (lesser_both x w (i + n) h l)

one_layer : (c : Cell) → c.zend ≡ 1 → 0 < layers (ends_grid c)
one_layer c e = rw e (omega arith)

some_empty : {i j : ℕ} (us : List Region) → us ≡ [] → Some (λ q. Inside q i j 0) us → ⊥
some_empty {i = i} {j = j} [] e s = elim s [ ]
some_empty (q ∷ us) e s = omega (arith, ap length e)

some_first : {i j : ℕ} {us ys : List Region} {q : Region} → us ≡ q ∷ ys → Some (λ q. Inside q i j 0) us
    → Inside q i j 0 ⊎ Some (λ q. Inside q i j 0) ys
some_first {i} {j} {us} {ys} {q} e s = by (rw e at s)
  where
    by : Some (λ q. Inside q i j 0) (q ∷ ys) → Inside q i j 0 ⊎ Some (λ q. Inside q i j 0) ys
    by (here p) = inl p
    by (there p) = inr p

module _ {A : (ℕ → ℕ → ℕ) → Type 0} {grid : Grid} (c : Cell) (n : ℕ) where
  pub parts_begin : Parent c n → CellOk 1 grid c → (b : List ℕ)
      → AtPart A grid (region_in c) (children_in c n) b b
  parts_begin k o b =
      record {
        kept = λ f a i j hi hj r. r;
        done = λ f a i j w hi hj.
            inr (rw (children_of k)
            (children_cover (ends_grid c) (region_in c) n k.count
            (record { positive = k.some; parts = k.parts; some_part = parent_some k }) i j 0 w
            (record {
              x_in = ends_below o.xs hi w.x_to;
              y_in = ends_below o.ys hj w.y_to;
              z_in = one_layer c (omega (arith, o.zs));
            })));
        size = refl;
      }

  module _ (m : ℕ) {b b₁ : List ℕ} (u : AtPart A grid (region_in c) (drop m (children_in c n)) b b₁) where
    pub parts_next : {d : Cell} {b₂ : List ℕ} → ChildOf c n m d → Draws A grid (region_in d) b₁ b₂
        → length b₂ ≡ length b₁ → AtPart A grid (region_in c) (drop (m + 1) (children_in c n)) b b₂
    parts_next {d} {b₂} h s l =
        rw add-one
        (record {
          kept = λ f a i j hi hj r. (s.puts f a).kept i j hi hj (u.kept f a i j hi hj r);
          done = λ f a i j w hi hj. by f a i j hi hj (u.done f a i j w hi hj);
          size = l ∙ u.size;
        })
      where
        later : (f : ℕ → ℕ → ℕ) → A f → (i j : ℕ) → i < grid.width → j < grid.height
            → Inside (region_in d) i j 0 ⊎ Some (λ q. Inside q i j 0) (drop (suc m) (children_in c n))
            → Right f grid b₂ i j ⊎ Some (λ q. Inside q i j 0) (drop (suc m) (children_in c n))
        later f a i j hi hj (inl w) = inl ((s.puts f a).done i j w hi hj)
        later f a i j hi hj (inr p) = inr p

        by : (f : ℕ → ℕ → ℕ) → A f → (i j : ℕ) → i < grid.width → j < grid.height
            → Right f grid b₁ i j ⊎ Some (λ q. Inside q i j 0) (drop m (children_in c n))
            → Right f grid b₂ i j ⊎ Some (λ q. Inside q i j 0) (drop (suc m) (children_in c n))
        by f a i j hi hj (inl r) = inl ((s.puts f a).kept i j hi hj r)
        by f a i j hi hj (inr p) = later f a i j hi hj (some_first h.next p)

    pub parts_done : length (children_in c n) ≤ m → Draws A grid (region_in c) b b₁
    parts_done l =
        record {
          puts = λ f a. record {
            kept = u.kept f a;
            done = λ i j w hi hj. right f i j (u.done f a i j w hi hj);
          };
        }
      where
        right : (f : ℕ → ℕ → ℕ) (i j : ℕ)
            → Right f grid b₁ i j ⊎ Some (λ q. Inside q i j 0) (drop m (children_in c n)) → Right f grid b₁ i j
        right f i j (inl r) = r
        right f i j (inr p) =
            absurd (some_empty (drop m (children_in c n)) (drop_of_length-le (children_in c n) l) p)
