-- The loop over the blocks in a block by their number: `for m in 0..part_count(block, side, n) { let part = part_of(block, side, n, m); .. }`.
-- Each pixel of the block is right, or lies in one that is left.
use mathlib.Core.Path.{◌≡◌, refl, ap, ◌∙◌}
use mathlib.Core.List.{List, [], ◌∷◌}
use mathlib.Core.Logic.{◌⊎◌, inl, inr}
use Prim.Native.Nat.{ℕ, ◌+◌, ◌*◌, ◌≤◌, ◌<◌}
use native.Mathlib.Numerals.{add-one}
use native.Mathlib.Omega.{arith}
use lib.IntN.{ℤ}
use lib.ListN.{length, drop, drop_of_length-le}
use Rattle.rules.specs.Tapes.{Tape}
use Rattle.rules.specs.Drawings.{Region, Inside}
use Rattle.rules.proofs.Regions.{Some, here, there, children_cover, lesser_both}
use Rattle.picture.specs.declared.grid.Grid.{Grid}
use Rattle.walk.specs.Cells.{Small, Ends, region_in}
use Rattle.walk.specs.Children.{Parent, children_in, Whole, ChildOf}
use Rattle.walk.specs.declared.cell.Cell.{Cell}
use Rattle.walk.proofs.ChildLaws.{ends_grid, children_of, parent_some, parts_fewer}
use Rattle.slope_pixels.specs.Shades.{block_of, BlockIn, Within, Right, Seen, Alike, Shading}
use Rattle.slope_pixels.specs.declared.block.Block.{Block}
use Rattle.slope_pixels.specs.declared.block.Layers.{Layers}
use Rattle.slope_pixels.proofs.ShadeLaws.{Part, shading_part}
use Rattle.slope_blocks.specs.Blocks.{cell_of, PartOf, BlockOf}

-- The cell of a block is a parent, for each side that divides its own.
module _ {layers : ℕ} {grid : Grid} {c : Block} (s n l : ℕ) (g : Small layers grid) (k : BlockOf s grid c)
    (o : 1 ≤ n) (f : n ≤ 512) (e : s ≡ l * n) where
  pub block_parent : 1 ≤ s → Parent (cell_of s c) n
  block_parent t =
      record {
        count = l;
        some = o;
        few = f;
        parts = e;
        xs = record { some = k.in_grid.x_some; in_side = k.x_few; small = omega (arith, k.in_grid, g.width) };
        ys = record { some = k.in_grid.y_some; in_side = k.y_few; small = omega (arith, k.in_grid, g.height) };
        zs = record { some = omega arith; in_side = omega arith; small = omega arith };
      }

  pub blocks_few : 1 ≤ s → length (children_in (cell_of s c) n) ≤ 1 * (l * l)
  blocks_few t = parts_fewer (block_parent t) l 1 e (omega arith)

-- A child as a block: its part of the pixels, all of them that lie in its region, and its place in the grid.
pub record ChildBlock (n : ℕ) (grid : Grid) (c : Block) (d : Cell) : Type 0 where
  pub part : Part (block_of d) c
  pub holds : (i j : ℕ) → Within c i j → Inside (region_in d) i j 0 → Within (block_of d) i j
  pub block : BlockOf n grid (block_of d)

ends_below : {w i n e x : ℕ} → Ends w i n e → x < w → x < i + n → x < e
ends_below {w} {i} {n} {x = x} k h l = rw k.least (lesser_both x w (i + n) h l)

-- The grid that ends where the block does.
abbrev own_grid : Grid → Block → Grid
own_grid grid c =
    record {
      width = c.xend;
      height = c.yend;
      depth = grid.depth;
      xorigin = grid.xorigin;
      yorigin = grid.yorigin;
      zorigin = grid.zorigin;
      xstep = grid.xstep;
      ystep = grid.ystep;
      zstep = grid.zstep;
    }

pub child_block : {grid : Grid} {c : Block} {s n m : ℕ} {d : Cell} → BlockOf s grid c → ChildOf (cell_of s c) n m d
    → ChildBlock n grid c d
child_block {grid} {c} {s} {n} {m} {d} k h =
    let w : Whole 1 (own_grid grid c) (cell_of s c) n =
    record {
      xs = record { in_grid = omega arith; whole = λ t. absurd (omega arith) };
      ys = record { in_grid = omega arith; whole = λ t. absurd (omega arith) };
      zs = record { in_grid = omega arith; whole = λ t. absurd (omega arith) };
    } in
    let o = h.cell 1 (own_grid grid c) w in
    let x = o.xs in
    let y = o.ys in
    record {
      part = record {
        x_from = omega (arith, h.at_x);
        x_to = x.in_grid;
        y_from = h.y_from;
        y_to = y.in_grid;
      };
      holds = λ i j v q.
          record {
            x_from = q.x_from;
            x_to = ends_below x v.x_to q.x_to;
            y_from = q.y_from;
            y_to = ends_below y v.y_to q.y_to;
          };
      block = record {
        in_grid = record {
          x_some = x.some;
          x_in = omega (arith, x.in_grid, k.in_grid.x_in);
          y_some = y.some;
          y_in = omega (arith, y.in_grid, k.in_grid.y_in);
        };
        x_few = omega (arith, x.in_side, h.side);
        y_few = omega (arith, y.in_side, h.side);
      };
    }

pub part_block : {grid : Grid} {c d : Block} {s n m : ℕ} → BlockOf s grid c → PartOf s n c m d → BlockOf n grid d
part_block k p = rw p.same (child_block k p.child).block

-- Before the blocks us of the block c.
pub record AtBlock (ws : List ℕ) (grid : Grid) (h : List ℕ) (win : Layers) (c : Block) (us : List Region)
    (b b' : List ℤ) : Type 0 where
  pub kept : (t : Tape) → Alike t ws grid h win c → (i j : ℕ) → i < grid.width → j < grid.height
      → Right t grid h b i j → Right t grid h b' i j
  pub done : (t : Tape) → Alike t ws grid h win c → (i j : ℕ) → Within c i j → Seen grid h win i j
      → Right t grid h b' i j ⊎ Some (λ q. Inside q i j 0) us
  pub size : length b' ≡ length b

some_empty : {i j : ℕ} (us : List Region) → us ≡ [] → Some (λ q. Inside q i j 0) us → ⊥
some_empty {i = i} {j = j} [] e s = elim s [ ]
some_empty (q ∷ us) e s = omega (arith, ap length e)

some_first : {i j : ℕ} {us ys : List Region} {q : Region} → us ≡ q ∷ ys → Some (λ q. Inside q i j 0) us
    → Inside q i j 0 ⊎ Some (λ q. Inside q i j 0) ys
some_first {i} {j} {us} {ys} {q} e s = by (rw e at s)
  where
    by : Some (λ q. Inside q i j 0) (q ∷ ys) → Inside q i j 0 ⊎ Some (λ q. Inside q i j 0) ys
    by (here p) = inl p
    by (there p) = inr p

module _ {ws : List ℕ} {grid : Grid} {h : List ℕ} {win : Layers} {c : Block} where
  pub blocks_begin : {s n : ℕ} (k : Parent (cell_of s c) n) (b : List ℤ)
      → AtBlock ws grid h win c (children_in (cell_of s c) n) b b
  blocks_begin {s} {n} k b =
      record {
        kept = λ t a i j x y r. r;
        done = λ t a i j w v.
            inr (rw (children_of k)
            (children_cover (ends_grid (cell_of s c)) (region_in (cell_of s c)) n k.count
            (record { positive = k.some; parts = k.parts; some_part = parent_some k }) i j 0
            (omega (arith, w, k.xs, k.ys, k.zs)) (omega (arith, w))));
        size = refl;
      }

  module _ (k : BlockIn grid c) {us : List Region} {b b₁ : List ℤ} (u : AtBlock ws grid h win c us b b₁) where
    -- The part d of the region q that lies in the block.
    blocks_next : {ys : List Region} {q : Region} {d : Block} {b₂ : List ℤ} → us ≡ q ∷ ys
        → ((i j : ℕ) → Within c i j → Inside q i j 0 → Within d i j) → Shading ws grid h win c d b₁ b₂
        → length b₂ ≡ length b₁ → AtBlock ws grid h win c ys b b₂
    blocks_next {ys} {q} {d} {b₂} e f s l =
        record {
          kept = λ t a i j x y r. (s.shades t a).kept i j x y (u.kept t a i j x y r);
          done = λ t a i j w v. by t a i j w v (u.done t a i j w v);
          size = l ∙ u.size;
        }
      where
        later : (t : Tape) → Alike t ws grid h win c → (i j : ℕ) → Within c i j → Seen grid h win i j
            → Inside q i j 0 ⊎ Some (λ q. Inside q i j 0) ys → Right t grid h b₂ i j ⊎ Some (λ q. Inside q i j 0) ys
        later t a i j w v (inl p) = inl ((s.shades t a).done i j (f i j w p) v)
        later t a i j w v (inr p) = inr p

        by : (t : Tape) → Alike t ws grid h win c → (i j : ℕ) → Within c i j → Seen grid h win i j
            → Right t grid h b₁ i j ⊎ Some (λ q. Inside q i j 0) us
            → Right t grid h b₂ i j ⊎ Some (λ q. Inside q i j 0) ys
        by t a i j w v (inl r) = inl ((s.shades t a).kept i j (omega (arith, w, k)) (omega (arith, w, k)) r)
        by t a i j w v (inr p) = later t a i j w v (some_first e p)

    all_done : us ≡ [] → Shading ws grid h win c c b b₁
    all_done e =
        record {
          shades = λ t a. record { kept = u.kept t a; done = λ i j w v. right t i j (u.done t a i j w v) };
        }
      where
        right : (t : Tape) (i j : ℕ) → Right t grid h b₁ i j ⊎ Some (λ q. Inside q i j 0) us → Right t grid h b₁ i j
        right t i j (inl r) = r
        right t i j (inr p) = absurd (some_empty us e p)

  -- A turn with child number m, and past the last one.
  module _ (s n m : ℕ) (k : BlockOf s grid c) {b b₁ : List ℤ}
      (u : AtBlock ws grid h win c (drop m (children_in (cell_of s c) n)) b b₁) where
    pub blocks_again : {d : Block} {b₂ : List ℤ} → PartOf s n c m d → Shading ws grid h win d d b₁ b₂
        → length b₂ ≡ length b₁ → AtBlock ws grid h win c (drop (m + 1) (children_in (cell_of s c) n)) b b₂
    blocks_again o v l =
        let d = child_block k o.child in
        rw add-one (blocks_next k.in_grid u o.child.next d.holds (shading_part d.part (rw o.same at v)) l)

    pub blocks_done : length (children_in (cell_of s c) n) ≤ m → Shading ws grid h win c c b b₁
    blocks_done l = all_done k.in_grid u (drop_of_length-le (children_in (cell_of s c) n) l)
