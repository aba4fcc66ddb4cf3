-- Tiles set one after another.
use mathlib.Core.Path.{◌≡◌, refl, sym, ap, ◌∙◌}
use mathlib.Core.Bool.{Bool, true, false}
use mathlib.Core.List.{List}
use Prim.Native.Nat.{ℕ, ◌+◌, ◌*◌, ◌<◌}
use native.Mathlib.Omega.{arith}
use lib.Bits.{bit_or}
use lib.Dec.{ltb}
use lib.ListN.{length, get_or, set}
use lib.Seq.{get_or-set_same, get_or-set_other}
use borrow.Author.Tests.{ltb-true, ltb-false}
use Rattle.rules.specs.Values.{when, is_neg}
use Rattle.rules.specs.Tapes.{Tape, range_over}
use Rattle.rules.specs.Drawings as D
use Rattle.rules.specs.Drawings.{Region, box_of}
use Rattle.rules.specs.Pictures.{stride}
use Rattle.rules.specs.Accepted.{Accepted}
use Rattle.code.specs.Words.{tape_in}
use Rattle.picture.specs.Shapes.{grid_in}
use Rattle.picture.specs.declared.grid.Grid.{Grid}
use Rattle.patches.specs.Patches.{PartSet}
use Rattle.walk.specs.Cells.{region_in}
use Rattle.walk.specs.declared.cell.Cell.{Cell}
use Rattle.plate_rules.specs.Plate.{touched}
use Rattle.plate_tiles.specs.Tiles.{Sized, tile_numbered, number_of, IsTile, MarkedBy, Turn, Marked, TilesSet}
use Rattle.plate_tiles.specs.Joins.{drawn_bits, with_part}
use Rattle.plate_tiles.proofs.TileNumbers.{in_tile, of_cell}

-- A turn without a mark, and one with it: the bytes of its cell.
pub no_turn : (grid : Grid) (m mark : ℕ) (f : ℕ → ℕ) (b : List ℕ) → mark ≡ 0 → TilesSet grid (Turn m mark) f b b
no_turn grid m mark f b e =
    record { inside = λ y c l o t. absurd (t.on e); outside = λ y c l o n. refl }

pub cell_turn : {grid : Grid} → Sized grid → {m : ℕ} {k : Cell} → IsTile grid m k → (mark : ℕ)
    → (mark ≡ 0 → ⊥) → (f g : ℕ → ℕ) → {b b' : List ℕ}
    → PartSet grid.width k.x k.xend k.y k.yend f b b'
    → ((y c : ℕ) → y < grid.height → c < stride grid.width → number_of grid y c ≡ m
    → f (y * stride grid.width + c) ≡ g (y * stride grid.width + c))
    → TilesSet grid (Turn m mark) g b b'
cell_turn s t mark on f g p same =
    record {
      inside = λ y c l o i. p.inside y c o (in_tile s y c l o t i.this) ∙ same y c l o i.this;
      outside = λ y c l o n. p.outside.bytes y c o (λ i. n (record { this = of_cell s y c l o t i; on = on }));
    }

-- No tiles, and the next one.
pub none_set : (grid : Grid) (marks : List ℕ) (f : ℕ → ℕ) (b : List ℕ) → TilesSet grid (Marked marks 0) f b b
none_set grid marks f b =
    record { inside = λ y c l o t. absurd (omega (arith, t.below)); outside = λ y c l o n. refl }

module _ {grid : Grid} {marks : List ℕ} {m : ℕ} (f : ℕ → ℕ) {b c : List ℕ}
    (k : TilesSet grid (Marked marks m) f b c) where
  -- The bytes of the next tile are still as they came.
  pub tile_next : (y x : ℕ) → y < grid.height → x < stride grid.width → number_of grid y x ≡ m
      → get_or c (y * stride grid.width + x) 0 ≡ get_or b (y * stride grid.width + x) 0
  tile_next y x l o e = k.outside y x l o (λ t. omega (arith, t.below, e))

  pub next_set : (f' : ℕ → ℕ) {d : List ℕ} → TilesSet grid (Turn m (get_or marks m 0)) f' c d
      → ((y x : ℕ) → y < grid.height → x < stride grid.width → number_of grid y x ≡ m
      → f' (y * stride grid.width + x) ≡ f (y * stride grid.width + x))
      → TilesSet grid (Marked marks (m + 1)) f b d
  next_set f' {d} t same =
      record {
        inside = λ y x l o i. at y x l o i (ltb (number_of grid y x) m) refl;
        outside = λ y x l o n.
            t.outside y x l o (λ i. n (record { below = omega (arith, i.this); on = marked y x i }))
            ∙ k.outside y x l o (λ i. n (record { below = omega (arith, i.below); on = i.on }));
      }
    where
      marked : (y x : ℕ) → Turn m (get_or marks m 0) (number_of grid y x) → get_or marks (number_of grid y x) 0 ≡ 0 → ⊥
      marked y x i z = i.on (ap (λ j. get_or marks j 0) (sym i.this) ∙ z)

      at : (y x : ℕ) → y < grid.height → x < stride grid.width → Marked marks (m + 1) (number_of grid y x)
          → (v : Bool) → ltb (number_of grid y x) m ≡ v
          → get_or d (y * stride grid.width + x) 0 ≡ f (y * stride grid.width + x)
      at y x l o i true e =
          let n = ltb-true (number_of grid y x) m e in
          t.outside y x l o (λ j. omega (arith, j.this, n))
          ∙ k.inside y x l o (record { below = n; on = i.on })
      at y x l o i false e =
          let n = ltb-false (number_of grid y x) m e in
          let z : number_of grid y x ≡ m = omega (arith, n, i.below) in
          t.inside y x l o (record { this = z; on = λ u. i.on (ap (λ j. get_or marks j 0) z ∙ u) })
          ∙ same y x l o z

pub next_clear : {grid : Grid} {marks : List ℕ} {m : ℕ} (f : ℕ → ℕ) {b c d : List ℕ}
    → TilesSet grid (Marked marks m) f b c → TilesSet grid (Turn m (get_or marks m 0)) f c d
    → TilesSet grid (Marked marks (m + 1)) f b d
next_clear f k t = next_set f k f t (λ y x l o e. refl)

pub next_joined : {grid : Grid} {marks : List ℕ} {m : ℕ} (t : Tape) (b c : List ℕ) {d : List ℕ}
    → TilesSet grid (Marked marks m) (with_part b t grid) b c
    → TilesSet grid (Turn m (get_or marks m 0)) (with_part c t grid) c d
    → TilesSet grid (Marked marks (m + 1)) (with_part b t grid) b d
next_joined {grid} t b c k u =
    next_set (with_part b t grid) k (with_part c t grid) u (λ y x l o e.
    ap (λ v. bit_or v (get_or (drawn_bits t grid) (y * stride grid.width + x) 0))
    (tile_next (with_part b t grid) k y x l o e))

-- Marks.
pub touch : (t : Tape) (g : D.Grid) (r : Region) (b : Bool) → is_neg (range_over t (box_of g r)).low ≡ b
    → when b 1 ≡ when (touched t g r) 1
unfolding touched
touch t g r b e = ap (λ v. when v 1) (sym e)

pub none_marked : (code : List ℕ) (grid : Grid) (marks : List ℕ) → MarkedBy code grid 0 marks
none_marked code grid marks = record { each = λ n a m l. absurd (omega arith) }

pub next_marked : {code : List ℕ} {grid : Grid} {k : ℕ} {marks : List ℕ} → MarkedBy code grid k marks
    → k < length marks → {c : Cell} → IsTile grid k c → (v : ℕ)
    → ((n : ℕ) → Accepted (tape_in n code) → v ≡ when (touched (tape_in n code) (grid_in grid false) (region_in c)) 1)
    → MarkedBy code grid (k + 1) (set marks k v)
next_marked {code} {grid} {k} {marks} i l {c} t v e =
    record { each = λ n a m o. at n a m o (ltb m k) refl }
  where
    at : (n : ℕ) → Accepted (tape_in n code) → (m : ℕ) → m < k + 1 → (b : Bool) → ltb m k ≡ b
        → get_or (set marks k v) m 0 ≡ when (touched (tape_in n code) (grid_in grid false) (tile_numbered grid m)) 1
    at n a m o true h =
        let p = ltb-true m k h in
        get_or-set_other marks k m v 0 (λ z. omega (arith, z, p)) ∙ i.each n a m p
    at n a m o false h =
        let p = ltb-false m k h in
        let z : m ≡ k = omega (arith, p, o) in
        rw z (get_or-set_same marks k v 0 l
        ∙ e n a ∙ ap (λ r. when (touched (tape_in n code) (grid_in grid false) r) 1) t.cell.same)
