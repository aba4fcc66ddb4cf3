-- What a visit to a region does to each pixel: its height becomes the larger of the one before and of 1 + the greatest
-- z index with material in the region; pixels outside are untouched. Nothing here depends on the order of regions.
use mathlib.Core.Path.{◌≡◌, sym, ap, ◌∙◌}
use mathlib.Core.Bool.{true}
use mathlib.Core.List.{List, [], ◌∷◌}
use Prim.Native.Nat.{ℕ, ◌+◌, ◌-◌, ◌*◌, ◌/◌, ◌%◌, ◌≤◌, ◌<◌, max}
use native.Mathlib.Omega.{arith}
use native.Mathlib.Nat.{mul_comm}
use lib.Arith.{digits_lt, digits_div, digits_mod}
use lib.ListN.{length, get_or}
use Rattle.rules.specs.Tapes.{Tape, material}
use Rattle.rules.specs.Drawings.{Grid, sample_at, Region, past_z, State, over, visit, sides}
use Rattle.rules.proofs.Runs.{Good}
use Rattle.rules.proofs.Regions.{Begins, Steps, steps_sides, lesser_most}
use Rattle.rules.proofs.Grids.{Sound}
use Rattle.rules.proofs.Raised.{Raised}
use Rattle.rules.proofs.Pixels.{Pixel}
use Rattle.rules.proofs.Samples.{Hit, hit_pixel, pixel_hit}
use Rattle.rules.proofs.Columns.{top_from, top_above, top_least}
use Rattle.rules.proofs.Walk.{last_side, divided_long, visit_raised, sides_last}

-- 1 + the greatest z index with material in the region at the pixel (x, y), or 0 if there is none.
abbrev pub top_in : Tape → Grid → Region → ℕ → ℕ → ℕ
top_in t g r x y = top_from r.k (past_z g r - r.k) t g x y

pub record Visited (t : Tape) (g : Grid) (r : Region) (h h' : List ℕ) : Type 0 where
  pub size : length h' ≡ length h
  pub inside : (p : ℕ) (q : Pixel g r p) → get_or h' p 0 ≡ max (get_or h p 0) (top_in t g r q.x q.y)
  pub outside : (p : ℕ) → p < length h → (Pixel g r p → ⊥) → get_or h' p 0 ≡ get_or h p 0

-- A place is one pixel's.
pub same_pixel : (w x y x' y' : ℕ) → x < w → x' < w → y * w + x ≡ y' * w + x' → (x ≡ x') × (y ≡ y')
same_pixel w x y x' y' h k e = (
  sym (digits_mod y h) ∙ ap (λ p. p % w) e ∙ digits_mod y' k,
  sym (digits_div y h) ∙ ap (λ p. p / w) e ∙ digits_div y' k,
)

-- A sample of a region at one of its pixels is a layer with material there.
module _ (t : Tape) (g : Grid) (r : Region) (p : ℕ) (q : Pixel g r p) where
  hit_layer : (z : ℕ) → Hit t g r p z
      → (r.k ≤ z) × (z < past_z g r) × (material t (sample_at g q.x q.y z) ≡ true)
  hit_layer z i =
      let u = lesser_most g.width (r.i + r.long) in
      let s = same_pixel g.width q.x q.y i.x i.y (omega arith) i.in_grid.x_in
      (sym q.place ∙ i.place) in
      (i.inside.z_from, (hit_pixel i).1, rw (s.0, s.1) i.has)

  -- A pixel of the region lies in the picture.
  pixel_place : p < g.width * g.height
  pixel_place =
      let u = lesser_most g.width (r.i + r.long) in
      let v = lesser_most g.height (r.j + r.long) in
      let x : q.x < g.width = omega arith in
      let y : q.y < g.height = omega arith in
      omega (arith, q.place, digits_lt y x, mul_comm g.width g.height)

pub raised_visited : {t : Tape} {g : Grid} {r : Region} {h h' : List ℕ} → 1 ≤ r.long
    → length h ≡ g.width * g.height → Raised (Hit t g r) h h' → Visited t g r h h'
raised_visited {t} {g} {r} {h} {h'} l e a =
    record {
      size = a.size;
      inside = λ p q. at p q;
      outside = λ p m n. omega
          (arith, a.from p m, a.least p (get_or h p 0) m (omega arith) (λ z i. absurd (n (hit_pixel i).0)));
    }
  where
    at : (p : ℕ) (q : Pixel g r p) → get_or h' p 0 ≡ max (get_or h p 0) (top_in t g r q.x q.y)
    at p q =
        let m : p < length h = omega (arith, pixel_place t g r p q) in
        let n = past_z g r - r.k in
        let top = top_in t g r q.x q.y in
        let under = top_least r.k n t g q.x q.y (get_or h' p 0)
        (λ z i k s. a.above p z m (pixel_hit q l z i (omega arith) s)) in
        let most = a.least p (max (get_or h p 0) top) m (omega arith)
        (λ z i. let s = hit_layer t g r p q z i in
        omega (arith, top_above r.k n t g q.x q.y z s.0 (omega arith) s.2)) in
        omega (arith, a.from p m)

-- The sides of a walk are at least 1.
side_positive : (ns : List ℕ) (a : ℕ) → Steps a ns → last_side a ns ≡ 1 → (r : Region) → r.long ≡ a → 1 ≤ r.long
side_positive [] a d o r e = omega arith
side_positive (n ∷ ns) a d o r e = divided_long r n (over a n) (d.0 r e)

pub visit_pixels : (ns : List ℕ) (a : ℕ) → Steps a ns → last_side a ns ≡ 1 → (g : Grid) → Sound g → (t : Tape) → Good t
    → (r : Region) → Begins g r → r.long ≡ a → (s : State) → length s.heights ≡ g.width * g.height
    → Visited t g r s.heights (visit ns t g r s).heights
visit_pixels ns a d o g sound t good r b e s k =
    raised_visited (side_positive ns a d o r e) k (visit_raised ns a d o g sound t good r b e s)

-- A visit to a 64-tile.
pub tile_pixels : (g : Grid) → Sound g → (t : Tape) → Good t → (r : Region) → Begins g r → r.long ≡ 64
    → (s : State) → length s.heights ≡ g.width * g.height
    → Visited t g r s.heights (visit (sides g) t g r s).heights
tile_pixels g sound t good r b e s k =
    visit_pixels (sides g) 64 (steps_sides g) (sides_last g) g sound t good r b e s k
