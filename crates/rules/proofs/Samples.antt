-- The samples of a region that have material: what filling or passing over the region means by them, and when it is
-- right.
use mathlib.Core.Path.{◌≡◌, ap, sym, ◌∙◌}
use mathlib.Core.Bool.{Bool, true, false, false≢true}
use mathlib.Core.List.{List}
use Prim.Native.Nat.{ℕ, ◌+◌, ◌-◌, ◌*◌, ◌≤◌, ◌<◌}
use native.Mathlib.Omega.{arith}
use Rattle.rules.specs.Values.{pick, is_neg}
use Rattle.rules.specs.Tapes.{Tape, value_at, material, range_over}
use Rattle.rules.specs.Drawings.{Grid, solid, sample_at, Region, lesser, past_z, box_of, hidden, filled, short_tape}
use Rattle.rules.proofs.Order.{Holds, under_negative, above_natural}
use Rattle.rules.proofs.Runs.{Good, in_range}
use Rattle.rules.proofs.Short.{short_value}
use Rattle.rules.proofs.Regions.{Inside, InGrid, Begins, lesser_most, lesser_both, layer_in, layer_past}
use Rattle.rules.proofs.Raised.{Raised, Topped, unchanged, same_tops}
use Rattle.rules.proofs.Pixels.{Pixel, fill_raised, hidden_high}
use Rattle.rules.proofs.Grids.{Sound, box_holds}

-- A sample of the region with material, in layer z of the pixel at place p.
pub record Hit (t : Tape) (g : Grid) (r : Region) (p z : ℕ) : Type 0 where
  pub x : ℕ
  pub y : ℕ
  pub place : p ≡ y * g.width + x
  pub inside : Inside r x y z
  pub in_grid : InGrid g x y z
  pub has : material t (sample_at g x y z) ≡ true

-- All samples of a region have material, or none.
pub record Full (t : Tape) (g : Grid) (r : Region) : Type 0 where
  pub all : (x y z : ℕ) → Inside r x y z → InGrid g x y z → material t (sample_at g x y z) ≡ true

pub record Empty (t : Tape) (g : Grid) (r : Region) : Type 0 where
  pub none : (x y z : ℕ) → Inside r x y z → InGrid g x y z → material t (sample_at g x y z) ≡ false

-- A sample is at a pixel of its region, below the region's end.
pub hit_pixel : {t : Tape} {g : Grid} {r : Region} {p z : ℕ} → Hit t g r p z → Pixel g r p × (z < past_z g r)
hit_pixel {t} {g} {r} {p} {z} h =
    let i : Inside r h.x h.y z = h.inside in
    let k : InGrid g h.x h.y z = h.in_grid in (
      record {
        x = h.x;
        y = h.y;
        place = h.place;
        x_from = i.x_from;
        x_to = lesser_both h.x g.width (r.i + r.long) k.x_in i.x_to;
        y_from = i.y_from;
        y_to = lesser_both h.y g.height (r.j + r.long) k.y_in i.y_to;
      },
      layer_past (solid g) z g.depth (r.k + r.long) k.z_in i.z_to,
    )

-- The region's layers at one of its pixels are in the region and in the grid, flat and solid alike.
layer_most : (b : Bool) (d e : ℕ) → 1 ≤ e → pick b (lesser d e) 1 ≤ e
layer_most true d e h = (lesser_most d e).1
layer_most false d e h = h

pub pixel_inside : {g : Grid} {r : Region} {p : ℕ} (q : Pixel g r p) → 1 ≤ r.long → (z : ℕ) → r.k ≤ z → z < past_z g r
    → Inside r q.x q.y z × InGrid g q.x q.y z
pixel_inside {g} {r} {p} q l z h k =
    let u = lesser_most g.width (r.i + r.long) in
    let v = lesser_most g.height (r.j + r.long) in
    let n = layer_most (solid g) g.depth (r.k + r.long) (omega arith) in
    let o = layer_in (solid g) z g.depth (r.k + r.long) k in
    (omega arith, omega arith)

pub pixel_hit : {t : Tape} {g : Grid} {r : Region} {p : ℕ} (q : Pixel g r p) → 1 ≤ r.long → (z : ℕ) → r.k ≤ z
    → z < past_z g r → material t (sample_at g q.x q.y z) ≡ true → Hit t g r p z
pixel_hit q l z h k m =
    let i = pixel_inside q l z h k in
    record { x = q.x; y = q.y; place = q.place; inside = i.0; in_grid = i.1; has = m }

full_top : {t : Tape} {g : Grid} {r : Region} → Full t g r → Begins g r → 1 ≤ r.long → (p z : ℕ)
    → Pixel g r p × (z < past_z g r) → Topped (Hit t g r) p z
full_top {t} {g} {r} f b l p z h =
    let q : Pixel g r p = h.0 in
    let m = layer_past (solid g) r.k g.depth (r.k + r.long) b.z_in (omega arith) in
    let low : r.k ≤ past_z g r - 1 = omega arith in
    let past : past_z g r - 1 < past_z g r = omega arith in
    let i = pixel_inside q l (past_z g r - 1) low past in
    record {
      layer = past_z g r - 1;
      is_in_lem = pixel_hit q l (past_z g r - 1) low past (f.all q.x q.y (past_z g r - 1) i.0 i.1);
      high = omega arith;
    }

pub fill_full : {t : Tape} {g : Grid} {r : Region} → Full t g r → Begins g r → 1 ≤ r.long → (h : List ℕ)
    → Raised (Hit t g r) h (filled g r h)
fill_full {t} {g} {r} f b l h =
    same_tops (fill_raised g r h) (full_top f b l)
    (λ p z i. record { layer = z; is_in_lem = hit_pixel i; high = omega arith })

pub skip_empty : {t : Tape} {g : Grid} {r : Region} → Empty t g r → (h : List ℕ) → Raised (Hit t g r) h h
skip_empty e h =
    unchanged h (λ p z i. absurd (false≢true (sym (e.none i.x i.y z i.inside i.in_grid) ∙ i.has)))

pub skip_hidden : {t : Tape} {g : Grid} {r : Region} (h : List ℕ) → hidden g r h ≡ true → Raised (Hit t g r) h h
skip_hidden {t} {g} {r} h e =
    unchanged h (λ p z i. omega (arith, hidden_high g r h e p (hit_pixel i).0, (hit_pixel i).1))

-- What the run over ranges says of every sample of a region.
module _ {t : Tape} (good : Good t) {g : Grid} (a : Sound g) (r : Region) where
  holds : (x y z : ℕ) → Inside r x y z → InGrid g x y z → Holds (range_over t (box_of g r)) (value_at t (sample_at g x y z))
  holds x y z i k = in_range t good (box_of g r) (sample_at g x y z) (box_holds a r x y z i k)

  pub high_full : is_neg (range_over t (box_of g r)).high ≡ true → Full t g r
  unfolding material
  high_full e = record { all = λ x y z i k. under_negative (holds x y z i k).under e }

  pub low_empty : is_neg (range_over t (box_of g r)).low ≡ false → Empty t g r
  unfolding material
  low_empty e = record { none = λ x y z i k. above_natural (holds x y z i k).above e }

  pub short_material : (x y z : ℕ) → Inside r x y z → InGrid g x y z
      → material (short_tape t g r) (sample_at g x y z) ≡ material t (sample_at g x y z)
  unfolding material
  short_material x y z i k = ap is_neg (short_value t good (box_of g r) (sample_at g x y z) (box_holds a r x y z i k))

-- A region of side 1 is one sample.
one_sample : (g : Grid) (r : Region) → r.long ≡ 1 → (x y z : ℕ) → Inside r x y z
    → sample_at g x y z ≡ sample_at g r.i r.j r.k
one_sample g r e x y z i =
    let p : x ≡ r.i = omega arith in
    let q : y ≡ r.j = omega arith in
    let s : z ≡ r.k = omega arith in
    rw (p, q, s)

pub one_full : (t : Tape) (g : Grid) (r : Region) → r.long ≡ 1 → material t (sample_at g r.i r.j r.k) ≡ true
    → Full t g r
one_full t g r e m = record { all = λ x y z i k. ap (material t) (one_sample g r e x y z i) ∙ m }

pub one_empty : (t : Tape) (g : Grid) (r : Region) → r.long ≡ 1 → material t (sample_at g r.i r.j r.k) ≡ false
    → Empty t g r
one_empty t g r e m = record { none = λ x y z i k. ap (material t) (one_sample g r e x y z i) ∙ m }
