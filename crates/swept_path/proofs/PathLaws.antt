-- Positions in machine words, line 25 test by test, boxes and samples moved, and the hull of a list.
use mathlib.Core.Path.{◌≡◌, sym, ap, ap₂, ◌∙◌}
use mathlib.Core.Bool.{Bool, true, false, ◌&&◌, not}
use mathlib.Core.List.{List}
use lib.IntN.{ℤ, pos, ◌-ℤ◌}
use lib.Signed.{mag}
use Prim.Native.Nat.{ℕ, ◌+◌, ◌-◌, ◌^◌, ◌≤◌, ◌<◌}
use native.Mathlib.Omega.{arith}
use native.Mathlib.Numerals.{add-one}
use lib.ListN.{length, get_or, drop, drop_of_length-le}
use lib.Seq.{drop-cons}
use mir.Syntax.{w32}
use mir.Val.{SFits}
use mir.Facts.{to_z-of_z}
use Rattle.rules.specs.Values.{IsValue, difference, difference_range, Sample, Range, range, Box, when}
use Rattle.rules.specs.Drawings as D
use Rattle.rules.proofs.Words.{read}
use Rattle.rules.proofs.Monotone.{clamped_same}
use Rattle.rules.proofs.Grids.{accepted_sound}
use Rattle.picture.specs.Shapes.{grid_in}
use Rattle.picture.specs.declared.grid.Grid.{Grid}
use Rattle.picture.proofs.Grids.{accepted}
use Rattle.swept_rules.specs.Swept.{Offset, offset, offsets_of, whole_path, path_fault, moved_sample}
use Rattle.swept_rules.specs.Keeping.{ends_stay, corners_stay, path_corners, corner_fault, position_at, Hull, widened}
use Rattle.swept_rules.specs.Keeping.{hull_box, hull_from}
use Rattle.swept_rules.proofs.Paths.{accepted_sized, same_fault}
use Rattle.swept_path.specs.declared.path.Offset as declared-offset
use Rattle.swept_path.specs.Asked.{ForEnds, ForSample, SampleMoved, ForBox, BoxMoved}

-- What a position's type says of its offsets.
pub record Fit (o : declared-offset.Offset) : Type 0 where
  pub x : SFits w32 o.x
  pub y : SFits w32 o.y

pub fit : {A B : Type 0} {o : declared-offset.Offset} → (A × (mag o.x < 2 ^ 31)) × ((B × (mag o.y < 2 ^ 31)) × Unit {0})
    → Fit o
fit g = record { x = record { sfits = g.0.1 }; y = record { sfits = g.1.0.1 } }

-- The axis of a grid, handed over as words.
module _ {o s : ℤ} (fo : SFits w32 o) (fs : SFits w32 s) where
  pub for_ends : (n : ℕ) → 1 ≤ n → ((i : ℕ) → i < n → IsValue (D.at o s i)) → ForEnds (read w32 o) (read w32 s) n
  for_ends n l v =
      rw (to_z-of_z {w = w32} {z = o} fo, to_z-of_z {w = w32} {z = s} fs)
      (record { some = l; first = v 0 (omega arith); last = v (n - 1) (omega arith) })

  pub ends_read : (n : ℕ) {d : ℤ} → SFits w32 d → ends_stay (read w32 o) (read w32 s) n (read w32 d) ≡ ends_stay o s n d
  ends_read n {d} fd =
      rw (to_z-of_z {w = w32} {z = o} fo, to_z-of_z {w = w32} {z = s} fs, to_z-of_z {w = w32} {z = d} fd)

-- The positions from number k on.
pub corners_next : (g : D.Grid) (os : List Offset) (k : ℕ) → k < length os
    → path_corners g (drop k os) ≡ (corners_stay g (position_at os k) && path_corners g (drop (k + 1) os))
unfolding path_corners
corners_next g os k l = ap (path_corners g) (drop-cons os k (offset (pos 0) (pos 0)) l) ∙ rw add-one

pub corners_none : (g : D.Grid) (os : List Offset) (k : ℕ) → length os ≤ k → true ≡ path_corners g (drop k os)
unfolding path_corners
corners_none g os k l = ap (path_corners g) (sym (drop_of_length-le os l))

-- Line 25 by its tests.
module _ (grid : Grid) (zs : List ℤ) (e : D.grid_fault false (grid_in grid false) ≡ 0) where
  abbrev g : D.Grid
  g = grid_in grid false

  same : corner_fault g zs ≡ path_fault g zs
  same = sym (same_fault g zs (accepted_sound g false (accepted grid false e).kind e) (accepted_sized g e))

  pub path_told : {t : Bool} → (whole_path zs && path_corners g (offsets_of zs)) ≡ t → when (not t) 25 ≡ path_fault g zs
  unfolding corner_fault
  path_told u = ap (λ b. when (not b) 25) (sym u) ∙ same

-- What a position takes from numbers where the difference is a value.
pub less : (a b : ℤ) → IsValue (a -ℤ b) → difference a b ≡ a -ℤ b
unfolding difference
less a b v = clamped_same (a -ℤ b) v

samples : {a b c d f g : ℤ} → a ≡ b → c ≡ d → f ≡ g
    → ◌≡◌ {A = Sample} (record { x = a; y = c; z = f }) (record { x = b; y = d; z = g })
samples p q r = cc

boxes : {a b c d f g : Range} → a ≡ b → c ≡ d → f ≡ g
    → ◌≡◌ {A = Box} (record { xs = a; ys = c; zs = f }) (record { xs = b; ys = d; zs = g })
boxes p q r = cc

pub sample_moved : {s : Sample} {o : Offset} (r : Sample) → r.x ≡ difference s.x o.x
    → r.y ≡ difference s.y o.y → r.z ≡ s.z → ForSample s o → SampleMoved s o r
sample_moved {s} {o} r hx hy hz p =
    let e : r ≡ moved_sample o s = samples (hx ∙ less s.x o.x p.x) (hy ∙ less s.y o.y p.y) hz in
    record { same = e; ok = rw e (record { x = p.x; y = p.y; z = p.z }) }

less_range_lem : (r : Range) (a b : ℤ) → IsValue (r.low -ℤ b) → IsValue (r.high -ℤ a)
    → difference_range r (range a b) ≡ range (r.low -ℤ b) (r.high -ℤ a)
unfolding difference_range
less_range_lem r a b u v = ap₂ range (less r.low b u) (less r.high a v)

pub box_moved : {b : Box} {h : Hull} (r : Box) → r.xs ≡ difference_range b.xs (range h.least.x h.greatest.x)
    → r.ys ≡ difference_range b.ys (range h.least.y h.greatest.y) → r.zs ≡ b.zs → ForBox b h → BoxMoved b h r
box_moved {b} {h} r hx hy hz p =
    let m = p.moves in
    let e : r ≡ hull_box b h = boxes
    (hx ∙ less_range_lem b.xs h.least.x h.greatest.x m.x_low m.x_high)
    (hy ∙ less_range_lem b.ys h.least.y h.greatest.y m.y_low m.y_high) hz in
    record {
      same = e;
      ok = rw e
          (record {
            xs = record { low = m.x_low; high = m.x_high };
            ys = record { low = m.y_low; high = m.y_high };
            zs = p.zs;
          });
    }

-- A hull by its four numbers.
pub hulls : {a b c d a' b' c' d' : ℤ} → a ≡ a' → b ≡ b' → c ≡ c' → d ≡ d'
    → ◌≡◌ {A = Hull} (record { least = offset a b; greatest = offset c d })
    (record { least = offset a' b'; greatest = offset c' d' })
hulls p q r s = cc

-- The positions of a list from its m-th on, in the hull.
pub hull_next : (os : List Offset) (h : Hull) (ks : List ℕ) (m : ℕ) → m < length ks
    → hull_from os h (drop m ks) ≡ hull_from os (widened h (position_at os (get_or ks m 0))) (drop (m + 1) ks)
unfolding hull_from
hull_next os h ks m l = ap (hull_from os h) (drop-cons ks m 0 l) ∙ rw add-one

pub hull_all : (os : List Offset) (h : Hull) (ks : List ℕ) (m : ℕ) → length ks ≤ m → hull_from os h (drop m ks) ≡ h
unfolding hull_from
hull_all os h ks m l = ap (hull_from os h) (drop_of_length-le ks l)
