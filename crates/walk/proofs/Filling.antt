-- Filling a region and finding it hidden: one sample, and in a solid, where the picture's list is the heights.
use mathlib.Core.Path.{◌≡◌, refl}
use mathlib.Core.Bool.{Bool, true, false, ◌&&◌}
use mathlib.Core.List.{List}
use Prim.Native.Nat.{ℕ, ◌+◌, ◌*◌, ◌<◌}
use native.Mathlib.Nat.{add-sub_cancel_left}
use lib.Dec.{leb}
use lib.ListN.{get_or}
use Rattle.rules.specs.Drawings.{Grid, solid, Region, region, past_z}
use Rattle.rules.specs.Drawings.{raise_row, raise_rows, filled, hidden, row_high, rows_high}
use Rattle.walk.specs.Draws.{Fills, Raises, Same}
use Rattle.walk.proofs.Along.{part_one}

-- One sample.
pub fill_sample : {R : List ℕ → List ℕ → Type 0} {g : Grid} {x y z : ℕ} {b b' : List ℕ} → x < g.width → y < g.height
    → Raises R (y * g.width + x) 1 (past_z g (region x y z 1)) b b' → Fills R g (region x y z 1) b b'
unfolding filled raise_rows
fill_sample {R} {g} {x} {y} {z} h k u =
    record {
      shown = λ l r.
          rw (part_one g.width x h, part_one g.height y k)
          (rw (add-sub_cancel_left x 1, add-sub_cancel_left y 1) (u.shown l r));
    }

pub hidden_sample : (g : Grid) (x y z : ℕ) (l : List ℕ) → solid g ≡ true → x < g.width → y < g.height → z < g.depth
    → hidden g (region x y z 1) l ≡ leb (z + 1) (get_or l (y * g.width + x) 0)
unfolding hidden rows_high row_high
hidden_sample g x y z l e h k d =
    rw (e, part_one g.width x h, part_one g.height y k, part_one g.depth z d)
    (rw (add-sub_cancel_left x 1, add-sub_cancel_left y 1) (and_nothing (leb (z + 1) (get_or l (y * g.width + x) 0))))
  where
    and_nothing : (b : Bool) → ((b && true) && true) ≡ b
    and_nothing true = refl
    and_nothing false = refl

-- In a solid the picture's list is the heights.
pub fills_same : (g : Grid) (r : Region) (b : List ℕ) {b' : List ℕ} → b' ≡ filled g r b → Fills Same g r b b'
fills_same g r b e = record { shown = λ h k. record { same = rw (← k.same) e } }

pub raises_same : (p m z : ℕ) (b : List ℕ) {b' : List ℕ} → b' ≡ raise_row m p z b → Raises Same p m z b b'
raises_same p m z b e = record { shown = λ h k. record { same = rw (← k.same) e } }
