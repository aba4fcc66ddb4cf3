-- The tests of a grid's sizes and axes, one after the other as the code makes them, and the fault that they give.
use mathlib.Core.Path.{◌≡◌, refl, sym, ap}
use mathlib.Core.Bool.{Bool, true, false, ◌||◌, not, true≢false, false≢true}
use lib.IntN.{ℤ, pos, negsuc}
use lib.Signed.{lt_z, le_z}
use Prim.Native.Nat.{ℕ, suc}
use native.Mathlib.Omega.{arith}
use borrow.Author.Tests.{ltb-true, ltb-false, lt-ltb, le-ltb, le-leb, lt-leb}
use mir.Syntax.{w32}
use mir.Val.{SFits}
use Rattle.rules.specs.Values.{pick, below, reaches}
use Rattle.rules.specs.Drawings.{Grid, size_ok, axis_ok, sizes_ok, axes_ok, grid_fault}

-- The two tests of a value, and the test of a step.
pub too_low : (z : ℤ) → lt_z z (negsuc 2147483646) ≡ true → false ≡ reaches z
too_low (pos n) e = absurd (false≢true e)
too_low (negsuc n) e = sym (lt-leb (suc n) 2147483647 (omega (arith, ltb-true 2147483646 n e)))

pub not_low : (z : ℤ) → lt_z z (negsuc 2147483646) ≡ false → le_z z (pos 2147483647) ≡ reaches z
not_low (pos n) e = refl
not_low (negsuc n) e = sym (le-leb (suc n) 2147483647 (omega (arith, ltb-false 2147483646 n e)))

pub no_step : (s : ℤ) → lt_z s (pos 1) ≡ true → below (pos 0) s ≡ false
no_step (pos n) e = le-ltb 0 n (omega (arith, ltb-true n 1 e))
no_step (negsuc n) e = refl

pub step : (s : ℤ) → lt_z s (pos 1) ≡ false → below (pos 0) s ≡ true
step (pos n) e = lt-ltb 0 n (omega (arith, ltb-false n 1 e))
step (negsuc n) e = absurd (true≢false e)

pub step_value : (s : ℤ) → SFits w32 s → lt_z s (pos 1) ≡ false → reaches s ≡ true
step_value (pos n) f e = le-leb n 2147483647 (omega arith)
step_value (negsuc n) f e = absurd (true≢false e)

-- What only a solid has.
pub flat_size_lem : (t : Bool) (n : ℕ) → not t ≡ true → true ≡ (not t || size_ok (pick t n 0))
flat_size_lem t n e = ap (λ x. x || size_ok (pick t n 0)) (sym e)

pub solid_size_lem : (t : Bool) (n : ℕ) {r : Bool} → not t ≡ false → r ≡ size_ok n → r ≡ (not t || size_ok (pick t n 0))
solid_size_lem true n e h = h
solid_size_lem false n e h = absurd (true≢false e)

pub flat_axis : (t a : Bool) {b r : Bool} → not t ≡ true → r ≡ b → r ≡ pick t a b
flat_axis true a e h = absurd (false≢true e)
flat_axis false a e h = h

pub solid_axis : (t : Bool) (o s : ℤ) (n : ℕ) (b : Bool) {r : Bool} → not t ≡ false → r ≡ axis_ok o s n
    → r ≡ pick t (axis_ok o s (pick t n 0)) b
solid_axis true o s n b e h = h
solid_axis false o s n b e h = absurd (true≢false e)

-- The first fault, by the two tests.
module _ (t : Bool) (g : Grid) where
  pub size_fault_lem : sizes_ok t g ≡ false → 10 ≡ grid_fault t g
  unfolding grid_fault
  size_fault_lem e = rw e

  pub axis_fault : sizes_ok t g ≡ true → axes_ok t g ≡ false → 11 ≡ grid_fault t g
  unfolding grid_fault
  axis_fault e h = rw (e, h)

  pub no_fault_lem : sizes_ok t g ≡ true → axes_ok t g ≡ true → 0 ≡ grid_fault t g
  unfolding grid_fault
  no_fault_lem e h = rw (e, h)
