-- What tests say that came out as they must: two tests in one, a chain of refusals that refuses nothing, a pick.
use mathlib.Core.Path.{◌≡◌, refl}
use mathlib.Core.Bool.{Bool, true, false, ◌&&◌, ◌||◌, true≢false, and-eq-true_iff}
use Prim.Native.Nat.{ℕ, zero, suc}
use native.Mathlib.Omega.{arith}
use Rattle.rules.specs.Values.{pick, first_of, when}

pub and_left : (a b : Bool) → (a && b) ≡ true → a ≡ true
and_left a b e = ((and-eq-true_iff a b).0 e).0

pub and_right : (a b : Bool) → (a && b) ≡ true → b ≡ true
and_right a b e = ((and-eq-true_iff a b).0 e).1

pub or_left : (a b : Bool) → (a || b) ≡ false → a ≡ false
or_left true b e = absurd (true≢false e)
or_left false b e = refl

pub or_right : (a b : Bool) → (a || b) ≡ false → b ≡ false
or_right true b e = absurd (true≢false e)
or_right false b e = e

-- The first line of the chain does not hold, nor do those after it; the last one alone.
pub test_off : (b : Bool) (n m : ℕ) → first_of (when b (suc n)) m ≡ 0 → b ≡ false
test_off true n m e = absurd (omega arith)
test_off false n m e = refl

pub tests_after : (b : Bool) (n m : ℕ) → first_of (when b (suc n)) m ≡ 0 → m ≡ 0
tests_after true n m e = absurd (omega arith)
tests_after false n m e = e

pub last_off : (b : Bool) (n : ℕ) → when b (suc n) ≡ 0 → b ≡ false
last_off true n e = absurd (omega arith)
last_off false n e = refl

-- The first number that is not 0, where none is: both are 0.
pub first_zero : (a b : ℕ) → first_of a b ≡ 0 → (a ≡ 0) × (b ≡ 0)
first_zero zero b e = (refl, e)
first_zero (suc a) b e = absurd (omega arith)

-- What holds of both holds of the one that is picked.
pub of_pick : {A : Type 0} (P : A → Type 0) (t : Bool) {x y : A} → P x → P y → P (pick t x y)
of_pick P true h k = h
of_pick P false h k = k
