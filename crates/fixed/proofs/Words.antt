-- Whole numbers as machine words: what is written is read back, and what fits in 64 bits.
use mathlib.Core.Path.{◌≡◌, refl, ap, ◌∙◌}
use mathlib.Core.Bool.{Bool, true, false}
use lib.IntN.{ℤ, pos, negsuc, neg_ℤ, nat_abs, sub_ℕ, ◌+ℤ◌, ◌-ℤ◌, ◌*ℤ◌, +ℤ_idl}
use lib.Signed.{mag}
use lib.Dec.{ltb}
use Prim.Native.Nat.{ℕ, zero, suc, ◌+◌, ◌*◌, ◌<◌, ◌≤◌, ◌^◌}
use native.Mathlib.Omega.{arith}
use borrow.Author.Tests.{ltb-true, ltb-false}
use mir.Syntax.{Width, w32, w64}
use mir.Val.{SFits, hbits}
use mir.Facts.{to_z-of_z}
use Rattle.rules.specs.Values.{IsValue}
pub use Rattle.rules.proofs.Words.{read, wide, read_wide, read_fits, back, both, tested}

pub read_value : {z : ℤ} → SFits w32 z → IsValue z → IsValue (read w32 z)
read_value {z} f h = rw (to_z-of_z {w = w32} {z = z} f) h

-- A call's result, where what the call took is known to be something else, as it is where that was read from words.
pub back_one : (w : Width) (op : ℤ → ℤ) (r : ℤ) {x a : ℤ} → mag r < 2 ^ hbits w → r ≡ op x → x ≡ a → read w r ≡ op a
back_one w op r h e ea = back w r h (e ∙ ap op ea)

pub back_two : {A B : Type 0} (w : Width) (op : A → B → ℤ) (r : ℤ) {x a : A} {y b : B} → mag r < 2 ^ hbits w
    → r ≡ op x y
    → x ≡ a → y ≡ b → read w r ≡ op a b
back_two w op r h e ea eb = back w r h (e ∙ both op ea eb)

-- An operation on two numbers that were widened.
module _ (op : ℤ → ℤ → ℤ) {a b : ℤ} (fa : SFits w32 a) (fb : SFits w32 b) (f : SFits w64 (op a b)) where
  wide_same : op (wide a) (wide b) ≡ op a b
  wide_same = both op (read_wide fa) (read_wide fb)

  pub wide_fits : SFits w64 (op (wide a) (wide b))
  wide_fits = rw wide_same f

  pub wide_op : read w64 (op (wide a) (wide b)) ≡ op a b
  wide_op = ap (read w64) wide_same ∙ to_z-of_z f

-- Sums, differences and products of two numbers of 32 bits fit in 64.
mag_sub : (a b : ℕ) → mag (sub_ℕ a b) ≤ a + b
mag_sub a b = by_test_lem (ltb a b) refl
  where
    by_test_lem : (t : Bool) → ltb a b ≡ t → mag (sub_ℕ a b) ≤ a + b
    by_test_lem true e = rw e (omega (arith, ltb-true a b e))
    by_test_lem false e = rw e (omega (arith, ltb-false a b e))

mag_neg : (n : ℕ) → mag (neg_ℤ (pos n)) ≤ n
mag_neg zero = omega arith
mag_neg (suc n) = omega arith

pub nat_abs_fits : {z : ℤ} → SFits w32 z → nat_abs z ≤ 2147483648
nat_abs_fits {z = pos n} f = omega arith
nat_abs_fits {z = negsuc n} f = omega arith

mag_sum : (a b : ℤ) → mag (a +ℤ b) ≤ nat_abs a + nat_abs b
mag_sum (pos a) (pos b) = omega arith
mag_sum (pos a) (negsuc b) = mag_sub a (suc b)
mag_sum (negsuc a) (pos b) = omega (arith, mag_sub b (suc a))
mag_sum (negsuc a) (negsuc b) = omega arith

pub nat_abs_neg : (z : ℤ) → nat_abs (neg_ℤ z) ≡ nat_abs z
nat_abs_neg (pos zero) = refl
nat_abs_neg (pos (suc n)) = refl
nat_abs_neg (negsuc n) = refl

pub mag_product : (a b : ℤ) → mag (a *ℤ b) ≤ nat_abs a * nat_abs b
mag_product (pos a) (pos b) = omega arith
mag_product (pos a) (negsuc b) = mag_neg (a * suc b)
mag_product (negsuc a) (pos b) = mag_neg (suc a * b)
mag_product (negsuc a) (negsuc b) = omega arith

module _ {a b : ℤ} (fa : SFits w32 a) (fb : SFits w32 b) where
  pub difference_fits : SFits w64 (a -ℤ b)
  difference_fits = omega (arith, mag_sum a (neg_ℤ b), nat_abs_neg b, nat_abs_fits fa, nat_abs_fits fb)

-- The negative of a number of 32 bits.
pub negated_wide : (z : ℤ) → SFits w32 z → SFits w64 (neg_ℤ z)
negated_wide (pos zero) h = omega arith
negated_wide (pos (suc n)) h = omega arith
negated_wide (negsuc n) h = omega arith

-- It is what y, which is a, leaves of 0.
module _ {w : Width} {y a : ℤ} (e : y ≡ a) (f : SFits w (neg_ℤ a)) where
  zero_less : pos 0 -ℤ y ≡ neg_ℤ a
  zero_less = +ℤ_idl (neg_ℤ y) ∙ ap neg_ℤ e

  pub negate_fits : SFits w (pos 0 -ℤ y)
  negate_fits = rw zero_less f

  pub negate_is : read w (pos 0 -ℤ y) ≡ neg_ℤ a
  negate_is = ap (read w) zero_less ∙ to_z-of_z f
