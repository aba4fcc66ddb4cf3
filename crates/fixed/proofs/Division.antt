-- Division rounded down, by an unsigned one: of a number below 0 the size less one goes in, and comes back so.
use mathlib.Core.Path.{◌≡◌, refl, sym, ap, ◌∙◌}
use mathlib.Core.Bool.{Bool}
use lib.IntN.{ℤ, pos, negsuc, neg_ℤ, nat_abs, ◌*ℤ◌}
use lib.Signed.{lt_z, mag}
use Prim.Native.Nat.{zero, suc, ◌<◌, ◌≤◌, ◌^◌}
use native.Mathlib.Omega.{arith}
use mir.Syntax.{Width, w32, w64}
use mir.Val.{SFits, of_z}
use mir.Facts.{to_z-of_z}
use Rattle.rules.specs.Values.{pick, is_neg, clamped, fraction, end_of, quotient}
use Rattle.fixed.proofs.Words.{read, back_two, nat_abs_fits, nat_abs_neg, mag_product}
use Rattle.fixed.proofs.Ends.{negative}

-- A choice by a test of the sign of a word is the choice by the number's sign.
sign : {w : Width} {n : ℤ} (t : Bool) → SFits w n → lt_z (read w n) (pos 0) ≡ t → t ≡ is_neg n
sign {w} {n} t f e = sym e ∙ ap (λ z. lt_z z (pos 0)) (to_z-of_z {w = w} {z = n} f) ∙ negative n

pub by_sign_lem : {w : Width} {n r : ℤ} (x y : ℤ) (t : Bool) → SFits w n → lt_z (read w n) (pos 0) ≡ t → r ≡ pick t x y
    → r ≡ pick (is_neg n) x y
by_sign_lem x y t f e h = h ∙ ap (λ s. pick s x y) (sign t f e)

-- Both numbers with their signs changed where the divisor is below 0: the divisor is then its size.
abbrev signed : ℤ → ℤ → ℤ
signed b x = pick (is_neg b) (neg_ℤ x) x

signed_self : (b : ℤ) → signed b b ≡ pos (nat_abs b)
signed_self (pos n) = refl
signed_self (negsuc n) = refl

signed_size : (b a : ℤ) → SFits w32 a → nat_abs (signed b a) ≤ 2147483648
signed_size (pos b) a f = nat_abs_fits f
signed_size (negsuc b) a f = rw (nat_abs_neg a) (nat_abs_fits f)

module _ {b x : ℤ} (fb : SFits w32 b) (fx : SFits w32 x) (n : ℤ) (fn : mag n < 2 ^ 63)
    (en : n ≡ signed (read w32 b) (read w32 x)) where
  signed_is : read w64 n ≡ signed b x
  signed_is = back_two w64 signed n fn en (to_z-of_z fb) (to_z-of_z fx)

  pub scaled_fits : SFits w64 (read w64 n *ℤ pos 65536)
  scaled_fits = rw signed_is (omega (arith, mag_product (signed b x) (pos 65536), signed_size b x fx))

  pub scaled : read w64 (read w64 n *ℤ pos 65536) ≡ signed b x *ℤ pos 65536
  scaled = to_z-of_z scaled_fits ∙ ap (λ z. z *ℤ pos 65536) signed_is

module _ {b : ℤ} (f : SFits w32 b) (d : ℤ) (fd : mag d < 2 ^ 63) (ed : d ≡ signed (read w32 b) (read w32 b)) where
  divisor_is : read w64 d ≡ pos (nat_abs b)
  divisor_is = signed_is f f d fd ed ∙ signed_self b

  pub divisor_size : nat_abs (read w64 d) ≡ nat_abs b
  divisor_size = ap nat_abs divisor_is

-- The quotient, by the test whether the divisor's word is 0.
pub above_none : (b : ℤ) → (of_z w32 b ≡ 0 → ⊥) → 0 < nat_abs b
above_none (pos zero) h = absurd (h refl)
above_none (pos (suc n)) h = omega arith
above_none (negsuc n) h = omega arith

pub of_fraction : (a b : ℤ) → 0 < nat_abs b → clamped (fraction (signed b a) (nat_abs b)) ≡ quotient a b
unfolding quotient
of_fraction a (pos zero) h = absurd (omega arith)
of_fraction a (pos (suc b)) h = refl
of_fraction a (negsuc b) h = refl

pub by_none : (a b : ℤ) → SFits w32 b → of_z w32 b ≡ 0 → end_of a ≡ quotient a b
unfolding quotient
by_none a (pos zero) f e = refl
by_none a (pos (suc n)) f e = absurd (omega arith)
by_none a (negsuc n) f e = absurd (omega arith)
