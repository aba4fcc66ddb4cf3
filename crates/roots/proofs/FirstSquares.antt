-- The square of the first estimate against the number, in natural numbers alone.
-- g stands for 2^42, h for half of the number's digits, from 2^51 up to 2^52, and n for all of them, 2·h or 2·h + 1.
use mathlib.Core.Path.{◌≡◌, refl, subst}
use Prim.Native.Nat.{ℕ, ◌+◌, ◌-◌, ◌*◌, ◌≤◌}
use native.Mathlib.Nat.{add-sub_of_le, mul-le-mul_left}
use native.Mathlib.Omega.{arith}
use mathlib.Core.Bool.{Bool, true, false}
use lib.Dec.{ltb}
use borrow.Author.Tests.{ltb-true, ltb-false}

-- a square lies above its tangent
tangent : (x p : ℕ) → 2 * (p * x) ≤ x * x + p * p
tangent x p = by (ltb x p) refl
  where
    up : (d : ℕ) → 2 * ((x + d) * x) ≤ x * x + (x + d) * (x + d)
    up d = omega arith

    down : (d : ℕ) → 2 * (p * (p + d)) ≤ (p + d) * (p + d) + p * p
    down d = omega arith

    by : (t : Bool) → ltb x p ≡ t → 2 * (p * x) ≤ x * x + p * p
    by true e =
        let l = ltb-true x p e in
        let k : x ≤ p = omega arith in
        subst (λ (y : ℕ). 2 * (y * x) ≤ x * x + y * y) (add-sub_of_le k) (up (p - x))
    by false e =
        let k = ltb-false x p e in
        subst (λ (y : ℕ). 2 * (p * y) ≤ y * y + p * p) (add-sub_of_le k) (down (x - p))

-- between two ends it lies below its chord
chord : (x a b : ℕ) → a ≤ x → x ≤ b → x * x + a * b ≤ (a + b) * x
chord x a b h l =
    subst (λ (y : ℕ). x * x + a * y ≤ (a + y) * x) (add-sub_of_le l)
    (subst (λ (y : ℕ). y * y + a * (y + (b - x)) ≤ (a + (y + (b - x))) * y) (add-sub_of_le h) (apart (x - a) (b - x)))
  where
    apart : (c d : ℕ) → (a + c) * (a + c) + a * (a + c + d) ≤ (a + (a + c + d)) * (a + c)
    apart c d = omega arith

-- s is the estimate's digits, b the number's, in one unit
pub record Near (s b : ℕ) : Type 0 where
  pub low : 932 * b ≤ 1000 * (s * s)
  pub high : 1000 * (s * s) ≤ 1072 * b

module _ (g h n : ℕ) (big : 1000 ≤ g) (least : 512 * g ≤ h) (low : 2 * h ≤ n) (high : n ≤ 2 * h + 1) where
  -- an even exponent, and no carry
  pub near_even : h ≤ 549 * g → Near (1499 * g + h) (4096 * g * n)
  near_even most =
      let x = 1499 * g + h in
      let a = mul-le-mul_left g low in
      let b = mul-le-mul_left g high in
      let c = mul-le-mul_left g big in
      let d = mul-le-mul_left g least in
      let e = mul-le-mul_left g most in
      let k : x ≤ 2048 * g = omega arith in
      record { low = omega (arith, tangent x (2048 * g)); high = omega (arith, mul-le-mul_left x k) }

  -- an even exponent, and a carry
  pub near_carry : 549 * g ≤ h → h ≤ 1024 * g → Near (2 * (475 * g + h)) (4096 * g * n)
  near_carry some most =
      let x = 475 * g + h in
      let a = mul-le-mul_left g low in
      let b = mul-le-mul_left g high in
      let c = mul-le-mul_left g big in
      let d = mul-le-mul_left g some in
      let e = mul-le-mul_left g most in
      record { low = omega (arith, tangent x (1024 * g)); high = omega (arith, chord x (1024 * g) (1499 * g) (omega arith) (omega arith)) }

  -- an odd exponent
  pub near_odd : h ≤ 1024 * g → Near (2 * (987 * g + h)) (8192 * g * n)
  near_odd most =
      let x = 987 * g + h in
      let a = mul-le-mul_left g low in
      let b = mul-le-mul_left g high in
      let c = mul-le-mul_left g big in
      let d = mul-le-mul_left g least in
      let e = mul-le-mul_left g most in
      record { low = omega (arith, tangent x (1974 * g)); high = omega (arith, chord x (1499 * g) (2011 * g) (omega arith) (omega arith)) }
