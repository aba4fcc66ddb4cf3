-- Sizes that are not far from 1, carried through products, sums and quotients: all of them are in range.
use mathlib.Core.Bool.{false}
use native.Mathlib.Nat.{le_trans, mul-le-mul, mul-le-mul_right, mul-le-mul_left, le_of_mul-le-mul_right}
use native.Mathlib.Omega.{arith}
use Prim.Native.Nat.{ℕ, ◌+◌, ◌*◌, ◌^◌, ◌<◌, ◌≤◌}
use lib.Dec.{T, leb, leb→le, lit<}
use lib.Pow.{pow_pos}
use lib.Ieee.{Float, binary64, mul, add, div}
use lib.Ieee.Exact.{HasValue}
use Rattle.roots.proofs.Rounding.{unit, Within, InRange, Rounded, mul_within, add_within, div_within}

-- y / d is at most k times 1, and 1 is at most k times y / d; S stands for 1
record Between (S k y d : ℕ) : Type 0 where
  low : S * d ≤ k * y
  high : y ≤ k * (S * d)

pub record Sized (S k r : ℕ) : Type 0 where
  pub low : S ≤ k * r
  pub high : r ≤ k * S

pub wider : (S j k r : ℕ) → j ≤ k → Sized S j r → Sized S k r
wider S j k r h s =
    record { low = le_trans s.low (mul-le-mul_right r h); high = le_trans s.high (mul-le-mul_right S h) }

product : (S j k m n : ℕ) → Sized S j m → Sized S k n → Between S (j * k) (m * n) S
product S j k m n a b =
    let l : S * S ≤ j * m * (k * n) = mul-le-mul a.low b.low in
    let h : m * n ≤ j * S * (k * S) = mul-le-mul a.high b.high in
    record { low = omega arith; high = omega arith }

quotient : (S j k m n : ℕ) → Sized S j m → Sized S k n → Between S (j * k) (m * S) n
quotient S j k m n a b =
    let l : S * n ≤ j * m * (k * S) = mul-le-mul a.low b.high in
    let h : m * S ≤ j * S * (k * n) = mul-le-mul a.high b.low in
    record { low = omega arith; high = omega arith }

total : (S k m n : ℕ) → Sized S k m → Sized S k n → Between S (2 * k) (m + n) 1
total S k m n a b = record { low = omega arith; high = omega arith }

-- what is rounded may be twice as far from 1
twice : (r y d : ℕ) → Within r y d → (y ≤ 2 * (r * d)) × (r * d ≤ 2 * y)
twice r y d w = (omega arith, omega arith)

rounded : (S k r y d : ℕ) → 0 < d → Within r y d → Between S k y d → Sized S (2 * k) r
rounded S k r y d D w b =
    let t = twice r y d w in
    let l : k * y ≤ k * (2 * (r * d)) = mul-le-mul_left k t.0 in
    let x : S * d ≤ 2 * k * r * d = omega (arith, b.low) in
    let y : r * d ≤ 2 * k * S * d = omega (arith, t.1, b.high) in
    record { low = le_of_mul-le-mul_right x D; high = le_of_mul-le-mul_right y D }

-- up to 2^200 times 1 is in range
inside : (a b k y d : ℕ) → 0 < b → k ≤ b → Between (b * a) k y d → (a * d ≤ y) × (y ≤ b * (b * a) * d)
inside a b k y d B h w =
    let l : k * y ≤ b * y = mul-le-mul_right y h in
    let g : k * (b * a * d) ≤ b * (b * a * d) = mul-le-mul_right (b * a * d) h in
    let m : a * d * b ≤ y * b = omega (arith, w.low) in
    (le_of_mul-le-mul_right m B, omega (arith, w.high))

in_range : (k y d : ℕ) → k ≤ 2 ^ 200 → Between unit k y d → InRange y d
in_range k y d h b =
    let i = inside (2 ^ 874) (2 ^ 200) k y d (pow_pos 200) h b in
    record { low = i.0; high = i.1 }

-- ---- the operations
pub record Result (x : Float) (y d k : ℕ) : Type 0 where
  pub size : ℕ
  pub value : HasValue x false size unit
  pub within : Within size y d
  pub sized : Sized unit k size

result : (x : Float) (y d k : ℕ) → 0 < d → Rounded x y d → Between unit k y d → Result x y d (2 * k)
result x y d k D r b =
    record { size = r.size; value = r.value; within = r.within; sized = rounded unit k r.size y d D r.within b }

pub mul_result : (x y : Float) (j k m n : ℕ) → HasValue x false m unit → HasValue y false n unit → Sized unit j m → Sized unit k n
    → T (leb (j * k) (2 ^ 200))
    → Result (mul binary64 x y) (m * n) unit (2 * (j * k))
mul_result x y j k m n p q a b h =
    let w = product unit j k m n a b in
    result (mul binary64 x y) (m * n) unit (j * k) (pow_pos 1074)
    (mul_within x y m n p q (in_range (j * k) (m * n) unit (leb→le (j * k) (2 ^ 200) h) w))
    w

pub add_result : (x y : Float) (k m n : ℕ) → HasValue x false m unit → HasValue y false n unit → Sized unit k m → Sized unit k n
    → T (leb (2 * k) (2 ^ 200))
    → Result (add binary64 x y) (m + n) 1 (2 * (2 * k))
add_result x y k m n p q a b h =
    let w = total unit k m n a b in
    result (add binary64 x y) (m + n) 1 (2 * k) (lit< tt)
    (add_within x y m n p q (in_range (2 * k) (m + n) 1 (leb→le (2 * k) (2 ^ 200) h) w))
    w

pub div_result : (x y : Float) (j k m n : ℕ) → HasValue x false m unit → HasValue y false n unit → Sized unit j m → Sized unit k n
    → 0 < n → T (leb (j * k) (2 ^ 200))
    → Result (div binary64 x y) (m * unit) n (2 * (j * k))
div_result x y j k m n p q a b N h =
    let w = quotient unit j k m n a b in
    result (div binary64 x y) (m * unit) n (j * k) N
    (div_within x y m n p q N (in_range (j * k) (m * unit) n (leb→le (j * k) (2 ^ 200) h) w))
    w
