-- A sum with 2^44 is rounded to 256ths, which are the last digits of its pattern.
use mathlib.Core.Path.{◌≡◌, refl, sym, ap, ◌∙◌, subst}
use mathlib.Core.Bool.{false}
use native.Mathlib.Nat.{lt_of_lt_of_le, le_antisymm, le_of_mul-le-mul_right, mul-pos, mul-div_cancel}
use native.Mathlib.Omega.{arith}
use Prim.Native.Nat.{ℕ, suc, ◌+◌, ◌-◌, ◌*◌, ◌/◌, ◌%◌, ◌^◌, ◌<◌, ◌≤◌}
use lib.Dec.{lit≤}
use lib.Pow.{pow_pos, shl_lt}
use lib.IntN.{pos}
use lib.Ieee.{Float, fin, binary64, size, round, add}
use lib.Ieee.Digits.{size-le}
use lib.Ieee.Exact.{HasValue}
use lib.Ieee.Nearest.{closest}
use lib.Ieee.Order.{drop, kept}
use lib.Ieee.Scale.{round_val}
use Rattle.roots.specs.Estimates.{digits_of}
use Rattle.roots.proofs.Rounding.{unit, add_is, closest_near, Near}
use Rattle.roots.proofs.Floats.{rescale, size_gt, bits_of}

-- a number of j + 1 digits
size_of : (n j : ℕ) → 2 ^ j ≤ n → n < 2 ^ suc j → size n ≡ suc j
size_of n j l h = le_antisymm (size-le n (suc j) h) (size_gt n j l)

-- ---- t units and 2^44 to the nearest 256th, of which each is 2^1066 units
abbrev pub nearest_of : ℕ → ℕ
nearest_of t = closest ((t + 2 ^ 1118) * unit) (unit * 2 ^ 1066)

shrink : (a b q u : ℕ) → 0 < u → Near q (a * u) (u * b) → Near q a b
shrink a b q u U n =
    let l : q * b * 2 * u ≤ (a * 2 + b) * u = omega arith in
    let h : a * 2 * u ≤ (q * b * 2 + b) * u = omega arith in
    (le_of_mul-le-mul_right l U, le_of_mul-le-mul_right h U)

nearest_near : (t : ℕ) → Near (nearest_of t) (t + 2 ^ 1118) (2 ^ 1066)
nearest_near t =
    shrink (t + 2 ^ 1118) (2 ^ 1066) (nearest_of t) unit (pow_pos 1074)
    (closest_near ((t + 2 ^ 1118) * unit) (unit * 2 ^ 1066) (mul-pos (pow_pos 1074) (pow_pos 1066)))

-- from 2^44 up, and how far off; p units are a 256th
from_far : (t q p : ℕ) → 0 < p → Near q (t + 4503599627370496 * p) p → 4503599627370496 ≤ q
from_far t q p P n =
    let k : 9007199254740991 * p ≤ 2 * q * p = omega arith in
    let j : 9007199254740991 ≤ 2 * q = le_of_mul-le-mul_right k P in
    omega arith

abbrev Off : ℕ → ℕ → ℕ → Type 0
Off t e u = (512 * t ≤ 2 * e * u + u) × (2 * e * u ≤ 512 * t + u)

off_by : (t q e p : ℕ) → q ≡ 4503599627370496 + e → Near q (t + 4503599627370496 * p) p → Off t e (256 * p)
off_by t q e p h n =
    let j : q * p ≡ (4503599627370496 + e) * p = ap (λ (z : ℕ). z * p) h in
    (omega arith, omega arith)

pub record Last (t e : ℕ) : Type 0 where
  pub is : nearest_of t ≡ 4503599627370496 + e
  pub low : 512 * t ≤ 2 * e * unit + unit
  pub high : 2 * e * unit ≤ 512 * t + unit

pub last_of : (t : ℕ) → Last t (nearest_of t - 4503599627370496)
last_of t =
    let q = nearest_of t in
    let n = nearest_near t in
    let e = q - 4503599627370496 in
    let i : q ≡ 4503599627370496 + e = split q (from_far t q (2 ^ 1066) (pow_pos 1066) n) in
    let o = off_by t q e (2 ^ 1066) i n in
    record { is = i; low = o.0; high = o.1 }
  where
    split : (q : ℕ) → 4503599627370496 ≤ q → q ≡ 4503599627370496 + (q - 4503599627370496)
    split q h = omega arith

-- ---- the sum
in_two : (t p : ℕ) → t < p → (p ≤ t + p) × (t + p < 2 * p)
in_two t p h = (omega arith, omega arith)

dropped : (t : ℕ) → t < 2 ^ 1118 → drop 53 ((t + 2 ^ 1118) * unit) unit ≡ 1066
dropped t h =
    let b = in_two t (2 ^ 1118) h in
    ap (λ (z : ℕ). size z - 53) (mul-div_cancel (t + 2 ^ 1118) (pow_pos 1074)) ∙ ap (λ (z : ℕ). z - 53) (size_of (t + 2 ^ 1118) 1118 b.0 b.1)

below : (e : ℕ) → e < 16777216 → (4503599627370496 + e) * 2 ^ 1066 < 2 ^ 1119
below e h = shl_lt 53 1066 (omega arith)

at_least : (e p : ℕ) → 4503599627370496 * p ≤ (4503599627370496 + e) * p
at_least e p = omega arith

far_value : HasValue (fin false 1 (pos 44)) false (2 ^ 1118) unit
far_value = (refl, refl)

scaled : (q p : ℕ) → q * (256 * p) ≡ q * p * 256
scaled q p = omega arith

last_digits : (e : ℕ) → e < 16777216 → (1066 * 4503599627370496 + (4503599627370496 + e)) % 16777216 ≡ e
last_digits e h = omega arith

module _ (x : Float) (t e : ℕ) (v : HasValue x false t unit) (small : t < 2 ^ 1118) (last : Last t e) (few : e < 16777216) where
  grid_is : kept 53 ((t + 2 ^ 1118) * unit) unit * 2 ^ drop 53 ((t + 2 ^ 1118) * unit) unit ≡ (4503599627370496 + e) * 2 ^ 1066
  grid_is =
      ap (λ (z : ℕ). closest ((t + 2 ^ 1118) * unit) (unit * 2 ^ z) * 2 ^ z) (dropped t small)
      ∙ ap (λ (z : ℕ). z * 2 ^ 1066) last.is

  sum_units : HasValue (add binary64 x (fin false 1 (pos 44))) false ((4503599627370496 + e) * 2 ^ 1066) unit
  sum_units =
      subst (λ (z : Float). HasValue z false ((4503599627370496 + e) * 2 ^ 1066) unit)
      (sym (add_is x (fin false 1 (pos 44)) t (2 ^ 1118) unit (pow_pos 1074) v far_value))
      (subst (λ (z : ℕ). HasValue (round binary64 false (t + 2 ^ 1118) unit) false z unit) grid_is
      (round_val binary64 (t + 2 ^ 1118) unit (subst (λ (z : ℕ). z < 2 ^ 2098) (sym grid_is) (lt_of_lt_of_le (below e few) (lit≤ tt)))))

  sum_size : size ((4503599627370496 + e) * 2 ^ 1066) ≡ 1119
  sum_size = size_of ((4503599627370496 + e) * 2 ^ 1066) 1118 (at_least e (2 ^ 1066)) (below e few)

  pub sum_digits : digits_of (add binary64 x (fin false 1 (pos 44))) ≡ e
  sum_digits =
      let q = 4503599627370496 + e in
      ap (λ (z : ℕ). z % 16777216)
      (bits_of (add binary64 x (fin false 1 (pos 44))) (q * 2 ^ 1066) sum_units
      ∙ ap (λ (z : ℕ). (z - 53) * 4503599627370496 + q * 2 ^ 1066 / 2 ^ (z - 53)) sum_size
      ∙ ap (λ (z : ℕ). 1066 * 4503599627370496 + z) (mul-div_cancel q (pow_pos 1066)))
      ∙ last_digits e few

  pub sum_value : HasValue (add binary64 x (fin false 1 (pos 44))) false (4503599627370496 + e) 256
  sum_value =
      rescale (add binary64 x (fin false 1 (pos 44))) ((4503599627370496 + e) * 2 ^ 1066) unit (4503599627370496 + e) 256 (pow_pos 1074)
      (scaled (4503599627370496 + e) (2 ^ 1066))
      sum_units
