-- The float of m + 2^-17, the first estimate of its root from half of its bit pattern, and how near that is.
-- A finite float's size is a whole number of units of 2^-1074. A number of units with 53 digits n and the exponent k, that is n·2^k units, has the pattern k·2^52 + n.
use mathlib.Core.Path.{◌≡◌, refl, sym, ap, ◌∙◌, subst}
use Prim.Native.Nat.{ℕ, zero, suc, ◌+◌, ◌-◌, ◌*◌, ◌/◌, ◌%◌, ◌^◌, ◌≤◌, ◌<◌}
use native.Mathlib.Nat.{le_trans, le_of_eq, lt_of_lt_of_le, one-mul, mul_assoc, mul-le-mul_right, mul-div_cancel, le-div_iff_mul-le}
use native.Mathlib.Omega.{arith}
use mathlib.Core.Bool.{Bool, true, false, cond}
use lib.IntN.{pos, negsuc}
use lib.Dec.{T, leb, ltb, eqb, leb→le, eqb→eq, not_T, lit≤, lit<}
use lib.Pow.{pow-add, pow_pos, shl_lt}
use lib.Ieee.{Float, nan, inf, fin, binary64, size, odd, round, of_int, of_fields, of_bits, to_bits}
use lib.Ieee.Digits.{back, size-le, size_reaches}
use lib.Ieee.Fits.{kept-lt}
use lib.Ieee.Bits.{is_false, cond_no}
use lib.Ieee.Exact.{HasValue, odd_sign, round_exact}
use lib.Ieee.Back.{round_whole}
use borrow.Author.Tests.{ltb-true, ltb-false}
use Rattle.roots.specs.Estimates.{number_of}
use Rattle.roots.proofs.Rounding.{add_is}
use Rattle.roots.proofs.Floats.{rescale, size_gt, bits_of}
use Rattle.roots.proofs.FirstSquares.{Near, near_even, near_carry, near_odd}

-- the pattern of the first estimate of its root
abbrev pub first_pattern : ℕ → ℕ
first_pattern m = to_bits binary64 (number_of m) / 2 + 0x1FF76C0000000000

-- m + 2^-17 in units
abbrev pub number_size : ℕ → ℕ
number_size m = (131072 * m + 1) * 2 ^ 1057

-- ---- the float is exact
int_value : (m : ℕ) → m < 2147483648 → HasValue (of_int binary64 (pos m)) false m 1
unfolding of_int
int_value m h = round_whole binary64 false m (omega arith)

-- m in 131072ths
in_parts : (m : ℕ) → 131072 * m * 1 ≡ m * 131072
in_parts m = omega arith

sum_is : (m : ℕ) → m < 2147483648 → number_of m ≡ round binary64 false (131072 * m + 1) 131072
sum_is m h =
    add_is (of_int binary64 (pos m)) (fin false 1 (negsuc 16)) (131072 * m) 1 131072 (lit< tt)
    (rescale (of_int binary64 (pos m)) m 1 (131072 * m) 131072 (lit< tt) (in_parts m) (int_value m h)) (refl, refl)

few_digits : (m : ℕ) → m < 2147483648 → 131072 * m + 1 < 2 ^ 53
few_digits m h = omega arith

pub number_value : (m : ℕ) → m < 2147483648 → HasValue (number_of m) false (number_size m) (2 ^ 1074)
number_value m h =
    let q = 131072 * m + 1 in
    let r = round binary64 false q 131072 in
    let v : HasValue r false q 131072 =
    round_exact binary64 false q 131072 q 1057 (lit< tt) (few_digits m h) (lt_of_lt_of_le (shl_lt 53 1057 (few_digits m h)) (lit≤ tt)) (sym (mul_assoc q (2 ^ 1057) 131072)) in
    subst (λ (x : Float). HasValue x false (number_size m) (2 ^ 1074)) (sym (sum_is m h))
    (rescale r q 131072 (number_size m) (2 ^ 1074) (lit< tt) (mul_assoc q (2 ^ 1057) 131072) v)

-- ---- its pattern
-- 53 digits and an exponent
record Split (n : ℕ) : Type 0 where
  exponent : ℕ
  digits : ℕ
  pattern : (size n - 53) * 2 ^ 52 + n / 2 ^ (size n - 53) ≡ exponent * 2 ^ 52 + digits
  whole : n ≡ digits * 2 ^ exponent
  small : 1000 ≤ exponent
  large : exponent ≤ 1060
  least : 2 ^ 52 ≤ digits
  most : digits < 2 ^ 53

split : (q : ℕ) → 1 ≤ q → q < 2 ^ 48 → Split (q * 2 ^ 1057)
split q h l =
    let n = q * 2 ^ 1057 in
    let z = size n in
    let k = z - 53 in
    let a : 1057 < z = size_gt n 1057 (le_trans (le_of_eq (sym (one-mul (2 ^ 1057)))) (mul-le-mul_right (2 ^ 1057) h)) in
    let b : z ≤ 1105 = size-le n 1105 (shl_lt 48 1057 l) in
    let c : k ≤ 1057 = at_most z b in
    let d = q * 2 ^ (1057 - k) in
    let e : n ≡ d * 2 ^ k = ap (λ (y : ℕ). q * y) (ap (λ (y : ℕ). 2 ^ y) (sym (back 1057 k c)) ∙ pow-add 2 (1057 - k) k) ∙ sym (mul_assoc q (2 ^ (1057 - k)) (2 ^ k)) in
    let f : n / 2 ^ k ≡ d = ap (λ (y : ℕ). y / 2 ^ k) e ∙ mul-div_cancel d (pow_pos k) in
    let i : 2 ^ 52 * 2 ^ k ≤ n = le_trans (le_of_eq (sym (pow-add 2 52 k))) (size_reaches n (52 + k) (reached z a)) in
    record {
      exponent = k;
      digits = n / 2 ^ k;
      pattern = refl;
      whole = subst (λ (y : ℕ). n ≡ y * 2 ^ k) (sym f) e;
      small = above z a;
      large = below z b;
      least = (le-div_iff_mul-le (pow_pos k)).1 i;
      most = kept-lt 53 n;
    }
  where
    at_most : (z : ℕ) → z ≤ 1105 → z - 53 ≤ 1057
    at_most z b = omega arith

    reached : (z : ℕ) → 1057 < z → 52 + (z - 53) < z
    reached z a = omega arith

    above : (z : ℕ) → 1057 < z → 1000 ≤ z - 53
    above z a = omega arith

    below : (z : ℕ) → z ≤ 1105 → z - 53 ≤ 1060
    below z b = omega arith

number_split : (m : ℕ) → m < 2147483648 → Split (number_size m)
number_split m h = split (131072 * m + 1) (omega arith) (omega arith)

half_bound : (k d b : ℕ) → b ≡ k * 2 ^ 52 + d → k ≤ 1060 → d < 2 ^ 53 → b / 2 + 0x1FF76C0000000000 ≤ 0x7ff0000000000000
half_bound k d b e h l = omega arith

pub pattern_bound : (m : ℕ) → m < 2147483648 → first_pattern m ≤ 0x7ff0000000000000
pattern_bound m h =
    let s = number_split m h in
    half_bound s.exponent s.digits (to_bits binary64 (number_of m)) (bits_of (number_of m) (number_size m) (number_value m h) ∙ s.pattern) s.large s.most

-- ---- what a pattern stands for
of_bits_is : (b : ℕ) → of_bits binary64 b ≡ of_fields binary64 (leb (2 ^ 63) b) (b % 2 ^ 63 / 2 ^ 52) (b % 2 ^ 52)
unfolding of_bits
of_bits_is b = refl

differ : (x : ℕ) → suc x < 2047 → suc x ≡ 2047 → ⊥
differ x h e = omega arith

under_ones : (t x : ℕ) → suc x < 2047 → of_fields binary64 false (suc x) t ≡ odd 53 false (2 ^ 52 + t) x 1074
unfolding of_fields
under_ones t x h =
    cond_no (eqb (suc x) 2047) (cond (eqb t 0) (inf false) nan) (odd 53 false (2 ^ 52 + t) x 1074)
    (not_T (eqb (suc x) 2047) (λ (u : T (eqb (suc x) 2047)). differ x h (eqb→eq (suc x) 2047 u)))

module _ (x d : ℕ) (h : suc x < 2047) (least : 2 ^ 52 ≤ d) (most : d < 2 ^ 53) where
  unsigned : 2 ^ 63 ≤ x * 2 ^ 52 + d → ⊥
  unsigned u = omega arith

  field : (x * 2 ^ 52 + d) % 2 ^ 63 / 2 ^ 52 ≡ suc x
  field = omega arith

  rest : 2 ^ 52 + (x * 2 ^ 52 + d) % 2 ^ 52 ≡ d
  rest = omega arith

  bits_are : of_bits binary64 (x * 2 ^ 52 + d) ≡ odd 53 false d x 1074
  bits_are =
      let b = x * 2 ^ 52 + d in
      let t = b % 2 ^ 52 in
      of_bits_is b
      ∙ ap (λ (s : Bool). of_fields binary64 s (b % 2 ^ 63 / 2 ^ 52) t) (is_false (leb (2 ^ 63) b) (not_T (leb (2 ^ 63) b) (λ (u : T (leb (2 ^ 63) b)). unsigned (leb→le (2 ^ 63) b u))))
      ∙ ap (λ (y : ℕ). of_fields binary64 false y t) field
      ∙ under_ones t x h
      ∙ ap (λ (y : ℕ). odd 53 false y x 1074) rest

  bits_value : HasValue (of_bits binary64 (x * 2 ^ 52 + d)) false (d * 2 ^ x) (2 ^ 1074)
  bits_value = subst (λ (y : Float). HasValue y false (d * 2 ^ x) (2 ^ 1074)) (sym bits_are) (odd_sign 53 false d x 1074)

-- ---- how near the first estimate is
pub record First (m : ℕ) : Type 0 where
  pub size : ℕ
  pub value : HasValue (of_bits binary64 (first_pattern m)) false size (2 ^ 1074)
  pub low : 932 * (number_size m * 2 ^ 1074) ≤ 1000 * (size * size)
  pub high : 1000 * (size * size) ≤ 1072 * (number_size m * 2 ^ 1074)

-- from digits to units: the estimate is s·r units, and the number times the unit is b·r·r
scaled : (s b r n u z : ℕ) → Near s b → n * u ≡ b * (r * r) → z ≡ s * r → (932 * (n * u) ≤ 1000 * (z * z)) × (1000 * (z * z) ≤ 1072 * (n * u))
scaled s b r n u z c e i =
    let l = mul-le-mul_right (r * r) c.low in
    let h = mul-le-mul_right (r * r) c.high in
    rw (e, i) (omega arith, omega arith)

module _ (g p q u n d : ℕ) (unit : u ≡ 4096 * g * (q * q)) where
  units_even : n ≡ d * (p * p) → n * u ≡ 4096 * g * d * (p * q * (p * q))
  units_even e = rw (e, unit) (omega arith)

  units_odd : n ≡ d * (p * p * 2) → n * u ≡ 8192 * g * d * (p * q * (p * q))
  units_odd e = rw (e, unit) (omega arith)

-- half of the number's pattern, moved up: the first estimate's exponent and digits, in three cases
module _ (k j d h b : ℕ) (pattern : b ≡ k * 2 ^ 52 + d) (low : 2 * h ≤ d) (high : d ≤ 2 * h + 1) where
  half_even : k ≡ 2 * j → b / 2 + 0x1FF76C0000000000 ≡ (j + 510) * 2 ^ 52 + (1499 * 2 ^ 42 + h)
  half_even e = omega arith

  half_carry : k ≡ 2 * j → b / 2 + 0x1FF76C0000000000 ≡ (j + 511) * 2 ^ 52 + (475 * 2 ^ 42 + h)
  half_carry e = omega arith

  half_odd : k ≡ 2 * j + 1 → b / 2 + 0x1FF76C0000000000 ≡ (j + 511) * 2 ^ 52 + (987 * 2 ^ 42 + h)
  half_odd e = omega arith

-- x is the estimate's exponent, d are its digits, and s·r is its size
made : (m x d s b r : ℕ) → first_pattern m ≡ x * 2 ^ 52 + d → suc x < 2047 → 2 ^ 52 ≤ d → d < 2 ^ 53 → Near s b → number_size m * 2 ^ 1074 ≡ b * (r * r) → d * 2 ^ x ≡ s * r
    → First m
made m x d s b r e h least most c i y =
    let t = scaled s b r (number_size m) (2 ^ 1074) (d * 2 ^ x) c i y in
    record {
      size = d * 2 ^ x;
      value = subst (λ (z : ℕ). HasValue (of_bits binary64 z) false (d * 2 ^ x) (2 ^ 1074)) (sym e) (bits_value x d h least most);
      low = t.0;
      high = t.1;
    }

twice : (x p q r : ℕ) → r ≡ 2 * q → x * (p * r) ≡ 2 * x * (p * q)
twice x p q r e = rw e (omega arith)

even_power : (k j : ℕ) → k ≡ 2 * j → 2 ^ k ≡ 2 ^ j * 2 ^ j
even_power k j e = let i : k ≡ j + j = omega arith in ap (λ (y : ℕ). 2 ^ y) i ∙ pow-add 2 j j

odd_power : (k j : ℕ) → k ≡ 2 * j + 1 → 2 ^ k ≡ 2 ^ j * 2 ^ j * 2
odd_power k j e = let i : k ≡ j + j + 1 = omega arith in ap (λ (y : ℕ). 2 ^ y) i ∙ pow-add 2 (j + j) 1 ∙ ap (λ (y : ℕ). y * 2) (pow-add 2 j j)

-- the exponent is k, half of it j, the digits are d, and half of them h
module _ (m k j d h : ℕ) (pattern : to_bits binary64 (number_of m) ≡ k * 2 ^ 52 + d) (whole : number_size m ≡ d * 2 ^ k) (large : k ≤ 1060) (least : 2 ^ 51 ≤ h) (most : h ≤ 2 ^ 52) (low : 2 * h ≤ d) (high : d ≤ 2 * h + 1) where
  first_even : k ≡ 2 * j → h < 549 * 2 ^ 42 → First m
  first_even e l =
      made m (j + 510) (1499 * 2 ^ 42 + h) (1499 * 2 ^ 42 + h) (4096 * 2 ^ 42 * d) (2 ^ j * 2 ^ 510)
      (half_even k j d h (to_bits binary64 (number_of m)) pattern low high e)
      (omega arith)
      (omega arith)
      (omega arith)
      (near_even (2 ^ 42) h d (lit≤ tt) least low high (omega arith))
      (units_even (2 ^ 42) (2 ^ j) (2 ^ 510) (2 ^ 1074) (number_size m) d refl (whole ∙ ap (λ (y : ℕ). d * y) (even_power k j e)))
      (ap (λ (y : ℕ). (1499 * 2 ^ 42 + h) * y) (pow-add 2 j 510))

  first_carry : k ≡ 2 * j → 549 * 2 ^ 42 ≤ h → First m
  first_carry e l =
      made m (j + 511) (475 * 2 ^ 42 + h) (2 * (475 * 2 ^ 42 + h)) (4096 * 2 ^ 42 * d) (2 ^ j * 2 ^ 510)
      (half_carry k j d h (to_bits binary64 (number_of m)) pattern low high e)
      (omega arith)
      (omega arith)
      (omega arith)
      (near_carry (2 ^ 42) h d (lit≤ tt) least low high l most)
      (units_even (2 ^ 42) (2 ^ j) (2 ^ 510) (2 ^ 1074) (number_size m) d refl (whole ∙ ap (λ (y : ℕ). d * y) (even_power k j e)))
      (ap (λ (y : ℕ). (475 * 2 ^ 42 + h) * y) (pow-add 2 j 511) ∙ twice (475 * 2 ^ 42 + h) (2 ^ j) (2 ^ 510) (2 ^ 511) refl)

  first_odd : k ≡ 2 * j + 1 → First m
  first_odd e =
      made m (j + 511) (987 * 2 ^ 42 + h) (2 * (987 * 2 ^ 42 + h)) (8192 * 2 ^ 42 * d) (2 ^ j * 2 ^ 510)
      (half_odd k j d h (to_bits binary64 (number_of m)) pattern low high e)
      (omega arith)
      (omega arith)
      (omega arith)
      (near_odd (2 ^ 42) h d (lit≤ tt) least low high most)
      (units_odd (2 ^ 42) (2 ^ j) (2 ^ 510) (2 ^ 1074) (number_size m) d refl (whole ∙ ap (λ (y : ℕ). d * y) (odd_power k j e)))
      (ap (λ (y : ℕ). (987 * 2 ^ 42 + h) * y) (pow-add 2 j 511) ∙ twice (987 * 2 ^ 42 + h) (2 ^ j) (2 ^ 510) (2 ^ 511) refl)

  first_by : (r : ℕ) (t : Bool) → r < 2 → k ≡ 2 * j + r → ltb h (549 * 2 ^ 42) ≡ t → First m
  first_by zero true l e i = first_even (omega arith) (ltb-true h (549 * 2 ^ 42) i)
  first_by zero false l e i = first_carry (omega arith) (ltb-false h (549 * 2 ^ 42) i)
  first_by (suc r) t l e i = first_odd (omega arith)

pub first_near : (m : ℕ) → m < 2147483648 → First m
first_near m l =
    let s = number_split m l in
    let k = s.exponent in
    let d = s.digits in
    halves k d (bits_of (number_of m) (number_size m) (number_value m l) ∙ s.pattern) s.whole s.large s.least s.most
  where
    halves : (k d : ℕ) → to_bits binary64 (number_of m) ≡ k * 2 ^ 52 + d → number_size m ≡ d * 2 ^ k → k ≤ 1060 → 2 ^ 52 ≤ d → d < 2 ^ 53 → First m
    halves k d pattern whole large least most =
        first_by m k (k / 2) d (d / 2) pattern whole large (omega arith) (omega arith) (omega arith) (omega arith) (k % 2) (ltb (d / 2) (549 * 2 ^ 42)) (omega arith) (omega arith) refl
