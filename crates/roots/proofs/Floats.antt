-- Floats by their values: another fraction, the order, the pattern, and where a difference and a square are exact.
use mathlib.Core.Path.{◌≡◌, refl, sym, ap, ◌∙◌, subst}
use mathlib.Core.Bool.{Bool, true, false, not, cond, true≢false}
use native.Mathlib.Nat.{lt_of_lt_of_le, lt_of_not-le, not-le_of_lt, mul_right_comm, mul-div_cancel, eq_of_mul-eq-mul_right, mul-le-mul}
use native.Mathlib.Omega.{arith}
use Prim.Native.Nat.{ℕ, ◌+◌, ◌-◌, ◌*◌, ◌/◌, ◌^◌, ◌<◌, ◌≤◌}
use borrow.Author.Tests.{ltb-true, ltb-false}
use lib.Dec.{T, ltb, lit≤, lit<}
use lib.IntN.{pos}
use lib.Pow.{pow_mono, shl_lt}
use lib.Ieee.{Float, nan, inf, fin, binary64, up, down, size, round, add, sub, mul, lt, is_nan, to_bits}
use lib.Ieee.Digits.{size-lt}
use lib.Ieee.Fits.{down_pos}
use lib.Ieee.Exact.{HasValue, round_exact}
use lib.Ieee.Order.{transfer}
use Rattle.roots.proofs.Rounding.{mul_is}

-- ---- what has a value is no NaN
pub value_some : (x : Float) (a c : ℕ) → HasValue x false a c → T (not (is_nan x))
unfolding is_nan
value_some nan a c h = absurd h
value_some (inf s) a c h = absurd h
value_some (fin s m e) a c h = tt

-- ---- from one fraction to another of the same size
pub rescale : (x : Float) (w l a c : ℕ) → 0 < l → a * l ≡ w * c → HasValue x false w l → HasValue x false a c
rescale nan w l a c p h v = v
rescale (inf t) w l a c p h v = v
rescale (fin t m e) w l a c p h v = (
  v.0,
  eq_of_mul-eq-mul_right l p (m * up e * c) (a * down e)
      (mul_right_comm (m * up e) c l
      ∙ ap (λ (x : ℕ). x * c) v.1
      ∙ mul_right_comm w (down e) c
      ∙ ap (λ (x : ℕ). x * down e) (sym h)
      ∙ mul_right_comm a l (down e)),
)

-- ---- the order
below : (x y de dd a b c d : ℕ) → 0 < c → 0 < d → x * c ≡ a * de → y * d ≡ b * dd → x * dd < y * de → a * d < b * c
below x y de dd a b c d C D p q h = go (ltb (a * d) (b * c)) refl
  where
    go : (t : Bool) → ltb (a * d) (b * c) ≡ t → a * d < b * c
    go true e = ltb-true (a * d) (b * c) e
    go false e =
        let l = transfer y x dd de b a d c D C q p (ltb-false (a * d) (b * c) e) in
        absurd (omega arith)

pub lt_true : (x y : Float) (a c b d : ℕ) → 0 < c → 0 < d → HasValue x false a c → HasValue y false b d → lt x y ≡ true → a * d < b * c
unfolding lt
lt_true nan y a c b d C D p q h = absurd p
lt_true (inf s) y a c b d C D p q h = absurd p
lt_true (fin true m e) y a c b d C D p q h = absurd (true≢false p.0)
lt_true (fin false m e) nan a c b d C D p q h = absurd q
lt_true (fin false m e) (inf t) a c b d C D p q h = absurd q
lt_true (fin false m e) (fin true n f) a c b d C D p q h = absurd (true≢false q.0)
lt_true (fin false m e) (fin false n f) a c b d C D p q h =
    below (m * up e) (n * up f) (down e) (down f) a b c d C D p.1 q.1
    (ltb-true (m * up e * down f) (n * up f * down e) h)

pub lt_false : (x y : Float) (a c b d : ℕ) → 0 < c → 0 < d → HasValue x false a c → HasValue y false b d → lt x y ≡ false → b * c ≤ a * d
unfolding lt
lt_false nan y a c b d C D p q h = absurd p
lt_false (inf s) y a c b d C D p q h = absurd p
lt_false (fin true m e) y a c b d C D p q h = absurd (true≢false p.0)
lt_false (fin false m e) nan a c b d C D p q h = absurd q
lt_false (fin false m e) (inf t) a c b d C D p q h = absurd q
lt_false (fin false m e) (fin true n f) a c b d C D p q h = absurd (true≢false q.0)
lt_false (fin false m e) (fin false n f) a c b d C D p q h =
    transfer b a d c (n * up f) (m * up e) (down f) (down e) (down_pos f) (down_pos e) (sym q.1) (sym p.1)
    (ltb-false (m * up e * down f) (n * up f * down e) h)

-- ---- the pattern of a value of n units
pub size_gt : (n j : ℕ) → 2 ^ j ≤ n → j < size n
size_gt n j h = lt_of_not-le (λ (g : size n ≤ j). not-le_of_lt (lt_of_lt_of_le (size-lt n) (pow_mono g)) h)

no_more : (a b : ℕ) → 0 + a + b ≡ a + b
no_more a b = omega arith

pub bits_of : (x : Float) (n : ℕ) → HasValue x false n (2 ^ 1074) → to_bits binary64 x ≡ (size n - 53) * 2 ^ 52 + n / 2 ^ (size n - 53)
unfolding to_bits
bits_of nan n h = absurd h
bits_of (inf s) n h = absurd h
bits_of (fin true m e) n h = absurd (true≢false h.0)
bits_of (fin false m e) n h =
    ap (λ (z : ℕ). 0 + (size z - 53) * 2 ^ 52 + z / 2 ^ (size z - 53)) (ap (λ (z : ℕ). z / down e) h.1 ∙ mul-div_cancel n (down_pos e))
    ∙ no_more ((size n - 53) * 2 ^ 52) (n / 2 ^ (size n - 53))

-- ---- exact: 256ths less 2^44, and their square
lift : (n e c p : ℕ) → n * 256 ≡ e * c → n * (256 * p) ≡ e * p * c
lift n e c p h =
    let k : n * 256 * p ≡ e * c * p = ap (λ (z : ℕ). z * p) h in
    omega arith

low_enough : (q p j : ℕ) → q < 2 ^ p → p + j ≤ 2098 → q * 2 ^ j < 2 ^ 2098
low_enough q p j h l = lt_of_lt_of_le (shl_lt p j h) (pow_mono l)

-- n / c is e 256ths
rest_exact : (n c e : ℕ) → 0 < c → e < 16777216 → n * 256 ≡ e * c → HasValue (round binary64 false n c) false e 256
rest_exact n c e C h g =
    rescale (round binary64 false n c) n c e 256 C (sym g)
    (round_exact binary64 false n c e 1066 C (omega arith) (low_enough e 24 1066 h (lit≤ tt)) (lift n e c (2 ^ 1066) g))

take_far : (a k e : ℕ) → a * 256 ≡ (4503599627370496 + e) * k → (a * 1 - 1 * 17592186044416 * k) * 256 ≡ e * (k * 1)
take_far a k e h = omega arith

not_less : (a k e : ℕ) → a * 256 ≡ (4503599627370496 + e) * k → a * 1 < 1 * 17592186044416 * k → ⊥
not_less a k e h d = omega arith

one_pos : (k : ℕ) → 0 < k → 0 < k * 1
one_pos k h = omega arith

pub sub_exact : (t : Float) (e : ℕ) → e < 16777216 → HasValue t false (4503599627370496 + e) 256
    → HasValue (sub binary64 t (fin false 1 (pos 44))) false e 256
unfolding sub add
sub_exact nan e h v = absurd v
sub_exact (inf s) e h v = absurd v
sub_exact (fin true m k) e h v = absurd (true≢false v.0)
sub_exact (fin false m k) e h v = go (ltb a b) refl
  where
    a : ℕ
    a = m * up k * 1

    b : ℕ
    b = 1 * 17592186044416 * down k

    c : ℕ
    c = down k * 1

    go : (t : Bool) → ltb a b ≡ t → HasValue (cond t (round binary64 true (b - a) c) (round binary64 false (a - b) c)) false e 256
    go true g = absurd (not_less (m * up k) (down k) e v.1 (ltb-true a b g))
    go false g = rest_exact (a - b) c e (one_pos (down k) (down_pos k)) h (take_far (m * up k) (down k) e v.1)

small_square : (e : ℕ) → e < 16777216 → e * e < 2 ^ 48
small_square e h =
    let b : e ≤ 16777215 = omega arith in
    let l : e * e ≤ 16777215 * 16777215 = mul-le-mul b b in
    omega arith

pub square_exact : (s : Float) (e : ℕ) → e < 16777216 → HasValue s false e 256 → HasValue (mul binary64 s s) false (e * e) 65536
square_exact s e h v =
    let l = small_square e h in
    subst (λ (z : Float). HasValue z false (e * e) 65536) (sym (mul_is s s e e 256 (lit< tt) v v))
    (round_exact binary64 false (e * e) 65536 (e * e) 1058 (lit< tt) (omega arith) (low_enough (e * e) 48 1058 l (lit≤ tt)) (square_scale (e * e) (2 ^ 1058)))
  where
    square_scale : (q p : ℕ) → q * (65536 * p) ≡ q * p * 65536
    square_scale q p = omega arith
