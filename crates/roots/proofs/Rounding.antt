-- Floats' products, sums and quotients far from the smallest and the largest floats: each is right to one part in 2 ^ 53.
-- The value of a finite float is a whole number of 2 ^ -1074.
use mathlib.Core.Path.{◌≡◌, refl, sym, ap, ◌∙◌, subst}
use mathlib.Core.Bool.{Bool, true, false, not, cond, true≢false}
use native.Mathlib.Nat.{le_trans, le_of_eq, lt_of_le_of_lt, lt_irrefl, mul_assoc, mul-mul-mul_comm, mul-le-mul_right, le_of_mul-le-mul_right, eq_of_mul-eq-mul_right, mul-pos, mod-lt, div-add-mod', le-div_iff_mul-le, pow-succ'}
use native.Mathlib.Omega.{arith}
use Prim.Native.Nat.{ℕ, suc, ◌+◌, ◌-◌, ◌*◌, ◌/◌, ◌%◌, ◌^◌, ◌<◌, ◌≤◌, compare, Ordering}
use lib.Dec.{T, is_le, compare_is_eq, eqb, leb→le, nleb→lt, eqb→eq, eqb_refl, lit≤, lit<}
use lib.Arith.{lt_of_le-ne}
use lib.Pow.{pow-add, pow_pos}
use lib.Ieee.{Float, nan, inf, fin, binary64, up, down, nearest, round, add, mul, div}
use lib.Ieee.Digits.{size_reaches}
use lib.Ieee.Fits.{down_pos}
use lib.Ieee.Exact.{HasValue}
use lib.Ieee.Nearest.{closest}
use lib.Ieee.Order.{drop, kept}
use lib.Ieee.Scale.{round_same, round_val, normal_of_fraction}
use lib.Ieee.Positive.{first_pos}

-- 1 in units of 2 ^ -1074
abbrev pub unit : ℕ
unit = 2 ^ 1074

-- r is y / d to one part in 2 ^ 53
pub record Within (r y d : ℕ) : Type 0 where
  pub low : 9007199254740991 * y ≤ 2 ^ 53 * (r * d)
  pub high : 2 ^ 53 * (r * d) ≤ 9007199254740993 * y

-- y / d units are far from the smallest and the largest floats
pub record InRange (y d : ℕ) : Type 0 where
  pub low : 2 ^ 874 * d ≤ y
  pub high : y ≤ 2 ^ 1274 * d

-- x is finite, not negative and y / d units, rounded
pub record Rounded (x : Float) (y d : ℕ) : Type 0 where
  pub size : ℕ
  pub value : HasValue x false size unit
  pub within : Within size y d

-- ---- a / b to the nearest whole number is off by at most a half
abbrev Cmp : Ordering → ℕ → ℕ → Type 0
Cmp Ordering.lt a b = a < b
Cmp Ordering.eq a b = a ≡ b
Cmp Ordering.gt a b = b < a

cmp : (a b : ℕ) → Cmp (compare a b) a b
cmp a b = go (compare a b) (leb→le a b) (nleb→lt a b) (eqb→eq a b) (λ (e : a ≡ b). subst (λ (x : ℕ). T (eqb a x)) e (eqb_refl a))
  where
    go : (o : Ordering) → (T (is_le o) → a ≤ b) → (T (not (is_le o)) → b < a) → (T (compare_is_eq o) → a ≡ b) → (a ≡ b → T (compare_is_eq o)) → Cmp o a b
    go Ordering.lt h k e n = lt_of_le-ne (h tt) n
    go Ordering.eq h k e n = e tt
    go Ordering.gt h k e n = k tt

-- q is a / b, off by at most a half
abbrev pub Near : ℕ → ℕ → ℕ → Type 0
Near q a b = (q * b * 2 ≤ a * 2 + b) × (a * 2 ≤ q * b * 2 + b)

bit_le : (w : ℕ) → w % 2 ≤ 1
bit_le w = omega arith

near_tie : (w t r b a : ℕ) → t * b ≤ 1 * b → r * 2 ≡ b → w * b + r ≡ a → Near (w + t) a b
near_tie w t r b a l e h = omega arith

nearest_near : (w r b a : ℕ) (o : Ordering) → Cmp o (r * 2) b → r < b → w * b + r ≡ a → Near (nearest w o) a b
nearest_near w r b a Ordering.lt c l h = omega arith
nearest_near w r b a Ordering.eq c l h = near_tie w (w % 2) r b a (mul-le-mul_right b (bit_le w)) c h
nearest_near w r b a Ordering.gt c l h = omega arith

pub closest_near : (a b : ℕ) → 0 < b → Near (closest a b) a b
closest_near a b B = nearest_near (a / b) (a % b) b a (compare (a % b * 2) b) (cmp (a % b * 2) b) (mod-lt a B) (div-add-mod' a b)

-- ---- a number that keeps 53 digits
digits : (z : ℕ) → 53 ≤ z → 52 + (z - 53) < z
digits z h = omega arith

-- the last digit kept is at most one part in 2 ^ 52
kept_large : (n d : ℕ) → 0 < d → 53 ≤ lib.Ieee.size (n / d) → 4503599627370496 * 2 ^ drop 53 n d * d ≤ n
kept_large n d D h =
    let k = drop 53 n d in
    (le-div_iff_mul-le D).0 (le_trans (le_of_eq (sym (pow-add 2 52 k))) (size_reaches (n / d) (52 + k) (digits (lib.Ieee.size (n / d)) h)))

within_of : (q k d n : ℕ) → 4503599627370496 * k * d ≤ n → Near q n (d * k) → Within (q * k) n d
within_of q k d n l h = omega arith

-- ---- what is right to one part in 2 ^ 53 is right to a factor of two
half_le : (r y d a : ℕ) → 0 < d → Within r y d → 2 * a * d ≤ y → a ≤ r
half_le r y d a D w h =
    let l : a * d ≤ r * d = omega arith in
    le_of_mul-le-mul_right l D

le_twice : (r y d a : ℕ) → 0 < d → Within r y d → y ≤ a * d → r ≤ 2 * a
le_twice r y d a D w h =
    let l : r * d ≤ 2 * a * d = omega arith in
    le_of_mul-le-mul_right l D

-- what is rounded from something between two powers of two lies between two powers of two one wider
pub within_between : (r y d lo hi : ℕ) → 0 < d → Within r y d → 2 ^ suc lo * d ≤ y → y ≤ 2 ^ hi * d → (2 ^ lo ≤ r) × (r ≤ 2 ^ suc hi)
within_between r y d lo hi D w l h = (
  half_le r y d (2 ^ lo) D w (subst (λ (p : ℕ). p * d ≤ y) (pow-succ' 2 lo) l),
  le_trans (le_twice r y d (2 ^ hi) D w h) (le_of_eq (sym (pow-succ' 2 hi))),
)

-- ---- the rounding itself
-- a fraction this far up keeps 53 digits, and is far from an overflow
enough : (n d : ℕ) → 2 ^ 874 * d ≤ n → 2 ^ 52 * d ≤ n
enough n d h = le_trans (mul-le-mul_right d (lit≤ tt)) h

pub round_within : (n d : ℕ) → 0 < d → InRange (n * unit) d → Rounded (round binary64 false n d) (n * unit) d
round_within n d D h =
    let y = n * unit in
    let k = drop 53 y d in
    let near : Within (kept 53 y d * 2 ^ k) y d =
    within_of (kept 53 y d) (2 ^ k) d y (kept_large y d D (normal_of_fraction binary64 n d D (enough y d h.low))) (closest_near y (d * 2 ^ k) (mul-pos D (pow_pos k))) in
    let small : kept 53 y d * 2 ^ k < 2 ^ 2098 = lt_of_le_of_lt (le_twice (kept 53 y d * 2 ^ k) y d (2 ^ 1274) D near h.high) (lit< tt) in
    record { size = kept 53 y d * 2 ^ k; value = round_val binary64 n d small; within = near }

-- ---- y / d by another fraction of the same value
widen : (y d u : ℕ) → InRange y d → InRange (y * u) (d * u)
widen y d u h = record {
  low = le_trans (le_of_eq (sym (mul_assoc (2 ^ 874) d u))) (mul-le-mul_right u h.low);
  high = le_trans (mul-le-mul_right u h.high) (le_of_eq (mul_assoc (2 ^ 1274) d u));
}

cancel : (r y d u : ℕ) → 0 < u → Within r (y * u) (d * u) → Within r y d
cancel r y d u U h =
    let l : 9007199254740991 * y * u ≤ 2 ^ 53 * (r * d) * u = omega arith in
    let g : 2 ^ 53 * (r * d) * u ≤ 9007199254740993 * y * u = omega arith in
    record { low = le_of_mul-le-mul_right l U; high = le_of_mul-le-mul_right g U }

rounded_cancel : (x : Float) (y d u : ℕ) → 0 < u → Rounded x (y * u) (d * u) → Rounded x y d
rounded_cancel x y d u U h = record { size = h.size; value = h.value; within = cancel h.size y d u U h.within }

-- ---- the operations on two floats that are m / u and n / u: the one float is a / d, the other b / e
product : (a b d e m n u : ℕ) → a * u ≡ m * d → b * u ≡ n * e → a * b * (u * u) ≡ m * n * (d * e)
product a b d e m n u p q = mul-mul-mul_comm a b u u ∙ ap (λ (z : ℕ). z * (b * u)) p ∙ ap (λ (z : ℕ). m * d * z) q ∙ mul-mul-mul_comm m d n e

total : (a b d e m n u : ℕ) → a * u ≡ m * d → b * u ≡ n * e → (a * e + b * d) * u ≡ (m + n) * (d * e)
total a b d e m n u p q =
    let x : a * u * e ≡ m * d * e = ap (λ (z : ℕ). z * e) p in
    let y : b * u * d ≡ n * e * d = ap (λ (z : ℕ). z * d) q in
    omega arith

quotient : (a b d e m n u : ℕ) → 0 < u → a * u ≡ m * d → b * u ≡ n * e → a * e * n ≡ m * (b * d)
quotient a b d e m n u U p q =
    let x : a * u * (e * n) ≡ m * d * (e * n) = ap (λ (z : ℕ). z * (e * n)) p in
    let y : b * u * (m * d) ≡ n * e * (m * d) = ap (λ (z : ℕ). z * (m * d)) q in
    eq_of_mul-eq-mul_right u U (a * e * n) (m * (b * d)) (omega arith)

pub mul_is : (x y : Float) (m n u : ℕ) → 0 < u → HasValue x false m u → HasValue y false n u → mul binary64 x y ≡ round binary64 false (m * n) (u * u)
unfolding mul
mul_is nan y m n u U p q = absurd p
mul_is (inf s) y m n u U p q = absurd p
mul_is (fin true a d) y m n u U p q = absurd (true≢false p.0)
mul_is (fin false a d) nan m n u U p q = absurd q
mul_is (fin false a d) (inf t) m n u U p q = absurd q
mul_is (fin false a d) (fin true b e) m n u U p q = absurd (true≢false q.0)
mul_is (fin false a d) (fin false b e) m n u U p q =
    round_same binary64 false (a * up d * (b * up e)) (down d * down e) (m * n) (u * u) (mul-pos (down_pos d) (down_pos e)) (mul-pos U U)
    (product (a * up d) (b * up e) (down d) (down e) m n u p.1 q.1)

pub add_is : (x y : Float) (m n u : ℕ) → 0 < u → HasValue x false m u → HasValue y false n u → add binary64 x y ≡ round binary64 false (m + n) u
unfolding add
add_is nan y m n u U p q = absurd p
add_is (inf s) y m n u U p q = absurd p
add_is (fin true a d) y m n u U p q = absurd (true≢false p.0)
add_is (fin false a d) nan m n u U p q = absurd q
add_is (fin false a d) (inf t) m n u U p q = absurd q
add_is (fin false a d) (fin true b e) m n u U p q = absurd (true≢false q.0)
add_is (fin false a d) (fin false b e) m n u U p q =
    round_same binary64 false (a * up d * down e + b * up e * down d) (down d * down e) (m + n) u (mul-pos (down_pos d) (down_pos e)) U
    (total (a * up d) (b * up e) (down d) (down e) m n u p.1 q.1)

not_zero : (b : ℕ) (x y : Float) → 0 < b → cond (eqb b 0) x y ≡ y
not_zero b x y B = go (eqb b 0) (eqb→eq b 0)
  where
    go : (t : Bool) → (T t → b ≡ 0) → cond t x y ≡ y
    go true e = absurd (lt_irrefl 0 (subst (λ (k : ℕ). 0 < k) (e tt) B))
    go false e = refl

div_is : (x y : Float) (m n u : ℕ) → 0 < u → 0 < n → HasValue x false m u → HasValue y false n u → div binary64 x y ≡ round binary64 false m n
unfolding div
div_is nan y m n u U N p q = absurd p
div_is (inf s) y m n u U N p q = absurd p
div_is (fin true a d) y m n u U N p q = absurd (true≢false p.0)
div_is (fin false a d) nan m n u U N p q = absurd q
div_is (fin false a d) (inf t) m n u U N p q = absurd q
div_is (fin false a d) (fin true b e) m n u U N p q = absurd (true≢false q.0)
div_is (fin false a d) (fin false b e) m n u U N p q =
    let B : 0 < b * up e = first_pos (b * up e) u (subst (λ (z : ℕ). 0 < z) (sym q.1) (mul-pos N (down_pos e))) in
    not_zero b (cond (eqb a 0) nan (inf false)) (round binary64 false (a * up d * down e) (b * up e * down d)) (first_pos b (up e) B)
    ∙ round_same binary64 false (a * up d * down e) (b * up e * down d) m n (mul-pos B (down_pos d)) N
    (quotient (a * up d) (b * up e) (down d) (down e) m n u U p.1 q.1)

-- ---- each operation is right to one part in 2 ^ 53
pub mul_within : (x y : Float) (m n : ℕ) → HasValue x false m unit → HasValue y false n unit → InRange (m * n) unit → Rounded (mul binary64 x y) (m * n) unit
mul_within x y m n p q h =
    let U : 0 < unit = pow_pos 1074 in
    rounded_cancel (mul binary64 x y) (m * n) unit unit U
    (subst (λ (z : Float). Rounded z (m * n * unit) (unit * unit)) (sym (mul_is x y m n unit U p q)) (round_within (m * n) (unit * unit) (mul-pos U U) (widen (m * n) unit unit h)))

pub add_within : (x y : Float) (m n : ℕ) → HasValue x false m unit → HasValue y false n unit → InRange (m + n) 1 → Rounded (add binary64 x y) (m + n) 1
add_within x y m n p q h =
    let U : 0 < unit = pow_pos 1074 in
    rounded_cancel (add binary64 x y) (m + n) 1 unit U
    (subst (λ (z : Float). Rounded z ((m + n) * unit) (1 * unit)) (sym (add_is x y m n unit U p q)) (round_within (m + n) unit U (widen (m + n) 1 unit h)))

pub div_within : (x y : Float) (m n : ℕ) → HasValue x false m unit → HasValue y false n unit → 0 < n → InRange (m * unit) n → Rounded (div binary64 x y) (m * unit) n
div_within x y m n p q N h = subst (λ (z : Float). Rounded z (m * unit) n) (sym (div_is x y m n unit (pow_pos 1074) N p q)) (round_within m n N h)
