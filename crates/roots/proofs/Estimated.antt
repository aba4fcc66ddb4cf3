-- The estimate of a number's root: each step's size and rounding, how near the last one is, and its last digits.
use mathlib.Core.Path.{◌≡◌, refl, sym, ap, ◌∙◌, subst}
use mathlib.Core.Bool.{Bool, true, false}
use native.Mathlib.Nat.{lt_of_le_of_lt, mul-le-mul, mul-le-mul_left, mul-le-mul_right, le_of_mul-le-mul_right}
use native.Mathlib.Omega.{arith}
use Prim.Native.Nat.{ℕ, zero, suc, ◌+◌, ◌-◌, ◌*◌, ◌^◌, ◌<◌, ◌≤◌}
use borrow.Author.Tests.{ltb-true, ltb-false}
use lib.Dec.{ltb, lit≤, lit<}
use lib.IntN.{pos}
use lib.Pow.{pow_pos}
use lib.Ieee.{Float, fin, binary64, add, mul, div, of_bits}
use lib.Ieee.Exact.{HasValue}
use Rattle.roots.specs.Estimates.{number_of, first_of, digits_of, Estimate, Halves}
use Rattle.roots.proofs.Rounding.{unit, Within}
use Rattle.roots.proofs.FirstEstimate.{number_size, number_value, pattern_bound, First, first_near}
use Rattle.roots.proofs.Heron.{Steps, estimate_near, estimate_steps}
use Rattle.roots.proofs.Floats.{value_some}
use Rattle.roots.proofs.Sizes.{Sized, wider, Result, mul_result, add_result, div_result}
use Rattle.roots.proofs.LastDigits.{nearest_of, last_of, sum_digits, sum_value}

-- a number's float, and half of its pattern
pub number_halves : (x : Float) (m : ℕ) → m < 2147483648 → x ≡ number_of m → Halves x
number_halves x m h e = rw e (record { some = value_some (number_of m) (number_size m) unit (number_value m h); half = pattern_bound m h })

-- ---- sizes: the number's, the first estimate's, and those of the two factors
number_in : (m p : ℕ) → m < 2147483648 → Sized (131072 * p) 2147483648 ((131072 * m + 1) * p)
number_in m p h =
    let l : (131072 * m + 1) * p ≤ 281474976710656 * p = mul-le-mul_right p (most m h) in
    record { low = omega arith; high = omega arith }
  where
    most : (m : ℕ) → m < 2147483648 → 131072 * m + 1 ≤ 281474976710656
    most m h = omega arith

number_sized : (m : ℕ) → m < 2147483648 → Sized unit 2147483648 (number_size m)
number_sized m h = number_in m (2 ^ 1057) h

number_above : (m p : ℕ) → 131072 * p ≤ 131072 * ((131072 * m + 1) * p)
number_above m p = omega arith

root_le : (b c : ℕ) → b * b ≤ c * c → b ≤ c
root_le b c h = by (ltb c b) refl
  where
    squares : c < b → suc c * suc c ≤ b * b
    squares g = mul-le-mul g g

    by : (t : Bool) → ltb c b ≡ t → b ≤ c
    by true e = absurd (omega (arith, squares (ltb-true c b e)))
    by false e = ltb-false c b e

-- a is near the root of x
root_sized : (S x a : ℕ) → S ≤ 131072 * x → x ≤ 2147483648 * S → 9 * (x * S) ≤ 10 * (a * a) → 10 * (a * a) ≤ 11 * (x * S) → Sized S 65536 a
root_sized S x a l h n f =
    let u : S * S ≤ 131072 * x * S = mul-le-mul_right S l in
    let v : x * S ≤ 2147483648 * S * S = mul-le-mul_right S h in
    let p : S * S ≤ 65536 * a * (65536 * a) = omega arith in
    let q : a * a ≤ 65536 * S * (65536 * S) = omega arith in
    record { low = root_le S (65536 * a) p; high = root_le a (65536 * S) q }

sized_root : (m a : ℕ) → m < 2147483648 → 9 * (number_size m * unit) ≤ 10 * (a * a) → 10 * (a * a) ≤ 11 * (number_size m * unit) → Sized unit 65536 a
sized_root m a h = root_sized unit (number_size m) a (number_above m (2 ^ 1057)) (number_sized m h).high

first_rough : (y z : ℕ) → 932 * y ≤ 1000 * z → 1000 * z ≤ 1072 * y → (9 * y ≤ 10 * z) × (10 * z ≤ 11 * y)
first_rough y z l h = (omega arith, omega arith)

last_rough : (y z : ℕ) → 99999993 * y ≤ 100000000 * z → 100000000 * z ≤ 100000007 * y → (9 * y ≤ 10 * z) × (10 * z ≤ 11 * y)
last_rough y z l h = (omega arith, omega arith)

-- 8187 / 2^15, as the code writes it
abbrev quarter : Float
quarter = of_bits binary64 4598169721987137536

abbrev quarter_size : ℕ
quarter_size = 8187 * 2 ^ 1059

quarter_value : HasValue quarter false quarter_size unit
unfolding of_bits
quarter_value = (refl, refl)

quarter_sized : Sized unit (2 ^ 3) quarter_size
quarter_sized = record { low = lit≤ tt; high = lit≤ tt }

-- 8391169 / 2^23
abbrev factor : Float
factor = of_bits binary64 4607183793726423040

abbrev factor_size : ℕ
factor_size = 8391169 * 2 ^ 1051

factor_value : HasValue factor false factor_size unit
unfolding of_bits
factor_value = (refl, refl)

factor_sized : Sized unit 2 factor_size
factor_sized = record { low = lit≤ tt; high = lit≤ tt }

-- ---- a factor that is c units is n / d
as_fraction : (r v c u n d : ℕ) → 0 < u → d * c ≡ n * u → Within r (v * c) u → Within r (v * n) d
as_fraction r v c u n d U e w =
    let j : v * (d * c) ≡ v * (n * u) = ap (λ (z : ℕ). v * z) e in
    let l : d * (9007199254740991 * (v * c)) ≤ d * (9007199254740992 * (r * u)) = mul-le-mul_left d w.low in
    let h : d * (9007199254740992 * (r * u)) ≤ d * (9007199254740993 * (v * c)) = mul-le-mul_left d w.high in
    let x : 9007199254740991 * (v * n) * u ≤ 9007199254740992 * (r * d) * u = omega arith in
    let y : 9007199254740992 * (r * d) * u ≤ 9007199254740993 * (v * n) * u = omega arith in
    record { low = le_of_mul-le-mul_right x U; high = le_of_mul-le-mul_right y U }

sized_some : (S k r : ℕ) → 0 < S → Sized S k r → 0 < r
sized_some S k zero h s = absurd (omega (arith, s.low))
sized_some S k (suc r) h s = omega arith

in_ones : (n p : ℕ) → 131072 * (n * p) ≡ n * (131072 * p)
in_ones n p = omega arith

-- ---- what the last digits are is the estimate
estimate_of : (m e : ℕ) (s : Float) → digits_of s ≡ e → HasValue s false (4503599627370496 + e) 256 → ((k : ℕ) → k + 1 ≡ e → k * k ≤ 65536 * m)
    → 65536 * m < (e + 1) * (e + 1)
    → Estimate m s
estimate_of m e s d v l g =
    record {
      value = subst (λ (z : ℕ). HasValue s false (4503599627370496 + z) 256) (sym d) v;
      low = λ k q. l k (q ∙ d);
      high = subst (λ (z : ℕ). 65536 * m < (z + 1) * (z + 1)) (sym d) g;
    }

rounded_estimate : (m t : ℕ) (y : Float) → m < 2147483648 → HasValue y false t unit → 99999993 * (number_size m * unit) ≤ 100000000 * (t * t)
    → 100000000 * (t * t) ≤ 100000007 * (number_size m * unit)
    → Estimate m (add binary64 y (fin false 1 (pos 44)))
rounded_estimate m t y h v l g =
    let r = last_rough (number_size m * unit) (t * t) l g in
    let b = lt_of_le_of_lt (sized_root m t h r.0 r.1).high (lit< tt) in
    let last = last_of t in
    let e = nearest_of t - 4503599627370496 in
    let s = estimate_steps unit m (number_size m) t e (pow_pos 1074) h (in_ones (131072 * m + 1) (2 ^ 1057)) last.low last.high l g in
    estimate_of m e (add binary64 y (fin false 1 (pos 44))) (sum_digits y t e v b last s.2) (sum_value y t e v b last s.2) s.0 s.1

-- ---- the steps from x, a number, and its first estimate a
abbrev square_of : Float → Float
square_of a = mul binary64 a a

abbrev sum_of : Float → Float → Float
sum_of x a = add binary64 (square_of a) x

abbrev upper_of : Float → Float → Float
upper_of x a = add binary64 (mul binary64 (square_of (sum_of x a)) quarter) (mul binary64 (square_of a) x)

abbrev ratio_of : Float → Float → Float
ratio_of x a = div binary64 factor (mul binary64 a (sum_of x a))

abbrev pub near_of : Float → Float → Float
near_of x a = mul binary64 (upper_of x a) (ratio_of x a)

module _ (m : ℕ) (x a : Float) (h : m < 2147483648) (ex : x ≡ number_of m) (ea : a ≡ first_of x) where
  x_value : HasValue x false (number_size m) unit
  x_value = rw ex (number_value m h)

  x_sized : Sized unit (2 ^ 31) (number_size m)
  x_sized = number_sized m h

  f : First m
  f = first_near m h

  a_value : HasValue a false f.size unit
  a_value = subst (λ (y : Float). HasValue y false f.size unit) (sym (ea ∙ ap (λ (y : Float). first_of y) ex)) f.value

  a_sized : Sized unit (2 ^ 16) f.size
  a_sized =
      let r = first_rough (number_size m * unit) (f.size * f.size) f.low f.high in
      sized_root m f.size h r.0 r.1

  q : Result (square_of a) (f.size * f.size) unit (2 ^ 33)
  q = mul_result a a (2 ^ 16) (2 ^ 16) f.size f.size a_value a_value a_sized a_sized tt

  u : Result (sum_of x a) (q.size + number_size m) 1 (2 ^ 35)
  u =
      add_result (square_of a) x (2 ^ 33) q.size (number_size m) q.value x_value q.sized
      (wider unit (2 ^ 31) (2 ^ 33) (number_size m) (lit≤ tt) x_sized)
      tt

  v : Result (square_of (sum_of x a)) (u.size * u.size) unit (2 ^ 71)
  v = mul_result (sum_of x a) (sum_of x a) (2 ^ 35) (2 ^ 35) u.size u.size u.value u.value u.sized u.sized tt

  z : Result (mul binary64 (square_of (sum_of x a)) quarter) (v.size * quarter_size) unit (2 ^ 75)
  z = mul_result (square_of (sum_of x a)) quarter (2 ^ 71) (2 ^ 3) v.size quarter_size v.value quarter_value v.sized quarter_sized tt

  w : Result (mul binary64 (square_of a) x) (q.size * number_size m) unit (2 ^ 65)
  w = mul_result (square_of a) x (2 ^ 33) (2 ^ 31) q.size (number_size m) q.value x_value q.sized x_sized tt

  n : Result (upper_of x a) (z.size + w.size) 1 (2 ^ 77)
  n =
      add_result (mul binary64 (square_of (sum_of x a)) quarter) (mul binary64 (square_of a) x) (2 ^ 75) z.size w.size z.value w.value z.sized
      (wider unit (2 ^ 65) (2 ^ 75) w.size (lit≤ tt) w.sized)
      tt

  d : Result (mul binary64 a (sum_of x a)) (f.size * u.size) unit (2 ^ 52)
  d = mul_result a (sum_of x a) (2 ^ 16) (2 ^ 35) f.size u.size a_value u.value a_sized u.sized tt

  g : Result (ratio_of x a) (factor_size * unit) d.size (2 ^ 54)
  g =
      div_result factor (mul binary64 a (sum_of x a)) 2 (2 ^ 52) factor_size d.size factor_value d.value factor_sized d.sized
      (sized_some unit (2 ^ 52) d.size (pow_pos 1074) d.sized)
      tt

  t : Result (near_of x a) (n.size * g.size) unit (2 ^ 132)
  t = mul_result (upper_of x a) (ratio_of x a) (2 ^ 77) (2 ^ 54) n.size g.size n.value g.value n.sized g.sized tt

  steps : Steps unit factor_size (number_size m) f.size q.size u.size v.size z.size w.size n.size d.size g.size t.size
  steps =
      record {
        unit = pow_pos 1074;
        some = sized_some unit (2 ^ 31) (number_size m) (pow_pos 1074) x_sized;
        low = f.low;
        high = f.high;
        q_is = q.within;
        u_is = u.within;
        v_is = v.within;
        z_is = as_fraction z.size v.size quarter_size unit 8187 32768 (pow_pos 1074) refl z.within;
        w_is = w.within;
        n_is = n.within;
        d_is = d.within;
        f_is = refl;
        g_is = g.within;
        t_is = t.within;
      }

  pub near_estimate : Estimate m (add binary64 (near_of x a) (fin false 1 (pos 44)))
  near_estimate =
      let e = estimate_near steps in
      rounded_estimate m t.size (near_of x a) h t.value e.0 e.1
