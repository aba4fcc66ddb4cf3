-- A coordinate that is taken: the two tests of its size, and its product with 65,536, which is exact.
use Rattle.std.proofs.Common.{◌≡◌, ℕ, zero, suc, ◌+◌, ◌-◌, ◌*◌, ◌%◌, ◌^◌, ◌<◌, ◌≤◌, Bool, true, false, ◌&&◌, ◌||◌, T, eqb, ltb, leb, ℤ, pos, negsuc, sym, refl, ap, ◌∙◌, le_trans, le_of_eq, lt_of_le_of_lt, mul-le-mul_right, mul_assoc, mul-one, mul_right_comm, not-le_of_lt, le_of_mul-le-mul_right, arith, lit<, lit≤, eqb→eq, ltb→lt, leb→le, pow-add, ltb-false, ltb-true, lt-ltb, eqb-true, le-leb, leb-false, leb-true}
use mathlib.Core.Bool.{false≢true}
use lib.Pow.{pow-lt}
use lib.Ieee.{Float, nan, inf, fin, binary64, up, down, round, mul, le, fits}
use lib.Ieee.Fits.{up_pos, down_pos, and_l, and_r}
use lib.Ieee.Exact.{HasValue, round_exact}
use borrow.Author.Tests.{eqb-false, lt-leb}
use Rattle.rules.specs.Values.{fraction}
use Rattle.rules.specs.Probes.{signed, rounded_down, coordinate_ok}
use Rattle.rules.proofs.Probes.{unlike_false}

-- Both tests together are the definition's: a ≤ b where a < b or a = b, on either side of 0.
less_or_equal : (a b : ℕ) (u : Bool) → (u ≡ true → a ≡ b) → (u ≡ false → a ≡ b → ⊥)
    → (ltb a b || (u && true)) ≡ leb a b
less_or_equal a b u h k = go (ltb a b) u refl h k
  where
    apart : b ≤ a → (a ≡ b → ⊥) → b < a
    apart i n = omega arith

    go : (t u : Bool) → ltb a b ≡ t → (u ≡ true → a ≡ b) → (u ≡ false → a ≡ b → ⊥) → (t || (u && true)) ≡ leb a b
    go true u e h k = sym (le-leb a b (omega (arith, ltb-true a b e)))
    go false true e h k = sym (le-leb a b (omega (arith, h refl)))
    go false false e h k = sym (lt-leb a b (apart (ltb-false a b e) (k refl)))

pub either : (t u : Bool) → t ≡ true → (t || u) ≡ true
either true u e = refl
either false u e = absurd (false≢true e)

and_true : (t : Bool) → (t && true) ≡ t
and_true true = refl
and_true false = refl

pub within_limits : (c : Float)
    → (le c (fin false 32767 (pos 0)) && le (fin true 32767 (pos 0)) c) ≡ coordinate_ok c
unfolding le coordinate_ok
within_limits nan = refl
within_limits (inf true) = refl
within_limits (inf false) = refl
within_limits (fin false m e) =
    let a = m * up e * 1 in
    let b = 32767 * down e in
    let x : le (fin false m e) (fin false 32767 (pos 0)) ≡ leb a b
    = less_or_equal a b (eqb a b) (eqb-true a b) (eqb-false a b) in
    let y : le (fin true 32767 (pos 0)) (fin false m e) ≡ true
    = either (ltb 0 (b + a)) _ (lt-ltb 0 (b + a) (omega (arith, down_pos e))) in
    rw (x, y) (and_true (leb a b) ∙ ap (λ n. leb n b) (mul-one (m * up e)))
within_limits (fin true m e) =
    let a = m * up e * 1 in
    let b = 32767 * down e in
    let x : le (fin true m e) (fin false 32767 (pos 0)) ≡ true
    = either (ltb 0 (a + b)) _ (lt-ltb 0 (a + b) (omega (arith, down_pos e))) in
    let y : le (fin true 32767 (pos 0)) (fin true m e) ≡ leb a b
    = less_or_equal a b (eqb b a) (λ h. sym (eqb-true b a h)) (λ h k. eqb-false b a h (sym k)) in
    rw (x, y) (ap (λ n. leb n b) (mul-one (m * up e)))

-- What a format that holds a number says of it.
digits : (s : Bool) (m : ℕ) (e : ℤ) → T (fits binary64 (fin s m e)) → (m < 2 ^ 53) × (down e ≤ 2 ^ 1074)
unfolding fits
digits s zero e t =
    let one : up e * down e ≡ 1 = eqb→eq (up e * down e) 1 t in
    (lit< tt, le_trans (omega (arith, one, mul-le-mul_right (down e) (up_pos e))) (lit≤ {m = 1} {n = 2 ^ 1074} tt))
digits s (suc m) e t =
    let a : Bool = eqb (suc m % 2) 1 in
    let b : Bool = ltb (suc m) (2 ^ 53) in
    let c : Bool = leb (down e) (2 ^ 1074) in
    let abc = and_l (a && b && c) _ t in
    (ltb→lt (suc m) (2 ^ 53) (and_r a b (and_l (a && b) c abc)), leb→le (down e) (2 ^ 1074) (and_r (a && b) c abc))

-- 2^e in units of 2^−1,090 is a power of two.
exponent : (k n : ℕ) → 2 ^ k ≤ 2 ^ n → k ≤ n
exponent k n h = go (leb k n) refl
  where
    go : (t : Bool) → leb k n ≡ t → k ≤ n
    go true e = leb-true k n e
    go false e = absurd (not-le_of_lt (pow-lt (leb-false k n e)) h)

shift : (e : ℤ) → down e ≤ 2 ^ 1074 → (j : ℕ) × (up e * 2 ^ 1090 ≡ 2 ^ j * down e)
shift (pos k) h = (k + 1090, sym (pow-add 2 k 1090) ∙ sym (mul-one (2 ^ (k + 1090))))
shift (negsuc k) h =
    let i = exponent (suc k) 1074 h in
    let e : 1090 ≡ 1090 - suc k + suc k = omega arith in
    (1090 - suc k, ap (λ n. 2 ^ n) e ∙ pow-add 2 (1090 - suc k) (suc k))

exact : (s : Bool) (m : ℕ) (e : ℤ) → m < 2 ^ 53 → down e ≤ 2 ^ 1074 → m * up e ≤ 32767 * down e
    → HasValue (round binary64 s (m * up e * 65536) (down e)) s (m * up e * 65536) (down e)
exact s m e h k l =
    let d = down e in
    let n = m * up e in
    let j = shift e k in
    let q = m * 2 ^ j.0 in
    let scaled : n * 65536 * 2 ^ 1074 ≡ q * d
    = mul_assoc n 65536 (2 ^ 1074) ∙ mul_assoc m (up e) (2 ^ 1090) ∙ ap (λ a. m * a) j.1
    ∙ sym (mul_assoc m (2 ^ j.0) d) in
    let top : q ≤ 32767 * 2 ^ 1090
    = le_of_mul-le-mul_right
    (le_trans (le_of_eq (sym scaled ∙ mul_assoc n 65536 (2 ^ 1074)))
    (le_trans (mul-le-mul_right (2 ^ 1090) l) (le_of_eq (mul_right_comm 32767 d (2 ^ 1090))))) (down_pos e) in
    round_exact binary64 s (n * 65536) d m j.0 (down_pos e) h (lt_of_le_of_lt top (lit< tt)) scaled

-- A coordinate that is taken, c, as n/d with a sign, and the product x.
pub record Taken (c x : Float) : Type 0 where
  pub sign : Bool
  pub over : ℕ
  pub under : ℕ
  pub positive : 0 < under
  pub small : over ≤ 32767 * under
  pub value : HasValue x sign (over * 65536) under
  pub rounded : rounded_down c ≡ fraction (signed sign over) under

pub taken : (c : Float) → T (fits binary64 c) → coordinate_ok c ≡ true
    → Taken c (mul binary64 c (fin false 1 (pos 16)))
unfolding coordinate_ok mul
taken nan t e = absurd (false≢true e)
taken (inf s) t e = absurd (false≢true e)
taken (fin s m e) t k =
    let h = leb-true (m * up e) (32767 * down e) k in
    let f = digits s m e t in
    record {
      sign = s;
      over = m * up e;
      under = down e;
      positive = down_pos e;
      small = h;
      value = rw (unlike_false s, mul-one (down e)) (exact s m e f.0 f.1 h);
      rounded = refl;
    }
