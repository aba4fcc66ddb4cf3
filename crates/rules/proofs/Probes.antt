-- What is owed of a probe: coordinates are rounded down and the result is a value; the number in the answer is exact; a
-- coordinate is the fraction that its bits mean.
use mathlib.Core.Path.{◌≡◌, refl, sym, ap, subst, ◌∙◌}
use mathlib.Core.Bool.{Bool, true, false, false≢true}
use lib.IntN.{ℤ, pos, negsuc, neg_ℤ, nat_abs, ◌+ℤ◌, ◌*ℤ◌, +ℤ_one, suc_ℤ-*ℤ}
use Prim.Native.Nat.{ℕ, zero, suc, ◌+◌, ◌-◌, ◌*◌, ◌/◌, ◌%◌, ◌^◌, ◌≤◌, ◌<◌}
use native.Mathlib.Nat.{zero-mul, mul_assoc, mul-one, mul_comm, lt_of_lt_of_le, div-le_of_le-mul, div-lt_iff_lt-mul}
use native.Mathlib.Omega.{arith}
use lib.Dec.{eqb, leb, lit<, lit≤, eqb-suc-zero}
use lib.Signed.{shr_z}
use lib.Pow.{pow_mono, shl_lt}
use lib.Ieee.{Float, nan, inf, fin, binary64, up, down, unlike, odd, of_fields, of_bits, of_int, round, div}
use lib.Ieee.Fits.{down_pos}
use lib.Ieee.Exact.{HasValue, odd_sign, round_exact}
use lib.Ieee.Back.{round_whole}
use lib.Ieee.Scale.{round_same}
use borrow.Author.Tests.{leb-true, ne_eqb}
use Rattle.rules.specs.Values.{pick, IsValue, is_neg, below, fraction}
use Rattle.rules.specs.Probes.{signed, over, under, is_finite, bits_exponent, bits_over, rounded_down, RoundsDown}
use Rattle.rules.specs.Probes.{coordinate_ok, stored_float, Exactly}
use Rattle.rules.proofs.Order.{at_most_not_below}
use Rattle.rules.proofs.Quotient.{fraction_law}

pub under_pos : (c : Float) → 0 < under c
under_pos nan = omega arith
under_pos (inf s) = omega arith
under_pos (fin s m e) = down_pos e

-- "never above the coordinate, less than one unit below it".
rounds_by : (a : ℤ) (d : ℕ) → 0 < d
    → (below (a *ℤ pos 65536) (fraction a d *ℤ pos d) ≡ false)
    × (below (a *ℤ pos 65536) ((fraction a d +ℤ pos 1) *ℤ pos d) ≡ true)
rounds_by a zero h = absurd (omega arith)
rounds_by a (suc b) h =
    let f = fraction_law a b in
    let v = fraction a (suc b) in
    let next : (v +ℤ pos 1) *ℤ pos (suc b) ≡ v *ℤ pos (suc b) +ℤ pos (suc b)
    = ap (λ w. w *ℤ pos (suc b)) (+ℤ_one v) ∙ suc_ℤ-*ℤ v (pos (suc b)) in
    (at_most_not_below _ _ f.from, ap (below (a *ℤ pos 65536)) next ∙ f.to)

pub rounded_down_lem : (c : Float) → RoundsDown c (rounded_down c)
rounded_down_lem c =
    let f = rounds_by (over c) (under c) (under_pos c) in record { never_above = f.0; within_a_unit = f.1 }

-- A fraction with a sign, as the definition has it.
pub negative : (n : ℕ) → 0 < n → neg_ℤ (pos n) ≡ negsuc (n - 1)
negative zero h = absurd (omega arith)
negative (suc n) h = ap negsuc (omega arith)

pub signed_times : (s : Bool) (n k : ℕ) → signed s n *ℤ pos k ≡ signed s (n * k)
signed_times false n k = refl
signed_times true zero k = simp zero-mul
signed_times true (suc n) k = refl

pub floor_below : (n d : ℕ) → 0 < n → fraction (neg_ℤ (pos n)) d ≡ negsuc ((n * 65536 - 1) / d)
floor_below n d h = ap (λ z. shr_z z d) (signed_times true n 65536 ∙ negative (n * 65536) (omega arith))

-- An accepted coordinate is rounded to a value.
bounded : (s : Bool) (n d : ℕ) → 0 < d → n ≤ 32767 * d → nat_abs (fraction (signed s n) d) ≤ 2147418112
bounded false n d h k = div-le_of_le-mul d (omega arith)
bounded true zero d h k = div-le_of_le-mul d (omega arith)
bounded true (suc n) d h k =
    rw (floor_below (suc n) d (omega arith)) ((div-lt_iff_lt-mul h).1 (omega arith))

pub rounded_bound : (c : Float) → coordinate_ok c ≡ true → nat_abs (rounded_down c) ≤ 2147418112
unfolding coordinate_ok
rounded_bound nan e = absurd (false≢true e)
rounded_bound (inf s) e = absurd (false≢true e)
rounded_bound (fin s m e) k = bounded s (m * up e) (down e) (down_pos e) (leb-true (m * up e) (32767 * down e) k)

pub rounded_value : (c : Float) → coordinate_ok c ≡ true → IsValue (rounded_down c)
rounded_value c e = record { bound = omega (arith, rounded_bound c e) }

-- A value a/c with a sign s, as the kit says it, is that fraction.
pub value_fraction : (x : Float) (s : Bool) (a c : ℕ) → HasValue x s a c
    → (is_finite x ≡ true) × (over x *ℤ pos c ≡ signed s a *ℤ pos (under x))
value_fraction nan s a c h = elim h [ ]
value_fraction (inf _) s a c h = elim h [ ]
value_fraction (fin t m e) s a c h = (
  refl,
  signed_times t (m * up e) c ∙ ap (signed t) h.1 ∙ ap (λ u. signed u (a * down e)) h.0
      ∙ sym (signed_times s a (down e)),
)

-- A coordinate is the fraction that its bits mean.
fields_none : (s : Bool) (t : ℕ) → HasValue (of_fields binary64 s 0 t) s t (2 ^ 1074)
unfolding of_fields
fields_none s t = subst (λ n. HasValue (odd 53 s t 0 1074) s n (2 ^ 1074)) (mul-one t) (odd_sign 53 s t 0 1074)

fields_some : (s : Bool) (x t : ℕ) → suc x < 2047
    → HasValue (of_fields binary64 s (suc x) t) s ((2 ^ 52 + t) * 2 ^ x) (2 ^ 1074)
unfolding of_fields
fields_some s x t h = rw (ne_eqb (suc x) 2047 (λ e. omega arith)) (odd_sign 53 s (2 ^ 52 + t) x 1074)

pub bits_mean : (b : ℕ) → bits_exponent b < 2047
    → (is_finite (of_bits binary64 b) ≡ true)
    × (over (of_bits binary64 b) *ℤ pos (2 ^ 1074) ≡ bits_over b *ℤ pos (under (of_bits binary64 b)))
unfolding of_bits
bits_mean b h = go (leb (2 ^ 63) b) (bits_exponent b) (b % 2 ^ 52) h
  where
    go : (s : Bool) (x t : ℕ) → x < 2047
        → (let c = of_fields binary64 s x t in
        (is_finite c ≡ true)
        × (over c *ℤ pos (2 ^ 1074) ≡ signed s (pick (eqb x 0) t ((2 ^ 52 + t) * 2 ^ (x - 1))) *ℤ pos (under c)))
    go s zero t h = value_fraction (of_fields binary64 s 0 t) s t (2 ^ 1074) (fields_none s t)
    go s (suc x) t h =
        let n = (2 ^ 52 + t) * 2 ^ x in
        let v = value_fraction (of_fields binary64 s (suc x) t) s n (2 ^ 1074) (fields_some s x t h) in
        let e : suc x - 1 ≡ x = omega arith in
        rw (e, eqb-suc-zero x) v

-- The number in the answer is exact.
pub unlike_false : (t : Bool) → unlike t false ≡ t
unlike_false true = refl
unlike_false false = refl

divided : (x : Float) (s : Bool) (a : ℕ) → HasValue x s a 1
    → div binary64 x (fin false 1 (pos 16)) ≡ round binary64 s a 65536
unfolding div
divided nan s a h = elim h [ ]
divided (inf _) s a h = elim h [ ]
divided (fin t m e) s a h =
    let n = m * up e * 1 in
    let d = 65536 * down e in
    let cross : n * 65536 ≡ a * d = ap (λ k. k * 65536) h.1 ∙ mul_assoc a (down e) 65536
    ∙ ap (λ k. a * k) (mul_comm (down e) 65536) in
    ap (λ u. round binary64 u n d) (unlike_false t ∙ h.0)
    ∙ round_same binary64 s n d a 65536 (omega (arith, down_pos e)) (lit< tt) cross

pub magnitude : (v : ℤ) → nat_abs v ≤ 2 ^ 53 → HasValue (of_int binary64 v) (is_neg v) (nat_abs v) 1
unfolding of_int
magnitude (pos a) h = round_whole binary64 false a h
magnitude (negsuc a) h = round_whole binary64 true (suc a) h

signed_value : (v : ℤ) → signed (is_neg v) (nat_abs v) ≡ v
signed_value (pos a) = refl
signed_value (negsuc a) = refl

quotient_exact : (s : Bool) (a : ℕ) → a < 2 ^ 53 → HasValue (round binary64 s a 65536) s a 65536
quotient_exact s a h =
    round_exact binary64 s a 65536 a 1058 (lit< tt) h
    (lt_of_lt_of_le (shl_lt 53 1058 h) (pow_mono {i = 1111} {j = 2098} (lit≤ tt)))
    (sym (mul_assoc a (2 ^ 1058) 65536))

pub stored_exactly : (v : ℤ) → IsValue v → Exactly v (stored_float v)
unfolding stored_float
stored_exactly v k =
    let s = is_neg v in
    let a = nat_abs v in
    let e = divided (of_int binary64 v) s a (magnitude v (omega (arith, k.bound))) in
    let h = quotient_exact s a (omega (arith, k.bound)) in
    let f = value_fraction (stored_float v) s a 65536 (subst (λ x. HasValue x s a 65536) (sym e) h) in
    record { finite = f.0; same = f.1 ∙ ap (λ z. z *ℤ pos (under (stored_float v))) (signed_value v) }
