-- From the product to the unit: its whole part, and one less where the product is below that.
use Rattle.std.proofs.Common.{◌≡◌, ℕ, zero, suc, ◌+◌, ◌-◌, ◌*◌, ◌/◌, ◌^◌, ◌<◌, ◌≤◌, min, Bool, true, false, cond, T, ltb, leb, ℤ, pos, negsuc, ◌-ℤ◌, neg_ℤ, nat_abs, sym, refl, ap, ◌∙◌, subst, mul-le-mul_right, mul_assoc, mul_comm, div-lt_iff_lt-mul, add-mul, mul-lt-mul_of_pos_right, mul-pos, le-div_iff_mul-le, zero-mul, div-mul-le_self, mul_left_comm, arith, lit≤, le→leb, lt→ltb, leb→le, to_z-of_z, w32, w64, SFits, ltb-false, ltb-true, le-ltb, lt-ltb}
use lib.IntN.{ -ℤ_one}
use native.Mathlib.Nat.{div-le_of_le-mul, lt-div-mul-add}
use native.Mathlib.Nat.{mul-mul-mul_comm}
use lib.Ieee.{Float, nan, inf, fin, binary64, up, down, below, lt, le, of_int, to_signed, in_float}
use lib.Ieee.Fits.{down_pos}
use lib.Ieee.Exact.{HasValue}
use lib.Ieee.Nearest.{div_same}
use mir.Syntax.{Width}
use mir.Val.{hbits}
use Rattle.rules.specs.Values.{is_neg, fraction}
use Rattle.rules.specs.Probes.{signed, rounded_down}
use Rattle.rules.proofs.Words.{read}
use Rattle.rules.proofs.Order as Order
use Rattle.rules.proofs.Order.{parts, difference_parts}
use Rattle.rules.proofs.Probes.{floor_below, magnitude}
use Rattle.probe.proofs.Units.{Taken, either}

-- A comparison sees the values alone: multiplied by the same, both sides compare as they did.
scaled : (a b k : ℕ) → 0 < k → ltb a b ≡ ltb (a * k) (b * k)
scaled a b k h = go (ltb a b) refl
  where
    go : (t : Bool) → ltb a b ≡ t → t ≡ ltb (a * k) (b * k)
    go true e = sym (lt-ltb (a * k) (b * k) (mul-lt-mul_of_pos_right (ltb-true a b e) h))
    go false e = sym (le-ltb (a * k) (b * k) (mul-le-mul_right k (ltb-false a b e)))

below_scaled : (s : Bool) (a : ℕ) (t : Bool) (b k : ℕ) → 0 < k → below s a t b ≡ below s (a * k) t (b * k)
below_scaled false a false b k h = scaled a b k h
below_scaled false a true b k h = refl
below_scaled true a false b k h =
    scaled 0 (a + b) k h ∙ ap (λ z. ltb z ((a + b) * k)) (zero-mul k) ∙ ap (ltb 0) (add-mul a b k)
below_scaled true a true b k h = scaled b a k h

pub compared : (x y : Float) (s t : Bool) (a c b d : ℕ) → 0 < c → 0 < d → HasValue x s a c → HasValue y t b d
    → lt x y ≡ below s (a * d) t (b * c)
unfolding lt
compared nan _ s t a c b d h k x y = elim x [ ]
compared (inf _) _ s t a c b d h k x y = elim x [ ]
compared (fin u m e) nan s t a c b d h k x y = elim y [ ]
compared (fin u m e) (inf _) s t a c b d h k x y = elim y [ ]
compared (fin u m e) (fin v n g) s t a c b d h k x y =
    let l = down e * down g in
    let left : m * up e * down g * (c * d) ≡ a * d * l
    = mul-mul-mul_comm (m * up e) (down g) c d ∙ ap (λ z. z * (down g * d)) x.1
    ∙ simp (mul_assoc, mul_comm, mul_left_comm) in
    let right : n * up g * down e * (c * d) ≡ b * c * l
    = ap (λ z. n * up g * down e * z) (mul_comm c d) ∙ mul-mul-mul_comm (n * up g) (down e) d c
    ∙ ap (λ z. z * (down e * c)) y.1 ∙ simp (mul_assoc, mul_comm, mul_left_comm) in
    below_scaled u (m * up e * down g) v (n * up g * down e) (c * d) (mul-pos h k)
    ∙ ap (λ z. below u z v (n * up g * down e * (c * d))) left
    ∙ ap (λ z. below u (a * d * l) v z) right
    ∙ sym (below_scaled u (a * d) v (b * c) l (mul-pos (down_pos e) (down_pos g)))
    ∙ ap (λ z. below z (a * d) v (b * c)) x.0
    ∙ ap (λ z. below s (a * d) z (b * c)) y.0

-- The whole part.
cut : (x : Float) (s : Bool) (n d : ℕ) → 0 < d → n ≤ 2147418112 * d → HasValue x s n d
    → to_signed 63 x ≡ signed s (n / d)
unfolding to_signed
cut nan s n d h k v = elim v [ ]
cut (inf _) s n d h k v = elim v [ ]
cut (fin u m e) s n d h k v =
    let q = n / d in
    let same : m * up e / down e ≡ q = div_same (m * up e) (down e) n d (down_pos e) h v.1 in
    let few : q ≤ 2147418112 = div-le_of_le-mul d (omega arith) in
    rw same (cases u q few ∙ ap (λ z. signed z q) v.0)
  where
    cases : (u : Bool) (q : ℕ) → q ≤ 2147418112
        → cond u (neg_ℤ (pos (min q (2 ^ 63)))) (pos (min q (2 ^ 63 - 1))) ≡ signed u q
    cases true q f = let e : min q (2 ^ 63) ≡ q = omega arith in ap (λ a. neg_ℤ (pos a)) e
    cases false q f = let e : min q (2 ^ 63 - 1) ≡ q = omega arith in ap pos e

-- A quotient by its bounds, and the unit below a negative number.
div_is : (n d q : ℕ) → 0 < d → q * d ≤ n → n < q * d + d → n / d ≡ q
div_is n d q h k l =
    let low : q ≤ n / d = (le-div_iff_mul-le h).1 k in
    let high : n / d < suc q = (div-lt_iff_lt-mul h).1 (omega arith) in omega arith

under_zero : (a d q : ℕ) → 0 < d → 0 < a → q * d ≤ a * 65536 - 1 → a * 65536 - 1 < q * d + d
    → negsuc q ≡ fraction (neg_ℤ (pos a)) d
under_zero a d q h i k l = ap negsuc (sym (div_is (a * 65536 - 1) d q h k l)) ∙ sym (floor_below a d i)

-- The test of −n/d against −q, which is 0 where q is.
abbrev is_below : Bool → ℕ → ℕ → ℕ → Bool
is_below s n d q = below s (n * 1) (is_neg (signed s q)) (nat_abs (signed s q) * d)

test_true : (n d q : ℕ) → is_below true n d q ≡ true → q * d < n
test_true n d zero e = omega (arith, ltb-true 0 (n * 1 + 0 * d) e)
test_true n d (suc q) e = omega (arith, ltb-true (suc q * d) (n * 1) e)

test_false : (n d q : ℕ) → is_below true n d q ≡ false → n ≤ q * d
test_false n d zero e = omega (arith, ltb-false 0 (n * 1 + 0 * d) e)
test_false n d (suc q) e = omega (arith, ltb-false (suc q * d) (n * 1) e)

before : (q : ℕ) → signed true q -ℤ pos 1 ≡ negsuc q
before zero = refl
before (suc q) = -ℤ_one (negsuc q)

-- q is the whole part of n/d, for n = 65,536·a: it is the unit, or one above where the test holds.
abbrev WholePart : ℕ → ℕ → ℕ → Type 0
WholePart n d q = (q * d ≤ n) × (n < q * d + d)

one_less : (s : Bool) (a d q : ℕ) → 0 < d → WholePart (a * 65536) d q → is_below s (a * 65536) d q ≡ true
    → signed s q -ℤ pos 1 ≡ fraction (signed s a) d
one_less false a d q h w e = absurd (omega (arith, w.0, ltb-true (a * 65536 * 1) (q * d) e))
one_less true a d q h w e =
    let k = test_true (a * 65536) d q e in
    before q ∙ under_zero a d q h (omega arith) (omega arith) (omega (arith, w.1))

none_less : (s : Bool) (a d q : ℕ) → 0 < d → WholePart (a * 65536) d q → is_below s (a * 65536) d q ≡ false
    → signed s q ≡ fraction (signed s a) d
none_less false a d q h w e = ap pos (sym (div_is (a * 65536) d q h w.0 w.1))
none_less true zero d zero h w e = ap pos (sym (div_is 0 d 0 h w.0 w.1))
none_less true zero d (suc q) h w e = absurd (omega (arith, w.0))
none_less true (suc a) d zero h w e = absurd (omega (arith, test_false (suc a * 65536) d 0 e))
none_less true (suc a) d (suc q) h w e =
    let k = test_false (suc a * 65536) d (suc q) e in
    under_zero (suc a) d q h (omega arith) (omega (arith, w.0)) (omega arith)

-- The product lies in an i64.
above_least : (s : Bool) (n d : ℕ) → 0 < d → n ≤ 2147418112 * d → below true (2 ^ 63 * d) s (n * 1) ≡ true
above_least true n d h k = lt-ltb (n * 1) (2 ^ 63 * d) (omega arith)
above_least false n d h k = lt-ltb 0 (2 ^ 63 * d + n * 1) (omega arith)

below_greatest : (s : Bool) (n d : ℕ) → 0 < d → n ≤ 2147418112 * d → below s (n * 1) false (2 ^ 63 * d) ≡ true
below_greatest true n d h k = lt-ltb 0 (n * 1 + 2 ^ 63 * d) (omega arith)
below_greatest false n d h k = lt-ltb (n * 1) (2 ^ 63 * d) (omega arith)

size_of : (s : Bool) (q : ℕ) → nat_abs (signed s q) ≡ q
size_of true zero = refl
size_of true (suc q) = refl
size_of false q = refl

-- What the code has of a coordinate that is taken.
module _ {c x : Float} (t : Taken c x) where
  abbrev n : ℕ
  n = t.over * 65536

  abbrev d : ℕ
  d = t.under

  few : n ≤ 2147418112 * d
  few = omega (arith, t.small)

  whole_part : WholePart n d (n / d)
  whole_part = (div-mul-le_self n d, lt-div-mul-add t.positive)

  pub in_range : T (le (fin true 1 (pos 63)) x) × T (lt x (fin false 1 (pos 63)))
  unfolding le
  in_range =
      let lower = compared (fin true 1 (pos 63)) x true t.sign (2 ^ 63) 1 n d (omega arith) t.positive
      (refl, refl) t.value in
      let upper = compared x (fin false 1 (pos 63)) t.sign false n d (2 ^ 63) 1 t.positive (omega arith)
      t.value (refl, refl) in
      let above = lower ∙ above_least t.sign n d t.positive few in
      let under = upper ∙ below_greatest t.sign n d t.positive few in
      (subst T (sym (either _ _ above)) tt, subst T (sym under) tt)

  pub whole_is : to_signed 63 x ≡ signed t.sign (n / d)
  whole_is = cut x t.sign n d t.positive few t.value

  pub whole_small : (z : ℤ) → z ≡ to_signed 63 x → nat_abs z ≤ 2147418112
  whole_small z e =
      let q : nat_abs z ≡ n / d = ap nat_abs (e ∙ whole_is) ∙ size_of t.sign (n / d) in
      let few : n / d ≤ 2147418112 = div-le_of_le-mul d (omega (arith, few)) in omega arith

  tested : (z : ℤ) → z ≡ to_signed 63 x → lt x (of_int binary64 z) ≡ is_below t.sign n d (n / d)
  tested z e =
      compared x (of_int binary64 z) t.sign (is_neg z) n d (nat_abs z) 1 t.positive (omega arith) t.value
      (magnitude z (omega (arith, whole_small z e)))
      ∙ ap (λ y. below t.sign (n * 1) (is_neg y) (nat_abs y * d)) (e ∙ whole_is)

  pub unit_below : (z : ℤ) → z ≡ to_signed 63 x → lt x (of_int binary64 z) ≡ true → z -ℤ pos 1 ≡ rounded_down c
  unit_below z e h =
      ap (λ y. y -ℤ pos 1) (e ∙ whole_is)
      ∙ one_less t.sign t.over d (n / d) t.positive whole_part (sym (tested z e) ∙ h) ∙ sym t.rounded

  pub unit_here : (z : ℤ) → z ≡ to_signed 63 x → lt x (of_int binary64 z) ≡ false → z ≡ rounded_down c
  unit_here z e h =
      e ∙ whole_is ∙ none_less t.sign t.over d (n / d) t.positive whole_part (sym (tested z e) ∙ h)
      ∙ sym t.rounded

-- Words: a whole part, and one less, fit in 32 bits and in 64.
little : (w : Width) (z d : ℤ) (k : ℕ) → 2147483648 ≤ 2 ^ hbits w → nat_abs z ≤ 2147418112 → k ≤ 1 → d ≡ z -ℤ pos k
    → SFits w d
little w z d k h b l e = go d (subst (λ y. Order.up y + (Order.down z + k) ≡ Order.down y + (Order.up z + 0)) (sym e)
    (difference_parts z (pos k)))
  where
    go : (d : ℤ) → Order.up d + (Order.down z + k) ≡ Order.down d + (Order.up z + 0) → SFits w d
    go (pos a) q = record { sfits = omega (arith, parts z) }
    go (negsuc a) q = record { sfits = omega (arith, parts z) }

pub less_64 : (z : ℤ) (k : ℕ) → nat_abs z ≤ 2147418112 → T (leb k 1) → SFits w64 (z -ℤ pos k)
less_64 z k b l = little w64 z (z -ℤ pos k) k (lit≤ tt) b (leb→le k 1 l) refl

pub less_32 : (z : ℤ) (k : ℕ) → nat_abs z ≤ 2147418112 → T (leb k 1) → SFits w32 (read w64 (z -ℤ pos k))
less_32 z k b l = little w32 z (read w64 (z -ℤ pos k)) k (lit≤ tt) b (leb→le k 1 l) (to_z-of_z (less_64 z k b l))

pub whole_32 : (z : ℤ) → nat_abs z ≤ 2147418112 → SFits w32 z
whole_32 (pos a) b = record { sfits = omega arith }
whole_32 (negsuc a) b = record { sfits = omega arith }

-- What is returned, read back.
pub unit_read : {z u : ℤ} → SFits w32 z → z ≡ u → read w32 z ≡ u
unit_read {z} f e = to_z-of_z {w = w32} {z = z} f ∙ e

pub as_float : (z : ℤ) → nat_abs z ≤ 2147418112 → T (in_float binary64 z)
unfolding in_float
as_float (pos a) h = le→leb a (2 ^ 53) (omega arith)
as_float (negsuc a) h = lt→ltb a (2 ^ 53) (omega arith)
