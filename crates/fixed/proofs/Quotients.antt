-- The least and the greatest of the four quotients of ends in order, by a divisor above 0: the signs tell which they
-- are. A quotient rises with the dividend; with the divisor it rises where the dividend is below 0, and falls elsewhere.
use mathlib.Core.Path.{◌≡◌, refl, ap}
use mathlib.Core.Bool.{true, false, true≢false, false≢true}
use lib.IntN.{ℤ, pos, negsuc, neg_ℤ, ◌*ℤ◌}
use lib.Signed.{lt_z, le_z, shr_z}
use lib.Ieee.Nearest.{div_mono}
use Prim.Native.Nat.{ℕ, zero, suc, ◌+◌, ◌*◌, ◌/◌, ◌≤◌}
use native.Mathlib.Nat.{mul-le-mul}
use native.Mathlib.Omega.{arith}
use borrow.Author.Tests.{leb-true}
use Rattle.rules.specs.Values.{pick, is_neg, smaller, larger, quotient, range, of_ends}
use Rattle.rules.proofs.Tests.{of_pick}
use Rattle.rules.proofs.Order.{AtMost, at_most_refl, at_most_trans, at_most_antisym, under_negative, above_natural}
use Rattle.rules.proofs.Monotone.{clamped_rises, times_rises, smaller_left, smaller_right, larger_left, larger_right}
use Rattle.rules.proofs.Monotone.{of_smaller, of_larger}
use Rattle.fixed.proofs.Words.{both}

-- More, divided by less, gives no less.
divided_rises : (a b d e : ℕ) → a ≤ b → e ≤ d → a / suc d ≤ b / suc e
divided_rises a b d e h k = div_mono a (suc d) b (suc e) (omega arith) (omega arith) (mul-le-mul h (omega arith))

-- The same of floors: below 0 it is by more.
floor_rises : (z w : ℤ) (d e : ℕ) → (is_neg w ≡ true → d ≤ e) → (is_neg z ≡ false → e ≤ d) → AtMost z w
    → AtMost (shr_z z (suc d)) (shr_z w (suc e))
floor_rises (pos a) (pos b) d e f g h = record { le = omega (arith, divided_rises a b d e (omega arith) (g refl)) }
floor_rises (pos a) (negsuc b) d e f g h = absurd (omega arith)
floor_rises (negsuc a) (pos b) d e f g h = record { le = omega arith }
floor_rises (negsuc a) (negsuc b) d e f g h =
    record { le = omega (arith, divided_rises b a e d (omega arith) (f refl)) }

-- And of quotients: what is divided has the dividend's sign.
scaled_sign : (a : ℤ) → is_neg (a *ℤ pos 65536) ≡ is_neg a
scaled_sign (pos a) = refl
scaled_sign (negsuc a) =
    let e : suc a * 65536 ≡ suc (a * 65536 + 65535) = omega arith in
    ap (λ n. is_neg (neg_ℤ (pos n))) e

quotient_rises : (a c : ℤ) (d e : ℕ) → (is_neg c ≡ true → d ≤ e) → (is_neg a ≡ false → e ≤ d) → AtMost a c
    → AtMost (quotient a (pos (suc d))) (quotient c (pos (suc e)))
unfolding quotient
quotient_rises a c d e f g h =
    clamped_rises _ _
    (floor_rises (a *ℤ pos 65536) (c *ℤ pos 65536) d e (rw (scaled_sign c) f) (rw (scaled_sign a) g)
    (times_rises 65536 a c h))

-- So the low end is divided by the end that makes it least, and the high end by the one that makes it greatest.
lowest : (a c : ℤ) (m e k : ℕ) → m ≤ e → e ≤ k → AtMost a c
    → AtMost (quotient a (pick (is_neg a) (pos (suc m)) (pos (suc k)))) (quotient c (pos (suc e)))
lowest (pos a) c m e k h l o =
    quotient_rises (pos a) c k e (λ s. absurd (false≢true (under_negative o s))) (λ s. l) o
lowest (negsuc a) c m e k h l o = quotient_rises (negsuc a) c m e (λ s. h) (λ s. absurd (true≢false s)) o

highest : (a c : ℤ) (m e k : ℕ) → m ≤ e → e ≤ k → AtMost a c
    → AtMost (quotient a (pos (suc e))) (quotient c (pick (is_neg c) (pos (suc k)) (pos (suc m))))
highest a (pos c) m e k h l o = quotient_rises a (pos c) e m (λ s. absurd (false≢true s)) (λ s. h) o
highest a (negsuc c) m e k h l o =
    quotient_rises a (negsuc c) e k (λ s. l) (λ s. absurd (true≢false (above_natural o s))) o

-- A number is the least of four if it is at most each of them and no less than the lesser of the first two; the greatest
-- likewise, by the last two.
least_is : (x a b c d : ℤ) → AtMost x a → AtMost x b → AtMost x c → AtMost x d → AtMost (smaller a b) x
    → x ≡ smaller (smaller a b) (smaller c d)
least_is x a b c d p q r s h =
    let at_most = AtMost x in
    at_most_antisym x _
    (of_smaller at_most _ _ (of_smaller at_most a b p q) (of_smaller at_most c d r s))
    (at_most_trans (smaller_left (smaller a b) (smaller c d)) h)

greatest_is : (x a b c d : ℤ) → AtMost a x → AtMost b x → AtMost c x → AtMost d x → AtMost x (larger c d)
    → x ≡ larger (larger a b) (larger c d)
greatest_is x a b c d p q r s h =
    let at_most : ℤ → Type 0 = λ z. AtMost z x in
    at_most_antisym x _
    (at_most_trans h (larger_right (larger a b) (larger c d)))
    (of_larger at_most _ _ (of_larger at_most a b p q) (of_larger at_most c d r s))

module _ (a c : ℤ) (m k : ℕ) (o : AtMost a c) (h : m ≤ k) where
  least_quotient : quotient a (pick (is_neg a) (pos (suc m)) (pos (suc k)))
      ≡ (of_ends quotient (range a c) (range (pos (suc m)) (pos (suc k)))).low
  least_quotient =
      let r = at_most_refl a in
      least_is _ _ _ _ _ (lowest a a m m k (omega arith) h r) (lowest a a m k k h (omega arith) r)
      (lowest a c m m k (omega arith) h o)
      (lowest a c m k k h (omega arith) o)
      (of_pick (λ b. AtMost (smaller (quotient a (pos (suc m))) (quotient a (pos (suc k)))) (quotient a b)) (is_neg a)
      (smaller_left _ _)
      (smaller_right _ _))

  greatest_quotient : quotient c (pick (is_neg c) (pos (suc k)) (pos (suc m)))
      ≡ (of_ends quotient (range a c) (range (pos (suc m)) (pos (suc k)))).high
  greatest_quotient =
      let r = at_most_refl c in
      greatest_is _ _ _ _ _ (highest a c m m k (omega arith) h o) (highest a c m k k h (omega arith) o)
      (highest c c m m k (omega arith) h r)
      (highest c c m k k h (omega arith) r)
      (of_pick (λ b. AtMost (quotient c b) (larger (quotient c (pos (suc m))) (quotient c (pos (suc k))))) (is_neg c)
      (larger_right _ _)
      (larger_left _ _))

-- The test `<=` is the order.
tested_order : (a c : ℤ) → le_z a c ≡ true → AtMost a c
tested_order (pos a) (pos c) e = record { le = omega (arith, leb-true a c e) }
tested_order (pos a) (negsuc c) e = absurd (false≢true e)
tested_order (negsuc a) (pos c) e = record { le = omega arith }
tested_order (negsuc a) (negsuc c) e = record { le = omega (arith, leb-true c a e) }

-- Both ends at once, by the tests of the code.
pub two_quotients : (a c b d : ℤ) → le_z a c ≡ true → le_z b d ≡ true → lt_z (pos 0) b ≡ true
    → range (quotient a (pick (is_neg a) b d)) (quotient c (pick (is_neg c) d b)) ≡ of_ends quotient (range a c) (range b d)
two_quotients a c (pos (suc m)) (pos (suc k)) e f g =
    let o = tested_order a c e in
    let h : m ≤ k = omega (arith, leb-true (suc m) (suc k) f) in
    both range (least_quotient a c m k o h) (greatest_quotient a c m k o h)
two_quotients a c (pos (suc m)) (pos zero) e f g = absurd (omega (arith, leb-true (suc m) 0 f))
two_quotients a c (pos (suc m)) (negsuc k) e f g = absurd (false≢true f)
two_quotients a c (pos zero) d e f g = absurd (false≢true g)
two_quotients a c (negsuc m) d e f g = absurd (false≢true g)
