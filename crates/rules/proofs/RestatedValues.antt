-- Values and ranges as the paper of formal statements has them, word for word, and each equal to the definition used
-- here. Where text and parts are the same nothing is repeated: `pick`, `is_neg`, `top`, `root_from`, the records. What a
-- request has changed since is not here (docs/DECISIONS.md): the range of a clause with two operands. Its value is the
-- paper's up to opcode 13, the paper's last.
use mathlib.Core.Path.{◌≡◌, refl, sym, ap, ap₂, subst, ◌∙◌}
use mathlib.Core.Bool.{Bool, true, false, ◌&&◌, not}
use lib.IntN.{ℤ, pos, negsuc, neg_ℤ, nat_abs, sub_ℕ, ◌+ℤ◌, ◌-ℤ◌, ◌*ℤ◌}
use Prim.Native.Nat.{ℕ, zero, suc, ◌+◌, ◌-◌, ◌*◌, ◌/◌, ◌≤◌, ◌<◌, min}
use native.Mathlib.Omega.{arith}
use lib.Dec.{eqb, ltb, leb, leb-suc-suc}
use borrow.Author.Tests.{ltb-true, ltb-false, leb-true, leb-false, le-ltb, lt-ltb}
use Rattle.rules.specs.Values
use Rattle.rules.specs.Values.{pick, is_neg, top, root_from, Clause, Sample, Range, range}

-- Whole numbers.
abbrev pub less : ℕ → ℕ → ℤ
less a b = pick (leb b a) (pos (a - b)) (negsuc (b - a - 1))

pub less_same : (a b : ℕ) → less a b ≡ sub_ℕ a b
less_same a b = go (leb b a) refl
  where
    go : (t : Bool) → leb b a ≡ t → pick t (pos (a - b)) (negsuc (b - a - 1)) ≡ sub_ℕ a b
    go true e = rw (le-ltb a b (leb-true b a e))
    go false e = rw (lt-ltb a b (leb-false b a e)) (ap negsuc (omega arith))

pub less_below : (a b : ℕ) → is_neg (less a b) ≡ ltb a b
less_below a b = go (leb b a) refl
  where
    go : (t : Bool) → leb b a ≡ t → is_neg (pick t (pos (a - b)) (negsuc (b - a - 1))) ≡ ltb a b
    go true e = sym (le-ltb a b (leb-true b a e))
    go false e = sym (lt-ltb a b (leb-false b a e))

abbrev pub plus : ℤ → ℤ → ℤ
plus (pos a) (pos b) = pos (a + b)
plus (pos a) (negsuc b) = less a (suc b)
plus (negsuc a) (pos b) = less b (suc a)
plus (negsuc a) (negsuc b) = negsuc (suc (a + b))

pub plus_same : (a b : ℤ) → plus a b ≡ a +ℤ b
plus_same (pos a) (pos b) = refl
plus_same (pos a) (negsuc b) = less_same a (suc b)
plus_same (negsuc a) (pos b) = less_same b (suc a)
plus_same (negsuc a) (negsuc b) = refl

abbrev pub neg : ℤ → ℤ
neg (pos zero) = pos 0
neg (pos (suc a)) = negsuc a
neg (negsuc a) = pos (suc a)

pub neg_same : (a : ℤ) → neg a ≡ neg_ℤ a
neg_same (pos zero) = refl
neg_same (pos (suc a)) = refl
neg_same (negsuc a) = refl

abbrev pub minus : ℤ → ℤ → ℤ
minus a b = plus a (neg b)

pub minus_same : (a b : ℤ) → minus a b ≡ a -ℤ b
minus_same a b = plus_same a (neg b) ∙ ap (λ (z : ℤ). a +ℤ z) (neg_same b)

abbrev pub times : ℤ → ℤ → ℤ
times (pos a) (pos b) = pos (a * b)
times (pos a) (negsuc b) = neg (pos (a * suc b))
times (negsuc a) (pos b) = neg (pos (suc a * b))
times (negsuc a) (negsuc b) = pos (suc a * suc b)

pub times_same : (a b : ℤ) → times a b ≡ a *ℤ b
times_same (pos a) (pos b) = refl
times_same (pos a) (negsuc b) = neg_same (pos (a * suc b))
times_same (negsuc a) (pos b) = neg_same (pos (suc a * b))
times_same (negsuc a) (negsuc b) = refl

abbrev pub below : ℤ → ℤ → Bool
below a b = is_neg (minus a b)

pub below_same : (a b : ℤ) → below a b ≡ Values.below a b
below_same (pos a) (pos zero) = sym (le-ltb a 0 (omega arith))
below_same (pos a) (pos (suc b)) = less_below a (suc b)
below_same (pos a) (negsuc b) = refl
below_same (negsuc a) (pos zero) = less_below 0 (suc a) ∙ lt-ltb 0 (suc a) (omega arith)
below_same (negsuc a) (pos (suc b)) = refl
below_same (negsuc a) (negsuc b) = less_below (suc b) (suc a) ∙ leb-suc-suc (suc b) a

abbrev pub smaller : ℤ → ℤ → ℤ
smaller a b = pick (below b a) b a

pub smaller_same : (a b : ℤ) → smaller a b ≡ Values.smaller a b
unfolding Values.smaller
smaller_same a b = ap (λ (t : Bool). pick t b a) (below_same b a)

abbrev pub larger : ℤ → ℤ → ℤ
larger a b = pick (below a b) b a

pub larger_same : (a b : ℤ) → larger a b ≡ Values.larger a b
unfolding Values.larger
larger_same a b = ap (λ (t : Bool). pick t b a) (below_same a b)

abbrev pub size : ℤ → ℕ
size (pos a) = a
size (negsuc a) = suc a

pub size_same : (z : ℤ) → size z ≡ nat_abs z
size_same (pos a) = refl
size_same (negsuc a) = refl

-- Clamping to M.
abbrev pub clamped : ℤ → ℤ
clamped (pos a) = pick (ltb top a) (pos top) (pos a)
clamped (negsuc a) = pick (ltb top (suc a)) (neg (pos top)) (negsuc a)

pub clamped_same : (z : ℤ) → clamped z ≡ Values.clamped z
clamped_same (pos a) = go (ltb top a) refl
  where
    go : (t : Bool) → ltb top a ≡ t → pick t (pos top) (pos a) ≡ pos (min a 2147483647)
    go true e = ap pos (omega (arith, ltb-true top a e))
    go false e = ap pos (omega (arith, ltb-false top a e))
clamped_same (negsuc a) = go (ltb top (suc a)) refl
  where
    go : (t : Bool) → ltb top (suc a) ≡ t → pick t (neg (pos top)) (negsuc a) ≡ negsuc (min a 2147483646)
    go true e = ap negsuc (omega (arith, ltb-true top (suc a) e))
    go false e = ap negsuc (omega (arith, ltb-false top (suc a) e))

-- Divided by 65,536 toward minus infinity.
abbrev pub floored : ℤ → ℤ
floored (pos a) = pos (a / 65536)
floored (negsuc a) = negsuc (a / 65536)

pub floored_same : (z : ℤ) → floored z ≡ Values.floored z
floored_same (pos a) = refl
floored_same (negsuc a) = refl

pub sum_same : (a b : ℤ) → clamped (plus a b) ≡ Values.sum a b
unfolding Values.sum
sum_same a b = clamped_same (plus a b) ∙ ap Values.clamped (plus_same a b)

pub difference_same : (a b : ℤ) → clamped (minus a b) ≡ Values.difference a b
unfolding Values.difference
difference_same a b = clamped_same (minus a b) ∙ ap Values.clamped (minus_same a b)

abbrev pub product : ℤ → ℤ → ℤ
product a b = clamped (floored (times a b))

pub product_same : (a b : ℤ) → product a b ≡ Values.product a b
unfolding Values.product
product_same a b =
    clamped_same (floored (times a b))
    ∙ ap Values.clamped (floored_same (times a b) ∙ ap Values.floored (times_same a b))

-- The whole part of a square root.
abbrev pub root_of : ℤ → ℤ
root_of (pos a) = pos (root_from 24 0 (65536 * a))
root_of (negsuc a) = pos 0

pub root_same : (z : ℤ) → root_of z ≡ Values.root_of z
unfolding Values.root_of
root_same (pos a) = refl
root_same (negsuc a) = refl

abbrev pub absolute : ℤ → ℤ
absolute z = pos (size z)

pub absolute_same : (z : ℤ) → absolute z ≡ Values.absolute z
absolute_same z = ap pos (size_same z)

abbrev pub square : ℤ → ℤ
square z = product z z

pub square_same : (z : ℤ) → square z ≡ Values.square z
unfolding Values.square
square_same z = product_same z z

-- An opcode's result.
abbrev pub chain1 : ℕ → ℤ → ℤ
chain1 o a =
    pick (eqb o 4) a (pick (eqb o 5) (neg a) (pick (eqb o 6) (absolute a) (pick (eqb o 7) (square a) (root_of a))))

pub unary_same : (o : ℕ) (a : ℤ) → chain1 o a ≡ Values.unary_value o a
unfolding Values.unary_value
unary_same o a = cc (neg_same a, absolute_same a, square_same a, root_same a)

abbrev pub chain2 : ℕ → ℤ → ℤ → ℤ
chain2 o a b =
    pick (eqb o 9) (clamped (plus a b))
    (pick (eqb o 10) (clamped (minus a b))
    (pick (eqb o 11) (product a b) (pick (eqb o 12) (smaller a b) (larger a b))))

from_nine : (k : ℕ) (a b : ℤ) → k ≤ 4 → chain2 (9 + k) a b ≡ Values.binary_value (9 + k) a b
unfolding Values.binary_value
from_nine zero a b h = sum_same a b
from_nine (suc zero) a b h = difference_same a b
from_nine (suc (suc zero)) a b h = product_same a b
from_nine (suc (suc (suc zero))) a b h = smaller_same a b
from_nine (suc (suc (suc (suc zero)))) a b h = larger_same a b
from_nine (suc (suc (suc (suc (suc k))))) a b h = absurd (omega arith)

pub binary_same : (o : ℕ) (a b : ℤ) → 8 < o → o ≤ 13 → chain2 o a b ≡ Values.binary_value o a b
binary_same o a b l h =
    let e : 9 + (o - 9) ≡ o = omega arith in
    subst (λ n. chain2 n a b ≡ Values.binary_value n a b) e (from_nine (o - 9) a b (omega arith))

abbrev pub value_of : ℕ → ℤ → Sample → ℤ → ℤ → ℤ
value_of o c s a b =
    pick (eqb o 0) c
    (pick (eqb o 1) s.x
    (pick (eqb o 2) s.y (pick (eqb o 3) s.z (pick (leb o 8) (chain1 o a) (chain2 o a b)))))

pub value_same : (c : Clause) (s : Sample) (a b : ℤ) → c.opcode ≤ 13
    → value_of c.opcode c.constant s a b ≡ Values.value_of c s a b
unfolding Values.value_of
value_same c s a b h =
    let o = c.opcode in
    ap
    (λ v. pick (eqb o 0) c.constant (pick (eqb o 1) s.x (pick (eqb o 2) s.y (pick (eqb o 3) s.z v))))
    (of_slots (leb o 8) refl)
  where
    of_slots : (t : Bool) → leb c.opcode 8 ≡ t
        → pick t (chain1 c.opcode a) (chain2 c.opcode a b)
        ≡ pick t (Values.unary_value c.opcode a) (Values.binary_value c.opcode a b)
    of_slots true e = unary_same c.opcode a
    of_slots false e = binary_same c.opcode a b (leb-false c.opcode 8 e) h

-- Ranges.
pub range_same : {a b c d : ℤ} → a ≡ c → b ≡ d → range a b ≡ range c d
range_same p q = λ i. range (p i) (q i)

abbrev pub holds_zero : Range → Bool
holds_zero r = not (below (pos 0) r.low) && not (is_neg r.high)

pub holds_zero_same : (r : Range) → holds_zero r ≡ Values.holds_zero r
unfolding Values.holds_zero
holds_zero_same r = ap (λ (t : Bool). not t && not (is_neg r.high)) (below_same (pos 0) r.low)

abbrev pub absolute_range : Range → Range
absolute_range r =
    let a = absolute r.low in
    let b = absolute r.high in
    range (pick (holds_zero r) (pos 0) (smaller a b)) (larger a b)

pub absolute_range_same : (r : Range) → absolute_range r ≡ Values.absolute_range r
unfolding Values.absolute_range
absolute_range_same r =
    let a = absolute r.low in
    let b = absolute r.high in
    range_same
    (cc (holds_zero_same r, smaller_same a b, absolute_same r.low, absolute_same r.high))
    (cc (larger_same a b, absolute_same r.low, absolute_same r.high))

abbrev pub on_ends : (ℤ → ℤ) → Range → Range
on_ends f r = range (f r.low) (f r.high)

abbrev pub product_range : Range → Range → Range
product_range r s =
    let a = product r.low s.low in
    let b = product r.low s.high in
    let c = product r.high s.low in
    let d = product r.high s.high in
    range (smaller (smaller a b) (smaller c d)) (larger (larger a b) (larger c d))

four_smaller : (a b c d : ℤ)
    → smaller (smaller a b) (smaller c d) ≡ Values.smaller (Values.smaller a b) (Values.smaller c d)
four_smaller a b c d =
    smaller_same (smaller a b) (smaller c d) ∙ ap₂ Values.smaller (smaller_same a b) (smaller_same c d)

four_larger : (a b c d : ℤ)
    → larger (larger a b) (larger c d) ≡ Values.larger (Values.larger a b) (Values.larger c d)
four_larger a b c d = larger_same (larger a b) (larger c d) ∙ ap₂ Values.larger (larger_same a b) (larger_same c d)

abbrev four_ends : ℤ → ℤ → ℤ → ℤ → Range
four_ends a b c d =
    range (Values.smaller (Values.smaller a b) (Values.smaller c d))
    (Values.larger (Values.larger a b) (Values.larger c d))

pub product_range_same : (r s : Range) → product_range r s ≡ Values.product_range r s
unfolding Values.product_range
product_range_same r s =
    let a = product r.low s.low in
    let b = product r.low s.high in
    let c = product r.high s.low in
    let d = product r.high s.high in
    range_same (four_smaller a b c d) (four_larger a b c d)
    ∙ (λ i. four_ends
    (product_same r.low s.low i)
    (product_same r.low s.high i)
    (product_same r.high s.low i)
    (product_same r.high s.high i))

abbrev pub range_of1 : ℕ → Range → Range
range_of1 o r =
    pick (eqb o 4) r
    (pick (eqb o 5) (range (neg r.high) (neg r.low))
    (pick (eqb o 6) (absolute_range r)
    (pick (eqb o 7) (on_ends (λ z. square z) (absolute_range r)) (on_ends (λ z. root_of z) r))))

square_range_same : (r : Range) → on_ends (λ z. square z) (absolute_range r) ≡ Values.square_range r
unfolding Values.square_range
square_range_same r =
    range_same (square_same (absolute_range r).low) (square_same (absolute_range r).high)
    ∙ ap (on_ends Values.square) (absolute_range_same r)

root_range_same : (r : Range) → on_ends (λ z. root_of z) r ≡ Values.root_range r
unfolding Values.root_range
root_range_same r = range_same (root_same r.low) (root_same r.high)

neg_range_same : (r : Range) → range (neg r.high) (neg r.low) ≡ Values.negated_range r
unfolding Values.negated_range
neg_range_same r = range_same (neg_same r.high) (neg_same r.low)

pub unary_range_same : (o : ℕ) (r : Range) → range_of1 o r ≡ Values.unary_range o r
unfolding Values.unary_range
unary_range_same o r = cc (neg_range_same r, absolute_range_same r, square_range_same r, root_range_same r)

-- Choices of a minimum and a maximum: 1 left, 2 right, 0 both.
abbrev pub choice_of : ℕ → Range → Range → ℕ
choice_of o r s =
    pick (eqb o 12) (pick (below r.high s.low) 1 (pick (below s.high r.low) 2 0))
    (pick (eqb o 13) (pick (below s.high r.low) 1 (pick (below r.high s.low) 2 0)) 0)

pub choice_same : (o : ℕ) (r s : Range) → choice_of o r s ≡ Values.choice_of o r s
unfolding Values.choice_of Values.side_below Values.side_above
choice_same o r s = cc (below_same r.high s.low, below_same s.high r.low)
