-- The operations on values against the order: each result is a value, and rises or falls with what it is made of.
use mathlib.Core.Path.{◌≡◌, refl, ap}
use mathlib.Core.Bool.{Bool, true, false}
use lib.IntN.{ℤ, pos, negsuc, ◌+ℤ◌, ◌-ℤ◌, ◌*ℤ◌, *ℤ_comm, *ℤ-negsuc}
use Prim.Native.Nat.{ℕ, suc, ◌*◌}
use native.Mathlib.Nat.{mul-le-mul_right}
use native.Mathlib.Omega.{arith}
use Rattle.rules.specs.Values.{pick, IsValue, below, smaller, larger, clamped, floored, sum, difference, product}
use Rattle.rules.specs.Values.{square, absolute}
use Rattle.rules.specs.Values.{Range, of_ends}
use Rattle.rules.proofs.Tests.{of_pick}
use Rattle.rules.proofs.Order.{up, down, AtMost, Holds, at_most_refl, at_most_trans}
use Rattle.rules.proofs.Order.{below_at_most, not_below, sum_rises, neg_falls, neg_up, neg_down}

-- Clamping and rounding down.
pub clamped_value : (z : ℤ) → IsValue (clamped z)
clamped_value (pos a) = record { bound = omega arith }
clamped_value (negsuc a) = record { bound = omega arith }

pub clamped_same : (z : ℤ) → IsValue z → clamped z ≡ z
clamped_same (pos a) v = ap pos (omega arith)
clamped_same (negsuc a) v = ap negsuc (omega arith)

pub clamped_rises : (a b : ℤ) → AtMost a b → AtMost (clamped a) (clamped b)
clamped_rises (pos a) (pos b) h = record { le = omega arith }
clamped_rises (pos a) (negsuc b) h = absurd (omega arith)
clamped_rises (negsuc a) (pos b) h = record { le = omega arith }
clamped_rises (negsuc a) (negsuc b) h = record { le = omega arith }

pub floored_rises : (a b : ℤ) → AtMost a b → AtMost (floored a) (floored b)
floored_rises (pos a) (pos b) h = record { le = omega arith }
floored_rises (pos a) (negsuc b) h = absurd (omega arith)
floored_rises (negsuc a) (pos b) h = record { le = omega arith }
floored_rises (negsuc a) (negsuc b) h = record { le = omega arith }

pub rounded_rises : {a b : ℤ} → AtMost a b → AtMost (clamped (floored a)) (clamped (floored b))
rounded_rises h = clamped_rises _ _ (floored_rises _ _ h)

-- The smaller of two is the greatest number that is at most both; the larger likewise.
pub smaller_left : (a b : ℤ) → AtMost (smaller a b) a
unfolding smaller
smaller_left a b = by (below b a) refl
  where
    by : (t : Bool) → below b a ≡ t → AtMost (pick t b a) a
    by true e = below_at_most b a e
    by false e = at_most_refl a

pub smaller_right : (a b : ℤ) → AtMost (smaller a b) b
unfolding smaller
smaller_right a b = by (below b a) refl
  where
    by : (t : Bool) → below b a ≡ t → AtMost (pick t b a) b
    by true e = at_most_refl b
    by false e = not_below b a e

pub larger_left : (a b : ℤ) → AtMost a (larger a b)
unfolding larger
larger_left a b = by (below a b) refl
  where
    by : (t : Bool) → below a b ≡ t → AtMost a (pick t b a)
    by true e = below_at_most a b e
    by false e = at_most_refl a

pub larger_right : (a b : ℤ) → AtMost b (larger a b)
unfolding larger
larger_right a b = by (below a b) refl
  where
    by : (t : Bool) → below a b ≡ t → AtMost b (pick t b a)
    by true e = at_most_refl b
    by false e = not_below a b e

-- What holds of both holds of the smaller and of the larger.
pub of_smaller : (P : ℤ → Type 0) (a b : ℤ) → P a → P b → P (smaller a b)
unfolding smaller
of_smaller P a b h k = of_pick P (below b a) k h

pub of_larger : (P : ℤ → Type 0) (a b : ℤ) → P a → P b → P (larger a b)
unfolding larger
of_larger P a b h k = of_pick P (below a b) k h

pub smaller_rises : {a b c d : ℤ} → AtMost a c → AtMost b d → AtMost (smaller a b) (smaller c d)
smaller_rises {a} {b} {c} {d} h k =
    of_smaller (λ z. AtMost (smaller a b) z) c d (at_most_trans (smaller_left a b) h)
    (at_most_trans (smaller_right a b) k)

pub larger_rises : {a b c d : ℤ} → AtMost a c → AtMost b d → AtMost (larger a b) (larger c d)
larger_rises {a} {b} {c} {d} h k =
    of_larger (λ z. AtMost z (larger c d)) a b (at_most_trans h (larger_left c d)) (at_most_trans k (larger_right c d))

-- Sums and differences.
pub sum_value : (a b : ℤ) → IsValue (sum a b)
unfolding sum
sum_value a b = clamped_value (a +ℤ b)

pub clamped_sum_rises : {a b c d : ℤ} → AtMost a b → AtMost c d → AtMost (sum a c) (sum b d)
unfolding sum
clamped_sum_rises h k = clamped_rises _ _ (sum_rises h k)

pub difference_value : (a b : ℤ) → IsValue (difference a b)
unfolding difference
difference_value a b = clamped_value (a -ℤ b)

pub difference_rises : {a b c d : ℤ} → AtMost a b → AtMost c d → AtMost (difference a d) (difference b c)
unfolding difference
difference_rises h k = clamped_rises _ _ (sum_rises h (neg_falls k))

-- Products: a natural factor keeps the order, a negative one turns it round.
pub times_up : (z : ℤ) (c : ℕ) → up (z *ℤ pos c) ≡ up z * c
times_up (pos a) c = refl
times_up (negsuc a) c = omega (arith, neg_up (pos (suc a * c)))

pub times_down : (z : ℤ) (c : ℕ) → down (z *ℤ pos c) ≡ down z * c
times_down (pos a) c = omega arith
times_down (negsuc a) c = omega (arith, neg_down (pos (suc a * c)))

pub times_rises : (c : ℕ) (a b : ℤ) → AtMost a b → AtMost (a *ℤ pos c) (b *ℤ pos c)
times_rises c a b h =
    record {
      le = omega (arith, times_up a c, times_up b c, times_down a c, times_down b c, mul-le-mul_right c h.le);
    }

times_falls : (c : ℕ) (a b : ℤ) → AtMost a b → AtMost (b *ℤ negsuc c) (a *ℤ negsuc c)
times_falls c a b h = rw (*ℤ-negsuc a c, *ℤ-negsuc b c) (neg_falls (times_rises (suc c) a b h))

pub product_value : (a b : ℤ) → IsValue (product a b)
unfolding product
product_value a b = clamped_value (floored (a *ℤ b))

pub product_comm : (a b : ℤ) → product a b ≡ product b a
unfolding product
product_comm a b = ap (λ z. clamped (floored z)) (*ℤ_comm a b)

pub product_rises : (c : ℕ) {a b : ℤ} → AtMost a b → AtMost (product a (pos c)) (product b (pos c))
unfolding product
product_rises c {a} {b} h = rounded_rises (times_rises c a b h)

pub product_falls : (c : ℕ) {a b : ℤ} → AtMost a b → AtMost (product b (negsuc c)) (product a (negsuc c))
unfolding product
product_falls c {a} {b} h = rounded_rises (times_falls c a b h)

-- z lies between x and y, whichever of them is the smaller.
pub record Between (x y z : ℤ) : Type 0 where
  pub low : AtMost (smaller x y) z
  pub high : AtMost z (larger x y)

pub rising : (x y z : ℤ) → AtMost x z → AtMost z y → Between x y z
rising x y z h k =
    record { low = at_most_trans (smaller_left x y) h; high = at_most_trans k (larger_right x y) }

pub falling : (x y z : ℤ) → AtMost y z → AtMost z x → Between x y z
falling x y z h k =
    record { low = at_most_trans (smaller_right x y) h; high = at_most_trans k (larger_left x y) }

pub turned : {x y z : ℤ} → Between x y z → Between y x z
turned {x} {y} b =
    let l = of_smaller (λ w. AtMost (smaller y x) w) x y (smaller_right y x) (smaller_left y x) in
    let h = of_larger (λ w. AtMost w (larger y x)) x y (larger_right y x) (larger_left y x) in
    record { low = at_most_trans l b.low; high = at_most_trans b.high h }

pub product_between : (l h a d : ℤ) → AtMost l a → AtMost a h → Between (product l d) (product h d) (product a d)
product_between l h a (pos c) u v = rising _ _ _ (product_rises c u) (product_rises c v)
product_between l h a (negsuc c) u v = falling _ _ _ (product_falls c v) (product_falls c u)

pub product_between_right : (m k d a : ℤ) → AtMost m d → AtMost d k → Between (product a m) (product a k) (product a d)
product_between_right m k d a u v =
    rw (product_comm a m, product_comm a k, product_comm a d) (product_between m k d a u v)

-- What is between two results at the right's d, each of them between those at the right's ends, lies in the range that
-- the four results of ends make.
pub four_hold : (op : ℤ → ℤ → ℤ) → ((a d : ℤ) → IsValue (op a d)) → (r q : Range) (a d : ℤ)
    → Between (op r.low d) (op r.high d) (op a d)
    → Between (op r.low q.low) (op r.low q.high) (op r.low d)
    → Between (op r.high q.low) (op r.high q.high) (op r.high d)
    → Holds (of_ends op r q) (op a d)
four_hold op v r q a d b l h =
    let ll = v r.low q.low in
    let lh = v r.low q.high in
    let hl = v r.high q.low in
    let hh = v r.high q.high in
    record {
      low_value = of_smaller IsValue _ _ (of_smaller IsValue _ _ ll lh) (of_smaller IsValue _ _ hl hh);
      high_value = of_larger IsValue _ _ (of_larger IsValue _ _ ll lh) (of_larger IsValue _ _ hl hh);
      above = at_most_trans (smaller_rises l.low h.low) b.low;
      under = at_most_trans b.high (larger_rises l.high h.high);
    }

-- Squares.
pub square_value : (z : ℤ) → IsValue (square z)
unfolding square
square_value z = product_value z z

pub square_absolute : (z : ℤ) → square (absolute z) ≡ square z
unfolding square product
square_absolute (pos a) = refl
square_absolute (negsuc a) = refl

pub square_rises : (a b : ℤ) → AtMost (pos 0) a → AtMost a b → AtMost (square a) (square b)
unfolding square
square_rises (pos a) (pos b) n h =
    at_most_trans (product_rises a h) (rw (product_comm (pos b) (pos a)) (product_rises b h))
square_rises (pos a) (negsuc b) n h = absurd (omega arith)
square_rises (negsuc a) b n h = absurd (omega arith)
