-- Order on whole numbers, in a form that linear arithmetic reads; what lies in a range and in a box.
use mathlib.Core.Path.{◌≡◌, refl, ap}
use mathlib.Core.Logic.{◌⊎◌, inl, inr}
use mathlib.Core.Bool.{Bool, true, false, ◌&&◌, not, cond, true≢false, false≢true}
use lib.IntN.{ℤ, pos, negsuc, neg_ℤ, nat_abs, sub_ℕ, ◌+ℤ◌, ◌-ℤ◌}
use Prim.Native.Nat.{ℕ, zero, suc, ◌+◌, ◌-◌, ◌*◌, ◌≤◌, ◌<◌}
use lib.Dec.{ltb}
use native.Mathlib.Nat.{mul-le-mul_right}
use native.Mathlib.Omega.{arith}
use borrow.Author.Tests.{ltb-true, ltb-false, leb-true, lt-ltb, le-ltb, not-true}
use Rattle.rules.specs.Values.{IsValue, top, is_neg, below, reaches, Sample, Range, Box}
use Rattle.rules.specs.Drawings.{at, within, ends_ok, in_box, box_ok}
pub use Rattle.rules.proofs.Tests.{and_left, and_right}

-- z is up z − down z.
abbrev pub up : ℤ → ℕ
up (pos a) = a
up (negsuc a) = 0

abbrev pub down : ℤ → ℕ
down (pos a) = 0
down (negsuc a) = suc a

pub record AtMost (a b : ℤ) : Type 0 where
  pub le : up a + down b ≤ up b + down a

-- z lies in the range r, whose ends are values.
pub record Holds (r : Range) (z : ℤ) : Type 0 where
  pub low_value : IsValue r.low
  pub high_value : IsValue r.high
  pub above : AtMost r.low z
  pub under : AtMost z r.high

pub record HoldsBox (b : Box) (s : Sample) : Type 0 where
  pub xs : Holds b.xs s.x
  pub ys : Holds b.ys s.y
  pub zs : Holds b.zs s.z

-- Linear facts about whole numbers are linear facts about their ups and downs, by one equation for each operation.
pub parts : (z : ℤ) → up z + down z ≡ nat_abs z
parts (pos a) = omega arith
parts (negsuc a) = omega arith

sub_by : (t : Bool) (a b : ℕ) → ltb a b ≡ t
    → up (cond t (negsuc (b - suc a)) (pos (a - b))) + b ≡ down (cond t (negsuc (b - suc a)) (pos (a - b))) + a
sub_by true a b e = omega (arith, ltb-true a b e)
sub_by false a b e = omega (arith, ltb-false a b e)

sub_parts : (a b : ℕ) → up (sub_ℕ a b) + b ≡ down (sub_ℕ a b) + a
sub_parts a b = sub_by (ltb a b) a b refl

pub sum_parts : (a b : ℤ) → up (a +ℤ b) + (down a + down b) ≡ down (a +ℤ b) + (up a + up b)
sum_parts (pos a) (pos b) = omega arith
sum_parts (pos a) (negsuc b) = omega (arith, sub_parts a (suc b))
sum_parts (negsuc a) (pos b) = omega (arith, sub_parts b (suc a))
sum_parts (negsuc a) (negsuc b) = omega arith

pub neg_up : (z : ℤ) → up (neg_ℤ z) ≡ down z
neg_up (pos zero) = refl
neg_up (pos (suc a)) = refl
neg_up (negsuc a) = refl

pub neg_down : (z : ℤ) → down (neg_ℤ z) ≡ up z
neg_down (pos zero) = refl
neg_down (pos (suc a)) = refl
neg_down (negsuc a) = refl

pub difference_parts : (a b : ℤ) → up (a -ℤ b) + (down a + up b) ≡ down (a -ℤ b) + (up a + down b)
difference_parts a b = omega (arith, sum_parts a (neg_ℤ b), neg_up b, neg_down b)

-- The order's laws.
pub at_most_refl : (a : ℤ) → AtMost a a
at_most_refl a = record { le = omega arith }

pub at_most_trans : {a b c : ℤ} → AtMost a b → AtMost b c → AtMost a c
at_most_trans h k = record { le = omega arith }

pub at_most_antisym : (a b : ℤ) → AtMost a b → AtMost b a → a ≡ b
at_most_antisym (pos a) (pos b) h k = ap pos (omega arith)
at_most_antisym (pos a) (negsuc b) h k = absurd (omega arith)
at_most_antisym (negsuc a) (pos b) h k = absurd (omega arith)
at_most_antisym (negsuc a) (negsuc b) h k = ap negsuc (omega arith)

-- The test `below` is the strict order.
pub below_strict : (a b : ℤ) → below a b ≡ true → up a + down b < up b + down a
below_strict (pos a) (pos b) e = omega (arith, ltb-true a b e)
below_strict (pos a) (negsuc b) e = absurd (false≢true e)
below_strict (negsuc a) (pos b) e = omega arith
below_strict (negsuc a) (negsuc b) e = omega (arith, ltb-true b a e)

pub strict_below : (a b : ℤ) → up a + down b < up b + down a → below a b ≡ true
strict_below (pos a) (pos b) h = lt-ltb a b (omega arith)
strict_below (pos a) (negsuc b) h = absurd (omega arith)
strict_below (negsuc a) (pos b) h = refl
strict_below (negsuc a) (negsuc b) h = lt-ltb b a (omega arith)

pub below_at_most : (a b : ℤ) → below a b ≡ true → AtMost a b
below_at_most a b e = record { le = omega (arith, below_strict a b e) }

pub not_below : (a b : ℤ) → below a b ≡ false → AtMost b a
not_below (pos a) (pos b) e = record { le = omega (arith, ltb-false a b e) }
not_below (pos a) (negsuc b) e = record { le = omega arith }
not_below (negsuc a) (pos b) e = absurd (true≢false e)
not_below (negsuc a) (negsuc b) e = record { le = omega (arith, ltb-false b a e) }

pub at_most_not_below : (a b : ℤ) → AtMost b a → below a b ≡ false
at_most_not_below (pos a) (pos b) h = le-ltb a b (omega arith)
at_most_not_below (pos a) (negsuc b) h = refl
at_most_not_below (negsuc a) (pos b) h = absurd (omega arith)
at_most_not_below (negsuc a) (negsuc b) h = le-ltb b a (omega arith)

pub at_most_total : (a b : ℤ) → AtMost a b ⊎ AtMost b a
at_most_total a b = by (below a b) refl
  where
    by : (t : Bool) → below a b ≡ t → AtMost a b ⊎ AtMost b a
    by true e = inl (below_at_most a b e)
    by false e = inr (not_below a b e)

-- Sums and negations against the order.
pub sum_rises : {a b c d : ℤ} → AtMost a b → AtMost c d → AtMost (a +ℤ c) (b +ℤ d)
sum_rises {a} {b} {c} {d} h k = record { le = omega (arith, sum_parts a c, sum_parts b d) }

pub neg_falls : {a b : ℤ} → AtMost a b → AtMost (neg_ℤ b) (neg_ℤ a)
neg_falls {a} {b} h = record { le = omega (arith, neg_up a, neg_down a, neg_up b, neg_down b) }

-- What lies between two values is a value.
pub value_between : {a b : ℤ} (z : ℤ) → IsValue a → IsValue b → AtMost a z → AtMost z b → IsValue z
value_between {a} {b} (pos c) u v h k = record { bound = omega (arith, parts b) }
value_between {a} {b} (negsuc c) u v h k = record { bound = omega (arith, parts a) }

-- The tests of the definitions, as facts.
pub reaches_value : (z : ℤ) → reaches z ≡ true → IsValue z
reaches_value z e = record { bound = leb-true (nat_abs z) top e }

pub holds_value : {r : Range} {z : ℤ} → Holds r z → IsValue z
holds_value {r} {z} h = value_between z h.low_value h.high_value h.above h.under

pub holds_within : {r : Range} {z : ℤ} → Holds r z → within z r ≡ true
unfolding within
holds_within {r} {z} h = rw (at_most_not_below z r.low h.above, at_most_not_below r.high z h.under)

within_holds : (z : ℤ) (r : Range) → within z r ≡ true → ends_ok r ≡ true → Holds r z
unfolding within
within_holds z r e k =
    record {
      low_value = reaches_value r.low (and_left (reaches r.low) (reaches r.high) k);
      high_value = reaches_value r.high (and_right (reaches r.low) (reaches r.high) k);
      above = not_below z r.low
          (not-true (below z r.low) (and_left (not (below z r.low)) (not (below r.high z)) e));
      under = not_below r.high z
          (not-true (below r.high z) (and_right (not (below z r.low)) (not (below r.high z)) e));
    }

pub in_box_lem : (b : Box) (s : Sample) → in_box s b ≡ true → box_ok b ≡ true → HoldsBox b s
unfolding in_box box_ok
in_box_lem b s e k =
    let x = within s.x b.xs in
    let y = within s.y b.ys in
    let z = within s.z b.zs in
    let p = ends_ok b.xs in
    let q = ends_ok b.ys in
    let r = ends_ok b.zs in
    record {
      xs = within_holds s.x b.xs (and_left x (y && z) e) (and_left p (q && r) k);
      ys = within_holds s.y b.ys (and_left y z (and_right x (y && z) e)) (and_left q r (and_right p (q && r) k));
      zs = within_holds s.z b.zs (and_right y z (and_right x (y && z) e))
          (and_right q r (and_right p (q && r) k));
    }

-- The signs that decide a region.
pub under_negative : {a b : ℤ} → AtMost a b → is_neg b ≡ true → is_neg a ≡ true
under_negative {a = pos a} {b = pos b} h e = e
under_negative {a = pos a} {b = negsuc b} h e = absurd (omega arith)
under_negative {a = negsuc a} {b = b} h e = refl

pub above_natural : {a b : ℤ} → AtMost a b → is_neg a ≡ false → is_neg b ≡ false
above_natural {a = a} {b = pos b} h e = refl
above_natural {a = pos a} {b = negsuc b} h e = absurd (omega arith)
above_natural {a = negsuc a} {b = negsuc b} h e = e

-- Samples along an axis do not fall, and none lies below the origin.
pub at_rises : (o s : ℤ) → below (pos 0) s ≡ true → (i j : ℕ) → i ≤ j → AtMost (at o s i) (at o s j)
at_rises o (pos c) e i j h =
    sum_rises (sum_rises (at_most_refl o) (record { le = omega (arith, mul-le-mul_right c h) })) (at_most_refl _)
at_rises o (negsuc c) e i j h = absurd (false≢true e)

with_natural : (a : ℤ) (n : ℕ) → AtMost a (a +ℤ pos n)
with_natural a n = record { le = omega (arith, sum_parts a (pos n)) }

pub above_origin : (o s : ℤ) → below (pos 0) s ≡ true → (i : ℕ) → AtMost o (at o s i)
above_origin o (pos c) e i = at_most_trans (with_natural o (i * c)) (with_natural (o +ℤ pos (i * c)) _)
above_origin o (negsuc c) e i = absurd (false≢true e)
