-- Quotients: each is rounded down, is a value, and lies in the range of its operands' ranges. A divisor below 0 is one
-- above 0 with both signs changed. By one above 0 a quotient rises with the dividend; with the divisor it falls where
-- the dividend is above 0, and rises where it is below.
use mathlib.Core.Path.{◌≡◌, refl}
use mathlib.Core.Bool.{Bool, true, false, true≢false}
use lib.IntN.{ℤ, pos, negsuc, neg_ℤ, ◌+ℤ◌, ◌*ℤ◌}
use lib.Signed.{shr_z}
use Prim.Native.Nat.{ℕ, zero, suc, ◌+◌, ◌*◌, ◌/◌, ◌≤◌, ◌<◌}
use native.Mathlib.Nat.{le_trans, mul-le-mul_left, div-mul-le_self, lt-div-mul-add, le-div_iff_mul-le}
use native.Mathlib.Omega.{arith}
use Rattle.rules.specs.Values.{pick, IsValue, top, below, clamped, fraction, end_of, quotient, Range, range}
use Rattle.rules.specs.Values.{holds_zero, of_ends, quotient_range}
use Rattle.rules.proofs.Order.{up, down, AtMost, Holds, parts, sum_parts, strict_below, neg_falls}
use Rattle.rules.proofs.Monotone.{clamped_value, clamped_rises, times_rises, Between, rising, falling, turned}
use Rattle.rules.proofs.Monotone.{times_up, times_down, four_hold}

-- q is z over d, rounded towards minus infinity: q·d is at most z, and z is below (q + 1)·d.
pub record IsFloor (z : ℤ) (d : ℕ) (q : ℤ) : Type 0 where
  pub from : AtMost (q *ℤ pos d) z
  pub to : below z (q *ℤ pos d +ℤ pos d) ≡ true

floor_law : (z : ℤ) (n : ℕ) → IsFloor z (suc n) (shr_z z (suc n))
floor_law z n =
    let d = suc n in
    let q = shr_z z d in
    let w = within z in
    record {
      from = record { le = omega (arith, times_up q d, times_down q d, w.0) };
      to = strict_below z (q *ℤ pos d +ℤ pos d)
          (omega (arith, sum_parts (q *ℤ pos d) (pos d), times_up q d, times_down q d, w.1));
    }
  where
    short : (a : ℕ) → a < a / suc n * suc n + suc n
    short a = lt-div-mul-add (omega arith)

    within : (z : ℤ)
        → (up (shr_z z (suc n)) * suc n + down z ≤ up z + down (shr_z z (suc n)) * suc n)
        × (up z + down (shr_z z (suc n)) * suc n < up (shr_z z (suc n)) * suc n + suc n + down z)
    within (pos a) = (omega (arith, div-mul-le_self a (suc n)), omega (arith, short a))
    within (negsuc a) = (omega (arith, short a), omega (arith, div-mul-le_self a (suc n)))

pub fraction_law : (a : ℤ) (b : ℕ) → IsFloor (a *ℤ pos 65536) (suc b) (fraction a (suc b))
fraction_law a b = floor_law (a *ℤ pos 65536) b

-- A quotient is a value.
end_value : (a : ℤ) → IsValue (end_of a)
end_value (pos zero) = record { bound = omega arith }
end_value (pos (suc a)) = record { bound = omega arith }
end_value (negsuc a) = record { bound = omega arith }

pub quotient_value : (a b : ℤ) → IsValue (quotient a b)
unfolding quotient
quotient_value a (pos zero) = end_value a
quotient_value a (pos (suc b)) = clamped_value (fraction a (suc b))
quotient_value a (negsuc b) = clamped_value (fraction (neg_ℤ a) (suc b))

-- More, divided by less, gives no less.
divided_rises : (a b c d : ℕ) → 0 < d → d ≤ b → a ≤ c → a / b ≤ c / d
divided_rises a b c d p h k =
    (le-div_iff_mul-le p).1 (le_trans (mul-le-mul_left (a / b) h) (le_trans (div-mul-le_self a b) k))

-- With the dividend.
floor_rises : (n : ℕ) (a b : ℤ) → AtMost a b → AtMost (shr_z a (suc n)) (shr_z b (suc n))
floor_rises n (pos a) (pos b) h =
    record { le = omega (arith, divided_rises a (suc n) b (suc n) (omega arith) (omega arith) (omega arith)) }
floor_rises n (pos a) (negsuc b) h = absurd (omega arith)
floor_rises n (negsuc a) (pos b) h = record { le = omega arith }
floor_rises n (negsuc a) (negsuc b) h =
    record { le = omega (arith, divided_rises b (suc n) a (suc n) (omega arith) (omega arith) (omega arith)) }

quotient_rises : (n : ℕ) {a b : ℤ} → AtMost a b → AtMost (clamped (fraction a (suc n))) (clamped (fraction b (suc n)))
quotient_rises n {a} {b} h = clamped_rises _ _ (floor_rises n _ _ (times_rises 65536 a b h))

-- With the divisor, for d from m to k: down above 0, up below.
abbrev over : ℤ → ℕ → ℤ
over z n = clamped (shr_z z (suc n))

over_falls : (n m d : ℕ) → m ≤ d → AtMost (over (pos n) d) (over (pos n) m)
over_falls n m d h =
    clamped_rises (pos (n / suc d)) (pos (n / suc m))
    (record { le = omega (arith, divided_rises n (suc d) n (suc m) (omega arith) (omega arith) (omega arith)) })

over_rises : (n m d : ℕ) → m ≤ d → AtMost (over (negsuc n) m) (over (negsuc n) d)
over_rises n m d h =
    clamped_rises (negsuc (n / suc m)) (negsuc (n / suc d))
    (record { le = omega (arith, divided_rises n (suc d) n (suc m) (omega arith) (omega arith) (omega arith)) })

over_between : (z : ℤ) (m d k : ℕ) → m ≤ d → d ≤ k → Between (over z m) (over z k) (over z d)
over_between (pos n) m d k h l = falling _ _ _ (over_falls n d k l) (over_falls n m d h)
over_between (negsuc n) m d k h l = rising _ _ _ (over_rises n m d h) (over_rises n d k l)

-- The divisor d and the ends m and k of its range lie on one side of 0, where the range does not hold 0.
data OneSide : ℤ → ℤ → ℤ → Type 0 where
  above : (m d k : ℕ) → m ≤ d → d ≤ k → OneSide (pos (suc m)) (pos (suc d)) (pos (suc k))
  beneath : (m d k : ℕ) → d ≤ m → k ≤ d → OneSide (negsuc m) (negsuc d) (negsuc k)

one_side : (m k d : ℤ) → AtMost m d → AtMost d k → holds_zero (range m k) ≡ false → OneSide m d k
unfolding holds_zero
one_side (pos (suc m)) (pos (suc k)) (pos (suc d)) h l e = above m d k (omega arith) (omega arith)
one_side (pos (suc m)) (pos (suc k)) (pos zero) h l e = absurd (omega arith)
one_side (pos (suc m)) (pos (suc k)) (negsuc d) h l e = absurd (omega arith)
one_side (pos (suc m)) (pos zero) d h l e = absurd (omega arith)
one_side (pos (suc m)) (negsuc k) d h l e = absurd (omega arith)
one_side (pos zero) (pos k) d h l e = absurd (true≢false e)
one_side (pos zero) (negsuc k) d h l e = absurd (omega arith)
one_side (negsuc m) (pos k) d h l e = absurd (true≢false e)
one_side (negsuc m) (negsuc k) (pos d) h l e = absurd (omega arith)
one_side (negsuc m) (negsuc k) (negsuc d) h l e = beneath m d k (omega arith) (omega arith)

with_dividend : {m d k : ℤ} → OneSide m d k → (l h a : ℤ) → AtMost l a → AtMost a h
    → Between (quotient l d) (quotient h d) (quotient a d)
unfolding quotient
with_dividend (above m d k i j) l h a u v = rising _ _ _ (quotient_rises d u) (quotient_rises d v)
with_dividend (beneath m d k i j) l h a u v =
    falling _ _ _ (quotient_rises d (neg_falls v)) (quotient_rises d (neg_falls u))

with_divisor : {m d k : ℤ} → OneSide m d k → (a : ℤ) → Between (quotient a m) (quotient a k) (quotient a d)
unfolding quotient
with_divisor (above m d k i j) a = over_between (a *ℤ pos 65536) m d k i j
with_divisor (beneath m d k i j) a = turned (over_between (neg_ℤ a *ℤ pos 65536) k d m j i)

-- A value lies from −M to M.
in_all_lem : (z : ℤ) → IsValue z → Holds (range (neg_ℤ (pos top)) (pos top)) z
in_all_lem z v =
    record {
      low_value = record { bound = omega arith };
      high_value = record { bound = omega arith };
      above = record { le = omega (arith, parts z) };
      under = record { le = omega (arith, parts z) };
    }

pub quotient_holds : {r q : Range} {a d : ℤ} → Holds r a → Holds q d → Holds (quotient_range r q) (quotient a d)
unfolding quotient_range
quotient_holds {r} {q} {a} {d} u v = by (holds_zero q) refl
  where
    by : (t : Bool) → holds_zero q ≡ t
        → Holds (pick t (range (neg_ℤ (pos top)) (pos top)) (of_ends quotient r q)) (quotient a d)
    by true e = in_all_lem (quotient a d) (quotient_value a d)
    by false e =
        let s = one_side q.low q.high d v.above v.under e in
        four_hold quotient quotient_value r q a d
        (with_dividend s r.low r.high a u.above u.under)
        (with_divisor s r.low)
        (with_divisor s r.high)
