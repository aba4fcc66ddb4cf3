-- The whole part of a square root: what the digits give, that it is the only such number, and that it rises.
use mathlib.Core.Path.{◌≡◌, refl, ap}
use mathlib.Core.Bool.{Bool, true, false}
use lib.IntN.{ℤ, pos, negsuc}
use Prim.Native.Nat.{ℕ, zero, suc, ◌+◌, ◌*◌, ◌^◌, ◌≤◌, ◌<◌}
use lib.Dec.{leb}
use native.Mathlib.Nat.{mul-le-mul, two-pow-succ}
use native.Mathlib.Omega.{arith}
use borrow.Author.Tests.{leb-true, leb-false}
use Rattle.rules.specs.Values.{pick, IsValue, root_from, root_of}
use Rattle.rules.proofs.Order.{AtMost}

-- r is the whole part of m's root.
pub record IsRoot (m r : ℕ) : Type 0 where
  pub from : r * r ≤ m
  pub to : m < suc r * suc r

-- The root lies from r to below r + d.
record Near (m r d : ℕ) : Type 0 where
  from : r * r ≤ m
  to : m < (r + d) * (r + d)

-- One digit: the root is in the upper half or in the lower one.
halve : (t : Bool) (m r p d : ℕ) → d ≡ p + p → leb ((r + p) * (r + p)) m ≡ t → Near m r d → Near m (pick t (r + p) r) p
halve true m r p d e h n = record { from = leb-true ((r + p) * (r + p)) m h; to = rw (regroup, ← e) n.to }
  where
    regroup : r + p + p ≡ r + (p + p)
    regroup = omega arith
halve false m r p d e h n = record { from = n.from; to = leb-false ((r + p) * (r + p)) m h }

near_root : (k m r : ℕ) → Near m r (2 ^ k) → IsRoot m (root_from k r m)
unfolding root_from
near_root zero m r n = record { from = n.from; to = rw one_more at n.to }
  where
    one_more : r + 1 ≡ suc r
    one_more = omega arith
near_root (suc k) m r n =
    near_root k m (pick (leb ((r + 2 ^ k) * (r + 2 ^ k)) m) (r + 2 ^ k) r)
    (halve (leb ((r + 2 ^ k) * (r + 2 ^ k)) m) m r (2 ^ k) (2 ^ suc k) (two-pow-succ k) refl n)

-- 24 digits reach every number below 2 ^ 48.
pub root_law : (m : ℕ) → m < 281474976710656 → IsRoot m (root_from 24 0 m)
root_law m h = near_root 24 m 0 (record { from = omega arith; to = omega arith })

-- A lower number's root is no greater.
pub root_rises : (m n r q : ℕ) → m ≤ n → r * r ≤ m → n < suc q * suc q → r ≤ q
root_rises m n r q h k l = by (leb r q) refl
  where
    squares : q < r → suc q * suc q ≤ r * r
    squares g = mul-le-mul g g

    by : (t : Bool) → leb r q ≡ t → r ≤ q
    by true e = leb-true r q e
    by false e = omega (arith, squares (leb-false r q e))

pub root_unique : (m r q : ℕ) → r * r ≤ m → m < suc r * suc r → q * q ≤ m → m < suc q * suc q → r ≡ q
root_unique m r q a b c d = omega (arith, root_rises m m r q (omega arith) a d, root_rises m m q r (omega arith) c b)

-- On values.
of_value : (a : ℕ) → a ≤ 2147483647 → IsRoot (65536 * a) (root_from 24 0 (65536 * a))
of_value a h = root_law (65536 * a) (omega arith)

pub root_is : (a r : ℕ) → a ≤ 2147483647 → r * r ≤ 65536 * a → 65536 * a < suc r * suc r → root_of (pos a) ≡ pos r
unfolding root_of
root_is a r h k l =
    let d = of_value a h in
    ap pos (root_unique (65536 * a) (root_from 24 0 (65536 * a)) r d.from d.to k l)

pub root_value : (z : ℤ) → IsValue z → IsValue (root_of z)
unfolding root_of
root_value (pos a) v =
    let m = 65536 * a in
    record {
      bound = omega (
        arith,
        root_rises m m (root_from 24 0 m) 16777215 (omega arith) (of_value a v.bound).from
            (omega arith),
      );
    }
root_value (negsuc a) v = record { bound = omega arith }

pub root_of_rises : (a b : ℤ) → IsValue b → AtMost a b → AtMost (root_of a) (root_of b)
unfolding root_of
root_of_rises (pos a) (pos b) v h =
    let c : a ≤ 2147483647 = omega arith in
    record {
      le = omega (
        arith,
        root_rises (65536 * a) (65536 * b) (root_from 24 0 (65536 * a)) (root_from 24 0 (65536 * b)) (omega arith)
            (of_value a c).from (of_value b v.bound).to,
      );
    }
root_of_rises (pos a) (negsuc b) v h = absurd (omega arith)
root_of_rises (negsuc a) (pos b) v h = record { le = omega arith }
root_of_rises (negsuc a) (negsuc b) v h = record { le = omega arith }
