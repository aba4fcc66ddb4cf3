-- A list of children as it grows: one more in a lane that is free.
use mathlib.Core.Path.{◌≡◌, refl, ◌∙◌}
use mathlib.Core.Bool.{Bool, true, false}
use mathlib.Core.Logic.{◌≢◌}
use mathlib.Core.List.{List}
use lib.Dec.{eqb}
use lib.ListN.{length, get_or, set, replicate, length-set, get_or-replicate, length-replicate}
use lib.Seq.{get_or-set_same, get_or-set_other}
use Prim.Native.Nat.{ℕ, ◌+◌, ◌≤◌, ◌<◌}
use native.Mathlib.Omega.{arith}
use borrow.Author.Tests.{eqb-true, eqb-false}
use Rattle.lanes.specs.Lanes.{lane_count}
use Rattle.solid_lanes.specs.SolidLanes.{ListedFrom}

-- The lanes below the n-th are taken, and child m's first.
pub record Listing (m end : ℕ) (r : List ℕ) (n : ℕ) : Type 0 where
  pub size : length r ≡ lane_count
  pub some : 1 ≤ n
  pub few : n ≤ lane_count
  pub listed : ListedFrom m end r

pub first_listed : (m end : ℕ) → m < end → Listing m end (replicate lane_count m) 1
first_listed m end h =
    record {
      size = length-replicate lane_count m;
      some = omega arith;
      few = omega arith;
      listed = record {
        first = refl;
        there = λ k l. (let e = get_or-replicate lane_count k m 0 l in omega (arith, e));
      };
    }

pub one_more : {m end : ℕ} {r : List ℕ} (n i : ℕ) → n < lane_count → i < end → Listing m end r n
    → Listing m end (set r n i) (n + 1)
one_more {m} {end} {r} n i h l u =
    let z : 0 ≢ n = λ e. absurd (omega (arith, u.some)) in
    record {
      size = length-set r n i ∙ u.size;
      some = omega arith;
      few = omega arith;
      listed = record {
        first = get_or-set_other r n 0 i 0 z ∙ u.listed.first;
        there = λ k j. by k j (eqb k n) refl;
      };
    }
  where
    by : (k : ℕ) → k < lane_count → (t : Bool) → eqb k n ≡ t → get_or (set r n i) k 0 < end
    by k j true e =
        let q : n < length r = omega (arith, u.size) in
        rw (eqb-true k n e, get_or-set_same r n i 0 q) l
    by k j false e = rw (get_or-set_other r n k i 0 (eqb-false k n e)) (u.listed.there k j)

-- A list and its lanes by other names.
pub by_name : {m end : ℕ} {r r' : List ℕ} {n n' : ℕ} → r ≡ r' → n ≡ n' → Listing m end r' n' → Listing m end r n
by_name e f u = rw (e, f) u
