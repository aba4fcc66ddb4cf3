-- Lanes done up to one of them, and one lane more: what every loop over the lanes rests on.
use mathlib.Core.Path.{◌≡◌, refl, ◌∙◌}
use mathlib.Core.List.{List}
use lib.ListN.{length, set, get_or, length-set}
use lib.Seq.{get_or-set_same, get_or-set_other}
use Prim.Native.Nat.{ℕ, ◌+◌, ◌≤◌, ◌<◌}
use native.Mathlib.Omega.{arith}
use lib.Dec.{eqb}
use mathlib.Core.Bool.{Bool, true, false}
use borrow.Author.Tests.{eqb-true, eqb-false}
use Rattle.roots.specs.Eight.{lane_count}

-- The lanes of r below the k-th have what is wanted of them; d stands where there is no lane.
pub record Below {A : Type 0} (d : A) (P : ℕ → A → Type 0) (r : List A) (k : ℕ) : Type 0 where
  pub size : length r ≡ lane_count
  pub at : (j : ℕ) → j < k → P j (get_or r j d)

module _ {A : Type 0} (d : A) (P : ℕ → A → Type 0) (r : List A) where
  pub none_below : length r ≡ lane_count → Below d P r 0
  none_below e = record { size = e; at = λ j h. absurd (omega arith) }

  pub one_more : (k : ℕ) (v : A) → k < lane_count → Below d P r k → P k v → Below d P (set r k v) (k + 1)
  one_more k v h b p = record { size = length-set r k v ∙ b.size; at = λ j l. by j l (eqb j k) refl }
    where
      by : (j : ℕ) → j < k + 1 → (t : Bool) → eqb j k ≡ t → P j (get_or (set r k v) j d)
      by j l true e =
          let q : k < length r = omega (arith, b.size) in rw (eqb-true j k e, get_or-set_same r k v d q) p
      by j l false e =
          let n = eqb-false j k e in rw (get_or-set_other r k j v d n) (b.at j (omega arith))

  pub all_below_lem : (k : ℕ) → lane_count ≤ k → Below d P r k → (j : ℕ) → j < lane_count → P j (get_or r j d)
  all_below_lem k h b j l = b.at j (omega arith)
