-- The numbers of all positions, one a turn.
use mathlib.Core.Path.{◌≡◌, refl, ap, ◌∙◌}
use mathlib.Core.List.{List, [], ◌∷◌, ◌++◌}
use Prim.Native.Nat.{ℕ, zero, suc, ◌+◌, ◌≤◌, ◌<◌}
use native.Mathlib.Omega.{arith}
use native.Mathlib.Numerals.{add-one}
use lib.ListN.{length, set, take, length-set}
use lib.Seq.{take-suc-set}
use Rattle.swept_rules.specs.Keeping.{numbers_from}

pub record NumberedTo (n k : ℕ) (list₀ list : List ℕ) : Type 0 where
  pub numbers : take k list ≡ numbers_from 0 k
  pub few : k ≤ n
  pub size : length list ≡ length list₀

more : (j n : ℕ) → numbers_from j n ++ ((j + n) ∷ []) ≡ numbers_from j (suc n)
unfolding numbers_from
more j zero = ap (λ i. i ∷ []) (none j)
  where
    none : (j : ℕ) → j + 0 ≡ j
    none j = omega arith
more j (suc n) = ap (λ (l : List ℕ). j ∷ l) (ap (λ i. numbers_from (suc j) n ++ (i ∷ [])) (one j n) ∙ more (suc j) n)
  where
    one : (j n : ℕ) → j + suc n ≡ suc j + n
    one j n = omega arith

pub numbers_begin : (n : ℕ) (list : List ℕ) → NumberedTo n 0 list list
unfolding numbers_from
numbers_begin n list = record { numbers = refl; few = omega arith; size = refl }

pub numbers_next : {n : ℕ} (k : ℕ) {list₀ list : List ℕ} → NumberedTo n k list₀ list → k < n → n ≤ length list₀
    → NumberedTo n (k + 1) list₀ (set list k k)
numbers_next {n} k {list₀} {list} u l h =
    record {
      numbers = rw add-one
          (take-suc-set list k k (omega (arith, u.size)) ∙ ap (λ (v : List ℕ). v ++ (k ∷ [])) u.numbers
          ∙ ap (λ i. numbers_from 0 k ++ (i ∷ [])) (none k) ∙ more 0 k);
      few = omega arith;
      size = length-set list k k ∙ u.size;
    }
  where
    none : (k : ℕ) → k ≡ 0 + k
    none k = omega arith
