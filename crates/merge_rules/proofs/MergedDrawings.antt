-- Two tapes made into one have material where either has it, and the larger of both heights at every pixel.
use mathlib.Core.Path.{◌≡◌, refl, sym, ap, ap₂, ◌∙◌}
use mathlib.Core.Bool.{Bool, true, false, ◌||◌}
use mathlib.Core.List.{List, [], ◌∷◌, ◌++◌}
use lib.IntN.{ℤ, pos, negsuc}
use Prim.Native.Nat.{ℕ, zero, suc, ◌≤◌, max}
use native.Mathlib.Omega.{arith}
use lib.ListN.{length, get_or}
use Rattle.rules.specs.Values.{pick, is_neg, below, smaller, Sample}
use Rattle.rules.specs.Tapes.{Tape, value_at, material}
use Rattle.rules.specs.Drawings.{Grid, solid, sample_at, layers, grid_fault, column_from, row_from, rows_from, drawn, walked}
use Rattle.rules.specs.Accepted.{Accepted}
use Rattle.rules.proofs.Runs.{good_accepted}
use Rattle.rules.proofs.Walk.{same_picture}
use Rattle.merge_rules.specs.Merging.{merged, can_merge}
use Rattle.merge_rules.proofs.MergedValues.{merged_value}
use Rattle.merge_rules.proofs.MergedTapes.{merged_accepted}

-- The smaller of two values is below 0 exactly if one of them is.
smaller_negative : (a b : ℤ) → is_neg (smaller a b) ≡ (is_neg a || is_neg b)
unfolding smaller
smaller_negative (pos a) (pos b) = go (below (pos b) (pos a))
  where
    go : (t : Bool) → is_neg (pick t (pos b) (pos a)) ≡ false
    go true = refl
    go false = refl
smaller_negative (pos a) (negsuc b) = refl
smaller_negative (negsuc a) (pos b) = refl
smaller_negative (negsuc a) (negsuc b) = go (below (negsuc b) (negsuc a))
  where
    go : (t : Bool) → is_neg (pick t (negsuc b) (negsuc a)) ≡ true
    go true = refl
    go false = refl

-- v has material exactly where t or u has it.
pub record Either (t u v : Tape) : Type 0 where
  pub has : (s : Sample) → material v s ≡ (material t s || material u s)

pub merged_material : (t u : Tape) → Accepted t → Accepted u → Either t u (merged t u)
unfolding material
merged_material t u p q =
    record { has = λ s. ap is_neg (merged_value t u p q s) ∙ smaller_negative (value_at t s) (value_at u s) }

-- A column by its highest layer.
column_step : (k : ℕ) (t : Tape) (g : Grid) (i j : ℕ) (b : Bool) → material t (sample_at g i j k) ≡ b
    → column_from (suc k) t g i j ≡ pick b (suc k) (column_from k t g i j)
unfolding column_from
column_step k t g i j true e = rw (e, column_from)
column_step k t g i j false e = rw (e, column_from)

column_most : (k : ℕ) (t : Tape) (g : Grid) (i j : ℕ) → column_from k t g i j ≤ k
unfolding column_from
column_most zero t g i j = omega arith
column_most (suc k) t g i j =
    go (material t (sample_at g i j k)) (column_step k t g i j _ refl) (column_most k t g i j)
  where
    go : (b : Bool) → column_from (suc k) t g i j ≡ pick b (suc k) (column_from k t g i j) → column_from k t g i j ≤ k
        → column_from (suc k) t g i j ≤ suc k
    go true e h = omega arith
    go false e h = omega arith

-- The larger height of two pictures, pixel by pixel.
unfoldable pub higher : List ℕ → List ℕ → List ℕ
higher [] k = k
higher (a ∷ h) [] = a ∷ h
higher (a ∷ h) (b ∷ k) = max a b ∷ higher h k

module _ (t u v : Tape) (same : Either t u v) (g : Grid) where
  column_higher : (k i j : ℕ) → column_from k v g i j ≡ max (column_from k t g i j) (column_from k u g i j)
  unfolding column_from
  column_higher zero i j = refl
  column_higher (suc k) i j =
      let s = sample_at g i j k in
      go (material t s) (material u s) (column_step k t g i j _ refl) (column_step k u g i j _ refl)
      (column_step k v g i j _ (same.has s)) (column_higher k i j)
    where
      go : (a b : Bool) → column_from (suc k) t g i j ≡ pick a (suc k) (column_from k t g i j)
          → column_from (suc k) u g i j ≡ pick b (suc k) (column_from k u g i j)
          → column_from (suc k) v g i j ≡ pick (a || b) (suc k) (column_from k v g i j)
          → column_from k v g i j ≡ max (column_from k t g i j) (column_from k u g i j)
          → column_from (suc k) v g i j ≡ max (column_from (suc k) t g i j) (column_from (suc k) u g i j)
      go true true d e f h = omega arith
      go true false d e f h = omega (arith, column_most k u g i j)
      go false true d e f h = omega (arith, column_most k t g i j)
      go false false d e f h = omega arith

  row_higher : (n i j : ℕ) → row_from n i j v g ≡ higher (row_from n i j t g) (row_from n i j u g)
  unfolding row_from higher
  row_higher zero i j = refl
  row_higher (suc n) i j =
      ap₂ (λ (a : ℕ) (r : List ℕ). a ∷ r) (column_higher (layers g) i j) (row_higher n (suc i) j)

row_length : (n i j : ℕ) (t : Tape) (g : Grid) → length (row_from n i j t g) ≡ n
unfolding row_from
row_length zero i j t g = refl
row_length (suc n) i j t g = ap suc (row_length n (suc i) j t g)

higher_append : (a b c d : List ℕ) → length a ≡ length b → higher (a ++ c) (b ++ d) ≡ higher a b ++ higher c d
unfolding higher
higher_append [] [] c d e = refl
higher_append [] (y ∷ b) c d e = absurd (omega arith)
higher_append (x ∷ a) [] c d e = absurd (omega arith)
higher_append (x ∷ a) (y ∷ b) c d e = ap (λ (r : List ℕ). max x y ∷ r) (higher_append a b c d (omega arith))

module _ (t u v : Tape) (same : Either t u v) (g : Grid) where
  rows_higher : (n j : ℕ) → rows_from n j v g ≡ higher (rows_from n j t g) (rows_from n j u g)
  unfolding rows_from higher
  rows_higher zero j = refl
  rows_higher (suc n) j =
      let w = g.width in
      ap₂ (λ (a b : List ℕ). a ++ b) (row_higher t u v same g w 0 j) (rows_higher n (suc j))
      ∙ sym
      (higher_append (row_from w 0 j t g) (row_from w 0 j u g) (rows_from n (suc j) t g) (rows_from n (suc j) u g)
      (row_length w 0 j t g ∙ sym (row_length w 0 j u g)))

  pub drawn_higher : drawn v g ≡ higher (drawn t g) (drawn u g)
  unfolding drawn
  drawn_higher = rows_higher g.height 0

-- Pixel by pixel.
pub higher_at : (h k : List ℕ) (p : ℕ) → get_or (higher h k) p 0 ≡ max (get_or h p 0) (get_or k p 0)
unfolding higher
higher_at [] k p = omega arith
higher_at (a ∷ h) [] p = omega arith
higher_at (a ∷ h) (b ∷ k) zero = refl
higher_at (a ∷ h) (b ∷ k) (suc p) = higher_at h k p

-- The full drawing of the result, flat or solid, on any grid.
pub merged_drawn : (t u : Tape) → Accepted t → Accepted u → (g : Grid)
    → drawn (merged t u) g ≡ higher (drawn t g) (drawn u g)
merged_drawn t u p q g = drawn_higher t u (merged t u) (merged_material t u p q) g

-- And by tiles.
pub merged_walked : (t u : Tape) → Accepted t → Accepted u → can_merge t u ≡ true → (g : Grid) (isSolid : Bool)
    → isSolid ≡ solid g → grid_fault isSolid g ≡ 0 → (walked (merged t u) g).heights ≡ higher (drawn t g) (drawn u g)
merged_walked t u p q e g isSolid k f =
    same_picture (merged t u) (good_accepted (merged t u) (merged_accepted t u p q e)) g isSolid k f
    ∙ merged_drawn t u p q g
