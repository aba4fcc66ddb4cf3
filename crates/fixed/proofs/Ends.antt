-- The smaller and the larger of two whole numbers, by their signs; with clamping and rounding.
use mathlib.Core.Path.{◌≡◌, refl, sym, ap, ◌∙◌}
use mathlib.Core.Bool.{Bool, true, false}
use lib.IntN.{ℤ, pos, negsuc}
use lib.Dec.{ltb}
use lib.Signed.{lt_z}
use Prim.Native.Nat.{ℕ, min, max}
use native.Mathlib.Omega.{arith}
use borrow.Author.Tests.{ltb-true, ltb-false, le-ltb}
use Rattle.std.specs.Prelude.{cond}
use Rattle.std.specs.Int.{int_min, int_max}
use Rattle.rules.specs.Values.{pick, smaller, larger, clamped, floored, is_neg}

-- The lesser of two naturals by a test is `min`, the greater `max`.
lesser : (a b : ℕ) → pick (ltb b a) b a ≡ min a b
lesser a b = by_test_lem (ltb b a) refl
  where
    by_test_lem : (t : Bool) → ltb b a ≡ t → pick t b a ≡ min a b
    by_test_lem true e = omega (arith, ltb-true b a e)
    by_test_lem false e = omega (arith, ltb-false b a e)

greater : (a b : ℕ) → pick (ltb a b) b a ≡ max a b
greater a b = by_test_lem (ltb a b) refl
  where
    by_test_lem : (t : Bool) → ltb a b ≡ t → pick t b a ≡ max a b
    by_test_lem true e = omega (arith, ltb-true a b e)
    by_test_lem false e = omega (arith, ltb-false a b e)

pick_of : {A B : Type 0} (f : A → B) (t : Bool) (a b : A) → pick t (f a) (f b) ≡ f (pick t a b)
pick_of f true a b = refl
pick_of f false a b = refl

smaller_pos : (a b : ℕ) → smaller (pos a) (pos b) ≡ pos (min a b)
unfolding smaller
smaller_pos a b = pick_of pos (ltb b a) b a ∙ ap pos (lesser a b)

larger_pos : (a b : ℕ) → larger (pos a) (pos b) ≡ pos (max a b)
unfolding larger
larger_pos a b = pick_of pos (ltb a b) b a ∙ ap pos (greater a b)

smaller_neg : (a b : ℕ) → smaller (negsuc a) (negsuc b) ≡ negsuc (max a b)
unfolding smaller
smaller_neg a b = pick_of negsuc (ltb a b) b a ∙ ap negsuc (greater a b)

larger_neg : (a b : ℕ) → larger (negsuc a) (negsuc b) ≡ negsuc (min a b)
unfolding larger
larger_neg a b = pick_of negsuc (ltb b a) b a ∙ ap negsuc (lesser a b)

-- The library's smaller and larger number are those of the rules.
chosen_same : {A : Type 0} (t : Bool) (a b : A) → cond t a b ≡ pick t a b
chosen_same true a b = refl
chosen_same false a b = refl

larger_swap : (a b : ℤ) → larger a b ≡ larger b a
unfolding larger
larger_swap (pos a) (pos b) = larger_pos a b ∙ ap pos (omega arith) ∙ sym (larger_pos b a)
larger_swap (pos a) (negsuc b) = refl
larger_swap (negsuc a) (pos b) = refl
larger_swap (negsuc a) (negsuc b) = larger_neg a b ∙ ap negsuc (omega arith) ∙ sym (larger_neg b a)

pub min_is : (a b : ℤ) → int_min a b ≡ smaller a b
unfolding smaller
min_is a b = chosen_same (lt_z b a) b a

pub max_is : (a b : ℤ) → int_max a b ≡ larger a b
unfolding larger
max_is a b = chosen_same (lt_z b a) a b ∙ larger_swap b a

-- Rounding and clamping keep the smaller and the larger.
abbrev pub rounded : ℤ → ℤ
rounded z = clamped (floored z)

pub smaller_rounded : (a b : ℤ) → smaller (rounded a) (rounded b) ≡ rounded (smaller a b)
unfolding smaller
smaller_rounded (pos a) (pos b) = simp smaller_pos (ap pos (omega arith))
smaller_rounded (pos a) (negsuc b) = refl
smaller_rounded (negsuc a) (pos b) = refl
smaller_rounded (negsuc a) (negsuc b) = simp smaller_neg (ap negsuc (omega arith))

pub larger_rounded : (a b : ℤ) → larger (rounded a) (rounded b) ≡ rounded (larger a b)
unfolding larger
larger_rounded (pos a) (pos b) = simp larger_pos (ap pos (omega arith))
larger_rounded (pos a) (negsuc b) = refl
larger_rounded (negsuc a) (pos b) = refl
larger_rounded (negsuc a) (negsuc b) = simp larger_neg (ap negsuc (omega arith))

-- So the least and the greatest of four may be taken before rounding.
pub least_rounded : (p q s t : ℤ)
    → rounded (smaller (smaller p q) (smaller s t))
    ≡ smaller (smaller (rounded p) (rounded q)) (smaller (rounded s) (rounded t))
least_rounded p q s t = simp smaller_rounded

pub greatest_rounded : (p q s t : ℤ)
    → rounded (larger (larger p q) (larger s t))
    ≡ larger (larger (rounded p) (rounded q)) (larger (rounded s) (rounded t))
greatest_rounded p q s t = simp larger_rounded

-- Whether a number is below 0, by its sign.
pub negative : (z : ℤ) → lt_z z (pos 0) ≡ is_neg z
negative (pos n) = le-ltb n 0 (omega arith)
negative (negsuc n) = refl
