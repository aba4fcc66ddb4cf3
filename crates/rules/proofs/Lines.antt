-- The checks of a call as a list of lines: which one is returned.
use mathlib.Core.Path.{◌≡◌, refl, ap, ◌∙◌}
use mathlib.Core.List.{List, [], ◌∷◌, ◌++◌}
use Prim.Native.Nat.{ℕ, zero, suc}
use lib.ListN.{get_or}
use Rattle.rules.specs.Values.{first_of, first_fault}
use Rattle.rules.proofs.Tests.{first_zero}

pub first_here : (a b : ℕ) → (a ≡ 0 → ⊥) → first_of a b ≡ a
first_here zero b h = absurd (h refl)
first_here (suc a) b h = refl

pub first_none : (a : ℕ) → first_of a 0 ≡ a
first_none zero = refl
first_none (suc a) = refl

-- Where the lines before are 0, those after decide; so a line that is not 0 is returned, whatever stands behind it.
pub lines_after : (before after : List ℕ) → first_fault before ≡ 0 → first_fault (before ++ after) ≡ first_fault after
lines_after [] after e = refl
lines_after (n ∷ ns) after e =
    let z = first_zero n (first_fault ns) e in
    ap (λ m. first_of m (first_fault (ns ++ after))) z.0 ∙ lines_after ns after z.1

pub this_line : (before : List ℕ) (n : ℕ) (after : List ℕ) → first_fault before ≡ 0 → (n ≡ 0 → ⊥)
    → first_fault (before ++ (n ∷ after)) ≡ n
this_line before n after e h = lines_after before (n ∷ after) e ∙ first_here n (first_fault after) h

-- Where 0 is returned, every line is 0.
pub each_line : (ns : List ℕ) → first_fault ns ≡ 0 → (i : ℕ) → get_or ns i 0 ≡ 0
each_line [] e i = refl
each_line (n ∷ ns) e zero = (first_zero n (first_fault ns) e).0
each_line (n ∷ ns) e (suc i) = each_line ns (first_zero n (first_fault ns) e).1 i
