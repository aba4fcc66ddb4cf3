-- Row by row.
use Rattle.std.proofs.Common.{◌≡◌, ℕ, get_or}
use Rattle.patches.specs.Patches.{PartSet}
use Rattle.patches.proofs.set_part.Given as goal

abbrev pub invariant-loop-j : goal.invariant-loop-j
invariant-loop-j g l =
    (f : ℕ → ℕ → ℕ) → ((b i r : ℕ) → goal.F-post g l.becomes b i r → r ≡ f b i)
    → PartSet l.width l.part.x l.part.xend l.part.y l.j (λ i. f (get_or l.initial.picture i 0) i) l.initial.picture l.picture
