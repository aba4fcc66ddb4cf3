-- Byte by byte.
use Rattle.std.proofs.Common.{◌≡◌, ℕ, get_or}
use Rattle.patches.specs.Patches.{BytesSet}
use Rattle.patches.proofs.set_bytes.Given as goal

abbrev pub invariant-loop-i : goal.invariant-loop-i
invariant-loop-i g l =
    (f : ℕ → ℕ → ℕ) → ((b i r : ℕ) → goal.F-post g l.becomes b i r → r ≡ f b i)
    → BytesSet l.from l.i (λ i. f (get_or l.initial.picture i 0) i) l.initial.picture l.picture
