-- A verdict and the byte that says it.
use Rattle.std.specs.Prelude.{◌≡◌, ℕ, ◌<◌, Result, MatchResult}
use Rattle.verdicts.specs.declared.verdict.Verdict.{Verdict}
use Rattle.verdicts.specs.declared.verdict.Verdict.TheVariants.{Unknown, Full, Empty, Kept}
use Rattle.verdicts.specs.declared.verdict.NoVerdict.{NoVerdict}

abbrev pub byte_of : Verdict → ℕ
byte_of Unknown = 0
byte_of Full = 1
byte_of Empty = 2
byte_of Kept = 3

-- The verdict of a byte, or that no verdict has it; and the byte of a verdict.
abbrev pub Says : ℕ → Result Verdict NoVerdict → Type 0
Says byte r = MatchResult r (λ v. byte_of v ≡ byte) (λ e. (e.0 ≡ byte) × (3 < byte))

abbrev pub Said : Verdict → ℕ → Type 0
Said v byte = byte ≡ byte_of v
