-- What the letters that are left say of the answer, all letters say.
use Rattle.std.proofs.Common.{drop, Result}
use Rattle.formula.specs.declared.head.Name.{Name}
use Rattle.formula.specs.declared.text.Stop.{Stop}
use Rattle.formula.specs.Heads.{Spelt}
use Rattle.formula.proofs.head.spell.Given as goal

abbrev pub invariant-loop-letter : goal.invariant-loop-letter
invariant-loop-letter l =
    (r : Result Name Stop) → Spelt l.text l.end (drop l.letter-index l.letters) l.function r
    → Spelt l.text l.from l.letters l.function r
