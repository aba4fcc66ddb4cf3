-- min, max or neither.
use Rattle.std.proofs.Common.{refl, arith}
use Rattle.formula_rules.specs.Formulas.{minName, maxName}
use Rattle.formula_rules.specs.FormulaReader.{mi-, ma-, of_two}
use Rattle.formula.proofs.Bytes.{here_is, not_here, past_end}
use Rattle.formula.proofs.Names.{then_i, then_a, then_none, spells_min, spells_max, word_1}
use Rattle.formula.proofs.head.min_or_max.Goals as goal

pub returns-in-Some-eq105 : goal.returns-in-Some-eq105
returns-in-Some-eq105 c =
    let h = here_is c.in-Some-eq105.ensures c.in-Some-eq105.field-0-test in
    record {
      says = λ n l r. word_1 _ n (of_two minName) _ refl _ 110 mi- _ (omega arith) spells_min (then_i _ n _ r h)
          c.spell.ensures;
    }

pub returns-in-Some-eq97 : goal.returns-in-Some-eq97
returns-in-Some-eq97 c =
    let h = here_is c.in-Some-eq97.ensures c.in-Some-eq97.field-0-test in
    record {
      says = λ n l r. word_1 _ n (of_two maxName) _ refl _ 120 ma- _ (omega arith) spells_max (then_a _ n _ r h)
          c.spell-in-Some-eq97.ensures;
    }

pub returns-in_default : goal.returns-in_default
returns-in_default c =
    let h = c.in_default in
    record {
      says = λ n l r. then_none _ n _ r (not_here h.ensures h.field-0-test.0.1) (not_here h.ensures h.field-0-test.1);
    }

pub returns-in_default-2 : goal.returns-in_default-2
returns-in_default-2 c =
    let h = rw c.in_default.is at c.peek.ensures in
    record { says = λ n l r. then_none _ n _ r (past_end h) (past_end h) }
