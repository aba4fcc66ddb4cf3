-- One name after the other, by its first letter.
use Rattle.std.proofs.Common.{refl, arith}
use Rattle.formula_rules.specs.Formulas.{absName, sqrName, rootName}
use Rattle.formula_rules.specs.FormulaReader.{a-, ab-, s-, sq-, r-, ro-, roo-, of_one}
use Rattle.formula.proofs.Bytes.{here_is, not_here, past_end}
use Rattle.formula.proofs.Names.{first_a, first_s, first_r, first_m, no_word, spells_ab, spells_abs, spells_sq}
use Rattle.formula.proofs.Names.{spells_sqr, spells_ro, spells_roo, spells_root, word_2, word_3}
use Rattle.formula.proofs.head.word.Goals as goal

pub returns-in-Some-eq97 : goal.returns-in-Some-eq97
returns-in-Some-eq97 c =
    let h = here_is c.in-Some-eq97.ensures c.in-Some-eq97.field-0-test in
    word_2 _ _ (of_one absName) _ refl _ 98 115 a- ab- _ (omega arith) spells_ab spells_abs (first_a _ _ h)
    c.spell.ensures

pub returns-in-Some-eq115 : goal.returns-in-Some-eq115
returns-in-Some-eq115 c =
    let h = here_is c.in-Some-eq115.ensures c.in-Some-eq115.field-0-test in
    word_2 _ _ (of_one sqrName) _ refl _ 113 114 s- sq- _ (omega arith) spells_sq spells_sqr (first_s _ _ h)
    c.spell-in-Some-eq115.ensures

pub returns-in-Some-eq114 : goal.returns-in-Some-eq114
returns-in-Some-eq114 c =
    let h = here_is c.in-Some-eq114.ensures c.in-Some-eq114.field-0-test in
    word_3 _ _ (of_one rootName) _ refl _ 111 111 116 r- ro- roo- _ (omega arith) spells_ro spells_roo spells_root
    (first_r _ _ h) c.spell-in-Some-eq114.ensures

pub returns-in-Some-eq109 : goal.returns-in-Some-eq109
returns-in-Some-eq109 c =
    let h = here_is c.in-Some-eq109.ensures c.in-Some-eq109.field-0-test in
    c.min_or_max.ensures.says _ (omega arith) (first_m _ _ h)

pub returns-in_default : goal.returns-in_default
returns-in_default c =
    let h = c.in_default in
    let t = h.field-0-test in
    no_word _ _ c.requires.0 c.requires.1 (not_here h.ensures t.0.0.0.1) (not_here h.ensures t.0.0.1)
    (not_here h.ensures t.0.1) (not_here h.ensures t.1)

pub returns-in_default-2 : goal.returns-in_default-2
returns-in_default-2 c =
    let h = rw c.in_default.is at c.peek.ensures in
    no_word _ _ c.requires.0 c.requires.1 (past_end h) (past_end h) (past_end h) (past_end h)
