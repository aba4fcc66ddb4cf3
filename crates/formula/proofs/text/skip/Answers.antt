-- As many spaces as stand in front of what is left of the text.
use Rattle.std.proofs.Common.{◌+◌, ◌-◌, drop, length, length-drop, arith}
use Rattle.std.proofs.lemmas.List.{take_all}
use Rattle.formula_rules.specs.FormulaCalls.{Blank}
use Rattle.formula.proofs.Bytes.{blank_at}
use Rattle.formula.proofs.text.skip.Goals.{After-spaces}
use Rattle.formula.proofs.text.skip.Goals as goal

blank : (c : After-spaces) → Blank c.args.text.now c.args.from (c.args.from + c.spaces.result)
blank c =
    let t = c.args.text.now in
    let n = c.args.from in
    let e = take_all (length t - n) (drop n t) (omega (arith, length-drop n t)) in
    rw (c.spaces.ensures, e) (blank_at _ _ c.requires)

pub overflow_add-result : goal.overflow_add-result
overflow_add-result c = omega (arith, (blank c).within, c.well_formed.0)

pub returns : goal.returns
returns c = blank c
