-- `bytes::opcode_at` meets its contract.
use mathlib.Core.Path.{sym, ◌∙◌}
use Rattle.tape.proofs.ByteClauses.{opcode_marked, opcode_unmarked}
use Rattle.tape.proofs.bytes.opcode_at.Goals as goal

pub returns-then-has_mark : goal.returns-then-has_mark
returns-then-has_mark c =
    opcode_marked c.args.s.now c.args.at _ (sym c.has_mark.ensures ∙ c.if-has_mark.true)
    c.byte_at.ensures.0 c.byte_at.ensures.1

pub returns : goal.returns
returns c =
    opcode_unmarked c.args.s.now c.args.at (sym c.has_mark.ensures ∙ c.if-has_mark.false)
