-- `clause::check_clause` meets its contract: each line in its order, given that the lines before it do not hold.
use mathlib.Core.Path.{◌≡◌, sym, ap, ◌∙◌}
use mathlib.Core.Bool.{true, false}
use Rattle.rules.specs.Tapes.{is_opcode, bad_slot, bad_unused, bad_constant}
use Rattle.tape.specs.Clauses.{raw_of}
use Rattle.tape.proofs.FieldValues.{all_kept}
use Rattle.tape_check.proofs.ClauseLines.{fault_5, fault_6, fault_7, fault_8, fault_9, fault_none}
use Rattle.tape_check.proofs.clause.check_clause.Goals as goal
use Rattle.tape_check.proofs.clause.check_clause.Goals.{After-is_opcode, Else-bad_constant, Else-bad_slot, Else-bad_unused, Else-not-is_opcode}

opcode_test : (c : After-is_opcode) → is_opcode c.args.f.opcode ≡ c.is_opcode.result
opcode_test c =
    let f = c.args.f in
    ap is_opcode (sym (all_kept f c.struct_told-1.given).opcode) ∙ sym c.is_opcode.ensures

pub returns-then-not-is_opcode : goal.returns-then-not-is_opcode
returns-then-not-is_opcode c = λ ns i. fault_5 _ ns _ (opcode_test (goal.at.returns-then-not-is_opcode c).After-is_opcode ∙ c.if-not-is_opcode.true)

opcode-holds : (c : Else-not-is_opcode) → is_opcode c.args.f.opcode ≡ true
opcode-holds c = opcode_test (goal.at.Else-not-is_opcode c).After-is_opcode ∙ c.if-not-is_opcode.false

pub returns-then-bad_slot : goal.returns-then-bad_slot
returns-then-bad_slot c =
    λ ns i.
    fault_6 _ ns _ (opcode-holds (goal.at.returns-then-bad_slot c).Else-not-is_opcode) (sym c.bad_slot.ensures ∙ c.if-bad_slot.true)

slots-hold : (c : Else-bad_slot)
    → let a = c.args in bad_slot a.slots (raw_of a.f) ≡ false
slots-hold c = sym c.bad_slot.ensures ∙ c.if-bad_slot.false

pub returns-then-bad_unused : goal.returns-then-bad_unused
returns-then-bad_unused c =
    λ ns i.
    fault_7 _ ns _ (opcode-holds (goal.at.returns-then-bad_unused c).Else-not-is_opcode) (slots-hold (goal.at.returns-then-bad_unused c).Else-bad_slot)
    (sym c.bad_unused.ensures ∙ c.if-bad_unused.true)

unused-hold : (c : Else-bad_unused)
    → bad_unused (raw_of c.args.f) ≡ false
unused-hold c = sym c.bad_unused.ensures ∙ c.if-bad_unused.false

pub returns-then-bad_constant : goal.returns-then-bad_constant
returns-then-bad_constant c =
    λ ns i.
    fault_8 _ ns _ (opcode-holds (goal.at.returns-then-bad_constant c).Else-not-is_opcode) (slots-hold (goal.at.returns-then-bad_constant c).Else-bad_slot) (unused-hold (goal.at.returns-then-bad_constant c).Else-bad_unused)
    (sym c.bad_constant.ensures ∙ c.if-bad_constant.true)

pub bad_read-requires : goal.bad_read-requires
bad_read-requires c = record {
  slots_le_slot_limit = c.requires;
  f_value = slots-hold (goal.at.bad_read-requires c).Else-bad_slot;
}

constant-holds : (c : Else-bad_constant)
    → bad_constant (raw_of c.args.f) ≡ false
constant-holds c = sym c.bad_constant.ensures ∙ c.if-bad_constant.false

pub returns-then-bad_read : goal.returns-then-bad_read
returns-then-bad_read c =
    λ ns i.
    fault_9 _ ns _ (opcode-holds (goal.at.returns-then-bad_read c).Else-not-is_opcode) (slots-hold (goal.at.returns-then-bad_read c).Else-bad_slot) (unused-hold (goal.at.returns-then-bad_read c).Else-bad_unused) (constant-holds (goal.at.returns-then-bad_read c).Else-bad_constant)
    (sym (c.bad_read.ensures ns i) ∙ c.if-bad_read.true)

pub returns : goal.returns
returns c =
    λ ns i.
    fault_none _ ns _ (opcode-holds (goal.at.returns c).Else-not-is_opcode) (slots-hold (goal.at.returns c).Else-bad_slot) (unused-hold (goal.at.returns c).Else-bad_unused) (constant-holds (goal.at.returns c).Else-bad_constant)
    (sym (c.bad_read.ensures ns i) ∙ c.if-bad_read.false)
