-- `raise::raised_field` meets its contract.
use native.Mathlib.Omega.{arith}
use Rattle.rules.specs.Tapes.{slot_limit}
use Rattle.tape.proofs.FieldValues.{slot_cast}
use Rattle.merge.proofs.Raising.{sum_small, used_raised, unused_kept}
use Rattle.merge.proofs.raise.raised_field.Goals as goal

pub overflow_cast-result : goal.overflow_cast-result
overflow_cast-result c = slot_cast slot_limit c.args.field c.ranges.field c.requires.field_value

pub overflow_add-result : goal.overflow_add-result
overflow_add-result c =
    omega (arith, sum_small c.args.field c.ranges.field c.requires.field_value c.args.by c.requires.by_le_slot_limit)

pub overflow_cast-result-then-used : goal.overflow_cast-result-then-used
overflow_cast-result-then-used c =
    omega (arith, sum_small c.args.field c.ranges.field c.requires.field_value c.args.by c.requires.by_le_slot_limit)

pub returns-then-used : goal.returns-then-used
returns-then-used c =
    used_raised c.args.field c.ranges.field c.requires.field_value c.args.by c.requires.by_le_slot_limit _ c.if-used.true

pub returns : goal.returns
returns c =
    unused_kept c.args.field c.ranges.field c.requires.field_value c.args.by _ c.if-used.false
