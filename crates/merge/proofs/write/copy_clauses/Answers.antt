-- `write::copy_clauses` meets its contract: the clauses from the i-th on.
use Prim.Native.Nat.{◌+◌, ◌*◌, ◌≤◌}
use native.Mathlib.Omega.{arith}
use lib.ListN.{length}
use Rattle.merge.proofs.Copying.{Sizes, sizes, start_copying, clause_slots, next_copying, all_copied}
use Rattle.merge.proofs.write.copy_clauses.Goals.{In-loop-i}
use Rattle.merge.proofs.write.copy_clauses.Goals as goal

pub loop-i-init : goal.loop-i-init
loop-i-init c = start_copying _ _ _ _ _ c.requires.tape

-- What a turn has: the tape's sizes, and room in the output.
here-sizes : (c : In-loop-i) → let a = c.args in Sizes a.tape.now a.count
here-sizes c = sizes c.args.tape.now c.args.count c.requires.tape

room : (c : In-loop-i) → c.args.at + 10 * c.loop-i.i + 10 ≤ length c.loop-i.out
room c = omega (arith, c.requires.room, c.loop-i.invariant.size, c.loop-i-test.true)

pub overflow_cast-i : goal.overflow_cast-i
overflow_cast-i c = omega (arith, (here-sizes c).clauses, c.loop-i-test.true)

pub overflow_mul-i : goal.overflow_mul-i
overflow_mul-i c = omega (arith, (here-sizes c).clauses, c.loop-i-test.true)

pub overflow_add-i : goal.overflow_add-i
overflow_add-i c = omega (arith, (here-sizes c).clauses, c.loop-i-test.true)

pub fields_in-f-requires : goal.fields_in-f-requires
fields_in-f-requires c = omega (arith, (here-sizes c).bytes, c.loop-i-test.true)

pub overflow_cast-i-in-loop-i : goal.overflow_cast-i-in-loop-i
overflow_cast-i-in-loop-i c =
    let here-sizes : let a = c.args in Sizes a.tape.now a.count = sizes c.args.tape.now c.args.count c.requires.tape in
    omega (arith, here-sizes.clauses, c.loop-i-test.true)

pub overflow_mul-i-in-loop-i : goal.overflow_mul-i-in-loop-i
overflow_mul-i-in-loop-i c =
    let here-sizes : let a = c.args in Sizes a.tape.now a.count = sizes c.args.tape.now c.args.count c.requires.tape in
    omega (arith, here-sizes.clauses, c.loop-i-test.true)

pub overflow_add-at : goal.overflow_add-at
overflow_add-at c =
    let here-sizes : let a = c.args in Sizes a.tape.now a.count = sizes c.args.tape.now c.args.count c.requires.tape in
    omega (arith, c.requires.place, here-sizes.clauses, c.loop-i-test.true)

pub raised-requires : goal.raised-requires
raised-requires c = record {
  in_slots = clause_slots _ _ _ _ _ _ _ c.loop-i.invariant c.loop-i-test.true c.requires.tape _ c.fields_in-f.ensures;
  by_le_slot_limit = c.requires.few;
}

pub put_clause-requires : goal.put_clause-requires
put_clause-requires c =
    let room : c.args.at + 10 * c.loop-i.i + 10 ≤ length c.loop-i.out = omega (arith, c.requires.room, c.loop-i.invariant.size, c.loop-i-test.true) in
    record {
      at_in_bounds = room;
      in_bytes = c.raised.ensures.bytes;
    }

pub loop-i-preserved : goal.loop-i-preserved
loop-i-preserved c =
    next_copying _ _ _ _ _ _ _ c.loop-i.invariant c.loop-i-test.true _ _ _ c.fields_in-f.ensures
    c.raised.ensures c.put_clause.ensures

pub shape_of-out : goal.shape_of-out
shape_of-out c = c.loop-i.invariant.size

pub returns : goal.returns
returns c =
    all_copied _ _ _ _ _ _ _ c.loop-i.invariant c.requires.tape c.loop-i-test.false
