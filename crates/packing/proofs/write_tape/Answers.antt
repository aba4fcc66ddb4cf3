-- `write_tape` meets its contract: the head, then the clauses from the i-th on.
use native.Mathlib.Omega.{arith}
use Rattle.tape.specs.Clauses.{raw_of}
use Rattle.packing.specs.Packing.{bytes_of}
use Rattle.packing.proofs.Packing.{list_sizes, bytes_start, clause_bytes_lem, bytes_next, bytes_done}
use Rattle.packing.proofs.Numbers.{in_words, none_gathered, one_gathered, all_gathered}
use Rattle.packing.proofs.write_tape.Goals as goal

pub put_head-requires : goal.put_head-requires
put_head-requires c = let z = list_sizes _ _ _ _ c.requires in omega (arith, z.slots, z.bytes)

pub loop-i-init : goal.loop-i-init
loop-i-init c =
    let a = c.args in (
      bytes_start a.slots a.count a.list.now a.out.now c.requires c.put_head.new.out
          c.put_head.ensures,
      none_gathered a.list.now,
    )

pub overflow_cast-i : goal.overflow_cast-i
overflow_cast-i c = omega (arith, (list_sizes _ _ _ _ c.requires).clauses, c.loop-i-test.true)

pub overflow_mul-i : goal.overflow_mul-i
overflow_mul-i c = omega (arith, (list_sizes _ _ _ _ c.requires).clauses, c.loop-i-test.true)

pub fields_of-f-requires : goal.fields_of-f-requires
fields_of-f-requires c = omega (arith, (list_sizes _ _ _ _ c.requires).numbers, c.loop-i-test.true)

pub overflow_cast-i-in-loop-i : goal.overflow_cast-i-in-loop-i
overflow_cast-i-in-loop-i c = omega (arith, (list_sizes _ _ _ _ c.requires).clauses, c.loop-i-test.true)

pub overflow_mul-i-in-loop-i : goal.overflow_mul-i-in-loop-i
overflow_mul-i-in-loop-i c = omega (arith, (list_sizes _ _ _ _ c.requires).clauses, c.loop-i-test.true)

pub overflow_add-i : goal.overflow_add-i
overflow_add-i c = omega (arith, (list_sizes _ _ _ _ c.requires).clauses, c.loop-i-test.true)

pub put_clause-requires : goal.put_clause-requires
put_clause-requires c =
    let a = c.args in record {
      at_in_bounds = omega (arith, (list_sizes _ _ _ _ c.requires).bytes, c.requires.size, c.loop-i.invariant.0.size, c.loop-i-test.true);
      in_bytes = clause_bytes_lem (bytes_of a.slots a.list.now) a.slots c.loop-i.i a.list.now c.loop-i.out
          c.loop-i.invariant.0
          (raw_of c.fields_of-f.result) c.fields_of-f.ensures (list_sizes _ _ _ _ c.requires).slots;
    }

pub loop-i-preserved : goal.loop-i-preserved
loop-i-preserved c =
    let a = c.args in (
      bytes_next (bytes_of a.slots a.list.now) a.slots c.loop-i.i a.list.now c.loop-i.out
          c.loop-i.invariant.0
          (raw_of c.fields_of-f.result) c.fields_of-f.ensures c.put_clause.new.out c.put_clause.ensures
          (omega (arith, (list_sizes _ _ _ _ c.requires).bytes, c.requires.size, c.loop-i.invariant.0.size, c.loop-i-test.true)),
      one_gathered a.list.now c.loop-i.i c.loop-i.invariant.1 (raw_of c.fields_of-f.result) _
          c.fields_of-f.ensures (in_words c.fields_of-f.result c.fields_of-f.type_inv.1.1),
    )

pub shape_of-out : goal.shape_of-out
shape_of-out c = omega (arith, c.loop-i.invariant.0.size, c.requires.size)

pub returns : goal.returns
returns c =
    let a = c.args in
    let n = (list_sizes _ _ _ _ c.requires).numbers in record {
      out_after = bytes_done (bytes_of a.slots a.list.now) a.slots c.loop-i.i a.list.now c.loop-i.out
          c.loop-i.invariant.0 a.count n c.loop-i-test.false;
      list_value = all_gathered a.list.now c.loop-i.i c.loop-i.invariant.1 a.count n c.loop-i-test.false;
    }
