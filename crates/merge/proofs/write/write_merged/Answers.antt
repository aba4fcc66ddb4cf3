-- `write::write_merged` meets its contract: the head, the clauses of both tapes, the minimum.
use mathlib.Core.Path.{refl}
use native.Mathlib.Omega.{arith}
use Rattle.merge.proofs.Copying.{first_counted, second_counted, room, written}
use Rattle.merge.proofs.write.write_merged.Goals as goal

pub overflow_add-both : goal.overflow_add-both
overflow_add-both c = omega (arith, (room _ _ _ _ _ c.requires).clauses)

pub overflow_add-by : goal.overflow_add-by
overflow_add-by c = omega (arith, (room _ _ _ _ _ c.requires).slots)

pub overflow_add-both-2 : goal.overflow_add-both-2
overflow_add-both-2 c = omega (arith, (room _ _ _ _ _ c.requires).clauses)

pub put_head-requires : goal.put_head-requires
put_head-requires c =
    (omega (arith, (room _ _ _ _ _ c.requires).bytes), omega (arith, (room _ _ _ _ _ c.requires).slots))

pub copy_clauses-requires : goal.copy_clauses-requires
copy_clauses-requires c =
    record {
      tape = first_counted _ _ _ _ _ c.requires;
      few = omega arith;
      place = omega arith;
      room = omega (arith, (room _ _ _ _ _ c.requires).bytes, c.out-1.given);
    }

pub copy_clauses-requires-2 : goal.copy_clauses-requires-2
copy_clauses-requires-2 c =
    record {
      tape = second_counted _ _ _ _ _ c.requires;
      few = omega (arith, (room _ _ _ _ _ c.requires).slots);
      place = omega (arith, (room _ _ _ _ _ c.requires).clauses);
      room =
          omega (arith, (room _ _ _ _ _ c.requires).bytes, c.out-1.given, c.out-2-1.given);
    }

pub result_slot-left-requires : goal.result_slot-left-requires
result_slot-left-requires c = first_counted _ _ _ _ _ c.requires

pub result_slot-requires : goal.result_slot-requires
result_slot-requires c =
    second_counted _ _ _ _ _ c.requires

pub overflow_add-right : goal.overflow_add-right
overflow_add-right c =
    omega (arith, c.result_slot.ensures.1, (room _ _ _ _ _ c.requires).slots)

pub put_minimum-requires : goal.put_minimum-requires
put_minimum-requires c = record {
  at_bound = omega (
    arith,
    (room _ _ _ _ _ c.requires).bytes,
    c.out-1.given,
    c.out-2-1.given,
    c.out-3-1.given,
  );
  first_bound = (omega (arith, c.result_slot-left.ensures.1), omega (arith, c.result_slot.ensures.1, (room _ _ _ _ _ c.requires).slots));
}

pub returns : goal.returns
returns c =
    written _ _ _ _ _ c.requires _ _ _ _ _ _ _ _ c.put_head.ensures c.copy_clauses.ensures
    c.copy_clauses-2.ensures c.put_minimum.ensures refl refl c.result_slot-left.ensures.0
    c.result_slot.ensures.0
