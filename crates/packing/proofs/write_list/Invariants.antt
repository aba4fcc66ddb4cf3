-- `write_list` meets its contract: the clauses from the i-th on.
use Prim.Native.Nat.{◌*◌}
use lib.ListN.{get_or}
use Rattle.rules.specs.Tapes.{list_of}
use Rattle.tape.proofs.ByteClauses.{left_from}
use Rattle.packing.specs.Packing.{numbers_of}
use Rattle.packing.proofs.Writing.{Written}
use Rattle.packing.proofs.write_list.Given as goal

abbrev pub invariant-loop-i : goal.invariant-loop-i
invariant-loop-i l = Written list_of (numbers_of l.tape) (get_or l.tape 3 0) l.i (5 * l.i) (left_from l.tape l.count l.i) l.out
