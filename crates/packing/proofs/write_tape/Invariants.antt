-- `write_tape` meets its contract: the head, then the clauses from the i-th on.
use Prim.Native.Nat.{◌+◌, ◌*◌}
use lib.ListN.{drop}
use Rattle.rules.specs.Tapes.{raws_of, clause_bytes}
use Rattle.packing.specs.Packing.{bytes_of}
use Rattle.packing.proofs.Writing.{Written}
use Rattle.packing.proofs.Numbers.{Gathered}
use Rattle.packing.proofs.write_tape.Given as goal

abbrev pub invariant-loop-i : goal.invariant-loop-i
invariant-loop-i l = (Written clause_bytes (bytes_of l.slots l.list) l.slots l.i (8 + 10 * l.i) (raws_of (drop (5 * l.i) l.list)) l.out × Gathered l.list l.i)
