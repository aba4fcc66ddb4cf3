-- `write::put_pair` meets its contract.
use native.Mathlib.Omega.{arith}
use lib.ListN.{length-set}
use Rattle.tape.proofs.WrittenBytes.{pair_stored}
use Rattle.tape.proofs.write.put_pair.Goals as goal

pub bounds-out-at-2 : goal.bounds-out-at-2
bounds-out-at-2 c = simp length-set (omega (arith, c.requires))

pub returns : goal.returns
returns c = pair_stored c.args.out.now c.args.at c.args.first c.args.second
