-- `write::put_head` meets its contract.
use Prim.Native.Nat.{◌/◌, ◌%◌}
use mathlib.Core.Path.{refl}
use mathlib.Core.List.{[], ◌∷◌}
use Rattle.tape.proofs.WrittenBytes.{four_runs}
use Rattle.tape.proofs.write.put_head.Goals as goal

pub returns : goal.returns
returns c =
    let e = c.edition_of-edition in
    let a = c.args in
    rw (← e.ensures) (four_runs a.out.now c.put_mark.new.out c.put_pair.new.out
    c.put_word.new.out
    c.put_pair-2.new.out 0 2 4 6 84 80 e.result a.slots (a.count % 256) (a.count / 256 % 256) (0 ∷ (0 ∷ []))
    refl refl
    refl c.put_mark.ensures c.put_pair.ensures c.put_word.ensures
    c.put_pair-2.ensures)
