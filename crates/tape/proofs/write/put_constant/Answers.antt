-- `write::put_constant` meets its contract.
use Rattle.tape.proofs.WrittenBytes.{four_stored}
use Rattle.tape.proofs.write.put_constant.Goals as goal

pub returns : goal.returns
returns c =
    four_stored c.args.out.now c.put_word.new.out c.put_word-2.new.out c.args.at
    c.cast_unsigned-bits.result c.args.v c.ranges.v c.cast_unsigned-bits.ensures c.put_word.ensures
    c.put_word-2.ensures
