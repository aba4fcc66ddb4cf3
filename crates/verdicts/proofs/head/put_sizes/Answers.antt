-- Four runs of two bytes.
use Rattle.verdicts.proofs.HeadLaws.{sizes_stored}
use Rattle.verdicts.proofs.head.put_sizes.Goals as goal

pub returns : goal.returns
returns c =
    let a = c.args in
    sizes_stored a.out.now c.put_mark.new.out c.put_word.new.out c.put_word-2.new.out
    c.put_word-3.new.out a.width a.height c.put_mark.ensures c.put_word.ensures
    c.put_word-2.ensures c.put_word-3.ensures
