-- Three runs of four bytes.
use mir.Facts.{to_z-of_z}
use Rattle.verdicts.proofs.HeadLaws.{three_stored}
use Rattle.verdicts.proofs.head.put_three.Goals as goal

pub returns : goal.returns
returns c =
    let a = c.args in
    three_stored a.out.now c.put_constant.new.out c.put_constant-2.new.out
    c.put_constant-3.new.out a.at a.x a.y a.z _ _ _ (to_z-of_z c.ranges.x) (to_z-of_z c.ranges.y)
    (to_z-of_z c.ranges.z) c.put_constant.ensures c.put_constant-2.ensures
    c.put_constant-3.ensures
