-- Compared with the length as it must be.
use Rattle.answers.proofs.LineLaws.{length_wrong, length_right}
use Rattle.answers.proofs.lines.check_length.Goals as goal

pub returns-then-length-picture_length : goal.returns-then-length-picture_length
returns-then-length-picture_length c =
    let a = c.args in
    length_wrong a.solid _ a.length _ c.if-length-picture_length.true c.picture_length.ensures

pub returns : goal.returns
returns c =
    let a = c.args in
    length_right a.solid _ a.length _ c.if-length-picture_length.false c.picture_length.ensures
