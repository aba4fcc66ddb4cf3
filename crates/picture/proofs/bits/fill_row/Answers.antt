-- `bits::fill_row` meets its contract: whole bytes are lent as a part and filled, then the last is painted.
use Rattle.std.proofs.Common.{◌+◌, ◌-◌, ◌/◌, arith, refl, ◌∙◌}
use Rattle.std.proofs.lemmas.List.{places}
use borrow.Rule.Slice.PartMut.{put_mid}
use Rattle.std.proofs.Common.{replicate, rules, length, ◌≡◌}
use Rattle.picture.proofs.BitMarks.{fill_bytes, fill_last}
use Rattle.picture.proofs.LentParts.{kept_part}
use Rattle.picture.proofs.PartLaws.{kept_more}
use Rattle.picture.proofs.bits.fill_row.Goals as goal

pub returns : goal.returns
returns c =
    let a = c.args in
    let last = a.at + (a.count - 1) / 8 in
    let n = last - a.at in
    let filled : c.fill.new.self ≡ replicate n 255 = search rules in
    let p = put_mid a.at n a.picture.now c.fill.new.self in
    let long : length p ≡ length a.picture.now = search (rules, places) in
    rw c.paint.ensures (record {
      marked = fill_last a.at a.count last c.first_pixels.result a.picture.now p c.requires.some refl (omega arith)
          c.first_pixels.ensures (rw filled (fill_bytes a.at n a.picture.now (omega arith)));
      kept_outside = kept_more a.at last (a.at + (a.count + 7) / 8) _ a.picture.now p (omega arith) (omega arith)
          (kept_part a.at n a.picture.now _ last (omega arith) (omega arith) (c.fill.auto.self ∙ search (rules, places)));
    })
