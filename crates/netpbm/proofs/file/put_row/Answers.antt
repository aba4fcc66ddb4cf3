-- All of a row but its last byte, then that byte with its spare bits cleared.
use Rattle.std.proofs.Common.{◌-◌, ◌<◌, refl, sym, arith, length, get_or, rules}
use Rattle.netpbm.proofs.Written.{then, one, renamed}
use Rattle.netpbm.proofs.FileRows.{clean_row_lem, length_front}
use Rattle.netpbm.proofs.file.put_row.Goals as goal

pub returns : goal.returns
returns c =
    let row = c.args.row.now in
    let last = length row - 1 in
    let byte : get_or row last 0 < 256 = search rules in
    renamed
    (sym (clean_row_lem c.args.width row last c.last_mask.result c.requires.le_width c.requires.row_len refl byte
    c.last_mask.ensures))
    (then c.put-next.ensures (one _ _ _ (omega (arith, c.requires, length_front row))))
