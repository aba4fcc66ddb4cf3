-- Refused with the output as it was, or the merged tape.
use Rattle.std.proofs.lemmas.Result.{err_from_is_err_and}
use Rattle.merge.proofs.Checking.{first_refuses, second_refuses, limits_refuse, length_refuses, merge_does, writable}
use Rattle.merge.proofs.write_checked.Goals as goal

pub returns-in_err-one : goal.returns-in_err-one
returns-in_err-one c =
    let p = err_from_is_err_and c.from_residual.result c.from_residual.ensures.1 in
    rw (p.1, p.2) (first_refuses _ _ _ _ c.in_err-one.ensures)

pub returns-in_err-two : goal.returns-in_err-two
returns-in_err-two c =
    let r = c.from_residual-in_err-two in
    let p = err_from_is_err_and r.result r.ensures.1 in
    rw (p.1, p.2) (second_refuses _ _ _ c.in_ok-one.ensures.number _ c.in_err-two.ensures)

pub returns-in_err-check_limits : goal.returns-in_err-check_limits
returns-in_err-check_limits c =
    let r = c.from_residual-in_err-check_limits in
    let p = err_from_is_err_and r.result r.ensures.1 in
    rw (p.1, p.2) (limits_refuse _ _ _ _ _ c.in_ok-one.ensures c.in_ok-two.ensures _ c.in_err-check_limits.ensures)

pub returns-in_err-check_length : goal.returns-in_err-check_length
returns-in_err-check_length c =
    let r = c.from_residual-in_err-check_length in
    let p = err_from_is_err_and r.result r.ensures.1 in
    rw (p.1, p.2)
    (length_refuses _ _ _ _ _ c.in_ok-one.ensures c.in_ok-two.ensures c.in_ok-check_limits.ensures _
    c.in_err-check_length.ensures)

pub write_merged-requires : goal.write_merged-requires
write_merged-requires c =
    writable _ _ _ _ _ c.in_ok-one.ensures c.in_ok-two.ensures c.in_ok-check_limits.ensures c.in_ok-check_length.ensures

pub returns : goal.returns
returns c =
    merge_does _ _ _ _ _ c.in_ok-one.ensures c.in_ok-two.ensures c.in_ok-check_limits.ensures
    c.in_ok-check_length.ensures c.write_merged.ensures
