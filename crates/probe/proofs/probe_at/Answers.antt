-- Refused by the first line that holds, or run at the rounded point.
use Rattle.std.proofs.Common.{sym, ap, ◌∙◌, w32}
use Rattle.std.proofs.lemmas.Result.{err_from_is_err_and}
use Rattle.rules.specs.Tapes.{read_tape, value_at}
use Rattle.rules.proofs.Words.{back}
use Rattle.promises.specs.Sides.{side_of}
use Rattle.probe.proofs.Probing.{rounded_sample, tape_refused, point_at_fault, answered}
use Rattle.probe.proofs.probe_at.Goals as goal

pub returns-in_err-check_tape : goal.returns-in_err-check_tape
returns-in_err-check_tape c =
    let p = err_from_is_err_and c.from_residual.result c.from_residual.ensures.1 in
    rw (p.1, p.2) (tape_refused _ _ _ c.in_err-check_tape.ensures)

pub returns-in_err-check_point : goal.returns-in_err-check_point
returns-in_err-check_point c =
    let r = c.from_residual-in_err-check_point in
    let p = err_from_is_err_and r.result r.ensures.1 in
    rw (p.1, p.2) (point_at_fault _ _ c.in_ok-check_tape.ensures _ c.in_err-check_point.ensures)

pub rounded_point-requires : goal.rounded_point-requires
rounded_point-requires c = sym c.in_ok-check_point.ensures

pub run_tape-value-requires : goal.run_tape-value-requires
run_tape-value-requires c =
    record {
      tape_value = c.in_ok-check_tape.ensures.number;
      sample_ok = rounded_sample _ c.rounded_point.ensures (sym c.in_ok-check_point.ensures);
    }

pub returns : goal.returns
returns c =
    let t = c.run_tape-value in
    answered _ _ c.in_ok-check_tape.ensures c.in_ok-check_point.ensures
    (c.side_of.ensures
    ∙ ap side_of
    (back w32 t.result t.type_inv
    (t.ensures ∙ ap (value_at (read_tape c.args.tape.now).tape) c.rounded_point.ensures)))
