-- Refused with every byte as it was, or a table newly begun.
use mathlib.Core.Path.{refl}
use Rattle.std.proofs.lemmas.Result.{err_from_is_err_and}
use Rattle.faults.proofs.NumberLaws.{some_number}
use Rattle.table_calls.proofs.Calls.{begin_refused, begin_read, begin_size, begin_done}
use Rattle.table_calls.proofs.begin_checked.Goals as goal

pub returns-in_err-check_begin : goal.returns-in_err-check_begin
returns-in_err-check_begin c =
    let p = err_from_is_err_and c.from_residual.result c.from_residual.ensures.1 in
    rw (p.1, p.2) (begin_refused _ _ _ c.in_err-check_begin.ensures.answer (some_number _))

pub begin-requires : goal.begin-requires
begin-requires c =
    let a = c.args in record {
      tape_value = begin_read a.tape.now a.grid a.table.now c.in_ok-check_begin.ensures.answer refl;
      table_len = begin_size a.tape.now a.grid a.table.now c.in_ok-check_begin.ensures.answer refl;
    }

pub returns : goal.returns
returns c = begin_done _ _ _ c.in_ok-check_begin.ensures.answer refl c.begin.ensures
