-- `unpack` meets its contract: what the check refuses, the wrong length, then what is written.
use mathlib.Core.Path.{◌≡◌, sym, ap, ◌∙◌}
use Prim.Native.Nat.{◌*◌}
use native.Mathlib.Omega.{arith}
use lib.ListN.{length}
use Rattle.std.proofs.lemmas.Result.{err_from_is_err_and}
use Rattle.rules.specs.Tapes.{read_tape}
use Rattle.rules.proofs.Places.{tape_placed}
use Rattle.rules.proofs.Reading.{length_list}
use Rattle.packing.specs.Packing.{numbers_of}
use Rattle.packing.proofs.Copying.{tape_slots, read_refuses, length_refuses, copied}
use Rattle.packing.proofs.unpack.Goals.{In_ok-counts}
use Rattle.packing.proofs.unpack.Goals as goal

pub returns-in_err-counts : goal.returns-in_err-counts
returns-in_err-counts c =
    let s = c.args.tape.now in
    let p = err_from_is_err_and c.from_residual.result c.from_residual.ensures.1 in
    rw (p.1, p.2) (read_refuses (read_tape s) (numbers_of s) c.args.out.now (tape_placed s) _ c.in_err-counts.ensures)

-- The list's length, by the counts of the tape.
list_length : (c : In_ok-counts) → length (numbers_of c.args.tape.now) ≡ 5 * c.in_ok-counts.counts.clauses
list_length c =
    length_list (read_tape c.args.tape.now).tape.clauses ∙ ap (λ k. 5 * k) (sym c.in_ok-counts.ensures.clauses)

pub returns-then-out-counts : goal.returns-then-out-counts
returns-then-out-counts c =
    let s = c.args.tape.now in
    let n = list_length (goal.at.returns-then-out-counts c).In_ok-counts in
    rw c.into.ensures
    (length_refuses (read_tape s) (numbers_of s) c.args.out.now c.in_ok-counts.ensures.number
    (λ h. omega (arith, h, c.if-out-counts.true, n)))

pub write_list-requires : goal.write_list-requires
write_list-requires c =
    let n = list_length (goal.at.write_list-requires c).In_ok-counts in
    record {
      accepted = c.in_ok-counts.ensures.number;
      clauses = c.in_ok-counts.ensures.clauses;
      size = omega (arith, c.if-out-counts.false, n);
    }

pub overflow_cast-result : goal.overflow_cast-result
overflow_cast-result c =
    omega (arith, tape_slots c.args.tape.now c.in_ok-counts.ensures.number, c.in_ok-counts.ensures.slots)

pub returns : goal.returns
returns c =
    let s = c.args.tape.now in
    let n = list_length (goal.at.returns c).In_ok-counts in
    copied (read_tape s) (numbers_of s) c.args.out.now c.in_ok-counts.ensures.number (omega (arith, c.if-out-counts.false, n))
    c.write_list.new.out c.write_list.ensures _ c.in_ok-counts.ensures.slots
