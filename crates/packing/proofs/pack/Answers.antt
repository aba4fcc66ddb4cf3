-- `pack` meets its contract: what the check refuses, the wrong length, then what is written.
use mathlib.Core.Path.{◌≡◌, sym, ap, ◌∙◌}
use Prim.Native.Nat.{◌+◌, ◌*◌}
use native.Mathlib.Omega.{arith}
use lib.ListN.{length}
use Rattle.std.proofs.lemmas.Result.{err_from_is_err_and}
use Rattle.rules.specs.Tapes.{read_list}
use Rattle.rules.proofs.Places.{list_placed}
use Rattle.packing.specs.Packing.{bytes_of}
use Rattle.packing.proofs.Copying.{list_slots, read_refuses, length_refuses, copied}
use Rattle.packing.proofs.Packing.{length_tape}
use Rattle.packing.proofs.pack.Goals.{In_ok-counts}
use Rattle.packing.proofs.pack.Goals as goal

pub returns-in_err-counts-clause-packs : goal.returns-in_err-counts-clause-packs
returns-in_err-counts-clause-packs c =
    let a = c.args in
    let p = err_from_is_err_and c.from_residual.result c.from_residual.ensures.1 in
    rw (p.1, p.2)
    (read_refuses (read_list a.slots a.list.now) (bytes_of a.slots a.list.now) a.out.now (list_placed a.slots a.list.now) _
    c.in_err-counts.ensures)

-- The tape's length, by the counts of the list.
tape_length : (c : In_ok-counts) → let a = c.args in
    length (bytes_of a.slots a.list.now) ≡ 8 + 10 * c.in_ok-counts.counts.clauses
tape_length c =
    let a = c.args in
    length_tape (read_list a.slots a.list.now).tape ∙ ap (λ k. 8 + 10 * k) (sym c.in_ok-counts.ensures.clauses)

pub returns-then-out-counts-clause-packs : goal.returns-then-out-counts-clause-packs
returns-then-out-counts-clause-packs c =
    let a = c.args in
    let n = tape_length (goal.at.returns-then-out-counts-clause-packs c).In_ok-counts in
    rw c.into.ensures
    (length_refuses (read_list a.slots a.list.now) (bytes_of a.slots a.list.now) a.out.now c.in_ok-counts.ensures.number
    (λ h. omega (arith, h, c.if-out-counts.true, n)))

pub write_tape-requires : goal.write_tape-requires
write_tape-requires c =
    let n = tape_length (goal.at.write_tape-requires c).In_ok-counts in
    record {
      accepted = c.in_ok-counts.ensures.number;
      clauses = c.in_ok-counts.ensures.clauses;
      size = omega (arith, c.if-out-counts.false, n);
    }

pub overflow_cast-result : goal.overflow_cast-result
overflow_cast-result c =
    let a = c.args in
    omega (arith, list_slots a.slots a.list.now c.in_ok-counts.ensures.number, c.in_ok-counts.ensures.slots)

pub returns-clause-packs : goal.returns-clause-packs
returns-clause-packs c =
    let a = c.args in
    let n = tape_length (goal.at.returns-clause-packs c).In_ok-counts in
    copied (read_list a.slots a.list.now) (bytes_of a.slots a.list.now) a.out.now c.in_ok-counts.ensures.number
    (omega (arith, c.if-out-counts.false, n)) c.write_tape.new.out c.write_tape.ensures.out_after _
    c.in_ok-counts.ensures.slots
