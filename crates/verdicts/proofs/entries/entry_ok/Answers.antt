-- By the verdict.
use mathlib.Core.Path.{◌≡◌, sym}
use Prim.Native.Nat.{◌<◌}
use lib.ListN.{get_or}
use Rattle.verdicts.specs.Verdicts.{byte_of}
use native.Mathlib.Omega.{arith}
use Rattle.rules.specs.Tapes.{read_tape}
use Rattle.rules.proofs.Reading.{tape_accepted}
use Rattle.verdicts.proofs.EntryLaws.{below_kept, entry_above, entry_below, entry_kept}
use Rattle.verdicts.proofs.entries.entry_ok.Goals as goal

pub byte_at-requires : goal.byte_at-requires
byte_at-requires c = omega (arith, (tape_accepted _ c.requires.tape_value).long)

pub word_at-requires : goal.word_at-requires
word_at-requires c = omega (arith, (tape_accepted _ c.requires.tape_value).long)

pub kept_clauses-requires : goal.kept_clauses-requires
kept_clauses-requires c =
    record {
      read = c.requires.tape_value;
      slots_are = c.byte_at.ensures.0;
      count_is = c.word_at.ensures.0;
      long = c.requires.len;
    }

pub returns-in-Kept : goal.returns-in-Kept
returns-in-Kept c = entry_kept _ _ (sym (rw c.in-Kept.is at c.in-Ok.ensures)) c.kept_clauses.ensures

pub returns-in_default-verdict : goal.returns-in_default-verdict
returns-in_default-verdict c =
    let a = c.args in
    let l : byte_of c.in-Ok.verdict < 3 = below_kept c.in-Ok.verdict c.in_default-verdict.not-Kept in
    let e : byte_of c.in-Ok.verdict ≡ get_or a.entry.now 0 0 = c.in-Ok.ensures in
    entry_below (read_tape a.tape.now).tape a.entry.now (omega arith) (λ h. absurd (omega arith))

pub returns-in_default : goal.returns-in_default
returns-in_default c =
    let a = c.args in
    entry_above (read_tape a.tape.now).tape a.entry.now c.in_default.ensures.1
