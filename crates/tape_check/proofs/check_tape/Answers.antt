-- `check_tape` meets its contract: the lines in their order, then the walk over the clauses.
use mathlib.Core.Path.{◌≡◌, sym, ap, ◌∙◌}
use mathlib.Core.Bool.{true}
use mathlib.Core.List.{◌∷◌}
use Prim.Native.Nat.{◌+◌, ◌*◌}
use borrow.Author.Rules.{rules}
use Rattle.tape.specs.Clauses.{raw_of}
use native.Mathlib.Omega.{arith}
use lib.ListN.{get_or, drop}
use Rattle.rules.specs.Tapes.{head_ok, head_counts, raw_in, raws_from}
use Rattle.rules.proofs.Reading.{counts_hold, head_counts_hold, length_raws}
use Rattle.tape.proofs.ByteClauses.{left_from, raws_here, raws_left}
use Rattle.tape_check.proofs.Reading.{tape_1, tape_2, tape_3, tape_4, tape_on}
use Rattle.tape_check.proofs.check_tape.Goals as goal
use Rattle.tape_check.proofs.check_tape.Goals.{After-head_counts, Else-not-head_counts}

pub returns-then-tape-lt-HEAD_BYTES : goal.returns-then-tape-lt-HEAD_BYTES
returns-then-tape-lt-HEAD_BYTES c = tape_1 _ _ c.if-tape-lt-HEAD_BYTES.true c.into.ensures

pub returns-then-not-head_ok : goal.returns-then-not-head_ok
returns-then-not-head_ok c =
    tape_2 _ _ c.if-tape-lt-HEAD_BYTES.false (sym c.head_ok.ensures ∙ c.if-not-head_ok.true)
    c.into-then-not-head_ok.ensures

headed : (c : After-head_counts) → head_ok c.args.tape.now ≡ true
headed c = sym c.head_ok.ensures ∙ c.if-not-head_ok.false

pub returns-then-not-head_counts : goal.returns-then-not-head_counts
returns-then-not-head_counts c =
    tape_3 _ _ c.if-tape-lt-HEAD_BYTES.false (headed (goal.at.returns-then-not-head_counts c).After-head_counts) _ _
    c.byte_at.ensures.0 c.word_at.ensures.0 (sym c.head_counts.ensures ∙ c.if-not-head_counts.true)
    c.into-then-not-head_counts.ensures

counted : (c : Else-not-head_counts)
    → head_counts (get_or c.args.tape.now 2 0) c.byte_at.result c.word_at.result ≡ true
counted c = sym c.head_counts.ensures ∙ c.if-not-head_counts.false

pub returns-then-tape-counts : goal.returns-then-tape-counts
returns-then-tape-counts c =
    tape_4 _ _ c.if-tape-lt-HEAD_BYTES.false (headed (goal.at.returns-then-tape-counts c).After-head_counts) _ _
    c.byte_at.ensures.0 c.word_at.ensures.0 (counted (goal.at.returns-then-tape-counts c).Else-not-head_counts)
    c.if-tape-counts.true c.into-then-tape-counts.ensures

pub check_clauses-requires-clause-limited : goal.check_clauses-requires-clause-limited
check_clauses-requires-clause-limited c =
    let w =
    counts_hold _ _ (head_counts_hold _ _ _ (counted (goal.at.check_clauses-requires-clause-limited c).Else-not-head_counts)) in
    record { slots = w.slots; clauses = w.clauses }

pub returns : goal.returns
returns c =
    let s = c.args.tape.now in
    let k = c.word_at.result in
    tape_on s _ c.if-tape-lt-HEAD_BYTES.false (headed (goal.at.returns c).After-head_counts) _ _ c.byte_at.ensures.0
    c.word_at.ensures.0 (counted (goal.at.returns c).Else-not-head_counts) c.if-tape-counts.false
    (c.check_clauses.ensures (raws_from k (drop 8 s))
    (record {
      size = sym (length_raws k _);
      each =
          λ i l f p.
          let q : raw_of f ≡ raw_in (drop (8 + 10 * i) s) = search rules in
          raws_left s k i (omega arith)
          ∙ raws_here s k i l
          ∙ ap (λ r. r ∷ left_from s k (i + 1)) (sym q)
          ∙ ap (λ x. raw_of f ∷ x) (sym (raws_left s k (i + 1) (omega arith)));
    }))
