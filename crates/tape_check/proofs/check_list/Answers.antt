-- `check_list` meets its contract.
use mathlib.Core.Path.{◌≡◌, sym, ap, ◌∙◌}
use mathlib.Core.Bool.{true}
use mathlib.Core.List.{◌∷◌}
use Prim.Native.Nat.{◌+◌, ◌*◌, ◌/◌}
use native.Mathlib.Omega.{arith}
use borrow.Author.Rules.{rules}
use lib.ListN.{length, drop}
use Rattle.rules.specs.Tapes.{counts_ok, raws_of}
use Rattle.rules.proofs.Reading.{counts_hold}
use Rattle.tape.specs.Clauses.{raw_of}
use Rattle.tape.proofs.ListClauses.{raws_next, raws_count, raws_after}
use Rattle.tape_check.proofs.Reading.{list_4, list_3, list_on}
use Rattle.tape_check.proofs.check_list.Goals as goal
use Rattle.tape_check.proofs.check_list.Goals.{Else-not-counts_ok}

pub returns-then-list-ne0 : goal.returns-then-list-ne0
returns-then-list-ne0 c = list_4 _ _ _ c.if-list-ne0.true c.into.ensures

pub returns-then-not-counts_ok : goal.returns-then-not-counts_ok
returns-then-not-counts_ok c =
    list_3 _ _ _ c.if-list-ne0.false (sym c.counts_ok.ensures ∙ c.if-not-counts_ok.true)
    c.into-then-not-counts_ok.ensures

counted : (c : Else-not-counts_ok) → let a = c.args in counts_ok a.slots (length a.list.now / 5) ≡ true
counted c = sym c.counts_ok.ensures ∙ c.if-not-counts_ok.false

pub overflow_cast-counts : goal.overflow_cast-counts
overflow_cast-counts c =
    omega (arith, (counts_hold _ _ (counted (goal.at.overflow_cast-counts c).Else-not-counts_ok)).clauses)

pub check_clauses-requires-clause-limited : goal.check_clauses-requires-clause-limited
check_clauses-requires-clause-limited c =
    let w = counts_hold _ _ (counted (goal.at.check_clauses-requires-clause-limited c).Else-not-counts_ok) in
    record { slots = w.slots; clauses = w.clauses }

pub returns : goal.returns
returns c =
    let zs = c.args.list.now in
    let k = length zs / 5 in
    let n : length zs ≡ 5 * k = omega (arith, c.if-list-ne0.false) in
    list_on _ zs _ c.if-list-ne0.false (counted (goal.at.returns c).Else-not-counts_ok)
    (c.check_clauses.ensures (raws_of zs)
    (record {
      size = raws_count zs k n;
      each =
          λ i l f p.
          let q : raws_of (drop (5 * i) zs) ≡ raw_of f ∷ raws_of (drop (5 * i + 5) zs) = search rules in
          raws_after zs k n i (omega arith)
          ∙ q
          ∙ ap (λ x. raw_of f ∷ x) (raws_next zs i ∙ sym (raws_after zs k n (i + 1) (omega arith)));
    }))
