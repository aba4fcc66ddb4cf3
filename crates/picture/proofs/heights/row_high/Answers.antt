-- The test of a row, height by height.
use Rattle.std.proofs.Common.{◌<◌, ◌≤◌, ◌+◌, ◌-◌, rules, arith}
use Rattle.std.proofs.lemmas.Iterator.{cases_from_all, YieldsList-from_slice}
use borrow.Author.Tests.{tests}
use Rattle.picture.proofs.HeightRows.{row_tested}
use Rattle.picture.proofs.heights.row_high.Goals as goal

pub returns : goal.returns
returns c =
    let a = c.args in
    row_tested a.count (a.from + a.count - a.from) a.from a.z a.heights.now _ c.requires (omega arith)
    (cases_from_all _ _ _ (λ x. a.z ≤ x) (λ x. x < a.z) c.all.ensures.ran (YieldsList-from_slice _ cc)
    (λ x q k. search (rules, tests)) (λ x q k. search (rules, tests)))
