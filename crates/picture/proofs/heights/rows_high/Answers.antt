-- The test of rows, one by one.
use Rattle.std.proofs.Common.{◌≡◌, refl, ◌+◌, ◌*◌, true, false, arith, rules}
use Rattle.std.proofs.lemmas.Iterator.{cases_from_all, YieldsList-from_range}
use Rattle.rules.specs.Drawings.{row_high}
use Rattle.picture.proofs.HeightRows.{rows_tested}
use Rattle.picture.proofs.heights.rows_high.Goals as goal

pub returns : goal.returns
returns c =
    let a = c.args in
    rows_tested _ _ _ _ _ _ _
    (cases_from_all _ _ _ (λ j. row_high a.count (a.from + j * a.width) a.z a.heights.now ≡ true)
    (λ j. row_high a.count (a.from + j * a.width) a.z a.heights.now ≡ false) c.all.ensures.ran
    (YieldsList-from_range 0 a.rows a.rows refl (omega arith)) (λ x q k. search rules) (λ x q k. search rules))
