-- The first sample, and then the last.
use mathlib.Core.Path.{◌≡◌, ap, ◌∙◌}
use lib.IntN.{◌-ℤ◌}
use Prim.Native.Nat.{◌-◌}
use mir.Syntax.{w32}
use mir.Facts.{to_z-of_z}
use Rattle.rules.specs.Values.{reaches}
use Rattle.rules.specs.Drawings.{at}
use Rattle.rules.proofs.Words.{back, both}
use Rattle.picture.proofs.Answers.{stops, goes_on_lem, refused_by, passed_by}
use Rattle.picture.proofs.GridWords.{at_read}
use Rattle.swept_rules.specs.Keeping.{ends_stay}
use Rattle.swept_path.proofs.path.ends_stay.Goals as goal
use Rattle.swept_path.proofs.path.ends_stay.Goals.{After-stays, After-stays-then-stays}

-- What the two tests say.
first : (c : After-stays)
    → (let a = c.args in c.stays.result ≡ reaches (at a.origin a.step 0 -ℤ a.d))
first c =
    let a = c.args in
    let f = c.ranges in
    let s = c.sample in
    c.stays.ensures
    ∙ ap reaches
    (both ◌-ℤ◌ (back w32 s.result s.type_inv (s.ensures ∙ at_read a.origin a.step 0 f.origin f.step))
    (to_z-of_z f.d))

last : (c : After-stays-then-stays)
    → (let a = c.args in
    c.stays-then-stays.result ≡ reaches (at a.origin a.step (a.n - 1) -ℤ a.d))
last c =
    let a = c.args in
    let f = c.ranges in
    let s = c.sample-then-stays in
    c.stays-then-stays.ensures
    ∙ ap reaches
    (both ◌-ℤ◌
    (back w32 s.result s.type_inv (s.ensures ∙ at_read a.origin a.step (a.n - 1) f.origin f.step))
    (to_z-of_z f.d))

pub returns-then-stays : goal.returns-then-stays
unfolding ends_stay
returns-then-stays c =
    goes_on_lem (passed_by _ (first (goal.at.returns-then-stays c).After-stays) c.if-stays.true) (last (goal.at.returns-then-stays c).After-stays-then-stays)

pub returns-else-stays : goal.returns-else-stays
unfolding ends_stay
returns-else-stays c = c.if-stays.false ∙ stops _ (refused_by _ (first (goal.at.returns-else-stays c).After-stays) c.if-stays.false)
