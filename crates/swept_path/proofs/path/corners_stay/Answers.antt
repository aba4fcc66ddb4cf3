-- The two axes, one after the other.
use mathlib.Core.Path.{◌≡◌, ◌∙◌}
use mathlib.Core.Bool.{false}
use Rattle.picture.proofs.Answers.{stops, goes_on_lem, refused_by, passed_by}
use Rattle.picture.proofs.Grids.{accepted}
use Rattle.picture.proofs.GridWords.{InWords}
use Rattle.swept_rules.specs.Keeping.{ends_stay, corners_stay}
use Rattle.swept_path.proofs.PathLaws.{Fit, for_ends, ends_read}
use borrow.Author.Rules.{rules}
use Rattle.swept_path.proofs.path.corners_stay.Goals as goal
use Rattle.swept_path.proofs.path.corners_stay.Goals.{After-ends_stay, Start}

-- The grid's numbers and the position's as words, and the place after the first axis.
told : (c : Start) → InWords c.args.grid
told c = search rules

offset-told : (c : Start) → Fit c.args.o
offset-told c = search rules

x-tested : (c : After-ends_stay)
    → (let a = c.args in
    c.ends_stay.result ≡ ends_stay a.grid.xorigin a.grid.xstep a.grid.width a.o.x)
x-tested c =
    let f = (let inner : InWords c.args.grid = search rules in inner) in
    c.ends_stay.ensures ∙ ends_read f.xorigin f.xstep _ ((let inner : Fit c.args.o = search rules in inner)).x

pub ends_stay-requires : goal.ends_stay-requires
ends_stay-requires c =
    let f = told (goal.at.ends_stay-requires c).Start in
    let a = accepted c.args.grid false c.requires in
    for_ends f.xorigin f.xstep _ a.sizes.width.least a.x_value

pub ends_stay-requires-then-ends_stay : goal.ends_stay-requires-then-ends_stay
ends_stay-requires-then-ends_stay c =
    let f = told (goal.at.ends_stay-requires-then-ends_stay c).Start in
    let a = accepted c.args.grid false c.requires in
    for_ends f.yorigin f.ystep _ a.sizes.height.least a.y_value

pub returns-then-ends_stay : goal.returns-then-ends_stay
unfolding corners_stay
returns-then-ends_stay c =
    let f = told (goal.at.returns-then-ends_stay c).Start in
    goes_on_lem (passed_by _ (x-tested (goal.at.returns-then-ends_stay c).After-ends_stay) c.if-ends_stay.true)
    (c.ends_stay-then-ends_stay.ensures ∙ ends_read f.yorigin f.ystep _ (offset-told (goal.at.returns-then-ends_stay c).Start).y)

pub returns-else-ends_stay : goal.returns-else-ends_stay
unfolding corners_stay
returns-else-ends_stay c =
    c.if-ends_stay.false ∙ stops _ (refused_by _ (x-tested (goal.at.returns-else-ends_stay c).After-ends_stay) c.if-ends_stay.false)
