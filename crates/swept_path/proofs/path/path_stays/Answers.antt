-- The positions, one after the other.
use mathlib.Core.Path.{◌≡◌, refl, sym, ap, ◌∙◌}
use mathlib.Core.Bool.{false, ◌&&◌}
use Prim.Native.Nat.{◌+◌, ◌<◌}
use native.Mathlib.Omega.{arith}
use lib.ListN.{length, drop}
use Rattle.picture.specs.Shapes.{grid_in}
use Rattle.picture.proofs.Answers.{stops, refused_by, passed_by}
use Rattle.swept_rules.specs.Swept.{offsets_of}
use Rattle.swept_rules.specs.Keeping.{corners_stay, path_corners, position_at}
use Rattle.swept_rules.proofs.Paths.{half}
use Rattle.swept_path.proofs.PathLaws.{corners_next, corners_none}
use Rattle.swept_path.proofs.path.path_stays.Goals as goal
use Rattle.swept_path.proofs.path.path_stays.Goals.{After-corners_stay, In-loop-k}

more : (c : In-loop-k) → c.loop-k.k < length (offsets_of c.args.path.now)
more c = omega (arith, c.loop-k-test.true, half c.args.path.now)

tested : (c : After-corners_stay)
    → (c.corners_stay.result
    ≡ corners_stay (grid_in c.args.grid false)
    (position_at (offsets_of c.args.path.now) c.loop-k.k))
tested c =
    c.corners_stay.ensures ∙ ap (corners_stay (grid_in c.args.grid false)) c.position.ensures

here : (c : In-loop-k)
    → (let g = grid_in c.args.grid false in
    let os = offsets_of c.args.path.now in
    let k = c.loop-k.k in
    path_corners g os ≡ (corners_stay g (position_at os k) && path_corners g (drop (k + 1) os)))
here c =
    let a = c.args in
    c.loop-k.invariant
    ∙ corners_next (grid_in a.grid false) (offsets_of a.path.now) c.loop-k.k (more c)

pub loop-k-init : goal.loop-k-init
loop-k-init c = refl

pub position-requires : goal.position-requires
position-requires c = more (goal.at.position-requires c).In-loop-k

pub corners_stay-requires : goal.corners_stay-requires
corners_stay-requires c = c.requires

pub returns-then-not-corners_stay : goal.returns-then-not-corners_stay
returns-then-not-corners_stay c =
    stops _ (refused_by _ (tested (goal.at.returns-then-not-corners_stay c).After-corners_stay) c.if-not-corners_stay.true) ∙ sym (here (goal.at.returns-then-not-corners_stay c).In-loop-k)

pub loop-k-preserved : goal.loop-k-preserved
loop-k-preserved c =
    let a = c.args in
    here (goal.at.loop-k-preserved c).In-loop-k
    ∙ ap (λ b. b && path_corners (grid_in a.grid false) (drop (c.loop-k.k + 1) (offsets_of a.path.now)))
    (passed_by _ (tested (goal.at.loop-k-preserved c).After-corners_stay) c.if-not-corners_stay.false)

pub returns : goal.returns
returns c =
    let a = c.args in
    corners_none (grid_in a.grid false) (offsets_of a.path.now) c.loop-k.k
    (omega (arith, c.loop-k-test.false, half a.path.now))
    ∙ sym c.loop-k.invariant
