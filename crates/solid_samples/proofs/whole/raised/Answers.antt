-- The greater of the two heights, by the sign.
use mathlib.Core.Path.{◌≡◌, refl}
use lib.Dec.{ltb}
use borrow.Author.Tests.{lt-ltb, le-ltb}
use Rattle.rules.specs.Values.{pick}
use Rattle.walk.proofs.Signs.{sign}
use Rattle.solid_samples.proofs.whole.raised.Goals as goal
use Rattle.solid_samples.proofs.whole.raised.Goals.{Joined-now-height, then-now-height, else-now-height}

greater : (c : Joined-now-height)
    → let a = c.args in c.if-now-height.top ≡ pick (ltb a.now a.height) a.height a.now
greater c =
    let a = c.args in
    elim c.if-now-height.branch [
      | then-now-height w ↦ rw (lt-ltb a.now a.height w.if-now-height.true) w.top-is
      | else-now-height w ↦ rw (le-ltb a.now a.height w.if-now-height.false) w.top-is
    ]

pub returns-then-value-lt0 : goal.returns-then-value-lt0
returns-then-value-lt0 c =
    let v = c.args.value in
    rw (sign v v _ c.ranges.value c.if-value-lt0.true refl) (greater (goal.at.returns-then-value-lt0 c).Joined-now-height)

pub returns-else-value-lt0 : goal.returns-else-value-lt0
returns-else-value-lt0 c =
    let v = c.args.value in
    rw (sign v v _ c.ranges.value c.if-value-lt0.false refl) refl
