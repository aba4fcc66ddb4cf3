-- The sign of a lane that has a sample.
use mathlib.Core.Path.{refl, sym}
use native.Mathlib.Omega.{arith}
use borrow.Author.Rules.{rules}
use borrow.Author.Tests.{lt-ltb, le-ltb}
use Rattle.walk.proofs.Signs.{sign}
use Rattle.flat_samples.proofs.samples.lane_on.Goals as goal

pub returns-then-k-count : goal.returns-then-k-count
returns-then-k-count c =
    let a = c.args in
    rw (lt-ltb a.k a.count c.if-k-count.true) (sym (sign a.v a.v _ (search rules) refl refl))

pub returns-else-k-count : goal.returns-else-k-count
returns-else-k-count c =
    let a = c.args in
    rw (le-ltb a.k a.count (omega arith)) refl
