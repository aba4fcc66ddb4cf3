-- One or none, by the test.
use mathlib.Core.Path.{refl}
use native.Mathlib.Omega.{arith}
use borrow.Author.Tests.{lt-ltb, le-ltb}
use Rattle.solid_samples.proofs.whole.one_below.Goals as goal

pub returns-then-now-height : goal.returns-then-now-height
returns-then-now-height c = let a = c.args in (rw (lt-ltb a.now a.height c.if-now-height.true) refl, omega arith)

pub returns-else-now-height : goal.returns-else-now-height
returns-else-now-height c = let a = c.args in (rw (le-ltb a.now a.height c.if-now-height.false) refl, omega arith)
