-- The lesser and the greater on each axis.
use mir.Syntax.{w32}
use mir.Facts.{to_z-of_z}
use Rattle.rules.specs.Values.{smaller, larger}
use Rattle.fixed.proofs.Words.{back_two}
use Rattle.fixed.proofs.Spans as Spans
use Rattle.swept_rules.specs.Keeping.{widened}
use Rattle.swept_path.proofs.PathLaws.{hulls, Fit}
use borrow.Author.Rules.{rules}
use Rattle.swept_path.proofs.moved.widen.Goals as goal

pub returns : goal.returns
unfolding widened
returns c =
    let along : Spans.Fit c.args.h.ys = search rules in
    let across : Spans.Fit c.args.h.xs = search rules in
    let o : Fit c.args.o = search rules in
    let a = c.minimum in
    let b = c.maximum in
    let d = c.minimum-2 in
    let e = c.maximum-2 in
    hulls
    (back_two w32 smaller a.result a.type_inv a.ensures (to_z-of_z across.low) (to_z-of_z o.x))
    (back_two w32 smaller d.result d.type_inv d.ensures (to_z-of_z along.low) (to_z-of_z o.y))
    (back_two w32 larger b.result b.type_inv b.ensures (to_z-of_z across.high) (to_z-of_z o.x))
    (back_two w32 larger e.result e.type_inv e.ensures (to_z-of_z along.high) (to_z-of_z o.y))
