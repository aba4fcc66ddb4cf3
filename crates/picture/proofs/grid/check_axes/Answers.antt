-- The first fault, by the two tests.
use Rattle.picture.proofs.Answers.{passed_by, refused_by}
use Rattle.picture.proofs.GridTests.{size_fault_lem, axis_fault, no_fault_lem}
use Rattle.picture.proofs.grid.check_axes.Goals as goal

pub returns-then-not-sizes_ok : goal.returns-then-not-sizes_ok
returns-then-not-sizes_ok c = size_fault_lem _ _ (refused_by _ c.sizes_ok.ensures c.if-not-sizes_ok.true)

pub axes_ok-requires : goal.axes_ok-requires
axes_ok-requires c = passed_by _ c.sizes_ok.ensures c.if-not-sizes_ok.false

pub returns-then-not-axes_ok : goal.returns-then-not-axes_ok
returns-then-not-axes_ok c =
    axis_fault _ _ (passed_by _ c.sizes_ok.ensures c.if-not-sizes_ok.false)
    (refused_by _ c.axes_ok.ensures c.if-not-axes_ok.true)

pub returns : goal.returns
returns c =
    no_fault_lem _ _ (passed_by _ c.sizes_ok.ensures c.if-not-sizes_ok.false)
    (passed_by _ c.axes_ok.ensures c.if-not-axes_ok.false)
