-- The sample, in 64 bits.
use Rattle.rules.proofs.Words.{read_fits}
use Rattle.picture.proofs.GridWords.{product_fits, cell_sum_fits, sample_fits, sample_is}
use Rattle.picture.proofs.grid.along.Goals as goal

pub overflow_cast-result : goal.overflow_cast-result
overflow_cast-result c = read_fits c.ranges.origin

pub overflow_cast-result-3 : goal.overflow_cast-result-3
overflow_cast-result-3 c = read_fits c.ranges.step

pub overflow_mul-result : goal.overflow_mul-result
overflow_mul-result c = product_fits c.args.origin c.args.step c.args.i c.ranges.origin c.ranges.step
    c.ranges.i

pub overflow_add-result : goal.overflow_add-result
overflow_add-result c = cell_sum_fits c.args.origin c.args.step c.args.i c.ranges.origin c.ranges.step
    c.ranges.i

pub overflow_cast-result-4 : goal.overflow_cast-result-4
overflow_cast-result-4 c = read_fits c.ranges.step

pub overflow_add-result-2 : goal.overflow_add-result-2
overflow_add-result-2 c =
    sample_fits c.args.origin c.args.step c.args.i c.ranges.origin c.ranges.step c.ranges.i c.requires

pub returns : goal.returns
returns c =
    sample_is c.args.origin c.args.step c.args.i c.ranges.origin c.ranges.step c.ranges.i c.requires
