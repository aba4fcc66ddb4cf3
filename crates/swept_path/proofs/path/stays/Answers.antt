-- The difference in 64 bits, between the two tests.
use mathlib.Core.Path.{◌≡◌, ap, ◌∙◌}
use lib.IntN.{◌-ℤ◌}
use lib.Dec.{leb}
use lib.IntN.{nat_abs}
use mir.Syntax.{w64}
use Rattle.rules.proofs.Words.{read, wide, read_fits}
use Rattle.fixed.proofs.Words.{wide_fits, wide_op, difference_fits}
use Rattle.swept_path.proofs.path.stays.Goals as goal
use Rattle.swept_path.proofs.path.stays.Goals.{Start}

-- In 64 bits it is the difference itself.
exact : (c : Start) → read w64 (wide c.args.v -ℤ wide c.args.d) ≡ c.args.v -ℤ c.args.d
exact c = wide_op ◌-ℤ◌ c.ranges.v c.ranges.d (difference_fits c.ranges.v c.ranges.d)

pub overflow_cast-moved : goal.overflow_cast-moved
overflow_cast-moved c = read_fits c.ranges.v

pub overflow_cast-moved-2 : goal.overflow_cast-moved-2
overflow_cast-moved-2 c = read_fits c.ranges.d

pub overflow_sub-moved : goal.overflow_sub-moved
overflow_sub-moved c = wide_fits ◌-ℤ◌ c.ranges.v c.ranges.d (difference_fits c.ranges.v c.ranges.d)

pub returns : goal.returns
returns c =
    ap (λ n. leb n 2147483647) (c.unsigned_abs.ensures.value ∙ ap nat_abs (exact (goal.at.returns c).Start))
