-- Each product fits.
use native.Mathlib.Omega.{arith}
use Rattle.full_drawing.proofs.Counts.{CountFits, count_fits}
use Rattle.full_drawing.proofs.count.full_count.Goals as goal
use Rattle.full_drawing.proofs.count.full_count.Goals.{Start}

counts : (c : Start) → CountFits c.args.clauses c.args.width c.args.height c.args.layers
counts c = count_fits _ _ _ _ c.requires.clauses_le_clause_limit c.requires.width_le_size_limit.0 c.requires.width_le_size_limit.1 c.requires.width_le_size_limit.2

pub overflow_mul-result-3 : goal.overflow_mul-result-3
overflow_mul-result-3 c = omega (arith, (counts (goal.at.overflow_mul-result-3 c).Start).clauses)
