-- Some numbers, not too many, and in pairs.
use Rattle.std.proofs.Common.{arith}
use Rattle.std.proofs.lemmas.Bool.Decides.{nat_tests}
use Rattle.swept_rules.specs.Swept.{whole_path}
use Rattle.swept_path.proofs.path.whole_path.Goals as goal

pub returns-then-path-le-PATH_NUMBERS : goal.returns-then-path-le-PATH_NUMBERS
unfolding whole_path
returns-then-path-le-PATH_NUMBERS c = grind (arith, nat_tests)

pub returns-else-path-le-PATH_NUMBERS : goal.returns-else-path-le-PATH_NUMBERS
unfolding whole_path
returns-else-path-le-PATH_NUMBERS c = grind (arith, nat_tests)
