use Rattle.std.proofs.Common.{◌≡◌, length}
use Rattle.figure_lines.proofs.given.lettered_list.Given as goal

abbrev pub invariant-loop-i : goal.invariant-loop-i
invariant-loop-i l = length l.list ≡ 5515
