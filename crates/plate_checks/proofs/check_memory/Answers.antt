-- The memory's length, and then its places.
use mathlib.Core.Path.{sym, ap, ◌∙◌}
use Rattle.plate_rules.proofs.Places.{plate_size_lem}
use Rattle.plate_checks.proofs.CheckLaws.{memory_wrong, memory_right}
use Rattle.answers.specs.Says.{refused}
use Rattle.plate_checks.proofs.check_memory.Goals as goal

pub returns-then-memory-ne-PLATE_SIZE : goal.returns-then-memory-ne-PLATE_SIZE
returns-then-memory-ne-PLATE_SIZE c = memory_wrong _ c.if-memory-ne-PLATE_SIZE.true (ap refused c.into.ensures)

pub check_places-requires : goal.check_places-requires
check_places-requires c = c.if-memory-ne-PLATE_SIZE.false ∙ sym plate_size_lem

pub returns : goal.returns
returns c = memory_right _ c.if-memory-ne-PLATE_SIZE.false c.check_places.ensures
