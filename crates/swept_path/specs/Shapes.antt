-- The declared structs as the records of the rules.
use Rattle.swept_rules.specs.Swept.{Offset, offset}
use Rattle.swept_rules.specs.Keeping.{Hull}
use Rattle.swept_path.specs.declared.path.Offset as declared-offset
use Rattle.swept_path.specs.declared.moved.Hull as declared-hull

abbrev pub offset_in : declared-offset.Offset → Offset
offset_in o = offset o.x o.y

abbrev pub hull_in : declared-hull.Hull → Hull
hull_in h =
    record { least = offset h.xs.low h.ys.low; greatest = offset h.xs.high h.ys.high }
