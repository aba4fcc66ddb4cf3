-- Both differences of ranges have values as ends, so nothing is clamped.
use mathlib.Core.Path.{refl}
use Rattle.swept_path.proofs.PathLaws.{box_moved}
use Rattle.swept_path.proofs.moved.moved_bounds.Goals as goal

pub returns : goal.returns
returns c =
    box_moved _ c.subtract_spans.ensures c.subtract_spans-2.ensures refl c.requires
