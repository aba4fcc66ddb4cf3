-- Place by place.
use Rattle.std.proofs.Common.{◌≡◌, false, take, replicate}
use Rattle.picture.specs.Shapes.{grid_in}
use Rattle.walk.specs.Cells.{size_in}
use Rattle.plate_rules.specs.Plate.{places_from, parts_in, union_of}
use Rattle.plate_drawing.specs.Afresh.{Joins}
use Rattle.plate_drawing.proofs.join_places.Given as goal

abbrev pub invariant-loop-i : goal.invariant-loop-i
invariant-loop-i l =
    record {
      blank_again : l.blank ≡ replicate (size_in false l.grid) 0;
      joined : Joins l.grid l.marks (union_of (parts_in (take l.i (places_from l.count l.places))) (grid_in l.grid false))
          l.initial.picture l.picture;
    }
