-- Tile by tile; the blank picture is blank again behind each.
use Rattle.std.proofs.Common.{◌≡◌, false, ℕ, replicate}
use Rattle.rules.specs.Accepted.{Accepted}
use Rattle.code.specs.Words.{tape_in}
use Rattle.walk.specs.Cells.{size_in}
use Rattle.plate_tiles.specs.Tiles.{Marked, TilesSet}
use Rattle.plate_tiles.specs.Joins.{with_part}
use Rattle.plate_tiles.proofs.join.join_tiles.Given as goal

abbrev pub invariant-loop-m : goal.invariant-loop-m
invariant-loop-m l =
    record {
      blank_again : l.blank ≡ replicate (size_in false l.grid) 0;
      joined : (n : ℕ) → Accepted (tape_in n l.code)
          → TilesSet l.grid (Marked l.marks l.m) (with_part l.initial.picture (tape_in n l.code) l.grid) l.initial.picture l.picture;
    }
