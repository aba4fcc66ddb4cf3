-- Where the unpacked words stop is where the tape stops.
use mathlib.Core.Path.{◌≡◌, sym, ◌∙◌}
use native.Mathlib.Omega.{arith}
use lib.ListN.{length}
use lib.Seq.{length-take-le}
use Rattle.rules.specs.Tapes.{clause_limit}
use Rattle.drawings.proofs.TapeWords.{unpackable, words_room, words_few, whole_level}
use Rattle.reason.proofs.Calls.{as_drawing, pixel_of, tape_stops}
use Rattle.reason.proofs.stop_words.Goals as goal
use Rattle.reason.proofs.stop_words.Goals.{After-unpack_words-n}

long : (c : After-unpack_words-n) → length c.unpack_words-n.new.code ≡ clause_limit
long c = c.unpack_words-n.auto.code ∙ c.requires.words_len

pub unpack_words-n-requires : goal.unpack_words-n-requires
unpack_words-n-requires c =
    unpackable (as_drawing c.args.grid c.requires.explains) _ c.requires.words_len

pub slice_bounds-from_tile-end : goal.slice_bounds-from_tile-end
slice_bounds-from_tile-end c =
    words_room (as_drawing c.args.grid c.requires.explains) c.unpack_words-n.ensures (long (goal.at.slice_bounds-from_tile-end c).After-unpack_words-n)

pub slice_bounds-from_tile-end-2 : goal.slice_bounds-from_tile-end-2
slice_bounds-from_tile-end-2 c =
    sym (length-take-le _ _
    (words_room (as_drawing c.args.grid c.requires.explains) c.unpack_words-n.ensures (long (goal.at.slice_bounds-from_tile-end-2 c).After-unpack_words-n)))

pub from_tile-requires : goal.from_tile-requires
from_tile-requires c = let d = as_drawing c.args.grid c.requires.explains in
    let o = c.unpack_words-n.ensures in
    let h = long (goal.at.from_tile-requires c).After-unpack_words-n in
    let few = words_few d o h in
    let w = c.requires.explains.work in record {
      for_level = record {
        pixel = pixel_of c.args.grid c.requires.explains;
        level = whole_level d o h;
        marks = omega arith;
        words = omega arith;
      };
      whole_in_bounds = omega arith;
    }

pub returns : goal.returns
returns c =
    tape_stops c.args.grid c.requires.explains c.unpack_words-n.ensures (long (goal.at.returns c).After-unpack_words-n) c.from_tile.ensures
