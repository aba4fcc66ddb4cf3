-- The walk of the unpacked words is the tape's.
use mathlib.Core.Path.{◌≡◌, refl, sym, ◌∙◌}
use mathlib.Core.Bool.{true}
use native.Mathlib.Omega.{arith}
use lib.ListN.{length}
use lib.Seq.{length-take-le}
use Rattle.rules.specs.Tapes.{clause_limit}
use Rattle.picture.proofs.PictureSizes.{solid_size_lem}
use Rattle.drawings.proofs.TapeWords.{unpackable, words_room, words_few, whole_level, tiles_of}
use Rattle.solid_drawing.proofs.tile_words.Goals as goal
use Rattle.solid_drawing.proofs.tile_words.Goals.{After-unpack_words-n}

long : (c : After-unpack_words-n) → length c.unpack_words-n.new.code ≡ clause_limit
long c = c.unpack_words-n.auto.code ∙ c.requires.words_len

pub unpack_words-n-requires : goal.unpack_words-n-requires
unpack_words-n-requires c = unpackable c.requires.draws_by_tiles.drawing _ c.requires.words_len

pub slice_bounds-tile_solid-end : goal.slice_bounds-tile_solid-end
slice_bounds-tile_solid-end c =
    words_room c.requires.draws_by_tiles.drawing c.unpack_words-n.ensures (long (goal.at.slice_bounds-tile_solid-end c).After-unpack_words-n)

pub slice_bounds-tile_solid-end-2 : goal.slice_bounds-tile_solid-end-2
slice_bounds-tile_solid-end-2 c =
    sym (length-take-le _ _
    (words_room c.requires.draws_by_tiles.drawing c.unpack_words-n.ensures
    (long (goal.at.slice_bounds-tile_solid-end-2 c).After-unpack_words-n)))

pub tile_solid-requires : goal.tile_solid-requires
tile_solid-requires c =
    let d = c.requires.draws_by_tiles.drawing in
    let o = c.unpack_words-n.ensures in
    let h = long (goal.at.tile_solid-requires c).After-unpack_words-n in
    let few = words_few d o h in
    let w = c.requires.draws_by_tiles.work in
    record {
      level = whole_level d o h;
      ready = record { fault = d.grid; size = d.size ∙ sym (solid_size_lem true _ refl) };
      room = omega arith;
      first = omega arith;
      second = omega arith;
      third = omega arith;
    }

pub returns : goal.returns
returns c =
    tiles_of c.requires.draws_by_tiles.drawing c.unpack_words-n.ensures (long (goal.at.returns c).After-unpack_words-n) c.tile_solid.ensures
