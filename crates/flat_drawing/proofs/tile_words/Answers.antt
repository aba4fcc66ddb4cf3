-- The walk of the unpacked words is the tape's.
use mathlib.Core.Path.{◌≡◌, refl, sym, ◌∙◌}
use mathlib.Core.Bool.{false}
use native.Mathlib.Omega.{arith}
use lib.ListN.{length}
use lib.Seq.{length-take-le}
use Rattle.rules.specs.Tapes.{clause_limit}
use Rattle.picture.proofs.PictureSizes.{flat_size_lem}
use Rattle.drawings.proofs.TapeWords.{unpackable, words_room, words_few, whole_level, tiles_of}
use Rattle.flat_drawing.proofs.tile_words.Goals as goal

pub unpack_words-n-requires : goal.unpack_words-n-requires
unpack_words-n-requires c = unpackable c.requires.draws_by_tiles.drawing _ c.requires.words_len

pub slice_bounds-tile_flat-end : goal.slice_bounds-tile_flat-end
slice_bounds-tile_flat-end c =
    words_room c.requires.draws_by_tiles.drawing c.unpack_words-n.ensures (c.unpack_words-n.auto.code ∙ c.requires.words_len)

pub slice_bounds-tile_flat-end-2 : goal.slice_bounds-tile_flat-end-2
slice_bounds-tile_flat-end-2 c = sym (length-take-le _ _ (words_room c.requires.draws_by_tiles.drawing c.unpack_words-n.ensures (c.unpack_words-n.auto.code ∙ c.requires.words_len)))

pub tile_flat-requires : goal.tile_flat-requires
tile_flat-requires c =
    let d = c.requires.draws_by_tiles.drawing in
    let o = c.unpack_words-n.ensures in
    let h : length c.unpack_words-n.new.code ≡ clause_limit = c.unpack_words-n.auto.code ∙ c.requires.words_len in
    let few = words_few d o h in
    let w = c.requires.draws_by_tiles.work in
    record {
      level = whole_level d o h;
      ready = record { fault = d.grid; size = d.size ∙ sym (flat_size_lem false _ refl) };
      marks = omega arith;
      words_first = omega arith;
      words_second = omega arith;
    }

pub returns : goal.returns
returns c =
    tiles_of c.requires.draws_by_tiles.drawing c.unpack_words-n.ensures (c.unpack_words-n.auto.code ∙ c.requires.words_len) c.tile_flat.ensures
