-- The walk of the unpacked words is the tape's, and so are the slopes at its heights.
use mathlib.Core.Path.{◌≡◌, refl, sym, ◌∙◌}
use mathlib.Core.Bool.{true}
use native.Mathlib.Omega.{arith}
use lib.ListN.{length}
use lib.Seq.{length-take-le}
use Rattle.rules.specs.Tapes.{clause_limit}
use Rattle.picture.specs.Shapes.{grid_in}
use Rattle.drawings.specs.Drawn.{TilesOf}
use Rattle.picture.proofs.PictureSizes.{solid_size_lem}
use Rattle.drawings.proofs.TapeWords.{unpackable, words_room, words_few, whole_level, tiles_of}
use Rattle.slope_drawing.proofs.TapeSlopes.{walked_heights, slopes_of_lem}
use Rattle.slope_drawing.proofs.slope_words.Goals as goal
use Rattle.slope_drawing.proofs.slope_words.Goals.{After-tile_solid-count, After-unpack_words-n}

long : (c : After-unpack_words-n) → length c.unpack_words-n.new.code ≡ clause_limit
long c = c.unpack_words-n.auto.code ∙ c.requires.words_len

tiles : (v : After-tile_solid-count)
    → (let a = v.args in
    TilesOf true a.tape.now (grid_in a.grid true) v.tile_solid-count.new.picture v.tile_solid-count.result)
tiles v =
    tiles_of v.requires.draws_slopes.tiles.drawing v.unpack_words-n.ensures ((let inner : length v.unpack_words-n.new.code ≡ clause_limit = v.unpack_words-n.auto.code ∙ v.requires.words_len in inner)) v.tile_solid-count.ensures

pub unpack_words-n-requires : goal.unpack_words-n-requires
unpack_words-n-requires c = unpackable c.requires.draws_slopes.tiles.drawing _ c.requires.words_len

pub slice_bounds-tile_solid-end : goal.slice_bounds-tile_solid-end
slice_bounds-tile_solid-end c =
    words_room c.requires.draws_slopes.tiles.drawing c.unpack_words-n.ensures (long (goal.at.slice_bounds-tile_solid-end c).After-unpack_words-n)

pub slice_bounds-tile_solid-end-2 : goal.slice_bounds-tile_solid-end-2
slice_bounds-tile_solid-end-2 c =
    sym (length-take-le _ _
    (words_room c.requires.draws_slopes.tiles.drawing c.unpack_words-n.ensures (long (goal.at.slice_bounds-tile_solid-end-2 c).After-unpack_words-n)))

pub tile_solid-count-requires : goal.tile_solid-count-requires
tile_solid-count-requires c =
    let d = c.requires.draws_slopes.tiles.drawing in
    let w = c.requires.draws_slopes.tiles.work in
    let o = c.unpack_words-n.ensures in
    let h = long (goal.at.tile_solid-count-requires c).After-unpack_words-n in
    let few = words_few d o h in
    record {
      level = whole_level d o h;
      ready = record { fault = d.grid; size = d.size ∙ sym (solid_size_lem true _ refl) };
      room = omega arith;
      first = omega arith;
      second = omega arith;
      third = omega arith;
    }

pub slice_bounds-shade-end : goal.slice_bounds-shade-end
slice_bounds-shade-end c =
    words_room c.requires.draws_slopes.tiles.drawing c.unpack_words-n.ensures (long (goal.at.slice_bounds-shade-end c).After-unpack_words-n)

pub slice_bounds-shade-end-2 : goal.slice_bounds-shade-end-2
slice_bounds-shade-end-2 c =
    sym (length-take-le _ _
    (words_room c.requires.draws_slopes.tiles.drawing c.unpack_words-n.ensures (long (goal.at.slice_bounds-shade-end-2 c).After-unpack_words-n)))

pub shade-requires : goal.shade-requires
shade-requires c =
    let d = c.requires.draws_slopes.tiles.drawing in
    let p = c.requires in
    let o = c.unpack_words-n.ensures in
    let h = long (goal.at.shade-requires c).After-unpack_words-n in
    let few = words_few d o h in
    let picture = c.tile_solid-count.auto.picture in
    let work = c.tile_solid-count.auto.work in
    let first = c.tile_solid-count.auto.first in
    let second = c.tile_solid-count.auto.second in
    record {
      level = whole_level d o h;
      fits = record {
        heights = record {
          fault = d.grid;
          size = picture ∙ d.size ∙ sym (solid_size_lem true _ refl);
          most = walked_heights d (tiles (goal.at.shade-requires c).After-tile_solid-count);
        };
        slopes = p.draws_slopes.slopes;
      };
      marks = omega (arith, work, few, p.draws_slopes.tiles.work);
      words_first = omega (arith, first, few, p.first_len);
      words_second = omega (arith, second, few, p.second_len);
    }

pub shape_of-words : goal.shape_of-words
shape_of-words c = c.unpack_words-n.auto.code

pub returns : goal.returns
returns c =
    slopes_of_lem c.requires.draws_slopes.tiles.drawing c.unpack_words-n.ensures (long (goal.at.returns c).After-unpack_words-n) (tiles (goal.at.returns c).After-tile_solid-count) c.shade.ensures
