-- Nothing for an empty place; or its tape unpacked, and its tiles joined.
use Rattle.std.proofs.Common.{◌≡◌, sym, ◌∙◌, false, arith, length, take}
use lib.Seq.{length-take-le}
use Rattle.rules.specs.Tapes.{clause_limit}
use Rattle.picture.specs.Shapes.{grid_in}
use Rattle.answers.specs.Lines.{Draws}
use Rattle.drawings.proofs.TapeWords.{unpackable, words_room, words_few, whole_level}
use Rattle.plate_drawing.proofs.JoinedParts.{empty_joined, draws_place, taken_joined}
use Rattle.plate_drawing.proofs.join_place.Goals.{After-tape_end-end, After-unpack_words-n}
use Rattle.plate_drawing.proofs.join_place.Goals as goal

-- The place's tape draws, and the words are lent as long as they were.
draws : (c : After-tape_end-end)
    → (let a = c.args in
    Draws false (take c.tape_end-end.result a.place.now) (grid_in a.grid false) (length a.picture.now))
draws c =
    draws_place c.requires.buffers c.requires.for_place (sym c.if-all_zero.false ∙ c.all_zero.ensures) c.tape_end-end.ensures

long : (c : After-unpack_words-n) → length c.unpack_words-n.new.code ≡ clause_limit
long c = c.unpack_words-n.auto.code ∙ c.requires.buffers.words_in

pub returns-then-all_zero-clause-joins : goal.returns-then-all_zero-clause-joins
returns-then-all_zero-clause-joins c = empty_joined _ _ _ _ (sym c.if-all_zero.true ∙ c.all_zero.ensures)

pub unpack_words-n-requires : goal.unpack_words-n-requires
unpack_words-n-requires c =
    unpackable (draws (goal.at.unpack_words-n-requires c).After-tape_end-end) _ c.requires.buffers.words_in

pub slice_bounds-join_tiles-end : goal.slice_bounds-join_tiles-end
slice_bounds-join_tiles-end c =
    let at = goal.at.slice_bounds-join_tiles-end c in
    words_room (draws at.After-tape_end-end) c.unpack_words-n.ensures (long at.After-unpack_words-n)

pub slice_bounds-join_tiles-end-2 : goal.slice_bounds-join_tiles-end-2
slice_bounds-join_tiles-end-2 c =
    let at = goal.at.slice_bounds-join_tiles-end-2 c in
    sym (length-take-le _ _ (words_room (draws at.After-tape_end-end) c.unpack_words-n.ensures (long at.After-unpack_words-n)))

pub join_tiles-requires : goal.join_tiles-requires
join_tiles-requires c =
    let at = goal.at.join_tiles-requires c in
    let d = draws at.After-tape_end-end in
    let h = long at.After-unpack_words-n in
    let b = c.requires.buffers in
    let few = words_few d c.unpack_words-n.ensures h in
    record {
      part = record {
        lent = record {
          level = whole_level d c.unpack_words-n.ensures h;
          ready = b.ready;
          marks = omega (arith, few, b.room);
          words_first = omega (arith, few, b.first_in);
          words_second = omega (arith, few, b.second_in);
        };
        clean = b.clean;
      };
      size = b.size;
    }

pub returns-clause-joins : goal.returns-clause-joins
returns-clause-joins c =
    taken_joined c.requires.buffers c.requires.for_place (sym c.if-all_zero.false ∙ c.all_zero.ensures)
    c.tape_end-end.ensures c.unpack_words-n.ensures (long (goal.at.returns-clause-joins c).After-unpack_words-n)
    c.join_tiles.ensures.by_index
