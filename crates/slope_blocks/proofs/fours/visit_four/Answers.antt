-- Left alone if it has no height in the window; or narrowed to the window and shaded.
use native.Mathlib.Omega.{arith}
use Rattle.slope_blocks.proofs.NarrowLaws.{narrow_level, shading_narrowed}
use Rattle.slope_blocks.proofs.WindowLaws.{shading_nothing, shading_tight}
use Rattle.slope_blocks.proofs.fours.visit_four.Goals as goal

pub seen_in-tight-requires : goal.seen_in-tight-requires
seen_in-tight-requires c =
    let p = c.requires in
    record { heights = p.fits.heights; block = p.block.in_grid; some = omega (arith, p.window.some) }

pub returns-then-tight : goal.returns-then-tight
returns-then-tight c = shading_nothing _ c.seen_in-tight.ensures c.if-tight.true

pub mark_room-requires : goal.mark_room-requires
mark_room-requires c = c.requires.level.kept.kept.within

pub overflow_add-base : goal.overflow_add-base
overflow_add-base c =
    let w = c.requires.level.kept.kept.within in
    omega (arith, c.mark_room.ensures)

pub narrow-start-requires : goal.narrow-start-requires
narrow-start-requires c =
    let p = c.requires in
    let marks = p.marks in
    let m = c.mark_room.ensures in
    record {
      level = p.level;
      bounds = record {
        fault = p.fits.heights.fault;
        block = p.block.in_grid;
        layers = record {
          some = omega (arith, c.if-tight.false);
          in_grid = omega (arith, c.seen_in-tight.ensures.end, p.window.in_grid);
        };
      };
      marks = record { behind = omega arith; within = omega arith };
      words = p.words;
    }

pub offset_bounds-second-start : goal.offset_bounds-second-start
offset_bounds-second-start c =
    let o = c.narrow-start.ensures.within in
    let g = c.well_formed.1.1.1.1.1.1.1.1.0 in
    omega (arith, c.narrow-start.auto.next)

pub slice_bounds-short-count : goal.slice_bounds-short-count
slice_bounds-short-count c = c.narrow-start.ensures.within

pub shade_rows-requires : goal.shade_rows-requires
shade_rows-requires c =
    let p = c.requires in
    let short = (narrow_level c.narrow-start.ensures p.level).sound in
    record { sound = search short; fits = p.fits; block = p.block.in_grid }

pub returns : goal.returns
returns c =
    shading_tight _ c.seen_in-tight.ensures
    (shading_narrowed c.narrow-start.ensures c.shade_rows.ensures)
