-- Narrowed to the window, and its blocks of side 4 shaded.
use native.Mathlib.Omega.{arith}
use Rattle.slope_blocks.proofs.NarrowLaws.{narrow_level, shading_narrowed}
use Rattle.slope_blocks.proofs.sixteens.shade_window.Goals as goal

pub narrow-start-requires : goal.narrow-start-requires
narrow-start-requires c =
    let p = c.requires in
    let l = p.sixteen.lent in
    let m = l.marks in
    record {
      level = l.level;
      bounds = record { fault = l.fits.heights.fault; block = p.sixteen.block.in_grid; layers = p.window };
      marks = record { behind = omega arith; within = omega arith };
      words = l.words_first;
    }

pub offset_bounds-first-start : goal.offset_bounds-first-start
offset_bounds-first-start c =
    let o = c.narrow-start.ensures.within in
    omega (arith, c.narrow-start.auto.next)

pub slice_bounds-short-count : goal.slice_bounds-short-count
slice_bounds-short-count c = c.narrow-start.ensures.within

pub fours-requires : goal.fours-requires
fours-requires c =
    let p = c.requires in
    let l = p.sixteen.lent in
    let short = narrow_level c.narrow-start.ensures l.level in
    record {
      level = search short;
      fits = l.fits;
      block = p.sixteen.block;
      window = p.window;
      marks = omega (arith, l.marks, c.narrow-start.auto.work);
      words = l.words_second;
    }

pub returns : goal.returns
returns c =
    shading_narrowed c.narrow-start.ensures c.fours.ensures
