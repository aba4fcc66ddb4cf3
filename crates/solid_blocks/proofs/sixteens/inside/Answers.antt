-- Nothing of a region that is done; of one that is cut, its children.
use native.Mathlib.Omega.{arith}
use Rattle.solid_blocks.specs.Inside.{Short}
use Rattle.solid_blocks.proofs.InsideLaws.{inside_done, inside_open}
use Rattle.solid_blocks.proofs.sixteens.inside.Goals as goal
use Rattle.solid_blocks.proofs.sixteens.inside.Goals.{In-Open}

short : (c : In-Open)
    → Short c.args.whole.now c.args.second.now c.in-Open.start
short c = c.requires.for_inside.short _ c.in-Open.is

pub offset_bounds-second-start : goal.offset_bounds-second-start
offset_bounds-second-start c = let o = (short (goal.at.offset_bounds-second-start c).In-Open).within in omega (arith, c.well_formed)

pub slice_bounds-short-start : goal.slice_bounds-short-start
slice_bounds-short-start c = (short (goal.at.slice_bounds-short-start c).In-Open).within

pub slice_bounds-short-count : goal.slice_bounds-short-count
slice_bounds-short-count c = omega (arith, (short (goal.at.slice_bounds-short-count c).In-Open).within)

pub fours-requires : goal.fours-requires
fours-requires c =
    let p = c.requires in
    let q = p.for_inside in record {
      for_fours = record {
        level = (short (goal.at.fours-requires c).In-Open).level;
        ready = q.ready;
        cell = q.cell;
        side = q.side;
        room = q.room;
        third = q.third;
      };
      slots_len = p.slots_len;
      whole_in_bounds = q.rows;
    }

pub returns-in-Done : goal.returns-in-Done
returns-in-Done c = record {
  inside = inside_done c.in-Done.is;
  slots_stay = c.requires.slots_len;
}

pub returns-in-Open : goal.returns-in-Open
returns-in-Open c = record {
  inside = inside_open c.in-Open.is c.fours.ensures.folds;
  slots_stay = c.fours.ensures.slots_stay;
}
