-- Stopped at side 64, or cut and judged at side 8.
use mathlib.Core.List.{[], ◌∷◌}
use native.Mathlib.Omega.{arith}
use Prim.Native.Nat.{◌≤◌}
use lib.ListN.{length}
use Rattle.shortening.proofs.KeptLaws.{words_fewer}
use Rattle.reason.proofs.Levels.{stop_full, stop_empty, is_cut, short_level, goes_down}
use Rattle.reason.proofs.stop.from_tile.Goals as goal
use Rattle.reason.proofs.stop.from_tile.Goals.{In-Cut}

-- Where the short words start.
starts : (c : In-Cut)
    → c.in-Cut.start ≤ length c.judge_at-judged.new.next
starts c = (is_cut c.judge_at-judged.ensures c.in-Cut.is).start

pub judge_at-judged-requires : goal.judge_at-judged-requires
judge_at-judged-requires c = record {
  for_level = c.requires.for_level;
  le_side = (omega arith, omega arith);
}

pub stop_at-requires : goal.stop_at-requires
stop_at-requires c =
    let k = c.requires.for_level.level.kept in omega (arith, words_fewer k, k.kept.within)

pub stop_at-requires-in-Empty : goal.stop_at-requires-in-Empty
stop_at-requires-in-Empty c =
    let k = c.requires.for_level.level.kept in omega (arith, words_fewer k, k.kept.within)

pub offset_bounds-first-start : goal.offset_bounds-first-start
offset_bounds-first-start c =
    omega (arith, starts (goal.at.offset_bounds-first-start c).In-Cut, c.judge_at-judged.auto.next)

pub slice_bounds-short-count : goal.slice_bounds-short-count
slice_bounds-short-count c = starts (goal.at.slice_bounds-short-count c).In-Cut

pub from_eight-requires : goal.from_eight-requires
from_eight-requires c =
    let p = c.requires in
    record {
      pixel = p.for_level.pixel;
      level = short_level c.judge_at-judged.ensures c.in-Cut.is p.for_level.level;
      marks = omega (arith, p.for_level.marks, c.judge_at-judged.auto.work);
      words = p.whole_in_bounds;
    }

pub returns-in-Full : goal.returns-in-Full
returns-in-Full c =
    stop_full c.judge_at-judged.ensures 8 (1 ∷ []) c.in-Full.is c.stop_at.ensures

pub returns-in-Empty : goal.returns-in-Empty
returns-in-Empty c =
    stop_empty c.judge_at-judged.ensures 8 (1 ∷ []) c.in-Empty.is
    c.stop_at-in-Empty.ensures

pub returns-in-Cut : goal.returns-in-Cut
returns-in-Cut c =
    goes_down c.judge_at-judged.ensures c.in-Cut.is 8 (1 ∷ []) c.from_eight.ensures
