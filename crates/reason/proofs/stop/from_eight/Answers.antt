-- Stopped at side 8, or cut and run at the sample.
use mathlib.Core.List.{[]}
use native.Mathlib.Omega.{arith}
use Prim.Native.Nat.{◌≤◌}
use lib.ListN.{length}
use Rattle.shortening.proofs.KeptLaws.{words_fewer}
use Rattle.reason.proofs.Levels.{stop_full, stop_empty, is_cut, short_level, goes_down}
use Rattle.reason.proofs.stop.from_eight.Goals as goal
use Rattle.reason.proofs.stop.from_eight.Goals.{In-Cut}

-- Where the short words start.
starts : (c : In-Cut)
    → c.in-Cut.start ≤ length c.judge_at-judged.new.next
starts c = (is_cut c.judge_at-judged.ensures c.in-Cut.is).start

pub judge_at-judged-requires : goal.judge_at-judged-requires
judge_at-judged-requires c = record {
  for_level = c.requires;
  le_side = (omega arith, omega arith);
}

pub stop_at-requires : goal.stop_at-requires
stop_at-requires c =
    let k = c.requires.level.kept in omega (arith, words_fewer k, k.kept.within)

pub stop_at-requires-in-Empty : goal.stop_at-requires-in-Empty
stop_at-requires-in-Empty c =
    let k = c.requires.level.kept in omega (arith, words_fewer k, k.kept.within)

pub offset_bounds-second-start : goal.offset_bounds-second-start
offset_bounds-second-start c =
    omega (arith, starts (goal.at.offset_bounds-second-start c).In-Cut, c.judge_at-judged.auto.next)

pub slice_bounds-short-count : goal.slice_bounds-short-count
slice_bounds-short-count c = starts (goal.at.slice_bounds-short-count c).In-Cut

pub from_sample-requires : goal.from_sample-requires
from_sample-requires c = let p = c.requires in
    let l = short_level c.judge_at-judged.ensures c.in-Cut.is p.level in record {
      sound = l.sound;
      pixel = p.pixel;
    }

pub returns-in-Full : goal.returns-in-Full
returns-in-Full c =
    stop_full c.judge_at-judged.ensures 1 [] c.in-Full.is c.stop_at.ensures

pub returns-in-Empty : goal.returns-in-Empty
returns-in-Empty c =
    stop_empty c.judge_at-judged.ensures 1 [] c.in-Empty.is c.stop_at-in-Empty.ensures

pub returns-in-Cut : goal.returns-in-Cut
returns-in-Cut c =
    goes_down c.judge_at-judged.ensures c.in-Cut.is 1 [] c.from_sample.ensures
