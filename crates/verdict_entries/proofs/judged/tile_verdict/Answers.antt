-- Full, empty or cut.
use native.Mathlib.Omega.{arith}
use Rattle.verdict_entries.proofs.Judging.{says_full, says_empty, says_cut}
use Rattle.verdict_entries.proofs.judged.tile_verdict.Goals as goal

pub flat_bounds-requires : goal.flat_bounds-requires
flat_bounds-requires c = c.requires.cell

pub judge-judged-requires : goal.judge-judged-requires
judge-judged-requires c =
    record {
      level = c.requires.level;
      box = c.flat_bounds.ensures.ok;
      marks = record { behind = omega arith; within = omega (arith, c.requires.room) };
      words = c.requires.words;
    }

pub returns-in-Full : goal.returns-in-Full
returns-in-Full c =
    says_full c.flat_bounds.ensures c.judge-judged.ensures c.in-Full.is

pub returns-in-Empty : goal.returns-in-Empty
returns-in-Empty c =
    says_empty c.flat_bounds.ensures c.judge-judged.ensures c.in-Empty.is

pub returns-in-Cut : goal.returns-in-Cut
returns-in-Cut c =
    says_cut c.flat_bounds.ensures c.judge-judged.ensures c.requires.level c.in-Cut.is
