-- What the levels of a reason ask and say: with words, on any number of slots on which they are an accepted tape.
use Rattle.std.specs.Prelude.{◌≡◌, false, List, ℕ, ◌≤◌, ◌<◌, length}
use Rattle.rules.specs.Values.{Range}
use Rattle.rules.specs.Drawings.{box_of, grid_fault}
use Rattle.rules.specs.Accepted.{Accepted}
use Rattle.reason_rules.specs.Reasons.{Reason, holding, reason_from}
use Rattle.code.specs.Words.{tape_in}
use Rattle.picture.specs.Shapes.{grid_in}
use Rattle.picture.specs.declared.grid.Grid.{Grid}
use Rattle.walk.specs.Judges.{IsJudged}
use Rattle.walk.specs.Walks.{Level, MarksFit}
use Rattle.walk.specs.declared.judge.Judgement.{Judgement}
use Rattle.reason.specs.declared.stop.Stop.{Stop}

abbrev pub stop_in : Stop → Reason
stop_in r = record { side = r.side; low = r.low; high = r.high; clauses = r.clauses }

-- The stop at a region of side n with the range x and a tape of k clauses.
abbrev pub stop_of : ℕ → Range → ℕ → Reason
stop_of n x k = record { side = n; low = x.low; high = x.high; clauses = k }

-- A pixel of a grid that no line refuses.
pub record Pixel (grid : Grid) (i j : ℕ) : Type 0 where
  pub fault : grid_fault false (grid_in grid false) ≡ 0
  pub column : i < grid.width
  pub row : j < grid.height

-- A pixel, the words of a level, and room for marks and words of the level below.
pub record ForLevel (whole ws : List ℕ) (grid : Grid) (i j : ℕ) (work next : List ℕ) : Type 0 where
  pub pixel : Pixel grid i j
  pub level : Level whole ws
  pub marks : MarksFit 1 whole work
  pub words : length whole ≤ length next

-- The judge's words on the region of side n that holds the pixel (i, j); its marks stand behind the choices.
pub record JudgedAt (whole ws : List ℕ) (grid : Grid) (n i j : ℕ) (work next : List ℕ) (v : Judgement) : Type 0 where
  pub judged : IsJudged whole ws (box_of (grid_in grid false) (holding n i j)) (length whole) work next v

-- From the region of side n on, with the sides ns below its own, the walk stops so at the pixel (i, j).
pub record StopsAs (ns : List ℕ) (n : ℕ) (ws : List ℕ) (grid : Grid) (i j : ℕ) (r : Stop) : Type 0 where
  pub figures : (m : ℕ) → Accepted (tape_in m ws)
      → stop_in r ≡ reason_from ns n (tape_in m ws) (grid_in grid false) i j
