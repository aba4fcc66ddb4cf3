-- What a drawing with slopes gives that no line refuses: a solid's walk, and the slopes at its heights.
use Rattle.std.specs.Prelude.{◌≡◌, true, List, ℕ, ℤ}
use Rattle.rules.specs.Tapes.{read_tape}
use Rattle.rules.specs.Drawings as D
use Rattle.rules.specs.Slopes.{slopes_of}
use Rattle.drawings.specs.Drawn.{TilesOf}

pub record SlopesOf (s : List ℕ) (g : D.Grid) (o' : List ℕ) (p' : List ℤ) (k : ℕ) : Type 0 where
  pub tiles : TilesOf true s g o' k
  pub slopes : p' ≡ slopes_of (read_tape s).tape g (D.walked (read_tape s).tape g).heights
