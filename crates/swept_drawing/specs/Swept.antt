-- What a swept picture asks and gives that no line refuses.
use Rattle.std.specs.Prelude.{◌≡◌, false, List, ℤ, ℕ, length}
use Rattle.rules.specs.Tapes.{read_tape}
use Rattle.swept_rules.specs.Swept.{offsets_of, swept, swept_fault}
use Rattle.picture.specs.Shapes.{grid_in}
use Rattle.picture.specs.declared.grid.Grid.{Grid}

pub record Sweeps (s : List ℕ) (d : Grid) (zs : List ℤ) (o w : List ℕ) : Type 0 where
  pub clear : swept_fault s (grid_in d false) zs (length o) (length w) ≡ 0

pub record SweptOf (s : List ℕ) (d : Grid) (zs : List ℤ) (o' : List ℕ) : Type 0 where
  pub pixels : o' ≡ swept (read_tape s).tape (offsets_of zs) (grid_in d false)
