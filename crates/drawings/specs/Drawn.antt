-- What a drawing gives that no line refuses, by the definitions.
use Rattle.std.specs.Prelude.{◌≡◌, Bool, List, ℕ}
use Rattle.rules.specs.Tapes.{read_tape}
use Rattle.rules.specs.Drawings as D
use Rattle.rules.specs.Pictures.{picture}

-- The full drawing's picture and count, and the walk's.
pub record FullOf (isSolid : Bool) (s : List ℕ) (g : D.Grid) (o' : List ℕ) (k : ℕ) : Type 0 where
  pub pixels : o' ≡ picture isSolid g (D.drawn (read_tape s).tape g)
  pub count : k ≡ D.full_count (read_tape s).tape g

pub record TilesOf (isSolid : Bool) (s : List ℕ) (g : D.Grid) (o' : List ℕ) (k : ℕ) : Type 0 where
  pub pixels : o' ≡ picture isSolid g (D.walked (read_tape s).tape g).heights
  pub count : k ≡ (D.walked (read_tape s).tape g).clauses
