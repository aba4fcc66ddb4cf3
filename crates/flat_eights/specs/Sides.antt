-- The sides below each side of a flat drawing.
use Rattle.std.specs.Prelude.{List, [], ◌∷◌, ℕ}

abbrev pub below8 : List ℕ
below8 = 1 ∷ []

abbrev pub below64 : List ℕ
below64 = 8 ∷ below8
