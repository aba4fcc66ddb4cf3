-- The sides below each side of a solid.
use Rattle.std.specs.Prelude.{List, [], ◌∷◌, ℕ}

abbrev pub below4 : List ℕ
below4 = 1 ∷ []

abbrev pub below16 : List ℕ
below16 = 4 ∷ below4

abbrev pub below64 : List ℕ
below64 = 16 ∷ below16
