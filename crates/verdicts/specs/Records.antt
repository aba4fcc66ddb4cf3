-- The parts of a flat picture's grid record, as they are written: mark and sizes, and three numbers of an axis each.
use Rattle.std.specs.Prelude.{List, ◌∷◌, ◌++◌, ℤ, ℕ}
use Rattle.rules.specs.Tapes.{two, four}

abbrev pub size_bytes : ℕ → ℕ → List ℕ
size_bytes w h = 71 ∷ (82 ∷ (two w ++ (two h ++ two 0)))

abbrev pub three_bytes : ℤ → ℤ → ℤ → List ℕ
three_bytes x y z = four x ++ (four y ++ four z)
