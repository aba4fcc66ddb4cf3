-- The parts of a file, as the functions that write them have them.
use Rattle.std.specs.Prelude.{List, [], ◌∷◌, ◌++◌, ℕ, ◌+◌, ◌-◌, ◌%◌}
use Rattle.rules.specs.Pictures.{decimal}

-- The line of sizes: width, a space, height, a newline.
abbrev pub sizes : ℕ → ℕ → List ℕ
sizes w h = decimal w ++ (32 ∷ (decimal h ++ (10 ∷ [])))

-- The spare bits of a row's last byte.
abbrev pub spare : ℕ → ℕ
spare w = 7 - (w + 7) % 8
