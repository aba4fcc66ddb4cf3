-- Parts of a flat picture by its bytes: of rows y to yend the bytes that pixels x to xend begin in, where x begins one.
use Rattle.std.specs.Prelude.{◌≡◌, List, ℕ, ◌+◌, ◌*◌, ◌<◌, ◌≤◌, get_or}
use Rattle.rules.specs.Pictures.{stride}

-- Every byte but those from one place to before another is as it was.
pub record KeptOutside (from to : ℕ) (b b' : List ℕ) : Type 0 where
  pub bytes : (i : ℕ) → (from ≤ i → i < to → ⊥) → get_or b' i 0 ≡ get_or b i 0

-- Byte c of row j is of the part.
pub record ByteIn (x xend y yend j c : ℕ) : Type 0 where
  pub from_row : y ≤ j
  pub to_row : j < yend
  pub from_pixel : x ≤ 8 * c
  pub to_pixel : 8 * c < xend

-- The bytes of the part are 0.
pub record Blank (w x xend y yend : ℕ) (b : List ℕ) : Type 0 where
  pub bytes : (j c : ℕ) → c < stride w → ByteIn x xend y yend j c → get_or b (j * stride w + c) 0 ≡ 0

-- Every byte outside the part is as it was.
pub record Apart (w x xend y yend : ℕ) (b b' : List ℕ) : Type 0 where
  pub bytes : (j c : ℕ) → c < stride w → (ByteIn x xend y yend j c → ⊥)
      → get_or b' (j * stride w + c) 0 ≡ get_or b (j * stride w + c) 0
