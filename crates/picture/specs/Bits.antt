-- A flat picture's bytes against its heights 0 and 1: by row, byte and bit, spare bits included.
use Rattle.std.specs.Prelude.{◌≡◌, Bool, false, List, [], ◌∷◌, ℕ, zero, suc, ◌+◌, ◌-◌, ◌*◌, ◌/◌, ◌%◌, ◌^◌, ◌<◌, ◌≤◌, max, ltb, length, get_or}
use Rattle.rules.specs.Values.{pick, when}
use Rattle.rules.specs.Drawings.{size_limit, raise_row}
use Rattle.rules.specs.Pictures.{stride}

abbrev pub bit : ℕ → ℕ → ℕ
bit k b = b / 2 ^ k % 2

-- Pixel x of row y; past the row's end, where the spare bits are, 0.
unfoldable pub pixel : ℕ → List ℕ → ℕ → ℕ → ℕ
pixel w h x y = pick (ltb x w) (get_or h (y * w + x) 0) 0

-- The bytes b show the heights h of n rows of w pixels: "the leftmost pixel is the highest bit, 1 is material, spare
-- bits are 0".
pub record Shows (w n : ℕ) (b h : List ℕ) : Type 0 where
  pub size : length b ≡ n * stride w
  pub pixels : length h ≡ w * n
  pub bits : (y c k : ℕ) → y < n → c < stride w → k < 8
      → bit (7 - k) (get_or b (y * stride w + c) 0) ≡ pixel w h (8 * c + k) y

-- Pixels x to xend of the rows below yend are in the picture with bytes b, and start with a byte.
pub record Within (w x xend yend : ℕ) (b : List ℕ) : Type 0 where
  pub narrow : w ≤ size_limit
  pub start : x % 8 ≡ 0
  pub some : x < xend
  pub columns : xend ≤ w
  pub rows : yend * stride w ≤ length b

-- The byte of a row of at most 8 samples: 128 for the first, 64 for the second, and so on.
unfoldable pub row_byte_from : ℕ → List Bool → ℕ
row_byte_from zero bs = 0
row_byte_from (suc k) [] = 0
row_byte_from (suc k) (b ∷ bs) = when b (2 ^ k) + row_byte_from k bs

abbrev pub row_byte : List Bool → ℕ
row_byte bs = row_byte_from 8 bs

-- The heights after a row of samples from pixel p on: those with material are raised to 1.
unfoldable pub mark_row : ℕ → List Bool → List ℕ → List ℕ
mark_row p [] h = h
mark_row p (b ∷ bs) h = mark_row (suc p) bs (pick b (raise_row 1 p 1 h) h)

-- What a row of samples from place p on has at place q; 0 before and past it.
unfoldable pub mark_at : ℕ → List Bool → ℕ → ℕ
mark_at p bs q = pick (ltb q p) 0 (when (get_or bs (q - p) false) 1)

-- The bytes after a row of samples from bit p on, counted from the highest of the first byte: those with material are
-- 1, and every other is as it was.
pub record Marked (p : ℕ) (bs : List Bool) (b b' : List ℕ) : Type 0 where
  pub size : length b' ≡ length b
  pub bits : (j k : ℕ) → j < length b → k < 8
      → bit (7 - k) (get_or b' j 0) ≡ max (bit (7 - k) (get_or b j 0)) (mark_at p bs (8 * j + k))

-- Of the byte v for the pixels from x on of a row of w pixels, the spare bits are 0: those at or past the row's end.
pub record SpareZero (w x v : ℕ) : Type 0 where
  pub bits : (k : ℕ) → k < 8 → w ≤ x + k → bit (7 - k) v ≡ 0

-- The byte v, stored from pixel x of row y on, whatever that byte held: where v is the byte of a row of samples, each
-- sample's bit is its material and the bits past the last sample are 0; the spare bits, those past the row's w pixels,
-- are 0; and every other byte is as it was.
pub record StoredRow (w x y v : ℕ) (b b' : List ℕ) : Type 0 where
  pub size : length b' ≡ length b
  pub here : (bs : List Bool) → v ≡ row_byte bs → (k : ℕ) → k < 8
      → bit (7 - k) (get_or b' (y * stride w + x / 8) 0) ≡ when (get_or bs k false) 1
  pub spare : (k : ℕ) → k < 8 → w ≤ x + k → bit (7 - k) (get_or b' (y * stride w + x / 8) 0) ≡ 0
  pub other : (j : ℕ) → (j ≡ y * stride w + x / 8 → ⊥) → get_or b' j 0 ≡ get_or b j 0
