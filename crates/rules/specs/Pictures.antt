-- Pictures as they are lent, and the Netpbm files made of them.
use Rattle.std.specs.Prelude.{Bool, true, false, ◌&&◌, List, [], ◌∷◌, ◌++◌, ℕ, zero, suc, ◌+◌, ◌-◌, ◌*◌, ◌/◌, ◌%◌, ◌^◌, ltb, leb, get_or, take, drop}
use Rattle.rules.specs.Values.{pick}
use Rattle.rules.specs.Drawings.{Grid, size_ok}

-- "A flat picture has ceil(width/8) bytes a row; the leftmost pixel is the highest bit, 1 is material, spare bits are
-- 0."
abbrev pub stride : ℕ → ℕ
stride w = (w + 7) / 8

unfoldable pub byte_of : List ℕ → ℕ
byte_of h =
    128 * get_or h 0 0
    + (64 * get_or h 1 0
    + (32 * get_or h 2 0
    + (16 * get_or h 3 0 + (8 * get_or h 4 0 + (4 * get_or h 5 0 + (2 * get_or h 6 0 + get_or h 7 0))))))

unfoldable pub row_bytes : ℕ → List ℕ → List ℕ
row_bytes zero h = []
row_bytes (suc n) h = byte_of (take 8 h) ∷ row_bytes n (drop 8 h)

unfoldable pub bits_of : ℕ → ℕ → List ℕ → List ℕ
bits_of w zero h = []
bits_of w (suc n) h = row_bytes (stride w) (take w h) ++ bits_of w n (drop w h)

-- A flat picture's bytes, or a solid's heights, "one 16-bit number per pixel in row order".
unfoldable pub picture : Bool → Grid → List ℕ → List ℕ
picture isSolid g h = pick isSolid h (bits_of g.width g.height h)

unfoldable pub picture_size : Bool → Grid → ℕ
picture_size isSolid g = pick isSolid (g.width * g.height) (g.height * stride g.width)

-- "The Netpbm bitmap begins with the bytes `50 34 0A`, then width, a space, height, a newline".
unfoldable pub digits_from : ℕ → ℕ → List ℕ
digits_from zero v = []
digits_from (suc l) v =
    elim (ltb v 10) [ true ↦ (48 + v) ∷ [] | false ↦ digits_from l (v / 10) ++ ((48 + v % 10) ∷ []) ]

abbrev pub decimal : ℕ → List ℕ
decimal v = digits_from 5 v

-- Any number of 64 bits in decimal: 20 digits are enough.
abbrev pub numeral : ℕ → List ℕ
numeral v = digits_from 20 v

unfoldable pub head : ℕ → ℕ → ℕ → List ℕ
head k w h = 80 ∷ (k ∷ (10 ∷ (decimal w ++ (32 ∷ (decimal h ++ (10 ∷ []))))))

-- "then the rows"; "spare bits come out as 0".
unfoldable pub clean_row : ℕ → List ℕ → List ℕ
clean_row w [] = []
clean_row w (b ∷ bs) = pick (leb 8 w) b (b / 2 ^ (8 - w) * 2 ^ (8 - w)) ∷ clean_row (w - 8) bs

unfoldable pub clean_rows : ℕ → ℕ → List ℕ → List ℕ
clean_rows zero w bs = []
clean_rows (suc n) w bs = clean_row w (take (stride w) bs) ++ clean_rows n w (drop (stride w) bs)

unfoldable pub bitmap_file : ℕ → ℕ → List ℕ → List ℕ
bitmap_file w h bs = head 52 w h ++ clean_rows h w bs

-- "The height file begins with `50 35 0A`, the same line, then `65535` and a newline, and each height with its high
-- byte first."
unfoldable pub high_first : List ℕ → List ℕ
high_first [] = []
high_first (h ∷ hs) = h / 256 ∷ (h % 256 ∷ high_first hs)

abbrev pub top16 : List ℕ
top16 = decimal 65535 ++ (10 ∷ [])

unfoldable pub height_file : ℕ → ℕ → List ℕ → List ℕ
height_file w h hs = head 53 w h ++ (top16 ++ high_first hs)

-- Line 10, of a file.
abbrev pub sides_ok : ℕ → ℕ → Bool
sides_ok w h = size_ok w && size_ok h
