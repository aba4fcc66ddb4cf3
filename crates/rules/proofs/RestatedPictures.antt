-- Pictures and files as the paper of formal statements has them, word for word, and each equal to the definition used
-- here. Where text and parts are the same nothing is repeated: a row's bytes, `clean_row`, a file's head, the file of
-- heights.
use mathlib.Core.Path.{◌≡◌, refl, sym, ap}
use mathlib.Core.Bool.{Bool, ◌&&◌, and_assoc}
use mathlib.Core.List.{List, [], ◌++◌}
use Prim.Native.Nat.{ℕ, zero, suc, ◌+◌, ◌*◌, ◌/◌}
use lib.Dec.{leb}
use lib.ListN.{take, drop}
use Rattle.rules.specs.Pictures
use Rattle.rules.specs.Values.{pick}
use Rattle.rules.specs.Drawings.{Grid}
use Rattle.rules.specs.Pictures.{row_bytes, clean_row, head}

-- Bits of a flat picture, leftmost the highest, spare bits 0; heights as they are.
abbrev pub rows_bytes : ℕ → ℕ → List ℕ → List ℕ
rows_bytes zero w h = []
rows_bytes (suc n) w h = row_bytes ((w + 7) / 8) (take w h) ++ rows_bytes n w (drop w h)

abbrev pub bits_of : ℕ → ℕ → List ℕ → List ℕ
bits_of w n h = rows_bytes n w h

pub bits_same : (w n : ℕ) (h : List ℕ) → bits_of w n h ≡ Pictures.bits_of w n h
unfolding Pictures.bits_of
bits_same w zero h = refl
bits_same w (suc n) h = ap (λ (l : List ℕ). row_bytes ((w + 7) / 8) (take w h) ++ l) (bits_same w n (drop w h))

abbrev pub picture : Bool → Grid → List ℕ → List ℕ
picture isSolid g h = pick isSolid h (bits_of g.width g.height h)

pub picture_same : (isSolid : Bool) (g : Grid) (h : List ℕ) → picture isSolid g h ≡ Pictures.picture isSolid g h
unfolding Pictures.picture
picture_same isSolid g h = ap (pick isSolid h) (bits_same g.width g.height h)

abbrev pub picture_size : Bool → Grid → ℕ
picture_size isSolid g = pick isSolid (g.width * g.height) (g.height * ((g.width + 7) / 8))

pub picture_size_same : (isSolid : Bool) (g : Grid) → picture_size isSolid g ≡ Pictures.picture_size isSolid g
unfolding Pictures.picture_size
picture_size_same isSolid g = refl

-- Spare bits come out as 0.
abbrev pub clean_rows : ℕ → ℕ → List ℕ → List ℕ
clean_rows zero w bs = []
clean_rows (suc n) w bs = let k = (w + 7) / 8 in clean_row w (take k bs) ++ clean_rows n w (drop k bs)

pub clean_rows_same : (n w : ℕ) (bs : List ℕ) → clean_rows n w bs ≡ Pictures.clean_rows n w bs
unfolding Pictures.clean_rows
clean_rows_same zero w bs = refl
clean_rows_same (suc n) w bs =
    let k = (w + 7) / 8 in
    ap (λ (l : List ℕ). clean_row w (take k bs) ++ l) (clean_rows_same n w (drop k bs))

abbrev pub bitmap_file : ℕ → ℕ → List ℕ → List ℕ
bitmap_file w h bs = head 52 w h ++ clean_rows h w bs

pub bitmap_file_same : (w h : ℕ) (bs : List ℕ) → bitmap_file w h bs ≡ Pictures.bitmap_file w h bs
unfolding Pictures.bitmap_file
bitmap_file_same w h bs = ap (λ (l : List ℕ). head 52 w h ++ l) (clean_rows_same h w bs)

abbrev pub sides_ok : ℕ → ℕ → Bool
sides_ok w h = leb 1 w && (leb w 512 && (leb 1 h && leb h 512))

pub sides_ok_same : (w h : ℕ) → sides_ok w h ≡ Pictures.sides_ok w h
sides_ok_same w h = sym (and_assoc (leb 1 w) (leb w 512) (leb 1 h && leb h 512))
