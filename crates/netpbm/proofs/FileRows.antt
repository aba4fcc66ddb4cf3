-- The rows of a file: one more row, one more height, how many bytes they have, and the last byte of a row by a mask.
use mathlib.Core.Path.{◌≡◌, refl, sym, ap, ◌∙◌}
use mathlib.Core.List.{List, [], ◌∷◌, ◌++◌, append_assoc, append-nil}
use Prim.Native.Nat.{ℕ, zero, suc, ◌+◌, ◌-◌, ◌*◌, ◌/◌, ◌%◌, ◌^◌, ◌<◌, ◌≤◌}
use mathlib.Core.Logic.{⊎_elim}
use native.Mathlib.Omega.{arith}
use native.Mathlib.Nat.{zero-mul, suc-mul, mul-le-mul_right, eq-or-lt_of_le}
use native.Mathlib.Numerals.{add-one}
use lib.Bits.{bit_and, and_high}
use lib.Dec.{leb}
use lib.ListN.{length, get_or, take, drop, length-append, length-take, length-drop}
use lib.Pow.{pow_pos, pow_mono, shr_mod}
use lib.Seq.{drop-drop, take-suc, length-take-le}
use borrow.Author.Tests.{le-leb, lt-leb}
use Rattle.std.specs.Int.{w16, to_be_bytes}
use Rattle.std.proofs.lemmas.Nat.{be_bytes_2}
use Rattle.rules.specs.Values.{pick}
use Rattle.rules.specs.Pictures.{stride, clean_row, clean_rows, high_first}
use Rattle.netpbm.specs.Appending.{Appends}
use Rattle.netpbm.specs.FileParts.{spare}
use Rattle.netpbm.proofs.Written.{then, renamed}

-- A byte with its lowest k bits 0.
abbrev cleared : ℕ → ℕ → ℕ
cleared k b = b / 2 ^ k * 2 ^ k

last_byte : (w b : ℕ) → w ≤ 8 → pick (leb 8 w) b (cleared (8 - w) b) ≡ cleared (8 - w) b
last_byte w b h = ⊎_elim full part (eq-or-lt_of_le h)
  where
    full : w ≡ 8 → pick (leb 8 w) b (cleared (8 - w) b) ≡ cleared (8 - w) b
    full e =
        let z : cleared 0 b ≡ b = omega arith in
        rw e (sym z)

    part : w < 8 → pick (leb 8 w) b (cleared (8 - w) b) ≡ cleared (8 - w) b
    part k = rw (lt-leb 8 w k) refl

clean_last : (n w : ℕ) (row : List ℕ) → length row ≡ suc n → 8 * n < w → w ≤ 8 * suc n → clean_row w row
    ≡ take n row ++ (cleared (8 * suc n - w) (get_or row n 0) ∷ [])
unfolding clean_row
clean_last zero w [] e h k = absurd (omega arith)
clean_last zero w (b ∷ []) e h k = ap (λ v. v ∷ []) (last_byte w b k)
clean_last zero w (b ∷ (b' ∷ bs)) e h k = absurd (omega arith)
clean_last (suc n) w [] e h k = absurd (omega arith)
clean_last (suc n) w (b ∷ bs) e h k =
    let full : 8 ≤ w = omega arith in
    let same : 8 * suc n - (w - 8) ≡ 8 * suc (suc n) - w = omega arith in
    rw (le-leb 8 w full)
    (ap (λ l. b ∷ l)
    (clean_last n (w - 8) bs (omega arith) (omega arith) (omega arith)
    ∙ ap (λ j. take n bs ++ (cleared j (get_or bs n 0) ∷ [])) same))

mask_clears : (k b : ℕ) → k ≤ 8 → b < 256 → bit_and b (256 - 2 ^ k) ≡ cleared k b
mask_clears k b h s =
    let e : (8 - k) + k ≡ 8 = omega arith in
    let fits : b < 2 ^ ((8 - k) + k) = rw e s in
    (rw e at (and_high b (8 - k) k)) ∙ ap (λ v. v * 2 ^ k) (shr_mod (8 - k) k fits)

-- The mask as the code makes it.
pub spare_power : (w : ℕ) → (1 ≤ 2 ^ spare w) × (2 ^ spare w ≤ 128)
spare_power w = (pow_pos (spare w), pow_mono {i = spare w} {j = 7} (omega arith))

pub clean_row_lem : (w : ℕ) (row : List ℕ) (n m : ℕ) → 1 ≤ w → length row ≡ stride w → n ≡ length row - 1
    → get_or row n 0 < 256 → m ≡ 256 - 2 ^ spare w → clean_row w row ≡ take n row ++ (bit_and (get_or row n 0) m ∷ [])
clean_row_lem w row n m h e l b q =
    let same : 8 * suc n - w ≡ spare w = omega arith in
    clean_last n w row (omega arith) (omega arith) (omega arith)
    ∙ ap (λ k. take n row ++ (cleared k (get_or row n 0) ∷ [])) same
    ∙ ap (λ v. take n row ++ (v ∷ []))
    (sym (ap (bit_and (get_or row n 0)) q ∙ mask_clears (spare w) (get_or row n 0) (omega arith) b))

-- All of a row but its last byte.
pub length_front : (row : List ℕ) → length (take (length row - 1) row) ≡ length row - 1
length_front row = length-take-le (length row - 1) row (omega arith)

pub length_clean_row : (w : ℕ) (row : List ℕ) → length (clean_row w row) ≡ length row
unfolding clean_row
length_clean_row w [] = refl
length_clean_row w (b ∷ bs) = ap suc (length_clean_row (w - 8) bs)

-- One more row, from above.
pub one_more_row : (n w : ℕ) (bs : List ℕ) → clean_rows (suc n) w bs ≡ clean_rows n w bs ++ clean_row w
    (take (stride w) (drop (n * stride w) bs))
unfolding clean_rows
one_more_row zero w bs = append-nil (clean_row w (take (stride w) bs)) ∙ rw zero-mul refl
one_more_row (suc n) w bs =
    let place : stride w + n * stride w ≡ suc n * stride w = omega arith in
    ap (λ l. clean_row w (take (stride w) bs) ++ l) (one_more_row n w (drop (stride w) bs))
    ∙ sym (append_assoc (clean_row w (take (stride w) bs)) (clean_rows n w (drop (stride w) bs))
    (clean_row w (take (stride w) (drop (n * stride w) (drop (stride w) bs)))))
    ∙ ap (λ l. clean_row w (take (stride w) bs) ++ clean_rows n w (drop (stride w) bs) ++ clean_row w (take (stride w) l))
    (drop-drop (n * stride w) (stride w) bs ∙ ap (λ k. drop k bs) place)

pub length_clean_rows : (n w : ℕ) (bs : List ℕ) → length bs ≡ n * stride w → length (clean_rows n w bs) ≡ length bs
unfolding clean_rows
length_clean_rows zero w bs e = omega arith
length_clean_rows (suc n) w bs e =
    let rest : length (drop (stride w) bs) ≡ n * stride w = simp length-drop (omega arith) in
    let here : length (take (stride w) bs) ≡ stride w = length-take-le (stride w) bs (omega arith) in
    rw (length-append, length_clean_row, length_clean_rows n w (drop (stride w) bs) rest) (omega arith)

high_first_append : (xs ys : List ℕ) → high_first (xs ++ ys) ≡ high_first xs ++ high_first ys
unfolding high_first
high_first_append [] ys = refl
high_first_append (x ∷ xs) ys = ap (λ l. x / 256 ∷ (x % 256 ∷ l)) (high_first_append xs ys)

-- One more height, from the first.
pub one_more_height : (hs : List ℕ) (i : ℕ) → i < length hs → high_first (take (suc i) hs)
    ≡ high_first (take i hs) ++ (get_or hs i 0 / 256 ∷ (get_or hs i 0 % 256 ∷ []))
unfolding high_first
one_more_height hs i h = ap high_first (take-suc hs i 0 h) ∙ high_first_append (take i hs) (get_or hs i 0 ∷ [])

pub length_high_first : (hs : List ℕ) → length (high_first hs) ≡ 2 * length hs
unfolding high_first
length_high_first [] = refl
length_high_first (h ∷ hs) =
    let rest : length (high_first hs) ≡ 2 * length hs = length_high_first hs in
    omega arith

-- Row y of a picture, as the code takes it.
abbrev row_at : ℕ → ℕ → List ℕ → List ℕ
row_at y w p = take ((y * stride w + stride w) - y * stride w) (drop (y * stride w) p)

pub row_fits : (y h s : ℕ) → y < h → y * s + s ≤ h * s
row_fits y h s l = rw suc-mul at (mul-le-mul_right s l)

pub length_row : (y w : ℕ) (p : List ℕ) → y * stride w + stride w ≤ length p → length (row_at y w p) ≡ stride w
length_row y w p h = simp (length-take, length-drop) (omega arith)

pub row_next : (y w : ℕ) (p : List ℕ) (a : ℕ) {o o' : List ℕ} {b r : ℕ} → y * stride w + stride w ≤ length p
    → b ≡ a + y * stride w → Appends o b (clean_row w (row_at y w p)) o' r → r ≡ a + (y + 1) * stride w
row_next y w p a {o} {o'} {b} {r} h e d =
    let size : length (clean_row w (row_at y w p)) ≡ stride w = length_clean_row w (row_at y w p) ∙ length_row y w p h in
    let place : (y + 1) * stride w ≡ y * stride w + stride w = rw add-one (suc-mul y (stride w)) in
    omega arith

pub row_more : (y w : ℕ) (p : List ℕ) {o o' o'' : List ℕ} {a b r : ℕ} → Appends o a (clean_rows y w p) o' b
    → Appends o' b (clean_row w (row_at y w p)) o'' r → Appends o a (clean_rows (y + 1) w p) o'' r
row_more y w p d e =
    let size : (y * stride w + stride w) - y * stride w ≡ stride w = omega arith in
    renamed
    (ap (λ k. clean_rows y w p ++ clean_row w (take k (drop (y * stride w) p))) size ∙ sym (one_more_row y w p)
    ∙ ap (λ k. clean_rows k w p) (sym (add-one y)))
    (then d e)

-- A height's two bytes.
pub two_bytes : (h : ℕ) → h < 65536 → to_be_bytes w16 h ≡ h / 256 ∷ (h % 256 ∷ [])
two_bytes h l = be_bytes_2 (h / 256 ∷ (h % 256 ∷ [])) h refl small (omega arith)
  where
    small : (i : ℕ) → get_or (h / 256 ∷ (h % 256 ∷ [])) i 0 < 256
    small zero = omega arith
    small (suc zero) = omega arith
    small (suc (suc i)) = omega arith

pub height_more : (hs : List ℕ) (i low : ℕ) {o o' o'' : List ℕ} {a b r : ℕ} → i < length hs → low ≡ get_or hs i 0 % 256
    → Appends o a (high_first (take i hs)) o' b → Appends o' b (get_or hs i 0 / 256 ∷ (low ∷ [])) o'' r
    → Appends o a (high_first (take (i + 1) hs)) o'' r
height_more hs i low h l d e =
    renamed
    (ap (λ v. high_first (take i hs) ++ (get_or hs i 0 / 256 ∷ (v ∷ []))) l ∙ sym (one_more_height hs i h)
    ∙ ap (λ k. high_first (take k hs)) (sym (add-one i)))
    (then d e)
