-- What bytes show: the blank picture, a row of samples marked, a rectangle raised, and at the end the packed rows.
use mathlib.Core.Path.{◌≡◌, refl, sym, ap, ap₂, ◌∙◌, subst}
use mathlib.Core.Bool.{Bool, true, false}
use mathlib.Core.List.{List, [], ◌∷◌, ◌++◌, map, append-nil, append_assoc}
use Prim.Native.Nat.{ℕ, zero, suc, ◌+◌, ◌-◌, ◌*◌, ◌/◌, ◌%◌, ◌<◌, ◌≤◌, max}
use native.Mathlib.Nat.{zero-mul, zero-add, sub_self, add-mul, mul-suc, sub-zero, suc-sub-suc, mul-le-mul_right}
use native.Mathlib.Omega.{arith}
use lib.Arith.{digits_lt}
use lib.Dec.{eqb, ltb}
use lib.ListN.{length, get_or, set, replicate, take, drop, length-set, length-replicate, length-append, length-drop}
use lib.ListN.{length-take, take-append-drop, get_or-eq_default}
use lib.Seq.{get_or-set_same, get_or-set_other, get_or-drop, get_or-take, get_or-append_seam, set-append_seam, drop-drop}
use lib.Seq.{length-take-le, ext_get_or}
use borrow.Author.Tests.{ltb-true, ltb-false, eqb-true, eqb-false}
use Rattle.rules.specs.Values.{pick, when}
use Rattle.rules.specs.Drawings.{raise_row, raise_rows}
use Rattle.rules.specs.Pictures.{stride, byte_of, row_bytes, bits_of}
use Rattle.picture.specs.Bits.{bit, pixel, row_byte, mark_row, mark_at, Within, Marked, SpareZero}
use Rattle.picture.specs.Bits.{StoredRow, Shows}
use Rattle.picture.proofs.BitBytes.{bit_zero, row_byte_bits}
use Rattle.picture.proofs.BitMarks.{marked_byte, mark_none, mark_off, mark_apart, mark_in_lem, mark_past}
use Rattle.picture.proofs.BitMarks.{mark_append, mark_place}

-- Heights after a row of samples.
abbrev raised : ℕ → List ℕ → List ℕ
raised p h = set h p (pick (ltb (get_or h p 0) 1) 1 (get_or h p 0))

at_least_one : (a : ℕ) (t : Bool) → ltb a 1 ≡ t → pick t 1 a ≡ max a 1
at_least_one a true e = omega (arith, ltb-true a 1 e)
at_least_one a false e = omega (arith, ltb-false a 1 e)

raised_at : (p q : ℕ) (h : List ℕ) → q < length h → (t : Bool) → eqb q p ≡ t
    → get_or (raised p h) q 0 ≡ max (get_or h q 0) (mark_at p (true ∷ []) q)
raised_at p q h l true e =
    let d : q ≡ p = eqb-true q p e in
    let m : mark_at p (true ∷ []) p ≡ 1 = ap (mark_at p (true ∷ [])) (omega arith) ∙ mark_in_lem p 0 (true ∷ []) in
    let k : p < length h = omega arith in
    rw (d, get_or-set_same, m) (at_least_one (get_or h p 0) (ltb (get_or h p 0) 1) refl)
raised_at p q h l false e =
    rw (get_or-set_other h p q (pick (ltb (get_or h p 0) 1) 1 (get_or h p 0)) 0 (eqb-false q p e))
    (omega (arith, mark_apart p q true (eqb-false q p e)))

marked_one : (p q : ℕ) (b : Bool) (h : List ℕ) → q < length h
    → get_or (pick b (raise_row 1 p 1 h) h) q 0 ≡ max (get_or h q 0) (mark_at p (b ∷ []) q)
unfolding raise_row
marked_one p q true h l = raised_at p q h l (eqb q p) refl
marked_one p q false h l = omega (arith, mark_off p q)

length_one : (p : ℕ) (b : Bool) (h : List ℕ) → length (pick b (raise_row 1 p 1 h) h) ≡ length h
unfolding raise_row
length_one p true h = length-set h p (pick (ltb (get_or h p 0) 1) 1 (get_or h p 0))
length_one p false h = refl

pub length_mark : (p : ℕ) (bs : List Bool) (h : List ℕ) → length (mark_row p bs h) ≡ length h
unfolding mark_row
length_mark p [] h = refl
length_mark p (b ∷ bs) h = length_mark (suc p) bs (pick b (raise_row 1 p 1 h) h) ∙ length_one p b h

pub mark_heights : (p q : ℕ) (bs : List Bool) (h : List ℕ) → q < length h
    → get_or (mark_row p bs h) q 0 ≡ max (get_or h q 0) (mark_at p bs q)
unfolding mark_row
mark_heights p q [] h l = omega (arith, mark_none p q)
mark_heights p q (b ∷ bs) h l =
    let h₁ = pick b (raise_row 1 p 1 h) h in
    let e : p + 1 ≡ suc p = omega arith in
    omega (
      arith,
      mark_heights (suc p) q bs h₁ (omega (arith, length_one p b h)),
      marked_one p q b h l,
      mark_append p q (b ∷ []) bs,
      ap (λ r. mark_at r bs q) e,
    )

-- The same of pixels and of bits, in rows of w pixels: only row a changes.
only_row : (t : Bool) (m : ℕ) → m ≡ 0 → pick t m 0 ≡ 0
only_row true m e = e
only_row false m e = refl

pixel_by : (w n a d x y : ℕ) (bs : List Bool) (h : List ℕ) → length h ≡ w * n → y < n → d + length bs ≤ w → (t : Bool)
    → ltb x w ≡ t
    → pick t (get_or (mark_row (a * w + d) bs h) (y * w + x) 0) 0
    ≡ max (pick t (get_or h (y * w + x) 0) 0) (pick (eqb y a) (mark_at d bs x) 0)
pixel_by w n a d x y bs h e l m true f =
    let k : x < w = ltb-true x w f in
    let i : y * w + x < length h = omega (arith, digits_lt {q = y} {m = n} {r = x} {c = w} l k) in
    mark_heights (a * w + d) (y * w + x) bs h i ∙ ap (max (get_or h (y * w + x) 0)) (mark_place w a d y x bs k m)
pixel_by w n a d x y bs h e l m false f =
    omega (arith, only_row (eqb y a) (mark_at d bs x) (mark_past d x bs (omega (arith, ltb-false x w f))))

mark_pixel : (w n a d x y : ℕ) (bs : List Bool) (h : List ℕ) → length h ≡ w * n → y < n → d + length bs ≤ w
    → pixel w (mark_row (a * w + d) bs h) x y ≡ max (pixel w h x y) (pick (eqb y a) (mark_at d bs x) 0)
unfolding pixel
mark_pixel w n a d x y bs h e l m = pixel_by w n a d x y bs h e l m (ltb x w) refl

mark_bit : (s a i y c k : ℕ) (bs : List Bool) → c < s → k < 8 → 8 * i + length bs ≤ 8 * s
    → mark_at (8 * (a * s + i)) bs (8 * (y * s + c) + k) ≡ pick (eqb y a) (mark_at (8 * i) bs (8 * c + k)) 0
mark_bit s a i y c k bs l o m =
    let p : 8 * (a * s + i) ≡ a * (8 * s) + 8 * i = omega arith in
    let q : 8 * (y * s + c) + k ≡ y * (8 * s) + (8 * c + k) = omega arith in
    rw (p, q) (mark_place (8 * s) a (8 * i) y (8 * c + k) bs (omega arith) m)

-- A row of samples, marked in the bytes from byte i of row a on, is marked in the heights from pixel 8 i on.
pub marked_shows : (w n a i : ℕ) (bs : List Bool) (b b' h : List ℕ) → 8 * i + length bs ≤ w
    → Marked (8 * (a * stride w + i)) bs b b' → Shows w n b h → Shows w n b' (mark_row (a * w + 8 * i) bs h)
marked_shows w n a i bs b b' h m k s =
    record {
      size = k.size ∙ s.size;
      pixels = length_mark (a * w + 8 * i) bs h ∙ s.pixels;
      bits =
          λ y c j l o q.
          let r : y * stride w + c < length b = omega
          (arith, s.size, digits_lt {q = y} {m = n} {r = c} {c = stride w} l o) in
          k.bits (y * stride w + c) j r q
          ∙ ap₂ max (s.bits y c j l o q) (mark_bit (stride w) a i y c j bs o q (omega arith))
          ∙ sym (mark_pixel w n a (8 * i) (8 * c + j) y bs h s.pixels l m);
    }

-- What is in a picture stays in its bytes: the first y of n rows, and the bits of row y up to pixel xend.
pub rows_in : (w n y : ℕ) (b : List ℕ) → length b ≡ n * stride w → y ≤ n → y * stride w ≤ length b
rows_in w n y b e l = omega (arith, mul-le-mul_right (stride w) l)

pub row_in : (w x xend yend y : ℕ) (b : List ℕ) → Within w x xend yend b → y < yend
    → 8 * (y * stride w + x / 8) + (xend - x) ≤ 8 * length b
row_in w x xend yend y b i l =
    omega (arith, i.start, i.columns, i.rows, i.some, mul-le-mul_right (stride w) l)

-- The byte of a row's samples, none of them past the row's end, has its spare bits 0.
pub row_spare : (w x v : ℕ) (bs : List Bool) → x + length bs ≤ w → v ≡ row_byte bs → SpareZero w x v
row_spare w x v bs l e =
    record {
      bits = λ k o m.
          ap (bit (7 - k)) e ∙ row_byte_bits k bs o
          ∙ ap (λ t. when t 1) (get_or-eq_default bs false (omega arith));
    }

-- One byte stored.
pub stored : (w x y v : ℕ) (b : List ℕ) → y * stride w + x / 8 < length b → SpareZero w x v
    → StoredRow w x y v b (set b (y * stride w + x / 8) v)
stored w x y v b l z =
    let at = y * stride w + x / 8 in
    record {
      size = length-set b at v;
      here = λ bs e k o. rw get_or-set_same (ap (bit (7 - k)) e ∙ row_byte_bits k bs o);
      spare = λ k o m. rw get_or-set_same (z.bits k o m);
      other = λ j n. get_or-set_other b at j v 0 n;
    }

over_none : {a b c : ℕ} → a ≡ c → b ≡ 0 → a ≡ max b c
over_none e f = omega arith

-- Where the byte was 0 this marks the row's samples.
pub stored_shows : (w n x y v : ℕ) (bs : List Bool) (b b' h : List ℕ) → x % 8 ≡ 0 → length bs ≤ 8
    → x + length bs ≤ w → v ≡ row_byte bs → get_or b (y * stride w + x / 8) 0 ≡ 0 → StoredRow w x y v b b'
    → Shows w n b h → Shows w n b' (mark_row (y * w + x) bs h)
stored_shows w n x y v bs b b' h o q r e z k s =
    let at = y * stride w + x / 8 in
    let d : x ≡ 8 * (x / 8) = omega (arith, o) in
    subst (λ u. Shows w n b' (mark_row (y * w + u) bs h)) (sym d)
    (marked_shows w n y (x / 8) bs b b' h (omega arith)
    (marked_byte b b' at bs q k.size
    (λ i l. over_none (k.here bs e i l) (ap (bit (7 - i)) z ∙ bit_zero (7 - i)))
    k.other) s)

-- Rectangles: a row raised to 1 is a row of samples that all have material, and the rows may be raised last one last.
pub raise_mark : (m p : ℕ) (h : List ℕ) → raise_row m p 1 h ≡ mark_row p (replicate m true) h
unfolding raise_row mark_row
raise_mark zero p h = refl
raise_mark (suc m) p h = raise_mark m (suc p) (raised p h)

pub raise_rows_more : (k w p m z : ℕ) (h : List ℕ)
    → raise_rows (suc k) w p m z h ≡ raise_row m (p + k * w) z (raise_rows k w p m z h)
unfolding raise_rows
raise_rows_more zero w p m z h =
    let e : p ≡ p + 0 * w = omega arith in
    ap (λ q. raise_row m q z h) e
raise_rows_more (suc k) w p m z h =
    let e : p + w + k * w ≡ p + suc k * w = omega arith in
    raise_rows_more k w (p + w) m z (raise_row m p z h)
    ∙ ap (λ q. raise_row m q z (raise_rows k w (p + w) m z (raise_row m p z h))) e

pub rect_none : (w n x y m : ℕ) (b h : List ℕ) → Shows w n b h → Shows w n b (raise_rows (y - y) w (y * w + x) m 1 h)
unfolding raise_rows
rect_none w n x y m b h s = rw sub_self s

rows_between : (w x y j i : ℕ) → x ≡ 8 * i → y ≤ j → y * w + x + (j - y) * w ≡ j * w + 8 * i
rows_between w x y j i e l =
    let c : (y + (j - y)) * w ≡ j * w = ap (λ a. a * w) (omega arith) in
    omega (arith, c, add-mul y (j - y) w)

pub rect_shows : (w n x y j m i : ℕ) (b b' h : List ℕ) → x ≡ 8 * i → x + m ≤ w → y ≤ j
    → Marked (8 * (j * stride w + i)) (replicate m true) b b' → Shows w n b (raise_rows (j - y) w (y * w + x) m 1 h)
    → Shows w n b' (raise_rows (j + 1 - y) w (y * w + x) m 1 h)
rect_shows w n x y j m i b b' h e f l k s =
    let p : y * w + x + (j - y) * w ≡ j * w + 8 * i = rows_between w x y j i e l in
    let c : j + 1 - y ≡ suc (j - y) = omega arith in
    rw (c, raise_rows_more, p, raise_mark)
    (marked_shows w n j i (replicate m true) b b' (raise_rows (j - y) w (y * w + x) m 1 h)
    (omega (arith, length-replicate m true)) k s)

-- No material.
pub zeros_at : (m i : ℕ) → ◌≡◌ {A = ℕ} (get_or (replicate m 0) i 0) 0
zeros_at zero i = refl
zeros_at (suc m) zero = refl
zeros_at (suc m) (suc i) = zeros_at m i

zero_either : (t : Bool) → ◌≡◌ {A = ℕ} 0 (pick t 0 0)
zero_either true = refl
zero_either false = refl

pub blank_shows : (w n : ℕ) → Shows w n (replicate (n * stride w) 0) (replicate (w * n) 0)
unfolding pixel
blank_shows w n =
    record {
      size = length-replicate (n * stride w) 0;
      pixels = length-replicate (w * n) 0;
      bits =
          λ y c k l o q.
          rw (zeros_at (n * stride w) (y * stride w + c), zeros_at (w * n) (y * w + (8 * c + k)), bit_zero (7 - k))
          (zero_either (ltb (8 * c + k) w));
    }

-- Samples marked in order on no material are the heights themselves.
blank_one : (xs : List ℕ) (b : Bool) (r : ℕ)
    → pick b (raise_row 1 (length xs) 1 (xs ++ replicate (suc r) 0)) (xs ++ replicate (suc r) 0)
    ≡ (xs ++ (when b 1 ∷ [])) ++ replicate r 0
unfolding raise_row
blank_one xs true r =
    rw (get_or-append_seam xs 0 (replicate r 0) 0, set-append_seam, append_assoc)
blank_one xs false r = rw append_assoc

pub mark_blank : (xs : List ℕ) (bs : List Bool) (r : ℕ) → length bs ≤ r
    → mark_row (length xs) bs (xs ++ replicate r 0) ≡ (xs ++ map (λ b. when b 1) bs) ++ replicate (r - length bs) 0
unfolding mark_row
mark_blank xs [] r l = rw (append-nil, sub-zero)
mark_blank xs (b ∷ bs) zero l = absurd (omega arith)
mark_blank xs (b ∷ bs) (suc r) l =
    let e : suc (length xs) ≡ length (xs ++ (when b 1 ∷ [])) = rw length-append (omega arith) in
    rw (blank_one, e) (mark_blank (xs ++ (when b 1 ∷ [])) bs r (omega arith)
    ∙ ap₂ (λ x n. x ++ replicate n 0) (append_assoc xs (when b 1 ∷ []) (map (λ b. when b 1) bs))
    (sym (suc-sub-suc r (length bs))))

-- Packed rows.
eight_halves : (a b c d e f g h r₀ r₁ r₂ r₃ r₄ r₅ r₆ r₇ : ℕ) → a ≡ 2 * b + r₇ → b ≡ 2 * c + r₆ → c ≡ 2 * d + r₅
    → d ≡ 2 * e + r₄ → e ≡ 2 * f + r₃ → f ≡ 2 * g + r₂ → g ≡ 2 * h + r₁ → h ≡ r₀
    → a ≡ 128 * r₀ + (64 * r₁ + (32 * r₂ + (16 * r₃ + (8 * r₄ + (4 * r₅ + (2 * r₆ + r₇))))))
eight_halves a b c d e f g h r₀ r₁ r₂ r₃ r₄ r₅ r₆ r₇ p q r s t u v w = omega arith

half : (x y r : ℕ) → x / 2 ≡ y → x % 2 ≡ r → x ≡ 2 * y + r
half x y r p q = omega arith

byte_packed : (v : ℕ) (r : List ℕ) → v < 256 → ((k : ℕ) → k < 8 → bit (7 - k) v ≡ get_or r k 0) → v ≡ byte_of r
unfolding byte_of
byte_packed v r l e =
    eight_halves v (v / 2) (v / 4) (v / 8) (v / 16) (v / 32) (v / 64) (v / 128) (get_or r 0 0) (get_or r 1 0) (get_or r 2 0)
    (get_or r 3 0) (get_or r 4 0) (get_or r 5 0) (get_or r 6 0) (get_or r 7 0)
    (half v (v / 2) (get_or r 7 0) refl (ap (λ x. x % 2) (omega arith) ∙ e 7 (omega arith)))
    (half (v / 2) (v / 4) (get_or r 6 0) (omega arith) (e 6 (omega arith)))
    (half (v / 4) (v / 8) (get_or r 5 0) (omega arith) (e 5 (omega arith)))
    (half (v / 8) (v / 16) (get_or r 4 0) (omega arith) (e 4 (omega arith)))
    (half (v / 16) (v / 32) (get_or r 3 0) (omega arith) (e 3 (omega arith)))
    (half (v / 32) (v / 64) (get_or r 2 0) (omega arith) (e 2 (omega arith)))
    (half (v / 64) (v / 128) (get_or r 1 0) (omega arith) (e 1 (omega arith)))
    (omega (arith, e 0 (omega arith)))

row_length : (n : ℕ) (r : List ℕ) → length (row_bytes n r) ≡ n
unfolding row_bytes
row_length zero r = refl
row_length (suc n) r = ap suc (row_length n (drop 8 r))

row_at : (n c : ℕ) (r : List ℕ) → c < n → get_or (row_bytes n r) c 0 ≡ byte_of (take 8 (drop (8 * c) r))
unfolding row_bytes
row_at zero c r l = absurd (omega arith)
row_at (suc n) zero r l = refl
row_at (suc n) (suc c) r l =
    let e : 8 + 8 * c ≡ 8 * suc c = omega arith in
    row_at n c (drop 8 r) (omega arith)
    ∙ ap (λ q. byte_of (take 8 q)) (drop-drop (8 * c) 8 r ∙ ap (λ q. drop q r) e)

first_row : (w x : ℕ) (h : List ℕ) (t : Bool) → ltb x w ≡ t → pick t (get_or h x 0) 0 ≡ get_or (take w h) x 0
first_row w x h true e = sym (get_or-take w h x 0 (ltb-true x w e))
first_row w x h false e =
    sym (get_or-eq_default (take w h) 0 (omega (arith, length-take w h, ltb-false x w e)))

pixel_first : (w c k : ℕ) (h : List ℕ) → k < 8 → pixel w h (8 * c + k) 0 ≡ get_or (take 8 (drop (8 * c) (take w h))) k 0
unfolding pixel
pixel_first w c k h l =
    rw (get_or-take 8 (drop (8 * c) (take w h)) k 0 l, get_or-drop, zero-mul, zero-add)
    (first_row w (8 * c + k) h (ltb (8 * c + k) w) refl)

next_row : (w x y : ℕ) (h : List ℕ) → pixel w h x (suc y) ≡ pixel w (drop w h) x y
unfolding pixel
next_row w x y h =
    let e : suc y * w + x ≡ w + (y * w + x) = omega arith in
    rw (get_or-drop, e)

module _ (w n : ℕ) (b h : List ℕ) (s : Shows w (suc n) b h) where
  row_packed : ((j : ℕ) → get_or b j 0 < 256) → take (stride w) b ≡ row_bytes (stride w) (take w h)
  row_packed e =
      let l : length (take (stride w) b) ≡ stride w = length-take-le (stride w) b (omega (arith, s.size)) in
      ext_get_or 0 (take (stride w) b) (row_bytes (stride w) (take w h)) (l ∙ sym (row_length (stride w) (take w h)))
      (λ c o.
      let p : c < stride w = omega arith in
      let q : 0 * stride w + c ≡ c = omega arith in
      get_or-take (stride w) b c 0 p
      ∙ byte_packed (get_or b c 0) (take 8 (drop (8 * c) (take w h))) (e c)
      (λ k m. ap (λ x. bit (7 - k) (get_or b x 0)) (sym q) ∙ s.bits 0 c k (omega arith) p m ∙ pixel_first w c k h m)
      ∙ sym (row_at (stride w) c (take w h) p))

  rest_shows : Shows w n (drop (stride w) b) (drop w h)
  rest_shows =
      record {
        size = rw length-drop (omega (arith, s.size));
        pixels = rw length-drop (omega (arith, s.pixels, mul-suc w n));
        bits =
            λ y c k l o q.
            let e : stride w + (y * stride w + c) ≡ suc y * stride w + c = omega arith in
            ap (bit (7 - k)) (get_or-drop (stride w) b (y * stride w + c) 0 ∙ ap (λ x. get_or b x 0) e)
            ∙ s.bits (suc y) c k (omega arith) o q ∙ next_row w (8 * c + k) y h;
      }

pub shows_packed : (w n : ℕ) (b h : List ℕ) → ((j : ℕ) → get_or b j 0 < 256) → Shows w n b h → b ≡ bits_of w n h
unfolding bits_of
shows_packed w zero [] h e s = refl
shows_packed w zero (x ∷ b) h e s = absurd (omega (arith, s.size))
shows_packed w (suc n) b h e s =
    sym (take-append-drop (stride w) b)
    ∙ ap₂ (λ x y. x ++ y) (row_packed w n b h s e)
    (shows_packed w n (drop (stride w) b) (drop w h) (λ j. rw get_or-drop (e (stride w + j))) (rest_shows w n b h s))
