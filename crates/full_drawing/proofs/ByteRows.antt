-- A flat picture's bytes, put in order: along a row, and row by row.
use mathlib.Core.Path.{◌≡◌, refl, sym, ap, ◌∙◌}
use mathlib.Core.Bool.{false}
use mathlib.Core.List.{List, [], ◌∷◌, ◌++◌}
use Prim.Native.Nat.{ℕ, zero, suc, ◌+◌, ◌-◌, ◌*◌, ◌≤◌, ◌<◌}
use native.Mathlib.Nat.{add-zero, sub-zero, suc-sub-suc, zero-sub}
use native.Mathlib.Omega.{arith}
use lib.ListN.{length, set, take, drop}
use lib.Seq.{take_at, drop_at}
use Rattle.rules.specs.Tapes.{Tape}
use Rattle.rules.specs.Drawings.{Grid, layers, row_from, rows_from, drawn}
use Rattle.rules.specs.Pictures.{stride, byte_of, row_bytes, bits_of, picture}
use Rattle.code.specs.Words.{tape_in}
use Rattle.full_drawing.specs.Full.{Byte, byte_row, Put, FullDrawn}
use Rattle.full_drawing.proofs.Parts.{Along, next_along, next_one, row_put, picture_put, one_less, none_left}
use Rattle.full_drawing.proofs.Parts.{all_left}
use Rattle.full_drawing.proofs.HeightRows.{rows_first, rows_all}
use Rattle.full_drawing.proofs.Counts.{full_count_lem}

-- What is left of a row's pixels behind the first m.
drop_row : (m n i j : ℕ) (t : Tape) (g : Grid) → drop m (row_from n i j t g) ≡ row_from (n - m) (i + m) j t g
unfolding row_from
drop_row zero n i j t g = rw (sub-zero n, add-zero i)
drop_row (suc m) zero i j t g = rw (zero-sub (suc m))
drop_row (suc m) (suc n) i j t g =
    let e : i + suc m ≡ suc i + m = omega arith in
    rw (suc-sub-suc n m, e) (drop_row m n (suc i) j t g)

length_row : (m i j : ℕ) (t : Tape) (g : Grid) → length (row_from m i j t g) ≡ m
unfolding row_from
length_row zero i j t g = refl
length_row (suc m) i j t g = ap suc (length_row m (suc i) j t g)

-- What is left of a row from byte c on.
abbrev pub bytes_left : List ℕ → Grid → ℕ → ℕ → ℕ → List ℕ
bytes_left ws g j n c = row_bytes (stride g.width - c) (row_from (g.width - 8 * c) (8 * c) j (tape_in n ws) g)

bytes_first : (m w c j : ℕ) (t : Tape) (g : Grid) → c < m
    → row_bytes (m - c) (row_from (w - 8 * c) (8 * c) j t g)
    ≡ byte_of (take 8 (row_from (w - 8 * c) (8 * c) j t g))
    ∷ row_bytes (m - suc c) (row_from (w - 8 * suc c) (8 * suc c) j t g)
unfolding row_bytes
bytes_first m w c j t g l =
    let h = row_from (w - 8 * c) (8 * c) j t g in
    let d : w - 8 * c - 8 ≡ w - 8 * suc c = omega arith in
    let e : 8 * c + 8 ≡ 8 * suc c = omega arith in
    ap (λ k. row_bytes k h) (one_less m c l)
    ∙ ap (λ r. byte_of (take 8 h) ∷ row_bytes (m - suc c) r)
    (drop_row 8 (w - 8 * c) (8 * c) j t g ∙ ap (λ x. row_from x (8 * c + 8) j t g) d
    ∙ ap (λ x. row_from (w - 8 * suc c) x j t g) e)

bytes_none : (m : ℕ) (h : List ℕ) → row_bytes (m - m) h ≡ []
unfolding row_bytes
bytes_none m h = rw (none_left m)

bytes_all : (m w j : ℕ) (t : Tape) (g : Grid)
    → row_bytes (m - 0) (row_from (w - 8 * 0) (8 * 0) j t g) ≡ row_bytes m (row_from w 0 j t g)
bytes_all m w j t g =
    ap (λ k. row_bytes k (row_from (w - 8 * 0) (8 * 0) j t g)) (all_left m) ∙ ap (λ k. row_bytes m (row_from k 0 j t g))
    (all_left w)

module _ (ws : List ℕ) (g : Grid) (j from : ℕ) (p₀ p : List ℕ) (c : ℕ)
    (a : Along ws (bytes_left ws g j) 1 (stride g.width) from p₀ p c (from + c)) where
  pub next_byte : (v : ℕ) → Byte ws g (8 * c) j v → c < stride g.width → from + c < length p
      → Along ws (bytes_left ws g j) 1 (stride g.width) from p₀ (set p (from + c) v) (c + 1) (from + (c + 1))
  next_byte v h l =
      next_one ws (bytes_left ws g j) (stride g.width) from p₀ p c a v
      (λ n f. bytes_first (stride g.width) g.width c j (tape_in n ws) g l
      ∙ ap (λ x. x ∷ bytes_left ws g j n (suc c)) (sym (h.byte n f))) l

  pub bytes_put : stride g.width ≤ c → Put ws (byte_row ws g j) (stride g.width) from p₀ p
  bytes_put =
      row_put ws (bytes_left ws g j) (stride g.width) from p₀ p c a (byte_row ws g j)
      (λ n. bytes_all (stride g.width) g.width j (tape_in n ws) g) (λ n. bytes_none (stride g.width) _)

-- What is left of a picture from row j on.
abbrev pub packed_left : List ℕ → Grid → ℕ → ℕ → List ℕ
packed_left ws g n j = bits_of g.width (g.height - j) (rows_from (g.height - j) j (tape_in n ws) g)

packed_first : (m j : ℕ) (t : Tape) (g : Grid) → j < m
    → bits_of g.width (m - j) (rows_from (m - j) j t g)
    ≡ row_bytes (stride g.width) (row_from g.width 0 j t g)
    ++ bits_of g.width (m - suc j) (rows_from (m - suc j) (suc j) t g)
unfolding bits_of
packed_first m j t g l =
    let w = g.width in
    let row = row_from w 0 j t g in
    let rest = rows_from (m - suc j) (suc j) t g in
    let k : length row ≡ w = length_row w 0 j t g in
    ap (bits_of w (m - j)) (rows_first m j t g l) ∙ ap (λ x. bits_of w x (row ++ rest)) (one_less m j l)
    ∙ ap (λ x. row_bytes (stride w) x ++ bits_of w (m - suc j) (drop w (row ++ rest))) (take_at row rest w k)
    ∙ ap (λ x. row_bytes (stride w) row ++ bits_of w (m - suc j) x) (drop_at row rest w k)

packed_none : (w m : ℕ) (h : List ℕ) → bits_of w (m - m) h ≡ []
unfolding bits_of
packed_none w m h = rw (none_left m)

packed_all : (t : Tape) (g : Grid)
    → bits_of g.width (g.height - 0) (rows_from (g.height - 0) 0 t g) ≡ bits_of g.width g.height (drawn t g)
packed_all t g =
    ap (λ x. bits_of g.width x (rows_from (g.height - 0) 0 t g)) (all_left g.height)
    ∙ ap (bits_of g.width g.height) (rows_all t g)

module _ (ws : List ℕ) (g : Grid) (p₀ p : List ℕ) (j at : ℕ)
    (a : Along ws (packed_left ws g) (stride g.width) g.height 0 p₀ p j at) where
  pub next_bytes : j < g.height → (p' : List ℕ) → length p' ≡ length p
      → Put ws (byte_row ws g j) (stride g.width) at p p'
      → (at' : ℕ) → at' ≡ at + stride g.width
      → Along ws (packed_left ws g) (stride g.width) g.height 0 p₀ p' (j + 1) at'
  next_bytes l =
      next_along ws (packed_left ws g) (stride g.width) g.height 0 p₀ p j at a (byte_row ws g j)
      (λ n f. packed_first g.height j (tape_in n ws) g l) l

  pub flat_drawn : (c : ℕ) → g.height ≤ j → length p₀ ≡ g.height * stride g.width
      → c ≡ length ws * (g.width * (g.height * layers g)) → FullDrawn false ws g p c
  unfolding picture
  flat_drawn c l k e =
      record {
        pixels = λ n f.
            picture_put ws (packed_left ws g) (stride g.width) g.height p₀ p j at a
            (λ m. packed_none g.width g.height _) l k n f
            ∙ packed_all (tape_in n ws) g;
        clauses = λ n f. full_count_lem n ws g c e;
      }
