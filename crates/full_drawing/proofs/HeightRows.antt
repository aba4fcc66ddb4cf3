-- A solid's heights, put in order: along a row, and row by row.
use mathlib.Core.Path.{◌≡◌, sym, ap, ◌∙◌}
use mathlib.Core.Bool.{true}
use mathlib.Core.List.{List, [], ◌∷◌, ◌++◌}
use Prim.Native.Nat.{ℕ, suc, ◌+◌, ◌-◌, ◌*◌, ◌≤◌, ◌<◌}
use native.Mathlib.Nat.{mul_comm}
use lib.ListN.{length, set}
use Rattle.rules.specs.Tapes.{Tape}
use Rattle.rules.specs.Drawings.{Grid, layers, column_from, row_from, rows_from, drawn}
use Rattle.rules.specs.Pictures.{picture}
use Rattle.code.specs.Words.{tape_in}
use Rattle.full_drawing.specs.Full.{Height, height_row, Put, FullDrawn}
use Rattle.full_drawing.proofs.Parts.{Along, next_along, next_one, row_put, picture_put, one_less, none_left}
use Rattle.full_drawing.proofs.Parts.{all_left}
use Rattle.full_drawing.proofs.Counts.{full_count_lem}

-- What is left of a row from pixel i on.
abbrev pub heights_left : List ℕ → Grid → ℕ → ℕ → ℕ → List ℕ
heights_left ws g j n i = row_from (g.width - i) i j (tape_in n ws) g

row_first : (m i j : ℕ) (t : Tape) (g : Grid) → i < m
    → row_from (m - i) i j t g ≡ column_from (layers g) t g i j ∷ row_from (m - suc i) (suc i) j t g
unfolding row_from
row_first m i j t g l = rw (one_less m i l)

row_none : (m j : ℕ) (t : Tape) (g : Grid) → row_from (m - m) m j t g ≡ []
unfolding row_from
row_none m j t g = rw (none_left m)

module _ (ws : List ℕ) (g : Grid) (j from : ℕ) (p₀ p : List ℕ) (i : ℕ)
    (a : Along ws (heights_left ws g j) 1 g.width from p₀ p i (from + i)) where
  pub next_height : (v : ℕ) → Height ws g i j v → i < g.width → from + i < length p
      → Along ws (heights_left ws g j) 1 g.width from p₀ (set p (from + i) v) (i + 1) (from + (i + 1))
  next_height v h l =
      next_one ws (heights_left ws g j) g.width from p₀ p i a v
      (λ n f. row_first g.width i j (tape_in n ws) g l ∙ ap (λ x. x ∷ heights_left ws g j n (suc i))
      (sym (h.height n f))) l

  pub heights_put : g.width ≤ i → Put ws (height_row ws g j) g.width from p₀ p
  heights_put =
      row_put ws (heights_left ws g j) g.width from p₀ p i a (height_row ws g j)
      (λ n. ap (λ x. row_from x 0 j (tape_in n ws) g) (all_left g.width)) (λ n. row_none g.width j (tape_in n ws) g)

-- What is left of a picture from row j on.
abbrev pub rows_left : List ℕ → Grid → ℕ → ℕ → List ℕ
rows_left ws g n j = rows_from (g.height - j) j (tape_in n ws) g

pub rows_first : (m j : ℕ) (t : Tape) (g : Grid) → j < m
    → rows_from (m - j) j t g ≡ row_from g.width 0 j t g ++ rows_from (m - suc j) (suc j) t g
unfolding rows_from
rows_first m j t g l = rw (one_less m j l)

rows_none : (m : ℕ) (t : Tape) (g : Grid) → rows_from (m - m) m t g ≡ []
unfolding rows_from
rows_none m t g = rw (none_left m)

pub rows_all : (t : Tape) (g : Grid) → rows_from (g.height - 0) 0 t g ≡ drawn t g
unfolding drawn
rows_all t g = ap (λ m. rows_from m 0 t g) (all_left g.height)

module _ (ws : List ℕ) (g : Grid) (p₀ p : List ℕ) (j at : ℕ)
    (a : Along ws (rows_left ws g) g.width g.height 0 p₀ p j at) where
  pub next_heights : j < g.height → (p' : List ℕ) → length p' ≡ length p → Put ws (height_row ws g j) g.width at p p'
      → (at' : ℕ) → at' ≡ at + g.width → Along ws (rows_left ws g) g.width g.height 0 p₀ p' (j + 1) at'
  next_heights l =
      next_along ws (rows_left ws g) g.width g.height 0 p₀ p j at a (height_row ws g j)
      (λ n f. rows_first g.height j (tape_in n ws) g l) l

  pub solid_drawn : (c : ℕ) → g.height ≤ j → length p₀ ≡ g.width * g.height
      → c ≡ length ws * (g.width * (g.height * layers g)) → FullDrawn true ws g p c
  unfolding picture
  solid_drawn c l k e =
      record {
        pixels = λ n f.
            picture_put ws (rows_left ws g) g.width g.height p₀ p j at a
            (λ m. rows_none g.height (tape_in m ws) g) l
            (k ∙ mul_comm g.width g.height) n f ∙ rows_all (tape_in n ws) g;
        clauses = λ n f. full_count_lem n ws g c e;
      }
