-- The lines of packing, texts, files and reasons, in their order. Those of drawings stand in answers, those of merging in
-- merge_rules, that of a probe's point in rules.
use Rattle.std.specs.Prelude.{◌≡◌, false, ◌&&◌, not, List, [], ◌∷◌, ◌++◌, ℕ, ◌≤◌, ◌<◌, eqb, ltb, length, drop}
use Rattle.rules.specs.Values.{first_fault, when}
use Rattle.rules.specs.Tapes.{Got, read_tape, tape_bytes}
use Rattle.rules.specs.Drawings as D
use Rattle.rules.specs.Pictures.{sides_ok}
use Rattle.formula_rules.specs.FormulaReader.{Answer, done, breaks, deep, reader}
use Rattle.formula_rules.specs.FormulaTapes.{tape_of, fits_text}
use Rattle.answers.specs.Lines.{grid_lines, work_fault}

-- Line 14: "output not of the exact length", that of b.
abbrev pub out_fault : {A : Type 0} → List A → List A → ℕ
out_fault b o = when (not (eqb (length o) (length b))) 14

-- "Packing checks 4, 3, 5 to 9, 14; unpacking 1 to 9, 14": what reading refuses, then the output's length.
abbrev pub copy_fault : {A : Type 0} → Got → List A → List A → ℕ
copy_fault g b o = first_fault (g.number ∷ (out_fault b o ∷ []))

-- "file making 10, 12, 14": n is the picture's length as it must be, b the file.
abbrev pub file_fault : ℕ → ℕ → ℕ → List ℕ → List ℕ → List ℕ → ℕ
file_fault w h n p b o =
    first_fault
    (when (not (sides_ok w h)) 10
    ∷ (when (not (eqb (length p) n)) 12 ∷ (out_fault b o ∷ [])))

-- "The lent buffer has 10,248 bytes, else 14 comes first": the head and 1,024 clauses.
abbrev pub tape_room : ℕ
tape_room = 10248

abbrev pub room_fault : List ℕ → ℕ
room_fault o = when (not (eqb (length o) tape_room)) 14

-- "17 when the text breaks these rules", "18 when a bracket, a function's too, opens inside 32 others. Of 17 and 18,
-- the one met first from the left; at one byte, 17", which is what the reader answers: by the grammar and not by the
-- reader this is said in `reads_exactly`, `breaks_exactly` and `deep_exactly` of formula_rules, and of the call in
-- `text_numbers` of this crate. "19 when more than 1,024 clauses or 64 slots are needed, tested last."
abbrev pub answer_fault : Answer → ℕ
answer_fault (done t) = when (not (fits_text (tape_of t))) 19
answer_fault (breaks n) = 17
answer_fault (deep n) = 18

abbrev pub text_fault : List ℕ → List ℕ → ℕ
text_fault text o = first_fault (room_fault o ∷ (answer_fault (reader text) ∷ []))

-- The bytes of the tape that is read.
abbrev pub answer_bytes : Answer → List ℕ
answer_bytes (done t) = tape_bytes (tape_of t)
answer_bytes (breaks n) = []
answer_bytes (deep n) = []

-- "bytes after the tape stay".
abbrev pub in_front : List ℕ → List ℕ → List ℕ
in_front b o = b ++ drop (length b) o

-- "23 when the pixel lies outside the grid, between 11 and 13": i is its column, j its row, m the work buffer's length.
-- No picture is lent, so there is no 12.
abbrev pub pixel_fault : D.Grid → ℕ → ℕ → ℕ
pixel_fault g i j = when (not (ltb i g.width && ltb j g.height)) 23

abbrev pub reason_lines : List ℕ → D.Grid → ℕ → ℕ → ℕ → List ℕ
reason_lines s g i j m = grid_lines false s g ++ (pixel_fault g i j ∷ (work_fault m ∷ []))

abbrev pub reason_fault : List ℕ → D.Grid → ℕ → ℕ → ℕ → ℕ
reason_fault s g i j m = first_fault (reason_lines s g i j m)

-- What is asked of one that no line refuses: the tape and the grid are accepted, the pixel is one of the grid's, and the
-- work buffer is long enough.
pub record Explains (s : List ℕ) (g : D.Grid) (i j m : ℕ) : Type 0 where
  pub read : (read_tape s).number ≡ 0
  pub grid : D.grid_fault false g ≡ 0
  pub column : i < g.width
  pub row : j < g.height
  pub work : D.work_limit ≤ m
