-- What the program promises: every figure that it returns and every byte that it leaves, for all inputs.
use Rattle.std.specs.Prelude.{◌≡◌, Bool, List, [], ◌∷◌, ◌++◌, ℕ, ◌≤◌, eqb, length, drop, Result, Ok, Err}
use Rattle.rules.specs.Values.{pick, first_fault}
use Rattle.rules.specs.Tapes.{Got, read_tape}
use Rattle.rules.specs.Drawings as D
use Rattle.rules.specs.Pictures.{picture_size}
use Rattle.program_rules.specs.Program.{tape_after, grid_record, program_fault, file_of, Output, program_of}
use Rattle.picture.specs.Shapes.{grid_in}
use Rattle.picture.specs.declared.grid.Grid.{Grid}
use Rattle.answers.specs.declared.Answer.{Answer}
use Rattle.answers.specs.Says.{Answered, refused}
use Rattle.faults.specs.declared.Refusal.{Refusal}
use Rattle.program.specs.declared.Drawn.{Drawn}
use Rattle.program.specs.declared.Said.{Said}

-- Room for the longest file: a solid of 128 by 128 pixels, 17 bytes of head and two a pixel. A flat one has at most 11
-- and 32,768.
abbrev pub output_length : ℕ
output_length = 32785

-- A picture's length, where its grid is not refused, and at most n.
pub record PictureFits (isSolid : Bool) (d : Grid) (n r : ℕ) : Type 0 where
  pub size : D.grid_fault isSolid (grid_in d isSolid) ≡ 0 → r ≡ picture_size isSolid (grid_in d isSolid)
  pub most : r ≤ n

-- A buffer with a list written at its start; what is behind it stays.
abbrev pub starting_with : List ℕ → List ℕ → List ℕ
starting_with f o = f ++ drop (length f) o

-- The file of a drawing with the number n: none where it is refused.
abbrev pub file_if : ℕ → Got → D.Grid → List ℕ
file_if n t g = pick (eqb n 0) (file_of g (D.walked t.tape g).heights) []

-- What a drawing comes to, as a call's answer, and the length of its file.
abbrev pub told : Result Drawn Refusal → Answer
told (Ok d) = record { number = 0; place = 0; count = d.count }
told (Err e) = refused e

abbrev pub length_of : Result Drawn Refusal → ℕ
length_of (Ok d) = d.length
length_of (Err e) = 0

-- The drawing of the tape t on the grid g, refused with the number n or, where that is 0, done.
pub record LayerSays (n : ℕ) (t : Got) (g : D.Grid) (o o' : List ℕ) (r : Result Drawn Refusal) : Type 0 where
  pub answer : Answered n t.place (D.walked t.tape g).clauses (told r)
  pub size : length_of r ≡ length (file_if n t g)
  pub out : o' ≡ starting_with (file_if n t g) o

-- Flat or solid, without 15 and 16: "Drawing checks 1 to 4, then 5 to 9 clause by clause, then 10 to 13". The program's
-- buffers are as long as 12 and 13 ask for, so these never come.
abbrev pub layer_fault : Bool → List ℕ → D.Grid → ℕ
layer_fault isSolid s g = first_fault ((read_tape s).number ∷ (D.grid_fault isSolid g ∷ []))

abbrev pub FileSays : Bool → List ℕ → Grid → List ℕ → List ℕ → Result Drawn Refusal → Type 0
FileSays isSolid s d o o' r =
    let g = grid_in d isSolid in LayerSays (layer_fault isSolid s g) (read_tape s) g o o' r

-- The program, before it says a refusal or a count.
abbrev pub InputSays : List ℕ → List ℕ → List ℕ → Result Drawn Refusal → Type 0
InputSays s o o' r = LayerSays (program_fault s) (read_tape (tape_after s)) (grid_record s) o o' r

-- The output x: the figures returned, what goes to descriptor 1 from o' and what goes to descriptor 2 from l'.
pub record OutputSays (x : Output) (o o' l l' : List ℕ) (r : Said) : Type 0 where
  pub number : r.answer.number ≡ x.number
  pub place : r.answer.place ≡ x.place
  pub count : r.answer.count ≡ x.count
  pub first_length : r.length ≡ length x.first
  pub second_length : r.line ≡ length x.second
  pub first : o' ≡ starting_with x.first o
  pub second : l' ≡ starting_with x.second l

abbrev pub ProgramSays : List ℕ → List ℕ → List ℕ → List ℕ → List ℕ → Said → Type 0
ProgramSays s o o' l l' r = OutputSays (program_of s) o o' l l' r
