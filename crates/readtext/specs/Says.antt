-- What the program answers to a text: the bytes of its tape, or the line of its refusal, and no other byte; then its
-- last word, the length of that.
use Rattle.std.specs.Prelude.{◌≡◌, Bool, List, [], ◌∷◌, ◌++◌, ℕ, eqb, ltb, true, false, length}
use Rattle.std.specs.Borrow.{MutBor}
use Rattle.rules.specs.Values.{pick}
use Rattle.program_rules.specs.Program.{count_line, refused_line}
use Rattle.formula_rules.specs.FormulaReader.{reader}
use Rattle.promises.specs.Faults.{answer_fault, answer_bytes, in_front}
use Rattle.readtext.specs.declared.answer.Lengths.{Lengths}
use Rattle.readtext.specs.declared.input.Input.{Input}
use Rattle.readtext.specs.declared.input.Input.TheVariants.{Whole, Part}

-- The program's own buffer has the length that is asked for, so that 14 never comes.
abbrev pub answered : List ℕ → List ℕ
answered text =
    let f = answer_fault (reader text) in pick (eqb f 0) (answer_bytes (reader text)) (refused_line f 0)

-- More than the longest input of drawlayer, so that ./draw can try beginnings of any text with an ending of its own.
abbrev pub text_limit : ℕ
text_limit = 65535

-- 'text above 65,535 bytes' and a newline.
abbrev pub long_line : List ℕ
long_line =
    (116 ∷ (101 ∷ (120 ∷ (116 ∷ (32 ∷ (97 ∷ (98 ∷ (111 ∷ (118 ∷ (101 ∷ (32 ∷ []))))))))))) ++
    ((54 ∷ (53 ∷ (44 ∷ (53 ∷ (51 ∷ (53 ∷ (32 ∷ []))))))) ++ (98 ∷ (121 ∷ (116 ∷ (101 ∷ (115 ∷ (10 ∷ [])))))))

-- What was read, and whether that is the whole input.
abbrev pub bytes_in : Input → List ℕ
bytes_in (Whole text) = text.now
bytes_in (Part text) = text.now

abbrev pub is_whole : Input → Bool
is_whole (Whole text) = true
is_whole (Part text) = false

-- What was read begins where the room begins that was lent for it. While it borrows from the room, no clause can name
-- what the room holds: so this says where the bytes stand.
abbrev pub BeginsAt : Input → MutBor (List ℕ) → Type 0
BeginsAt (Whole text) room = text.ref_ptr ≡ room.ref_ptr
BeginsAt (Part text) room = text.ref_ptr ≡ room.ref_ptr

abbrev pub IfWhole : Input → Type 0 → Type 0
IfWhole (Whole text) P = P
IfWhole (Part text) P = Unit {0}

-- What goes to descriptor 1, of the bytes that were read and whether the input ended behind them. The beginning of a text
-- can be a formula: nothing is said of it.
abbrev pub first_of : List ℕ → Bool → List ℕ
first_of text whole = pick (ltb text_limit (length text)) long_line (pick whole (answered text) [])

-- What goes to descriptor 2 behind it.
abbrev pub second_of : List ℕ → List ℕ
second_of s = pick (eqb (length s) 0) [] (count_line (length s))

-- The bytes s in front of those that were there, and their length.
pub record Said (s o o' : List ℕ) (r : ℕ) : Type 0 where
  pub size : r ≡ length s
  pub out : o' ≡ in_front s o

pub record Spoken (text : List ℕ) (whole : Bool) (o o' l l' : List ℕ) (r : Lengths) : Type 0 where
  pub first : Said (first_of text whole) o o' r.first
  pub second : Said (second_of (first_of text whole)) l l' r.second
