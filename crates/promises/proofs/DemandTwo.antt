-- Demand 2 of the calls: what a done packing wrote, unpacking gives back, list and slot count; and the other way round.
-- The second call refuses nothing but an output of the wrong length.
use mathlib.Core.Path.{◌≡◌, sym, ap, ap₂, ◌∙◌}
use mathlib.Core.List.{List, [], ◌∷◌}
use Prim.Native.Nat.{ℕ}
use lib.IntN.{ℤ}
use borrow.Author.Tests.{eq-eqb}
use Rattle.rules.specs.Tapes.{Got, read_tape, read_list, tape_bytes, list_of}
use Rattle.rules.proofs.Lines.{first_none, each_line}
use Rattle.rules.proofs.Bytes.{both_ways}
use Rattle.rules.proofs.Reading.{list_tape}
use Rattle.promises.specs.Faults.{out_fault, copy_fault}
use Rattle.answers.specs.declared.Answer.{Answer}
use Rattle.promises.specs.declared.Listed.{Listed}
use Rattle.promises.specs.Says.{PackSays, UnpackSays}

-- A call that was done read what it was lent, and left all that it writes.
pub record Packed (n : ℕ) (zs : List ℤ) (o' : List ℕ) : Type 0 where
  pub read : (read_list n zs).number ≡ 0
  pub out : o' ≡ tape_bytes (read_list n zs).tape

packed : (n : ℕ) (zs : List ℤ) (o o' : List ℕ) (r : Answer) → PackSays n zs o o' r → r.number ≡ 0 → Packed n zs o'
packed n zs o o' r f e =
    let g = read_list n zs in
    let x = copy_fault g (tape_bytes g.tape) o in
    let z : x ≡ 0 = sym f.answer.number ∙ e in
    record {
      read = each_line (g.number ∷ (out_fault (tape_bytes g.tape) o ∷ [])) z 0;
      out = f.out ∙ rw (eq-eqb x 0 z);
    }

pub record Unpacked (s : List ℕ) (o' : List ℤ) (n : ℕ) : Type 0 where
  pub read : (read_tape s).number ≡ 0
  pub out : o' ≡ list_of (read_tape s).tape.clauses
  pub slots : n ≡ (read_tape s).tape.slots

unpacked : (s : List ℕ) (o o' : List ℤ) (r : Listed) → UnpackSays s o o' r → r.answer.number ≡ 0
    → Unpacked s o' r.slots
unpacked s o o' r f e =
    let g = read_tape s in
    let x = copy_fault g (list_of g.tape.clauses) o in
    let z : x ≡ 0 = sym f.answer.number ∙ e in
    let k = eq-eqb x 0 z in
    record {
      read = each_line (g.number ∷ (out_fault (list_of g.tape.clauses) o ∷ [])) z 0;
      out = f.out ∙ rw k;
      slots = f.slots ∙ rw k;
    }

-- List, tape, list.
pub record ListAgain (n : ℕ) (zs p p' : List ℤ) (q : Listed) : Type 0 where
  pub number : q.answer.number ≡ out_fault zs p
  pub list : q.answer.number ≡ 0 → p' ≡ zs
  pub slots : q.answer.number ≡ 0 → q.slots ≡ n

pub list_again : (n : ℕ) (zs : List ℤ) (o o' : List ℕ) (r : Answer) (p p' : List ℤ) (q : Listed)
    → PackSays n zs o o' r → r.number ≡ 0 → UnpackSays o' p p' q → ListAgain n zs p p' q
list_again n zs o o' r p p' q f e h =
    let g = read_list n zs in
    let a = packed n zs o o' r f e in
    let b = both_ways.by_list n zs (f.lent e) a.read in
    let same : read_tape o' ≡ g = ap read_tape a.out ∙ b.0 in
    record {
      number = h.answer.number
          ∙ ap (λ (x : Got). copy_fault x (list_of x.tape.clauses) p) same
          ∙ rw (a.read, b.1) (first_none (out_fault zs p));
      list = λ z. (unpacked o' p p' q h z).out ∙ ap (λ (x : Got). list_of x.tape.clauses) same ∙ b.1;
      slots = λ z. (unpacked o' p p' q h z).slots
          ∙ ap (λ (x : Got). x.tape.slots) (same ∙ list_tape n zs a.read);
    }

-- Tape, list, tape.
pub record TapeAgain (s o o' : List ℕ) (r : Answer) : Type 0 where
  pub number : r.number ≡ out_fault s o
  pub bytes : r.number ≡ 0 → o' ≡ s

pub tape_again : (s : List ℕ) (p p' : List ℤ) (q : Listed) (o o' : List ℕ) (r : Answer) → UnpackSays s p p' q
    → q.answer.number ≡ 0 → PackSays q.slots p' o o' r → TapeAgain s o o' r
tape_again s p p' q o o' r f e h =
    let a = unpacked s p p' q f e in
    let b = both_ways.by_tape s f.lent a.read in
    let same : read_list q.slots p' ≡ read_tape s = ap₂ read_list a.slots a.out ∙ b.1 in
    record {
      number = h.answer.number
          ∙ ap (λ (x : Got). copy_fault x (tape_bytes x.tape) o) same
          ∙ rw (a.read, b.0) (first_none (out_fault s o));
      bytes = λ z. (packed q.slots p' o o' r h z).out ∙ ap (λ (x : Got). tape_bytes x.tape) same ∙ b.0;
    }
