-- The tape of a text that is done, as long as its head says, or the line of the refusal; and the last word.
use mathlib.Core.Path.{◌≡◌, refl, sym, ap, ap₂, subst, ◌∙◌}
use mathlib.Core.Bool.{Bool, true, false, ◌&&◌}
use mathlib.Core.List.{List, [], ◌++◌}
use Prim.Native.Nat.{ℕ, ◌+◌, ◌*◌, ◌≤◌}
use native.Mathlib.Nat.{zero-add}
use native.Mathlib.Omega.{arith}
use lib.Dec.{eqb, leb}
use lib.ListN.{length, drop, length-append}
use borrow.Author.Tests.{eq-eqb, ne_eqb, leb-true}
use Rattle.rules.specs.Values.{pick}
use Rattle.rules.specs.Tapes.{Tape, word, tape_bytes}
use Rattle.program_rules.specs.Program.{count_line, refused_line}
use Rattle.rules.proofs.Tests.{and_left}
use Rattle.netpbm.specs.Appending.{Appends}
use Rattle.netpbm.proofs.Written.{at_start}
use Rattle.packing.proofs.Packing.{length_tape}
use Rattle.formula_rules.specs.FormulaReader.{reader}
use Rattle.formula_rules.specs.FormulaReader as R
use Rattle.formula_rules.specs.FormulaTapes.{tape_of, fits_text, text_clauses, text_slots}
use Rattle.formula_rules.proofs.Formulas.{reads_exactly}
use Rattle.promises.specs.Faults.{tape_room, text_fault, answer_fault, answer_bytes, in_front}
use Rattle.answers.specs.declared.Answer.{Answer}
use Rattle.promises.specs.Says.{TextAnswered}
use Rattle.promises.proofs.Texts.{text_read, room_kept}
use Rattle.readtext.specs.Says.{answered, second_of, Said}

-- The head's count of clauses, before whatever bytes.
head_count : (t : Tape) (b : List ℕ) → length t.clauses ≤ 1024 → word 4 (tape_bytes t ++ b) ≡ length t.clauses
unfolding tape_bytes
head_count t b h = omega arith

few_clauses : (t : Tape) → fits_text t ≡ true → length t.clauses ≤ text_clauses
unfolding fits_text
few_clauses t e =
    leb-true (length t.clauses) text_clauses
    (and_left (leb (length t.clauses) text_clauses) (leb t.slots text_slots) e)

abbrev spoken : R.Answer → List ℕ
spoken x = pick (eqb (answer_fault x) 0) (answer_bytes x) (refused_line (answer_fault x) 0)

no_place : (t : Bool) → ◌≡◌ {A = ℕ} (pick t 0 0) 0
no_place true = refl
no_place false = refl

module _ (text o m : List ℕ) (a : Answer) (f : TextAnswered text o m a) (room : length o ≡ tape_room) where
  number_is : a.number ≡ answer_fault (reader text)
  number_is = f.answer.number ∙ room_kept text o room

  pub said_done : a.number ≡ 0 → (w : ℕ) → w ≡ word 4 m → Said (answered text) o m (8 + 10 * w)
  said_done e w q =
      let t = text_read text o m a f e in
      let tape = tape_of t.tree in
      let b = tape_bytes tape in
      let same : answered text ≡ b = ap spoken ((reads_exactly text t.tree).1 t.reads) ∙ rw t.fits refl in
      let count : w ≡ length tape.clauses =
      q ∙ ap (word 4) t.out ∙ head_count tape (drop (length b) o) (few_clauses tape t.fits) in
      record {
        size = ap (λ k. 8 + 10 * k) count ∙ sym (length_tape tape) ∙ ap length (sym same);
        out = t.out ∙ ap (λ l. in_front l o) (sym same);
      }

  pub said_refused : {o' : List ℕ} {r : ℕ} → (a.number ≡ 0 → ⊥)
      → Appends m 0 (refused_line a.number a.place) o' r → Said (answered text) o o' r
  said_refused {o'} {r} h p =
      let n = answer_fault (reader text) in
      let z = ne_eqb n 0 (λ y. h (number_is ∙ y)) in
      let kept : m ≡ o = f.out ∙ rw (ne_eqb (text_fault text o) 0 (λ y. h (f.answer.number ∙ y))) refl in
      let place : a.place ≡ 0 = f.answer.place ∙ no_place (leb 5 (text_fault text o) && leb (text_fault text o) 9) in
      let line : refused_line a.number a.place ≡ answered text =
      ap₂ refused_line number_is place ∙ rw z refl in
      record {
        size = p.next ∙ zero-add (length (refused_line a.number a.place)) ∙ ap length line;
        out = at_start p ∙ ap₂ in_front line kept;
      }

-- What is written lies within the buffer.
pub said_within : {s o o' : List ℕ} {r : ℕ} → Said s o o' r → r ≤ length o'
said_within {s} {o} f = omega (arith, f.size, ap length f.out ∙ length-append s (drop (length s) o))

-- The same bytes by another name.
said_as : {s t o o' : List ℕ} {r : ℕ} → s ≡ t → Said s o o' r → Said t o o' r
said_as {o = o} {o'} {r} e f = subst (λ x. Said x o o' r) e f

said_nothing : (o : List ℕ) → Said [] o o 0
said_nothing o = record { size = refl; out = refl }

pub said_appended : {s o o' : List ℕ} {r : ℕ} → Appends o 0 s o' r → Said s o o' r
said_appended {s} p = record { size = p.next ∙ zero-add (length s); out = at_start p }

-- The last word: nothing behind nothing, else the length.
pub second_none : {s o o' l : List ℕ} {r : ℕ} → Said s o o' r → r ≡ 0 → Said (second_of s) l l 0
second_none {s} {l = l} f e = said_as (sym (rw (eq-eqb (length s) 0 (sym f.size ∙ e)) refl)) (said_nothing l)

pub second_length : {s o o' l l' : List ℕ} {r k : ℕ} → Said s o o' r → (r ≡ 0 → ⊥) → Appends l 0 (count_line r) l' k
    → Said (second_of s) l l' k
second_length {s} f e p =
    said_as (ap count_line f.size ∙ sym (rw (ne_eqb (length s) 0 (λ z. e (f.size ∙ z))) refl)) (said_appended p)
