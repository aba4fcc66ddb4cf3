-- A whole text: what its sum tells of the reader's answer, what its sheet tells of the tape, and what the call answers.
use mathlib.Core.Path.{◌≡◌, refl, sym, subst, ap, ap₂, ◌∙◌}
use mathlib.Core.Bool.{true, false, not}
use mathlib.Core.List.{List, ◌++◌}
use mathlib.Core.Logic.{◌≢◌}
use Prim.Native.Nat.{ℕ, zero, suc, ◌+◌, ◌*◌, ◌≤◌, ◌<◌}
use native.Mathlib.Omega.{arith}
use lib.Dec.{eqb}
use lib.ListN.{length, take, drop}
use lib.Seq.{length-take-le}
use borrow.Author.Tests.{eq-eqb, ne_eqb, le-leb, lt-leb}
use Rattle.rules.specs.Values.{pick, first_of, when}
use Rattle.rules.specs.Tapes.{Got as Read-tape, good, read_list, tape_bytes}
use Rattle.packing.specs.Packing.{bytes_of, Copies}
use Rattle.faults.specs.declared.Refusal.{Refusal}
use Rattle.faults.specs.declared.Fault.{Fault}
use Rattle.faults.specs.declared.Fault.TheVariants.{OutputLength, LongFormula}
use Rattle.faults.specs.Numbers.{number_of, fault_of}
use Rattle.answers.specs.declared.Answer.{Answer as Called}
use Rattle.answers.proofs.Ends.{unplaced}
use Rattle.promises.specs.Says.{TextAnswered}
use Rattle.faults.proofs.NumberLaws.{some_number}
use Rattle.std.proofs.Common.{Result, Ok, Err}
use Rattle.packing.proofs.Packing.{length_tape}
use Rattle.formula_rules.specs.Trees.{Tree}
use Rattle.formula_rules.specs.FormulaReader.{Answer, done, breaks, reader}
use Rattle.formula_rules.specs.FormulaCalls.{SumRead}
use Rattle.formula_rules.specs.FormulaTapes.{tape_of, fits_text, text_clauses, text_slots, Numbers}
use Rattle.formula_rules.specs.FormulaDepths.{sheet_of, blank, clauses_at, emit_all}
use Rattle.formula_rules.specs.FormulaDepths as depths
use Rattle.formula_rules.proofs.Formulas.{reads_exactly}
use Rattle.formula_rules.proofs.FormulaNumbers.{of_read}
use Rattle.formula_rules.proofs.FormulaItems.{text_read, text_left}
use Rattle.formula_rules.proofs.FormulaSheets.{TapeOn, sheet_tape}
use Rattle.formula_rules.proofs.FormulaAccepted.{sheet_read}
use Rattle.formula.specs.declared.text.Stop.{Stop}
use Rattle.formula.specs.declared.sheet.Sheet.{Sheet}
use Rattle.formula.specs.Sheets.{sheet_on, IsBlank}
use Rattle.formula.specs.Heads.{answer_of}
use Rattle.formula.specs.Parts.{Got}
use Rattle.promises.specs.Faults.{copy_fault, tape_room, room_fault, answer_fault, text_fault, answer_bytes, in_front}
use Rattle.formula.specs.Says.{TextSays}
use Rattle.formula.specs.Texts.{GotText, CanPack}

module _ (text : List ℕ) (s s' : Sheet) (m : ℕ) (g : Got (SumRead text 0 0) text 0 0 s s' m) where
  pub text_over : IsBlank s → length text ≤ m → GotText text s'
  text_over b h =
      record {
        tree = g.tree;
        answer = text_read text m g.tree g.read (omega (arith, g.within));
        before = s.list;
        room = b.room;
        sheet = subst (λ w. sheet_on s' ≡ emit_all (clauses_at 0 g.tree) w) (blank_sheet b) g.sheet;
      }
    where
      blank_sheet : IsBlank s → sheet_on s ≡ blank s.list
      blank_sheet b = ap₂ (λ c n. record { list = s.list; count = c; slots = n }) b.count b.slots

  pub text_more : m < length text → reader text ≡ breaks m
  text_more h = text_left text m g.tree g.read h

-- The numbers of a tree that is read are values.
read_numbers : (text : List ℕ) (t : Tree) → reader text ≡ done t → Numbers t
unfolding Numbers
read_numbers text t e =
    of_read Numbers (λ z v. v) (λ a. tt) (λ u s n. n) (λ b l r n m. (n, m)) text t ((reads_exactly text t).0 e)

-- The sheet of the whole text tells of the tree's tape.
module _ (text : List ℕ) (s : Sheet) (g : GotText text s) where
  on_sheet : TapeOn (sheet_on s) (tape_of g.tree)
  unfolding sheet_of
  on_sheet =
      subst (λ (w : depths.Sheet). TapeOn w (tape_of g.tree)) (sym g.sheet)
      (sheet_tape g.tree g.before (omega (arith, g.room)))

  clauses_many : text_clauses < s.count → fits_text (tape_of g.tree) ≡ false
  clauses_many h = sym on_sheet.fits ∙ rw (lt-leb s.count text_clauses h)

  slots_many : s.count ≤ text_clauses → text_slots < s.slots → fits_text (tape_of g.tree) ≡ false
  slots_many h k =
      sym on_sheet.fits ∙ rw (le-leb s.count text_clauses h, lt-leb s.slots text_slots k)

  module _ (h : s.count ≤ text_clauses) (k : s.slots ≤ text_slots) where
    fits : fits_text (tape_of g.tree) ≡ true
    fits = sym on_sheet.fits ∙ rw (le-leb s.count text_clauses h, le-leb s.slots text_slots k)

    packs_as : read_list s.slots (take (5 * s.count) s.list) ≡ good (tape_of g.tree)
    packs_as = sheet_read g.tree (sheet_on s) (read_numbers text g.tree g.answer) on_sheet h k

    pub can_pack : (o : List ℕ) → length o ≡ tape_room → CanPack s o
    can_pack o q =
        record {
          few = h;
          slots = k;
          size = q;
          accepted = ap (λ (r : Read-tape). r.number) packs_as;
          clauses = ap (λ (r : Read-tape). length r.tape.clauses) packs_as ∙ sym on_sheet.count;
        }

-- What packing writes into the part that it is lent.
module _ (s : Sheet) (o : List ℕ) (p : CanPack s o) where
  packed_length : length (bytes_of s.slots (take (5 * s.count) s.list)) ≡ 8 + 10 * s.count
  packed_length =
      length_tape (read_list s.slots (take (5 * s.count) s.list)).tape ∙ ap (λ n. 8 + 10 * n) p.clauses

  pub out_room : 8 + 10 * s.count ≤ length o
  out_room = omega (arith, p.few, p.size)

  pub packed_front : (o' : List ℕ) (r : Result ℕ Refusal)
      → Copies (read_list s.slots (take (5 * s.count) s.list)) (bytes_of s.slots (take (5 * s.count) s.list))
      (take (8 + 10 * s.count) o) o' r
      → o' ++ drop (8 + 10 * s.count) o ≡ in_front (bytes_of s.slots (take (5 * s.count) s.list)) o
  packed_front o' r d =
      let b = bytes_of s.slots (take (5 * s.count) s.list) in
      let l : length (take (8 + 10 * s.count) o) ≡ length b =
      length-take-le (8 + 10 * s.count) o out_room ∙ sym packed_length in
      let f : copy_fault (read_list s.slots (take (5 * s.count) s.list)) b (take (8 + 10 * s.count) o) ≡ 0 =
      rw (p.accepted, eq-eqb (length (take (8 + 10 * s.count) o)) (length b) l) in
      let w : o' ≡ b = d.out ∙ ap (λ n. pick (eqb n 0) b (take (8 + 10 * s.count) o)) f in
      ap₂ (λ (x : List ℕ) (n : ℕ). x ++ drop n o) w (sym packed_length)

-- The number: the buffer's length, and what the reader answers.
first_last : (n : ℕ) → first_of n 0 ≡ n
first_last zero = refl
first_last (suc n) = refl

fault_of_lem : (text o : List ℕ) (a : Answer) → length o ≡ tape_room → reader text ≡ a → text_fault text o ≡ answer_fault a
fault_of_lem text o a e q =
    let r : room_fault o ≡ 0 = rw (eq-eqb (length o) tape_room e) in
    ap₂ (λ x y. first_of x (first_of y 0)) r (ap answer_fault q) ∙ first_last (answer_fault a)

says_refused : (text o : List ℕ) (f : Fault) → text_fault text o ≡ number_of f → TextSays text o o (Err f)
says_refused text o f e =
    let b = in_front (answer_bytes (reader text)) o in
    let h = ne_eqb (text_fault text o) 0 (λ z. some_number f (sym e ∙ z)) in
    record { number = sym e; out = sym (ap (λ t. pick t b o) h) }

pub refused_length : (text o : List ℕ) → length o ≢ tape_room → TextSays text o o (Err OutputLength)
refused_length text o h =
    let r : room_fault o ≡ 14 = rw (ne_eqb (length o) tape_room h) in
    says_refused text o OutputLength (ap (λ x. first_of x (first_of (answer_fault (reader text)) 0)) r)

module _ (text o : List ℕ) (room : length o ≡ tape_room) where
  pub refused_stop : (s : Stop) (f : Fault) → reader text ≡ answer_of s → number_of f ≡ answer_fault (answer_of s)
      → TextSays text o o (Err f)
  refused_stop s f q e = says_refused text o f (fault_of_lem text o (answer_of s) room q ∙ sym e)

  large : (s : Sheet) (g : GotText text s) → fits_text (tape_of g.tree) ≡ false → TextSays text o o (Err LongFormula)
  large s g e =
      says_refused text o LongFormula
      (fault_of_lem text o (done g.tree) room g.answer ∙ ap (λ b. when (not b) 19) e)

  pub refused_clauses : (s : Sheet) → GotText text s → text_clauses < s.count → TextSays text o o (Err LongFormula)
  refused_clauses s g h = large s g (clauses_many text s g h)

  pub refused_slots : (s : Sheet) → GotText text s → s.count ≤ text_clauses → text_slots < s.slots
      → TextSays text o o (Err LongFormula)
  refused_slots s g h k = large s g (slots_many text s g h k)

  pub text_done : (s : Sheet) (g : GotText text s) → s.count ≤ text_clauses → s.slots ≤ text_slots
      → (o' : List ℕ) → o' ≡ in_front (bytes_of s.slots (take (5 * s.count) s.list)) o → TextSays text o o' (Ok tt)
  text_done s g h k o' w =
      let t = g.tree in
      let q = g.answer in
      let e = fits text s g h k in
      let b : bytes_of s.slots (take (5 * s.count) s.list) ≡ tape_bytes (tape_of t) =
      ap (λ (r : Read-tape). tape_bytes r.tape) (packs_as text s g h k) in
      let f : text_fault text o ≡ 0 = fault_of_lem text o (done t) room q ∙ ap (λ b. when (not b) 19) e in
      record {
        number = sym f;
        out = w ∙ ap (λ x. in_front x o) b ∙ ap (λ a. in_front (answer_bytes a) o) (sym q)
            ∙ sym (ap (λ k. pick (eqb k 0) (in_front (answer_bytes (reader text)) o) o) f);
      }

-- The answer of the call.
pub answered : {text o o' : List ℕ} {r : Result (Unit {0}) Fault} (a : Called) → TextSays text o o' r
    → a ≡ record { number = fault_of r; place = 0; count = 0 } → TextAnswered text o o' a
answered a f e = record { answer = unplaced e f.number; out = f.out }
