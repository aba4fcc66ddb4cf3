-- Texts of formulas, of what the call returns: a text that is done is an allowed one, and its tape has the value that the
-- formula means, at every sample; and each number comes back exactly where document 02 says so.
use mathlib.Core.Path.{◌≡◌, refl, sym, ap, subst, ◌∙◌}
use mathlib.Core.Bool.{Bool, true, false, not}
use mathlib.Core.List.{List, [], ◌∷◌}
use mathlib.Core.Logic.{◌↔◌, ◌⊎◌, inl, inr}
use Prim.Native.Nat.{ℕ, zero, suc, ◌≤◌, ◌<◌}
use native.Mathlib.Omega.{arith}
use lib.Dec.{eqb}
use lib.ListN.{length, take, drop}
use lib.Seq.{take-append_seam, drop-append_seam}
use borrow.Author.Tests.{eq-eqb, ne_eqb}
use Rattle.rules.specs.Values.{first_of, when, Sample}
use Rattle.rules.specs.Tapes.{value_at, good, read_tape, tape_bytes}
use Rattle.rules.proofs.Lines.{each_line, first_none}
use Rattle.formula_rules.specs.Trees.{Tree, meaning}
use Rattle.formula_rules.specs.Formulas.{Text, bytes_of, tree_of, ReadsAs, BreaksAt, DeepAt}
use Rattle.formula_rules.specs.FormulaReader.{done, breaks, deep, reader}
use Rattle.formula_rules.specs.FormulaReader as R
use Rattle.formula_rules.specs.FormulaTapes.{tape_of, fits_text, Numbers}
use Rattle.formula_rules.proofs.Formulas.{reads_exactly, breaks_exactly, deep_exactly, one_tree_lem}
use Rattle.formula_rules.proofs.FormulaNumbers.{of_read}
use Rattle.formula_rules.proofs.FormulaValues.{tape_meaning}
use Rattle.formula_rules.proofs.FormulaAccepted.{tree_read}
use Rattle.answers.specs.declared.Answer.{Answer}
use Rattle.promises.specs.Faults.{tape_room, room_fault, answer_fault, text_fault, answer_bytes, in_front}
use Rattle.promises.specs.Says.{TextAnswered}

-- Every number fits a byte.
when_most : (b : Bool) (n : ℕ) → when b n ≤ n
when_most true n = omega arith
when_most false n = omega arith

first_most : (a b n : ℕ) → a ≤ n → b ≤ n → first_of a b ≤ n
first_most zero b n h k = k
first_most (suc a) b n h k = h

answer_most : (a : R.Answer) → answer_fault a ≤ 19
answer_most (done t) = when_most (not (fits_text (tape_of t))) 19
answer_most (breaks m) = omega arith
answer_most (deep m) = omega arith

fault_most : (text o : List ℕ) → text_fault text o ≤ 19
fault_most text o =
    let a = answer_fault (reader text) in
    let h = when_most (not (eqb (length o) tape_room)) 14 in
    first_most (room_fault o) (first_of a 0) 19 (omega arith)
    (first_most a 0 19 (answer_most (reader text)) (omega arith))

pub text_byte : (text o : List ℕ) → text_fault text o < 256
text_byte text o = omega (arith, fault_most text o)

-- The numbers of a text's tree are values.
numbers_read : (s : List ℕ) (t : Tree) → ReadsAs s t → Numbers t
unfolding Numbers
numbers_read s t r = of_read Numbers (λ z v. v) (λ a. tt) (λ u x h. h) (λ b x y h k. (h, k)) s t r

-- A text that is done: it is an allowed text of a tree, of no other, and the tape of that tree stands in front of the
-- bytes that were there, and those after it stay; its value at every sample is what the tree means.
pub record TextRead (text o o' : List ℕ) : Type 0 where
  pub tree : Tree
  pub reads : ReadsAs text tree
  pub only : (x : Text) → bytes_of x ≡ text → tree_of x ≡ tree
  pub fits : fits_text (tape_of tree) ≡ true
  pub out : o' ≡ in_front (tape_bytes (tape_of tree)) o
  pub rest : let n = length (tape_bytes (tape_of tree)) in drop n o' ≡ drop n o
  pub tape : read_tape (take (length (tape_bytes (tape_of tree))) o') ≡ good (tape_of tree)
  pub value : (s : Sample)
      → value_at (read_tape (take (length (tape_bytes (tape_of tree))) o')).tape s ≡ meaning tree s

read_of : (text o o' : List ℕ) (t : Tree) → ReadsAs text t → fits_text (tape_of t) ≡ true
    → o' ≡ in_front (tape_bytes (tape_of t)) o → TextRead text o o'
read_of text o o' t r f e =
    let b = tape_bytes (tape_of t) in
    let front : take (length b) o' ≡ b = ap (take (length b)) e ∙ take-append_seam b (drop (length b) o) in
    let same : read_tape (take (length b) o') ≡ good (tape_of t) =
    ap read_tape front ∙ tree_read t (numbers_read text t r) f in
    record {
      tree = t;
      reads = r;
      only = λ x w. one_tree_lem x r.text (w ∙ sym r.writes) ∙ r.tree;
      fits = f;
      out = e;
      rest = ap (drop (length b)) e ∙ drop-append_seam b (drop (length b) o);
      tape = same;
      value = λ s. ap (λ g. value_at g.tape s) same ∙ tape_meaning t s;
    }

fits_when : (b : Bool) → when (not b) 19 ≡ 0 → b ≡ true
fits_when true e = refl
fits_when false e = absurd (omega arith)

pub text_read : (text o o' : List ℕ) (r : Answer) → TextAnswered text o o' r → r.number ≡ 0 → TextRead text o o'
text_read text o o' r f e = go (reader text) refl
  where
    z : text_fault text o ≡ 0
    z = sym f.answer.number ∙ e

    line : answer_fault (reader text) ≡ 0
    line = each_line (room_fault o ∷ (answer_fault (reader text) ∷ [])) z 1

    out : o' ≡ in_front (answer_bytes (reader text)) o
    out = f.out ∙ rw (eq-eqb (text_fault text o) 0 z)

    go : (a : R.Answer) → reader text ≡ a → TextRead text o o'
    go (done t) h =
        read_of text o o' t ((reads_exactly text t).0 h) (fits_when (fits_text (tape_of t)) (ap answer_fault (sym h) ∙ line))
        (out ∙ ap (λ a. in_front (answer_bytes a) o) h)
    go (breaks m) h = absurd (omega (arith, sym (ap answer_fault h) ∙ line))
    go (deep m) h = absurd (omega (arith, sym (ap answer_fault h) ∙ line))

-- Which number comes back from a buffer of the right length: one of four, each exactly where document 02 says so: 17
-- met at some byte or at the end, 18 at some bracket, 19 of an allowed text; and no allowed text within the limits is
-- refused.
abbrev pub OfText : ℕ → Type 0
OfText n = (n ≡ 0) ⊎ ((n ≡ 17) ⊎ ((n ≡ 18) ⊎ (n ≡ 19)))

pub record TextNumbers (text : List ℕ) (n : ℕ) : Type 0 where
  pub one : OfText n
  pub broken : (n ≡ 17) ↔ ((m : ℕ) × BreaksAt text m)
  pub deeper : (n ≡ 18) ↔ ((m : ℕ) × DeepAt text m)
  pub large : (n ≡ 19) ↔ ((t : Tree) × ReadsAs text t × (fits_text (tape_of t) ≡ false))
  pub read : (n ≡ 0) ↔ ((t : Tree) × ReadsAs text t × (fits_text (tape_of t) ≡ true))

large_when : (b : Bool) → when (not b) 19 ≡ 19 → b ≡ false
large_when true e = absurd (omega arith)
large_when false e = refl

no_other : (b : Bool) (n : ℕ) → when (not b) 19 ≡ n → (n ≡ 0 → ⊥) → (n ≡ 19 → ⊥) → ⊥
no_other true n e h k = h (sym e)
no_other false n e h k = k (sym e)

of_when : (b : Bool) → OfText (when (not b) 19)
of_when true = inl refl
of_when false = inr (inr (inr refl))

of_answer : (a : R.Answer) → OfText (answer_fault a)
of_answer (done t) = of_when (fits_text (tape_of t))
of_answer (breaks m) = inr (inl refl)
of_answer (deep m) = inr (inr (inl refl))

module _ (text : List ℕ) where
  met_broken : (a : R.Answer) → reader text ≡ a → answer_fault a ≡ 17 → (m : ℕ) × BreaksAt text m
  met_broken (done t) h e = absurd (no_other (fits_text (tape_of t)) 17 e (λ z. omega arith) (λ z. omega arith))
  met_broken (breaks m) h e = (m, (breaks_exactly text m).0 h)
  met_broken (deep m) h e = absurd (omega arith)

  met_deep : (a : R.Answer) → reader text ≡ a → answer_fault a ≡ 18 → (m : ℕ) × DeepAt text m
  met_deep (done t) h e = absurd (no_other (fits_text (tape_of t)) 18 e (λ z. omega arith) (λ z. omega arith))
  met_deep (breaks m) h e = absurd (omega arith)
  met_deep (deep m) h e = (m, (deep_exactly text m).0 h)

  met_large : (a : R.Answer) → reader text ≡ a → answer_fault a ≡ 19
      → (t : Tree) × ReadsAs text t × (fits_text (tape_of t) ≡ false)
  met_large (done t) h e = (t, (reads_exactly text t).0 h, large_when (fits_text (tape_of t)) e)
  met_large (breaks m) h e = absurd (omega arith)
  met_large (deep m) h e = absurd (omega arith)

  met_none : (a : R.Answer) → reader text ≡ a → answer_fault a ≡ 0
      → (t : Tree) × ReadsAs text t × (fits_text (tape_of t) ≡ true)
  met_none (done t) h e = (t, (reads_exactly text t).0 h, fits_when (fits_text (tape_of t)) e)
  met_none (breaks m) h e = absurd (omega arith)
  met_none (deep m) h e = absurd (omega arith)

  of_tree : (t : Tree) (b : Bool) → ReadsAs text t → fits_text (tape_of t) ≡ b
      → answer_fault (reader text) ≡ when (not b) 19
  of_tree t b r f = ap answer_fault ((reads_exactly text t).1 r) ∙ ap (λ c. when (not c) 19) f

  pub numbers : (n : ℕ) → n ≡ answer_fault (reader text) → TextNumbers text n
  numbers n e =
      record {
        one = subst OfText (sym e) (of_answer (reader text));
        broken = (
          λ z. met_broken (reader text) refl (sym e ∙ z),
          λ (m, b). e ∙ ap answer_fault ((breaks_exactly text m).1 b),
        );
        deeper = (λ z. met_deep (reader text) refl (sym e ∙ z), λ (m, d). e ∙ ap answer_fault ((deep_exactly text m).1 d));
        large = (λ z. met_large (reader text) refl (sym e ∙ z), λ (t, r, f). e ∙ of_tree t false r f);
        read = (λ z. met_none (reader text) refl (sym e ∙ z), λ (t, r, f). e ∙ of_tree t true r f);
      }

-- A buffer of the right length leaves the text's own number.
pub room_kept : (text o : List ℕ) → length o ≡ tape_room → text_fault text o ≡ answer_fault (reader text)
room_kept text o h = rw (eq-eqb (length o) tape_room h) (first_none (answer_fault (reader text)))

pub text_numbers : (text o o' : List ℕ) (r : Answer) → TextAnswered text o o' r → length o ≡ tape_room
    → TextNumbers text r.number
text_numbers text o o' r f h =
    numbers text r.number (f.answer.number ∙ room_kept text o h)

-- 14 is not of the text: it comes back exactly from a buffer of another length.
not_room : (n : ℕ) → OfText n → n ≡ 14 → ⊥
not_room n (inl e) z = omega arith
not_room n (inr (inl e)) z = omega arith
not_room n (inr (inr (inl e))) z = omega arith
not_room n (inr (inr (inr e))) z = omega arith

pub text_room : (text o o' : List ℕ) (r : Answer) → TextAnswered text o o' r
    → (r.number ≡ 14) ↔ (length o ≡ tape_room → ⊥)
text_room text o o' r f = (
  λ z h. not_room r.number (text_numbers text o o' r f h).one z,
  λ h. f.answer.number ∙ rw (ne_eqb (length o) tape_room h),
)
