-- What packing and unpacking answer: what reading refuses with its place, the wrong length, and what is written.
use mathlib.Core.Path.{◌≡◌, sym, ap, ◌∙◌}
use mathlib.Core.Bool.{false}
use mathlib.Core.List.{List}
use Prim.Native.Nat.{ℕ, ◌≤◌}
use lib.Dec.{eqb}
use lib.IntN.{ℤ}
use lib.ListN.{length, get_or}
use borrow.Author.Tests.{eq-eqb, ne_eqb}
use Rattle.rules.specs.Tapes.{Got, place_of, slot_limit, raws_of, read_list, word, read_tape}
use Rattle.rules.proofs.Reading.{counts_hold, list_accepted, list_tape, tape_accepted, tape_tape}
use Rattle.rules.proofs.Lines.{first_here}
use Rattle.rules.proofs.Places.{Placed}
use Rattle.promises.specs.Faults.{copy_fault}
use Rattle.std.specs.Prelude.{Ok, Err}
use Rattle.faults.specs.declared.Fault.TheVariants.{OutputLength}
use Rattle.faults.specs.declared.Refusal.{Refusal}
use Rattle.faults.specs.Numbers.{number_of}
use Rattle.faults.proofs.NumberLaws.{some_number}
use Rattle.tape_check.specs.Checks.{Refuses}
use Rattle.packing.specs.Packing.{Copies}

-- The slot count of what was read.
pub list_slots : (n : ℕ) (zs : List ℤ) → (read_list n zs).number ≡ 0 → (read_list n zs).tape.slots ≤ slot_limit
list_slots n zs e = rw (list_tape n zs e) (counts_hold n (length (raws_of zs)) (list_accepted n zs e).counts).slots

pub tape_slots : (s : List ℕ) → (read_tape s).number ≡ 0 → (read_tape s).tape.slots ≤ slot_limit
tape_slots s e = rw (tape_tape s e) (counts_hold (get_or s 3 0) (word 4 s) (tape_accepted s e).counts).slots

-- The answer in its three cases.
module _ {A : Type 0} (g : Got) (b o : List A) where
  pub read_refuses : Placed g → (r : Refusal) → Refuses r g → Copies g b o o (Err r)
  read_refuses l r v =
      let x = number_of r.fault in
      let h = some_number r.fault in
      let e = v.number in
      let f : copy_fault g b o ≡ x = first_here g.number _ (λ z. h (e ∙ z)) ∙ sym e in
      let n : eqb x 0 ≡ false = ne_eqb x 0 h in
      record {
        number = sym f;
        place = v.place ∙ l.placed ∙ ap (λ k. place_of k g.place) (sym e ∙ sym f);
        slots = rw (f, n);
        out = rw (f, n);
      }

  module _ (e : g.number ≡ 0) where
    pub length_refuses : (length o ≡ length b → ⊥) → Copies g b o o (Err (record { fault = OutputLength; place = 0 }))
    length_refuses h =
        let f : copy_fault g b o ≡ 14 = rw (e, ne_eqb (length o) (length b) h) in
        record { number = sym f; place = rw f; slots = rw f; out = rw f }

    pub copied : length o ≡ length b → (o' : List A) → o' ≡ b → (n : ℕ) → n ≡ g.tape.slots
        → Copies g b o o' (Ok n)
    copied h o' w n s =
        let f : copy_fault g b o ≡ 0 = rw (e, eq-eqb (length o) (length b) h) in
        record { number = sym f; place = rw f; slots = rw f s; out = rw f w }
