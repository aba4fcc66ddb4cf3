-- The loops over bytes and over places, and a place as a part of the memory.
use mathlib.Core.Path.{◌≡◌, refl, sym, ap, ap₂, subst, ◌∙◌}
use mathlib.Core.Bool.{Bool, true, false}
use mathlib.Core.List.{List, [], ◌∷◌, ◌++◌}
use Prim.Native.Nat.{ℕ, suc, min, ◌+◌, ◌-◌, ◌*◌, ◌<◌, ◌≤◌}
use native.Mathlib.Decide.{dec_lt}
use native.Mathlib.Omega.{arith}
use native.Mathlib.Numerals.{add-one}
use lib.Dec.{eqb}
use lib.ListN.{length, get_or, take, drop, replicate, length-drop}
use lib.Seq.{take_all, drop-drop, length-take-le}
use Rattle.std.specs.Bool.{Decides}
use Rattle.std.specs.List.{All}
use Rattle.std.proofs.lemmas.Bool.Decides.{same_from_decides, Decides-by_and, Decides-eqb}
use borrow.Author.Tests.{eqb-false}
use Rattle.rules.specs.Values.{pick}
use Rattle.rules.specs.Tapes.{word, read_tape}
use Rattle.faults.specs.declared.Refusal.{Refusal}
use Rattle.tape_check.specs.Checks.{Accepts, Refuses}
use Rattle.tape_check.specs.declared.Counts.{Counts}
use Rattle.answers.specs.Says.{refused}
use Rattle.answers.specs.declared.Answer.{Answer}
use Rattle.plate_rules.specs.Plate.{places, place_size, plate_size, places_of, all_zero, tape_in, no_fault}
use Rattle.plate_rules.specs.Plate.{place_fault, places_fault, stored, padded, zeros}
use Rattle.plate_rules.proofs.Places.{place_size_lem, places_length, place_part, drop_zeros}
use Rattle.plate_rules.proofs.Refusals.{lowest_at, faultless_more}
use Rattle.plate_places.specs.Places.{fault_answer, TapeEnd}

-- A test of every byte tells whether all are 0.
pub zero_told : (b : List ℕ) (r : Bool) → Decides r (All (λ x. x ≡ 0) b) → r ≡ all_zero b
unfolding all_zero
zero_told b r h =
    same_from_decides r (all_zero b) h (Decides-by_and (λ x. eqb x 0) (λ x. x ≡ 0) all_zero (λ x. Decides-eqb x 0) refl (λ _ _. refl) b)

-- The tape of a place.
pub tape_within : (b : List ℕ) (n : ℕ) → n ≡ 8 + 10 * word 4 b → n ≤ length b → TapeEnd b n
unfolding tape_in
tape_within b n e l = record { within = l; bytes = ap (λ i. take i b) e }

pub tape_past : (b : List ℕ) (n : ℕ) → n ≡ 8 + 10 * word 4 b → length b < n → TapeEnd b (length b)
unfolding tape_in
tape_past b n e l =
    record {
      within = omega arith;
      bytes = take_all (length b) b (omega arith) ∙ sym (take_all (8 + 10 * word 4 b) b (omega arith));
    }

pub tape_least : (b : List ℕ) (n m : ℕ) → n ≡ 8 + 10 * word 4 b → m ≡ min n (length b) → TapeEnd b m
tape_least b n m e h = elim (dec_lt (length b) n) [
  | yes l ↦ (let k : m ≡ length b = omega arith in subst (TapeEnd b) (sym k) (tape_past b n e l))
  | no l ↦ (let k : m ≡ n = omega arith in subst (TapeEnd b) (sym k) (tape_within b n e (omega arith)))
]

-- What a check of one place comes to.
pub place_empty : (b : List ℕ) → true ≡ all_zero b → fault_answer no_fault ≡ fault_answer (place_fault b)
unfolding place_fault
place_empty b e = rw (sym e)

module _ (b : List ℕ) (n : ℕ) (z : false ≡ all_zero b) (t : TapeEnd b n) where
  pub place_refused : {r : Refusal} → Refuses r (read_tape (take n b)) → refused r ≡ fault_answer (place_fault b)
  unfolding place_fault
  place_refused a =
      let f = ap read_tape t.bytes in
      ap₂ (λ u v. record { number = u; place = v; count = 0 }) (a.number ∙ ap (λ g. g.number) f)
      (a.place ∙ ap (λ g. g.place) f)
      ∙ rw (sym z)

  pub place_accepted : {c : Counts} → Accepts c (read_tape (take n b)) → fault_answer no_fault ≡ fault_answer (place_fault b)
  unfolding place_fault
  place_accepted a =
      let f = ap read_tape t.bytes in
      ap₂ (λ u v. record { number = u; place = v; count = 0 }) (sym a.number ∙ ap (λ g. g.number) f)
      (sym a.place ∙ ap (λ g. g.place) f)
      ∙ rw (sym z)

-- The places from the lowest on: those before place i are not at fault.
pub record Faultless (m : List ℕ) (i : ℕ) : Type 0 where
  pub none : (places_fault (take i (places_of m))).number ≡ 0

pub first_place_lem : (m : List ℕ) → Faultless m 0
unfolding places_fault
first_place_lem m = record { none = refl }

module _ (m : List ℕ) (i : ℕ) (l : i < places) where
  -- The bytes of place i.
  pub place_bytes : take (i * 65536 + 65536 - i * 65536) (drop (i * 65536) m) ≡ get_or (places_of m) i []
  place_bytes =
      let e : i * 65536 + 65536 - i * 65536 ≡ place_size = omega (arith, place_size_lem) in
      ap₂ (λ u v. take u (drop v m)) e (ap (λ v. i * v) (sym place_size_lem)) ∙ sym (place_part places m i l)

  in_places : i < length (places_of m)
  in_places = omega (arith, places_length places m)

  module _ (f : Faultless m i) {r : Answer} (e : r ≡ fault_answer (place_fault (get_or (places_of m) i []))) where
    pub place_at_fault : (r.number ≡ 0 → ⊥) → r ≡ fault_answer (places_fault (places_of m))
    place_at_fault n =
        e ∙ ap fault_answer (sym (lowest_at (places_of m) i in_places f.none (λ z. n (ap (λ (a : Answer). a.number) e ∙ z))))

    pub place_faultless : r.number ≡ 0 → Faultless m (i + 1)
    place_faultless z =
        let k = faultless_more (places_of m) i in_places f.none (sym (ap (λ (a : Answer). a.number) e) ∙ z) in
        record { none = ap (λ j. (places_fault (take j (places_of m))).number) (add-one i) ∙ k }

-- No place at fault has no number; and its clause is 0 too.
clause_none : (bs : List (List ℕ)) → (places_fault bs).number ≡ 0 → places_fault bs ≡ no_fault
unfolding places_fault
clause_none [] e = refl
clause_none (b ∷ bs) e = go (eqb (place_fault b).number 0) refl e (clause_none bs)
  where
    go : (t : Bool) → eqb (place_fault b).number 0 ≡ t → (pick t (places_fault bs) (place_fault b)).number ≡ 0
        → ((places_fault bs).number ≡ 0 → places_fault bs ≡ no_fault) → pick t (places_fault bs) (place_fault b) ≡ no_fault
    go true h k later = later k
    go false h k later = absurd (eqb-false (place_fault b).number 0 h k)

pub no_place_at_fault : (m : List ℕ) → Faultless m places → fault_answer no_fault ≡ fault_answer (places_fault (places_of m))
no_place_at_fault m f =
    let all = take_all places (places_of m) (omega (arith, places_length places m)) in
    ap fault_answer (sym (clause_none (places_of m) (ap (λ ps. (places_fault ps).number) (sym all) ∙ f.none)))

-- A place cleared, and the bytes copied to its front.
pub fill_padded : (s b o : List ℕ) (n : ℕ) → b ≡ replicate n 0 → n ≡ place_size → o ≡ s ++ drop (length s) b
    → o ≡ padded s
unfolding padded
fill_padded s b o n e h k =
    k ∙ ap (λ r. s ++ r) (ap (drop (length s)) (e ∙ ap (λ j. replicate j 0) h) ∙ drop_zeros (length s) place_size)

-- Bytes put into a place of the memory.
pub stored_part : (p k : ℕ) (b m : List ℕ) → k ≡ 65536
    → take (p * 65536) m ++ (b ++ drop k (drop (p * 65536) m)) ≡ stored p b m
unfolding stored
stored_part p k b m e =
    let a : p * 65536 ≡ p * place_size = ap (λ v. p * v) (sym place_size_lem) in
    let z : p * 65536 + k ≡ suc p * place_size = omega (arith, a, e, place_size_lem) in
    ap₂ (λ i r. take i m ++ (b ++ r)) a (drop-drop k (p * 65536) m ∙ ap (λ i. drop i m) z)

pub zeros_of : (b : List ℕ) (n : ℕ) → b ≡ replicate n 0 → n ≡ 65536 → b ≡ zeros
unfolding zeros
zeros_of b n e h = e ∙ ap (λ i. replicate i 0) (h ∙ sym place_size_lem)

-- A place has its size.
pub part_size : (p : ℕ) (m : List ℕ) → length m ≡ plate_size → p < places
    → length (take (p * 65536 + 65536 - p * 65536) (drop (p * 65536) m)) ≡ place_size
part_size p m e l =
    let d : length (drop (p * 65536) m) ≡ length m - p * 65536 = length-drop (p * 65536) m in
    length-take-le (p * 65536 + 65536 - p * 65536) (drop (p * 65536) m) (omega (arith, d, e, place_size_lem))
    ∙ omega (arith, place_size_lem)
