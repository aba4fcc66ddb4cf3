-- Line 22, by its tests; and the memory's length.
use mathlib.Core.Path.{◌≡◌, sym, ◌∙◌}
use mathlib.Core.Bool.{true, false, not}
use mathlib.Core.List.{List}
use Prim.Native.Nat.{ℕ, ◌<◌, ◌≤◌}
use lib.ListN.{length}
use borrow.Author.Tests.{lt-ltb, le-ltb}
use Rattle.rules.specs.Values.{when}
use Rattle.answers.specs.declared.Answer.{Answer}
use Rattle.plate_rules.specs.Plate.{places, places_of, places_fault, place_at, all_zero, is_free, is_taken}
use Rattle.plate_rules.proofs.Places.{plate_size_lem}
use Rattle.plate_places.specs.Places.{fault_answer}
use Rattle.rules.specs.Drawings as D
use Rattle.rules.proofs.Lines.{first_here, first_none}
use Rattle.faults.specs.declared.Fault.{Fault}
use Rattle.faults.specs.Numbers.{number_of}
use Rattle.faults.proofs.NumberLaws.{some_number}
use Rattle.answers.specs.Lines.{length_fault, work_fault}
use Rattle.plate_checks.specs.Checks.{MemoryChecked, lent_fault}

module _ (p : ℕ) (m : List ℕ) where
  pub free_past : places ≤ p → 22 ≡ when (not (is_free p m)) 22
  unfolding is_free
  free_past l = rw (le-ltb p places l)

  pub free_yes : p < places → true ≡ all_zero (place_at p m) → 0 ≡ when (not (is_free p m)) 22
  unfolding is_free
  free_yes l e = rw (lt-ltb p places l, sym e)

  pub free_no : p < places → false ≡ all_zero (place_at p m) → 22 ≡ when (not (is_free p m)) 22
  unfolding is_free
  free_no l e = rw (lt-ltb p places l, sym e)

  pub taken_past : places ≤ p → 22 ≡ when (not (is_taken p m)) 22
  unfolding is_taken
  taken_past l = rw (le-ltb p places l)

  pub taken_no : p < places → true ≡ all_zero (place_at p m) → 22 ≡ when (not (is_taken p m)) 22
  unfolding is_taken
  taken_no l e = rw (lt-ltb p places l, sym e)

  pub taken_yes : p < places → false ≡ all_zero (place_at p m) → 0 ≡ when (not (is_taken p m)) 22
  unfolding is_taken
  taken_yes l e = rw (lt-ltb p places l, sym e)

module _ (m : List ℕ) {r : Answer} where
  pub memory_wrong : (length m ≡ 524288 → ⊥) → r ≡ record { number = 14; place = 0; count = 0 } → MemoryChecked m r
  memory_wrong n e = record { wrong = λ _. e; right = λ h. absurd (n (h ∙ plate_size_lem)) }

  pub memory_right : length m ≡ 524288 → r ≡ fault_answer (places_fault (places_of m)) → MemoryChecked m r
  memory_right h e = record { wrong = λ n. absurd (n (h ∙ sym plate_size_lem)); right = λ _. e }

-- Lines 10 to 13, one after another.
module _ (g : D.Grid) (n k : ℕ) where
  pub grid_at_fault : (f : Fault) → number_of f ≡ D.grid_fault false g → number_of f ≡ lent_fault g n k
  grid_at_fault f e = e ∙ sym (first_here (D.grid_fault false g) _ (λ z. some_number f (e ∙ z)))

  pub length_at_fault : (f : Fault) → 0 ≡ D.grid_fault false g → number_of f ≡ length_fault false g n
      → number_of f ≡ lent_fault g n k
  length_at_fault f z e =
      e ∙ rw (sym z) (sym (first_here (length_fault false g n) _ (λ y. some_number f (e ∙ y))))

  pub work_decides : 0 ≡ D.grid_fault false g → 0 ≡ length_fault false g n → work_fault k ≡ lent_fault g n k
  work_decides z y = rw (sym z, sym y) (sym (first_none (work_fault k)))
