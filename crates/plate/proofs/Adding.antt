-- Adding: its lines in their order, and its ends.
use mathlib.Core.Path.{◌≡◌, sym, ap, ap₂, ◌∙◌}
use mathlib.Core.Bool.{true, false, not}
use mathlib.Core.List.{List}
use Prim.Native.Nat.{ℕ, ◌-◌, ◌<◌, ◌≤◌}
use native.Mathlib.Omega.{arith}
use lib.Dec.{ltb}
use lib.ListN.{length, replicate, length-append}
use borrow.Author.Tests.{ltb-true}
use Rattle.rules.specs.Values.{when}
use Rattle.rules.specs.Tapes.{place_of, read_tape}
use Rattle.rules.proofs.Places.{tape_placed}
use Rattle.rules.proofs.Tests.{and_left}
use Rattle.picture.specs.Shapes.{grid_in}
use Rattle.picture.specs.declared.grid.Grid.{Grid}
use Rattle.faults.specs.declared.Fault.{Fault}
use Rattle.faults.specs.declared.Refusal.{Refusal}
use Rattle.faults.specs.Numbers.{number_of}
use Rattle.faults.proofs.NumberLaws.{some_number}
use Rattle.answers.specs.Says.{refused}
use Rattle.answers.proofs.Ends.{answer}
use Rattle.plate_rules.specs.Plate.{places, place_size, plate_size, places_of, place_at, places_fault}
use Rattle.plate_rules.specs.Plate.{all_zero, afresh, redrawn, stored, padded, is_free}
use Rattle.plate_rules.specs.Plate.{changed, plate_add}
use Rattle.plate_rules.specs.Runs.{Call, add, fault_of, fault_clause, done_by}
use Rattle.plate_rules.proofs.Stored.{padded_size}
use Rattle.plate_rules.proofs.Refusals.{AddOrder, add_order, clause_of_place, clause_of_tape}
use Rattle.tape_check.specs.Checks.{Refuses}
use Rattle.plate_checks.specs.Checks.{MemoryChecked, lent_fault}
use Rattle.plate_drawing.specs.Afresh.{ForChange}
use Rattle.promises.specs.Plates.{plate, PlateSays}
use Rattle.plate.proofs.CallEnds.{call_refused, call_misplaced, call_done, MemoryLines, memory_size, places_clear}
use Rattle.plate.proofs.CallEnds.{line_on, line_passed, nowhere, for_change}

-- A tape that is accepted fits a place.
pub tape_fits : (s : List ℕ) → (read_tape s).number ≡ 0 → length s ≤ place_size
unfolding padded
tape_fits s e = omega (arith, padded_size s e, length-append s (replicate (place_size - length s) 0))

-- The place that is free is one.
pub place_free : (p : ℕ) (m : List ℕ) → 0 ≡ when (not (is_free p m)) 22 → p < places
unfolding is_free
place_free p m e =
    ltb-true p places (and_left (ltb p places) (all_zero (place_at p m)) (line_passed (is_free p m) e))

module _ (p : ℕ) (s : List ℕ) (grid : Grid) (m o w : List ℕ) where
  abbrev adding : Call
  adding = add p s (grid_in grid false) (length w)

  pub add_lines_lem : MemoryLines adding (plate m o)
  unfolding fault_of fault_clause
  add_lines_lem =
      let k = add_order p s (grid_in grid false) (plate m o) (length w) in
      record { length_line_lem = k.memory; places_line = k.places; clause = clause_of_place s (plate m o) }

  -- The same, by the line's number.
  module _ (size : length m ≡ plate_size) (clear : (places_fault (places_of m)).number ≡ 0) {f : ℕ}
      (line : f ≡ when (not (is_free p m)) 22) (z : f ≡ 0) where
    pub add_in_plate : p < places
    add_in_plate = place_free p m (sym z ∙ line)

  module _ (k : MemoryChecked m (answer 0 0 0)) where
    size : length m ≡ plate_size
    size = memory_size m k

    clear : (places_fault (places_of m)).number ≡ 0
    clear = places_clear m k

    clause_added : fault_clause adding (plate m o) ≡ (read_tape s).place
    unfolding fault_clause
    clause_added = clause_of_tape s (plate m o) clear

    lines : AddOrder p s (grid_in grid false) (plate m o) (length w)
    lines = add_order p s (grid_in grid false) (plate m o) (length w)

    pub add_at_22 : (f : Fault) → number_of f ≡ when (not (is_free p m)) 22
        → PlateSays adding m m o o w w (refused (record { fault = f; place = 0 }))
    unfolding fault_of
    add_at_22 f e =
        let l = line_on (is_free p m) f e in call_misplaced adding m o w f (lines.place size clear l.0) l.1

    module _ (line : 0 ≡ when (not (is_free p m)) 22) where
      free : is_free p m ≡ true
      free = line_passed (is_free p m) line

      pub add_at_tape : (r : Refusal) → Refuses r (read_tape s) → PlateSays adding m m o o w w (refused r)
      unfolding fault_of
      add_at_tape r h =
          call_refused adding m o w r
          (lines.tape size clear free (λ i. some_number r.fault (h.number ∙ i)) ∙ sym h.number)
          (h.place ∙ (tape_placed s).placed ∙ ap₂ place_of (sym h.number) (sym clause_added))

      module _ (read : (read_tape s).number ≡ 0) where
        fault_lent : fault_of adding (plate m o) ≡ lent_fault (grid_in grid false) (length o) (length w)
        unfolding fault_of
        fault_lent = lines.rest size clear free read

        no_clause : fault_clause adding (plate m o) ≡ 0
        no_clause = clause_added ∙ (tape_placed s).placed ∙ ap (λ n. place_of n (read_tape s).place) read

        pub add_at_lent : (f : Fault) → number_of f ≡ lent_fault (grid_in grid false) (length o) (length w)
            → PlateSays adding m m o o w w (refused (record { fault = f; place = 0 }))
        add_at_lent f e =
            call_refused adding m o w (record { fault = f; place = 0 }) (fault_lent ∙ sym e) (nowhere (number_of f) no_clause)

        module _ (lent : 0 ≡ lent_fault (grid_in grid false) (length o) (length w)) where
          pub add_asked : ForChange m p s grid o w
          add_asked = for_change grid m o w p s size clear (place_free p m line) read (sym lent)

          pub add_done : {m' o' w' : List ℕ} → m' ≡ stored p (padded s) m
              → o' ≡ redrawn (read_tape s).tape (grid_in grid false) (afresh (stored p (padded s) m) (grid_in grid false)) o
              → w' ≡ replicate (length w) 0 → PlateSays adding m m' o o' w w' (answer 0 0 0)
          unfolding done_by plate_add changed
          add_done x y v = call_done adding m o w (fault_lent ∙ sym lent) x y v
