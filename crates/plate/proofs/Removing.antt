-- Removing: its lines in their order, and its ends.
use mathlib.Core.Path.{◌≡◌, refl, sym, ap, ◌∙◌}
use mathlib.Core.Bool.{true, false, not}
use mathlib.Core.List.{List}
use Prim.Native.Nat.{ℕ, ◌+◌, ◌-◌, ◌*◌, ◌<◌}
use native.Mathlib.Omega.{arith}
use lib.Dec.{ltb}
use lib.ListN.{length, take, drop, replicate}
use borrow.Author.Tests.{ltb-true, not-true}
use Rattle.rules.specs.Values.{when}
use Rattle.rules.specs.Tapes.{read_tape}
use Rattle.rules.proofs.Tests.{and_left, and_right}
use Rattle.picture.specs.Shapes.{grid_in}
use Rattle.picture.specs.declared.grid.Grid.{Grid}
use Rattle.faults.specs.declared.Fault.{Fault}
use Rattle.faults.specs.Numbers.{number_of}
use Rattle.answers.specs.Says.{refused}
use Rattle.answers.proofs.Ends.{answer}
use Rattle.plate_rules.specs.Plate.{places, plate_size, places_of, place_at, places_fault}
use Rattle.plate_rules.specs.Plate.{all_zero, tape_in, part_in, afresh, redrawn, stored, zeros, is_taken}
use Rattle.plate_rules.specs.Plate.{changed, plate_remove, remove_clause}
use Rattle.plate_rules.specs.Runs.{Call, remove, fault_of, fault_clause, done_by}
use Rattle.plate_rules.proofs.Parts.{place_faultless, taken_accepted}
use Rattle.plate_rules.proofs.Places.{places_length}
use Rattle.plate_rules.proofs.Refusals.{RemoveOrder, remove_order}
use Rattle.plate_places.specs.Places.{TapeEnd}
use Rattle.plate_places.proofs.PlaceLaws.{place_bytes}
use Rattle.plate_checks.specs.Checks.{MemoryChecked, lent_fault}
use Rattle.plate_drawing.specs.Afresh.{ForChange}
use Rattle.promises.specs.Plates.{plate, PlateSays}
use Rattle.plate.proofs.CallEnds.{call_refused, call_misplaced, call_done, MemoryLines, memory_size, places_clear}
use Rattle.plate.proofs.CallEnds.{line_on, line_passed, nowhere, clause_clear, for_change}

-- The tape of a place, as the code lends it.
pub tape_there : (p : ℕ) (m : List ℕ) {n : ℕ} → p < places
    → TapeEnd (take (p * 65536 + 65536 - p * 65536) (drop (p * 65536) m)) n
    → take n (take (p * 65536 + 65536 - p * 65536) (drop (p * 65536) m)) ≡ tape_in (place_at p m)
tape_there p m l t = t.bytes ∙ ap tape_in (place_bytes m p l)

-- The place that is taken is one.
pub place_taken : (p : ℕ) (m : List ℕ) → 0 ≡ when (not (is_taken p m)) 22 → p < places
unfolding is_taken
place_taken p m e =
    ltb-true p places (and_left (ltb p places) (not (all_zero (place_at p m))) (line_passed (is_taken p m) e))

module _ (p : ℕ) (grid : Grid) (m o w : List ℕ) where
  abbrev removing : Call
  removing = remove p (grid_in grid false) (length w)

  pub remove_lines_lem : MemoryLines removing (plate m o)
  unfolding fault_of fault_clause remove_clause
  remove_lines_lem =
      let k = remove_order p (grid_in grid false) (plate m o) (length w) in
      record { length_line_lem = k.memory; places_line = k.places; clause = λ n. refl }

  -- The same, by the line's number.
  module _ (size : length m ≡ plate_size) (clear : (places_fault (places_of m)).number ≡ 0) {f : ℕ}
      (line : f ≡ when (not (is_taken p m)) 22) (z : f ≡ 0) where
    pub remove_in_plate : p < places
    remove_in_plate = place_taken p m (sym z ∙ line)

  module _ (k : MemoryChecked m (answer 0 0 0)) where
    size : length m ≡ plate_size
    size = memory_size m k

    clear : (places_fault (places_of m)).number ≡ 0
    clear = places_clear m k

    lines : RemoveOrder p (grid_in grid false) (plate m o) (length w)
    lines = remove_order p (grid_in grid false) (plate m o) (length w)

    pub remove_at_22 : (f : Fault) → number_of f ≡ when (not (is_taken p m)) 22
        → PlateSays removing m m o o w w (refused (record { fault = f; place = 0 }))
    unfolding fault_of
    remove_at_22 f e =
        let l = line_on (is_taken p m) f e in call_misplaced removing m o w f (lines.place size clear l.0) l.1

    module _ (line : 0 ≡ when (not (is_taken p m)) 22) where
      taken : is_taken p m ≡ true
      taken = line_passed (is_taken p m) line

      held : all_zero (place_at p m) ≡ false
      unfolding is_taken
      held =
          not-true (all_zero (place_at p m)) (and_right (ltb p places) (not (all_zero (place_at p m))) taken)

      -- The part that goes is an accepted tape.
      read : (read_tape (tape_in (place_at p m))).number ≡ 0
      read =
          taken_accepted (place_at p m)
          (place_faultless (places_of m) clear p (omega (arith, places_length places m, place_taken p m line))) held

      fault_lent : fault_of removing (plate m o) ≡ lent_fault (grid_in grid false) (length o) (length w)
      unfolding fault_of
      fault_lent = lines.rest size clear taken

      no_clause : fault_clause removing (plate m o) ≡ 0
      unfolding fault_clause remove_clause
      no_clause = clause_clear m clear

      pub remove_at_lent : (f : Fault) → number_of f ≡ lent_fault (grid_in grid false) (length o) (length w)
          → PlateSays removing m m o o w w (refused (record { fault = f; place = 0 }))
      remove_at_lent f e =
          call_refused removing m o w (record { fault = f; place = 0 }) (fault_lent ∙ sym e) (nowhere (number_of f) no_clause)

      module _ (lent : 0 ≡ lent_fault (grid_in grid false) (length o) (length w)) where
        pub remove_asked : ForChange m p (tape_in (place_at p m)) grid o w
        remove_asked =
            for_change grid m o w p (tape_in (place_at p m)) size clear (place_taken p m line) read (sym lent)

        pub remove_done : {m' o' w' : List ℕ} → m' ≡ stored p zeros m
            → o' ≡ redrawn (part_in (place_at p m)) (grid_in grid false) (afresh (stored p zeros m) (grid_in grid false)) o
            → w' ≡ replicate (length w) 0 → PlateSays removing m m' o o' w w' (answer 0 0 0)
        unfolding done_by plate_remove changed
        remove_done x y v = call_done removing m o w (fault_lent ∙ sym lent) x y v
