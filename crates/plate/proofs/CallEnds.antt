-- The lines of a plate's call in their stages, what none of them refuses has, and the two ends of the call.
use mathlib.Core.Path.{◌≡◌, refl, sym, ap, ap₂, ◌∙◌}
use mathlib.Core.Bool.{Bool, true, false, ◌&&◌, not}
use mathlib.Core.List.{List, [], ◌∷◌}
use Prim.Native.Nat.{ℕ, ◌<◌, ◌≤◌}
use native.Mathlib.Omega.{arith}
use lib.Dec.{eqb, ltb, leb}
use lib.ListN.{length, replicate}
use borrow.Author.Tests.{eq-eqb, ne_eqb, eqb-true, eqb-false, ltb-false}
use Rattle.rules.specs.Values.{pick, when}
use Rattle.rules.specs.Tapes.{place_of, read_tape}
use Rattle.rules.specs.Drawings as D
use Rattle.rules.specs.Pictures.{picture_size}
use Rattle.rules.proofs.Lines.{each_line}
use Rattle.rules.proofs.Places.{tape_placed}
use Rattle.picture.specs.Shapes.{grid_in}
use Rattle.picture.specs.declared.grid.Grid.{Grid}
use Rattle.picture.proofs.PictureSizes.{flat_size_lem}
use Rattle.faults.specs.declared.Fault.{Fault}
use Rattle.faults.specs.declared.Refusal.{Refusal}
use Rattle.faults.specs.Numbers.{number_of}
use Rattle.faults.proofs.NumberLaws.{some_number}
use Rattle.answers.specs.declared.Answer.{Answer}
use Rattle.answers.specs.Says.{refused}
use Rattle.answers.proofs.Ends.{answer, no_figure}
use Rattle.plate_rules.specs.Plate.{Plate, places, plate_size, places_of, no_fault, place_fault, places_fault, bad_place}
use Rattle.plate_rules.specs.Plate.{all_zero, tape_in}
use Rattle.plate_rules.specs.Runs.{Call, fault_of, fault_clause, done_by}
use Rattle.plate_rules.proofs.PlateChanges.{line_off}
use Rattle.plate_checks.specs.Checks.{MemoryChecked, lent_fault}
use Rattle.plate_drawing.specs.Afresh.{ForChange}
use Rattle.promises.specs.Plates.{plate, PlateSays}

module _ (c : Call) (m o w : List ℕ) where
  abbrev q : Plate
  q = plate m o

  pub call_refused : (r : Refusal) → fault_of c q ≡ number_of r.fault → r.place ≡ place_of (number_of r.fault) (fault_clause c q)
      → PlateSays c m m o o w w (refused r)
  call_refused r e k =
      let f = ne_eqb (fault_of c q) 0 (λ h. some_number r.fault (sym e ∙ h)) in
      record {
        answer = record {
          number = sym e;
          place = k ∙ ap (λ i. place_of i (fault_clause c q)) (sym e);
          count = no_figure (eqb (fault_of c q) 0);
        };
        memory = rw f;
        pixels = rw f;
        work = rw f;
      }

  -- Line 22, which has no clause.
  pub call_misplaced : (f : Fault) → fault_of c q ≡ 22 → number_of f ≡ 22
      → PlateSays c m m o o w w (refused (record { fault = f; place = 0 }))
  call_misplaced f e k =
      call_refused (record { fault = f; place = 0 }) (e ∙ sym k) (ap (λ n. place_of n (fault_clause c q)) (sym k))

  pub call_done : {m' o' w' : List ℕ} → fault_of c q ≡ 0 → m' ≡ (done_by c q).memory → o' ≡ (done_by c q).picture
      → w' ≡ replicate (length w) 0 → PlateSays c m m' o o' w w' (answer 0 0 0)
  call_done e x y z =
      let f = eq-eqb (fault_of c q) 0 e in
      record {
        answer = record {
          number = sym e;
          place = ap (λ i. place_of i (fault_clause c q)) (sym e);
          count = no_figure (eqb (fault_of c q) 0);
        };
        memory = x ∙ rw f;
        pixels = y ∙ rw f;
        work = z ∙ rw f;
      }

-- A fault that has a place only with a number that has one: of a place, and of the lowest at fault.
placed : (b : List ℕ) → (place_fault b).place ≡ place_of (place_fault b).number (place_fault b).place
unfolding place_fault
placed b = go (all_zero b)
  where
    go : (t : Bool)
        → (pick t no_fault (record { number = (read_tape (tape_in b)).number; place = (read_tape (tape_in b)).place })).place
        ≡ place_of
        (pick t no_fault (record { number = (read_tape (tape_in b)).number; place = (read_tape (tape_in b)).place })).number
        (pick t no_fault (record { number = (read_tape (tape_in b)).number; place = (read_tape (tape_in b)).place })).place
    go true = refl
    go false = (tape_placed (tape_in b)).placed

all_placed : (bs : List (List ℕ)) → (places_fault bs).place ≡ place_of (places_fault bs).number (places_fault bs).place
unfolding places_fault
all_placed [] = refl
all_placed (b ∷ bs) = go (eqb (place_fault b).number 0) (all_placed bs)
  where
    go : (t : Bool) → (places_fault bs).place ≡ place_of (places_fault bs).number (places_fault bs).place
        → (pick t (places_fault bs) (place_fault b)).place
        ≡ place_of (pick t (places_fault bs) (place_fault b)).number (pick t (places_fault bs) (place_fault b)).place
    go true later = later
    go false later = placed b

-- A place of 0 is the place of any number.
pub nowhere : (n : ℕ) {p : ℕ} → p ≡ 0 → 0 ≡ place_of n p
nowhere n e = no_figure (leb 5 n && leb n 9) ∙ ap (place_of n) (sym e)

-- The lines of the memory, of either call.
pub record MemoryLines (c : Call) (q : Plate) : Type 0 where
  pub length_line_lem : (length q.memory ≡ plate_size → ⊥) → fault_of c q ≡ 14
  pub places_line : length q.memory ≡ plate_size → ((bad_place q).number ≡ 0 → ⊥) → fault_of c q ≡ (bad_place q).number
  pub clause : ((bad_place q).number ≡ 0 → ⊥) → fault_clause c q ≡ (bad_place q).place

pub memory_refused : (c : Call) (m o w : List ℕ) → MemoryLines c (plate m o) → (r : Refusal) → MemoryChecked m (refused r)
    → PlateSays c m m o o w w (refused r)
memory_refused c m o w l r k = go (eqb (length m) plate_size) refl
  where
    go : (t : Bool) → eqb (length m) plate_size ≡ t → PlateSays c m m o o w w (refused r)
    go true e =
        let h = eqb-true (length m) plate_size e in
        let b = bad_place (plate m o) in
        let n : number_of r.fault ≡ b.number = ap (λ (a : Answer). a.number) (k.right h) in
        let z : b.number ≡ 0 → ⊥ = λ i. some_number r.fault (n ∙ i) in
        call_refused c m o w r (l.places_line h z ∙ sym n)
        (ap (λ (a : Answer). a.place) (k.right h) ∙ all_placed (places_of m) ∙ ap₂ place_of (sym n) (sym (l.clause z)))
    go false e =
        let h = eqb-false (length m) plate_size e in
        let n : number_of r.fault ≡ 14 = ap (λ (a : Answer). a.number) (k.wrong h) in
        call_refused c m o w r (l.length_line_lem h ∙ sym n)
        (ap (λ (a : Answer). a.place) (k.wrong h) ∙ ap (λ i. place_of i (fault_clause c (plate m o))) (sym n))

-- A memory that is not refused.
module _ (m : List ℕ) (k : MemoryChecked m (answer 0 0 0)) where
  pub memory_size : length m ≡ plate_size
  memory_size = go (eqb (length m) plate_size) refl
    where
      go : (t : Bool) → eqb (length m) plate_size ≡ t → length m ≡ plate_size
      go true e = eqb-true (length m) plate_size e
      go false e =
          let f = ap (λ (a : Answer). a.number) (k.wrong (eqb-false (length m) plate_size e)) in
          absurd (omega (arith, f))

  pub places_clear : (places_fault (places_of m)).number ≡ 0
  places_clear = sym (ap (λ (a : Answer). a.number) (k.right memory_size))

-- No place at fault has no clause.
pub clause_clear : (m : List ℕ) → (places_fault (places_of m)).number ≡ 0 → (places_fault (places_of m)).place ≡ 0
clause_clear m e = all_placed (places_of m) ∙ ap (λ n. place_of n (places_fault (places_of m)).place) e

-- What is lent and not refused.
module _ (grid : Grid) (m o w : List ℕ) (p : ℕ) (s : List ℕ) (size : length m ≡ plate_size)
    (clear : (places_fault (places_of m)).number ≡ 0) (in_plate : p < places) (read : (read_tape s).number ≡ 0) where
  pub for_change : lent_fault (grid_in grid false) (length o) (length w) ≡ 0 → ForChange m p s grid o w
  for_change e =
      let g = grid_in grid false in
      let n = picture_size false g in
      let line = each_line
      (D.grid_fault false g
      ∷ (when (not (eqb (length o) n)) 12 ∷ (when (ltb (length w) D.work_limit) 13 ∷ []))) e in
      record {
        others = record { size = size; place = in_plate; faultless = clear };
        read = read;
        ready = record {
          fault = line 0;
          size = eqb-true (length o) n (line_off (eqb (length o) n) 11 (line 1)) ∙ sym (flat_size_lem false g refl);
        };
        room = enough (ltb (length w) D.work_limit) refl (line 2);
      }
    where
      enough : (t : Bool) → ltb (length w) D.work_limit ≡ t → when t 13 ≡ 0 → D.work_limit ≤ length w
      enough true e f = absurd (omega (arith, f))
      enough false e f = ltb-false (length w) D.work_limit e

-- Line 22, by its test: refused, and passed.
pub line_on : (t : Bool) (f : Fault) → number_of f ≡ when (not t) 22 → (t ≡ false) × (number_of f ≡ 22)
line_on true f e = absurd (some_number f e)
line_on false f e = (refl, e)

pub line_passed : (t : Bool) → 0 ≡ when (not t) 22 → t ≡ true
line_passed t e = line_off t 21 (sym e)
