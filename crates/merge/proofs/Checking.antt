-- The call's lines, as the code finds them, and its two ends.
use mathlib.Core.Path.{◌≡◌, refl, sym, ap, ap₂, ◌∙◌}
use mathlib.Core.Bool.{◌&&◌}
use mathlib.Core.List.{List, [], ◌∷◌}
use Prim.Native.Nat.{ℕ, zero, suc, ◌+◌, ◌*◌, ◌≤◌, ◌<◌}
use native.Mathlib.Omega.{arith}
use lib.Dec.{leb}
use lib.ListN.{length}
use borrow.Author.Tests.{eq-eqb, ne_eqb, le-leb, lt-leb}
use Rattle.rules.specs.Values.{first_fault}
use Rattle.rules.specs.Tapes.{slot_limit, clause_limit, place_of, read_tape}
use Rattle.rules.proofs.Lines.{first_here, first_none}
use Rattle.rules.proofs.Places.{tape_placed}
use Rattle.faults.specs.declared.Fault.{Fault}
use Rattle.faults.specs.declared.Refusal.{Refusal}
use Rattle.faults.specs.Numbers.{number_of}
use Rattle.faults.proofs.NumberLaws.{some_number}
use Rattle.tape_check.specs.Checks.{Accepts, Refuses}
use Rattle.tape_check.specs.declared.Counts.{Counts}
use Rattle.answers.specs.Says.{refused}
use Rattle.answers.proofs.Ends.{answer, no_figure, uncounted, as_it_came, overwritten, done_by_lem}
use Rattle.merge_rules.specs.Merging.{fits_merged, merged_bytes, merge_lines, merge_fault, fault_clause}
use Rattle.merge_rules.proofs.MergedTapes.{merged_length}
use Rattle.merge_rules.proofs.MergeCalls.{merge_order, first_clause, second_clause, merge_clear}
use Rattle.merge.specs.Copies.{Writable}
use Rattle.promises.specs.Says.{MergeSays}
use Rattle.merge.specs.Lines.{limit_line, length_line}

-- Lines 21 and 14.
module _ (k l n m : ℕ) where
  pub clauses_over : clause_limit < k + l + 1 → 21 ≡ limit_line k l n m
  unfolding fits_merged
  clauses_over h = rw (lt-leb (k + l + 1) clause_limit h)

  pub slots_over : k + l + 1 ≤ clause_limit → slot_limit < n + m → 21 ≡ limit_line k l n m
  unfolding fits_merged
  slots_over h i = rw (le-leb (k + l + 1) clause_limit h, lt-leb (n + m) slot_limit i)

  pub within : k + l + 1 ≤ clause_limit → n + m ≤ slot_limit → 0 ≡ limit_line k l n m
  unfolding fits_merged
  within h i = rw (le-leb (k + l + 1) clause_limit h, le-leb (n + m) slot_limit i)

module _ (k l a : ℕ) where
  pub length_wrong : (a ≡ 8 + 10 * (k + l + 1) → ⊥) → 14 ≡ length_line k l a
  length_wrong h = rw (ne_eqb a (8 + 10 * (k + l + 1)) h)

  pub length_right : a ≡ 8 + 10 * (k + l + 1) → 0 ≡ length_line k l a
  length_right h = rw (eq-eqb a (8 + 10 * (k + l + 1)) h)

-- A clause at fault comes with 5 to 9 alone.
pub clause_placed : (s v : List ℕ) (n : ℕ) → fault_clause s v ≡ place_of (merge_fault s v n) (fault_clause s v)
clause_placed s v n = go (read_tape s).number (read_tape v).number refl refl
  where
    go : (a b : ℕ) → (read_tape s).number ≡ a → (read_tape v).number ≡ b
        → fault_clause s v ≡ place_of (merge_fault s v n) (fault_clause s v)
    go (suc a) b e f =
        let h : (read_tape s).number ≡ 0 → ⊥ = λ z. omega (arith, e, z) in
        let k = first_clause s v h in
        k ∙ (tape_placed s).placed ∙ ap₂ (λ m p. place_of m p) (sym ((merge_order s v n).first h)) (sym k)
    go zero (suc b) e f =
        let h : (read_tape v).number ≡ 0 → ⊥ = λ z. omega (arith, f, z) in
        let k = second_clause s v e in
        k ∙ (tape_placed v).placed ∙ ap₂ (λ m p. place_of m p) (sym ((merge_order s v n).second e h)) (sym k)
    go zero zero e f =
        let z : fault_clause s v ≡ 0 = second_clause s v e ∙ (tape_placed v).placed
        ∙ ap (λ m. place_of m (read_tape v).place) f in
        let m = merge_fault s v n in
        z ∙ no_figure (leb 5 m && leb m 9) ∙ ap (place_of m) (sym z)

-- Refused, and done.
module _ (s v o : List ℕ) where
  refuses_by : (r : Refusal) → merge_fault s v (length o) ≡ number_of r.fault → fault_clause s v ≡ r.place
      → MergeSays s v o o (refused r)
  refuses_by r k q =
      record {
        answer = uncounted refl (sym k) (sym q ∙ clause_placed s v (length o));
        out = as_it_came (merge_lines s v (length o)) (merged_bytes s v) o (λ z. some_number r.fault (sym k ∙ z));
      }

  pub first_refuses : (r : Refusal) → Refuses r (read_tape s) → MergeSays s v o o (refused r)
  first_refuses r e =
      let k : (read_tape s).number ≡ 0 → ⊥ = λ z. some_number r.fault (e.number ∙ z) in
      refuses_by r ((merge_order s v (length o)).first k ∙ sym e.number) (first_clause s v k ∙ sym e.place)

  pub second_refuses : (read_tape s).number ≡ 0 → (r : Refusal) → Refuses r (read_tape v) → MergeSays s v o o (refused r)
  second_refuses a r e =
      let k : (read_tape v).number ≡ 0 → ⊥ = λ z. some_number r.fault (e.number ∙ z) in
      refuses_by r ((merge_order s v (length o)).second a k ∙ sym e.number) (second_clause s v a ∙ sym e.place)

  module _ (c d : Counts) (one : Accepts c (read_tape s)) (two : Accepts d (read_tape v)) where
    -- The lines that are left, by the counts of two accepted tapes.
    pub lines_found : first_fault
        (limit_line c.clauses d.clauses c.slots d.slots ∷ (length_line c.clauses d.clauses (length o) ∷ []))
        ≡ merge_fault s v (length o)
    lines_found =
        rw (
          one.number,
          two.number,
          one.clauses,
          two.clauses,
          one.slots,
          two.slots,
          merged_length (read_tape s).tape (read_tape v).tape,
        )

    no_clause : fault_clause s v ≡ 0
    no_clause = second_clause s v one.number ∙ two.place

    pub limits_refuse : (f : Fault) → number_of f ≡ limit_line c.clauses d.clauses c.slots d.slots
        → MergeSays s v o o (refused (record { fault = f; place = 0 }))
    limits_refuse f e =
        let k : limit_line c.clauses d.clauses c.slots d.slots ≡ 0 → ⊥ = λ z. some_number f (e ∙ z) in
        refuses_by (record { fault = f; place = 0 }) (sym lines_found ∙ first_here _ _ k ∙ sym e) no_clause

    module _ (l : 0 ≡ limit_line c.clauses d.clauses c.slots d.slots) where
      pub length_refuses : (f : Fault) → number_of f ≡ length_line c.clauses d.clauses (length o)
          → MergeSays s v o o (refused (record { fault = f; place = 0 }))
      length_refuses f e =
          refuses_by (record { fault = f; place = 0 })
          (sym lines_found ∙ rw (sym l) (first_none (length_line c.clauses d.clauses (length o))) ∙ sym e) no_clause

      module _ (m : 0 ≡ length_line c.clauses d.clauses (length o)) where
        none : merge_fault s v (length o) ≡ 0
        none = sym lines_found ∙ rw (sym l, sym m) refl

        pub merge_does : {o' : List ℕ} → o' ≡ merged_bytes s v → MergeSays s v o o' (answer 0 0 0)
        merge_does w =
            record {
              answer = done_by_lem (merge_lines s v (length o)) refl none refl;
              out = overwritten (merge_lines s v (length o)) o none w;
            }

        pub writable : Writable s c v d o
        writable =
            let k = merge_clear s v (length o) none in
            record {
              first = k.first;
              second = k.second;
              one = one;
              two = two;
              limit = k.limit;
              size = k.room;
            }
