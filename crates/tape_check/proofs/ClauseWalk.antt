-- The walk over the clauses of a tape or a list: the fault of what is left from here, given the slots written so far,
-- is the fault of the whole.
use mathlib.Core.Path.{◌≡◌, refl, sym, ap, ap₂, ◌∙◌}
use mathlib.Core.Bool.{true, false}
use mathlib.Core.List.{List, [], ◌∷◌}
use Prim.Native.Nat.{ℕ, ◌+◌, ◌≤◌, ◌<◌}
use native.Mathlib.Omega.{arith}
use native.Mathlib.Numerals.{add-one}
use lib.Dec.{T, eqb}
use lib.IntN.{nat_abs}
use lib.ListN.{drop, length-map, drop_of_length-le}
use lib.Signed.{non_neg}
use mir.Syntax.{w32}
use mir.Val.{Fits}
use borrow.Author.Tests.{eq-eqb, ne_eqb}
use Rattle.rules.specs.Tapes as R
use Rattle.rules.specs.Tapes.{Raw, nat, slot_limit, is_slot, clause_fault, fault_from, read_clauses, clause_of}
use Rattle.rules.proofs.Reading.{passed, passed_tests, fault_here, fault_after}
use Rattle.slotset.specs.SlotSets.{IsSet}
use Rattle.tape.specs.declared.Fields.{Fields}
use Rattle.tape.specs.Clauses.{raw_of}
use Rattle.tape.proofs.FieldValues.{kept, small, slot_cast, slot_below, slot_nat, wider}
use Rattle.faults.specs.declared.Refusal.{Refusal}
use Rattle.std.specs.Prelude.{Result, Ok, Err, MatchResult, is_ok}
use Rattle.std.specs.Result.{IsErrAnd}
use Rattle.faults.specs.declared.Fault.{Fault}
use Rattle.faults.specs.Numbers.{number_of, fault_of}
use Rattle.faults.proofs.NumberLaws.{some_number}
use Rattle.tape_check.specs.declared.Counts.{Counts}
use Rattle.tape_check.specs.Checks.{Accepts, Refuses, Reads}

abbrev fault : ℕ → ℕ → R.Fault
fault x p = record { number = x; place = p }

-- Before the i-th of the clauses that a function reads: the slots written so far, and that what is left from here has
-- the fault of the whole.
pub record Walk (n k i : ℕ) (reads : ℕ → Fields → Type 0) (w : List ℕ) : Type 0 where
  pub written : List ℕ
  pub holds : IsSet w written
  pub same : (raws : List Raw) → Reads reads k raws → fault_from n i written (drop i raws) ≡ fault_from n 0 [] raws

module _ (n k : ℕ) (reads : ℕ → Fields → Type 0) where
  pub start : (w : List ℕ) → IsSet w [] → Walk n k 0 reads w
  start w e = record { written = []; holds = e; same = λ raws r. refl }

  module _ (i : ℕ) (w : List ℕ) (f : Fields) (v : Walk n k i reads w) (x : ℕ)
      (e : (ns : List ℕ) → IsSet w ns → x ≡ clause_fault n ns (raw_of f)) where
    is_fault : clause_fault n v.written (raw_of f) ≡ x
    is_fault = sym (e v.written v.holds)

    -- The clause here is at fault: so is the whole, here.
    pub found : i < k → reads i f → (x ≡ 0 → ⊥) → (r : Refusal) → number_of r.fault ≡ x → r.place ≡ i
        → (raws : List Raw) → Reads reads k raws → Refuses r (read_clauses n raws)
    unfolding read_clauses
    found l p h r a b raws m =
        let z = ne_eqb x 0 h in
        let here = fault_here n i v.written (raw_of f) (drop (i + 1) raws) (rw is_fault z) in
        let e : fault_from n 0 [] raws ≡ fault (number_of r.fault) r.place =
        sym (v.same raws m)
        ∙ ap (fault_from n i v.written) (m.each i l f p)
        ∙ here
        ∙ ap₂ fault (is_fault ∙ sym a) (sym b) in
        let y : eqb (number_of r.fault) 0 ≡ false = rw a z in
        rw (e, y) (record { number = refl; place = refl; slots = refl; clauses = refl })

    -- It is not: its out, which is a slot, joins the slots written.
    module _ (l : n ≤ slot_limit) (s : small f.out) (h : x ≡ 0) where
      out_slot : is_slot slot_limit f.out ≡ true
      out_slot =
          let tests = passed_tests n v.written (raw_of f) (passed n v.written (raw_of f) (is_fault ∙ h)) in
          wider n slot_limit f.out l tests.out

      pub out_cast : T (non_neg (kept f.out)) × Fits w32 (nat_abs (kept f.out))
      out_cast = slot_cast slot_limit f.out (record { sfits = s }) out_slot

      pub out_below : nat_abs (kept f.out) < slot_limit
      out_below = slot_below slot_limit f.out (record { sfits = s }) out_slot

      pub next : i < k → reads i f → (u : List ℕ)
          → ((ns : List ℕ) → IsSet w ns → IsSet u (nat_abs (kept f.out) ∷ ns)) → Walk n k (i + 1) reads u
      next b p u g =
          record {
            written = nat f.out ∷ v.written;
            holds = rw (slot_nat slot_limit f.out (record { sfits = s }) out_slot) at (g v.written v.holds);
            same =
                λ raws m.
                ap (λ j. fault_from n j (nat f.out ∷ v.written) (drop (i + 1) raws)) (add-one i)
                ∙ sym (fault_after n i v.written (raw_of f) (drop (i + 1) raws) (eq-eqb _ 0 (is_fault ∙ h)))
                ∙ sym (ap (fault_from n i v.written) (m.each i b f p))
                ∙ v.same raws m;
          }

  -- No clause is left.
  pub done : (i : ℕ) (w : List ℕ) (c : Counts) → k ≤ i → c.slots ≡ n → c.clauses ≡ k → Walk n k i reads w
      → (raws : List Raw) → Reads reads k raws → Accepts c (read_clauses n raws)
  unfolding read_clauses fault_from
  done i w c l a b v raws m =
      let none : drop i raws ≡ [] = drop_of_length-le raws {i = i} (omega (arith, m.size)) in
      let e : fault_from n 0 [] raws ≡ fault 0 0 =
      sym (v.same raws m) ∙ ap (fault_from n i v.written) none in
      rw e
      (record {
        number = refl;
        place = refl;
        slots = a;
        clauses = b ∙ m.size ∙ sym (length-map raws clause_of);
      })

-- A check's fault, as a refusal at a clause has it.
pub refused_at : {A : Type 0} (s : Result A Fault) (out : Result A Refusal) (r : Refusal) (post : Fault → Refusal → Type 0)
    (i : ℕ) → ((f : Fault) (d : Refusal) → post f d → d ≡ record { fault = f; place = i }) → out ≡ Err r
    → MatchResult s (λ x. out ≡ Ok x) (λ f. IsErrAnd out (post f))
    → (number_of r.fault ≡ fault_of s) × (r.place ≡ i) × (fault_of s ≡ 0 → ⊥)
refused_at (Ok x) out r post i g e m = let z : Err r ≡ Ok x = sym e ∙ m in cc
refused_at (Err f) out r post i g e m =
    let p : post f r = rw e at m in
    let d = g f r p in
    (ap (λ (d : Refusal). number_of d.fault) d, ap (λ (d : Refusal). d.place) d, some_number f)

pub passed_on : {A : Type 0} (s : Result A Fault) → true ≡ is_ok s → fault_of s ≡ 0
passed_on (Ok x) e = refl
passed_on (Err f) e = cc
