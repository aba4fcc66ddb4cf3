-- The walk over the clauses of a tape with an entry's marks: what is left from here, given the slots written so far,
-- decides the whole.
use mathlib.Core.Path.{◌≡◌, refl, sym, ap, ap₂, ◌∙◌}
use mathlib.Core.Bool.{Bool, true, false, ◌&&◌, ◌||◌}
use mathlib.Core.List.{List, [], ◌∷◌}
use lib.IntN.{nat_abs}
use Prim.Native.Nat.{ℕ, zero, suc, ◌+◌, ◌-◌, ◌*◌, ◌<◌, ◌≤◌}
use native.Mathlib.Omega.{arith}
use native.Mathlib.Numerals.{add-one}
use lib.Dec.{T, leb}
use lib.Signed.{non_neg}
use lib.ListN.{length, get_or, drop}
use mir.Syntax.{w32}
use mir.Val.{Fits}
use borrow.Author.Tests.{eqb-true}
use Rattle.rules.specs.Tapes.{slot_limit, clause_limit, nat, is_slot, word, raw_in, raws_from, clause_fault, read_tape}
use Rattle.rules.proofs.Tests.{and_right}
use Rattle.rules.proofs.Reading.{passed, passed_tests, counts_hold, tape_accepted}
use Rattle.slotset.specs.SlotSets.{IsSet}
use Rattle.tape.specs.declared.Fields.{Fields}
use Rattle.tape.specs.Clauses.{raw_of}
use Rattle.tape.proofs.ByteClauses.{left_from, raws_first, raws_here, raws_over}
use Rattle.tape.proofs.FieldValues.{kept, small, slot_cast, slot_below, slot_nat, wider}
use Rattle.table_rules.specs.Tables.{mark_in, marks_from, marks_in, is_choice, kept_ok}
use Rattle.verdicts.specs.Kept.{marked_raw, stands, ForEntry}
use Rattle.verdicts.proofs.KeptLaws.{goes_on, kept_goes, marked_out}

-- The counts of the tape are within the limits, and it is as long as they say.
pub record Sized (s : List ℕ) (n k : ℕ) : Type 0 where
  pub slots : n ≤ slot_limit
  pub clauses : k ≤ clause_limit
  pub exact : length s ≡ 8 + 10 * k

pub sized : {s e : List ℕ} {n k : ℕ} → ForEntry s e n k → Sized s n k
sized {s} f =
    let a = tape_accepted s f.read in
    let c = counts_hold (get_or s 3 0) (word 4 s) a.counts in
    record {
      slots = omega (arith, f.slots_are, c.slots);
      clauses = omega (arith, f.count_is, c.clauses);
      exact = a.exact ∙ ap (λ x. 8 + 10 * x) (sym f.count_is);
    }

pub record KeptSo (n : ℕ) (w : List ℕ) (some : Bool) (s e : List ℕ) (k i : ℕ) (whole : Bool) : Type 0 where
  pub written : List ℕ
  pub holds : IsSet w written
  pub same : goes_on n written some (left_from s k i) (marks_from e i (k - i)) ≡ whole

pub start : (s e : List ℕ) (n k : ℕ) (w : List ℕ) → ForEntry s e n k → IsSet w []
    → KeptSo n w false s e k 0 (kept_ok (read_tape s).tape (marks_in (read_tape s).tape e))
start s e n k w f h =
    let z : k - 0 ≡ k = omega arith in
    record {
      written = [];
      holds = h;
      same = ap₂ (λ rs j. goes_on n [] false rs (marks_from e 0 j)) (sym (raws_first s k)) z
          ∙ ap₂ (λ m j. goes_on m [] false (raws_from j (drop 8 s)) (marks_from e 0 j)) f.slots_are f.count_is
          ∙ kept_goes s e f.read;
    }

marks_here : (e : List ℕ) (k i : ℕ) → i < k → marks_from e i (k - i) ≡ mark_in e i ∷ marks_from e (i + 1) (k - (i + 1))
unfolding marks_from
marks_here e k i l =
    let m : k - i ≡ suc (k - (i + 1)) = omega arith in
    ap (marks_from e i) m ∙ ap (λ j. mark_in e i ∷ marks_from e j (k - (i + 1))) (sym (add-one i))

module _ (n : ℕ) (w : List ℕ) (some : Bool) (s e : List ℕ) (k i : ℕ) (whole : Bool)
    (v : KeptSo n w some s e k i whole) where
  pub done : k ≤ i → some ≡ whole
  unfolding goes_on
  done l = ap (λ rs. goes_on n v.written some rs (marks_from e i (k - i))) (sym (raws_over s k i l)) ∙ v.same

  module _ (l : i < k) (m : ℕ) (em : m ≡ mark_in e i) where
    here : goes_on n v.written some (raw_in (drop (8 + 10 * i) s) ∷ left_from s k (i + 1))
        (m ∷ marks_from e (i + 1) (k - (i + 1))) ≡ whole
    here =
        ap₂ (goes_on n v.written some) (sym (raws_here s k i l))
        (ap (λ x. x ∷ marks_from e (i + 1) (k - (i + 1))) em ∙ sym (marks_here e k i l))
        ∙ v.same

    -- A clause that is not kept.
    pub skip : m ≤ 0 → KeptSo n w some s e k (i + 1) whole
    unfolding goes_on
    skip h =
        let z : 0 ≡ m = omega arith in
        record {
          written = v.written;
          holds = v.holds;
          same = ap (λ x. goes_on n v.written some (raw_in (drop (8 + 10 * i) s) ∷ left_from s k (i + 1))
              (x ∷ marks_from e (i + 1) (k - (i + 1)))) z ∙ here;
        }

    module _ (f : Fields) (ef : raw_of f ≡ raw_in (drop (8 + 10 * i) s)) (h : 0 < m) (b : Bool)
        (eb : (ns : List ℕ) → IsSet w ns → b ≡ stands n ns (raw_of f) m) where
      abbrev rest : List ℕ → Bool → Bool
      rest ns x = goes_on n ns x (left_from s k (i + 1)) (marks_from e (i + 1) (k - (i + 1)))

      on : (x : ℕ) → 0 < x
          → goes_on n v.written some (raw_of f ∷ left_from s k (i + 1)) (x ∷ marks_from e (i + 1) (k - (i + 1)))
          ≡ (stands n v.written (raw_of f) x && rest (nat f.out ∷ v.written) true)
      unfolding goes_on
      on zero p = absurd (omega arith)
      on (suc x) p = refl

      decides : (b && rest (nat f.out ∷ v.written) true) ≡ whole
      decides =
          ap (λ x. x && rest (nat f.out ∷ v.written) true) (eb v.written v.holds)
          ∙ sym (on m h)
          ∙ ap (λ r. goes_on n v.written some (r ∷ left_from s k (i + 1)) (m ∷ marks_from e (i + 1) (k - (i + 1)))) ef
          ∙ here

      -- One that does not stand.
      pub stop : b ≡ false → false ≡ whole
      stop x = ap (λ y. y && rest (nat f.out ∷ v.written) true) (sym x) ∙ decides

      -- One that does: its out, which is a slot, joins the slots written.
      module _ (x : b ≡ true) (ln : n ≤ slot_limit) (sm : small f.out) where
        out_slot : is_slot slot_limit f.out ≡ true
        out_slot =
            let q = marked_raw (raw_of f) m in
            let st = sym (eb v.written v.holds) ∙ x in
            let z = eqb-true (clause_fault n v.written q) 0 (and_right (leb m 1 || is_choice (nat f.opcode)) _ st) in
            let t = passed_tests n v.written q (passed n v.written q z) in
            wider n slot_limit f.out ln (ap (is_slot n) (sym (marked_out (raw_of f) m)) ∙ t.out)

        pub out_cast : T (non_neg (kept f.out)) × Fits w32 (nat_abs (kept f.out))
        out_cast = slot_cast slot_limit f.out (record { sfits = sm }) out_slot

        pub out_below : nat_abs (kept f.out) < slot_limit
        out_below = slot_below slot_limit f.out (record { sfits = sm }) out_slot

        pub next : (u : List ℕ) → ((ns : List ℕ) → IsSet w ns → IsSet u (nat_abs (kept f.out) ∷ ns))
            → KeptSo n u true s e k (i + 1) whole
        next u g =
            record {
              written = nat f.out ∷ v.written;
              holds = rw (slot_nat slot_limit f.out (record { sfits = sm }) out_slot) at (g v.written v.holds);
              same = ap (λ y. y && rest (nat f.out ∷ v.written) true) (sym x) ∙ decides;
            }
