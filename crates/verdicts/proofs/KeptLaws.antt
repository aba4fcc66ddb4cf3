-- A kept tape, clause by clause: what the code finds of the tape's bytes and the marks is what the rules say of it as a
-- list.
use mathlib.Core.Path.{◌≡◌, refl, sym, ap, ap₂, ◌∙◌}
use mathlib.Core.Bool.{Bool, true, false, ◌&&◌, ◌||◌, not}
use mathlib.Core.List.{List, [], ◌∷◌, map}
use lib.IntN.{ℤ, pos, negsuc}
use Prim.Native.Nat.{ℕ, zero, suc, ◌-◌, ◌<◌, ◌≤◌}
use native.Mathlib.Omega.{arith}
use lib.Dec.{eqb, leb}
use lib.Signed.{mag}
use lib.ListN.{length, get_or, drop}
use mir.Syntax.{w32}
use mir.Val.{SFits, of_z}
use borrow.Author.Tests.{eq-eqb, ne_eqb, eqb-true, le-leb}
use Rattle.rules.specs.Values.{pick, Clause}
use Rattle.rules.specs.Tapes.{Raw, slot_limit, clause_limit, nat, word, clause_of, mark_ok, raw_in, raws_from}
use Rattle.rules.specs.Tapes.{counts_ok, clause_fault, fault_from, read_clauses, read_tape, read_list, list_of, raws_of}
use Rattle.rules.specs.Tapes.{copy_of, good, bad}
use Rattle.rules.specs.Marks.{as_marked, kept_by}
use Rattle.rules.proofs.Reading.{raw_of, fault_here, fault_after, counts_hold, counts_ok_lem}
use Rattle.rules.proofs.Reading.{list_of_tape, tape_accepted, tape_tape}
use Rattle.rules.proofs.Bytes.{length_read}
use Rattle.tape.proofs.FieldValues.{raw}
use Rattle.table_rules.specs.Tables.{marks_from, marks_in, is_choice, copies_ok, kept_ok}
use Rattle.table_rules.proofs.Passed.{kept_length}
use Rattle.verdicts.specs.Kept.{copy_raw, marked_raw, stands}

-- A clause's opcode, as the code compares it.
is_opcode_lem : (k : ℕ) (z : ℤ) → k < 100 → mag z < 2147483648 → eqb (of_z w32 z) (suc k) ≡ eqb (nat z) (suc k)
is_opcode_lem k (pos a) l h = refl
is_opcode_lem k (negsuc a) l h =
    ne_eqb (4294967296 - suc a) (suc k) (λ e. omega arith) ∙ sym (ne_eqb 0 (suc k) (λ e. omega arith))

pub choice_test : (b : Bool) (z : ℤ) → SFits w32 z
    → (b || (eqb (of_z w32 z) 12 || eqb (of_z w32 z) 13)) ≡ (b || is_choice (nat z))
choice_test b z f =
    ap₂ (λ x y. b || (x || y)) (is_opcode_lem 11 z (omega arith) f.sfits) (is_opcode_lem 12 z (omega arith) f.sfits)

-- Whether clauses r ∷ rs with marks stand one after another, given the slots that those before them wrote and whether
-- there was one.
unfoldable pub goes_on : ℕ → List ℕ → Bool → List Raw → List ℕ → Bool
goes_on n ns some [] ms = some
goes_on n ns some (r ∷ rs) [] = some
goes_on n ns some (r ∷ rs) (zero ∷ ms) = goes_on n ns some rs ms
goes_on n ns some (r ∷ rs) (suc m ∷ ms) = stands n ns r (suc m) && goes_on n (nat r.out ∷ ns) true rs ms

-- A clause that is read from bytes is the same when it is given as a list.
same_raw : (s : List ℕ) → raw_of (clause_of (raw_in s)) ≡ raw_in s
unfolding raw_in
same_raw s = go (mark_ok s)
  where
    go : (b : Bool)
        → (let r : Raw = raw (pick b (pos (get_or s 2 0)) (pos 255)) (pos (get_or s 3 0)) (pos (get_or s 4 0))
        (pos (get_or s 5 0)) (raw_in s).constant in
        raw_of (clause_of r) ≡ r)
    go true = refl
    go false = refl

marked_raw_lem : (r : Raw) (m : ℕ) → raw_of (clause_of r) ≡ r → raw_of (as_marked (clause_of r) m) ≡ marked_raw r m
unfolding as_marked
marked_raw_lem r m e = go (eqb m 1) (eqb m 2)
  where
    go : (b d : Bool) → raw_of (pick b (clause_of r) (copy_of (clause_of r) (pick d (clause_of r).left (clause_of r).right)))
        ≡ pick b r (copy_raw r.out (pick d r.left r.right))
    go true d = e
    go false true = ap₂ copy_raw (ap (λ x. x.out) e) (ap (λ x. x.left) e)
    go false false = ap₂ copy_raw (ap (λ x. x.out) e) (ap (λ x. x.right) e)

pub marked_whole : (r : Raw) (m : ℕ) → m ≡ 1 → r ≡ marked_raw r m
marked_whole r m e =
    ap (λ b. pick b r (copy_raw r.out (pick (eqb m 2) r.left r.right))) (sym (eq-eqb m 1 e))

pub marked_left : (r : Raw) (m : ℕ) → m ≡ 2 → copy_raw r.out r.left ≡ marked_raw r m
marked_left r m e = sym (ap (marked_raw r) e)

pub marked_right : (r : Raw) (m : ℕ) → (m ≡ 1 → ⊥) → (m ≡ 2 → ⊥) → copy_raw r.out r.right ≡ marked_raw r m
marked_right r m a b =
    sym (ap₂ (λ x y. pick x r (copy_raw r.out (pick y r.left r.right))) (ne_eqb m 1 a) (ne_eqb m 2 b))

pub marked_out : (r : Raw) (m : ℕ) → (marked_raw r m).out ≡ r.out
marked_out r m = go (eqb m 1)
  where
    go : (b : Bool) → (pick b r (copy_raw r.out (pick (eqb m 2) r.left r.right))).out ≡ r.out
    go true = refl
    go false = refl

-- The clauses from some clause on: no copy is wrong, no kept clause has a fault, and there is one, or was.
abbrev any : List Clause → Bool
any [] = false
any (c ∷ cs) = true

or_none : (b : Bool) → b ≡ (b || false)
or_none true = refl
or_none false = refl

and_all : (b : Bool) → b ≡ (b && true)
and_all true = refl
and_all false = refl

in_turn : (a b c f x some : Bool) → (b ≡ true → x ≡ f) → (b ≡ false → x ≡ false)
    → ((a && b) && (c && (f && true))) ≡ ((a && c) && (x && (some || true)))
in_turn false b c f x some g h = refl
in_turn true true false f x some g h = refl
in_turn true true true f x true g h = ap (λ y. y && true) (sym (g refl))
in_turn true true true f x false g h = ap (λ y. y && true) (sym (g refl))
in_turn true false false f x some g h = refl
in_turn true false true f x some g h = sym (ap (λ y. y && (some || true)) (h refl))

module _ (n : ℕ) where
  abbrev read : ℕ → List ℕ → List Clause
  read k s = map clause_of (raws_from k s)

  abbrev faultless : ℕ → List ℕ → List Clause → Bool
  faultless i ns cs = eqb (fault_from n i ns (map raw_of cs)).number 0

  one_more : (i : ℕ) (ns : List ℕ) (r : Raw) (m : ℕ) (cs : List Clause) → raw_of (clause_of r) ≡ r
      → (eqb (clause_fault n ns (marked_raw r m)) 0 ≡ true
      → faultless i ns (as_marked (clause_of r) m ∷ cs) ≡ faultless (suc i) (nat r.out ∷ ns) cs)
      × (eqb (clause_fault n ns (marked_raw r m)) 0 ≡ false → faultless i ns (as_marked (clause_of r) m ∷ cs) ≡ false)
  one_more i ns r m cs e =
      let q = marked_raw r m in
      let w : raw_of (as_marked (clause_of r) m) ≡ q = marked_raw_lem r m e in
      let first = ap (λ x. eqb (fault_from n i ns (x ∷ map raw_of cs)).number 0) w in (
        (λ b.
            first ∙ ap (λ x. eqb x.number 0) (fault_after n i ns q (map raw_of cs) b)
            ∙ ap (λ x. eqb (fault_from n (suc i) (nat x ∷ ns) (map raw_of cs)).number 0) (marked_out r m)),
        (λ b. first ∙ ap (λ x. eqb x.number 0) (fault_here n i ns q (map raw_of cs) b) ∙ b),
      )

  goes : (i : ℕ) (ns : List ℕ) (some : Bool) (k : ℕ) (s ms : List ℕ)
      → goes_on n ns some (raws_from k s) ms
      ≡ (copies_ok (read k s) ms && (faultless i ns (kept_by (read k s) ms) && (some || any (kept_by (read k s) ms))))
  unfolding goes_on raws_from copies_ok kept_by fault_from
  goes i ns some zero s ms = or_none some
  goes i ns some (suc k) s [] = or_none some
  goes i ns some (suc k) s (zero ∷ ms) = goes i ns some k (drop 10 s) ms
  goes i ns some (suc k) s (suc m ∷ ms) =
      let r = raw_in s in
      let cs = kept_by (read k (drop 10 s)) ms in
      let b = one_more i ns r (suc m) cs (same_raw s) in
      ap (λ x. stands n ns r (suc m) && x) (goes (suc i) (nat r.out ∷ ns) true k (drop 10 s) ms)
      ∙ in_turn (leb (suc m) 1 || is_choice (nat r.opcode)) (eqb (clause_fault n ns (marked_raw r (suc m))) 0)
      (copies_ok (read k (drop 10 s)) ms) (faultless (suc i) (nat r.out ∷ ns) cs) _ some b.0 b.1

-- A kept tape as a list: accepted if it has a clause and none has a fault.
number_of : (n : ℕ) (rs : List Raw) → (read_clauses n rs).number ≡ (fault_from n 0 [] rs).number
unfolding read_clauses
number_of n rs = go (eqb (fault_from n 0 [] rs).number 0) refl
  where
    go : (b : Bool) → eqb (fault_from n 0 [] rs).number 0 ≡ b
        → (pick b (good (record { slots = n; clauses = map clause_of rs }))
        (bad (fault_from n 0 [] rs).number (fault_from n 0 [] rs).place)).number ≡ (fault_from n 0 [] rs).number
    go true e = sym (eqb-true (fault_from n 0 [] rs).number 0 e)
    go false e = refl

as_list : (n : ℕ) (cs : List Clause) → 1 ≤ n → n ≤ slot_limit → length cs ≤ clause_limit
    → eqb (read_list n (list_of cs)).number 0 ≡ (faultless n 0 [] cs && any cs)
unfolding read_list list_of raws_of counts_ok fault_from
as_list n [] h l m =
    let none : counts_ok n 0 ≡ false = rw (le-leb 1 n h, le-leb n slot_limit l) in
    ap (λ b. eqb (pick (not b) (bad 3 0) (read_clauses n [])).number 0) none
as_list n (c ∷ cs) h l m =
    ap (λ x. eqb x.number 0)
    (list_of_tape n (c ∷ cs) (counts_ok_lem n (length (c ∷ cs))
    (record { some_slot = h; slots = l; some_clause = omega arith; clauses = m })))
    ∙ ap (λ x. eqb x 0) (number_of n (map raw_of (c ∷ cs))) ∙ and_all (faultless n 0 [] (c ∷ cs))

-- The whole of it, from the bytes.
pub kept_goes : (s e : List ℕ) → (read_tape s).number ≡ 0
    → goes_on (get_or s 3 0) [] false (raws_from (word 4 s) (drop 8 s)) (marks_from e 0 (word 4 s))
    ≡ kept_ok (read_tape s).tape (marks_in (read_tape s).tape e)
unfolding kept_ok
kept_goes s e z =
    let n = get_or s 3 0 in
    let k = word 4 s in
    let cs = map clause_of (raws_from k (drop 8 s)) in
    let ms = marks_from e 0 k in
    let c = counts_hold n k (tape_accepted s z).counts in
    let t : (read_tape s).tape ≡ record { slots = n; clauses = cs } = ap (λ g. g.tape) (tape_tape s z) in
    let l : length (kept_by cs ms) ≤ clause_limit =
    omega (arith, kept_length cs ms, length_read k (drop 8 s), c.clauses) in
    goes n 0 [] false k (drop 8 s) ms
    ∙ ap (λ x. copies_ok cs ms && x) (sym (as_list n (kept_by cs ms) c.some_slot c.slots l))
    ∙ ap (λ j. kept_ok (record { slots = n; clauses = cs }) (marks_from e 0 j)) (sym (length_read k (drop 8 s)))
    ∙ ap (λ x. kept_ok x (marks_in x e)) (sym t)
