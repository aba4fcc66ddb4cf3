-- For the code: the merged tape's bytes part by part, and the result slot of a tape as one of its bytes.
use mathlib.Core.Path.{◌≡◌, refl, sym, ap, ap₂, ◌∙◌}
use mathlib.Core.Bool.{Bool, true, false}
use mathlib.Core.List.{List, [], ◌∷◌, ◌++◌, map}
use Prim.Native.Nat.{ℕ, zero, suc, ◌+◌, ◌*◌, ◌≤◌}
use native.Mathlib.Omega.{arith}
use lib.ListN.{length, get_or, drop}
use lib.Seq.{get_or-drop}
use Rattle.rules.specs.Values.{pick, Clause}
use Rattle.rules.specs.Tapes.{Tape, Got, uses_left, uses_right, last_out, word, clause_of, raw_in, raws_from, read_tape}
use Rattle.rules.specs.Tapes.{head_bytes, clause_bytes, tape_bytes, four}
use Rattle.rules.proofs.Reading.{tape_accepted, tape_tape, counts_hold}
use Rattle.rules.proofs.Bytes.{length_read}
use Rattle.merge_rules.specs.Merging.{raised, minimum_of, merged}
use Rattle.merge_rules.proofs.MergedTapes.{merged_clauses}

-- Clauses one list after another.
bytes_append : (cs ds : List Clause) → clause_bytes (cs ++ ds) ≡ clause_bytes cs ++ clause_bytes ds
unfolding clause_bytes
bytes_append [] ds = refl
bytes_append (c ∷ cs) ds =
    ap
    (λ (b : List ℕ). 67
    ∷ (76 ∷ (c.opcode ∷ (c.out ∷ (c.left ∷ (c.right ∷ (four c.constant ++ b)))))))
    (bytes_append cs ds)

-- A clause raised by 0 is itself: so one loop copies the clauses of both tapes.
none_more : (used : Bool) (j : ℕ) → pick used (j + 0) j ≡ j
none_more true j = omega arith
none_more false j = refl

raised_none : (c : Clause) → raised 0 c ≡ c
raised_none c =
    let out : c.out + 0 ≡ c.out = omega arith in
    let left = none_more (uses_left c.opcode) c.left in
    let right = none_more (uses_right c.opcode) c.right in
    λ i. record { opcode = c.opcode; out = out i; left = left i; right = right i; constant = c.constant }

all_raised_none : (cs : List Clause) → map (raised 0) cs ≡ cs
all_raised_none [] = refl
all_raised_none (c ∷ cs) = ap₂ (λ (d : Clause) (ds : List Clause). d ∷ ds) (raised_none c) (all_raised_none cs)

-- The head of both counts, the first tape's clauses raised by 0, the second's raised, and the minimum.
pub merged_by_parts : (t u : Tape)
    → let n = t.slots in
    tape_bytes (merged t u)
    ≡ head_bytes (n + u.slots) (length t.clauses + length u.clauses + 1)
    ++ (clause_bytes (map (raised 0) t.clauses)
    ++ (clause_bytes (map (raised n) u.clauses)
    ++ clause_bytes (minimum_of (last_out t.clauses) (last_out u.clauses + n) ∷ [])))
unfolding merged tape_bytes
merged_by_parts t u =
    let c = minimum_of (last_out t.clauses) (last_out u.clauses + t.slots) in
    let ds = map (raised t.slots) u.clauses in
    ap₂ (λ (k : ℕ) (b : List ℕ). head_bytes (t.slots + u.slots) k ++ b) (merged_clauses t u)
    (bytes_append t.clauses (ds ++ (c ∷ []))
    ∙ ap₂ (λ (a b : List ℕ). a ++ b) (ap clause_bytes (sym (all_raised_none t.clauses))) (bytes_append ds (c ∷ [])))

-- The result slot is the out of the last clause, by its byte.
last_out_lem : (k : ℕ) (s : List ℕ) → last_out (map clause_of (raws_from (suc k) s)) ≡ get_or s (10 * k + 3) 0
unfolding last_out raws_from raw_in
last_out_lem zero s = refl
last_out_lem (suc k) s =
    last_out_lem k (drop 10 s)
    ∙ get_or-drop 10 s (10 * k + 3) 0
    ∙ ap (λ i. get_or s i 0) (ten_more k)
  where
    ten_more : (k : ℕ) → 10 + (10 * k + 3) ≡ 10 * suc k + 3
    ten_more k = omega arith

pub result_slot_lem : (s : List ℕ) → (read_tape s).number ≡ 0
    → last_out (read_tape s).tape.clauses ≡ get_or s (10 * length (read_tape s).tape.clauses + 1) 0
result_slot_lem s e =
    let k = word 4 s in
    let c = counts_hold (get_or s 3 0) k (tape_accepted s e).counts in
    let l : length (read_tape s).tape.clauses ≡ k =
    ap (λ (g : Got). length g.tape.clauses) (tape_tape s e) ∙ length_read k (drop 8 s) in
    ap (λ (g : Got). last_out g.tape.clauses) (tape_tape s e)
    ∙ go k c.some_clause
    ∙ ap (λ i. get_or s (10 * i + 1) 0) (sym l)
  where
    go : (k : ℕ) → 1 ≤ k → last_out (map clause_of (raws_from k (drop 8 s))) ≡ get_or s (10 * k + 1) 0
    go zero h = absurd (omega arith)
    go (suc k) h = last_out_lem k (drop 8 s) ∙ get_or-drop 8 s (10 * k + 3) 0 ∙ ap (λ i. get_or s i 0) (eight_more k)
      where
        eight_more : (k : ℕ) → 8 + (10 * k + 3) ≡ 10 * suc k + 1
        eight_more k = omega arith
