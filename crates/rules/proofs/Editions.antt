-- Request T-08, the editions: the reader as it was before, and what it answers beside the one of today. The limits and
-- the one edition of that reader are written out; what a clause may be is the same for both.
use mathlib.Core.Path.{◌≡◌, refl, sym, ap, ◌∙◌}
use mathlib.Core.Bool.{Bool, true, false, ◌&&◌, ◌||◌, not, and-false, and-true}
use mathlib.Core.List.{List, [], ◌∷◌, ◌++◌, map}
use Prim.Native.Nat.{ℕ, zero, suc, ◌+◌, ◌*◌, ◌≤◌, ◌<◌}
use native.Mathlib.Omega.{arith}
use lib.Dec.{eqb, ltb, leb}
use lib.IntN.{pos}
use lib.ListN.{length, get_or, drop, replicate}
use borrow.Author.Tests.{leb-true, le-leb, eqb-true, ne_eqb, eq-eqb, lt-ltb, le-ltb}
use Rattle.rules.specs.Values.{pick}
use Rattle.rules.specs.Tapes.{Got, bad, slot_limit, clause_limit, edition, word}
use Rattle.rules.specs.Tapes.{counts_ok, head_counts, head_ok, raws_from, read_clauses, read_tape}
use Rattle.rules.specs.Tapes.{head_bytes, tape_bytes, all_bytes, two, Raw, raw_in, signed4, fault_from, clause_fault}
use Rattle.rules.specs.Tapes.{is_edition, bad_slot, bad_unused, bad_constant, bad_read}
use Rattle.rules.proofs.Reading.{tape_accepted, counts_hold, head_counts_hold}
use Rattle.rules.proofs.Tests.{and_left, and_right}
use Rattle.rules.proofs.Bytes.{both_ways}

-- "Head, 8 bytes: `54 50`, edition 01, slot count (1 to 64), clause count (2 bytes, 1 to 1,024), `00 00`."
unfoldable pub head_before : List ℕ → Bool
head_before s =
    eqb (get_or s 0 0) 84
    && (eqb (get_or s 1 0) 80 && (eqb (get_or s 2 0) 1 && (eqb (get_or s 6 0) 0 && eqb (get_or s 7 0) 0)))

unfoldable pub counts_before : ℕ → ℕ → Bool
counts_before n k = leb 1 n && (leb n 64 && (leb 1 k && leb k 1024))

unfoldable pub read_before : List ℕ → Got
read_before s =
    let n = get_or s 3 0 in
    let k = word 4 s in
    pick (ltb (length s) 8) (bad 1 0)
    (pick (not (head_before s)) (bad 2 0)
    (pick (not (counts_before n k)) (bad 3 0)
    (pick (not (eqb (length s) (8 + 10 * k))) (bad 4 0) (read_clauses n (raws_from k (drop 8 s))))))

-- "A core from before this change answers 2 to the new ones."
head_before_lem : (s : List ℕ) → get_or s 2 0 ≡ 2 → head_before s ≡ false
unfolding head_before
head_before_lem s e = rw e (go (eqb (get_or s 0 0) 84) (eqb (get_or s 1 0) 80))
  where
    go : (a b : Bool) → (a && (b && false)) ≡ false
    go true b = and-false b
    go false b = refl

pub before_refuses : (s : List ℕ) → (read_tape s).number ≡ 0 → get_or s 2 0 ≡ 2 → read_before s ≡ bad 2 0
unfolding read_before
before_refuses s e q = rw (le-ltb (length s) 8 (tape_accepted s e).long, head_before_lem s q)

-- An edition byte other than 02: the head is right for both or for neither, and the counts are those of edition 01.
same_head : (s : List ℕ) → (get_or s 2 0 ≡ 2 → ⊥) → head_ok s ≡ head_before s
unfolding head_ok head_before
same_head s n = rw (ne_eqb (get_or s 2 0) 2 n) (go (eqb (get_or s 2 0) 1))
  where
    go : (t : Bool)
        → (eqb (get_or s 0 0) 84 && (eqb (get_or s 1 0) 80 && ((t || false) && (eqb (get_or s 6 0) 0 && eqb (get_or s 7 0) 0))))
        ≡ (eqb (get_or s 0 0) 84 && (eqb (get_or s 1 0) 80 && (t && (eqb (get_or s 6 0) 0 && eqb (get_or s 7 0) 0))))
    go true = refl
    go false = refl

-- Line 3 of a head of edition 01, given whether edition 01 can hold these counts.
first_counts : (n k : ℕ) → head_counts 1 n k ≡ counts_before n k
unfolding head_counts counts_ok counts_before edition
first_counts n k = go (leb n 64) (leb k 1024) refl refl
  where
    wider : (a b c : ℕ) → b ≤ c → leb a b ≡ true → leb a c ≡ true
    wider a b c h e = le-leb a c (omega (arith, leb-true a b e))

    go : (a b : Bool) → leb n 64 ≡ a → leb k 1024 ≡ b
        → (counts_ok n k && eqb 1 (pick (a && b) 1 2)) ≡ (leb 1 n && (a && (leb 1 k && b)))
    go true true p q =
        rw (wider n 64 slot_limit (omega arith) p, wider k 1024 clause_limit (omega arith) q)
        (and-true (leb 1 n && (leb 1 k && true)))
    go true false p q = and-false (counts_ok n k) ∙ sym (ap (λ t. leb 1 n && t) (and-false (leb 1 k)) ∙ and-false (leb 1 n))
    go false b p q = and-false (counts_ok n k) ∙ sym (and-false (leb 1 n))

-- "Stored tapes of edition 01 are accepted as before": both readers answer the same, number, place and tape, to every
-- input whose edition byte is not 02.
first_edition : (s : List ℕ) → head_before s ≡ true → get_or s 2 0 ≡ 1
unfolding head_before
first_edition s e =
    let e₁ = and_right (eqb (get_or s 0 0) 84) _ e in
    let e₂ = and_right (eqb (get_or s 1 0) 80) _ e₁ in
    eqb-true (get_or s 2 0) 1 (and_left (eqb (get_or s 2 0) 1) _ e₂)

pub same_before : (s : List ℕ) → (get_or s 2 0 ≡ 2 → ⊥) → read_tape s ≡ read_before s
unfolding read_tape read_before
same_before s n = go (head_before s) refl
  where
    go : (t : Bool) → head_before s ≡ t → read_tape s ≡ read_before s
    go true e =
        let q = ap (λ v. head_counts v (get_or s 3 0) (word 4 s)) (first_edition s e) in
        rw (same_head s n, e, q, first_counts (get_or s 3 0) (word 4 s))
    go false e = rw (same_head s n, e)

-- "byte for byte the same when packed again".
not_second : (s : List ℕ) → (read_before s).number ≡ 0 → get_or s 2 0 ≡ 2 → ⊥
unfolding read_before
not_second s e q = go (ltb (length s) 8) (rw (head_before_lem s q) at e)
  where
    go : (t : Bool) → (pick t (bad 1 0) (bad 2 0)).number ≡ 0 → ⊥
    go true k = omega arith
    go false k = omega arith

pub packed_again : (s : List ℕ) → all_bytes s ≡ true → (read_before s).number ≡ 0
    → (read_tape s ≡ read_before s) × (tape_bytes (read_tape s).tape ≡ s)
packed_again s y e =
    let same = same_before s (not_second s e) in
    (same, (both_ways.by_tape s y (ap (λ (g : Got). g.number) same ∙ e)).0)

-- The request's figures: the head of 101 slots and 1,103 clauses; edition, slots and clauses of whole tapes, and what
-- reading them gives.
pub head_figure : head_bytes 101 1103 ≡ 84 ∷ (80 ∷ (2 ∷ (101 ∷ (79 ∷ (4 ∷ (0 ∷ (0 ∷ [])))))))
unfolding edition
head_figure = refl

unfoldable pub fives : ℕ → List ℕ
fives zero = []
fives (suc k) = 67 ∷ (76 ∷ (0 ∷ (0 ∷ (0 ∷ (0 ∷ (5 ∷ (0 ∷ (0 ∷ (0 ∷ fives k)))))))))

unfoldable pub tape_of : ℕ → ℕ → ℕ → List ℕ
tape_of e n k = 84 ∷ (80 ∷ (e ∷ (n ∷ (two k ++ (0 ∷ (0 ∷ fives k))))))

-- Such tapes of any length, so that none of 6,144 clauses need be computed: nothing but the counts can refuse them.
abbrev five : Raw
five = record { opcode = pos 0; out = pos 0; left = pos 0; right = pos 0; constant = pos 5 }

fives_long : (k : ℕ) → length (fives k) ≡ 10 * k
unfolding fives
fives_long zero = refl
fives_long (suc k) = omega (arith, fives_long k)

fives_raw : (k : ℕ) → raws_from k (fives k) ≡ replicate k five
unfolding fives raws_from raw_in signed4
fives_raw zero = refl
fives_raw (suc k) = ap (λ (rs : List Raw). five ∷ rs) (fives_raw k)

five_fault : (n : ℕ) (w : List ℕ) → 0 < n → clause_fault n w five ≡ 0
unfolding clause_fault bad_slot bad_unused bad_constant bad_read
five_fault n w h = rw (lt-ltb 0 n h)

fives_fault : (n i k : ℕ) (w : List ℕ) → 0 < n → (fault_from n i w (replicate k five)).number ≡ 0
unfolding fault_from
fives_fault n i zero w h = refl
fives_fault n i (suc k) w h = rw (five_fault n w h, fault_from) (fives_fault n (suc i) k (0 ∷ w) h)

fives_word : (e n k : ℕ) → k ≤ 65535 → word 4 (tape_of e n k) ≡ k
unfolding tape_of
fives_word e n k h = omega arith

pub fives_read : (e n k : ℕ) → is_edition e ≡ true → k ≤ 65535
    → (read_tape (tape_of e n k)).number ≡ pick (head_counts e n k) 0 3
unfolding tape_of read_tape head_ok read_clauses
fives_read e n k q h = go (head_counts e n k) refl
  where
    go : (t : Bool) → head_counts e n k ≡ t → (read_tape (tape_of e n k)).number ≡ pick t 0 3
    go true c =
        let counts = counts_hold n k (head_counts_hold e n k c) in
        let long : length (tape_of e n k) ≡ 8 + 10 * k = omega (arith, fives_long k) in
        let room = le-ltb (length (tape_of e n k)) 8 (omega arith) in
        let size = eq-eqb (length (tape_of e n k)) (8 + 10 * k) long in
        rw (room, q, fives_word e n k h, c, size, fives_raw k, fives_fault n 0 k [] (omega arith))
    go false c =
        rw (le-ltb (length (tape_of e n k)) 8 (omega arith), q, fives_word e n k h, c)

pub record Row : Type 0 where
  pub edition : ℕ
  pub slots : ℕ
  pub clauses : ℕ
  pub said : ℕ

abbrev pub row : ℕ → ℕ → ℕ → ℕ → Row
row e n k a = record { edition = e; slots = n; clauses = k; said = a }

abbrev pub rows : List Row
rows =
    row 1 1 1025 3
    ∷ (row 2 1 1025 0
    ∷ (row 2 1 1024 3
    ∷ (row 2 65 1 0
    ∷ (row 2 128 6144 0 ∷ (row 2 129 1 3 ∷ (row 2 128 6145 3 ∷ (row 2 65 0 3 ∷ [])))))))

abbrev number_of : Row → ℕ
number_of r = (read_tape (tape_of r.edition r.slots r.clauses)).number

pub figures : map number_of rows ≡ map (λ r. r.said) rows
unfolding head_counts counts_ok edition
figures =
    rw (
      fives_read 1 1 1025 refl (omega arith),
      fives_read 2 1 1025 refl (omega arith),
      fives_read 2 1 1024 refl (omega arith),
      fives_read 2 65 1 refl (omega arith),
      fives_read 2 128 6144 refl (omega arith),
      fives_read 2 129 1 refl (omega arith),
      fives_read 2 128 6145 refl (omega arith),
      fives_read 2 65 0 refl (omega arith),
    )

-- Tapes of one clause, by computation alone.
abbrev small : List Row
small = row 1 1 1 0 ∷ (row 2 1 1 3 ∷ (row 1 65 1 3 ∷ (row 2 65 1 0 ∷ (row 2 129 1 3 ∷ []))))

pub small_figures : map number_of small ≡ map (λ r. r.said) small
unfolding tape_of fives read_tape head_ok counts_ok head_counts edition raws_from raw_in signed4 read_clauses fault_from
    clause_fault bad_slot bad_unused bad_constant bad_read
small_figures = refl
