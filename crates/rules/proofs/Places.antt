-- Reading tells a place with refusals 5 to 9 alone.
use mathlib.Core.Path.{◌≡◌, refl, sym}
use mathlib.Core.Bool.{Bool, true, false, ◌&&◌, not}
use mathlib.Core.List.{List, [], ◌∷◌}
use Prim.Native.Nat.{ℕ, suc, ◌+◌, ◌*◌, ◌%◌}
use lib.Dec.{eqb, ltb, leb}
use lib.IntN.{ℤ}
use lib.ListN.{length, get_or, drop}
use borrow.Author.Tests.{eqb-false}
use Rattle.rules.specs.Values.{pick, first_of, when}
use Rattle.rules.specs.Tapes.{Raw, Got, place_of, bad, is_opcode, bad_slot, bad_unused, bad_constant, bad_read}
use Rattle.rules.specs.Tapes.{clause_fault, nat, fault_from, read_clauses, counts_ok, raws_of, read_list, word, head_ok}
use Rattle.rules.specs.Tapes.{head_counts}
use Rattle.rules.specs.Tapes.{raws_from, read_tape}
use Rattle.rules.proofs.Reading.{fault_here, fault_after}

pub record Placed (g : Got) : Type 0 where
  pub placed : g.place ≡ place_of g.number g.place

lines_5_to_9 : (a b c d e : Bool)
    → let x = first_of (when a 5) (first_of (when b 6) (first_of (when c 7) (first_of (when d 8) (when e 9)))) in
    eqb x 0 ≡ false → (leb 5 x && leb x 9) ≡ true
lines_5_to_9 true b c d e h = refl
lines_5_to_9 false true c d e h = refl
lines_5_to_9 false false true d e h = refl
lines_5_to_9 false false false true e h = refl
lines_5_to_9 false false false false true h = refl
lines_5_to_9 false false false false false h = absurd (eqb-false 0 0 h refl)

clause_5_to_9 : (n : ℕ) (written : List ℕ) (r : Raw) → let x = clause_fault n written r in
    eqb x 0 ≡ false → (leb 5 x && leb x 9) ≡ true
unfolding clause_fault
clause_5_to_9 n written r h =
    lines_5_to_9 (not (is_opcode r.opcode)) (bad_slot n r) (bad_unused r) (bad_constant r) (bad_read written r) h

fault_placed : (n i : ℕ) (written : List ℕ) (rs : List Raw)
    → let f = fault_from n i written rs in f.place ≡ place_of f.number f.place
unfolding fault_from
fault_placed n i written [] = refl
fault_placed n i written (r ∷ rs) =
    go (eqb (clause_fault n written r) 0) refl (fault_placed n (suc i) (nat r.out ∷ written) rs)
  where
    go : (b : Bool) → eqb (clause_fault n written r) 0 ≡ b
        → (let f = fault_from n (suc i) (nat r.out ∷ written) rs in f.place ≡ place_of f.number f.place)
        → let f = fault_from n i written (r ∷ rs) in f.place ≡ place_of f.number f.place
    go true h later = rw (fault_after n i written r rs h) later
    go false h later = rw (fault_here n i written r rs h, clause_5_to_9 n written r h)

clauses_placed : (n : ℕ) (rs : List Raw) → Placed (read_clauses n rs)
unfolding read_clauses
clauses_placed n rs = go (eqb (fault_from n 0 [] rs).number 0) refl
  where
    go : (b : Bool) → eqb (fault_from n 0 [] rs).number 0 ≡ b → Placed (read_clauses n rs)
    go true h = rw (h, read_clauses) (record { placed = refl })
    go false h = rw (h, read_clauses) (record { placed = fault_placed n 0 [] rs })

unless : (b : Bool) (x : ℕ) (g : Got) → place_of x 0 ≡ 0 → Placed g → Placed (pick b (bad x 0) g)
unless true x g e p = record { placed = sym e }
unless false x g e p = p

pub list_placed : (n : ℕ) (zs : List ℤ) → Placed (read_list n zs)
unfolding read_list
list_placed n zs =
    unless (not (eqb (length zs % 5) 0)) 4 _ refl
    (unless (not (counts_ok n (length (raws_of zs)))) 3 _ refl (clauses_placed n (raws_of zs)))

pub tape_placed : (s : List ℕ) → Placed (read_tape s)
unfolding read_tape
tape_placed s =
    unless (ltb (length s) 8) 1 _ refl
    (unless (not (head_ok s)) 2 _ refl
    (unless (not (head_counts (get_or s 2 0) (get_or s 3 0) (word 4 s))) 3 _ refl
    (unless (not (eqb (length s) (8 + 10 * word 4 s))) 4 _ refl
    (clauses_placed (get_or s 3 0) (raws_from (word 4 s) (drop 8 s))))))
