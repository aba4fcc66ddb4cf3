-- What a check answers at each line of the refusals that concerns the whole tape or list, in their order.
use mathlib.Core.Path.{◌≡◌, refl, ◌∙◌}
use mathlib.Core.Bool.{Bool, true, false, ◌&&◌, and_assoc}
use mathlib.Core.List.{List, [], ◌∷◌}
use Prim.Native.Nat.{ℕ, ◌+◌, ◌*◌, ◌/◌, ◌%◌, ◌≤◌, ◌<◌}
use lib.Dec.{eqb}
use lib.IntN.{ℤ}
use lib.ListN.{length, get_or, drop}
use borrow.Author.Tests.{eq-eqb, ne_eqb, lt-ltb, le-ltb}
use Rattle.rules.specs.Tapes.{Got, bad, counts_ok, head_counts, read_clauses, raws_of, read_list, word}
use Rattle.rules.specs.Tapes.{is_edition, head_ok, raws_from, read_tape}
use Rattle.std.specs.Prelude.{Result}
use Rattle.faults.specs.declared.Fault.{Fault}
use Rattle.faults.specs.declared.Fault.TheVariants.{ShortTape, WrongHead, WrongCounts, WrongLength}
use Rattle.faults.specs.declared.Refusal.{Refusal}
use Rattle.faults.specs.Numbers.{number_of}
use Rattle.tape_check.proofs.ClauseLines.{row}
use Rattle.tape_check.specs.declared.Counts.{Counts}
use Rattle.tape.specs.Clauses.{marked}
use Rattle.tape_check.specs.Checks.{Answers, Refuses}
use Rattle.tape.proofs.ListClauses.{raws_length}

abbrev refusal : Fault → Refusal
refusal f = record { fault = f; place = 0 }

refuses : (f : Fault) (g : Got) (r : Refusal) → g ≡ bad (number_of f) 0 → r ≡ refusal f → Refuses r g
refuses f g r p q = rw (p, q) (record { number = refl; place = refl; slots = refl; clauses = refl })

module _ (n : ℕ) (zs : List ℤ) (r : Refusal) where
  pub list_4 : (length zs % 5 ≡ 0 → ⊥) → r ≡ refusal WrongLength → Refuses r (read_list n zs)
  unfolding read_list
  list_4 h q = refuses WrongLength (read_list n zs) r (rw (ne_eqb (length zs % 5) 0 h)) q

  pub list_3 : length zs % 5 ≡ 0 → counts_ok n (length zs / 5) ≡ false → r ≡ refusal WrongCounts
      → Refuses r (read_list n zs)
  unfolding read_list
  list_3 h e q = refuses WrongCounts (read_list n zs) r (rw (h, raws_length zs, e)) q

pub list_on : (n : ℕ) (zs : List ℤ) (r : Result Counts Refusal) → length zs % 5 ≡ 0 → counts_ok n (length zs / 5) ≡ true
    → Answers r (read_clauses n (raws_of zs)) → Answers r (read_list n zs)
unfolding read_list
list_on n zs r h e a = rw (h, raws_length zs, e) a

pub head_is : (s : List ℕ) (m t : Bool) → m ≡ marked 0 s (84 ∷ (80 ∷ [])) → t ≡ is_edition (get_or s 2 0)
    → (((m && t) && eqb (get_or s 6 0) 0) && eqb (get_or s 7 0) 0) ≡ head_ok s
unfolding head_ok
head_is s m t e k =
    row m t (eqb (get_or s 6 0) 0) (eqb (get_or s 7 0) 0)
    ∙ rw (e, k) (and_assoc (eqb (get_or s 0 0) 84) (eqb (get_or s 1 0) 80) _)

module _ (s : List ℕ) (r : Refusal) where
  pub tape_1 : length s < 8 → r ≡ refusal ShortTape → Refuses r (read_tape s)
  unfolding read_tape
  tape_1 h q = refuses ShortTape (read_tape s) r (rw (lt-ltb (length s) 8 h)) q

  module _ (l : 8 ≤ length s) where
    pub tape_2 : head_ok s ≡ false → r ≡ refusal WrongHead → Refuses r (read_tape s)
    unfolding read_tape
    tape_2 h q = refuses WrongHead (read_tape s) r (rw (le-ltb (length s) 8 l, h)) q

    module _ (h : head_ok s ≡ true) (n k : ℕ) (a : n ≡ get_or s 3 0) (b : k ≡ word 4 s) where
      pub tape_3 : head_counts (get_or s 2 0) n k ≡ false → r ≡ refusal WrongCounts → Refuses r (read_tape s)
      unfolding read_tape
      tape_3 e q = refuses WrongCounts (read_tape s) r (rw (le-ltb (length s) 8 l, h, ← a, ← b, e)) q

      pub tape_4 : head_counts (get_or s 2 0) n k ≡ true → (length s ≡ 8 + 10 * k → ⊥) → r ≡ refusal WrongLength
          → Refuses r (read_tape s)
      unfolding read_tape
      tape_4 e d q =
          refuses WrongLength (read_tape s) r
          (rw (le-ltb (length s) 8 l, h, ← a, ← b, e, ne_eqb (length s) (8 + 10 * k) d)) q

pub tape_on : (s : List ℕ) (r : Result Counts Refusal) → 8 ≤ length s → head_ok s ≡ true → (n k : ℕ) → n ≡ get_or s 3 0
    → k ≡ word 4 s → head_counts (get_or s 2 0) n k ≡ true → length s ≡ 8 + 10 * k
    → Answers r (read_clauses n (raws_from k (drop 8 s))) → Answers r (read_tape s)
unfolding read_tape
tape_on s r l h n k a b e d v = rw (le-ltb (length s) 8 l, h, ← a, ← b, e, eq-eqb (length s) (8 + 10 * k) d) v
