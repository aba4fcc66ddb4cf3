-- The two ends of a call, over any list of lines: refused with all as it came, or done.
use mathlib.Core.Path.{◌≡◌, refl, sym, ap, ◌∙◌}
use mathlib.Core.Bool.{Bool, true, false, ◌&&◌}
use mathlib.Core.List.{List, [], ◌∷◌, ◌++◌}
use Prim.Native.Nat.{ℕ, zero, suc}
use native.Mathlib.Omega.{arith}
use lib.Dec.{eqb, leb}
use lib.ListN.{get_or}
use borrow.Author.Tests.{ne_eqb, eq-eqb}
use Rattle.rules.specs.Values.{pick, first_fault}
use Rattle.rules.specs.Tapes.{place_of, read_tape}
use Rattle.rules.proofs.Lines.{this_line, first_here}
use Rattle.rules.proofs.Places.{tape_placed}
use Rattle.answers.specs.declared.Answer.{Answer}
use Rattle.answers.specs.Says.{Answered, written, checked_by}
use Rattle.answers.proofs.LineLaws.{in_stages}

abbrev pub answer : ℕ → ℕ → ℕ → Answer
answer n p c = record { number = n; place = p; count = c }

-- The count of a call that draws nothing is 0 whatever the number, and so is the place where no tape is read.
pub no_figure : (t : Bool) → ◌≡◌ {A = ℕ} 0 (pick t 0 0)
no_figure true = refl
no_figure false = refl

pub uncounted : {n p f q : ℕ} {r : Answer} → r ≡ answer f q 0 → f ≡ n → q ≡ place_of n p → Answered n p 0 r
uncounted {n} e h k = rw e (record { number = h; place = k; count = no_figure (eqb n 0) })

pub unplaced : {n f : ℕ} {r : Answer} → r ≡ answer f 0 0 → f ≡ n → Answered n 0 0 r
unplaced {n} e h = uncounted e h (no_figure (leb 5 n && leb n 9))

-- What is lent to be written: as it came where a line refuses the call, and overwritten where it is done.
pub as_it_came : {A : Type 0} (lines : List ℕ) (b o : List A) → (first_fault lines ≡ 0 → ⊥)
    → o ≡ written (first_fault lines) b o
as_it_came lines b o h = rw (ne_eqb (first_fault lines) 0 h)

pub overwritten : {A : Type 0} (lines : List ℕ) (o : List A) {b o' : List A} → first_fault lines ≡ 0 → o' ≡ b
    → o' ≡ written (first_fault lines) b o
overwritten lines o z e = e ∙ rw (eq-eqb (first_fault lines) 0 z)

-- What a call's checks come to says whether one of its lines holds.
module _ (lines s : List ℕ) {r : Answer} (e : r ≡ checked_by lines s) where
  pub no_line : r.number ≡ 0 → first_fault lines ≡ 0
  no_line z = sym (ap (λ (a : Answer). a.number) e) ∙ z

  pub some_line : (r.number ≡ 0 → ⊥) → first_fault lines ≡ 0 → ⊥
  some_line k z = k (ap (λ (a : Answer). a.number) e ∙ z)

-- A tape that is accepted has no place, and one that is not has its own with its own number.
module _ (s lines : List ℕ) (h : get_or lines 0 0 ≡ (read_tape s).number) where
  no_place : (n : ℕ) → (read_tape s).number ≡ 0 → (read_tape s).place ≡ place_of n (read_tape s).place
  no_place n e =
      let z : (read_tape s).place ≡ 0 = (tape_placed s).placed ∙ ap (λ m. place_of m (read_tape s).place) e in
      z ∙ no_figure (leb 5 n && leb n 9) ∙ ap (place_of n) (sym z)

  own_place : (ns : List ℕ) → ns ≡ lines → ((read_tape s).number ≡ 0 → ⊥) → first_fault ns ≡ (read_tape s).number
  own_place [] e k = absurd (k (sym h ∙ ap (λ l. get_or l 0 0) (sym e)))
  own_place (n ∷ ns) e k =
      let i : n ≡ (read_tape s).number = ap (λ l. get_or l 0 0) e ∙ h in
      this_line [] n ns refl (λ z. k (sym i ∙ z)) ∙ i

  pub tape_place : (read_tape s).place ≡ place_of (first_fault lines) (read_tape s).place
  tape_place = go (read_tape s).number refl
    where
      go : (n : ℕ) → (read_tape s).number ≡ n → (read_tape s).place ≡ place_of (first_fault lines) (read_tape s).place
      go zero e = no_place (first_fault lines) e
      go (suc n) e =
          (tape_placed s).placed
          ∙ ap (λ m. place_of m (read_tape s).place) (sym (own_place lines refl (λ z. omega arith)))

  -- A call whose first line is the tape's: what its checks come to is its answer where it is refused.
  pub refused_by : {c : ℕ} {r : Answer} → r ≡ checked_by lines s → (r.number ≡ 0 → ⊥)
      → Answered (first_fault lines) (read_tape s).place c r
  refused_by e k =
      let z = ne_eqb (first_fault lines) 0 (some_line lines s e k) in
      rw e (record { number = refl; place = tape_place; count = rw z })

pub done_by_lem : (lines : List ℕ) {c k p : ℕ} {r : Answer} → r ≡ answer 0 0 k → first_fault lines ≡ 0 → k ≡ c
    → Answered (first_fault lines) p c r
done_by_lem lines {p = p} e z q =
    let y = eq-eqb (first_fault lines) 0 z in
    rw e (record { number = sym z; place = ap (λ n. place_of n p) (sym z); count = rw y q })

-- Checks in stages, by the answers that they come to: those of the first stage, and those of a next one, for which the
-- number of the stages before stands for all of their lines. `Chains` has the same of the results of checks.
pub first_stage : (s : List ℕ) {found lines : List ℕ} {p f : ℕ} {r : Answer} → r ≡ answer f p 0
    → f ≡ first_fault found → found ≡ lines → p ≡ (read_tape s).place → r ≡ checked_by lines s
first_stage s e h k q = rw (e, h, k, q)

pub next_stage : (before s : List ℕ) {found after : List ℕ} {f : ℕ} {q r : Answer} → q ≡ checked_by before s
    → r ≡ answer f q.place 0 → f ≡ first_fault (q.number ∷ found) → found ≡ after
    → r ≡ checked_by (before ++ after) s
next_stage before s {found} {after} e h k i =
    first_stage s h (k ∙ ap (λ (a : Answer). first_fault (a.number ∷ found)) e ∙ sym (in_stages before found))
    (ap (λ l. before ++ l) i) (ap (λ (a : Answer). a.place) e)

-- Where a stage refuses, its answer is the call's: the lines behind it are not tested.
pub stage_refuses : (before after s : List ℕ) {r : Answer} → r ≡ checked_by before s → (r.number ≡ 0 → ⊥)
    → r ≡ checked_by (before ++ after) s
stage_refuses before after s e h =
    e
    ∙ ap (λ n. answer n (read_tape s).place 0)
    (sym (in_stages before after ∙ first_here (first_fault before) (first_fault after) (some_line before s e h)))
