-- A call's checks, one `?` after another, in the order of the lines: what they come to where one refuses and where all
-- pass.
use mathlib.Core.Path.{◌≡◌, refl, sym, ap, ◌∙◌}
use mathlib.Core.List.{List, [], ◌∷◌, ◌++◌}
use Prim.Native.Nat.{ℕ}
use Rattle.rules.specs.Values.{first_fault}
use Rattle.rules.specs.Tapes.{read_tape}
use Rattle.rules.proofs.Lines.{first_here, first_none, lines_after, this_line}
use Rattle.std.specs.Prelude.{Result, Ok, Err, MatchResult, IsOkAnd}
use Rattle.faults.specs.declared.Fault.{Fault}
use Rattle.faults.specs.declared.Refusal.{Refusal}
use Rattle.faults.specs.Numbers.{number_of}
use Rattle.faults.proofs.NumberLaws.{some_number}
use Rattle.tape_check.specs.declared.Counts.{Counts}
use Rattle.tape_check.specs.Checks.{Accepts, Refuses}
use Rattle.answers.specs.declared.Answer.{Answer}
use Rattle.answers.specs.Says.{answer_of, answer_in, Checked}
use Rattle.answers.proofs.LineLaws.{in_stages}
use Rattle.answers.proofs.Ends.{answer, no_line, some_line}

-- The tape's own lines come first.
pub tape_refuses : {A : Type 0} {s : List ℕ} {r : Refusal} (after : List ℕ) → Refuses r (read_tape s)
    → Checked {A = A} ((read_tape s).number ∷ after) s (Err r)
tape_refuses {s = s} {r} after e =
    let k : (read_tape s).number ≡ 0 → ⊥ = λ z. some_number r.fault (e.number ∙ z) in
    record { answer = rw (first_here (read_tape s).number (first_fault after) k, sym e.number, sym e.place) refl }

pub tape_passes : {s : List ℕ} {c : Counts} → Accepts c (read_tape s)
    → Checked {A = Unit {0}} ((read_tape s).number ∷ []) s (Ok tt)
tape_passes e = record { answer = rw (e.number, e.place) refl }

-- A stage of checks that another function makes.
pub stage_refuses : {A B : Type 0} {before s : List ℕ} {r : Refusal} (after : List ℕ) → Checked {A = A} before s (Err r)
    → Checked {A = B} (before ++ after) s (Err r)
stage_refuses {before = before} {s} {r} after e =
    let k = some_line before s e.answer (some_number r.fault) in
    let h : first_fault (before ++ after) ≡ first_fault before =
    in_stages before after ∙ first_here (first_fault before) (first_fault after) k in
    record { answer = e.answer ∙ ap (λ n. answer n (read_tape s).place 0) (sym h) }

-- One more line.
pub line_refuses : {A B : Type 0} {before s : List ℕ} {n : ℕ} {a : A} {f : Fault} (after : List ℕ)
    → Checked before s (Ok a) → number_of f ≡ n
    → Checked {A = B} (before ++ (n ∷ after)) s (Err (record { fault = f; place = 0 }))
line_refuses {before = before} {s} {n} {f = f} after e h =
    let k : n ≡ 0 → ⊥ = λ z. some_number f (h ∙ z) in
    let z = no_line before s e.answer refl in
    let p : (read_tape s).place ≡ 0 = sym (ap (λ (a : Answer). a.place) e.answer) in
    record { answer = rw (this_line before n after z k, p, sym h) refl }

pub line_passes : {A : Type 0} {before s : List ℕ} {n : ℕ} {a : A} → Checked before s (Ok a) → 0 ≡ n
    → Checked (before ++ (n ∷ [])) s (Ok a)
line_passes {before = before} {s} {n} e h =
    let z = no_line before s e.answer refl in
    let p : (read_tape s).place ≡ 0 = sym (ap (λ (a : Answer). a.place) e.answer) in
    record { answer = rw (lines_after before (n ∷ []) z, first_none n, sym h, p) refl }

-- What checks leave: no line holds where they pass, and one does where they refuse.
pub none_holds : {A : Type 0} (lines s : List ℕ) {a : A} → Checked lines s (Ok a) → first_fault lines ≡ 0
none_holds lines s e = no_line lines s e.answer refl

pub one_holds : {A : Type 0} (lines s : List ℕ) {r : Refusal} → Checked {A = A} lines s (Err r) → first_fault lines ≡ 0 → ⊥
one_holds lines s {r} e = some_line lines s e.answer (some_number r.fault)

-- The answer of a call that counts nothing, from a result whose value is set to 0.
pub nothing_counted : {A : Type 0} (p : Result A Refusal) (q : Result ℕ Refusal)
    → MatchResult p (λ x. IsOkAnd q (λ y. y ≡ 0)) (λ r. q ≡ Err r)
    → answer_of q ≡ answer (answer_in p).number (answer_in p).place 0
nothing_counted (Ok x) (Ok y) m = ap (answer 0 0) m
nothing_counted (Ok x) (Err r) m = absurd m
nothing_counted (Err r) q m = rw m refl
