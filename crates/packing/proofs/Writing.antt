-- What is written into a lent output from the front: the clauses of an accepted tape one by one.
use mathlib.Core.Path.{◌≡◌, refl, sym, ap, ap₂, ◌∙◌}
use mathlib.Core.List.{List, [], ◌∷◌, ◌++◌, map}
use Prim.Native.Nat.{ℕ, suc, ◌+◌, ◌≤◌}
use native.Mathlib.Omega.{arith}
use lib.ListN.{length, take, drop, length-append, length-drop}
use lib.Seq.{sets, sets-eq, length-sets, length-take-le, take_all, take_at, take-add, take-append_seam}
use lib.Seq.{drop-append_seam, drop-drop}
use Rattle.rules.specs.Values.{Clause}
use Rattle.rules.specs.Tapes.{Raw, clause_of, fault_from}
use Rattle.rules.proofs.Reading.{Passed, passed, no_fault_lem}

-- The first elements of l are those of b, and stay so with the next ones of b stored after them.
module _ {A : Type 0} (b l vs ws : List A) (a : ℕ) (same : take a l ≡ take a b) (rest : drop a b ≡ vs ++ ws)
    (room : a + length vs ≤ length l) where
  more_same : take (a + length vs) (sets l a vs) ≡ take (a + length vs) b
  more_same =
      let h : a ≤ length l = omega arith in
      let n : length (take a l ++ vs) ≡ a + length vs =
      length-append (take a l) vs ∙ ap (λ k. k + length vs) (length-take-le a l h) in
      ap (take (a + length vs)) (sets-eq vs l a room)
      ∙ take_at (take a l ++ vs) (drop (a + length vs) l) (a + length vs) n
      ∙ ap₂ (λ x y. x ++ y) same (sym (take-append_seam vs ws))
      ∙ ap (λ x. take a b ++ take (length vs) x) (sym rest)
      ∙ sym (take-add a (length vs) b)

  more_rest : drop (a + length vs) b ≡ ws
  more_rest = sym (drop-drop (length vs) a b) ∙ ap (drop (length vs)) rest ∙ drop-append_seam vs ws

-- Before the i-th clause: the output o, of b's length, has the first a elements of b, the others are those of the
-- clauses that are left, and none of these has a fault.
pub record Written {A : Type 0} (f : List Clause → List A) (b : List A) (n i a : ℕ) (rs : List Raw) (o : List A)
    : Type 0 where
  pub size : length o ≡ length b
  pub same : take a o ≡ take a b
  pub rest : drop a b ≡ f (map clause_of rs)
  pub written : List ℕ
  pub faultless : (fault_from n i written rs).number ≡ 0

-- At the start what stands before the clauses is written.
pub start_written : {A : Type 0} (f : List Clause → List A) (b : List A) (n : ℕ) (left : List Raw) (o p vs : List A)
    → b ≡ vs ++ f (map clause_of left) → length o ≡ length b → p ≡ sets o 0 vs → (fault_from n 0 [] left).number ≡ 0
    → Written f b n 0 (length vs) left p
start_written f b n left o p vs e size q h =
    let ws = f (map clause_of left) in
    let room : 0 + length vs ≤ length o = omega (arith, ap length e, length-append vs ws) in
    let z : 0 + length vs ≡ length vs = omega arith in
    record {
      size = ap length q ∙ length-sets o 0 vs ∙ size;
      same = ap (take (length vs)) q ∙ (rw z at (more_same b o vs ws 0 refl e room));
      rest = rw z at (more_rest b o vs ws 0 refl e room);
      written = [];
      faultless = h;
    }

module _ {A : Type 0} (f : List Clause → List A) (b : List A) (n : ℕ) where
  pub written_to : {i j a c : ℕ} {left left' : List Raw} {o : List A} → i ≡ j → a ≡ c → left ≡ left'
      → Written f b n i a left o → Written f b n j c left' o
  written_to {o = o} p q r w =
      record {
        size = w.size;
        same = rw q at w.same;
        rest = sym (ap (λ x. drop x b) q) ∙ w.rest ∙ ap (λ x. f (map clause_of x)) r;
        written = w.written;
        faultless = sym (ap₂ (λ x y. (fault_from n x w.written y).number) p r) ∙ w.faultless;
      }

  pub clause_passed : {i a : ℕ} {r : Raw} {rs : List Raw} {o : List A} (w : Written f b n i a (r ∷ rs) o)
      → Passed n w.written r
  clause_passed {i = i} {r = r} {rs = rs} w =
      passed n w.written r (no_fault_lem n i w.written r rs w.faultless).here

  pub next_written : ((c : Clause) (cs : List Clause) → f (c ∷ cs) ≡ f (c ∷ []) ++ f cs)
      → {i a : ℕ} {r : Raw} {rs : List Raw} {o p vs : List A} → Written f b n i a (r ∷ rs) o
      → vs ≡ f (clause_of r ∷ []) → p ≡ sets o a vs → a + length vs ≤ length o
      → Written f b n (suc i) (a + length vs) rs p
  next_written cons {i} {a} {r} {rs} {o} {p} {vs} w v e room =
      let ws = f (map clause_of rs) in
      let rest : drop a b ≡ vs ++ ws = w.rest ∙ cons (clause_of r) (map clause_of rs) ∙ ap (λ x. x ++ ws) (sym v) in
      record {
        size = ap length e ∙ length-sets o a vs ∙ w.size;
        same = ap (take (a + length vs)) e ∙ more_same b o vs ws a w.same rest room;
        rest = more_rest b o vs ws a w.same rest room;
        written = _;
        faultless = (no_fault_lem n i w.written r rs w.faultless).after;
      }

  pub all_written : f [] ≡ [] → {i a : ℕ} {o : List A} → Written f b n i a [] o → o ≡ b
  all_written e {a = a} {o = o} w =
      let none : length (drop a b) ≡ 0 = ap length (w.rest ∙ e) in
      let past : length b ≤ a = omega (arith, length-drop a b) in
      sym (take_all a o (omega (arith, w.size))) ∙ w.same ∙ take_all a b past
