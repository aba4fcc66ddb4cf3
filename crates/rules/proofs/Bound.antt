-- The bound of the count in a 64-tile: at most 4,161 or 266,305 times the tape's clauses.
use mathlib.Core.Path.{◌≡◌, refl}
use mathlib.Core.Bool.{Bool, true, false}
use mathlib.Core.List.{List, [], ◌∷◌}
use Prim.Native.Nat.{ℕ, suc, ◌+◌, ◌*◌, ◌≤◌}
use native.Mathlib.Nat.{le_trans, mul_assoc, mul-le-mul_left, mul-le-mul_right}
use native.Mathlib.Omega.{arith}
use lib.ListN.{length}
use Rattle.rules.specs.Values.{pick}
use Rattle.rules.specs.Tapes.{Tape}
use Rattle.rules.specs.Drawings.{Grid, solid, Region, State, over, children, fold, counted, short_tape, visit}
use Rattle.rules.specs.Drawings.{sides, flat_bound, solid_bound, part_of}
use Rattle.rules.proofs.Short.{short_length}
use Rattle.rules.proofs.Regions.{Placed, Each, Divides, children_placed, children_flat, children_solid, Steps}
use Rattle.rules.proofs.Regions.{steps_flat, steps_solid}
use Rattle.rules.proofs.Visit.{visit_by_case, sample_by_case}

-- The regions of side n in one of side a, at most; and the runs in a region of side a, itself included.
abbrev pub most : Bool → ℕ → ℕ → ℕ
most b a n = let l = over a n in pick b (l * l * l) (l * l)

abbrev pub runs : Bool → ℕ → List ℕ → ℕ
runs b a [] = 1
runs b a (n ∷ ns) = suc (most b a n * runs b n ns)

children_most : (g : Grid) (r : Region) (a n : ℕ) → Divides r n (over a n)
    → length (children g r n) ≤ most (solid g) a n
children_most g r a n d = by_kind (solid g) refl
  where
    by_kind : (b : Bool) → solid g ≡ b → length (children g r n) ≤ most b a n
    by_kind true k = children_solid g r n (over a n) d k
    by_kind false k = children_flat g r n (over a n) d k

-- A fold adds at most m for each region.
fold_most : (f : Region → State → State) (P : Region → Type 0) (m : ℕ)
    → ((q : Region) (s : State) → P q → (f q s).clauses ≤ s.clauses + m)
    → (qs : List Region) → Each P qs → (s : State) → (fold f qs s).clauses ≤ s.clauses + length qs * m
unfolding fold Each
fold_most f P m h [] p s = omega arith
fold_most f P m h (q ∷ qs) p s = omega (arith, h q s p.0, fold_most f P m h qs p.1 (f q s))

-- A visit never takes from the count, so that a tile's part is what the visit adds to it.
fold_adds : (f : Region → State → State) → ((q : Region) (s : State) → s.clauses ≤ (f q s).clauses)
    → (qs : List Region) (s : State) → s.clauses ≤ (fold f qs s).clauses
unfolding fold
fold_adds f h [] s = omega arith
fold_adds f h (q ∷ qs) s = le_trans (h q s) (fold_adds f h qs (f q s))

pub visit_adds : (ns : List ℕ) (t : Tape) (g : Grid) (r : Region) (s : State) → s.clauses ≤ (visit ns t g r s).clauses
visit_adds [] t g r s =
    sample_by_case (λ u. s.clauses ≤ u.clauses) t g r s (λ h. omega arith) (λ h. omega arith) (λ h. omega arith)
visit_adds (n ∷ ns) t g r s =
    let u = short_tape t g r in
    visit_by_case (λ x. s.clauses ≤ x.clauses) n ns t g r s (λ h. omega arith) (λ h. omega arith) (λ h. omega arith)
    (omega (arith, fold_adds (λ q y. visit ns u g q y) (λ q y. visit_adds ns u g q y) (children g r n) (counted t s)))

pub part_added : (t : Tape) (g : Grid) (r : Region) (s : State)
    → (visit (sides g) t g r s).clauses ≡ s.clauses + part_of t g r s
unfolding part_of
part_added t g r s = omega (arith, visit_adds (sides g) t g r s)

-- At most k' regions with c runs each, on a tape that is no longer.
product_most : (k k' c x y : ℕ) → k ≤ k' → x ≤ y → k * (c * x) ≤ k' * c * y
product_most k k' c x y h e =
    rw mul_assoc (le_trans (mul-le-mul_left k (mul-le-mul_left c e)) (mul-le-mul_right (c * y) h))

pub visit_most : (ns : List ℕ) (a : ℕ) → Steps a ns → (t : Tape) (g : Grid) (r : Region) (s : State) → r.long ≡ a
    → (visit ns t g r s).clauses ≤ s.clauses + runs (solid g) a ns * length t.clauses
visit_most [] a d t g r s e =
    sample_by_case (λ u. u.clauses ≤ s.clauses + 1 * length t.clauses) t g r s (λ h. omega arith)
    (λ h. omega arith)
    (λ h. omega arith)
visit_most (n ∷ ns) a d t g r s e =
    let k = most (solid g) a n in
    let c = runs (solid g) n ns in
    let u = short_tape t g r in
    let v = d.0 r e in
    visit_by_case (λ x. x.clauses ≤ s.clauses + suc (k * c) * length t.clauses) n ns t g r s
    (λ h. omega arith) (λ h. omega arith) (λ h. omega arith)
    (omega (
      arith,
      fold_most (λ q y. visit ns u g q y) (Placed g r n) (c * length u.clauses)
          (λ q y p. visit_most ns n d.1 u g q y p.side) (children g r n) (children_placed g r n (over a n) v)
          (counted t s),
      product_most (length (children g r n)) k c (length u.clauses) (length t.clauses)
          (children_most g r a n v) (short_length t _),
    ))

-- The part of a 64-tile, whatever the state before it.
part_most : (t : Tape) (g : Grid) (r : Region) (s : State) (b : Bool) (ns : List ℕ) → solid g ≡ b → sides g ≡ ns
    → Steps 64 ns → r.long ≡ 64 → part_of t g r s ≤ runs b 64 ns * length t.clauses
unfolding part_of
part_most t g r s b ns k h d e =
    rw (h, ← k) (omega (arith, visit_most ns 64 d t g r s e))

pub part_flat : (t : Tape) (g : Grid) (r : Region) (s : State) → solid g ≡ false → r.long ≡ 64
    → part_of t g r s ≤ flat_bound * length t.clauses
unfolding sides
part_flat t g r s k e =
    part_most t g r s false (8 ∷ (1 ∷ [])) k (rw k) steps_flat e

pub part_solid : (t : Tape) (g : Grid) (r : Region) (s : State) → solid g ≡ true → r.long ≡ 64
    → part_of t g r s ≤ solid_bound * length t.clauses
unfolding sides
part_solid t g r s k e =
    part_most t g r s true (16 ∷ (4 ∷ (1 ∷ []))) k (rw k) steps_solid e
