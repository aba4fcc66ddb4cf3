-- Tapes as the paper of formal statements has them, word for word, and each equal to the definition used here. Where
-- text and parts are the same nothing is repeated: `is_in`, `last_out`, the tests and records of a clause, `raws_from`,
-- `raws_of`, `list_of`. One test is no longer the paper's own: `is_opcode` takes opcode 14 too, and what is read here is
-- read with it. Values at a sample are the paper's for tapes with no opcode above 13. Runs over ranges, and the limits
-- and editions of a tape, with what rests on them, are no longer the paper's own, and not here; `Editions` has the
-- reader of its limits.
use mathlib.Core.Path.{◌≡◌, refl, sym, ap, ap₂, ◌∙◌}
use mathlib.Core.Bool.{Bool, true, false, ◌&&◌, ◌||◌, not}
use mathlib.Core.List.{List, [], ◌∷◌, ◌++◌, map, append-nil, append_assoc}
use lib.IntN.{ℤ, pos}
use Prim.Native.Nat.{ℕ, zero, suc, ◌≤◌}
use native.Mathlib.Omega.{arith}
use lib.Dec.{eqb, leb}
use lib.ListN.{length, get_or, set, replicate}
use borrow.Author.Tests.{leb-true, leb-false, le-leb, lt-leb}
use Rattle.rules.specs.Values
use Rattle.rules.specs.Tapes
use Rattle.rules.specs.Values.{pick, first_of, when, is_neg, Clause, Sample, Range}
use Rattle.rules.specs.Tapes.{Tape, no_range, is_in, Kept, kept, copy_of, Raw, is_slot, is_zero, is_opcode}
use Rattle.rules.specs.Tapes.{nat, least_word, uses_left, uses_right, clause_of, Got, bad, good}
use Rattle.rules.proofs.RestatedValues.{value_of, value_same}
use Rattle.rules.proofs.Reading.{fault_here, fault_after}

abbrev pub count : {A : Type 0} → List A → ℕ
count [] = 0
count (x ∷ xs) = suc (count xs)

pub count_same : {A : Type 0} (xs : List A) → count xs ≡ length xs
count_same [] = refl
count_same (x ∷ xs) = ap suc (count_same xs)

-- Slots of values.
abbrev pub nth_value : List ℤ → ℕ → ℤ
nth_value [] i = pos 0
nth_value (z ∷ zs) zero = z
nth_value (z ∷ zs) (suc i) = nth_value zs i

pub nth_same : (zs : List ℤ) (i : ℕ) → nth_value zs i ≡ get_or zs i (pos 0)
nth_same [] i = refl
nth_same (z ∷ zs) zero = refl
nth_same (z ∷ zs) (suc i) = nth_same zs i

abbrev pub put_value : List ℤ → ℕ → ℤ → List ℤ
put_value [] i v = []
put_value (z ∷ zs) zero v = v ∷ zs
put_value (z ∷ zs) (suc i) v = z ∷ put_value zs i v

pub put_same : (zs : List ℤ) (i : ℕ) (v : ℤ) → put_value zs i v ≡ set zs i v
put_same [] i v = refl
put_same (z ∷ zs) zero v = refl
put_same (z ∷ zs) (suc i) v = ap (λ (l : List ℤ). z ∷ l) (put_same zs i v)

abbrev pub zeros : ℕ → List ℤ
zeros zero = []
zeros (suc n) = pos 0 ∷ zeros n

pub zeros_same : (n : ℕ) → zeros n ≡ replicate n (pos 0)
zeros_same zero = refl
zeros_same (suc n) = ap (λ (l : List ℤ). pos 0 ∷ l) (zeros_same n)

-- Every opcode is one of the paper's, which end at 13.
abbrev pub UpTo13 : List Clause → Type 0
UpTo13 [] = Unit {0}
UpTo13 (c ∷ cs) = (c.opcode ≤ 13) × UpTo13 cs

-- A run on a sample: the slot written by the last clause.
abbrev pub run_from : List Clause → Sample → List ℤ → ℤ → ℤ
run_from [] s vs last = last
run_from (c ∷ cs) s vs last =
    let v = value_of c.opcode c.constant s (nth_value vs c.left) (nth_value vs c.right) in
    run_from cs s (put_value vs c.out v) v

pub run_same : (cs : List Clause) → UpTo13 cs → (s : Sample) (vs : List ℤ) (last : ℤ)
    → run_from cs s vs last ≡ Tapes.run_from cs s vs last
unfolding Tapes.run_from
run_same [] u s vs last = refl
run_same (c ∷ cs) u s vs last =
    let a = nth_value vs c.left in
    let b = nth_value vs c.right in
    let v = value_of c.opcode c.constant s a b in
    let w = Values.value_of c s (get_or vs c.left (pos 0)) (get_or vs c.right (pos 0)) in
    let f = value_same c s a b u.0 in
    let e : v ≡ w = f ∙ ap₂ (Values.value_of c s) (nth_same vs c.left) (nth_same vs c.right) in
    run_same cs u.1 s (put_value vs c.out v) v
    ∙ ap₂ (Tapes.run_from cs s) (put_same vs c.out v ∙ ap (set vs c.out) e) e

abbrev pub value_at : Tape → Sample → ℤ
value_at t s = run_from t.clauses s (zeros t.slots) (pos 0)

pub value_at_same : (t : Tape) (s : Sample) → UpTo13 t.clauses → value_at t s ≡ Tapes.value_at t s
unfolding Tapes.value_at
value_at_same t s u = rw (zeros_same t.slots) (run_same t.clauses u s (replicate t.slots (pos 0)) (pos 0))

abbrev pub material : Tape → Sample → Bool
material t s = is_neg (value_at t s)

pub material_same : (t : Tape) (s : Sample) → UpTo13 t.clauses → material t s ≡ Tapes.material t s
unfolding Tapes.material
material_same t s u = ap is_neg (value_at_same t s u)

-- Slots of ranges.
abbrev pub nth_range : List Range → ℕ → Range
nth_range [] i = no_range
nth_range (r ∷ rs) zero = r
nth_range (r ∷ rs) (suc i) = nth_range rs i

pub nth_range_same : (rs : List Range) (i : ℕ) → nth_range rs i ≡ get_or rs i no_range
nth_range_same [] i = refl
nth_range_same (r ∷ rs) zero = refl
nth_range_same (r ∷ rs) (suc i) = nth_range_same rs i

abbrev pub put_r : List Range → ℕ → Range → List Range
put_r [] i v = []
put_r (r ∷ rs) zero v = v ∷ rs
put_r (r ∷ rs) (suc i) v = r ∷ put_r rs i v

pub put_range_same : (rs : List Range) (i : ℕ) (v : Range) → put_r rs i v ≡ set rs i v
put_range_same [] i v = refl
put_range_same (r ∷ rs) zero v = refl
put_range_same (r ∷ rs) (suc i) v = ap (λ (l : List Range). r ∷ l) (put_range_same rs i v)

abbrev pub no_ranges : ℕ → List Range
no_ranges zero = []
no_ranges (suc n) = no_range ∷ no_ranges n

pub no_ranges_same : (n : ℕ) → no_ranges n ≡ replicate n no_range
no_ranges_same zero = refl
no_ranges_same (suc n) = ap (λ (l : List Range). no_range ∷ l) (no_ranges_same n)

-- The slots that an opcode reads.
abbrev pub reads : ℕ → ℕ → ℕ → List ℕ
reads o l r = pick (leb o 3) [] (pick (leb o 8) (l ∷ []) (l ∷ (r ∷ [])))

pub reads_same : (o l r : ℕ) → reads o l r ≡ Tapes.reads o l r
unfolding Tapes.reads
reads_same o l r = go (leb o 3) (leb o 8) refl refl
  where
    go : (a b : Bool) → leb o 3 ≡ a → leb o 8 ≡ b
        → pick a [] (pick b (l ∷ []) (l ∷ (r ∷ []))) ≡ pick (leb 4 o) (l ∷ pick (leb 9 o) (r ∷ []) []) []
    go true b p q = rw (lt-leb 4 o (omega (arith, leb-true o 3 p)))
    go false true p q = rw (le-leb 4 o (omega (arith, leb-false o 3 p)), lt-leb 9 o (omega (arith, leb-true o 8 q)))
    go false false p q = rw (le-leb 4 o (omega (arith, leb-false o 3 p)), le-leb 9 o (omega (arith, leb-false o 8 q)))

abbrev pub without : ℕ → List ℕ → List ℕ
without x [] = []
without x (y ∷ ys) = pick (eqb x y) [] (y ∷ []) ++ without x ys

pub without_same : (x : ℕ) (ys : List ℕ) → without x ys ≡ Tapes.without x ys
unfolding Tapes.without
without_same x [] = refl
without_same x (y ∷ ys) = ap (λ (l : List ℕ). pick (eqb x y) [] (y ∷ []) ++ l) (without_same x ys) ∙ go (eqb x y)
  where
    go : (t : Bool) → pick t [] (y ∷ []) ++ Tapes.without x ys ≡ pick t (Tapes.without x ys) (y ∷ Tapes.without x ys)
    go true = refl
    go false = refl

-- Shortening, from the last clause to the first.
abbrev pub on_clause : Clause → ℕ → Kept → Kept
on_clause c h k =
    let s = pick (eqb h 1) c.left c.right in
    let rest = without c.out k.needed in
    pick (not (is_in c.out k.needed)) k
    (pick (eqb h 0) (kept (c ∷ k.clauses) (reads c.opcode c.left c.right ++ rest))
    (pick (eqb s c.out) k (kept (copy_of c s ∷ k.clauses) (s ∷ rest))))

pub on_clause_same : (c : Clause) (h : ℕ) (k : Kept) → on_clause c h k ≡ Tapes.on_clause c h k
unfolding Tapes.on_clause
on_clause_same c h k = rw (without_same c.out k.needed, reads_same c.opcode c.left c.right)

abbrev pub short_from : List Clause → List ℕ → ℕ → Kept
short_from [] hs result = kept [] (result ∷ [])
short_from (c ∷ cs) [] result = kept [] (result ∷ [])
short_from (c ∷ cs) (h ∷ hs) result = on_clause c h (short_from cs hs result)

pub short_from_same : (cs : List Clause) (hs : List ℕ) (result : ℕ)
    → short_from cs hs result ≡ Tapes.short_from cs hs result
unfolding Tapes.short_from
short_from_same [] hs result = refl
short_from_same (c ∷ cs) [] result = refl
short_from_same (c ∷ cs) (h ∷ hs) result =
    on_clause_same c h (short_from cs hs result) ∙ ap (Tapes.on_clause c h) (short_from_same cs hs result)

-- Clauses from lists: refusals 5 to 9 with the clause.
abbrev pub clause_fault : ℕ → List ℕ → Raw → ℕ
clause_fault n written c =
    let o = nat c.opcode in
    first_of (when (not (is_opcode c.opcode)) 5)
    (first_of (when
    (not (is_slot n c.out &&
    ((not (uses_left o) || is_slot n c.left) && (not (uses_right o) || is_slot n c.right)))) 6)
    (first_of (when
    (not ((uses_left o || is_zero c.left) &&
    ((uses_right o || is_zero c.right) && (eqb o 0 || is_zero c.constant)))) 7)
    (first_of (when (eqb o 0 && least_word c.constant) 8)
    (when ((uses_left o && not (is_in (nat c.left) written)) || (uses_right o && not (is_in (nat c.right) written)))
    9))))

pub clause_fault_same : (n : ℕ) (written : List ℕ) (c : Raw) → clause_fault n written c ≡ Tapes.clause_fault n written c
unfolding Tapes.clause_fault Tapes.bad_slot Tapes.bad_unused Tapes.bad_constant Tapes.bad_read
clause_fault_same n written c = refl

abbrev pub clauses_from : ℕ → ℕ → List ℕ → List Clause → List Raw → Got
clauses_from n i written cs [] = record { number = 0; place = 0; tape = record { slots = n; clauses = cs } }
clauses_from n i written cs (r ∷ rs) =
    let f = clause_fault n written r in
    elim (eqb f 0) [
      | true ↦ clauses_from n (suc i) (nat r.out ∷ written) (cs ++ (clause_of r ∷ [])) rs
      | false ↦ bad f i
    ]

module _ (n i : ℕ) (written : List ℕ) (cs : List Clause) (r : Raw) (rs : List Raw) where
  clauses_here : eqb (clause_fault n written r) 0 ≡ false
      → clauses_from n i written cs (r ∷ rs) ≡ bad (clause_fault n written r) i
  clauses_here e = rw (e, clauses_from)

  clauses_after : eqb (clause_fault n written r) 0 ≡ true
      → clauses_from n i written cs (r ∷ rs)
      ≡ clauses_from n (suc i) (nat r.out ∷ written) (cs ++ (clause_of r ∷ [])) rs
  clauses_after e = rw (e, clauses_from)

-- What is read, given the clauses before and the first fault of those left.
abbrev got_from : ℕ → List Clause → Tapes.Fault → Got
got_from n cs f =
    pick (eqb f.number 0) (good (record { slots = n; clauses = cs })) (bad f.number f.place)

clauses_none_same : (n i : ℕ) (written : List ℕ) (cs : List Clause)
    → clauses_from n i written cs [] ≡ got_from n (cs ++ []) (Tapes.fault_from n i written [])
unfolding Tapes.fault_from
clauses_none_same n i written cs =
    ap (λ (l : List Clause). good (record { slots = n; clauses = l })) (sym (append-nil cs))

clauses_from_same : (n i : ℕ) (written : List ℕ) (cs : List Clause) (rs : List Raw)
    → clauses_from n i written cs rs ≡ got_from n (cs ++ map clause_of rs) (Tapes.fault_from n i written rs)
clauses_from_same n i written cs [] = clauses_none_same n i written cs
clauses_from_same n i written cs (r ∷ rs) =
    go (eqb f 0) refl (clauses_from_same n (suc i) (nat r.out ∷ written) (cs ++ (clause_of r ∷ [])) rs)
  where
    f : ℕ
    f = Tapes.clause_fault n written r

    go : (t : Bool) → eqb f 0 ≡ t
        → clauses_from n (suc i) (nat r.out ∷ written) (cs ++ (clause_of r ∷ [])) rs
        ≡ got_from n (cs ++ (clause_of r ∷ []) ++ map clause_of rs) (Tapes.fault_from n (suc i) (nat r.out ∷ written) rs)
        → clauses_from n i written cs (r ∷ rs) ≡ got_from n (cs ++ map clause_of (r ∷ rs))
        (Tapes.fault_from n i written (r ∷ rs))
    go true e h =
        clauses_after n i written cs r rs (rw (clause_fault_same n written r) e)
        ∙ h
        ∙ rw (fault_after n i written r rs e, append_assoc cs (clause_of r ∷ []) (map clause_of rs))
    go false e h =
        clauses_here n i written cs r rs (rw (clause_fault_same n written r) e)
        ∙ rw (fault_here n i written r rs e, clause_fault_same n written r, e)

pub clauses_same : (n : ℕ) (rs : List Raw) → clauses_from n 0 [] [] rs ≡ Tapes.read_clauses n rs
unfolding Tapes.read_clauses
clauses_same n rs = clauses_from_same n 0 [] [] rs

abbrev pub count_cl : List Clause → ℕ
count_cl cs = count cs
