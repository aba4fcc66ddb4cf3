-- What a visit to a region does, by case: hidden, full, empty, cut and, at side 1, a sample.
use mathlib.Core.Path.{◌≡◌, refl}
use mathlib.Core.Bool.{Bool, true, false}
use mathlib.Core.List.{List, [], ◌∷◌}
use Prim.Native.Nat.{ℕ}
use Rattle.rules.specs.Values.{is_neg}
use Rattle.rules.specs.Tapes.{Tape, material, range_over}
use Rattle.rules.specs.Drawings.{Grid, sample_at, Region, box_of, State, hidden, children, fold, counted, fill_in}
use Rattle.rules.specs.Drawings.{short_tape, on_sample, visit}

pub visit_hidden : (ns : List ℕ) (t : Tape) (g : Grid) (r : Region) (s : State) → hidden g r s.heights ≡ true
    → visit ns t g r s ≡ s
unfolding visit
visit_hidden [] t g r s e = rw (e, visit)
visit_hidden (n ∷ ns) t g r s e = rw (e, visit)

pub visit_full : (n : ℕ) (ns : List ℕ) (t : Tape) (g : Grid) (r : Region) (s : State) → hidden g r s.heights ≡ false
    → is_neg (range_over t (box_of g r)).high ≡ true → visit (n ∷ ns) t g r s ≡ fill_in g r (counted t s)
unfolding visit
visit_full n ns t g r s e h = rw (e, h, visit)

pub visit_empty : (n : ℕ) (ns : List ℕ) (t : Tape) (g : Grid) (r : Region) (s : State)
    → hidden g r s.heights ≡ false → is_neg (range_over t (box_of g r)).high ≡ false
    → is_neg (range_over t (box_of g r)).low ≡ false → visit (n ∷ ns) t g r s ≡ counted t s
unfolding visit
visit_empty n ns t g r s e h l = rw (e, h, l, visit)

pub visit_cut : (n : ℕ) (ns : List ℕ) (t : Tape) (g : Grid) (r : Region) (s : State)
    → hidden g r s.heights ≡ false → is_neg (range_over t (box_of g r)).high ≡ false
    → is_neg (range_over t (box_of g r)).low ≡ true
    → visit (n ∷ ns) t g r s ≡ fold (λ q y. visit ns (short_tape t g r) g q y) (children g r n) (counted t s)
unfolding visit
visit_cut n ns t g r s e h l = rw (e, h, l, visit)

pub visit_sample : (t : Tape) (g : Grid) (r : Region) (s : State) → hidden g r s.heights ≡ false
    → visit [] t g r s ≡ on_sample t g r s
unfolding visit
visit_sample t g r s e = rw (e, visit)

-- The two cases of a sample.
pub sample_full : (t : Tape) (g : Grid) (r : Region) (s : State) → material t (sample_at g r.i r.j r.k) ≡ true
    → on_sample t g r s ≡ fill_in g r (counted t s)
unfolding on_sample
sample_full t g r s e = rw e

pub sample_empty : (t : Tape) (g : Grid) (r : Region) (s : State) → material t (sample_at g r.i r.j r.k) ≡ false
    → on_sample t g r s ≡ counted t s
unfolding on_sample
sample_empty t g r s e = rw e

-- What holds in every case holds of the visit.
pub visit_by_case : (P : State → Type 0) (n : ℕ) (ns : List ℕ) (t : Tape) (g : Grid) (r : Region) (s : State)
    → (hidden g r s.heights ≡ true → P s)
    → (is_neg (range_over t (box_of g r)).high ≡ true → P (fill_in g r (counted t s)))
    → (is_neg (range_over t (box_of g r)).low ≡ false → P (counted t s))
    → P (fold (λ q y. visit ns (short_tape t g r) g q y) (children g r n) (counted t s))
    → P (visit (n ∷ ns) t g r s)
visit_by_case P n ns t g r s hid full empty cut =
    by_case (hidden g r s.heights) refl (is_neg (range_over t (box_of g r)).high) refl
    (is_neg (range_over t (box_of g r)).low) refl
  where
    by_case : (a : Bool) → hidden g r s.heights ≡ a → (b : Bool) → is_neg (range_over t (box_of g r)).high ≡ b
        → (c : Bool) → is_neg (range_over t (box_of g r)).low ≡ c → P (visit (n ∷ ns) t g r s)
    by_case true e b h c l = rw (visit_hidden (n ∷ ns) t g r s e) (hid e)
    by_case false e true h c l = rw (visit_full n ns t g r s e h) (full h)
    by_case false e false h true l = rw (visit_cut n ns t g r s e h l) cut
    by_case false e false h false l = rw (visit_empty n ns t g r s e h l) (empty l)

pub sample_by_case : (P : State → Type 0) (t : Tape) (g : Grid) (r : Region) (s : State)
    → (hidden g r s.heights ≡ true → P s)
    → (material t (sample_at g r.i r.j r.k) ≡ true → P (fill_in g r (counted t s)))
    → (material t (sample_at g r.i r.j r.k) ≡ false → P (counted t s))
    → P (visit [] t g r s)
sample_by_case P t g r s hid full empty =
    by_case (hidden g r s.heights) refl (material t (sample_at g r.i r.j r.k)) refl
  where
    by_case : (a : Bool) → hidden g r s.heights ≡ a
        → (b : Bool) → material t (sample_at g r.i r.j r.k) ≡ b → P (visit [] t g r s)
    by_case true e b h = rw (visit_hidden [] t g r s e) (hid e)
    by_case false e true h = rw (visit_sample t g r s e, sample_full t g r s h) (full h)
    by_case false e false h = rw (visit_sample t g r s e, sample_empty t g r s h) (empty h)
