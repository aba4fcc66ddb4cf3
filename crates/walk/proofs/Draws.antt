-- Drawing by parts: one after the other, over a list, and what is left of a loop over a list.
use mathlib.Core.Path.{◌≡◌, refl, ◌∙◌}
use mathlib.Core.Bool.{Bool, true, false}
use mathlib.Core.List.{List, [], ◌∷◌, ◌++◌}
use Prim.Native.Nat.{ℕ, ◌+◌, ◌*◌}
use native.Mathlib.Nat.{zero-add}
use native.Mathlib.Omega.{arith}
use lib.ListN.{length, replicate}
use lib.IntN.{ℤ, pos, negsuc}
use lib.Signed.{lt_z}
use borrow.Author.Tests.{le-ltb}
use Rattle.rules.specs.Values.{is_neg}
use Rattle.rules.specs.Tapes.{Tape, material, range_over}
use Rattle.rules.specs.Drawings.{Grid, solid, sample_at, Region, box_of, State, state, hidden}
use Rattle.rules.specs.Drawings.{children, fold, counted, fill_in, short_tape, visit, sides, whole, walked}
use Rattle.rules.proofs.Visit.{visit_hidden, visit_full, visit_empty}
use Rattle.rules.proofs.Visit.{visit_cut, visit_sample, sample_full, sample_empty}
use Rattle.walk.specs.Draws.{Draws, Fills, Hidden, Same}

-- Nothing is drawn.
pub draws_none : (R : List ℕ → List ℕ → Type 0) (b : List ℕ) → Draws R (λ s. s) b b 0
draws_none R b = record { shown = λ s h. h; count = λ s h. omega arith }

-- f, then g.
pub draws_then : {R : List ℕ → List ℕ → Type 0} {f g : State → State} {a b e : List ℕ} {c d : ℕ}
    → Draws R f a b c → Draws R g b e d → Draws R (λ s. g (f s)) a e (c + d)
draws_then {f = f} u v =
    record {
      shown = λ s h. v.shown (f s) (u.shown s h);
      count = λ s h. omega (arith, u.count s h, v.count (f s) (u.shown s h));
    }

-- Functions that are equal at every state that b shows draw the same.
pub draws_same : {R : List ℕ → List ℕ → Type 0} {f g : State → State} {b b' : List ℕ} {c : ℕ}
    → ((s : State) → R b s.heights → g s ≡ f s) → Draws R f b b' c → Draws R g b b' c
draws_same {R} {f} {g} {b} {b'} {c} e u =
    record { shown = λ s h. rw (e s h) (u.shown s h); count = λ s h. rw (e s h) (u.count s h) }

-- A fold, by the list's parts.
pub fold_append : (F : Region → State → State) (xs ys : List Region) (s : State)
    → fold F (xs ++ ys) s ≡ fold F ys (fold F xs s)
unfolding fold
fold_append F [] ys s = refl
fold_append F (q ∷ xs) ys s = fold_append F xs ys (F q s)

module _ {R : List ℕ → List ℕ → Type 0} (F : Region → State → State) where
  pub fold_none : (b : List ℕ) → Draws R (fold F []) b b 0
  unfolding fold
  fold_none b = draws_none R b

  pub fold_list : (xs ys : List Region) {a b e : List ℕ} {c d : ℕ}
      → Draws R (fold F xs) a b c → Draws R (fold F ys) b e d → Draws R (fold F (xs ++ ys)) a e (c + d)
  fold_list xs ys u v = draws_same (λ s h. fold_append F xs ys s) (draws_then u v)

-- The count by another name.
pub draws_count : {R : List ℕ → List ℕ → Type 0} {f : State → State} {b b' : List ℕ} {c d : ℕ} → c ≡ d
    → Draws R f b b' c → Draws R f b b' d
draws_count e u = rw e at u

-- A loop in the middle of its work: whatever draws g from b on, draws f from b₀, after c clauses.
pub record Rest (R : List ℕ → List ℕ → Type 0) (f g : State → State) (b₀ b : List ℕ) (c : ℕ) : Type 0 where
  pub go_on : (e : List ℕ) (d : ℕ) → Draws R g b e d → Draws R f b₀ e (c + d)

pub rest_start : (R : List ℕ → List ℕ → Type 0) (f : State → State) (b : List ℕ) → Rest R f f b b 0
rest_start R f b = record { go_on = λ e d u. draws_count (omega arith) u }

-- The laws of a loop over a list. The equation says what the loop's place makes of the list us that is left: it is
-- another list, one region before the rest, a list before the rest, or it is empty.
module _ {R : List ℕ → List ℕ → Type 0} (F : Region → State → State) where
  pub rest_from : {us xs : List Region} (b : List ℕ) → xs ≡ us → Rest R (fold F xs) (fold F us) b b 0
  rest_from {us} b h = rw h (rest_start R (fold F us) b)

module _ {R : List ℕ → List ℕ → Type 0} {f : State → State} (F : Region → State → State) {b₀ b : List ℕ} {c : ℕ} where
  pub rest_list : (xs ys : List Region) {us : List Region} {b' : List ℕ} {d : ℕ} → us ≡ xs ++ ys
      → Rest R f (fold F us) b₀ b c
      → Draws R (fold F xs) b b' d → Rest R f (fold F ys) b₀ b' (c + d)
  rest_list xs ys {us} {b'} {d} h t u =
      record {
        go_on = λ e m v.
            draws_count {c = c + (d + m)} (omega arith) (t.go_on e (d + m) (rw h (fold_list F xs ys u v)));
      }

  pub rest_one : {us ys : List Region} {q : Region} {b' : List ℕ} {d : ℕ} → us ≡ q ∷ ys → Rest R f (fold F us) b₀ b c
      → Draws R (F q) b b' d → Rest R f (fold F ys) b₀ b' (c + d)
  unfolding fold
  rest_one {us} {ys} {q} {b'} {d} h t u = rest_list (q ∷ []) ys h t u

  pub rest_done : {us : List Region} → us ≡ [] → Rest R f (fold F us) b₀ b c → Draws R f b₀ b c
  rest_done h t = draws_count {c = c + 0} (omega arith) (t.go_on b 0 (rw h (fold_none F b)))

-- What a visit draws, by case. The code knows the case by the signs of the range's ends, and in a solid by the heights.
pub seen_flat : (R : List ℕ → List ℕ → Type 0) (g : Grid) (r : Region) (b : List ℕ) → solid g ≡ false
    → Hidden R g r b false
unfolding hidden
seen_flat R g r b e = record { known = λ h k. rw e }

pub hidden_same : (g : Grid) (r : Region) (b : List ℕ) (v : Bool) → hidden g r b ≡ v → Hidden Same g r b v
hidden_same g r b v e = record { known = λ h k. rw k.same at e }

pub counted_draws : (R : List ℕ → List ℕ → Type 0) (t : Tape) (b : List ℕ)
    → Draws R (λ s. counted t s) b b (length t.clauses)
counted_draws R t b = record { shown = λ s h. h; count = λ s h. refl }

pub fill_draws : {R : List ℕ → List ℕ → Type 0} {g : Grid} {r : Region} {b b' : List ℕ} → Fills R g r b b'
    → (t : Tape) → Draws R (λ s. fill_in g r (counted t s)) b b' (length t.clauses)
fill_draws f t = record { shown = λ s h. f.shown s.heights h; count = λ s h. refl }

pub draws_hidden : {R : List ℕ → List ℕ → Type 0} {g : Grid} {r : Region} {b : List ℕ} → Hidden R g r b true
    → (ns : List ℕ) (t : Tape) → Draws R (visit ns t g r) b b 0
draws_hidden {R} {g} {r} {b} e ns t =
    draws_same (λ s h. visit_hidden ns t g r s (e.known s.heights h)) (draws_none R b)

module _ {R : List ℕ → List ℕ → Type 0} {g : Grid} {r : Region} {b : List ℕ} (e : Hidden R g r b false) (t : Tape) where
  pub draws_full : {b' : List ℕ} (n : ℕ) (ns : List ℕ) → is_neg (range_over t (box_of g r)).high ≡ true → Fills R g r b b'
      → Draws R (visit (n ∷ ns) t g r) b b' (length t.clauses)
  draws_full n ns h f =
      draws_same (λ s k. visit_full n ns t g r s (e.known s.heights k) h) (fill_draws f t)

  pub draws_empty : (n : ℕ) (ns : List ℕ) → is_neg (range_over t (box_of g r)).high ≡ false
      → is_neg (range_over t (box_of g r)).low ≡ false → Draws R (visit (n ∷ ns) t g r) b b (length t.clauses)
  draws_empty n ns h l =
      draws_same (λ s k. visit_empty n ns t g r s (e.known s.heights k) h l) (counted_draws R t b)

  pub draws_cut : {b' : List ℕ} {d : ℕ} (n : ℕ) (ns : List ℕ) → is_neg (range_over t (box_of g r)).high ≡ false
      → is_neg (range_over t (box_of g r)).low ≡ true
      → Draws R (fold (λ q y. visit ns (short_tape t g r) g q y) (children g r n)) b b' d
      → Draws R (visit (n ∷ ns) t g r) b b' (length t.clauses + d)
  draws_cut n ns h l u =
      draws_same (λ s k. visit_cut n ns t g r s (e.known s.heights k) h l) (draws_then (counted_draws R t b) u)

  -- At side 1 by the value, not the range.
  pub draws_sample_full : {b' : List ℕ} → material t (sample_at g r.i r.j r.k) ≡ true → Fills R g r b b'
      → Draws R (visit [] t g r) b b' (length t.clauses)
  draws_sample_full m f =
      draws_same
      (λ s k. visit_sample t g r s (e.known s.heights k) ∙ sample_full t g r s m)
      (fill_draws f t)

  pub draws_sample_empty : material t (sample_at g r.i r.j r.k) ≡ false
      → Draws R (visit [] t g r) b b (length t.clauses)
  draws_sample_empty m =
      draws_same
      (λ s k. visit_sample t g r s (e.known s.heights k) ∙ sample_empty t g r s m)
      (counted_draws R t b)

-- The code tests an end of a range against 0.
pub neg_test : (z : ℤ) → lt_z z (pos 0) ≡ is_neg z
neg_test (pos a) = le-ltb a 0 (omega arith)
neg_test (negsuc a) = refl

-- All tiles, from heights of 0: the walk.
pub draws_walked : {R : List ℕ → List ℕ → Type 0} (t : Tape) (g : Grid) {b b' : List ℕ} {c : ℕ}
    → Draws R (fold (λ r s. visit (sides g) t g r s) (children g whole 64)) b b' c
    → R b (replicate (g.width * g.height) 0) → R b' (walked t g).heights × ((walked t g).clauses ≡ c)
unfolding walked
draws_walked t g u h =
    let s = state (replicate (g.width * g.height) 0) 0 in
    (u.shown s h, u.count s h ∙ zero-add _)
