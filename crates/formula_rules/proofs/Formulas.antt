-- The reader of formulas does what the grammar says: what it accepts, and where it answers 17 and 18.
use mathlib.Core.Path.{◌≡◌, refl, sym, ◌∙◌, ap, subst}
use mathlib.Core.Bool.{Bool, true, false, ◌&&◌}
use mathlib.Core.List.{List, [], ◌∷◌, ◌++◌, append_assoc, append-nil}
use mathlib.Core.Logic.{◌⊎◌, inl, inr, ◌↔◌}
use Prim.Native.Nat.{ℕ, suc, ◌≤◌, ◌<◌}
use native.Mathlib.Omega.{arith}
use lib.Dec.{eqb, leb}
use lib.IntN.{pos}
use lib.ListN.{length, get_or, take, drop, length-append, take-append-drop}
use lib.Seq.{append_snoc, take_at, get_or_at, get_or-take, take-length, take-take, split_at, length-take-le}
use borrow.Author.Tests.{eqb-true, leb-true, leb-false}
use Rattle.formula_rules.specs.Trees.{Tree, number}
use Rattle.formula_rules.specs.Formulas.{nest_limit, Text, bytes_of, tree_of, nest_of, spaces, Allowed, CanBegin, open_after}
use Rattle.formula_rules.specs.Formulas.{inside_from, inside, ReadsAs, Shallow, BreaksAt, DeepAt}
use Rattle.formula_rules.specs.FormulaReader.{sum_to, end_tree, State, start, Move, no, go, move, Answer, done, breaks}
use Rattle.formula_rules.specs.FormulaReader.{deep, Level, Mode, want, spelling, named, point, after, end_in, too_deep}
use Rattle.formula_rules.specs.FormulaReader.{onward, answer, reader}
use Rattle.rules.proofs.Tests.{and_left, and_right}
use Rattle.formula_rules.proofs.FormulaTakes.{moved, reach, goes_through}
use Rattle.formula_rules.proofs.FormulaParts.{Partial, state_of, write}
use Rattle.formula_rules.proofs.FormulaMoves.{Goes, Good, goes, good_move}
use Rattle.formula_rules.proofs.FormulaEnds.{EndsAs, broken, whole_text, start_parts, finish, ends_as}
use Rattle.formula_rules.proofs.FormulaNesting.{nested_shallow, shallow_nested}

-- Where bytes lead, a part after the other.
reach_append : (p q : List ℕ) (m : Move) → reach m (p ++ q) ≡ reach (reach m p) q
unfolding reach
reach_append [] q m = refl
reach_append (b ∷ p) q m = reach_append p q (moved m b)

reach_no : (p : List ℕ) → reach no p ≡ no
unfolding reach
reach_no [] = refl
reach_no (b ∷ p) = reach_no p

no_go : {s : State} → no ≡ go s → ⊥
no_go e = let z : ◌≡◌ {A = ℕ} 0 1 = cc in omega arith

-- The brackets open after one more byte.
inside_snoc : (p : List ℕ) (b n : ℕ) → inside_from n (p ++ b ∷ []) ≡ open_after (inside_from n p) b
unfolding inside_from
inside_snoc [] b n = refl
inside_snoc (c ∷ p) b n = inside_snoc p b (open_after n c)

-- The reader has read p and is in the state s.
record Read (p : List ℕ) (s : State) : Type 0 where
  parts : Partial
  shows : state_of parts ≡ s
  writes : (r : List ℕ) → write parts r ≡ p ++ r
  nests : length s.stack ≡ inside p
  reached : reach (go start) p ≡ go s

read_start : Read [] start
unfolding spaces inside_from reach
read_start = record { parts = start_parts; shows = refl; writes = λ r. refl; nests = refl; reached = refl }

went : {d : Partial} {b : ℕ} {s : State} → Good d b (go s) → Goes d b s
went (goes g) = g

read_step : (p : List ℕ) (s : State) (b : ℕ) (t : State) → Read p s → move s b ≡ go t → Read (p ++ b ∷ []) t
unfolding reach
read_step p s b t h e =
    record {
      parts = g.to;
      shows = g.shows;
      writes = λ r. g.writes r ∙ h.writes (b ∷ r) ∙ sym (append_snoc p b r);
      nests = g.nests
          ∙ ap (λ (n : ℕ). open_after n b) (ap (λ (u : State). length u.stack) h.shows ∙ h.nests)
          ∙ sym (inside_snoc p b 0);
      reached = reach_append p (b ∷ []) (go start) ∙ ap (λ (m : Move). reach m (b ∷ [])) h.reached ∙ e;
    }
  where
    g : Goes h.parts b t
    g = went (subst (Good h.parts b) (ap (λ (u : State). move u b) h.shows ∙ e) (good_move h.parts b))

read_begins : (p : List ℕ) (s : State) → Read p s → CanBegin p
read_begins p s h =
    let (t, q, e) = finish h.parts in
    record { text = t; rest = q; writes = e ∙ h.writes q }

-- What begins an allowed text leads somewhere.
begins_reach : (p : List ℕ) → CanBegin p → reach (go start) p ≡ no → ⊥
begins_reach p c e =
    let t = goes_through c.text in
    no_go
    (sym (reach_no c.rest)
    ∙ ap (λ (m : Move). reach m c.rest) (sym e)
    ∙ sym (reach_append p c.rest (go start))
    ∙ ap (reach (go start)) (sym c.writes)
    ∙ t.goes)

-- Bytes of p and of what follows.
take_one_more : (p : List ℕ) (b : ℕ) (r : List ℕ) (n : ℕ) → length p ≡ n → take (suc n) (p ++ b ∷ r) ≡ p ++ b ∷ []
take_one_more p b r n e =
    ap (take (suc n)) (sym (append_snoc p b r)) ∙ take_at (p ++ b ∷ []) r (suc n) (length_snoc p b ∙ ap suc e)
  where
    length_snoc : (q : List ℕ) (c : ℕ) → length (q ++ c ∷ []) ≡ suc (length q)
    length_snoc q c = omega (arith, length-append q (c ∷ []))

-- A byte of p and one more: the last one, or one of p.
snoc_split : (p : List ℕ) (b : ℕ) (q : List ℕ) (c : ℕ) (r : List ℕ) → p ++ b ∷ [] ≡ q ++ c ∷ r
    → ((p ≡ q) × (b ≡ c)) ⊎ ((u : List ℕ) × (p ≡ q ++ c ∷ u))
snoc_split [] b [] c r e = inl (refl, cc)
snoc_split [] b (x ∷ q) c r e = absurd (omega (arith, ap length e, length-append q (c ∷ r)))
snoc_split (y ∷ p) b [] c r e = inr (p, cc)
snoc_split (y ∷ p) b (x ∷ q) c r e = more (snoc_split p b q c r (cc))
  where
    more : ((p ≡ q) × (b ≡ c)) ⊎ ((u : List ℕ) × (p ≡ q ++ c ∷ u))
        → ((y ∷ p ≡ x ∷ q) × (b ≡ c)) ⊎ ((u : List ℕ) × (y ∷ p ≡ x ∷ q ++ c ∷ u))
    more (inl (f, g)) = inl (cc, g)
    more (inr (u, f)) = inr (u, cc)

shallow_start : Shallow []
shallow_start = record { each = λ q r e. absurd (omega (arith, ap length e, length-append q (40 ∷ r))) }

shallow_step : (p : List ℕ) (b : ℕ) → Shallow p → (b ≡ 40 → inside p < nest_limit) → Shallow (p ++ b ∷ [])
shallow_step p b h f = record { each = λ q r e. one_of q (snoc_split p b q 40 r e) }
  where
    one_of : (q : List ℕ) → ((p ≡ q) × (b ≡ 40)) ⊎ ((u : List ℕ) × (p ≡ q ++ 40 ∷ u)) → inside q < nest_limit
    one_of q (inl (e, g)) = subst (λ (x : List ℕ). inside x < nest_limit) e (f g)
    one_of q (inr (u, e)) = h.each q u e

-- What each answer says of the text.
pub data Answered (text : List ℕ) : Answer → Type 0 where
  accepted : {t : Tree} → ReadsAs text t → Answered text (done t)
  broke : {n : ℕ} → BreaksAt text n → Answered text (breaks n)
  deeper : {n : ℕ} → DeepAt text n → Answered text (deep n)

breaks_done : {n : ℕ} {t : Tree} → breaks n ≡ done t → ⊥
breaks_done e = let z : ◌≡◌ {A = ℕ} 0 1 = cc in omega arith

same_state : {s t : State} → go s ≡ go t → s ≡ t
same_state e = cc

-- At the text's end.
abbrev end_of : State → ℕ → Answer
end_of s n = end_in s.mode s.inner s.stack n

not_allowed : (p : List ℕ) (s : State) (n : ℕ) → Read p s → breaks n ≡ end_of s n → Allowed p → ⊥
not_allowed p s n h e a =
    let t = goes_through a.text in
    let same = same_state (sym h.reached ∙ ap (reach (go start)) (sym a.writes) ∙ t.goes) in
    breaks_done (e ∙ ap (λ (u : State). end_of u n) same)

at_end_lem : (p : List ℕ) (s : State) (n : ℕ) → Read p s → Shallow p → length p ≡ n → Answered p (end_of s n)
at_end_lem p s n h sh e =
    by refl (subst (λ (u : State). EndsAs h.parts n (end_of u n)) h.shows (ends_as h.parts n))
  where
    all : take n p ≡ p
    all = ap (λ (m : ℕ). take m p) (sym e) ∙ take-length p

    by : {a : Answer} → a ≡ end_of s n → EndsAs h.parts n a → Answered p a
    by q broken =
        broke {n = n}
        (record {
          within = omega arith;
          before = rw all (read_begins p s h);
          here = λ f c. absurd (omega arith);
          ends = λ f a. not_allowed p s n h q a;
          shallow = rw all sh;
        })
    by q (whole_text x w t) =
        let e = w ∙ h.writes [] ∙ append-nil p in
        accepted (record { text = x; writes = e; tree = t; nests = shallow_nested x (subst Shallow (sym e) sh) })

-- At a byte; a bracket that is too deep, and one that is not.
many_open : (p : List ℕ) (s : State) (b : ℕ) → Read p s → too_deep s b ≡ true → nest_limit ≤ inside p
many_open p s b h g =
    let k = length s.stack in
    omega (arith, h.nests, leb-true nest_limit k (and_right (eqb b 40) (leb nest_limit k) g))

not_deep : (p : List ℕ) (s : State) (b : ℕ) → Read p s → too_deep s b ≡ false → b ≡ 40 → inside p < nest_limit
not_deep p s b h e q = omega (arith, h.nests, leb-false nest_limit (length s.stack) f)
  where
    f : leb nest_limit (length s.stack) ≡ false
    f = ap (λ (c : ℕ). eqb c 40 && leb nest_limit (length s.stack)) (sym q) ∙ e

at_byte : (p : List ℕ) (s : State) (n b : ℕ) (r : List ℕ) → Read p s → Shallow p → length p ≡ n
    → (m : Move) → move s b ≡ m → (d : Bool) → too_deep s b ≡ d
    → ((t : State) → move s b ≡ go t → too_deep s b ≡ false → Answered (p ++ b ∷ r) (answer (suc n) t r))
    → Answered (p ++ b ∷ r) (onward m d n (λ t. answer (suc n) t r))
unfolding reach
at_byte p s n b r h sh e no f d g next =
    broke {n = n}
    (record {
      within = omega (arith, length-append p (b ∷ r));
      before = rw (take_at p (b ∷ r) n e) (read_begins p s h);
      here = λ w c. begins_reach (p ++ b ∷ []) (rw (take_one_more p b r n e) at c)
          (reach_append p (b ∷ []) (go start) ∙ ap (λ (m : Move). reach m (b ∷ [])) h.reached ∙ f);
      ends = λ w a. absurd (omega (arith, length-append p (b ∷ r)));
      shallow = rw (take_at p (b ∷ r) n e) sh;
    })
at_byte p s n b r h sh e (go t) f true g next =
    deeper {n = n}
    (record {
      within = omega (arith, length-append p (b ∷ r));
      opens = get_or_at p b r 0 n e ∙ eqb-true b 40 (and_left (eqb b 40) (leb nest_limit (length s.stack)) g);
      can = rw (take_one_more p b r n e) (read_begins (p ++ b ∷ []) t (read_step p s b t h f));
      deep = rw (take_at p (b ∷ r) n e) (many_open p s b h g);
      shallow = rw (take_at p (b ∷ r) n e) sh;
    })
at_byte p s n b r h sh e (go t) f false g next = next t f g

answered : (r p : List ℕ) (s : State) (n : ℕ) → Read p s → Shallow p → length p ≡ n → Answered (p ++ r) (answer n s r)
unfolding answer
answered [] p s n h sh e = subst (λ (x : List ℕ). Answered x (end_of s n)) (sym (append-nil p)) (at_end_lem p s n h sh e)
answered (b ∷ r) p s n h sh e =
    at_byte p s n b r h sh e (move s b) refl (too_deep s b) refl
    (λ t f g. subst (λ (x : List ℕ). Answered x (answer (suc n) t r)) (append_snoc p b r)
    (answered r (p ++ b ∷ []) t (suc n) (read_step p s b t h f)
    (shallow_step p b sh (not_deep p s b h g)) (omega (arith, length-append p (b ∷ [])))))

pub reader_answers : (text : List ℕ) → Answered text (reader text)
unfolding reader
reader_answers text = answered text [] start 0 read_start shallow_start refl

-- Beginnings of beginnings, and of a whole text.
begins_less : (s : List ℕ) (m n : ℕ) → m ≤ n → CanBegin (take n s) → CanBegin (take m s)
begins_less s m n h c =
    let q = take n s in
    record {
      text = c.text;
      rest = drop m q ++ c.rest;
      writes = c.writes
          ∙ ap (λ (x : List ℕ). x ++ c.rest) (sym (take-append-drop m q))
          ∙ append_assoc (take m q) (drop m q) c.rest
          ∙ ap (λ (x : List ℕ). x ++ (drop m q ++ c.rest)) (take-take m n s h);
    }

begins_whole : (s : List ℕ) (m : ℕ) → Allowed s → CanBegin (take m s)
begins_whole s m a =
    record { text = a.text; rest = drop m s; writes = a.writes ∙ sym (take-append-drop m s) }

-- A bracket of a shallow beginning.
shallow_at : (s : List ℕ) (m n : ℕ) → m < n → n ≤ length s → get_or s m 0 ≡ 40 → Shallow (take n s)
    → inside (take m s) < nest_limit
shallow_at s m n h g e f =
    f.each (take m s) (drop (suc m) (take n s))
    (split_at (take n s) m 0 (omega (arith, length-take-le n s g))
    ∙ ap (λ (x : List ℕ). x ++ get_or (take n s) m 0 ∷ drop (suc m) (take n s)) (take-take m n s (omega arith))
    ∙ ap (λ (x : ℕ). take m s ++ x ∷ drop (suc m) (take n s)) (get_or-take n s m 0 h ∙ e))

-- Texts have one tree.
pub one_tree_lem : (x y : Text) → bytes_of x ≡ bytes_of y → tree_of x ≡ tree_of y
one_tree_lem x y e =
    let f = goes_through x in
    let g = goes_through y in
    let same = same_state (sym f.goes ∙ ap (reach (go start)) e ∙ g.goes) in
    sym f.tree ∙ ap sum_at same ∙ g.tree
  where
    tree_at : Mode → Level → Tree
    tree_at want l = number (pos 0)
    tree_at (spelling p) l = number (pos 0)
    tree_at (named p) l = number (pos 0)
    tree_at (point v) l = number (pos 0)
    tree_at (after w) l = sum_to l (end_tree w)

    sum_at : State → Tree
    sum_at s = tree_at s.mode s.inner

-- The answers exclude each other.
equal : (n m : ℕ) → (n < m → ⊥) → (m < n → ⊥) → n ≡ m
equal n m f g = omega arith

either : (n m : ℕ) → (n ≤ m → ⊥) → (m < n → ⊥) → ⊥
either n m f g = omega arith

read_read : (s : List ℕ) (t u : Tree) → ReadsAs s t → ReadsAs s u → t ≡ u
read_read s t u a b =
    sym a.tree ∙ one_tree_lem a.text b.text (a.writes ∙ sym b.writes) ∙ b.tree

allowed_as : (s : List ℕ) (t : Tree) → ReadsAs s t → Allowed s
allowed_as s t a = record { text = a.text; writes = a.writes }

read_break : (s : List ℕ) (t : Tree) (n : ℕ) → ReadsAs s t → BreaksAt s n → ⊥
read_break s t n a b =
    either (length s) n (λ h. b.ends (omega (arith, b.within)) (allowed_as s t a))
    (λ h. b.here h (begins_whole s (suc n) (allowed_as s t a)))

read_deep : (s : List ℕ) (t : Tree) (n : ℕ) → ReadsAs s t → DeepAt s n → ⊥
read_deep s t n a b =
    let whole = nested_shallow a.text a.nests in
    let h : Shallow (take (length s) s) = subst Shallow (a.writes ∙ sym (take-length s)) whole in
    let z = shallow_at s n (length s) b.within (omega arith) b.opens h in
    omega (arith, b.deep)

break_less : (s : List ℕ) (n m : ℕ) → BreaksAt s n → BreaksAt s m → n < m → ⊥
break_less s n m a b h =
    a.here (omega (arith, b.within)) (begins_less s (suc n) m h b.before)

break_deep : (s : List ℕ) (n m : ℕ) → BreaksAt s n → DeepAt s m → ⊥
break_deep s n m a b =
    either n m (λ h. a.here (omega (arith, b.within)) (begins_less s (suc n) (suc m) (omega arith) b.can))
    (λ h. omega (arith, shallow_at s m n h a.within b.opens a.shallow, b.deep))

deep_less : (s : List ℕ) (n m : ℕ) → DeepAt s n → DeepAt s m → n < m → ⊥
deep_less s n m a b h =
    omega (arith, shallow_at s n m h (omega (arith, b.within)) a.opens b.shallow, a.deep)

-- From what a text is to the reader's answer.
to_done : (s : List ℕ) (t : Tree) {a : Answer} → ReadsAs s t → Answered s a → a ≡ done t
to_done s t r (accepted {t = u} x) = ap done (read_read s u t x r)
to_done s t r (broke {n = n} x) = absurd (read_break s t n r x)
to_done s t r (deeper {n = n} x) = absurd (read_deep s t n r x)

to_breaks : (s : List ℕ) (n : ℕ) {a : Answer} → BreaksAt s n → Answered s a → a ≡ breaks n
to_breaks s n r (accepted {t = u} x) = absurd (read_break s u n x r)
to_breaks s n r (broke {n = m} x) = ap breaks (equal m n (break_less s m n x r) (break_less s n m r x))
to_breaks s n r (deeper {n = m} x) = absurd (break_deep s n m r x)

to_deep : (s : List ℕ) (n : ℕ) {a : Answer} → DeepAt s n → Answered s a → a ≡ deep n
to_deep s n r (accepted {t = u} x) = absurd (read_deep s u n x r)
to_deep s n r (broke {n = m} x) = absurd (break_deep s m n x r)
to_deep s n r (deeper {n = m} x) = ap deep (equal m n (deep_less s m n x r) (deep_less s n m r x))

from_done : {s : List ℕ} {t : Tree} → Answered s (done t) → ReadsAs s t
from_done (accepted x) = x

from_breaks : {s : List ℕ} {n : ℕ} → Answered s (breaks n) → BreaksAt s n
from_breaks (broke x) = x

from_deep : {s : List ℕ} {n : ℕ} → Answered s (deep n) → DeepAt s n
from_deep (deeper x) = x

-- The reader accepts exactly the allowed texts that nest at most 32 deep, each as its tree; it answers 17 at byte n
-- exactly if the text breaks there; and 18 exactly if a bracket is too deep there.
pub reads_exactly : (s : List ℕ) (t : Tree) → (reader s ≡ done t) ↔ ReadsAs s t
reads_exactly s t =
    (λ e. from_done (subst (Answered s) e (reader_answers s)), λ r. to_done s t r (reader_answers s))

pub breaks_exactly : (s : List ℕ) (n : ℕ) → (reader s ≡ breaks n) ↔ BreaksAt s n
breaks_exactly s n =
    (λ e. from_breaks (subst (Answered s) e (reader_answers s)), λ r. to_breaks s n r (reader_answers s))

pub deep_exactly : (s : List ℕ) (n : ℕ) → (reader s ≡ deep n) ↔ DeepAt s n
deep_exactly s n =
    (λ e. from_deep (subst (Answered s) e (reader_answers s)), λ r. to_deep s n r (reader_answers s))

-- So every allowed text within the limit is read.
pub reads_allowed : (x : Text) → nest_of x ≤ nest_limit → reader (bytes_of x) ≡ done (tree_of x)
reads_allowed x h =
    (reads_exactly (bytes_of x) (tree_of x)).1 (record { text = x; writes = refl; tree = refl; nests = h })
