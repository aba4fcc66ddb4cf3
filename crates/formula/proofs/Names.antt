-- Names, letter by letter, and the bracket after one.
use mathlib.Core.Path.{◌≡◌, refl, subst, ap, ◌∙◌}
use mathlib.Core.Bool.{Bool, true, false}
use mathlib.Core.List.{List, [], ◌∷◌}
use Prim.Native.Nat.{ℕ, ◌+◌, ◌≤◌, ◌<◌}
use native.Mathlib.Numerals.{add-one}
use native.Mathlib.Omega.{arith}
use lib.Dec.{eqb, ltb}
use lib.ListN.{length, get_or, drop}
use borrow.Author.Tests.{ltb-true, ltb-false, ne_eqb}
use Rattle.std.proofs.Common.{None, Some, Result, Ok, Err, inl, inr, drop-cons}
use Rattle.std.proofs.lemmas.List.{drop_all}
use Rattle.formula_rules.specs.Trees.{axis}
use Rattle.formula_rules.specs.Formulas.{axis_byte}
use Rattle.formula_rules.specs.Formulas.{absName, sqrName, rootName, minName, maxName}
use Rattle.formula_rules.specs.FormulaReader.{Level, Frame, called, opened, Spelling, a-, ab-, s-, sq-, r-, ro-, roo-}
use Rattle.formula_rules.specs.FormulaReader.{m-, mi-, ma-, of_one, of_two, Mode, want, spelling, named, no}
use Rattle.formula_rules.specs.FormulaReader.{choose, move_in, end_in, breaks, opener_of}
use Rattle.formula_rules.specs.FormulaReader as reader
use Rattle.formula_rules.specs.FormulaCalls.{Blank, ItemStops, ModeRead}
use Rattle.formula_rules.specs.FormulaDepths.{clauses_at}
use Rattle.formula_rules.proofs.FormulaSteps.{NoItem, no_item, no_bracket}
use Rattle.formula_rules.proofs.FormulaItems.{mode_start, mode_step, mode_stops, mode_ends, mode_blank, item_stops, item_ends}
use Rattle.formula_rules.proofs.FormulaItems.{axis_read, bracket_opens, bracket_deep, name_opens, name_deep}
use Rattle.formula.specs.declared.text.Stop.{Stop}
use Rattle.formula.specs.declared.head.Name.{Name}
use Rattle.formula.specs.declared.steps.Axis as declared
use Rattle.formula.specs.declared.steps.Unary.{Unary}
use Rattle.formula.specs.declared.steps.Binary.{Binary}
use Rattle.formula.specs.declared.steps.Function.{Function}
use Rattle.formula.specs.declared.steps.Function.TheVariants as function
use Rattle.formula.specs.declared.steps.Step.TheVariants as kind
use Rattle.formula.specs.Bytes.{Here, NotHere, Missed, Passed}
use Rattle.formula.specs.Steps.{axis_of, Means}
use Rattle.formula.specs.Heads.{Spells, BreaksIn, StopsIn, NoLeaf, NameAt, OpensAt, OneAt, TwoAt, nothing, one}
use Rattle.formula.specs.Heads.{LeafAt, Spelt, WordAt}

-- Where no byte, or a byte that leads nowhere, stands.
mode_no : (text : List ℕ) (n j : ℕ) (w : Mode) → ModeRead text n j w
    → (j < length text → (l : Level) (k : List Frame) → move_in w l k (get_or text j 0) ≡ no)
    → ((l : Level) (k : List Frame) → end_in w l k j ≡ breaks j) → BreaksIn text n j
mode_no text n j w r f g = record { stops = λ d. by d (ltb j (length text)) refl }
  where
    by : (d : ℕ) (t : Bool) → ltb j (length text) ≡ t → ItemStops text n d (breaks j)
    by d true e = let h = ltb-true j (length text) e in mode_stops text n j d w r h (f h)
    by d false e =
        let h = ltb-false j (length text) e in
        mode_ends text n j d w r (omega (arith, r.within)) g

pub no_letter : (text : List ℕ) (n m b : ℕ) (p : Spelling) (w : Mode) → ModeRead text n m (spelling p) → Spells p b w
    → NotHere text m b → BreaksIn text n m
no_letter text n m b p w h s f =
    mode_no text n m (spelling p) h (λ l. s.stops (get_or text m 0) (f.other l)) (λ l k. refl)

closed_at : (text : List ℕ) (n b : ℕ) → Here text n b → eqb b 40 ≡ false → eqb (get_or text n 0) 40 ≡ false
closed_at text n b h e = ap (λ c. eqb c 40) h.byte ∙ e

pub next_letter : (text : List ℕ) (n m b : ℕ) (p : Spelling) (w : Mode) → ModeRead text n m (spelling p)
    → Spells p b w → Here text m b → ModeRead text n (m + 1) w
next_letter text n m b p w r s h =
    rw (add-one m)
    (mode_step text n m (spelling p) w r h.within (closed_at text m b h s.closed)
    (λ l k. ap (move_in (spelling p) l k) h.byte ∙ s.goes l k))

-- The letters.
pub spells_ab : Spells a- 98 (spelling ab-)
unfolding move_in choose
spells_ab = record { goes = λ l k. refl; stops = λ c f l k. rw (ne_eqb c 98 f); closed = refl }

pub spells_abs : Spells ab- 115 (named (of_one absName))
unfolding move_in choose
spells_abs = record { goes = λ l k. refl; stops = λ c f l k. rw (ne_eqb c 115 f); closed = refl }

pub spells_sq : Spells s- 113 (spelling sq-)
unfolding move_in choose
spells_sq = record { goes = λ l k. refl; stops = λ c f l k. rw (ne_eqb c 113 f); closed = refl }

pub spells_sqr : Spells sq- 114 (named (of_one sqrName))
unfolding move_in choose
spells_sqr = record { goes = λ l k. refl; stops = λ c f l k. rw (ne_eqb c 114 f); closed = refl }

pub spells_ro : Spells r- 111 (spelling ro-)
unfolding move_in choose
spells_ro = record { goes = λ l k. refl; stops = λ c f l k. rw (ne_eqb c 111 f); closed = refl }

pub spells_roo : Spells ro- 111 (spelling roo-)
unfolding move_in choose
spells_roo = record { goes = λ l k. refl; stops = λ c f l k. rw (ne_eqb c 111 f); closed = refl }

pub spells_root : Spells roo- 116 (named (of_one rootName))
unfolding move_in choose
spells_root = record { goes = λ l k. refl; stops = λ c f l k. rw (ne_eqb c 116 f); closed = refl }

pub spells_min : Spells mi- 110 (named (of_two minName))
unfolding move_in choose
spells_min = record { goes = λ l k. refl; stops = λ c f l k. rw (ne_eqb c 110 f); closed = refl }

pub spells_max : Spells ma- 120 (named (of_two maxName))
unfolding move_in choose
spells_max = record { goes = λ l k. refl; stops = λ c f l k. rw (ne_eqb c 120 f); closed = refl }

-- After an m: an i, an a, or neither.
module _ (text : List ℕ) (n m : ℕ) (r : ModeRead text n m (spelling m-)) where
  pub then_i : Here text m 105 → ModeRead text n (m + 1) (spelling mi-)
  unfolding move_in choose
  then_i h =
      rw (add-one m)
      (mode_step text n m (spelling m-) (spelling mi-) r h.within (closed_at text m 105 h refl)
      (λ l k. ap (move_in (spelling m-) l k) h.byte))

  pub then_a : Here text m 97 → ModeRead text n (m + 1) (spelling ma-)
  unfolding move_in choose
  then_a h =
      rw (add-one m)
      (mode_step text n m (spelling m-) (spelling ma-) r h.within (closed_at text m 97 h refl)
      (λ l k. ap (move_in (spelling m-) l k) h.byte))

  pub then_none : NotHere text m 105 → NotHere text m 97 → BreaksIn text n m
  unfolding move_in choose
  then_none p q =
      mode_no text n m (spelling m-) r
      (λ h l k. rw (ne_eqb (get_or text m 0) 105 (p.other h), ne_eqb (get_or text m 0) 97 (q.other h)))
      (λ l k. refl)

-- The first letter.
module _ (text : List ℕ) (n : ℕ) where
  pub first_a : Here text n 97 → ModeRead text n (n + 1) (spelling a-)
  unfolding move_in choose
  first_a h =
      rw (add-one n)
      (mode_start text n (spelling a-) h.within (closed_at text n 97 h refl)
      (λ l k u. ap (move_in want l k) h.byte))

  pub first_s : Here text n 115 → ModeRead text n (n + 1) (spelling s-)
  unfolding move_in choose
  first_s h =
      rw (add-one n)
      (mode_start text n (spelling s-) h.within (closed_at text n 115 h refl)
      (λ l k u. ap (move_in want l k) h.byte))

  pub first_r : Here text n 114 → ModeRead text n (n + 1) (spelling r-)
  unfolding move_in choose
  first_r h =
      rw (add-one n)
      (mode_start text n (spelling r-) h.within (closed_at text n 114 h refl)
      (λ l k u. ap (move_in want l k) h.byte))

  pub first_m : Here text n 109 → ModeRead text n (n + 1) (spelling m-)
  unfolding move_in choose
  first_m h =
      rw (add-one n)
      (mode_start text n (spelling m-) h.within (closed_at text n 109 h refl)
      (λ l k u. ap (move_in want l k) h.byte))

  -- No item: its first byte, or the end.
  pub no_front : n ≤ length text → (n < length text → NoItem (get_or text n 0)) → BreaksIn text n n
  no_front h f = record { stops = λ d. by d (ltb n (length text)) refl }
    where
      by : (d : ℕ) (t : Bool) → ltb n (length text) ≡ t → ItemStops text n d (breaks n)
      by d true e =
          let w = ltb-true n (length text) e in
          item_stops text n d w (λ l k u. no_item (get_or text n 0) l k (f w) (λ g. u g w))
      by d false e =
          let w = ltb-false n (length text) e in
          item_ends text n d (omega arith)

  pub no_word : n ≤ length text → NoLeaf text n → NotHere text n 97 → NotHere text n 115 → NotHere text n 114
      → NotHere text n 109 → BreaksIn text n n
  no_word h g a s r m =
      no_front h
      (λ w. record {
        digit = g.digit.none w;
        space = g.space.other w;
        bracket = g.bracket.other w;
        x = g.x.other w;
        y = g.y.other w;
        z = g.z.other w;
        a = a.other w;
        s = s.other w;
        r = r.other w;
        m = m.other w;
      })

-- The last letters of a name, as the loop over them has it.
module _ (text : List ℕ) (n : ℕ) (bs : List ℕ) (i : ℕ) (f : Function) where
  pub spelt_broken : (s : Stop) → i < length bs → Missed text n (get_or bs i 0) s → Spelt text n (drop i bs) f (Err s)
  unfolding Spelt
  spelt_broken s h m = rw (drop-cons bs i 0) (inr (m.other, ap Err m.stop))

  pub spelt_on : (m : ℕ) (r : Result Name Stop) → i < length bs → Passed text n (get_or bs i 0) m
      → Spelt text m (drop (i + 1) bs) f r → Spelt text n (drop i bs) f r
  unfolding Spelt
  spelt_on m r h p q =
      rw (drop-cons bs i 0)
      (inl (p.here, rw (← p.next) (rw (add-one i) at q)))

  pub spelt_all : length bs ≤ i → Spelt text n (drop i bs) f (Ok (record { end = n; function = f }))
  unfolding Spelt
  spelt_all h = rw (drop_all i bs h) refl

-- What the last letters say where the reader has read those before them: one, two or three.
module _ (text : List ℕ) (n : ℕ) (g : reader.Function) (f : Function) (same : Means f g) where
  pub word_1 : (m a : ℕ) (p : Spelling) (r : Result Name Stop) → n < m → Spells p a (named g)
      → ModeRead text n m (spelling p) → Spelt text m (a ∷ []) f r → WordAt text n r
  unfolding Spelt
  word_1 m a p r l s h (inl (i, e)) =
      rw e
      (record { function = g; read = next_letter text n m a p (named g) h s i; means = same; on = omega arith })
  word_1 m a p r l s h (inr (i, e)) = rw e (no_letter text n m a p (named g) h s i)

  pub word_2 : (m a b : ℕ) (p q : Spelling) (r : Result Name Stop) → n < m → Spells p a (spelling q)
      → Spells q b (named g) → ModeRead text n m (spelling p) → Spelt text m (a ∷ (b ∷ [])) f r → WordAt text n r
  unfolding Spelt
  word_2 m a b p q r l s t h (inl (i, e)) =
      word_1 (m + 1) b q r (omega arith) t (next_letter text n m a p (spelling q) h s i) e
  word_2 m a b p q r l s t h (inr (i, e)) = rw e (no_letter text n m a p (spelling q) h s i)

  pub word_3 : (m a b c : ℕ) (p q o : Spelling) (r : Result Name Stop) → n < m → Spells p a (spelling q)
      → Spells q b (spelling o) → Spells o c (named g) → ModeRead text n m (spelling p)
      → Spelt text m (a ∷ (b ∷ (c ∷ []))) f r → WordAt text n r
  unfolding Spelt
  word_3 m a b c p q o r l s t u h (inl (i, e)) =
      word_2 (m + 1) b c q o r (omega arith) t u (next_letter text n m a p (spelling q) h s i) e
  word_3 m a b c p q o r l s t u h (inr (i, e)) = rw e (no_letter text n m a p (spelling q) h s i)

-- A name's bracket.
module _ (text : List ℕ) (n j : ℕ) (x : Name) (a : NameAt text n x) (b : Blank text x.end j) where
  read : ModeRead text n j (named a.function)
  read = mode_blank text n x.end j a.function a.read b

  pub no_open : (s : Stop) → Missed text j 40 s → StopsIn text n s
  no_open s m =
      rw m.stop
      (mode_no text n j (named a.function) read
      (λ h l k. no_bracket (get_or text j 0) a.function l k (b.ends h) (m.other.other h)) (λ l k. refl))

  opens_named : Here text j 40 → OpensAt text n j (opener_of a.function)
  opens_named h =
      record {
        on = omega (arith, a.on, b.from);
        within = h.within;
        opens = λ d g. name_opens text n j d a.function read h.within h.byte g;
        stops = λ d g. name_deep text n j d a.function read h.within h.byte g;
      }

  pub one_named : (u : Unary) → x.function ≡ function.One u → Here text j 40 → OneAt text n j (Some u)
  one_named u e h = by a.function (subst (λ f. Means f a.function) e a.means) (opens_named h)
    where
      by : (f : reader.Function) → Means (function.One u) f → OpensAt text n j (opener_of f) → OneAt text n j (Some u)
      by (of_one f) q o = record { opener = called f; follows = one f u q; opens = o }
      by (of_two f) q o = absurd q

  pub two_named : (u : Binary) → x.function ≡ function.Two u → Here text j 40 → TwoAt text n j u
  two_named u e h = by a.function (subst (λ f. Means f a.function) e a.means) (opens_named h)
    where
      by : (f : reader.Function) → Means (function.Two u) f → OpensAt text n j (opener_of f) → TwoAt text n j u
      by (of_one f) q o = absurd q
      by (of_two f) q o = record { name = f; same = q; opens = o }

pub own_bracket : (text : List ℕ) (n : ℕ) → Here text n 40 → OneAt text n n None
own_bracket text n h =
    record {
      opener = opened;
      follows = nothing;
      opens = record {
        on = omega arith;
        within = h.within;
        opens = λ d g. bracket_opens text n d h.within h.byte g;
        stops = λ d g. bracket_deep text n d h.within h.byte g;
      };
    }

-- An axis.
pub axis_at : (text : List ℕ) (n : ℕ) (a : declared.Axis) → Here text n (axis_byte (axis_of a))
    → LeafAt text n (n + 1) (kind.Axis a)
unfolding clauses_at
axis_at text n a i =
    record {
      tree = axis (axis_of a);
      read = λ d. rw (add-one n) (axis_read text n d (axis_of a) i.within i.byte);
      clause = λ s. refl;
      small = tt;
      on = omega arith;
      within = omega (arith, i.within);
    }
