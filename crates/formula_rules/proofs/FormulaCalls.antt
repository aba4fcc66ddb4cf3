-- The calls that read sums, products, signed items and items, each from the calls that it makes.
use mathlib.Core.Path.{◌≡◌, refl, sym, ◌∙◌, ap}
use mathlib.Core.Bool.{Bool, true, false, ◌&&◌, true≢false}
use mathlib.Core.List.{List}
use mathlib.Core.Logic.{◌≢◌}
use Prim.Native.Nat.{ℕ, zero, suc, ◌+◌, ◌-◌, ◌≤◌, ◌<◌}
use native.Mathlib.Nat.{add-zero}
use native.Mathlib.Omega.{arith}
use lib.Dec.{eqb, leb}
use lib.ListN.{length, get_or, drop}
use Rattle.formula_rules.specs.Trees.{Tree, unary, binary, negate}
use Rattle.formula_rules.specs.Formulas.{nest_limit, SumJoin, plus, less, ProductJoin, times, over, sum_byte, product_byte}
use Rattle.formula_rules.specs.Formulas.{sum_tree, product_tree}
use Rattle.formula_rules.specs.FormulaReader.{Left, none, waits, Level, level, fresh, Frame, want, named, State, state}
use Rattle.formula_rules.specs.FormulaReader.{go, choose, move_in, move, answer, Answer, Function}
use Rattle.formula_rules.specs.FormulaCalls.{at_end, Blank, SumUpTo, ProductUpTo, ProductRead, SignedRead, ItemRead}
use Rattle.formula_rules.specs.FormulaCalls.{SumStops, ProductStops, SignedStops, ItemStops}
use Rattle.formula_rules.proofs.FormulaSteps.{goes_answer, product_ends, sum_ends}

-- A byte that is known: the state goes on, no bracket being opened.
pub known : (text : List ℕ) (n b : ℕ) (s t : State) → n < length text → get_or text n 0 ≡ b → move s b ≡ go t
    → eqb b 40 ≡ false → answer n s (drop n text) ≡ answer (suc n) t (drop (suc n) text)
known text n b s t h e f g =
    goes_answer text n s t h (ap (move s) e ∙ f)
    (ap (λ (c : ℕ). eqb c 40 && leb nest_limit (length s.stack)) e
    ∙ ap (λ (x : Bool). x && leb nest_limit (length s.stack)) g)

-- Spaces, in a state that skips them.
skip_some : (text : List ℕ) (s : State) → move s 32 ≡ go s → (c n : ℕ) → n + c ≤ length text
    → ((i : ℕ) → n ≤ i → i < n + c → get_or text i 0 ≡ 32)
    → answer n s (drop n text) ≡ answer (n + c) s (drop (n + c) text)
skip_some text s e zero n w f = ap (λ (m : ℕ). answer m s (drop m text)) (sym (add-zero n))
skip_some text s e (suc c) n w f =
    known text n 32 s s (omega arith) (f n (omega arith) (omega arith)) e refl
    ∙ skip_some text s e c (suc n) (omega arith) (λ i p q. f i (omega arith) (omega arith))
    ∙ ap (λ (m : ℕ). answer m s (drop m text)) (shift n c)
  where
    shift : (a b : ℕ) → suc a + b ≡ a + suc b
    shift a b = omega arith

skip_blank : (text : List ℕ) (n j : ℕ) (s : State) → move s 32 ≡ go s → Blank text n j
    → answer n s (drop n text) ≡ answer j s (drop j text)
skip_blank text n j s e b =
    skip_some text s e (j - n) n (omega (arith, b.from, b.within))
    (λ i p q. b.each i p (omega (arith, b.from)))
    ∙ ap (λ (m : ℕ). answer m s (drop m text)) (back b.from)
  where
    back : n ≤ j → n + (j - n) ≡ j
    back h = omega arith

pub want_blank : (text : List ℕ) (n j : ℕ) (l : Level) (k : List Frame) → Blank text n j
    → answer n (state want l k) (drop n text) ≡ answer j (state want l k) (drop j text)
unfolding move_in choose
want_blank text n j l k = skip_blank text n j (state want l k) refl

pub named_blank : (text : List ℕ) (n j : ℕ) (f : Function) (l : Level) (k : List Frame) → Blank text n j
    → answer n (state (named f) l k) (drop n text) ≡ answer j (state (named f) l k) (drop j text)
unfolding move_in choose
named_blank text n j f l k = skip_blank text n j (state (named f) l k) refl

pub end_blank : (text : List ℕ) (n j : ℕ) (t : Tree) (l : Level) (k : List Frame) → Blank text n j
    → answer n (at_end t l k) (drop n text) ≡ answer j (at_end t l k) (drop j text)
unfolding move_in choose
end_blank text n j t l k = skip_blank text n j (at_end t l k) refl

-- A signed item: no minus; a minus.
pub plain_read : (text : List ℕ) (n d m : ℕ) (t : Tree) → (n < length text → get_or text n 0 ≢ 45)
    → ItemRead text n d m t → SignedRead text n d m t
plain_read text n d m t f h =
    record {
      same = λ u q k e. h.same (level u q false) k e (λ g. f) ∙ product_ends (drop m text) m t (level u q false) k;
      within = h.within;
    }

pub minus_step : (text : List ℕ) (n : ℕ) (u q : Left) (k : List Frame) → n < length text → get_or text n 0 ≡ 45
    → answer n (state want (level u q false) k) (drop n text)
    ≡ answer (suc n) (state want (level u q true) k) (drop (suc n) text)
unfolding move_in
minus_step text n u q k h e =
    known text n 45 (state want (level u q false) k) (state want (level u q true) k) h e refl refl

-- The item stands at j, after the minus at n and spaces.
pub minus_read : (text : List ℕ) (n j d m : ℕ) (t : Tree) → n < length text → get_or text n 0 ≡ 45
    → Blank text (suc n) j → ItemRead text j d m t → SignedRead text n d m (unary negate t)
minus_read text n j d m t h e b g =
    record {
      same = λ u q k w. minus_step text n u q k h e
          ∙ want_blank text (suc n) j (level u q true) k b
          ∙ g.same (level u q true) k w (λ x. absurd (true≢false x))
          ∙ product_ends (drop m text) m t (level u q true) k;
      within = g.within;
    }

pub plain_stops : (text : List ℕ) (n d : ℕ) (a : Answer) → (n < length text → get_or text n 0 ≢ 45)
    → ItemStops text n d a → SignedStops text n d a
plain_stops text n d a f h = record { same = λ u q k e. h.same (level u q false) k e (λ g. f) }

pub minus_stops : (text : List ℕ) (n j d : ℕ) (a : Answer) → n < length text → get_or text n 0 ≡ 45
    → Blank text (suc n) j → ItemStops text j d a → SignedStops text n d a
minus_stops text n j d a h e b g =
    record {
      same = λ u q k w. minus_step text n u q k h e
          ∙ want_blank text (suc n) j (level u q true) k b
          ∙ g.same (level u q true) k w (λ x. absurd (true≢false x));
    }

-- Spaces before a signed item.
pub blank_signed : (text : List ℕ) (n j d m : ℕ) (t : Tree) → Blank text n j → SignedRead text j d m t
    → SignedRead text n d m t
blank_signed text n j d m t b h =
    record { same = λ u q k e. want_blank text n j (level u q false) k b ∙ h.same u q k e; within = h.within }

pub blank_signed_stops : (text : List ℕ) (n j d : ℕ) (a : Answer) → Blank text n j → SignedStops text j d a
    → SignedStops text n d a
blank_signed_stops text n j d a b h =
    record { same = λ u q k e. want_blank text n j (level u q false) k b ∙ h.same u q k e }

-- A product: its first signed item, spaces, a join and the next one, its end.
pub product_start : (text : List ℕ) (n d m : ℕ) (t : Tree) → SignedRead text n d m t → ProductUpTo text n d m t
product_start text n d m t h = record { same = λ u k e. h.same u none k e; within = h.within }

pub product_start_stops : (text : List ℕ) (n d : ℕ) (a : Answer) → SignedStops text n d a → ProductStops text n d a
product_start_stops text n d a h = record { same = λ u k e. h.same u none k e }

pub product_blank : (text : List ℕ) (n d m j : ℕ) (t : Tree) → ProductUpTo text n d m t → Blank text m j
    → ProductUpTo text n d j t
product_blank text n d m j t h b =
    record {
      same = λ u k e. h.same u k e ∙ end_blank text m j t (level u none false) k b;
      within = b.within;
    }

times_goes : (text : List ℕ) (m : ℕ) (o : ProductJoin) (t : Tree) (u : Left) (k : List Frame) → m < length text
    → get_or text m 0 ≡ product_byte o
    → answer m (at_end t (level u none false) k) (drop m text)
    ≡ answer (suc m) (state want (level u (waits t (product_tree o)) false) k) (drop (suc m) text)
unfolding move_in choose
times_goes text m times t u k h e =
    known text m 42 (at_end t (level u none false) k) (state want (level u (waits t (product_tree times)) false) k) h e
    refl refl
times_goes text m over t u k h e =
    known text m 47 (at_end t (level u none false) k) (state want (level u (waits t (product_tree over)) false) k) h e
    refl refl

pub product_step : (text : List ℕ) (n d m j : ℕ) (o : ProductJoin) (t v : Tree) → ProductUpTo text n d m t
    → m < length text → get_or text m 0 ≡ product_byte o → SignedRead text (suc m) d j v
    → ProductUpTo text n d j (binary (product_tree o) t v)
product_step text n d m j o t v h w e g =
    record {
      same = λ u k q. h.same u k q ∙ times_goes text m o t u k w e ∙ g.same u (waits t (product_tree o)) k q;
      within = g.within;
    }

pub product_step_stops : (text : List ℕ) (n d m : ℕ) (o : ProductJoin) (t : Tree) (a : Answer)
    → ProductUpTo text n d m t → m < length text → get_or text m 0 ≡ product_byte o → SignedStops text (suc m) d a
    → ProductStops text n d a
product_step_stops text n d m o t a h w e g =
    record {
      same = λ u k q. h.same u k q ∙ times_goes text m o t u k w e ∙ g.same u (waits t (product_tree o)) k q;
    }

-- A sum: its first product, a join and the next one, its end.
pub sum_start : (text : List ℕ) (n d m : ℕ) (t : Tree) → ProductRead text n d m t → SumUpTo text n d m t
sum_start text n d m t h =
    record { same = λ k e. h.up_to.same none k e; within = h.up_to.within; no_times = h.no_times }

pub sum_start_stops : (text : List ℕ) (n d : ℕ) (a : Answer) → ProductStops text n d a → SumStops text n d a
sum_start_stops text n d a h = record { same = λ k e. h.same none k e }

plus_goes : (text : List ℕ) (m : ℕ) (o : SumJoin) (t : Tree) (k : List Frame) → m < length text
    → get_or text m 0 ≡ sum_byte o
    → answer m (at_end t fresh k) (drop m text)
    ≡ answer (suc m) (state want (level (waits t (sum_tree o)) none false) k) (drop (suc m) text)
unfolding move_in choose
plus_goes text m plus t k h e =
    known text m 43 (at_end t fresh k) (state want (level (waits t (sum_tree plus)) none false) k) h e refl refl
plus_goes text m less t k h e =
    known text m 45 (at_end t fresh k) (state want (level (waits t (sum_tree less)) none false) k) h e refl refl

pub sum_step : (text : List ℕ) (n d m j : ℕ) (o : SumJoin) (t v : Tree) → SumUpTo text n d m t
    → m < length text → get_or text m 0 ≡ sum_byte o → ProductRead text (suc m) d j v
    → SumUpTo text n d j (binary (sum_tree o) t v)
sum_step text n d m j o t v h w e g =
    record {
      same = λ k q. h.same k q
          ∙ plus_goes text m o t k w e
          ∙ g.up_to.same (waits t (sum_tree o)) k q
          ∙ sum_ends text j v (waits t (sum_tree o)) k g.up_to.within
          (λ i. (g.no_times.space i, g.no_times.times i, g.no_times.over i));
      within = g.up_to.within;
      no_times = g.no_times;
    }

pub sum_step_stops : (text : List ℕ) (n d m : ℕ) (o : SumJoin) (t : Tree) (a : Answer) → SumUpTo text n d m t
    → m < length text → get_or text m 0 ≡ sum_byte o → ProductStops text (suc m) d a → SumStops text n d a
sum_step_stops text n d m o t a h w e g =
    record { same = λ k q. h.same k q ∙ plus_goes text m o t k w e ∙ g.same (waits t (sum_tree o)) k q }
