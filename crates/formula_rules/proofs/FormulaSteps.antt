-- The reader's answer at a place of a text, step by step: what code that reads sums, products and items by calls needs.
-- A call that has read a part knows that the answer before the part, whatever stands outside, is the answer after it.
use mathlib.Core.Path.{◌≡◌, refl, sym, ◌∙◌, ap, ap₂}
use mathlib.Core.Bool.{Bool, true, false, ◌&&◌, true≢false}
use mathlib.Core.List.{List, [], ◌∷◌}
use mathlib.Core.Logic.{◌≢◌}
use Prim.Native.Nat.{ℕ, suc, ◌+◌, ◌-◌, ◌*◌, ◌≤◌, ◌<◌}
use native.Mathlib.Omega.{arith}
use lib.Dec.{eqb, leb, ltb}
use lib.ListN.{length, get_or, drop}
use lib.Seq.{drop-cons, drop-length}
use borrow.Author.Tests.{ne_eqb, ltb-true, ltb-false}
use Rattle.rules.specs.Values.{pick}
use Rattle.formula_rules.specs.Trees.{Tree}
use Rattle.formula_rules.specs.Formulas.{is_digit}
use Rattle.formula_rules.specs.FormulaReader.{Left, none, Level, level, fresh, join_left, product_to, Frame, Ended, item}
use Rattle.formula_rules.specs.FormulaReader.{digits, decimals, end_tree, want, named, after, State, state, Move, no, go}
use Rattle.formula_rules.specs.FormulaReader.{Function, choose, close_row, close_rows, move_in, move, Answer, breaks, deep}
use Rattle.formula_rules.specs.FormulaReader.{end_in, too_deep, onward, answer, when_fits}
use Rattle.formula_rules.proofs.FormulaTakes.{ended}

-- At a byte of the text; at its end.
pub byte_answer : (text : List ℕ) (n : ℕ) (s : State) → n < length text
    → let b = get_or text n 0 in
    answer n s (drop n text) ≡ onward (move s b) (too_deep s b) n (λ t. answer (suc n) t (drop (suc n) text))
unfolding answer
byte_answer text n s h = ap (answer n s) (drop-cons text n 0 h)

pub goes_answer : (text : List ℕ) (n : ℕ) (s t : State) → n < length text → move s (get_or text n 0) ≡ go t
    → too_deep s (get_or text n 0) ≡ false → answer n s (drop n text) ≡ answer (suc n) t (drop (suc n) text)
goes_answer text n s t h e d =
    byte_answer text n s h ∙ ap₂ (λ (m : Move) (x : Bool). onward m x n (λ u. answer (suc n) u (drop (suc n) text))) e d

pub breaks_answer : (text : List ℕ) (n : ℕ) (s : State) → n < length text → move s (get_or text n 0) ≡ no
    → answer n s (drop n text) ≡ breaks n
breaks_answer text n s h e =
    let b = get_or text n 0 in
    byte_answer text n s h
    ∙ ap (λ (m : Move). onward m (too_deep s b) n (λ u. answer (suc n) u (drop (suc n) text))) e

pub deep_answer : (text : List ℕ) (n : ℕ) (s t : State) → n < length text → move s (get_or text n 0) ≡ go t
    → too_deep s (get_or text n 0) ≡ true → answer n s (drop n text) ≡ deep n
deep_answer text n s t h e d =
    byte_answer text n s h ∙ ap₂ (λ (m : Move) (x : Bool). onward m x n (λ u. answer (suc n) u (drop (suc n) text))) e d

pub end_answer : (text : List ℕ) (n : ℕ) (s : State) → n ≡ length text
    → answer n s (drop n text) ≡ end_in s.mode s.inner s.stack n
unfolding answer
end_answer text n s e = ap (answer n s) (ap (λ (k : ℕ). drop k text) e ∙ drop-length text)

-- A product that an item ends, taken as one item: no byte tells the two apart.
fold_test : (x y z d : Bool) (n : ℕ) (s t : State) (m : Move) (f : State → Answer) → f s ≡ f t
    → onward (pick x no (pick y no (pick z (go s) m))) d n f ≡ onward (pick x no (pick y no (pick z (go t) m))) d n f
fold_test true y z d n s t m f e = refl
fold_test false true z d n s t m f e = refl
fold_test false false false d n s t m f e = refl
fold_test false false true true n s t m f e = refl
fold_test false false true false n s t m f e = e

fold_end : (t : Tree) (l : Level) (k : List Frame) (n : ℕ)
    → end_in (after (item t)) l k n ≡ end_in (after (item (product_to l t))) (level l.sums none false) k n
fold_end t l [] n = refl
fold_end t l (f ∷ k) n = refl

pub product_ends : (r : List ℕ) (n : ℕ) (t : Tree) (l : Level) (k : List Frame)
    → answer n (ended (item t) l k) r ≡ answer n (ended (item (product_to l t)) (level l.sums none false) k) r
unfolding answer move_in choose
product_ends [] n t l k = fold_end t l k n
product_ends (b ∷ r) n t l k =
    fold_test (is_digit b) (eqb b 46) (eqb b 32) (too_deep (ended (item t) l k) b) n _ _ _ (λ u. answer (suc n) u r)
    (product_ends r (suc n) t l k)

-- Two states that the next byte, or the end, does not tell apart.
same_answer : (text : List ℕ) (n : ℕ) (m q : Ended) (l h : Level) (k : List Frame) → n ≤ length text
    → (n < length text → move (ended m l k) (get_or text n 0) ≡ move (ended q h k) (get_or text n 0))
    → end_in (after m) l k n ≡ end_in (after q) h k n
    → answer n (ended m l k) (drop n text) ≡ answer n (ended q h k) (drop n text)
same_answer text n m q l h k w f e = by (ltb n (length text)) refl
  where
    s : State
    s = ended m l k

    t : State
    t = ended q h k

    b : ℕ
    b = get_or text n 0

    by : (x : Bool) → ltb n (length text) ≡ x → answer n s (drop n text) ≡ answer n t (drop n text)
    by true g =
        let i = ltb-true n (length text) g in
        byte_answer text n s i
        ∙ ap (λ (u : Move). onward u (too_deep s b) n (λ v. answer (suc n) v (drop (suc n) text))) (f i)
        ∙ sym (byte_answer text n t i)
    by false g =
        let i : n ≡ length text = omega (arith, ltb-false n (length text) g) in
        end_answer text n s i ∙ e ∙ sym (end_answer text n t i)

-- A sum that a product ends, taken as one item, where neither a space nor * nor / follows.
pub sum_ends : (text : List ℕ) (n : ℕ) (t : Tree) (u : Left) (k : List Frame) → n ≤ length text
    → (n < length text → (get_or text n 0 ≢ 32) × (get_or text n 0 ≢ 42) × (get_or text n 0 ≢ 47))
    → answer n (ended (item t) (level u none false) k) (drop n text)
    ≡ answer n (ended (item (join_left u t)) fresh k) (drop n text)
unfolding move_in choose
sum_ends text n t u k w f =
    same_answer text n (item t) (item (join_left u t)) (level u none false) fresh k w
    (λ h. let (p, q, r) = f h in
    let b = get_or text n 0 in
    rw (ne_eqb b 32 p, ne_eqb b 42 q, ne_eqb b 47 r))
    (at_end_lem k)
  where
    at_end_lem : (j : List Frame)
        → end_in (after (item t)) (level u none false) j n ≡ end_in (after (item (join_left u t))) fresh j n
    at_end_lem [] = refl
    at_end_lem (o ∷ j) = refl

-- A number that the next byte does not go on with is an item.
same_end : (e : Ended) (l : Level) (k : List Frame) (n : ℕ)
    → end_in (after e) l k n ≡ end_in (after (item (end_tree e))) l k n
same_end e l [] n = refl
same_end e l (f ∷ k) n = refl

abbrev pub fits_whole : ℕ → ℕ → ℕ → Bool
fits_whole v n b = leb (suc n) 5 && leb (10 * v + (b - 48)) 32767

no_digit : (x y : Bool) (s : State) (m : Move) → (x && y) ≡ false → pick x (when_fits y s) m ≡ pick x no m
no_digit true true s m e = absurd (true≢false e)
no_digit true false s m e = refl
no_digit false y s m e = refl

pub digits_end : (text : List ℕ) (i v n : ℕ) (l : Level) (k : List Frame) → i ≤ length text
    → (i < length text → ((is_digit (get_or text i 0) && fits_whole v n (get_or text i 0)) ≡ false) × (get_or text i 0 ≢ 46))
    → answer i (ended (digits v n) l k) (drop i text)
    ≡ answer i (ended (item (end_tree (digits v n))) l k) (drop i text)
unfolding move_in
digits_end text i v n l k w f =
    same_answer text i (digits v n) (item (end_tree (digits v n))) l l k w
    (λ h. let (p, q) = f h in
    let b = get_or text i 0 in
    rw (ne_eqb b 46 q) (no_digit (is_digit b) (fits_whole v n b) _ _ p))
    (same_end (digits v n) l k i)

pub decimals_end : (text : List ℕ) (i v f n : ℕ) (l : Level) (k : List Frame) → i ≤ length text
    → (i < length text → (is_digit (get_or text i 0) && leb (suc n) 4) ≡ false)
    → answer i (ended (decimals v f n) l k) (drop i text)
    ≡ answer i (ended (item (end_tree (decimals v f n))) l k) (drop i text)
unfolding move_in
decimals_end text i v f n l k w g =
    same_answer text i (decimals v f n) (item (end_tree (decimals v f n))) l l k w
    (λ h. no_digit (is_digit (get_or text i 0)) (leb (suc n) 4) _ _ (g h)) (same_end (decimals v f n) l k i)

-- Bytes that lead nowhere: where an item must come, after a name, after a sum in its bracket.
pub record NoItem (b : ℕ) : Type 0 where
  pub digit : is_digit b ≡ false
  pub space : b ≢ 32
  pub bracket : b ≢ 40
  pub x : b ≢ 120
  pub y : b ≢ 121
  pub z : b ≢ 122
  pub a : b ≢ 97
  pub s : b ≢ 115
  pub r : b ≢ 114
  pub m : b ≢ 109

pub no_item : (b : ℕ) (l : Level) (k : List Frame) → NoItem b → (l.negative ≡ false → b ≢ 45)
    → move (state want l k) b ≡ no
unfolding move_in choose
no_item b l k h g =
    rw (
      h.digit,
      ne_eqb b 32 h.space,
      ne_eqb b 40 h.bracket,
      ne_eqb b 120 h.x,
      ne_eqb b 121 h.y,
      ne_eqb b 122 h.z,
      ne_eqb b 97 h.a,
      ne_eqb b 115 h.s,
      ne_eqb b 114 h.r,
      ne_eqb b 109 h.m,
    )
    (no_minus l.negative refl)
  where
    no_minus : (t : Bool) → l.negative ≡ t
        → pick (eqb b 45) (pick l.negative no (go (state want (level l.sums l.products true) k))) no ≡ no
    no_minus true e = rw e (same (eqb b 45))
      where
        same : (u : Bool) → pick u no no ≡ no
        same true = refl
        same false = refl
    no_minus false e = rw (ne_eqb b 45 (g e))

pub no_bracket : (b : ℕ) (f : Function) (l : Level) (k : List Frame) → b ≢ 32 → b ≢ 40
    → move (state (named f) l k) b ≡ no
unfolding move_in choose
no_bracket b f l k p q = rw (ne_eqb b 32 p, ne_eqb b 40 q)

pub record NoJoin (b : ℕ) : Type 0 where
  pub space : b ≢ 32
  pub times : b ≢ 42
  pub over : b ≢ 47
  pub plus : b ≢ 43
  pub less : b ≢ 45

pub no_close : (b : ℕ) (t : Tree) (k : List Frame) → NoJoin b → choose (close_rows k t) b ≡ no
    → move (ended (item t) fresh k) b ≡ no
unfolding move_in choose
no_close b t k h e =
    rw (
      ne_eqb b 32 h.space,
      ne_eqb b 42 h.times,
      ne_eqb b 47 h.over,
      ne_eqb b 43 h.plus,
      ne_eqb b 45 h.less,
    ) (neither (is_digit b) (eqb b 46))
  where
    neither : (x y : Bool) → pick x no (pick y no (choose (close_rows k t) b)) ≡ no
    neither true y = refl
    neither false true = refl
    neither false false = e

pub no_end : (b : ℕ) (t : Tree) (f : Frame) (k : List Frame) → b ≢ (close_row f.opener f.outer k t).byte
    → choose (close_rows (f ∷ k) t) b ≡ no
unfolding choose
no_end b t f k h = rw (ne_eqb b (close_row f.opener f.outer k t).byte h)
