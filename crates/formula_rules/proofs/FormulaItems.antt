-- The calls that read an item: axes, numbers, names and brackets; and the reader's answer from the sum of a whole text.
use mathlib.Core.Path.{◌≡◌, refl, ◌∙◌, ap}
use mathlib.Core.Bool.{Bool, true, false, ◌&&◌}
use mathlib.Core.List.{List, [], ◌∷◌}
use mathlib.Core.Logic.{◌≢◌}
use lib.IntN.{pos}
use Prim.Native.Nat.{ℕ, suc, ◌+◌, ◌-◌, ◌*◌, ◌≤◌, ◌<◌}
use native.Mathlib.Omega.{arith}
use lib.Dec.{eqb, leb}
use lib.ListN.{length, get_or, drop}
use borrow.Author.Tests.{lt-leb, le-leb, leb-true, ne_eqb}
use Rattle.formula_rules.specs.Trees.{Tree, Axis, axisX, axisY, axisZ, number, axis, unary, binary}
use Rattle.formula_rules.specs.Formulas.{nest_limit, is_digit, axis_byte, One, Two, one_tree, two_tree, whole_units}
use Rattle.formula_rules.specs.Formulas.{decimal_units}
use Rattle.formula_rules.specs.FormulaReader.{Level, fresh, Frame, frame, Opener, opened, called, first_of, second_of}
use Rattle.formula_rules.specs.FormulaReader.{digits, decimals, Mode, want, named, point, after, state, no, go, Function}
use Rattle.formula_rules.specs.FormulaReader.{choose, push, opener_of, close_row, move_in, Answer, done, breaks, deep, end_in}
use Rattle.formula_rules.specs.FormulaReader.{answer, reader}
use Rattle.formula_rules.specs.FormulaCalls.{at_end, Blank, SumRead, Unsigned, ItemRead, ModeRead, OpenRead, SumStops}
use Rattle.formula_rules.specs.FormulaCalls.{ItemStops}
use Rattle.rules.proofs.Tests.{and_left}
use Rattle.formula_rules.proofs.FormulaTakes.{first_digit, next_digit, first_decimal, next_decimal}
use Rattle.formula_rules.proofs.FormulaSteps.{goes_answer, breaks_answer, deep_answer, end_answer, digits_end}
use Rattle.formula_rules.proofs.FormulaSteps.{decimals_end, fits_whole, NoJoin, no_close, no_end}
use Rattle.formula_rules.proofs.FormulaCalls.{known, named_blank}

-- Letters, a name, digits: one byte after the other.
not_open : (b : ℕ) → eqb b 40 ≡ false → (k : List Frame) → (eqb b 40 && leb nest_limit (length k)) ≡ false
not_open b e k = ap (λ (x : Bool). x && leb nest_limit (length k)) e

pub mode_start : (text : List ℕ) (n : ℕ) (w : Mode) → n < length text → eqb (get_or text n 0) 40 ≡ false
    → ((l : Level) (k : List Frame) → Unsigned text n l → move_in want l k (get_or text n 0) ≡ go (state w l k))
    → ModeRead text n (suc n) w
mode_start text n w h e f =
    record {
      same = λ l k u. goes_answer text n (state want l k) (state w l k) h (f l k u) (not_open (get_or text n 0) e k);
      within = h;
    }

pub mode_step : (text : List ℕ) (n j : ℕ) (w v : Mode) → ModeRead text n j w → j < length text
    → eqb (get_or text j 0) 40 ≡ false
    → ((l : Level) (k : List Frame) → move_in w l k (get_or text j 0) ≡ go (state v l k)) → ModeRead text n (suc j) v
mode_step text n j w v r h e f =
    record {
      same = λ l k u. r.same l k u
          ∙ goes_answer text j (state w l k) (state v l k) h (f l k) (not_open (get_or text j 0) e k);
      within = h;
    }

pub mode_stops : (text : List ℕ) (n j d : ℕ) (w : Mode) → ModeRead text n j w → j < length text
    → ((l : Level) (k : List Frame) → move_in w l k (get_or text j 0) ≡ no) → ItemStops text n d (breaks j)
mode_stops text n j d w r h f =
    record { same = λ l k e u. r.same l k u ∙ breaks_answer text j (state w l k) h (f l k) }

pub mode_ends : (text : List ℕ) (n j d : ℕ) (w : Mode) → ModeRead text n j w → j ≡ length text
    → ((l : Level) (k : List Frame) → end_in w l k j ≡ breaks j) → ItemStops text n d (breaks j)
mode_ends text n j d w r h f =
    record { same = λ l k e u. r.same l k u ∙ end_answer text j (state w l k) h ∙ f l k }

pub mode_blank : (text : List ℕ) (n j i : ℕ) (f : Function) → ModeRead text n j (named f) → Blank text j i
    → ModeRead text n i (named f)
mode_blank text n j i f r b =
    record { same = λ l k u. r.same l k u ∙ named_blank text j i f l k b; within = b.within }

-- An item that is no item: its first byte, or the end.
pub item_stops : (text : List ℕ) (n d : ℕ) → n < length text
    → ((l : Level) (k : List Frame) → Unsigned text n l → move_in want l k (get_or text n 0) ≡ no)
    → ItemStops text n d (breaks n)
item_stops text n d h f = record { same = λ l k e u. breaks_answer text n (state want l k) h (f l k u) }

pub item_ends : (text : List ℕ) (n d : ℕ) → n ≡ length text → ItemStops text n d (breaks n)
item_ends text n d h = record { same = λ l k e u. end_answer text n (state want l k) h }

-- An axis.
pub axis_read : (text : List ℕ) (n d : ℕ) (a : Axis) → n < length text → get_or text n 0 ≡ axis_byte a
    → ItemRead text n d (suc n) (axis a)
unfolding move_in choose
axis_read text n d axisX h e =
    record { same = λ l k q u. known text n 120 (state want l k) (at_end (axis axisX) l k) h e refl refl; within = h }
axis_read text n d axisY h e =
    record { same = λ l k q u. known text n 121 (state want l k) (at_end (axis axisY) l k) h e refl refl; within = h }
axis_read text n d axisZ h e =
    record { same = λ l k q u. known text n 122 (state want l k) (at_end (axis axisZ) l k) h e refl refl; within = h }

-- Digits.
digit_closed : (b : ℕ) → is_digit b ≡ true → eqb b 40 ≡ false
digit_closed b e =
    let h = leb-true 48 b (and_left (leb 48 b) (leb b 57) e) in
    ne_eqb b 40 (λ q. omega arith)

pub digit_start : (text : List ℕ) (n : ℕ) → n < length text → is_digit (get_or text n 0) ≡ true
    → ModeRead text n (suc n) (after (digits (get_or text n 0 - 48) 1))
digit_start text n h e =
    let b = get_or text n 0 in
    mode_start text n (after (digits (b - 48) 1)) h (digit_closed b e) (λ l k u. first_digit b l k e)

pub digit_step : (text : List ℕ) (n j v c : ℕ) → ModeRead text n j (after (digits v c)) → j < length text
    → is_digit (get_or text j 0) ≡ true → suc c ≤ 5 → 10 * v + (get_or text j 0 - 48) ≤ 32767
    → ModeRead text n (suc j) (after (digits (10 * v + (get_or text j 0 - 48)) (suc c)))
digit_step text n j v c r h e f g =
    let b = get_or text j 0 in
    mode_step text n j (after (digits v c)) (after (digits (10 * v + (b - 48)) (suc c))) r h (digit_closed b e)
    (λ l k. next_digit v c b l k e f g)

pub point_step : (text : List ℕ) (n j v c : ℕ) → ModeRead text n j (after (digits v c)) → j < length text
    → get_or text j 0 ≡ 46 → ModeRead text n (suc j) (point v)
unfolding move_in
point_step text n j v c r h e =
    record {
      same = λ l k u. r.same l k u
          ∙ known text j 46 (state (after (digits v c)) l k) (state (point v) l k) h e refl refl;
      within = h;
    }

pub decimal_start : (text : List ℕ) (n j v : ℕ) → ModeRead text n j (point v) → j < length text
    → is_digit (get_or text j 0) ≡ true → ModeRead text n (suc j) (after (decimals v (get_or text j 0 - 48) 1))
decimal_start text n j v r h e =
    let b = get_or text j 0 in
    mode_step text n j (point v) (after (decimals v (b - 48) 1)) r h (digit_closed b e)
    (λ l k. first_decimal v b l k e)

pub decimal_step : (text : List ℕ) (n j v f c : ℕ) → ModeRead text n j (after (decimals v f c)) → j < length text
    → is_digit (get_or text j 0) ≡ true → suc c ≤ 4
    → ModeRead text n (suc j) (after (decimals v (10 * f + (get_or text j 0 - 48)) (suc c)))
decimal_step text n j v f c r h e g =
    let b = get_or text j 0 in
    mode_step text n j (after (decimals v f c)) (after (decimals v (10 * f + (b - 48)) (suc c))) r h (digit_closed b e)
    (λ l k. next_decimal v f c b l k e g)

pub no_decimal : (text : List ℕ) (n j d v : ℕ) → ModeRead text n j (point v) → j < length text
    → is_digit (get_or text j 0) ≡ false → ItemStops text n d (breaks j)
unfolding move_in
no_decimal text n j d v r h e = mode_stops text n j d (point v) r h (λ l k. rw e)

pub whole_read : (text : List ℕ) (n j d v c : ℕ) → ModeRead text n j (after (digits v c))
    → (j < length text → ((is_digit (get_or text j 0) && fits_whole v c (get_or text j 0)) ≡ false) × (get_or text j 0 ≢ 46))
    → ItemRead text n d j (number (pos (whole_units v)))
whole_read text n j d v c r f =
    record {
      same = λ l k e u. r.same l k u ∙ digits_end text j v c l k r.within f;
      within = r.within;
    }

pub decimal_read : (text : List ℕ) (n j d v f c : ℕ) → ModeRead text n j (after (decimals v f c))
    → (j < length text → (is_digit (get_or text j 0) && leb (suc c) 4) ≡ false)
    → ItemRead text n d j (number (pos (decimal_units v f c)))
decimal_read text n j d v f c r g =
    record {
      same = λ l k e u. r.same l k u ∙ decimals_end text j v f c l k r.within g;
      within = r.within;
    }

-- A bracket opens, or is too deep: an item's own, and one after a name.
opens_at : (text : List ℕ) (n d : ℕ) (w : Mode) (o : Opener) (l : Level) (k : List Frame) → n < length text
    → get_or text n 0 ≡ 40 → move_in w l k 40 ≡ go (push o l k) → length k ≡ d → d < nest_limit
    → answer n (state w l k) (drop n text) ≡ answer (suc n) (push o l k) (drop (suc n) text)
opens_at text n d w o l k h e f q g =
    goes_answer text n (state w l k) (push o l k) h (ap (move_in w l k) e ∙ f)
    (ap (λ (b : ℕ). eqb b 40 && leb nest_limit (length k)) e ∙ lt-leb nest_limit (length k) (omega arith))

deep_at : (text : List ℕ) (n d : ℕ) (w : Mode) (o : Opener) (l : Level) (k : List Frame) → n < length text
    → get_or text n 0 ≡ 40 → move_in w l k 40 ≡ go (push o l k) → length k ≡ d → nest_limit ≤ d
    → answer n (state w l k) (drop n text) ≡ deep n
deep_at text n d w o l k h e f q g =
    deep_answer text n (state w l k) (push o l k) h (ap (move_in w l k) e ∙ f)
    (ap (λ (b : ℕ). eqb b 40 && leb nest_limit (length k)) e ∙ le-leb nest_limit (length k) (omega arith))

pub bracket_opens : (text : List ℕ) (n d : ℕ) → n < length text → get_or text n 0 ≡ 40 → d < nest_limit
    → OpenRead text n d (suc n) opened
unfolding move_in choose
bracket_opens text n d h e g = record { same = λ l k q u. opens_at text n d want opened l k h e refl q g }

pub bracket_deep : (text : List ℕ) (n d : ℕ) → n < length text → get_or text n 0 ≡ 40 → nest_limit ≤ d
    → ItemStops text n d (deep n)
unfolding move_in choose
bracket_deep text n d h e g = record { same = λ l k q u. deep_at text n d want opened l k h e refl q g }

pub name_opens : (text : List ℕ) (n j d : ℕ) (f : Function) → ModeRead text n j (named f) → j < length text
    → get_or text j 0 ≡ 40 → d < nest_limit → OpenRead text n d (suc j) (opener_of f)
unfolding move_in choose
name_opens text n j d f r h e g =
    record { same = λ l k q u. r.same l k u ∙ opens_at text j d (named f) (opener_of f) l k h e refl q g }

pub name_deep : (text : List ℕ) (n j d : ℕ) (f : Function) → ModeRead text n j (named f) → j < length text
    → get_or text j 0 ≡ 40 → nest_limit ≤ d → ItemStops text n d (deep j)
unfolding move_in choose
name_deep text n j d f r h e g =
    record { same = λ l k q u. r.same l k u ∙ deep_at text j d (named f) (opener_of f) l k h e refl q g }

-- The sum inside, and the byte that ends it.
inner : (text : List ℕ) (n d j m : ℕ) (o : Opener) (t : Tree) → OpenRead text n d j o → SumRead text j (suc d) m t
    → (l : Level) (k : List Frame) → length k ≡ d → Unsigned text n l
    → answer n (state want l k) (drop n text) ≡ answer m (at_end t fresh (frame l o ∷ k)) (drop m text)
inner text n d j m o t r s l k e u = r.same l k e u ∙ s.up_to.same (frame l o ∷ k) (ap suc e)

pub bracket_read : (text : List ℕ) (n d j m : ℕ) (t : Tree) → OpenRead text n d j opened
    → SumRead text j (suc d) m t → m < length text → get_or text m 0 ≡ 41 → ItemRead text n d (suc m) t
unfolding move_in choose
bracket_read text n d j m t r s h e =
    record {
      same = λ l k q u. inner text n d j m opened t r s l k q u
          ∙ known text m 41 (at_end t fresh (frame l opened ∷ k)) (at_end t l k) h e refl refl;
      within = h;
    }

pub call_read : (text : List ℕ) (n d j m : ℕ) (f : One) (t : Tree) → OpenRead text n d j (called f)
    → SumRead text j (suc d) m t → m < length text → get_or text m 0 ≡ 41
    → ItemRead text n d (suc m) (unary (one_tree f) t)
unfolding move_in choose
call_read text n d j m f t r s h e =
    record {
      same = λ l k q u. inner text n d j m (called f) t r s l k q u
          ∙ known text m 41 (at_end t fresh (frame l (called f) ∷ k)) (at_end (unary (one_tree f) t) l k) h e refl refl;
      within = h;
    }

pub comma_read : (text : List ℕ) (n d j m : ℕ) (f : Two) (t : Tree) → OpenRead text n d j (first_of f)
    → SumRead text j (suc d) m t → m < length text → get_or text m 0 ≡ 44
    → OpenRead text n d (suc m) (second_of f t)
unfolding move_in choose
comma_read text n d j m f t r s h e =
    record {
      same = λ l k q u. inner text n d j m (first_of f) t r s l k q u
          ∙ known text m 44 (at_end t fresh (frame l (first_of f) ∷ k)) (push (second_of f t) l k) h e refl refl;
    }

pub pair_read : (text : List ℕ) (n d j m : ℕ) (f : Two) (v t : Tree) → OpenRead text n d j (second_of f v)
    → SumRead text j (suc d) m t → m < length text → get_or text m 0 ≡ 41
    → ItemRead text n d (suc m) (binary (two_tree f) v t)
unfolding move_in choose
pair_read text n d j m f v t r s h e =
    record {
      same = λ l k q u. inner text n d j m (second_of f v) t r s l k q u
          ∙ known text m 41 (at_end t fresh (frame l (second_of f v) ∷ k)) (at_end (binary (two_tree f) v t) l k) h e refl
          refl;
      within = h;
    }

pub inner_stops : (text : List ℕ) (n d j : ℕ) (o : Opener) (a : Answer) → OpenRead text n d j o
    → SumStops text j (suc d) a → ItemStops text n d a
inner_stops text n d j o a r s =
    record { same = λ l k e u. r.same l k e u ∙ s.same (frame l o ∷ k) (ap suc e) }

-- Where a sum is over and neither a join nor the byte b of its bracket follows.
abbrev pub close_byte : Opener → ℕ
close_byte opened = 41
close_byte (called f) = 41
close_byte (first_of f) = 44
close_byte (second_of f t) = 41

close_byte_lem : (o : Opener) (l : Level) (k : List Frame) (t : Tree) → (close_row o l k t).byte ≡ close_byte o
close_byte_lem opened l k t = refl
close_byte_lem (called f) l k t = refl
close_byte_lem (first_of f) l k t = refl
close_byte_lem (second_of f v) l k t = refl

no_join : (text : List ℕ) (n d m : ℕ) (t : Tree) → SumRead text n d m t → m < length text → NoJoin (get_or text m 0)
no_join text n d m t s h =
    record {
      space = s.up_to.no_times.space h;
      times = s.up_to.no_times.times h;
      over = s.up_to.no_times.over h;
      plus = s.no_plus.plus h;
      less = s.no_plus.less h;
    }

pub not_closed : (text : List ℕ) (n d j m : ℕ) (o : Opener) (t : Tree) → OpenRead text n d j o
    → SumRead text j (suc d) m t → m < length text → get_or text m 0 ≢ close_byte o → ItemStops text n d (breaks m)
not_closed text n d j m o t r s h f =
    record {
      same = λ l k e u. inner text n d j m o t r s l k e u
          ∙ breaks_answer text m (at_end t fresh (frame l o ∷ k)) h
          (no_close (get_or text m 0) t (frame l o ∷ k) (no_join text j (suc d) m t s h)
          (no_end (get_or text m 0) t (frame l o) k (λ q. f (q ∙ close_byte_lem o l k t))));
    }

pub closed_by_none : (text : List ℕ) (n d j m : ℕ) (o : Opener) (t : Tree) → OpenRead text n d j o
    → SumRead text j (suc d) m t → m ≡ length text → ItemStops text n d (breaks m)
closed_by_none text n d j m o t r s h =
    record {
      same = λ l k e u. inner text n d j m o t r s l k e u ∙ end_answer text m (at_end t fresh (frame l o ∷ k)) h;
    }

-- A whole text.
pub text_read : (text : List ℕ) (m : ℕ) (t : Tree) → SumRead text 0 0 m t → m ≡ length text → reader text ≡ done t
unfolding reader
text_read text m t s h = s.up_to.same [] refl ∙ end_answer text m (at_end t fresh []) h

pub text_left : (text : List ℕ) (m : ℕ) (t : Tree) → SumRead text 0 0 m t → m < length text → reader text ≡ breaks m
unfolding reader choose
text_left text m t s h =
    s.up_to.same [] refl
    ∙ breaks_answer text m (at_end t fresh []) h (no_close (get_or text m 0) t [] (no_join text 0 0 m t s h) refl)

pub text_stops : (text : List ℕ) (a : Answer) → SumStops text 0 0 a → reader text ≡ a
unfolding reader
text_stops text a s = s.same [] refl
