-- The reader goes through every allowed text, to the text's tree.
use mathlib.Core.Path.{◌≡◌, refl, sym, ◌∙◌, ap, ap₂}
use mathlib.Core.Bool.{true, false}
use mathlib.Core.List.{List, [], ◌∷◌}
use Prim.Native.Nat.{ℕ, zero, suc, ◌+◌, ◌-◌, ◌*◌, ◌≤◌}
use native.Mathlib.Omega.{arith}
use borrow.Author.Tests.{le-leb}
use Rattle.formula_rules.specs.Trees.{Tree, Axis, axisX, axisY, axisZ, binary, unary, negate}
use Rattle.formula_rules.specs.Formulas.{is_digit, Digits, one, more, count, value, Number, whole, decimal, SumJoin, plus}
use Rattle.formula_rules.specs.Formulas.{less, ProductJoin, times, over, One, absName, sqrName, rootName, Two, minName}
use Rattle.formula_rules.specs.Formulas.{maxName, Sum, product, joined, Product, signed, multiplied, Signed, plain, minus}
use Rattle.formula_rules.specs.Formulas.{Item, constant, variable, bracket, call, pair, Text, spaces, write_digits}
use Rattle.formula_rules.specs.Formulas.{write_number, sum_byte, product_byte, write_one, write_two, write_sum, write_product}
use Rattle.formula_rules.specs.Formulas.{write_signed, write_item, bytes_of, sum_tree, product_tree, one_tree, two_tree, tree_sum}
use Rattle.formula_rules.specs.Formulas.{tree_product, tree_signed, tree_item, tree_of}
use Rattle.formula_rules.specs.FormulaReader.{Left, none, waits, Level, level, fresh, join_left, product_to, sum_to, opened}
use Rattle.formula_rules.specs.FormulaReader.{called, first_of, second_of, Frame, frame, Ended, item, digits, decimals}
use Rattle.formula_rules.specs.FormulaReader.{end_tree, want, named, point, after, State, state, start, Move, no, go}
use Rattle.formula_rules.specs.FormulaReader.{choose, of_one, of_two, Function, move_in, move}

-- Where some bytes lead.
abbrev pub moved : Move → ℕ → Move
moved no b = no
moved (go s) b = move s b

unfoldable pub reach : Move → List ℕ → Move
reach m [] = m
reach m (b ∷ r) = reach (moved m b) r

-- Spaces lead back to a state that skips one; after an item they end it.
through : (s : State) → move s 32 ≡ go s → (n : ℕ) (r : List ℕ) → reach (go s) (spaces n r) ≡ reach (go s) r
unfolding spaces reach
through s e zero r = refl
through s e (suc n) r = through s e n (32 ∷ r) ∙ ap (λ (m : Move). reach m r) e

skip_want : (l : Level) (k : List Frame) (n : ℕ) (r : List ℕ)
    → reach (go (state want l k)) (spaces n r) ≡ reach (go (state want l k)) r
unfolding move_in choose
skip_want l k = through (state want l k) refl

skip_named : (f : Function) (l : Level) (k : List Frame) (n : ℕ) (r : List ℕ)
    → reach (go (state (named f) l k)) (spaces n r) ≡ reach (go (state (named f) l k)) r
unfolding move_in choose
skip_named f l k = through (state (named f) l k) refl

abbrev pub ended : Ended → Level → List Frame → State
ended e l k = state (after e) l k

skip_after : (e : Ended) (l : Level) (k : List Frame) (n b : ℕ) (r : List ℕ)
    → move (ended e l k) b ≡ move (ended (item (end_tree e)) l k) b
    → reach (go (ended e l k)) (spaces n (b ∷ r)) ≡ reach (go (ended (item (end_tree e)) l k)) (b ∷ r)
unfolding spaces reach move_in choose
skip_after e l k zero b r h = ap (λ (m : Move). reach m r) h
skip_after e l k (suc n) b r h = skip_after e l k n 32 (b ∷ r) refl

-- Digits.
pub first_digit : (c : ℕ) (l : Level) (k : List Frame) → is_digit c ≡ true
    → move_in want l k c ≡ go (ended (digits (c - 48) 1) l k)
unfolding move_in
first_digit c l k e = rw e

pub next_digit : (v n c : ℕ) (l : Level) (k : List Frame) → is_digit c ≡ true → suc n ≤ 5 → 10 * v + (c - 48) ≤ 32767
    → move_in (after (digits v n)) l k c ≡ go (ended (digits (10 * v + (c - 48)) (suc n)) l k)
unfolding move_in
next_digit v n c l k e h g = rw (e, le-leb (suc n) 5 h, le-leb (10 * v + (c - 48)) 32767 g)

pub first_decimal : (v c : ℕ) (l : Level) (k : List Frame) → is_digit c ≡ true
    → move_in (point v) l k c ≡ go (ended (decimals v (c - 48) 1) l k)
unfolding move_in
first_decimal v c l k e = rw e

pub next_decimal : (v f n c : ℕ) (l : Level) (k : List Frame) → is_digit c ≡ true → suc n ≤ 4
    → move_in (after (decimals v f n)) l k c ≡ go (ended (decimals v (10 * f + (c - 48)) (suc n)) l k)
unfolding move_in
next_decimal v f n c l k e h = rw (e, le-leb (suc n) 4 h)

takes_digits : (ds : Digits) (l : Level) (k : List Frame) (r : List ℕ) → count ds ≤ 5 → value ds ≤ 32767
    → reach (go (state want l k)) (write_digits ds r) ≡ reach (go (ended (digits (value ds) (count ds)) l k)) r
unfolding write_digits reach count value
takes_digits (one c e) l k r h g = ap (λ (m : Move). reach m r) (first_digit c l k e)
takes_digits (more ds c e) l k r h g =
    takes_digits ds l k (c ∷ r) (omega arith) (omega arith)
    ∙ ap (λ (m : Move). reach m r) (next_digit (value ds) (count ds) c l k e h g)

takes_decimals : (v : ℕ) (ds : Digits) (l : Level) (k : List Frame) (r : List ℕ) → count ds ≤ 4
    → reach (go (state (point v) l k)) (write_digits ds r) ≡ reach (go (ended (decimals v (value ds) (count ds)) l k)) r
unfolding write_digits reach count value
takes_decimals v (one c e) l k r h = ap (λ (m : Move). reach m r) (first_decimal v c l k e)
takes_decimals v (more ds c e) l k r h =
    takes_decimals v ds l k (c ∷ r) (omega arith)
    ∙ ap (λ (m : Move). reach m r) (next_decimal v (value ds) (count ds) c l k e h)

abbrev pub number_end : Number → Ended
number_end (whole w) = digits (value w.digits) (count w.digits)
number_end (decimal w d) = decimals (value w.digits) (value d.digits) (count d.digits)

takes_number : (n : Number) (l : Level) (k : List Frame) (r : List ℕ)
    → reach (go (state want l k)) (write_number n r) ≡ reach (go (ended (number_end n) l k)) r
unfolding reach move_in
takes_number (whole w) l k r = takes_digits w.digits l k r w.few w.small
takes_number (decimal w d) l k r =
    takes_digits w.digits l k (46 ∷ write_digits d.digits r) w.few w.small
    ∙ takes_decimals (value w.digits) d.digits l k r d.few

-- What ends an item.
unfoldable pub ending : Item → Ended
ending (constant n c) = number_end c
ending (variable n a) = item (tree_item (variable n a))
ending (bracket n s j) = item (tree_sum s)
ending (call n f h s j) = item (unary (one_tree f) (tree_sum s))
ending (pair n f h s i t j) = item (binary (two_tree f) (tree_sum s) (tree_sum t))

number_tree : (n : ℕ) (c : Number) → end_tree (number_end c) ≡ tree_item (constant n c)
unfolding tree_item
number_tree n (whole w) = refl
number_tree n (decimal w d) = refl

pub ending_tree : (i : Item) → end_tree (ending i) ≡ tree_item i
unfolding ending tree_item
ending_tree (constant n c) = number_tree n c
ending_tree (variable n a) = refl
ending_tree (bracket n s j) = refl
ending_tree (call n f h s j) = refl
ending_tree (pair n f h s i t j) = refl

-- The reader goes through the bytes w to an item's end inside the same brackets, where P holds of what waits and of the
-- item's tree.
pub record Taken (from : State) (k : List Frame) (w : List ℕ → List ℕ) (P : Level → Tree → Type 0) : Type 0 where
  pub last : Level
  pub end : Ended
  pub holds : P last (end_tree end)
  pub goes : (r : List ℕ) → reach (go from) (w r) ≡ reach (go (ended end last k)) r

abbrev want_after : Left → Left → List Frame → State
want_after u q k = state want (level u q false) k

abbrev TakenSum : List Frame → Sum → Type 0
TakenSum k s = Taken (state want fresh k) k (write_sum s) (λ l t. sum_to l t ≡ tree_sum s)

abbrev TakenProduct : Left → List Frame → Product → Type 0
TakenProduct u k p =
    Taken (state want (level u none false) k) k (write_product p)
    (λ l t. (l.sums ≡ u) × (product_to l t ≡ tree_product p))

abbrev TakenSigned : Left → Left → List Frame → Signed → Type 0
TakenSigned u q k g =
    Taken (state want (level u q false) k) k (write_signed g)
    (λ l t. (l.sums ≡ u) × (product_to l t ≡ join_left q (tree_signed g)))

abbrev TakenItem : Level → List Frame → Item → Type 0
TakenItem l k i = (r : List ℕ) → reach (go (state want l k)) (write_item i r) ≡ reach (go (ended (ending i) l k)) r

-- Joins.
times_step : (o : ProductJoin) (e : Ended) (l : Level) (k : List Frame) (n : ℕ) (r : List ℕ)
    → reach (go (ended e l k)) (spaces n (product_byte o ∷ r))
    ≡ reach (go (state want (level l.sums (waits (product_to l (end_tree e)) (product_tree o)) false) k)) r
unfolding reach move_in choose
times_step times e l k n r = skip_after e l k n 42 r refl
times_step over e l k n r = skip_after e l k n 47 r refl

plus_step : (o : SumJoin) (e : Ended) (l : Level) (k : List Frame) (n : ℕ) (r : List ℕ)
    → reach (go (ended e l k)) (spaces n (sum_byte o ∷ r))
    ≡ reach (go (state want (level (waits (sum_to l (end_tree e)) (sum_tree o)) none false) k)) r
unfolding reach move_in choose
plus_step plus e l k n r = skip_after e l k n 43 r refl
plus_step less e l k n r = skip_after e l k n 45 r refl

-- The parts, each from its own parts.
plain_taken : (u q : Left) (k : List Frame) (i : Item) → TakenItem (level u q false) k i → TakenSigned u q k (plain i)
unfolding write_sum tree_sum
plain_taken u q k i h =
    record {
      last = level u q false;
      end = ending i;
      holds = (refl, ap (join_left q) (ending_tree i));
      goes = h;
    }

minus_taken : (u q : Left) (k : List Frame) (n : ℕ) (i : Item) → TakenItem (level u q true) k i
    → TakenSigned u q k (minus n i)
unfolding write_sum tree_sum reach move_in
minus_taken u q k n i h =
    record {
      last = level u q true;
      end = ending i;
      holds = (refl, ap (λ (t : Tree). join_left q (unary negate t)) (ending_tree i));
      goes = λ r. skip_want (level u q false) k n (45 ∷ write_item i r) ∙ h r;
    }

signed_taken : (u : Left) (k : List Frame) (g : Signed) → TakenSigned u none k g → TakenProduct u k (signed g)
unfolding write_sum tree_sum
signed_taken u k g h = record { last = h.last; end = h.end; holds = h.holds; goes = h.goes }

multiplied_taken : (u : Left) (k : List Frame) (p : Product) (n : ℕ) (o : ProductJoin) (g : Signed)
    → TakenProduct u k p → TakenSigned u (waits (tree_product p) (product_tree o)) k g
    → TakenProduct u k (multiplied p n o g)
unfolding write_sum tree_sum
multiplied_taken u k p n o g h f =
    record {
      last = f.last;
      end = f.end;
      holds = f.holds;
      goes = λ r. h.goes (spaces n (product_byte o ∷ write_signed g r))
          ∙ times_step o h.end h.last k n (write_signed g r)
          ∙ ap₂ (λ (v : Left) (t : Tree). reach (go (want_after v (waits t (product_tree o)) k)) (write_signed g r))
          h.holds.0 h.holds.1
          ∙ f.goes r;
    }

product_taken : (k : List Frame) (p : Product) → TakenProduct none k p → TakenSum k (product p)
unfolding write_sum tree_sum
product_taken k p h =
    record {
      last = h.last;
      end = h.end;
      holds = ap₂ join_left h.holds.0 h.holds.1;
      goes = h.goes;
    }

joined_taken : (k : List Frame) (s : Sum) (n : ℕ) (o : SumJoin) (p : Product)
    → TakenSum k s → TakenProduct (waits (tree_sum s) (sum_tree o)) k p → TakenSum k (joined s n o p)
unfolding write_sum tree_sum
joined_taken k s n o p h f =
    record {
      last = f.last;
      end = f.end;
      holds = ap₂ join_left f.holds.0 f.holds.1;
      goes = λ r. h.goes (spaces n (sum_byte o ∷ write_product p r))
          ∙ plus_step o h.end h.last k n (write_product p r)
          ∙ ap (λ (t : Tree). reach (go (want_after (waits t (sum_tree o)) none k)) (write_product p r)) h.holds
          ∙ f.goes r;
    }

variable_taken : (l : Level) (k : List Frame) (n : ℕ) (a : Axis) → TakenItem l k (variable n a)
unfolding write_sum tree_sum reach move_in choose ending
variable_taken l k n axisX r = skip_want l k n (120 ∷ r)
variable_taken l k n axisY r = skip_want l k n (121 ∷ r)
variable_taken l k n axisZ r = skip_want l k n (122 ∷ r)

-- A sum and the byte b that ends it in its bracket.
close_step : (f : Frame) (k : List Frame) (s : Sum) (n b : ℕ) (next : Tree → State) (r : List ℕ)
    → ((e : Ended) (l : Level) → move (ended e l (f ∷ k)) b ≡ go (next (sum_to l (end_tree e)))) → TakenSum (f ∷ k) s
    → reach (go (state want fresh (f ∷ k))) (write_sum s (spaces n (b ∷ r))) ≡ reach (go (next (tree_sum s))) r
unfolding reach
close_step f k s n b next r m h =
    let e = h.end in
    let l = h.last in
    h.goes (spaces n (b ∷ r))
    ∙ skip_after e l (f ∷ k) n b r (m e l ∙ sym (m (item (end_tree e)) l))
    ∙ ap (λ (w : Move). reach w r) (m (item (end_tree e)) l)
    ∙ ap (λ (t : Tree). reach (go (next t)) r) h.holds

bracket_taken : (l : Level) (k : List Frame) (n : ℕ) (s : Sum) (j : ℕ) → TakenSum (frame l opened ∷ k) s
    → TakenItem l k (bracket n s j)
unfolding write_sum tree_sum reach move_in choose ending
bracket_taken l k n s j h r =
    skip_want l k n (40 ∷ write_sum s (spaces j (41 ∷ r)))
    ∙ close_step (frame l opened) k s j 41 (λ t. ended (item t) l k) r (λ e m. refl) h

one_named : (f : One) (l : Level) (k : List Frame) (r : List ℕ)
    → reach (go (state want l k)) (write_one f r) ≡ reach (go (state (named (of_one f)) l k)) r
unfolding reach move_in choose
one_named absName l k r = refl
one_named sqrName l k r = refl
one_named rootName l k r = refl

two_named : (f : Two) (l : Level) (k : List Frame) (r : List ℕ)
    → reach (go (state want l k)) (write_two f r) ≡ reach (go (state (named (of_two f)) l k)) r
unfolding reach move_in choose
two_named minName l k r = refl
two_named maxName l k r = refl

call_taken : (l : Level) (k : List Frame) (n : ℕ) (f : One) (h : ℕ) (s : Sum) (j : ℕ)
    → TakenSum (frame l (called f) ∷ k) s → TakenItem l k (call n f h s j)
unfolding write_sum tree_sum reach move_in choose ending
call_taken l k n f h s j t r =
    let rest : List ℕ = 40 ∷ write_sum s (spaces j (41 ∷ r)) in
    skip_want l k n (write_one f (spaces h rest))
    ∙ one_named f l k (spaces h rest)
    ∙ skip_named (of_one f) l k h rest
    ∙ close_step (frame l (called f)) k s j 41 (λ u. ended (item (unary (one_tree f) u)) l k) r (λ e m. refl) t

pair_taken : (l : Level) (k : List Frame) (n : ℕ) (f : Two) (h : ℕ) (s : Sum) (i : ℕ) (t : Sum) (j : ℕ)
    → TakenSum (frame l (first_of f) ∷ k) s → TakenSum (frame l (second_of f (tree_sum s)) ∷ k) t
    → TakenItem l k (pair n f h s i t j)
unfolding write_sum tree_sum reach move_in choose ending
pair_taken l k n f h s i t j p q r =
    let last = write_sum t (spaces j (41 ∷ r)) in
    let rest : List ℕ = 40 ∷ write_sum s (spaces i (44 ∷ last)) in
    let second : Tree → State = λ u. state want fresh (frame l (second_of f u) ∷ k) in
    let both : Tree → State = λ u. ended (item (binary (two_tree f) (tree_sum s) u)) l k in
    skip_want l k n (write_two f (spaces h rest))
    ∙ two_named f l k (spaces h rest)
    ∙ skip_named (of_two f) l k h rest
    ∙ close_step (frame l (first_of f)) k s i 44 second last (λ e m. refl) p
    ∙ close_step (frame l (second_of f (tree_sum s))) k t j 41 both r (λ e m. refl) q

constant_taken : (l : Level) (k : List Frame) (n : ℕ) (c : Number) → TakenItem l k (constant n c)
unfolding write_sum ending
constant_taken l k n c r = skip_want l k n (write_number c r) ∙ takes_number c l k r

-- The whole grammar.
mutual
  takes_sum : (s : Sum) (k : List Frame) → TakenSum k s
  takes_sum (product p) k = product_taken k p (takes_product p none k)
  takes_sum (joined s n o p) k =
      joined_taken k s n o p (takes_sum s k) (takes_product p (waits (tree_sum s) (sum_tree o)) k)

  takes_product : (p : Product) (u : Left) (k : List Frame) → TakenProduct u k p
  takes_product (signed g) u k = signed_taken u k g (takes_signed g u none k)
  takes_product (multiplied p n o g) u k =
      multiplied_taken u k p n o g (takes_product p u k) (takes_signed g u (waits (tree_product p) (product_tree o)) k)

  takes_signed : (g : Signed) (u q : Left) (k : List Frame) → TakenSigned u q k g
  takes_signed (plain i) u q k = plain_taken u q k i (takes_item i (level u q false) k)
  takes_signed (minus n i) u q k = minus_taken u q k n i (takes_item i (level u q true) k)

  takes_item : (i : Item) (l : Level) (k : List Frame) → TakenItem l k i
  takes_item (constant n c) l k = constant_taken l k n c
  takes_item (variable n a) l k = variable_taken l k n a
  takes_item (bracket n s j) l k = bracket_taken l k n s j (takes_sum s (frame l opened ∷ k))
  takes_item (call n f h s j) l k = call_taken l k n f h s j (takes_sum s (frame l (called f) ∷ k))
  takes_item (pair n f h s i t j) l k =
      pair_taken l k n f h s i t j (takes_sum s (frame l (first_of f) ∷ k))
      (takes_sum t (frame l (second_of f (tree_sum s)) ∷ k))

-- A whole text leads to an item's end in no bracket, and the sum there is the text's tree.
pub record Through (t : Text) : Type 0 where
  pub last : Level
  pub end : Ended
  pub tree : sum_to last (end_tree end) ≡ tree_of t
  pub goes : reach (go start) (bytes_of t) ≡ go (ended end last [])

spaces_after : (e : Ended) (l : Level) (k : List Frame) (n : ℕ)
    → (f : Ended) × (end_tree f ≡ end_tree e) × (reach (go (ended e l k)) (spaces n []) ≡ go (ended f l k))
unfolding spaces reach move_in choose
spaces_after e l k zero = (e, refl, refl)
spaces_after e l k (suc n) = (item (end_tree e), refl, skip_after e l k n 32 [] refl)

pub goes_through : (t : Text) → Through t
unfolding bytes_of tree_of
goes_through t =
    let h = takes_sum t.sum [] in
    let (f, e, g) = spaces_after h.end h.last [] t.after in
    record {
      last = h.last;
      end = f;
      tree = ap (sum_to h.last) e ∙ h.holds;
      goes = h.goes (spaces t.after []) ∙ g;
    }
