-- Each byte that the reader takes is one more byte of the parts.
use mathlib.Core.Path.{◌≡◌, refl, sym, ap, subst}
use mathlib.Core.Bool.{Bool, true, false, ◌&&◌}
use mathlib.Core.List.{List, [], ◌∷◌}
use Prim.Native.Nat.{ℕ, zero, suc, ◌+◌, ◌-◌, ◌*◌, ◌≤◌}
use native.Mathlib.Omega.{arith}
use lib.Dec.{eqb, leb}
use lib.ListN.{length}
use borrow.Author.Tests.{leb-true, eqb-true, ne_eqb}
use Rattle.rules.specs.Values.{pick}
use Rattle.formula_rules.specs.Trees.{Tree, axisX, axisY, axisZ, binary, unary}
use Rattle.formula_rules.specs.Formulas.{is_digit, one, more, count, value, Whole, whole, decimal, SumJoin, plus, less}
use Rattle.formula_rules.specs.Formulas.{ProductJoin, times, over, absName, sqrName, rootName, minName, maxName, Item}
use Rattle.formula_rules.specs.Formulas.{constant, variable, bracket, call, pair, spaces, write_digits, sum_byte}
use Rattle.formula_rules.specs.Formulas.{product_byte, write_one, write_two, open_after, write_sum, sum_tree, product_tree}
use Rattle.formula_rules.specs.Formulas.{one_tree, two_tree, tree_sum}
use Rattle.formula_rules.specs.FormulaReader.{none, waits, level, product_to, sum_to, second_of, item, digits, decimals}
use Rattle.formula_rules.specs.FormulaReader.{end_tree, want, State, state, Spelling, a-, ab-, s-, sq-, r-, ro-, roo-, m-}
use Rattle.formula_rules.specs.FormulaReader.{mi-, ma-, Move, no, go, Row, choose, push, of_one, of_two, Function, move_in}
use Rattle.formula_rules.specs.FormulaReader.{move, want_rows, spell_rows, named_rows, close_row, close_rows, join_rows}
use Rattle.formula_rules.specs.FormulaReader.{digit_move, point_move, minus_move, when_fits}
use Rattle.rules.proofs.Tests.{and_left, and_right}
use Rattle.formula_rules.proofs.FormulaNumbers.{digit_below}
use Rattle.formula_rules.proofs.FormulaTakes.{ending, ended}
use Rattle.formula_rules.proofs.FormulaParts.{Open, Opening, Part, Partial, ProductLeft, Reading, Sign, SumLeft, bare}
use Rattle.formula_rules.proofs.FormulaParts.{end_at, ends, frames_of, fresh_part, item_bytes, item_product_bytes}
use Rattle.formula_rules.proofs.FormulaParts.{item_product_tree, item_sum_tree, item_product, item_sum, level_of, mode_of}
use Rattle.formula_rules.proofs.FormulaParts.{names, negated, no_product, open_first, open_one, open_plain, open_second}
use Rattle.formula_rules.proofs.FormulaParts.{opener_in, opens, part, partial, points, product_waits, spells, state_of}
use Rattle.formula_rules.proofs.FormulaParts.{sum_left, sum_waits, wants, write, write_part, write_stack, write_sums}

-- The byte b is one more byte of the parts, and the reader then keeps s.
pub record Goes (d : Partial) (b : ℕ) (s : State) : Type 0 where
  pub to : Partial
  pub shows : state_of to ≡ s
  pub writes : (r : List ℕ) → write to r ≡ write d (b ∷ r)
  pub nests : length s.stack ≡ open_after (length (state_of d).stack) b

pub data Good (d : Partial) (b : ℕ) : Move → Type 0 where
  stops : Good d b no
  goes : {s : State} → Goes d b s → Good d b (go s)

-- Tests, and rows of bytes.
good_pick : (d : Partial) (b : ℕ) (t : Bool) {x y : Move} → (t ≡ true → Good d b x) → Good d b y → Good d b (pick t x y)
good_pick d b true h g = h refl
good_pick d b false h g = g

good_fits : (d : Partial) (b : ℕ) (t : Bool) {s : State} → (t ≡ true → Goes d b s) → Good d b (when_fits t s)
good_fits d b true h = goes (h refl)
good_fits d b false h = stops

abbrev AllRows : Partial → List Row → Type 0
AllRows d [] = Unit {0}
AllRows d (w ∷ ws) = Goes d w.byte w.next × AllRows d ws

good_choice : (d : Partial) (ws : List Row) → AllRows d ws → (b : ℕ) → Good d b (choose ws b)
unfolding choose
good_choice d [] h b = stops
good_choice d (w ∷ ws) h b =
    good_pick d b (eqb b w.byte)
    (λ e. goes (subst (λ (c : ℕ). Goes d c w.next) (sym (eqb-true b w.byte e)) h.0))
    (good_choice d ws h.1 b)

-- A digit opens and closes nothing.
digit_open : (n b : ℕ) → is_digit b ≡ true → n ≡ open_after n b
digit_open n b e =
    let h = leb-true 48 b (and_left (leb 48 b) (leb b 57) e) in
    rw (ne_eqb b 40 (λ q. omega arith), ne_eqb b 41 (λ q. omega arith))

-- An item may begin.
digit_goes : (n b : ℕ) (l : Part) (k : List Open) → is_digit b ≡ true
    → Goes (partial (wants n) l k) b (ended (digits (b - 48) 1) (level_of l) (frames_of k))
unfolding ending value count write_sum write_digits spaces
digit_goes n b l k e =
    record {
      to = partial (ends (constant n (whole (record { digits = one b e; few = omega arith; small = small }))) 0) l k;
      shows = refl;
      writes = λ r. refl;
      nests = digit_open (length (frames_of k)) b e;
    }
  where
    small : b - 48 ≤ 32767
    small = omega (arith, digit_below b e)

minus_good : (n : ℕ) (u : SumLeft) (q : ProductLeft) (g : Sign) (k : List Open)
    → Good (partial (wants n) (part u q g) k) 45 (minus_move (level_of (part u q g)) (frames_of k))
unfolding spaces
minus_good n u q bare k =
    goes (record { to = partial (wants 0) (part u q (negated n)) k; shows = refl; writes = λ r. refl; nests = refl })
minus_good n u q (negated m) k = stops

-- The state is that of the parts as it stands, in the same brackets.
plainly : {d : Partial} {b : ℕ} {s : State} (to : Partial) → state_of to ≡ s
    → ((r : List ℕ) → write to r ≡ write d (b ∷ r))
    → length s.stack ≡ open_after (length (state_of d).stack) b → Goes d b s
plainly to e w o = record { to = to; shows = e; writes = w; nests = o }

want_rows_lem : (n : ℕ) (l : Part) (k : List Open)
    → AllRows (partial (wants n) l k) (want_rows (level_of l) (frames_of k))
unfolding ending tree_sum write_sum spaces
want_rows_lem n l k = (
  plainly (partial (wants (suc n)) l k) refl (λ r. refl) refl,
  (
    plainly (partial (wants 0) fresh_part (opens l (open_plain n) ∷ k)) refl (λ r. refl) refl,
    (
      plainly (partial (ends (variable n axisX) 0) l k) refl (λ r. refl) refl,
      (
        plainly (partial (ends (variable n axisY) 0) l k) refl (λ r. refl) refl,
        (
          plainly (partial (ends (variable n axisZ) 0) l k) refl (λ r. refl) refl,
          (
            plainly (partial (spells n a-) l k) refl (λ r. refl) refl,
            (
              plainly (partial (spells n s-) l k) refl (λ r. refl) refl,
              (
                plainly (partial (spells n r-) l k) refl (λ r. refl) refl,
                (plainly (partial (spells n m-) l k) refl (λ r. refl) refl, tt),
              ),
            ),
          ),
        ),
      ),
    ),
  ),
)

spell_rows_lem : (n : ℕ) (p : Spelling) (l : Part) (k : List Open)
    → AllRows (partial (spells n p) l k) (spell_rows p (level_of l) (frames_of k))
unfolding spaces
spell_rows_lem n a- l k = (plainly (partial (spells n ab-) l k) refl (λ r. refl) refl, tt)
spell_rows_lem n ab- l k = (plainly (partial (names n (of_one absName) 0) l k) refl (λ r. refl) refl, tt)
spell_rows_lem n s- l k = (plainly (partial (spells n sq-) l k) refl (λ r. refl) refl, tt)
spell_rows_lem n sq- l k = (plainly (partial (names n (of_one sqrName) 0) l k) refl (λ r. refl) refl, tt)
spell_rows_lem n r- l k = (plainly (partial (spells n ro-) l k) refl (λ r. refl) refl, tt)
spell_rows_lem n ro- l k = (plainly (partial (spells n roo-) l k) refl (λ r. refl) refl, tt)
spell_rows_lem n roo- l k = (plainly (partial (names n (of_one rootName) 0) l k) refl (λ r. refl) refl, tt)
spell_rows_lem n m- l k = (
  plainly (partial (spells n mi-) l k) refl (λ r. refl) refl,
  (plainly (partial (spells n ma-) l k) refl (λ r. refl) refl, tt),
)
spell_rows_lem n mi- l k = (plainly (partial (names n (of_two minName) 0) l k) refl (λ r. refl) refl, tt)
spell_rows_lem n ma- l k = (plainly (partial (names n (of_two maxName) 0) l k) refl (λ r. refl) refl, tt)

abbrev opening_of : ℕ → Function → ℕ → Opening
opening_of n (of_one f) h = open_one n f h
opening_of n (of_two f) h = open_first n f h

named_rows_lem : (n : ℕ) (f : Function) (h : ℕ) (l : Part) (k : List Open)
    → AllRows (partial (names n f h) l k) (named_rows f (level_of l) (frames_of k))
unfolding spaces
named_rows_lem n (of_one f) h l k = (
  plainly (partial (names n (of_one f) (suc h)) l k) refl (λ r. refl) refl,
  (plainly (partial (wants 0) fresh_part (opens l (open_one n f h) ∷ k)) refl (λ r. refl) refl, tt),
)
named_rows_lem n (of_two f) h l k = (
  plainly (partial (names n (of_two f) (suc h)) l k) refl (λ r. refl) refl,
  (plainly (partial (wants 0) fresh_part (opens l (open_first n f h) ∷ k)) refl (λ r. refl) refl, tt),
)

point_goes : (n : ℕ) (w : Whole) (b : ℕ) (l : Part) (k : List Open) → is_digit b ≡ true
    → Goes (partial (points n w) l k) b (ended (decimals (value w.digits) (b - 48) 1) (level_of l) (frames_of k))
unfolding ending value count write_sum write_digits spaces
point_goes n w b l k e =
    plainly (partial (ends (constant n (decimal w (record { digits = one b e; few = omega arith }))) 0) l k) refl
    (λ r. refl) (digit_open (length (frames_of k)) b e)

-- After an item: a digit or a point of a number.
digit_good : (i : Item) (j b : ℕ) (l : Part) (k : List Open) → is_digit b ≡ true
    → Good (partial (ends i j) l k) b (digit_move (end_at i j) (b - 48) (level_of l) (frames_of k))
unfolding ending value count write_sum write_digits spaces
digit_good i (suc j) b l k e = stops
digit_good (variable n a) zero b l k e = stops
digit_good (bracket n s m) zero b l k e = stops
digit_good (call n f h s m) zero b l k e = stops
digit_good (pair n f h s m t g) zero b l k e = stops
digit_good (constant n (whole w)) zero b l k e =
    let v = value w.digits in
    let c = count w.digits in
    let d = partial (ends (constant n (whole w)) 0) l k in
    good_fits d b (leb (suc c) 5 && leb (10 * v + (b - 48)) 32767)
    (λ t. plainly
    (partial
    (ends
    (constant n
    (whole
    (record {
      digits = more w.digits b e;
      few = leb-true (suc c) 5 (and_left (leb (suc c) 5) (leb (10 * v + (b - 48)) 32767) t);
      small = leb-true (10 * v + (b - 48)) 32767 (and_right (leb (suc c) 5) (leb (10 * v + (b - 48)) 32767) t);
    }))) 0) l k) refl
    (λ r. refl) (digit_open (length (frames_of k)) b e))
digit_good (constant n (decimal w f)) zero b l k e =
    let c = count f.digits in
    let d = partial (ends (constant n (decimal w f)) 0) l k in
    good_fits d b (leb (suc c) 4)
    (λ t. plainly
    (partial
    (ends (constant n (decimal w (record { digits = more f.digits b e; few = leb-true (suc c) 4 t }))) 0) l k)
    refl (λ r. refl) (digit_open (length (frames_of k)) b e))

point_good : (i : Item) (j : ℕ) (l : Part) (k : List Open)
    → Good (partial (ends i j) l k) 46 (point_move (end_at i j) (level_of l) (frames_of k))
unfolding ending write_sum spaces
point_good i (suc j) l k = stops
point_good (variable n a) zero l k = stops
point_good (bracket n s m) zero l k = stops
point_good (call n f h s m) zero l k = stops
point_good (pair n f h s m t g) zero l k = stops
point_good (constant n (whole w)) zero l k = goes (plainly (partial (points n w) l k) refl (λ r. refl) refl)
point_good (constant n (decimal w f)) zero l k = stops

-- After an item: the end of its bracket, a join, a space.
one_less : (n : ℕ) → n ≡ suc n - 1
one_less n = omega arith

close_goes : (i : Item) (j : ℕ) (l m : Part) (o : Opening) (k : List Open)
    → let w = close_row (opener_in o) (level_of m) (frames_of k) (sum_to (level_of l) (end_tree (end_at i j))) in
    Goes (partial (ends i j) l (opens m o ∷ k)) w.byte w.next
unfolding ending write_sum spaces
close_goes i j l m (open_plain n) k =
    plainly (partial (ends (bracket n (item_sum l i) j) 0) m k)
    (ap (λ (t : Tree). ended (item t) (level_of m) (frames_of k)) (item_sum_tree l i j))
    (λ r. ap (λ (x : List ℕ). write_stack k (write_part m (spaces n (40 ∷ x)))) (item_bytes l i (spaces j (41 ∷ r))))
    (one_less (length (frames_of k)))
close_goes i j l m (open_one n f h) k =
    plainly (partial (ends (call n f h (item_sum l i) j) 0) m k)
    (ap (λ (t : Tree). ended (item (unary (one_tree f) t)) (level_of m) (frames_of k)) (item_sum_tree l i j))
    (λ r. ap (λ (x : List ℕ). write_stack k (write_part m (spaces n (write_one f (spaces h (40 ∷ x))))))
    (item_bytes l i (spaces j (41 ∷ r))))
    (one_less (length (frames_of k)))
close_goes i j l m (open_first n f h) k =
    plainly (partial (wants 0) fresh_part (opens m (open_second n f h (item_sum l i) j) ∷ k))
    (ap (λ (t : Tree). push (second_of f t) (level_of m) (frames_of k)) (item_sum_tree l i j))
    (λ r. ap (λ (x : List ℕ). write_stack k (write_part m (spaces n (write_two f (spaces h (40 ∷ x))))))
    (item_bytes l i (spaces j (44 ∷ r))))
    refl
close_goes i j l m (open_second n f h s g) k =
    plainly (partial (ends (pair n f h s g (item_sum l i) j) 0) m k)
    (ap (λ (t : Tree). ended (item (binary (two_tree f) (tree_sum s) t)) (level_of m) (frames_of k)) (item_sum_tree l i j))
    (λ r. ap
    (λ (x : List ℕ). write_stack k
    (write_part m (spaces n (write_two f (spaces h (40 ∷ write_sum s (spaces g (44 ∷ x))))))))
    (item_bytes l i (spaces j (41 ∷ r))))
    (one_less (length (frames_of k)))

close_rows_lem : (i : Item) (j : ℕ) (l : Part) (k : List Open)
    → AllRows (partial (ends i j) l k) (close_rows (frames_of k) (sum_to (level_of l) (end_tree (end_at i j))))
close_rows_lem i j l [] = tt
close_rows_lem i j l (o ∷ k) = (close_goes i j l o.outer o.opening k, tt)

same_end : (i : Item) (j : ℕ) → end_tree (ending i) ≡ end_tree (end_at i j)
same_end i zero = refl
same_end i (suc j) = refl

times_goes : (o : ProductJoin) (i : Item) (j : ℕ) (l : Part) (k : List Open)
    → Goes (partial (ends i j) l k) (product_byte o)
    (state want
    (level (sum_left l.sums) (waits (product_to (level_of l) (end_tree (end_at i j))) (product_tree o)) false)
    (frames_of k))
unfolding spaces
times_goes o i j l k =
    plainly (partial (wants 0) (part l.sums (product_waits (item_product l i) j o) bare) k)
    (ap (λ (t : Tree). state want (level (sum_left l.sums) (waits t (product_tree o)) false) (frames_of k))
    (item_product_tree l i j))
    (λ r. ap (λ (x : List ℕ). write_stack k (write_sums l.sums x))
    (item_product_bytes l i (spaces j (product_byte o ∷ r))))
    (same_nests o)
  where
    same_nests : (q : ProductJoin) → length (frames_of k) ≡ open_after (length (frames_of k)) (product_byte q)
    same_nests times = refl
    same_nests over = refl

plus_goes : (o : SumJoin) (i : Item) (j : ℕ) (l : Part) (k : List Open)
    → Goes (partial (ends i j) l k) (sum_byte o)
    (state want (level (waits (sum_to (level_of l) (end_tree (end_at i j))) (sum_tree o)) none false) (frames_of k))
unfolding spaces
plus_goes o i j l k =
    plainly (partial (wants 0) (part (sum_waits (item_sum l i) j o) no_product bare) k)
    (ap (λ (t : Tree). state want (level (waits t (sum_tree o)) none false) (frames_of k)) (item_sum_tree l i j))
    (λ r. ap (write_stack k) (item_bytes l i (spaces j (sum_byte o ∷ r))))
    (same_nests o)
  where
    same_nests : (q : SumJoin) → length (frames_of k) ≡ open_after (length (frames_of k)) (sum_byte q)
    same_nests plus = refl
    same_nests less = refl

join_rows_lem : (i : Item) (j : ℕ) (l : Part) (k : List Open)
    → AllRows (partial (ends i j) l k) (join_rows (level_of l) (frames_of k) (end_tree (end_at i j)))
unfolding spaces
join_rows_lem i j l k = (
  plainly (partial (ends i (suc j)) l k)
      (ap (λ (t : Tree). ended (item t) (level_of l) (frames_of k)) (same_end i j)) (λ r. refl) refl,
  (
    times_goes times i j l k,
    (times_goes over i j l k, (plus_goes plus i j l k, (plus_goes less i j l k, close_rows_lem i j l k))),
  ),
)

-- Every byte.
good_in : (m : Reading) (l : Part) (k : List Open) (b : ℕ)
    → Good (partial m l k) b (move_in (mode_of m) (level_of l) (frames_of k) b)
unfolding move_in
good_in (wants n) l k b =
    let d = partial (wants n) l k in
    good_pick d b (is_digit b) (λ e. goes (digit_goes n b l k e))
    (good_pick d b (eqb b 45)
    (λ e. subst (λ (c : ℕ). Good d c (minus_move (level_of l) (frames_of k))) (sym (eqb-true b 45 e))
    (minus_good n l.sums l.products l.sign k))
    (good_choice d (want_rows (level_of l) (frames_of k)) (want_rows_lem n l k) b))
good_in (spells n p) l k b =
    good_choice (partial (spells n p) l k) (spell_rows p (level_of l) (frames_of k)) (spell_rows_lem n p l k) b
good_in (names n f h) l k b =
    good_choice (partial (names n f h) l k) (named_rows f (level_of l) (frames_of k)) (named_rows_lem n f h l k) b
good_in (points n w) l k b =
    good_pick (partial (points n w) l k) b (is_digit b) (λ e. goes (point_goes n w b l k e)) stops
good_in (ends i j) l k b =
    let d = partial (ends i j) l k in
    good_pick d b (is_digit b) (λ e. digit_good i j b l k e)
    (good_pick d b (eqb b 46)
    (λ e. subst (λ (c : ℕ). Good d c (point_move (end_at i j) (level_of l) (frames_of k))) (sym (eqb-true b 46 e))
    (point_good i j l k))
    (good_choice d (join_rows (level_of l) (frames_of k) (end_tree (end_at i j))) (join_rows_lem i j l k) b))

pub good_move : (d : Partial) (b : ℕ) → Good d b (move (state_of d) b)
good_move d b = good_in d.reading d.inner d.stack b
