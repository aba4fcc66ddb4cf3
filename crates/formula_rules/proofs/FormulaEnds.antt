-- From any parts an allowed text can be finished; where the reader ends with a tree, they are one.
use mathlib.Core.Path.{◌≡◌, refl, ◌∙◌, ap}
use mathlib.Core.List.{List, [], ◌∷◌}
use Prim.Native.Nat.{ℕ}
use native.Mathlib.Omega.{arith}
use Rattle.formula_rules.specs.Trees.{Tree, axisX}
use Rattle.formula_rules.specs.Formulas.{one, count, Decimals, decimal, plus, absName, sqrName, rootName, minName}
use Rattle.formula_rules.specs.Formulas.{maxName, Sum, product, joined, signed, plain, Item, constant, variable, bracket}
use Rattle.formula_rules.specs.Formulas.{call, pair, Text, spaces, write_digits, write_sum, write_item, bytes_of, tree_of}
use Rattle.formula_rules.specs.FormulaReader.{Spelling, a-, ab-, s-, sq-, r-, ro-, roo-, m-, mi-, ma-}
use Rattle.formula_rules.specs.FormulaReader.{of_one, of_two, Answer, done, breaks, end_in}
use Rattle.formula_rules.proofs.FormulaParts.{Open, Opening, Part, Partial, Reading, ends, frames_of, fresh_part}
use Rattle.formula_rules.proofs.FormulaParts.{item_bytes, item_sum_tree, item_sum, level_of, mode_of, names, open_first}
use Rattle.formula_rules.proofs.FormulaParts.{open_one, open_plain, open_second, partial, points, spells, state_of, wants}
use Rattle.formula_rules.proofs.FormulaParts.{write, write_opening, write_part, write_reading, write_stack}

-- The shortest item, and a bracket closed around a sum.
abbrev item_x : ℕ → Item
item_x n = variable n axisX

abbrev sum_x : Sum
sum_x = product (signed (plain (item_x 0)))

abbrev close_item : Opening → Sum → Item
close_item (open_plain n) s = bracket n s 0
close_item (open_one n f h) s = call n f h s 0
close_item (open_first n f h) s = pair n f h s 0 sum_x 0
close_item (open_second n f h t g) s = pair n f h t g s 0

close_bytes : (o : Opening) (s : Sum) (r : List ℕ)
    → (q : List ℕ) × (write_item (close_item o s) r ≡ write_opening o (write_sum s q))
unfolding write_sum spaces
close_bytes (open_plain n) s r = (41 ∷ r, refl)
close_bytes (open_one n f h) s r = (41 ∷ r, refl)
close_bytes (open_first n f h) s r = (44 ∷ (120 ∷ (41 ∷ r)), refl)
close_bytes (open_second n f h t g) s r = (41 ∷ r, refl)

-- All open brackets closed around a sum; the item that is being read, finished.
finish_stack : (k : List Open) (s : Sum) → (t : Text) × (q : List ℕ) × (bytes_of t ≡ write_stack k (write_sum s q))
unfolding bytes_of spaces
finish_stack [] s = (record { sum = s; after = 0 }, [], refl)
finish_stack (o ∷ k) s =
    let i = close_item o.opening s in
    let (t, q, e) = finish_stack k (item_sum o.outer i) in
    let (p, f) = close_bytes o.opening s q in
    (t, p, e ∙ ap (write_stack k) (item_bytes o.outer i q ∙ ap (write_part o.outer) f))

record Finished (m : Reading) (l : Part) : Type 0 where
  sum : Sum
  rest : List ℕ → List ℕ
  bytes : (r : List ℕ) → write_sum sum r ≡ write_part l (write_reading m (rest r))

by_item : (m : Reading) (l : Part) (i : Item) (rest : List ℕ → List ℕ)
    → ((r : List ℕ) → write_item i r ≡ write_reading m (rest r)) → Finished m l
by_item m l i rest e =
    record { sum = item_sum l i; rest = rest; bytes = λ r. item_bytes l i r ∙ ap (write_part l) (e r) }

finish_spelling : (n : ℕ) (p : Spelling) (l : Part) → Finished (spells n p) l
unfolding write_sum spaces
finish_spelling n a- l =
    by_item (spells n a-) l (call n absName 0 sum_x 0) (λ r. 98 ∷ (115 ∷ (40 ∷ (120 ∷ (41 ∷ r))))) (λ r. refl)
finish_spelling n ab- l =
    by_item (spells n ab-) l (call n absName 0 sum_x 0) (λ r. 115 ∷ (40 ∷ (120 ∷ (41 ∷ r)))) (λ r. refl)
finish_spelling n s- l =
    by_item (spells n s-) l (call n sqrName 0 sum_x 0) (λ r. 113 ∷ (114 ∷ (40 ∷ (120 ∷ (41 ∷ r))))) (λ r. refl)
finish_spelling n sq- l =
    by_item (spells n sq-) l (call n sqrName 0 sum_x 0) (λ r. 114 ∷ (40 ∷ (120 ∷ (41 ∷ r)))) (λ r. refl)
finish_spelling n r- l =
    by_item (spells n r-) l (call n rootName 0 sum_x 0) (λ r. 111 ∷ (111 ∷ (116 ∷ (40 ∷ (120 ∷ (41 ∷ r))))))
    (λ r. refl)
finish_spelling n ro- l =
    by_item (spells n ro-) l (call n rootName 0 sum_x 0) (λ r. 111 ∷ (116 ∷ (40 ∷ (120 ∷ (41 ∷ r))))) (λ r. refl)
finish_spelling n roo- l =
    by_item (spells n roo-) l (call n rootName 0 sum_x 0) (λ r. 116 ∷ (40 ∷ (120 ∷ (41 ∷ r)))) (λ r. refl)
finish_spelling n m- l =
    by_item (spells n m-) l (pair n minName 0 sum_x 0 sum_x 0)
    (λ r. 105 ∷ (110 ∷ (40 ∷ (120 ∷ (44 ∷ (120 ∷ (41 ∷ r))))))) (λ r. refl)
finish_spelling n mi- l =
    by_item (spells n mi-) l (pair n minName 0 sum_x 0 sum_x 0) (λ r. 110 ∷ (40 ∷ (120 ∷ (44 ∷ (120 ∷ (41 ∷ r))))))
    (λ r. refl)
finish_spelling n ma- l =
    by_item (spells n ma-) l (pair n maxName 0 sum_x 0 sum_x 0) (λ r. 120 ∷ (40 ∷ (120 ∷ (44 ∷ (120 ∷ (41 ∷ r))))))
    (λ r. refl)

abbrev zero_decimal : Decimals
zero_decimal = record { digits = one 48 refl; few = unfold count in omega arith }

finish_reading : (m : Reading) (l : Part) → Finished m l
unfolding write_sum write_digits spaces
finish_reading (wants n) l = by_item (wants n) l (item_x n) (λ r. 120 ∷ r) (λ r. refl)
finish_reading (spells n p) l = finish_spelling n p l
finish_reading (names n (of_one f) h) l =
    by_item (names n (of_one f) h) l (call n f h sum_x 0) (λ r. 40 ∷ (120 ∷ (41 ∷ r))) (λ r. refl)
finish_reading (names n (of_two f) h) l =
    by_item (names n (of_two f) h) l (pair n f h sum_x 0 sum_x 0) (λ r. 40 ∷ (120 ∷ (44 ∷ (120 ∷ (41 ∷ r))))) (λ r. refl)
finish_reading (points n w) l =
    by_item (points n w) l (constant n (decimal w zero_decimal)) (λ r. 48 ∷ r) (λ r. refl)
finish_reading (ends i j) l =
    record {
      sum = joined (item_sum l i) j plus (signed (plain (item_x 0)));
      rest = λ r. 43 ∷ (120 ∷ r);
      bytes = λ r. item_bytes l i (spaces j (43 ∷ (120 ∷ r)));
    }

-- From any parts an allowed text goes on.
pub finish : (d : Partial) → (t : Text) × (q : List ℕ) × (bytes_of t ≡ write d q)
finish d =
    let f = finish_reading d.reading d.inner in
    let (t, q, e) = finish_stack d.stack f.sum in
    (t, f.rest q, e ∙ ap (write_stack d.stack) (f.bytes q))

-- Where the reader ends with a tree, the parts are an allowed text of that tree.
pub data EndsAs (d : Partial) (n : ℕ) : Answer → Type 0 where
  broken : EndsAs d n (breaks n)
  whole_text : {t : Tree} (x : Text) → bytes_of x ≡ write d [] → tree_of x ≡ t → EndsAs d n (done t)

ends_in : (m : Reading) (l : Part) (k : List Open) (n : ℕ)
    → EndsAs (partial m l k) n (end_in (mode_of m) (level_of l) (frames_of k) n)
unfolding bytes_of tree_of
ends_in (wants m) l k n = broken
ends_in (spells m p) l k n = broken
ends_in (names m f h) l k n = broken
ends_in (points m w) l k n = broken
ends_in (ends i j) l [] n =
    whole_text (record { sum = item_sum l i; after = j }) (item_bytes l i (spaces j [])) (item_sum_tree l i j)
ends_in (ends i j) l (o ∷ k) n = broken

pub ends_as : (d : Partial) (n : ℕ)
    → EndsAs d n (end_in (state_of d).mode (state_of d).inner (state_of d).stack n)
ends_as d n = ends_in d.reading d.inner d.stack n

-- No parts yet.
abbrev pub start_parts : Partial
start_parts = partial (wants 0) fresh_part []
