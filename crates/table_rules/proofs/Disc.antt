-- The request's second figure, computed: the disc root((x − 60)² + (y − 40)²) − 30 on 100 by 70, four rectangles in
-- turn.
use mathlib.Core.Path.{◌≡◌, refl, sym, ap, ap₂, ◌∙◌}
use mathlib.Core.Bool.{Bool, false, ◌||◌}
use mathlib.Core.List.{List, [], ◌∷◌, map}
use Prim.Native.Nat.{ℕ, ◌+◌, ◌*◌, ◌≤◌}
use native.Mathlib.Omega.{arith}
use lib.ListN.{length, get_or, take, replicate}
use Rattle.rules.specs.Values.{smaller, larger, sum, difference, product, square, root_from, root_of, unary_value}
use Rattle.rules.specs.Values.{binary_value, value_of, sum_range, difference_range, product_range, negated_range, holds_zero, absolute_range, square_range}
use Rattle.rules.specs.Values.{root_range, smaller_range, larger_range, unary_range, multiplied_range, binary_range, range_of, side_below}
use Rattle.rules.specs.Values.{side_above, choice_of}
use Rattle.rules.specs.Tapes.{run_from, value_at, material, range_from, range_over, choices_from, reads, is_in}
use Rattle.rules.specs.Tapes.{without, on_clause, short_from, last_out, shortened, bad_slot, bad_unused, bad_constant}
use Rattle.rules.specs.Tapes.{bad_read, clause_fault, fault_from, read_clauses, counts_ok, head_counts, edition, signed4}
use Rattle.rules.specs.Tapes.{raw_in, raws_from, head_ok, read_tape}
use Rattle.rules.specs.Marks.{as_marked, kept_by, new_mark, refined, marks_over, mark_bytes}
use Rattle.rules.specs.Drawings.{Grid, sample_at, lesser, box_of, raise_row, raise_rows, filled, row_high, rows_high}
use Rattle.rules.specs.Drawings.{hidden, along_x, along_y, along_z, children, fold, on_sample, visit}
use Rattle.rules.proofs.Regions.{Fits}
use Rattle.reason_rules.proofs.Figures.{disc_bytes, disc}
use Rattle.reason_rules.proofs.Figures as Reason
use Rattle.order_rules.specs.Orders.{numbers_from, total}
use Rattle.table_rules.specs.Tables.{zeros, flat_grid, begun, tile_of, verdict_of, tile_marks, entry_of, Rectangle}
use Rattle.table_rules.specs.Tables.{rows_tiles, tiles_in, turn}
use Rattle.table_rules.specs.Turns.{Truthful, tile_part, Knows, count_in}
use Rattle.table_rules.proofs.Heads.{tape_fits}
use Rattle.table_rules.proofs.Numbers.{InTiles}
use Rattle.table_rules.proofs.Calls.{begun_truthful}
use Rattle.table_rules.proofs.Counts.{begun_knows, turn_count, turn_knows, turn_truthful}

-- The grid of T-12's figures.
abbrev pub plate : Grid
plate = flat_grid Reason.plate

disc_read : (read_tape disc_bytes).number ≡ 0
unfolding read_tape head_ok counts_ok head_counts edition raws_from raw_in signed4 read_clauses fault_from clause_fault bad_slot
    bad_unused bad_constant bad_read is_in
disc_read = refl

disc_clauses : length disc.clauses ≡ 12
unfolding read_tape head_ok counts_ok head_counts edition raws_from raw_in signed4 read_clauses fault_from clause_fault bad_slot
    bad_unused bad_constant bad_read is_in
disc_clauses = refl

-- The four tiles' parts of the walk's sum.
pub part_figures : map (tile_part disc plate) (0 ∷ (1 ∷ (2 ∷ (3 ∷ [])))) ≡ 10764 ∷ (9708 ∷ (1260 ∷ (1224 ∷ [])))
unfolding tile_part tile_of read_tape head_ok counts_ok head_counts edition raws_from raw_in signed4 read_clauses fault_from
    clause_fault bad_slot bad_unused bad_constant bad_read visit on_sample fold children along_z along_y along_x hidden rows_high
    row_high filled raise_rows raise_row box_of lesser sample_at shortened last_out short_from on_clause is_in without reads
    choices_from range_over range_from material value_at run_from choice_of side_above side_below range_of binary_range
    multiplied_range unary_range larger_range smaller_range root_range square_range absolute_range holds_zero negated_range product_range difference_range sum_range value_of
    binary_value unary_value square product difference sum larger smaller root_from root_of
part_figures = refl

-- Their entries begin `03 55 55 55 00`: no clause is left out.
pub entry_figures : map (λ i. take 5 (entry_of disc plate (tile_of plate i))) (0 ∷ (1 ∷ (2 ∷ (3 ∷ []))))
    ≡ replicate 4 (3 ∷ (85 ∷ (85 ∷ (85 ∷ (0 ∷ [])))))
unfolding entry_of verdict_of tile_marks tile_of marks_over refined new_mark as_marked kept_by mark_bytes zeros read_tape head_ok
    counts_ok head_counts edition raws_from raw_in signed4 read_clauses fault_from clause_fault bad_slot bad_unused bad_constant
    bad_read box_of lesser last_out on_clause is_in without reads choices_from range_over range_from choice_of side_above
    side_below range_of binary_range multiplied_range unary_range larger_range smaller_range root_range square_range absolute_range holds_zero negated_range
    product_range difference_range sum_range square product difference sum larger smaller root_from root_of
entry_figures = refl

-- Four rectangles in turn, over the table that the turn before left.
abbrev rectangle : ℕ → ℕ → ℕ → ℕ → Rectangle
rectangle c r n m = record { column = c; row = r; columns = n; rows = m }

abbrev table₀ : List ℕ
table₀ = begun disc_bytes plate

unfoldable pub after : Rectangle → List ℕ → List ℕ
after q b = (turn disc plate q b).table

unfoldable pub count_of : Rectangle → List ℕ → ℕ
count_of q b = (turn disc plate q b).drawing.clauses

plate_fits : Fits plate
plate_fits = record { width = omega arith; height = omega arith; layers = omega arith }

-- A table with the tiles that it knows, and the next one.
record Stage (b : List ℕ) (K : ℕ → Bool) : Type 0 where
  truthful : Truthful disc_bytes plate b
  knows : Knows b K

stage₀ : Stage table₀ (λ i. false)
stage₀ =
    record {
      truthful = begun_truthful disc_bytes plate disc_read;
      knows = begun_knows disc_bytes plate (tape_fits disc_bytes disc_read);
    }

next_stage : (q : Rectangle) → InTiles plate q → (b : List ℕ) (K : ℕ → Bool) → Stage b K
    → Stage (after q b) (λ j. is_in j (tiles_in plate q) || K j)
unfolding after
next_stage q i b K f =
    record {
      truthful = turn_truthful disc_bytes disc_read plate refl plate_fits q i b f.truthful;
      knows = turn_knows disc_bytes disc_read plate refl plate_fits q i b K f.truthful f.knows;
    }

counted : (q : Rectangle) → InTiles plate q → (b : List ℕ) (K : ℕ → Bool) → Stage b K → (is : List ℕ)
    → tiles_in plate q ≡ is → (k : ℕ) → count_in K is ≡ k → count_of q b + k * 12 ≡ total (map (tile_part disc plate) is)
unfolding count_of
counted q i b K f is e k h =
    ap₂ (λ x n. (turn disc plate q b).drawing.clauses + x * n) (sym (ap (count_in K) e ∙ h)) (sym disc_clauses)
    ∙ turn_count disc_bytes disc_read plate refl plate_fits q i b K f.truthful f.knows
    ∙ ap (λ ns. total (map (tile_part disc plate) ns)) e

abbrev q₁ : Rectangle
q₁ = rectangle 0 0 1 1

abbrev q₂ : Rectangle
q₂ = rectangle 0 0 2 1

abbrev q₃ : Rectangle
q₃ = rectangle 0 0 2 2

abbrev q₄ : Rectangle
q₄ = rectangle 1 1 1 1

inside : (c r n m : ℕ) → 1 ≤ n → 1 ≤ m → c + n ≤ 2 → r + m ≤ 2 → InTiles plate (rectangle c r n m)
inside c r n m a b d e = record { some_column = a; some_row = b; columns = d; rows = e }

abbrev table₁ : List ℕ
table₁ = after q₁ table₀

abbrev table₂ : List ℕ
table₂ = after q₂ table₁

abbrev table₃ : List ℕ
table₃ = after q₃ table₂

pub disc_figures : count_of q₁ table₀ ∷ (count_of q₂ table₁ ∷ (count_of q₃ table₂ ∷ (count_of q₄ table₃ ∷ [])))
    ≡ 10764 ∷ (20460 ∷ (22932 ∷ (1212 ∷ [])))
unfolding tiles_in rows_tiles numbers_from is_in count_in total
disc_figures =
    let p₀ : tile_part disc plate 0 ≡ 10764 = ap (λ l. get_or l 0 0) part_figures in
    let p₁ : tile_part disc plate 1 ≡ 9708 = ap (λ l. get_or l 1 0) part_figures in
    let p₂ : tile_part disc plate 2 ≡ 1260 = ap (λ l. get_or l 2 0) part_figures in
    let p₃ : tile_part disc plate 3 ≡ 1224 = ap (λ l. get_or l 3 0) part_figures in
    let i₁ = inside 0 0 1 1 (omega arith) (omega arith) (omega arith) (omega arith) in
    let i₂ = inside 0 0 2 1 (omega arith) (omega arith) (omega arith) (omega arith) in
    let i₃ = inside 0 0 2 2 (omega arith) (omega arith) (omega arith) (omega arith) in
    let i₄ = inside 1 1 1 1 (omega arith) (omega arith) (omega arith) (omega arith) in
    let s₁ = next_stage q₁ i₁ table₀ (λ i. false) stage₀ in
    let s₂ = next_stage q₂ i₂ table₁ _ s₁ in
    let s₃ = next_stage q₃ i₃ table₂ _ s₂ in
    let c₁ : count_of q₁ table₀ ≡ 10764 =
    omega (arith, p₀, counted q₁ i₁ table₀ (λ i. false) stage₀ (0 ∷ []) refl 0 refl) in
    let c₂ : count_of q₂ table₁ ≡ 20460 =
    omega (arith, p₀, p₁, counted q₂ i₂ table₁ _ s₁ (0 ∷ (1 ∷ [])) refl 1 refl) in
    let c₃ : count_of q₃ table₂ ≡ 22932 =
    omega (arith, p₀, p₁, p₂, p₃, counted q₃ i₃ table₂ _ s₂ (0 ∷ (1 ∷ (2 ∷ (3 ∷ [])))) refl 2 refl) in
    let c₄ : count_of q₄ table₃ ≡ 1212 = omega (arith, p₃, counted q₄ i₄ table₃ _ s₃ (3 ∷ []) refl 1 refl) in
    cc
