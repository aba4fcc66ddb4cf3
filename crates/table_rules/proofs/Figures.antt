-- The request's figures, computed: x − 2 on 3 by 2, drawn by one user and then by another; and kept tapes that line 24
-- takes or turns down.
use mathlib.Core.Path.{◌≡◌, refl, ap, ap₂, ◌∙◌}
use mathlib.Core.Bool.{Bool, true, false}
use mathlib.Core.List.{List, [], ◌∷◌, map}
use lib.IntN.{pos}
use Prim.Native.Nat.{ℕ}
use native.Mathlib.Omega.{arith}
use lib.ListN.{take}
use Rattle.rules.specs.Values.{smaller, larger, sum, difference, product, square, unary_value, binary_value, Clause}
use Rattle.rules.specs.Values.{value_of, sum_range, difference_range, product_range, negated_range, holds_zero, absolute_range, square_range, root_range}
use Rattle.rules.specs.Values.{smaller_range, larger_range, unary_range, multiplied_range, binary_range, range_of, side_below, side_above}
use Rattle.rules.specs.Values.{choice_of}
use Rattle.rules.specs.Tapes.{Tape, run_from, value_at, material, range_from, range_over, choices_from, reads, is_in}
use Rattle.rules.specs.Tapes.{without, on_clause, short_from, last_out, shortened, bad_slot, bad_unused, bad_constant}
use Rattle.rules.specs.Tapes.{bad_read, clause_fault, fault_from, read_clauses, counts_ok, head_counts, edition, signed4}
use Rattle.rules.specs.Tapes.{raw_in, raws_from, head_ok, read_tape, raws_of, read_list, list_of}
use Rattle.rules.specs.Marks.{as_marked, kept_by, new_mark, refined, marks_over, mark_bytes}
use Rattle.rules.specs.Drawings.{Grid, sample_at, lesser, box_of, raise_row, raise_rows, filled, row_high, rows_high}
use Rattle.rules.specs.Drawings.{hidden, along_x, along_y, along_z, children, state, fold, on_sample, visit}
use Rattle.rules.proofs.Accepted.{accepted_tape}
use Rattle.rules.proofs.Regions.{Fits}
use Rattle.worked_example.proofs.Example.{three_bytes, three_flat}
use Rattle.order_rules.specs.Orders.{cleared, numbers_from}
use Rattle.table_rules.specs.Tables.{zeros, flat_grid, begun, tile_of, verdict_of, tile_marks, entry_of, copies_ok}
use Rattle.table_rules.specs.Tables.{kept_ok, Rectangle, rows_tiles, tiles_in, known, put_entry}
use Rattle.table_rules.specs.Tables.{shared, on_tiles, turn}
use Rattle.table_rules.proofs.Entries.{put_same}
use Rattle.table_rules.proofs.Heads.{tape_fits, begun_size, begun_entry}
use Rattle.table_rules.proofs.KeptMarks.{entry_of_size}
use Rattle.table_rules.proofs.Drawn.{tile_unknown, tile_known}

abbrev pub three : Tape
three = (read_tape (three_bytes 1)).tape

abbrev pub grid : Grid
grid = flat_grid three_flat

-- The tile visited, counted, and drawn by its verdict; the first bytes of its entry: `03 15 00`.
pub entry_figure : take 3 (entry_of three grid (tile_of grid 0)) ≡ 3 ∷ (21 ∷ (0 ∷ []))
unfolding entry_of verdict_of tile_marks tile_of marks_over refined new_mark as_marked kept_by mark_bytes zeros read_tape
    head_ok counts_ok head_counts edition raws_from raw_in signed4 read_clauses fault_from clause_fault bad_slot bad_unused
    bad_constant bad_read box_of lesser last_out on_clause is_in without reads choices_from range_over range_from choice_of
    side_above side_below range_of binary_range multiplied_range unary_range larger_range smaller_range root_range square_range absolute_range
    holds_zero negated_range product_range difference_range sum_range square product difference sum larger smaller
entry_figure = refl

abbrev all_of : Rectangle
all_of = record { column = 0; row = 0; columns = 1; rows = 1 }

abbrev start : List ℕ
start = begun (three_bytes 1) grid

three_read : (read_tape (three_bytes 1)).number ≡ 0
unfolding read_tape head_ok counts_ok head_counts edition raws_from raw_in signed4 read_clauses fault_from clause_fault bad_slot
    bad_unused bad_constant bad_read is_in
three_read = refl

three_fits : Fits grid
three_fits = record { width = omega arith; height = omega arith; layers = omega arith }

-- The first to draw meets an unknown tile, the second a known one.
first_turn : turn three grid all_of start
    ≡ shared (visit (8 ∷ (1 ∷ [])) three grid (tile_of grid 0) (cleared grid))
    (put_entry 0 (entry_of three grid (tile_of grid 0)) start)
unfolding turn tiles_in rows_tiles numbers_from on_tiles
first_turn =
    tile_unknown (three_bytes 1) three_read grid refl three_fits 0 (cleared grid) start
    (begun_entry (three_bytes 1) grid (tape_fits (three_bytes 1) three_read) 0 (omega arith))

abbrev shown_table : List ℕ
shown_table = put_entry 0 (entry_of three grid (tile_of grid 0)) start

second_turn : turn three grid all_of shown_table
    ≡ shared (known (verdict_of three grid (tile_of grid 0)) (tile_marks three grid (tile_of grid 0)) three grid
    (tile_of grid 0) (cleared grid)) shown_table
unfolding turn tiles_in rows_tiles numbers_from on_tiles
second_turn =
    let e = entry_of three grid (tile_of grid 0) in
    tile_known (three_bytes 1) three_read grid refl three_fits 0 (cleared grid) shown_table
    (put_same 0 e start (omega arith)
    (entry_of_size three (accepted_tape (three_bytes 1) three_read) grid (tile_of grid 0))
    (begun_size (three_bytes 1) grid (tape_fits (three_bytes 1) three_read)))

visited_figure : visit (8 ∷ (1 ∷ [])) three grid (tile_of grid 0) (cleared grid)
    ≡ state (1 ∷ (1 ∷ (0 ∷ (1 ∷ (1 ∷ (0 ∷ [])))))) 24
unfolding tile_of read_tape head_ok counts_ok head_counts edition raws_from raw_in signed4 read_clauses fault_from clause_fault
    bad_slot bad_unused bad_constant bad_read visit on_sample fold children along_z along_y along_x hidden rows_high row_high
    filled raise_rows raise_row box_of lesser sample_at shortened last_out short_from on_clause is_in without reads choices_from
    range_over range_from material value_at run_from choice_of side_above side_below range_of binary_range multiplied_range unary_range
    larger_range smaller_range root_range square_range absolute_range holds_zero negated_range product_range difference_range sum_range value_of binary_value unary_value
    square product difference sum larger smaller
visited_figure = refl

known_figure : known (verdict_of three grid (tile_of grid 0)) (tile_marks three grid (tile_of grid 0)) three grid
    (tile_of grid 0) (cleared grid) ≡ state (1 ∷ (1 ∷ (0 ∷ (1 ∷ (1 ∷ (0 ∷ [])))))) 21
unfolding known verdict_of tile_marks tile_of marks_over refined new_mark as_marked kept_by read_tape head_ok counts_ok head_counts
    edition raws_from raw_in signed4 read_clauses fault_from clause_fault bad_slot bad_unused bad_constant bad_read visit
    on_sample fold children along_z along_y along_x hidden rows_high row_high filled raise_rows raise_row box_of lesser sample_at
    shortened last_out short_from on_clause is_in without reads choices_from range_over range_from material value_at run_from
    choice_of side_above side_below range_of binary_range multiplied_range unary_range larger_range smaller_range root_range square_range absolute_range
    holds_zero negated_range product_range difference_range sum_range value_of binary_value unary_value square product difference sum larger smaller
known_figure = refl

-- "x − 2 on 3 by 2": count 24, then 21, over the table that the first turn leaves.
pub turn_figures : (turn three grid all_of start).drawing.clauses ∷ ((turn three grid all_of
    (turn three grid all_of start).table).drawing.clauses ∷ []) ≡ 24 ∷ (21 ∷ [])
turn_figures =
    ap₂ (λ a b. a ∷ (b ∷ [])) (ap (λ u. u.drawing.clauses) first_turn ∙ ap (λ u. u.clauses) visited_figure)
    (ap (λ u. (turn three grid all_of u.table).drawing.clauses) first_turn
    ∙ ap (λ u. u.drawing.clauses) second_turn ∙ ap (λ u. u.clauses) known_figure)

-- Kept tapes of x, y, and an operation o on both: line 24 takes a copy of a side of a minimum or a maximum, and no
-- other; a copy whose side is dropped and an empty tape are turned down as lists.
abbrev clause : ℕ → ℕ → ℕ → ℕ → Clause
clause o d l r = record { opcode = o; out = d; left = l; right = r; constant = pos 0 }

abbrev pair : ℕ → Tape
pair o = record { slots = 2; clauses = clause 1 0 0 0 ∷ (clause 2 1 0 0 ∷ (clause o 0 0 1 ∷ [])) }

pub record Row : Type 0 where
  pub opcode : ℕ
  pub marks : List ℕ
  pub taken : Bool

abbrev pub row : ℕ → ℕ → ℕ → ℕ → Bool → Row
row o a b c t = record { opcode = o; marks = a ∷ (b ∷ (c ∷ [])); taken = t }

abbrev pub rows : List Row
rows =
    row 12 1 1 1 true
    ∷ (row 12 1 0 2 true
    ∷ (row 13 0 1 3 true
    ∷ (row 9 1 1 1 true
    ∷ (row 9 1 0 2 false
    ∷ (row 11 0 1 3 false
    ∷ (row 14 0 1 3 false ∷ (row 12 1 0 3 false ∷ (row 12 0 0 0 false ∷ (row 9 1 1 0 true ∷ [])))))))))

pub kept_figures : map (λ r. kept_ok (pair r.opcode) r.marks) rows ≡ map (λ r. r.taken) rows
unfolding kept_ok copies_ok kept_by as_marked read_list raws_of list_of counts_ok read_clauses fault_from clause_fault bad_slot
    bad_unused bad_constant bad_read is_in
kept_figures = refl
