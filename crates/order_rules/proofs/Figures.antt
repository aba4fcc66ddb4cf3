-- Figures of T-10, computed: tiles by number, walks in an order, refusals. Those of lists alone are in OrderTests.
use mathlib.Core.Path.{◌≡◌, refl}
use mathlib.Core.List.{List, [], ◌∷◌, ◌++◌, map}
use lib.IntN.{pos}
use Prim.Native.Nat.{ℕ}
use Rattle.rules.specs.Values.{smaller, larger, sum, difference, product, square, root_from, root_of, unary_value}
use Rattle.rules.specs.Values.{binary_value, value_of, sum_range, difference_range, product_range, negated_range, holds_zero, absolute_range, square_range}
use Rattle.rules.specs.Values.{root_range, smaller_range, larger_range, unary_range, multiplied_range, binary_range, range_of, side_below}
use Rattle.rules.specs.Values.{side_above, choice_of}
use Rattle.rules.specs.Tapes.{run_from, value_at, material, range_from, range_over, choices_from, reads, is_in, without}
use Rattle.rules.specs.Tapes.{on_clause, short_from, last_out, shortened, bad_slot, bad_unused, bad_constant, bad_read}
use Rattle.rules.specs.Tapes.{clause_fault, fault_from, read_clauses, counts_ok, head_counts, edition, signed4, raw_in}
use Rattle.rules.specs.Tapes.{raws_from, head_ok, read_tape}
use Rattle.rules.specs.Drawings.{Grid, sample_at, grid_fault, Region, lesser, box_of, raise_row, raise_rows, filled, row_high}
use Rattle.rules.specs.Drawings.{rows_high, hidden, along_x, along_y, along_z, children, fold, on_sample, visit, sides}
use Rattle.rules.specs.Drawings.{State, walked, part_of}
use Rattle.rules.specs.Pictures.{picture_size}
use Rattle.order_rules.specs.Orders.{times_in, all_below, once_each, is_order, tiles, tile_count}
use Rattle.order_rules.specs.Orders.{in_order, tile_at, walked_in, numbers_from, parts_from, parts_in, order_fault}

-- z less k as a tape, and a solid from 0 on, each step 65,536.
abbrev clause_record : ℕ → ℕ → ℕ → ℕ → ℕ → List ℕ → List ℕ
clause_record o d l r k rest = 67 ∷ (76 ∷ (o ∷ (d ∷ (l ∷ (r ∷ (0 ∷ (0 ∷ (k ∷ (0 ∷ rest)))))))))

abbrev z_less : ℕ → List ℕ
z_less k =
    84 ∷ (80 ∷ (1 ∷ (2 ∷ (3 ∷ (0 ∷ (0 ∷ (0
    ∷ clause_record 3 0 0 0 0 (clause_record 0 1 0 0 k (clause_record 10 0 0 1 0 [])))))))))

abbrev solid_of : ℕ → ℕ → ℕ → Grid
solid_of w h d =
    record {
      width = w;
      height = h;
      depth = d;
      origin_x = pos 0;
      origin_y = pos 0;
      origin_z = pos 0;
      step_x = pos 65536;
      step_y = pos 65536;
      step_z = pos 65536;
    }

record Row : Type 0 where
  given : List ℕ
  said : List ℕ

abbrev row : List ℕ → List ℕ → Row
row g s = record { given = g; said = s }

-- The tiles of 70 by 65 by 130 samples, as the walk meets them and by their numbers: their first indices.
abbrev corners : List Region → List ℕ
corners [] = []
corners (q ∷ qs) = q.i ∷ (q.j ∷ (q.k ∷ corners qs))

abbrev layer_at : ℕ → List ℕ → List ℕ
layer_at k rest = 0 ∷ (0 ∷ (k ∷ (64 ∷ (0 ∷ (k ∷ (0 ∷ (64 ∷ (k ∷ (64 ∷ (64 ∷ (k ∷ rest)))))))))))

abbrev numbers : List Row
numbers =
    let g = solid_of 70 65 130 in
    row (corners (tiles g)) (layer_at 128 (layer_at 64 (layer_at 0 [])))
    ∷ (row (corners (map (tile_at g) (numbers_from 0 (tile_count g)))) (layer_at 128 (layer_at 64 (layer_at 0 [])))
    ∷ [])

-- z − 100 on 1 by 1 by 128, and z − 70 on 2 by 1 by 130: the count and the heights in an order. The lower tiles first
-- count more, since nothing hides them yet.
abbrev drawn_in : ℕ → Grid → List ℕ → List ℕ
drawn_in k g ks = let s : State = walked_in ks (read_tape (z_less k)).tape g in s.clauses ∷ s.heights

abbrev walks : List Row
walks =
    row (drawn_in 100 (solid_of 1 1 128) (0 ∷ (1 ∷ []))) (21 ∷ (100 ∷ []))
    ∷ (row (drawn_in 100 (solid_of 1 1 128) (1 ∷ (0 ∷ []))) (24 ∷ (100 ∷ []))
    ∷ (row (drawn_in 70 (solid_of 2 1 130) (0 ∷ (1 ∷ (2 ∷ [])))) (45 ∷ (70 ∷ (70 ∷ [])))
    ∷ (row (drawn_in 70 (solid_of 2 1 130) (2 ∷ (1 ∷ (0 ∷ [])))) (48 ∷ (70 ∷ (70 ∷ [])))
    ∷ (row ((walked (read_tape (z_less 70)).tape (solid_of 2 1 130)).clauses ∷ []) (45 ∷ [])
    ∷ (row (parts_in (1 ∷ (0 ∷ [])) (read_tape (z_less 100)).tape (solid_of 1 1 128)) (3 ∷ (21 ∷ []))
    ∷ [])))))

-- Refusals on 1 by 1 by 128, with a picture of n heights and a work buffer of k bytes.
abbrev refusal : List ℕ → ℕ → ℕ → ℕ → Row
refusal ks n k a = row (order_fault (z_less 100) (solid_of 1 1 128) ks n k ∷ []) (a ∷ [])

abbrev refusals : List Row
refusals =
    refusal (0 ∷ (1 ∷ [])) 1 32768 0
    ∷ (refusal (0 ∷ (0 ∷ [])) 1 32768 12
    ∷ (refusal (0 ∷ []) 1 32768 12
    ∷ (refusal (0 ∷ (2 ∷ [])) 1 32768 12
    ∷ (refusal (0 ∷ (0 ∷ [])) 1 32767 12
    ∷ (refusal (1 ∷ (0 ∷ [])) 1 32767 13
    ∷ (refusal (1 ∷ (0 ∷ [])) 2 32768 12
    ∷ (row (order_fault (z_less 100) (solid_of 1 1 513) (0 ∷ []) 0 0 ∷ []) (10 ∷ [])
    ∷ (row (order_fault [] (solid_of 1 1 513) (0 ∷ []) 0 0 ∷ []) (1 ∷ [])
    ∷ []))))))))

abbrev rows : List Row
rows = numbers ++ walks ++ refusals

pub figures : map (λ r. r.given) rows ≡ map (λ r. r.said) rows
unfolding times_in all_below once_each is_order in_order tile_at walked_in numbers_from parts_from
    smaller larger sum difference product square root_from root_of unary_value binary_value value_of sum_range difference_range
    product_range negated_range holds_zero absolute_range square_range root_range smaller_range larger_range unary_range multiplied_range binary_range range_of
    side_below side_above choice_of run_from value_at material range_from range_over choices_from reads is_in without on_clause
    short_from last_out shortened bad_slot bad_unused bad_constant bad_read clause_fault fault_from read_clauses counts_ok
    head_counts edition signed4 raw_in raws_from head_ok read_tape sample_at grid_fault lesser box_of raise_row raise_rows filled
    row_high rows_high hidden along_x along_y along_z children fold on_sample visit sides walked part_of picture_size
figures = refl
