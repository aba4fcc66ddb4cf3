-- The figures that the scope paper marks to be proved (★), some of its worded rules at numbers, and the figures of the
-- requests, as rows of one list: what a definition gives, and what the paper says.
use mathlib.Core.Path.{◌≡◌, refl}
use mathlib.Core.Bool.{false}
use mathlib.Core.List.{List, [], ◌∷◌, ◌++◌, map}
use lib.IntN.{ℤ, pos, neg_ℤ}
use Prim.Native.Nat.{ℕ}
use lib.Ieee.{binary64, of_bits, of_int, div}
use Rattle.rules.specs.Values.{smaller, larger, sum, difference, product, square, root_from, root_of, Clause, Range}
use Rattle.rules.specs.Values.{quotient, quotient_range, Sample, unary_value, binary_value, value_of}
use Rattle.rules.specs.Values.{range, Box, holds_zero, absolute_range, square_range, root_range, product_range, sum_range, difference_range}
use Rattle.rules.specs.Values.{negated_range, smaller_range, larger_range, unary_range, binary_range, range_of, side_below, side_above}
use Rattle.rules.specs.Values.{multiplied_range, choice_of}
use Rattle.rules.specs.Tapes.{Tape, no_range, choices_from, reads, is_in, without, on_clause, short_from, last_out}
use Rattle.rules.specs.Tapes.{range_from, range_over, shortened, list_of, bad_slot, bad_unused, bad_constant}
use Rattle.rules.specs.Tapes.{bad_read, clause_fault, fault_from, read_clauses, counts_ok, edition, head_counts}
use Rattle.rules.specs.Tapes.{signed4, raw_in, raws_from, head_ok, read_tape}
use Rattle.rules.specs.Marks.{as_marked, kept_by, new_mark, refined, whole_marks, kept_tape, marks_over}
use Rattle.rules.specs.Drawings.{Grid, at, sample_at, grid_fault}
use Rattle.rules.specs.Probes.{over, under, rounded_down, coordinate_ok, point_fault, probe_fault, stored_float}
use Rattle.rules.specs.Slopes.{unary_slope, binary_slope, slope_of, sloped_of, sloped_from, sloped_at, Slopes, slopes_at}
use Rattle.rules.specs.Slopes.{listed, row_slopes, rows_slopes, slopes_of}

-- A row of numbers: a range is its two ends, a tape is its list.
pub record Row : Type 0 where
  pub given : List ℤ
  pub said : List ℤ

abbrev pub number : ℤ → ℤ → Row
number z w = record { given = z ∷ []; said = w ∷ [] }

abbrev pub interval : Range → ℤ → ℤ → Row
interval r l h = record { given = r.low ∷ (r.high ∷ []); said = l ∷ (h ∷ []) }

abbrev pub choice : ℕ → ℕ → Row
choice h k = record { given = pos h ∷ []; said = pos k ∷ [] }

abbrev pub clause : ℕ → ℕ → ℕ → ℕ → ℤ → Clause
clause o d l r c = record { opcode = o; out = d; left = l; right = r; constant = c }

abbrev pub tape : Tape → List Clause → Row
tape t cs = record { given = list_of t.clauses; said = list_of cs }

abbrev pub marks : List ℕ → List ℕ → Row
marks ms ns = record { given = map pos ms; said = map pos ns }

abbrev pub minus : ℕ → ℤ
minus n = neg_ℤ (pos n)

-- The box of the figures: x from a to b, no y or z read.
abbrev pub on_x : ℤ → ℤ → Box
on_x a b = record { xs = range a b; ys = no_range; zs = no_range }

-- x in slot 0; constant 0 in 1; minimum of 0, 1 into 1; constant −10 in 2; minimum of 2, 1 into 0.
abbrev pub five : Tape
five =
    record {
      slots = 3;
      clauses = clause 1 0 0 0 (pos 0)
          ∷ (clause 0 1 0 0 (pos 0)
          ∷ (clause 12 1 0 1 (pos 0) ∷ (clause 0 2 0 0 (minus 10) ∷ (clause 12 0 2 1 (pos 0) ∷ []))));
    }

-- x in slot 0; constant 0 in 1; minimum of 0, 1 into 1; add of 1, 0 into 1. Over x 5..9 the minimum's choice is its own
-- slot, and the add reads the slot that it writes.
abbrev pub four : Tape
four =
    record {
      slots = 2;
      clauses = clause 1 0 0 0 (pos 0)
          ∷ (clause 0 1 0 0 (pos 0) ∷ (clause 12 1 0 1 (pos 0) ∷ (clause 9 1 1 0 (pos 0) ∷ [])));
    }

-- A row of n samples along x, from the origin o on in steps of s; z is 5 where the depth d is 0.
abbrev pub along_one : ℤ → ℤ → ℕ → ℕ → Grid
along_one o s n d =
    record {
      width = n;
      height = 1;
      depth = d;
      origin_x = o;
      origin_y = pos 0;
      origin_z = pos 5;
      step_x = s;
      step_y = pos 1;
      step_z = pos 3;
    }

abbrev pub refused : ℤ → ℤ → ℕ → ℕ → Row
refused o s n k = number (pos (grid_fault false (along_one o s n 0))) (pos k)

-- Request T-03: odd steps; a flat z and the first of a solid; line 11 at the ends of the values.
abbrev pub middles : List Row
middles =
    number (at (pos 0) (pos 3) 0) (pos 1)
    ∷ (number (at (pos 0) (pos 3) 1) (pos 4)
    ∷ (number (at (pos 0) (pos 3) 2) (pos 7)
    ∷ (number (sample_at (along_one (pos 0) (pos 3) 1 0) 0 0 0).z (pos 5)
    ∷ (number (sample_at (along_one (pos 0) (pos 3) 1 1) 0 0 0).z (pos 6)
    ∷ (refused (pos 2147483647) (pos 1) 1 0
    ∷ (refused (pos 2147483647) (pos 2) 1 11
    ∷ (number (at (minus 2147483647) (pos 2147483647) 0) (minus 1073741824)
    ∷ (number (at (minus 2147483647) (pos 2147483647) 1) (pos 1073741823)
    ∷ (refused (minus 2147483647) (pos 2147483647) 2 0
    ∷ (refused (minus 2147483647) (pos 2147483647) 3 11
    ∷ (refused (minus 2147483648) (pos 2) 1 11
    ∷ [])))))))))))

-- The marked figures, in the paper's order.
abbrev pub starred : List Row
starred =
    number (product (minus 1) (pos 1)) (minus 1)
    ∷ (number (product (pos 1) (pos 1)) (pos 0)
    ∷ (number (product (pos 2147483647) (pos 2147483647)) (pos 2147483647)
    ∷ (number (product (minus 2147483647) (pos 2147483647)) (minus 2147483647)
    ∷ (number (sum (pos 2147483647) (pos 1)) (pos 2147483647)
    ∷ (number (difference (minus 2147483647) (pos 1)) (minus 2147483647)
    ∷ (number (root_of (minus 5)) (pos 0)
    ∷ (number (root_of (pos 1)) (pos 256)
    ∷ (number (root_of (pos 2)) (pos 362)
    ∷ (number (root_of (pos 65536)) (pos 65536)
    ∷ (number (square (pos 255)) (pos 0)
    ∷ (number (square (pos 256)) (pos 1)
    ∷ (number (square (minus 98304)) (pos 147456)
    ∷ (interval (product_range (range (minus 1) (pos 1)) (range (minus 1) (pos 1))) (minus 1) (pos 0)
    ∷ (choice (choice_of 12 (range (pos 0) (pos 4)) (range (pos 5) (pos 9))) 1
    ∷ (choice (choice_of 12 (range (pos 0) (pos 5)) (range (pos 5) (pos 9))) 0
    ∷ (tape (shortened five (on_x (pos 5) (pos 9))) (clause 0 2 0 0 (minus 10) ∷ (clause 4 0 2 0 (pos 0) ∷ []))
    ∷ []))))))))))))))))

-- Rules that the paper words and gives no figure for.
abbrev pub worded : List Row
worded =
    interval (absolute_range (range (minus 3) (pos 5))) (pos 0) (pos 5)
    ∷ (interval (absolute_range (range (minus 5) (minus 3))) (pos 3) (pos 5)
    ∷ (interval (square_range (range (minus 512) (pos 256))) (pos 0) (pos 4)
    ∷ (interval (root_range (range (minus 5) (pos 2))) (pos 0) (pos 362)
    ∷ (interval (negated_range (range (minus 1) (pos 7))) (minus 7) (pos 1)
    ∷ (interval (sum_range (range (pos 1) (pos 2)) (range (pos 10) (pos 20))) (pos 11) (pos 22)
    ∷ (interval (difference_range (range (pos 1) (pos 2)) (range (pos 10) (pos 20))) (minus 19) (minus 8)
    ∷ (interval (smaller_range (range (pos 1) (pos 9)) (range (pos 2) (pos 3))) (pos 1) (pos 3)
    ∷ (interval (larger_range (range (pos 1) (pos 9)) (range (pos 2) (pos 3))) (pos 2) (pos 9)
    ∷ (choice (choice_of 12 (range (pos 5) (pos 9)) (range (pos 0) (pos 4))) 2
    ∷ (choice (choice_of 13 (range (pos 5) (pos 9)) (range (pos 0) (pos 4))) 1
    ∷ (choice (choice_of 13 (range (pos 0) (pos 4)) (range (pos 5) (pos 9))) 2
    ∷ (choice (choice_of 9 (range (pos 0) (pos 4)) (range (pos 5) (pos 9))) 0
    ∷ (tape (shortened four (on_x (pos 5) (pos 9)))
    (clause 1 0 0 0 (pos 0) ∷ (clause 0 1 0 0 (pos 0) ∷ (clause 9 1 1 0 (pos 0) ∷ [])))
    ∷ [])))))))))))))

-- x and x by an opcode: in one slot, and in two that hold the same.
abbrev pub in_one_slot : ℕ → Tape
in_one_slot o = record { slots = 1; clauses = clause 1 0 0 0 (pos 0) ∷ (clause o 0 0 0 (pos 0) ∷ []) }

abbrev pub in_two_slots : ℕ → Tape
in_two_slots o =
    record {
      slots = 2;
      clauses = clause 1 0 0 0 (pos 0) ∷ (clause 1 1 0 0 (pos 0) ∷ (clause o 0 0 1 (pos 0) ∷ []));
    }

-- Request T-01: a multiply of one slot with itself has the range of square, two slots and other opcodes do not. The
-- range of a product would be sound there too, so that these rows alone tell the two apart.
abbrev pub one_slot : List Row
one_slot =
    interval (range_over (in_one_slot 11) (on_x (minus 1) (pos 1))) (pos 0) (pos 0)
    ∷ (interval (range_over (in_one_slot 11) (on_x (minus 196608) (pos 327680))) (pos 0) (pos 1638400)
    ∷ (interval (range_over (in_two_slots 11) (on_x (minus 196608) (pos 327680))) (minus 983040) (pos 1638400)
    ∷ (interval (range_over (in_one_slot 9) (on_x (minus 196608) (pos 327680))) (minus 393216) (pos 655360)
    ∷ [])))

-- Request T-06: quotients rounded down whatever the signs, by 0, clamped; over ranges, with a divisor on either side of
-- 0, up to it and from it.
abbrev pub quotients : List Row
quotients =
    number (quotient (minus 1) (pos 196608)) (minus 1)
    ∷ (number (quotient (pos 1) (minus 196608)) (minus 1)
    ∷ (number (quotient (minus 1) (minus 196608)) (pos 0)
    ∷ (number (quotient (pos 655360) (pos 196608)) (pos 218453)
    ∷ (number (quotient (minus 655360) (pos 196608)) (minus 218454)
    ∷ (number (quotient (pos 5) (pos 0)) (pos 2147483647)
    ∷ (number (quotient (pos 0) (pos 0)) (pos 0)
    ∷ (number (quotient (minus 5) (pos 0)) (minus 2147483647)
    ∷ (number (quotient (pos 2147483647) (minus 1)) (minus 2147483647)
    ∷ (number (quotient (pos 2147483647) (pos 1)) (pos 2147483647)
    ∷ (number (quotient (pos 65536) (pos 3)) (pos 1431655765)
    ∷ (interval (quotient_range (range (minus 131072) (pos 196608)) (range (minus 131072) (minus 65536)))
    (minus 196608) (pos 131072)
    ∷ (interval (quotient_range (range (minus 3) (pos 5)) (range (pos 2) (pos 7))) (minus 98304) (pos 163840)
    ∷ (interval (quotient_range (range (minus 3) (pos 5)) (range (pos 0) (pos 5))) (minus 2147483647) (pos 2147483647)
    ∷ (interval (quotient_range (range (minus 3) (pos 5)) (range (minus 5) (pos 0))) (minus 2147483647) (pos 2147483647)
    ∷ []))))))))))))))

-- As clauses: the left slot by the right one, one slot by itself as any two, never a choice; 14 is the last opcode.
abbrev pub divides : ℕ → ℕ → Clause
divides l r = clause 14 0 l r (pos 0)

abbrev pub nowhere : Sample
nowhere = record { x = pos 0; y = pos 0; z = pos 0 }

abbrev pub fault_of : ℕ → ℕ
fault_of o = clause_fault 2 (0 ∷ (1 ∷ []))
    (record { opcode = pos o; out = pos 0; left = pos 0; right = pos 1; constant = pos 0 })

abbrev pub dividing : List Row
dividing =
    number (value_of (divides 0 1) nowhere (pos 655360) (pos 196608)) (pos 218453)
    ∷ (interval (range_of (divides 0 1) (on_x (pos 0) (pos 0)) (range (minus 3) (pos 5)) (range (pos 2) (pos 7)))
    (minus 98304) (pos 163840)
    ∷ (interval (range_of (divides 1 1) (on_x (pos 0) (pos 0)) (range (pos 2) (pos 4)) (range (pos 2) (pos 4)))
    (pos 32768) (pos 131072)
    ∷ (choice (choice_of 14 (range (pos 0) (pos 4)) (range (pos 5) (pos 9))) 0
    ∷ (choice (fault_of 14) 0
    ∷ (choice (fault_of 15) 5
    ∷ [])))))

-- T-08's: the short tape of the marked figure by marks. Shortened again, x from 6 to 7, it stays as it is.
abbrev pub kept_forms : List Row
kept_forms =
    let ms = marks_over five (whole_marks five.clauses) (on_x (pos 5) (pos 9)) in
    marks ms (0 ∷ (0 ∷ (0 ∷ (1 ∷ (2 ∷ [])))))
    ∷ (tape (kept_tape five ms) (clause 0 2 0 0 (minus 10) ∷ (clause 4 0 2 0 (pos 0) ∷ []))
    ∷ (marks (marks_over five ms (on_x (pos 6) (pos 7))) (0 ∷ (0 ∷ (0 ∷ (1 ∷ (2 ∷ [])))))
    ∷ []))

-- Request T-04, coordinates by their bits: the unit that one is rounded down to, line 20 for a point with one of its
-- three there, and the fraction that a stored value is in the answer.
abbrev pub unit : ℕ → ℤ → Row
unit b v = number (rounded_down (of_bits binary64 b)) v

abbrev pub on_each : ℕ → ℕ → Row
on_each b k =
    let c = of_bits binary64 b in
    let o = of_bits binary64 0 in
    record {
      given = pos (point_fault (record { x = c; y = o; z = o }))
          ∷ (pos (point_fault (record { x = o; y = c; z = o }))
          ∷ (pos (point_fault (record { x = o; y = o; z = c })) ∷ []));
      said = pos k ∷ (pos k ∷ (pos k ∷ []));
    }

abbrev pub answered : ℤ → ℤ → ℕ → Row
answered v n d =
    let x = stored_float v in
    record { given = over x ∷ (pos (under x) ∷ []); said = n ∷ (pos d ∷ []) }

-- −0.0, the least subnormals, 0.1, −1.5 units, ±32,767 and what lies next to it; not a number, infinite.
abbrev pub probes : List Row
probes =
    unit 0x8000_0000_0000_0000 (pos 0)
    ∷ (unit 0x1 (pos 0)
    ∷ (unit 0x8000_0000_0000_0001 (minus 1)
    ∷ (unit 0x3FB9_9999_9999_999A (pos 6553)
    ∷ (unit 0xBFB9_9999_9999_999A (minus 6554)
    ∷ (unit 0xBEF8_0000_0000_0000 (minus 2)
    ∷ (unit 0x40DF_FFC0_0000_0000 (pos 2147418112)
    ∷ (unit 0x40DF_FFBF_FFFF_FFFF (pos 2147418111)
    ∷ (unit 0xC0DF_FFBF_FFFF_FFFF (minus 2147418112)
    ∷ (on_each 0x40DF_FFC0_0000_0000 0
    ∷ (on_each 0xC0DF_FFC0_0000_0000 0
    ∷ (on_each 0x40DF_FFC0_0000_0001 20
    ∷ (on_each 0xC0DF_FFC0_0000_0001 20
    ∷ (on_each 0x7FEF_FFFF_FFFF_FFFF 20
    ∷ (on_each 0x7FF0_0000_0000_0000 20
    ∷ (on_each 0xFFF0_0000_0000_0000 20
    ∷ (on_each 0x7FF8_0000_0000_0000 20
    ∷ (on_each 0xFFF0_0000_0000_0001 20
    ∷ (answered (minus 1) (minus 1) 65536
    ∷ (answered (minus 131072) (minus 2) 1
    ∷ (answered (pos 2147483647) (pos 2147483647) 65536
    ∷ []))))))))))))))))))))

-- "tested after the tape": line 20's point beside a tape of one clause by its opcode. A copy reads a slot that nothing
-- wrote, which is line 9, the last of a tape's; x is accepted.
abbrev pub beside_tape : ℕ → ℕ → Row
beside_tape o n =
    let c = of_bits binary64 0x7FF8_0000_0000_0000 in
    number
    (pos
    (probe_fault
    (84 ∷ (80 ∷ (1 ∷ (1 ∷ (1 ∷ (0 ∷ (0 ∷ (0
    ∷ (67 ∷ (76 ∷ (o ∷ (0 ∷ (0 ∷ (0 ∷ (0 ∷ (0 ∷ (0 ∷ (0 ∷ []))))))))))))))))))
    (record { x = c; y = c; z = c })))
    (pos n)

abbrev pub after_tape : List Row
after_tape = beside_tape 4 9 ∷ (beside_tape 1 20 ∷ [])

-- Request T-07. A row of slopes: x, y, z.
abbrev pub slopes : Slopes → ℤ → ℤ → ℤ → Row
slopes n x y z = record { given = listed n; said = x ∷ (y ∷ (z ∷ [])) }

abbrev pub sampled : ℤ → ℤ → ℤ → Sample
sampled a b c = record { x = a; y = b; z = c }

-- Root of squares less k, the squares by square, and by multiply of one slot with itself.
abbrev pub square_in : ℕ → Clause
square_in j = clause 7 j j 0 (pos 0)

abbrev pub multiply_in : ℕ → Clause
multiply_in j = clause 11 j j j (pos 0)

abbrev pub ball : (ℕ → Clause) → ℕ → Tape
ball squared k =
    record {
      slots = 2;
      clauses = clause 1 0 0 0 (pos 0)
          ∷ (squared 0
          ∷ (clause 2 1 0 0 (pos 0)
          ∷ (squared 1
          ∷ (clause 9 0 0 1 (pos 0)
          ∷ (clause 3 1 0 0 (pos 0)
          ∷ (squared 1
          ∷ (clause 9 0 0 1 (pos 0)
          ∷ (clause 8 0 0 0 (pos 0) ∷ (clause 0 1 0 0 (pos k) ∷ (clause 10 0 0 1 (pos 0) ∷ []))))))))));
    }

-- Two axes by an opcode, and one axis by an opcode.
abbrev pub of_two : ℕ → ℕ → ℕ → Tape
of_two o l r =
    record {
      slots = 2;
      clauses = clause l 0 0 0 (pos 0) ∷ (clause r 1 0 0 (pos 0) ∷ (clause o 0 0 1 (pos 0) ∷ []));
    }

abbrev pub of_one : ℕ → ℕ → Tape
of_one o l = record { slots = 1; clauses = clause l 0 0 0 (pos 0) ∷ (clause o 0 0 0 (pos 0) ∷ []) }

abbrev pub balls : List Row
balls =
    number (sloped_at 1 (ball square_in 327680) (sampled (pos 98304) (pos 163840) (pos 229376))).value (minus 29150)
    ∷ (slopes (slopes_at (ball square_in 327680) (sampled (pos 98304) (pos 163840) (pos 229376)))
    (pos 21580) (pos 35967) (pos 50354)
    ∷ (slopes (slopes_at (ball multiply_in 327680) (sampled (pos 98304) (pos 163840) (pos 229376)))
    (pos 21580) (pos 35967) (pos 50354)
    ∷ (slopes (slopes_at (ball square_in 327680) (sampled (minus 65536) (pos 131072) (minus 196608)))
    (minus 17516) (pos 35030) (minus 52546)
    ∷ (slopes (slopes_at (ball multiply_in 327680) (sampled (minus 65536) (pos 131072) (minus 196608)))
    (minus 17516) (pos 35030) (minus 52546)
    ∷ (slopes (slopes_at (ball square_in 327680) nowhere) (pos 0) (pos 0) (pos 0)
    ∷ [])))))

-- Quotients; sides that win, and ties; signs; what is passed on; a square's half is rounded before it is doubled; a
-- product's two sides; the root of a negative value; slopes past both ends.
abbrev pub steep : List Row
steep =
    slopes (slopes_at (of_two 14 1 3) (sampled (pos 196608) (pos 0) (pos 131072))) (pos 32768) (pos 0) (minus 49152)
    ∷ (slopes (slopes_at (of_two 14 1 3) (sampled (pos 196608) (pos 0) (pos 0))) (pos 0) (pos 0) (pos 0)
    ∷ (slopes (slopes_at (of_two 12 1 2) (sampled (pos 7) (pos 7) (pos 0))) (pos 65536) (pos 0) (pos 0)
    ∷ (slopes (slopes_at (of_two 13 1 2) (sampled (pos 7) (pos 7) (pos 0))) (pos 65536) (pos 0) (pos 0)
    ∷ (slopes (slopes_at (of_two 12 1 2) (sampled (pos 8) (pos 7) (pos 0))) (pos 0) (pos 65536) (pos 0)
    ∷ (slopes (slopes_at (of_two 13 1 2) (sampled (pos 7) (pos 8) (pos 0))) (pos 0) (pos 65536) (pos 0)
    ∷ (slopes (slopes_at (of_two 10 2 3) nowhere) (pos 0) (pos 65536) (minus 65536)
    ∷ (slopes (slopes_at (of_one 6 1) (sampled (minus 3) (pos 0) (pos 0))) (minus 65536) (pos 0) (pos 0)
    ∷ (slopes (slopes_at (of_one 6 1) (sampled (pos 3) (pos 0) (pos 0))) (pos 65536) (pos 0) (pos 0)
    ∷ (slopes (slopes_at (of_one 6 1) nowhere) (pos 0) (pos 0) (pos 0)
    ∷ (slopes (slopes_at (of_one 5 3) nowhere) (pos 0) (pos 0) (minus 65536)
    ∷ (slopes (slopes_at (of_one 4 2) nowhere) (pos 0) (pos 65536) (pos 0)
    ∷ (number (slope_of 1 7 (pos 98304) (pos 0) (pos 1) (pos 0) (pos 0)) (pos 2)
    ∷ (slopes (slopes_at (of_two 11 1 2) (sampled (pos 98304) (pos 65537) (pos 0))) (pos 65537) (pos 98304) (pos 0)
    ∷ (slopes (slopes_at (of_one 8 1) (sampled (minus 5) (pos 0) (pos 0))) (pos 0) (pos 0) (pos 0)
    ∷ (slopes (slopes_at (of_two 14 1 3) (sampled (pos 1) (pos 0) (pos 1)))
    (pos 2147483647) (pos 0) (minus 2147483647)
    ∷ [])))))))))))))))

-- A ball of radius 2 over 4 by 2 pixels, by its heights; the last of them put to 0.
abbrev pub over_ball : Grid
over_ball =
    record {
      width = 4;
      height = 2;
      depth = 4;
      origin_x = minus 131072;
      origin_y = minus 65536;
      origin_z = minus 131072;
      step_x = pos 65536;
      step_y = pos 65536;
      step_z = pos 65536;
    }

abbrev pub shaded : List Row
shaded =
    record {
      given = slopes_of (ball square_in 131072) over_ball
          (3 ∷ (4 ∷ (4 ∷ (3 ∷ (3 ∷ (4 ∷ (4 ∷ (0 ∷ []))))))));
      said = minus 59280 ∷ (minus 19760 ∷ (pos 19759
          ∷ (minus 19760 ∷ (minus 19760 ∷ (pos 59279
          ∷ (pos 19759 ∷ (minus 19760 ∷ (pos 59279
          ∷ (pos 59279 ∷ (minus 19760 ∷ (pos 19759
          ∷ (minus 59280 ∷ (pos 19759 ∷ (pos 19759
          ∷ (minus 19760 ∷ (pos 19759 ∷ (pos 59279
          ∷ (pos 19759 ∷ (pos 19759 ∷ (pos 59279
          ∷ (pos 0 ∷ (pos 0 ∷ (pos 0 ∷ [])))))))))))))))))))))));
    }
    ∷ []

abbrev pub rows : List Row
rows =
    starred ++ worded ++ one_slot ++ middles ++ quotients ++ dividing ++ kept_forms ++ probes ++ after_tape ++ balls ++ steep
    ++ shaded

pub figures : map (λ r. r.given) rows ≡ map (λ r. r.said) rows
unfolding smaller larger sum difference product square root_from root_of quotient quotient_range holds_zero absolute_range square_range
    root_range product_range sum_range difference_range negated_range smaller_range larger_range unary_range multiplied_range binary_range range_of range_from range_over
    side_below side_above choice_of choices_from reads is_in without on_clause short_from last_out shortened list_of sample_at
    grid_fault unary_value binary_value value_of bad_slot bad_unused bad_constant bad_read clause_fault
    fault_from read_clauses counts_ok edition head_counts signed4 raw_in raws_from head_ok read_tape
    as_marked kept_by new_mark refined marks_over
    of_bits coordinate_ok point_fault of_int div stored_float
    unary_slope binary_slope slope_of sloped_of sloped_from sloped_at slopes_at row_slopes rows_slopes slopes_of
figures = refl
