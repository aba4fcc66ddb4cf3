-- The program: the paper's figures of it, computed; what it reads decides as the whole input would; and its file is
-- that of the full drawing.
use mathlib.Core.Path.{◌≡◌, refl, sym, ap, ◌∙◌, subst}
use mathlib.Core.Bool.{Bool, true, false, not}
use mathlib.Core.List.{List, [], ◌∷◌, ◌++◌, map}
use lib.IntN.{pos, negsuc}
use Prim.Native.Nat.{ℕ, zero, suc, ◌+◌, ◌-◌, ◌*◌, ◌≤◌, ◌<◌}
use native.Mathlib.Omega.{arith}
use lib.Dec.{eqb, leb}
use lib.ListN.{length, get_or, set, take, drop, length-drop}
use lib.Seq.{length-take-le, take_all}
use borrow.Author.Tests.{leb-true, leb-false, eqb-true, le-ltb, le-leb, ne_eqb}
use Rattle.rules.specs.Values.{pick, smaller, larger, sum, difference, product, square, unary_value, binary_value}
use Rattle.rules.specs.Values.{value_of, sum_range, difference_range, product_range, negated_range, holds_zero, absolute_range, square_range, root_range}
use Rattle.rules.specs.Values.{smaller_range, larger_range, unary_range, multiplied_range, binary_range, range_of, side_below}
use Rattle.rules.specs.Values.{side_above}
use Rattle.rules.specs.Values.{choice_of}
use Rattle.rules.specs.Tapes.{clause_limit, Got, bad, word, run_from, value_at, material, range_from}
use Rattle.rules.specs.Tapes.{range_over, choices_from, reads, is_in, without, on_clause, short_from, last_out}
use Rattle.rules.specs.Tapes.{shortened, bad_slot, bad_unused, bad_constant, bad_read, clause_fault, fault_from}
use Rattle.rules.specs.Tapes.{read_clauses, counts_ok, head_counts, edition, signed4, raw_in, raws_from, head_ok, read_tape}
use Rattle.rules.specs.Drawings.{Grid, solid, drawn, sample_at, grid_fault, lesser, box_of, raise_row, raise_rows}
use Rattle.rules.specs.Drawings.{filled, row_high, rows_high, hidden, along_x, along_y, along_z, children, fold}
use Rattle.rules.specs.Drawings.{on_sample, visit, sides, walked}
use Rattle.rules.specs.Pictures.{byte_of, row_bytes, bits_of, picture, digits_from, head, clean_row, clean_rows}
use Rattle.rules.specs.Pictures.{bitmap_file, high_first, height_file}
use Rattle.program_rules.specs.Program.{record_length, grid_record, grid_bytes, tape_after, longest_input, input_limit, record_ok, too_large}
use Rattle.program_rules.specs.Program.{program_lines, program_fault, program_place, file_of, Output, program_of}
use Rattle.rules.proofs.Lines.{each_line}
use Rattle.rules.proofs.Reading.{Counts, counts_hold, head_counts_hold}
use Rattle.rules.proofs.Tiles.{demand_3}
use Rattle.worked_example.proofs.Example.{grid_of, three_bytes, three_flat, three_solid}

-- A grid with nine fields that differ, read back from its record.
abbrev pub nine : Grid
nine =
    record {
      width = 258;
      height = 772;
      depth = 1286;
      origin_x = pos 16909060;
      origin_y = negsuc 16909060;
      origin_z = pos 2147483647;
      step_x = negsuc 2147483647;
      step_y = pos 65536;
      step_z = negsuc 0;
    }

pub nine_read : grid_record (grid_bytes nine) ≡ nine
unfolding grid_bytes grid_record signed4
nine_read = refl

-- The paper's two pictures, and refusals, as rows of one list: an input, and what the paper says of it.
pub record Row : Type 0 where
  pub input : List ℕ
  pub said : Output

abbrev pub row : List ℕ → Output → Row
row s o = record { input = s; said = o }

abbrev pub drawing : ℕ → List ℕ → List ℕ → Output
drawing c file line = record { number = 0; place = 0; count = c; first = file; second = line }

-- The file `50 34 0A 33 20 32 0A C0 C0` and the line `24`.
abbrev pub flat_drawing : Output
flat_drawing =
    drawing 24 (80 ∷ (52 ∷ (10 ∷ (51 ∷ (32 ∷ (50 ∷ (10 ∷ (192 ∷ (192 ∷ []))))))))) (50 ∷ (52 ∷ (10 ∷ [])))

-- The file of height 2 and the line `18`.
abbrev pub solid_drawing : Output
solid_drawing =
    drawing 18 (80 ∷ (53 ∷ (10 ∷ (49 ∷ (32 ∷ (49 ∷ (10 ∷ (54 ∷ (53 ∷ (53 ∷ (51 ∷ (53 ∷ (10 ∷ (0 ∷ (2 ∷ [])))))))))))))))
    (49 ∷ (56 ∷ (10 ∷ [])))

-- `refused N at P`, with the digits of both.
abbrev pub refusal : ℕ → List ℕ → ℕ → ℕ → Output
refusal n digits p digit =
    record {
      number = n;
      place = p;
      count = 0;
      first = (114 ∷ (101 ∷ (102 ∷ (117 ∷ (115 ∷ (101 ∷ (100 ∷ (32 ∷ []))))))))
          ++ (digits ++ (32 ∷ (97 ∷ (116 ∷ (32 ∷ (digit ∷ (10 ∷ [])))))));
      second = [];
    }

abbrev pub flat_input : List ℕ
flat_input = grid_bytes three_flat ++ three_bytes 1

-- After the two pictures: a flat one whose third step is 0; no input; 129 and 128 wide; one byte more; a clause's mark.
abbrev pub rows : List Row
rows =
    row flat_input flat_drawing
    ∷ (row (grid_bytes three_solid ++ three_bytes 3) solid_drawing
    ∷ (row (set flat_input 30 0) flat_drawing
    ∷ (row [] (refusal 15 (49 ∷ (53 ∷ [])) 0 48)
    ∷ (row (grid_bytes (grid_of 129 1 1 65536)) (refusal 16 (49 ∷ (54 ∷ [])) 0 48)
    ∷ (row (grid_bytes (grid_of 128 1 1 65536)) (refusal 1 (49 ∷ []) 0 48)
    ∷ (row (flat_input ++ (0 ∷ [])) (refusal 4 (52 ∷ []) 0 48)
    ∷ (row (set flat_input 50 0) (refusal 5 (53 ∷ []) 1 49)
    ∷ [])))))))

pub figures : map (λ r. program_of r.input) rows ≡ map (λ r. r.said) rows
unfolding program_of program_fault program_place grid_bytes grid_record record_ok too_large file_of height_file high_first read_tape head_ok
    counts_ok head_counts edition raws_from raw_in signed4 read_clauses fault_from clause_fault bad_slot bad_unused bad_constant bad_read grid_fault
    walked sides visit on_sample fold children along_z along_y along_x hidden rows_high row_high filled raise_rows raise_row
    box_of lesser sample_at shortened last_out short_from on_clause is_in without reads choices_from range_over range_from
    material value_at run_from choice_of side_above side_below range_of binary_range multiplied_range unary_range larger_range smaller_range
    root_range square_range absolute_range holds_zero negated_range product_range difference_range sum_range value_of binary_value unary_value square product
    difference sum larger smaller bitmap_file clean_rows clean_row head digits_from picture bits_of row_bytes byte_of
figures = refl

-- A tape that is too long is refused by its head, given whether its counts are in range.
abbrev by_head : List ℕ → Bool → Got
by_head s t = pick (not (head_ok s)) (bad 2 0) (pick (not t) (bad 3 0) (bad 4 0))

by_head_lem : (s : List ℕ) → 8 + 10 * clause_limit < length s
    → read_tape s ≡ by_head s (head_counts (get_or s 2 0) (get_or s 3 0) (word 4 s))
unfolding read_tape
by_head_lem s h = go (head_counts (get_or s 2 0) (get_or s 3 0) (word 4 s)) refl
  where
    other : {n : ℕ} → Counts n (word 4 s) → length s ≡ 8 + 10 * word 4 s → ⊥
    other c e = omega arith

    go : (t : Bool) → head_counts (get_or s 2 0) (get_or s 3 0) (word 4 s) ≡ t → read_tape s ≡ by_head s t
    go true e =
        let counts = counts_hold (get_or s 3 0) (word 4 s) (head_counts_hold (get_or s 2 0) (get_or s 3 0) (word 4 s) e) in
        let differs = ne_eqb (length s) (8 + 10 * word 4 s) (other counts) in
        rw (le-ltb (length s) 8 (omega arith), e, differs)
    go false e = rw (le-ltb (length s) 8 (omega arith), e)

-- A list's first n elements, one by one, so that what reads them computes.
abbrev front : ℕ → List ℕ → List ℕ
front zero s = []
front (suc n) s = get_or s 0 0 ∷ front n (drop 1 s)

front_whole : (n : ℕ) (s : List ℕ) → n ≤ length s → front n s ++ drop n s ≡ s
front_whole zero s h = refl
front_whole (suc n) [] h = absurd (omega arith)
front_whole (suc n) (x ∷ xs) h = ap (λ (l : List ℕ). x ∷ l) (front_whole n xs (omega arith))

same_program : (u s : List ℕ) → record_ok u ≡ record_ok s → grid_record u ≡ grid_record s
    → read_tape (tape_after u) ≡ read_tape (tape_after s) → program_of u ≡ program_of s
unfolding program_of program_fault program_place
same_program u s r g t = rw (r, g, t)

-- Of an input that is too long, no more than the record and the tape's head decides: 40 bytes.
too_long : (s q r : List ℕ) → longest_input < 40 + length q → longest_input < 40 + length r
    → program_of (front 40 s ++ q) ≡ program_of (front 40 s ++ r)
unfolding grid_record signed4 record_ok head_ok
too_long s q r h k =
    let u = front 40 s ++ q in
    let v = front 40 s ++ r in
    same_program u v
    (rw (le-leb record_length (length u) (omega arith), le-leb record_length (length v) (omega arith)))
    refl
    (by_head_lem (tape_after u) (omega arith) ∙ sym (by_head_lem (tape_after v) (omega arith)))

-- So what follows the bytes that the program reads changes nothing.
pub cut_off : (s : List ℕ) → program_of (take input_limit s) ≡ program_of s
cut_off s = go (leb (length s) input_limit) refl
  where
    go : (t : Bool) → leb (length s) input_limit ≡ t → program_of (take input_limit s) ≡ program_of s
    go true e = ap program_of (take_all input_limit s (leb-true (length s) input_limit e))
    go false e =
        let r = drop 40 s in
        let h : input_limit < length s = leb-false (length s) input_limit e in
        let n : length r ≡ length s - 40 = length-drop 40 s in
        let m : length (take (input_limit - 40) r) ≡ input_limit - 40 = length-take-le (input_limit - 40) r
        (omega arith) in
        subst (λ (l : List ℕ). program_of (take input_limit l) ≡ program_of l) (front_whole 40 s (omega arith))
        (too_long s (take (input_limit - 40) r) r (omega arith) (omega arith))

-- A program that draws refused nothing.
drew : (s : List ℕ) → (program_of s).number ≡ 0 → program_fault s ≡ 0
unfolding program_of
drew s e = go (eqb (program_fault s) 0) refl
  where
    go : (t : Bool) → eqb (program_fault s) 0 ≡ t → program_fault s ≡ 0
    go true k = eqb-true (program_fault s) 0 k
    go false k = rw (k, program_of) at e

-- Its file is that of the full drawing.
pub same_file : (s : List ℕ) → (program_of s).number ≡ 0
    → let g = grid_record s in (program_of s).first ≡ file_of g (drawn (read_tape (tape_after s)).tape g)
unfolding program_of program_fault
same_file s e =
    let g = grid_record s in
    let k = drew s e in
    let z = each_line (program_lines s) k in
    let same = (demand_3 (tape_after s) (z 2)).same_picture g (solid g) refl (z 3) in
    rw (k, program_of) (ap (file_of g) same)
