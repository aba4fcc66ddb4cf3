-- That no hypothesis about a drawing with slopes is empty: a call with the worked example's tape on its solid, what the
-- theorem says of it, and which region set a height, by computation.
use mathlib.Core.Path.{◌≡◌, refl, sym, ap, ◌∙◌}
use mathlib.Core.Logic.{inl, inr}
use mathlib.Core.List.{List, [], ◌∷◌, map}
use lib.IntN.{ℤ, pos}
use Prim.Native.Nat.{ℕ}
use native.Mathlib.Omega.{arith}
use lib.ListN.{length, get_or, replicate, length-replicate}
use Rattle.rules.specs.Values.{smaller, larger, sum, difference, sum_range, difference_range, smaller_range, larger_range, unary_range}
use Rattle.rules.specs.Values.{multiplied_range, binary_range, range_of, side_below, side_above, choice_of}
use Rattle.rules.specs.Tapes.{range_from, range_over, choices_from, reads, is_in, without, on_clause, short_from, last_out}
use Rattle.rules.specs.Tapes.{shortened, bad_slot, bad_unused, bad_constant, bad_read, clause_fault, fault_from, read_clauses}
use Rattle.rules.specs.Tapes.{Tape, counts_ok, signed4, raw_in, raws_from, head_ok, read_tape, head_counts, edition}
use Rattle.rules.specs.Drawings as D
use Rattle.rules.specs.Drawings.{lesser, box_of, row_high, rows_high, hidden, along_x, along_y, along_z, children, fold}
use Rattle.rules.specs.Drawings.{visit, sides, short_after, filled, raise_row, raise_rows}
use Rattle.rules.specs.Pictures.{picture, picture_size}
use Rattle.rules.specs.Slopes.{three_at, slopes_of}
use Rattle.worked_example.proofs.Example as E
use Rattle.reason_rules.specs.Turns.{Meets, ComesTo, TurnInWalk, Sets}
use Rattle.picture.specs.declared.grid.Grid.{Grid}
use Rattle.answers.specs.declared.Answer.{Answer}
use Rattle.answers.specs.Lines.{slopes_fault}
use Rattle.promises.specs.Says.{SlopesSay}
use Rattle.promises.proofs.Slopes.{PixelSet, DrawnWithSlopes, with_slopes}

-- The solid as it is lent.
abbrev solid_lent : Grid
solid_lent =
    record {
      width = 6;
      height = 2;
      depth = 9;
      xorigin = pos 0;
      yorigin = pos 0;
      zorigin = pos 0;
      xstep = pos 131072;
      ystep = pos 65536;
      zstep = pos 65536;
    }

abbrev heights : List ℕ
heights = (D.walked E.ten E.ten_solid).heights

abbrev slopes : List ℤ
slopes = slopes_of E.ten E.ten_solid heights

abbrev done : Answer
done = record { number = 0; place = 0; count = 146 }

-- No line refuses buffers of the right lengths, whatever they hold.
not_refused : (n m k : ℕ) → n ≡ 12 → m ≡ 36 → k ≡ 32768 → slopes_fault E.ten_bytes E.ten_solid n m k ≡ 0
unfolding picture_size
not_refused n m k a b c = rw (a, b, c, (E.computed).ten_solid_lem.tape, (E.computed).ten_solid_lem.grid) refl

pub said : (o : List ℕ) (p : List ℤ) (w : List ℕ) → length o ≡ 12 → length p ≡ 36 → length w ≡ 32768
    → SlopesSay E.ten_bytes solid_lent o heights p slopes w (replicate 32768 0) done
unfolding picture
said o p w a b c =
    let z = not_refused (length o) (length p) (length w) a b c in
    record {
      answer = record { number = sym z; place = rw z refl; count = rw z (sym (E.computed).ten_solid_lem.counted) };
      pixels = rw z refl;
      slopes = rw z refl;
      work = rw (z, c) refl;
    }

pub drawn : DrawnWithSlopes E.ten_bytes solid_lent heights slopes 146
drawn =
    with_slopes E.ten_bytes solid_lent (replicate 12 1) heights (replicate 36 (pos 1)) slopes (replicate 32768 1)
    (replicate 32768 0) done
    (said (replicate 12 1) (replicate 36 (pos 1)) (replicate 32768 1) (length-replicate {A = ℕ} 12 1)
    (length-replicate 36 (pos 1)) (length-replicate {A = ℕ} 32768 1))
    refl

pub pixel : PixelSet E.ten E.ten_solid slopes 1 1 7
pixel =
    drawn.set 1 1 7 (omega arith) (ap (λ (h : List ℕ). get_or h 7 0) E.solid_by_theorem ∙ (E.computed).solid_height)

-- Its three numbers, and the region that set its height: the third of side 4, after two that were skipped, with the tape
-- of the region of side 16.
pub three : three_at slopes 7 ≡ pos 0 ∷ (pos 0 ∷ (pos 65536 ∷ []))
three =
    ap (λ (h : List ℕ). three_at (slopes_of E.ten E.ten_solid h) 7) E.solid_by_theorem
    ∙ E.slopes_by_theorem
    ∙ (E.computed).solid_slopes

abbrev third : D.Region
third = D.region 0 0 4 4

abbrev found : D.State
found = D.state (replicate 12 0) 31

abbrev around_third : Tape
around_third = short_after E.ten (map (box_of E.ten_solid) E.solid_to)

-- Its turn, and what that did.
record Turned : Type 0 where
  turn : TurnInWalk E.ten E.ten_solid E.solid_to third found
  sets : Sets around_third E.ten_solid third found 1 1 7

turned : Turned
unfolding Meets ComesTo read_tape head_ok counts_ok head_counts edition raws_from raw_in signed4 read_clauses fault_from
    clause_fault bad_slot bad_unused bad_constant bad_read is_in without reads choices_from range_over range_from choice_of
    side_above side_below range_of binary_range multiplied_range unary_range larger_range smaller_range difference_range sum_range shortened last_out
    short_from on_clause short_after filled raise_rows raise_row visit fold children along_z along_y along_x hidden rows_high
    row_high box_of lesser sides difference sum larger smaller
turned =
    record {
      turn = inl (
        refl,
        (
          record { seen = refl; high = refl; low = refl },
          inl (refl, (record { seen = refl; high = refl; low = refl }, inr (inr (inl (refl, refl))))),
        ),
      );
      sets = record {
        seen = refl;
        fills = inl (omega arith, refl);
        raises = (E.computed).solid_raises;
        before = omega arith;
        after = refl;
      };
    }

pub setter : let h = pixel.region.set in (h.around ≡ E.solid_to) × (h.setter ≡ third)
setter =
    let u = pixel.region.set.only E.solid_to third found turned.turn turned.sets in
    (sym u.0, sym u.1.0)
