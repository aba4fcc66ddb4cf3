-- The checks of an input in their order, and the program's output of a drawing that is refused or done.
use mathlib.Core.Path.{◌≡◌, refl, sym, ap, ap₂, subst, ◌∙◌}
use mathlib.Core.Bool.{Bool, true, false, ◌&&◌, ◌||◌}
use mathlib.Core.List.{List, []}
use Prim.Native.Nat.{ℕ, ◌-◌, ◌≤◌, ◌<◌}
use native.Mathlib.Nat.{zero-add}
use native.Mathlib.Omega.{arith}
use lib.Dec.{eqb, ltb, leb}
use lib.ListN.{length, take, drop, length-drop, length-append}
use lib.Seq.{take_all}
use borrow.Author.Tests.{le-leb, lt-leb, leb-true, ltb-false, eq-eqb, ne_eqb}
use Rattle.rules.specs.Tapes.{place_of, read_tape}
use Rattle.rules.specs.Drawings as D
use Rattle.program_rules.specs.Program.{record_length, tape_after, grid_record, record_ok, solid_limit, too_large, program_fault}
use Rattle.program_rules.specs.Program.{program_place, file_of, count_line, refused_line, Output, program_of}
use Rattle.rules.proofs.Order.{and_left}
use Rattle.netpbm.specs.Appending.{Appends}
use Rattle.netpbm.proofs.Written as Written
use Rattle.picture.specs.Shapes.{grid_in}
use Rattle.picture.specs.declared.grid.Grid.{Grid}
use Rattle.program.specs.declared.Drawn.{Drawn}
use Rattle.program.specs.declared.Said.{Said}
use Rattle.faults.specs.declared.Fault.{Fault}
use Rattle.faults.specs.declared.Fault.TheVariants.{ProgramInput, SolidTooWide}
use Rattle.faults.specs.declared.Refusal.{Refusal}
use Rattle.faults.specs.Numbers.{number_of}
use Rattle.faults.proofs.NumberLaws.{some_number}
use Rattle.std.proofs.Common.{Result, Err}
use Rattle.program.specs.Says.{told, length_of, starting_with, file_if, layer_fault, LayerSays, FileSays, InputSays, OutputSays}
use Rattle.program.specs.Says.{ProgramSays}

-- A record that passes is long enough; the tape is what stands behind it.
pub long_enough : (s : List ℕ) → record_ok s ≡ true → record_length ≤ length s
unfolding record_ok
long_enough s e = leb-true record_length (length s) (and_left (leb record_length (length s)) _ e)

pub tape_behind : (s : List ℕ) → take (length s - record_length) (drop record_length s) ≡ tape_after s
tape_behind s = take_all (length s - record_length) (drop record_length s) (omega (arith, length-drop record_length s))

-- 15 and 16.
refuses : (s o : List ℕ) (f : Fault) → (leb 5 (number_of f) && leb (number_of f) 9) ≡ false
    → program_fault s ≡ number_of f → InputSays s o o (Err (record { fault = f; place = 0 }))
refuses s o f p e =
    let z = ne_eqb (number_of f) 0 (some_number f) in
    rw e (record { answer = record { number = refl; place = rw p; count = rw z }; size = rw z; out = rw z })

pub no_record : (s o : List ℕ) → record_ok s ≡ false → InputSays s o o (Err (record { fault = ProgramInput; place = 0 }))
unfolding program_fault
no_record s o e = refuses s o ProgramInput refl (rw e)

pub solid_too_large : (s o : List ℕ) → record_ok s ≡ true → too_large (grid_record s) ≡ true
    → InputSays s o o (Err (record { fault = SolidTooWide; place = 0 }))
unfolding program_fault
solid_too_large s o e h = refuses s o SolidTooWide refl (rw (e, h))

-- Past these two, as drawing.
passed : (s : List ℕ) → record_ok s ≡ true → too_large (grid_record s) ≡ false
    → program_fault s ≡ layer_fault (D.solid (grid_record s)) (tape_after s) (grid_record s)
unfolding program_fault
passed s e h = rw (e, h)

drawing : (s o o' : List ℕ) (t : Bool) (d : Grid) (r : Result Drawn Refusal) → grid_in d t ≡ grid_record s → t ≡ D.solid (grid_record s)
    → record_ok s ≡ true → too_large (grid_record s) ≡ false → FileSays t (tape_after s) d o o' r → InputSays s o o' r
drawing s o o' t d r e k a b f =
    let tape = tape_after s in
    let c = read_tape tape in
    subst (λ n. LayerSays n c (grid_record s) o o' r) (sym (passed s a b))
    (subst (λ u. LayerSays (layer_fault u tape (grid_record s)) c (grid_record s) o o' r) k
    (subst (λ g. LayerSays (layer_fault t tape g) c g o o' r) e f))

-- A grid without depth is flat, one with depth is solid.
without_depth : (d : Grid) → d.depth < 1 → grid_in d false ≡ grid_in d true
without_depth d h = let z : 0 ≡ d.depth = omega arith in
    ap (λ n. let g = grid_in d true in record {
      width = g.width;
      height = g.height;
      depth = n;
      origin_x = g.origin_x;
      origin_y = g.origin_y;
      origin_z = g.origin_z;
      step_x = g.step_x;
      step_y = g.step_y;
      step_z = g.step_z;
    }) z

module _ (s o o' : List ℕ) (d : Grid) (r : Result Drawn Refusal) (e : grid_in d true ≡ grid_record s) (a : record_ok s ≡ true)
    (b : too_large (grid_in d true) ≡ false) where
  small : too_large (grid_record s) ≡ false
  small = ap too_large (sym e) ∙ b

  pub flat_input_lem : d.depth < 1 → FileSays false (take (length s - record_length) (drop record_length s)) d o o' r
      → InputSays s o o' r
  flat_input_lem h f =
      drawing s o o' false d r (without_depth d h ∙ e) (sym (ap D.solid (sym e) ∙ lt-leb 1 d.depth h)) a small
      (subst (λ t. FileSays false t d o o' r) (tape_behind s) f)

  pub solid_input : 1 ≤ d.depth → FileSays true (take (length s - record_length) (drop record_length s)) d o o' r
      → InputSays s o o' r
  solid_input h f =
      drawing s o o' true d r e (sym (ap D.solid (sym e) ∙ le-leb 1 d.depth h)) a small
      (subst (λ t. FileSays true t d o o' r) (tape_behind s) f)

-- A solid that is not too large.
neither : (x y : Bool) → (x || y) ≡ false → (x ≡ false) × (y ≡ false)
neither false y e = (refl, e)
neither true y e = let z : ◌≡◌ {A = ℕ} 0 1 = cc in absurd (omega arith)

pub solid_sizes : (d : Grid) → too_large (grid_in d true) ≡ false → 1 ≤ d.depth
    → (d.width ≤ solid_limit) × (d.height ≤ solid_limit)
unfolding too_large
solid_sizes d b h =
    let k = le-leb 1 d.depth h in
    let p = neither (ltb solid_limit d.width) (ltb solid_limit d.height) (rw k at b) in
    (ltb-false solid_limit d.width p.0, ltb-false solid_limit d.height p.1)

-- What the program says: the refusal in place of the file, or the file and the count's line.
output_refused : (s : List ℕ) → eqb (program_fault s) 0 ≡ false
    → (let n = program_fault s in
    let p = program_place s in
    program_of s ≡ record { number = n; place = p; count = 0; first = refused_line n p; second = [] })
unfolding program_of
output_refused s k = rw k

output_done : (s : List ℕ) → eqb (program_fault s) 0 ≡ true
    → (let g = grid_record s in
    let d = D.walked (read_tape (tape_after s)).tape g in
    let c = d.clauses in
    program_of s ≡ record { number = 0; place = 0; count = c; first = file_of g d.heights; second = count_line c })
unfolding program_of
output_done s k = rw k

place_is : (s o m : List ℕ) (u : Result Drawn Refusal) → InputSays s o m u → (told u).place ≡ program_place s
unfolding program_place
place_is s o m u f = f.answer.place

module _ (s o m : List ℕ) (u : Result Drawn Refusal) (f : InputSays s o m u) where
  pub said_refused : (o' l : List ℕ) (r : Said) → ((told u).number ≡ 0 → ⊥)
      → Appends m 0 (refused_line (told u).number (told u).place) o' r.length → r.answer ≡ (told u)
      → r.line ≡ 0 → ProgramSays s o o' l l r
  said_refused o' l r h p e el =
      let n = (told u).number in
      let k = ne_eqb (program_fault s) 0 (λ z. h (f.answer.number ∙ z)) in
      let q = place_is s o m u f in
      let same : m ≡ o = f.out ∙ rw k refl in
      let line : refused_line n (told u).place ≡ refused_line (program_fault s) (program_place s)
      = ap₂ refused_line f.answer.number q in
      let size : r.length ≡ length (refused_line n (told u).place) = p.next ∙ zero-add _ in
      subst (λ x. OutputSays x o o' l l r) (sym (output_refused s k))
      (record {
        number = ap (λ a. a.number) e ∙ f.answer.number;
        place = ap (λ a. a.place) e ∙ q;
        count = ap (λ a. a.count) e ∙ f.answer.count ∙ rw k refl;
        first_length = size ∙ ap length line;
        second_length = el;
        first = Written.at_start p ∙ ap₂ starting_with line same;
        second = refl;
      })

  pub said_done : (l l' : List ℕ) (r : Said) → (told u).number ≡ 0
      → Appends l 0 (count_line (told u).count) l' r.line → r.answer ≡ (told u) → r.length ≡ length_of u
      → ProgramSays s o m l l' r
  said_done l l' r h p e el =
      let k = eq-eqb (program_fault s) 0 (sym f.answer.number ∙ h) in
      let t = read_tape (tape_after s) in
      let g = grid_record s in
      let d = D.walked t.tape g in
      let file : file_if (program_fault s) t g ≡ file_of g d.heights = rw k refl in
      let count : (told u).count ≡ d.clauses = f.answer.count ∙ rw k refl in
      let size : r.line ≡ length (count_line (told u).count) = p.next ∙ zero-add _ in
      subst (λ x. OutputSays x o m l l' r) (sym (output_done s k))
      (record {
        number = ap (λ a. a.number) e ∙ h;
        place = ap (λ a. a.place) e ∙ f.answer.place ∙ ap (λ n. place_of n t.place) (sym f.answer.number ∙ h);
        count = ap (λ a. a.count) e ∙ count;
        first_length = el ∙ f.size ∙ ap length file;
        second_length = size ∙ ap (λ c. length (count_line c)) count;
        first = f.out ∙ ap (λ v. starting_with v o) file;
        second = Written.at_start p ∙ ap (λ c. starting_with (count_line c) l) count;
      })

-- What is written fits where it is written.
within : (x o o' : List ℕ) (n : ℕ) → n ≡ length x → o' ≡ starting_with x o → n ≤ length o'
within x o o' n e p = omega (arith, ap length p ∙ length-append x (drop (length x) o))

pub first_within : {x : Output} {o o' l l' : List ℕ} {r : Said} → OutputSays x o o' l l' r → r.length ≤ length o'
first_within {x} {o} {o'} {r = r} f = within x.first o o' r.length f.first_length f.first

pub second_within : {x : Output} {o o' l l' : List ℕ} {r : Said} → OutputSays x o o' l l' r → r.line ≤ length l'
second_within {x} {l = l} {l'} {r} f = within x.second l l' r.line f.second_length f.second
