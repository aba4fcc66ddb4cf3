-- The theorem of turns: tables that these calls have made stay truthful along any run of calls, done or refused, by any
-- number of users; what each call draws is the full drawing's; and each user's picture is what it would be without the
-- others.
use mathlib.Core.Path.{◌≡◌, refl, sym, ap, subst, ◌∙◌}
use mathlib.Core.Bool.{Bool, true, false}
use mathlib.Core.Logic.{inl, inr}
use mathlib.Core.List.{List, map}
use Prim.Native.Nat.{ℕ, zero, suc, ◌+◌, ◌*◌, ◌≤◌}
use native.Mathlib.Omega.{arith}
use lib.Dec.{eqb}
use lib.ListN.{length, take, replicate}
use borrow.Author.Tests.{eqb-true, eqb-false, eq-eqb, ne_eqb}
use Rattle.rules.specs.Values.{pick}
use Rattle.rules.specs.Tapes.{place_of, read_tape}
use Rattle.rules.specs.Drawings.{Grid, grid_fault, solid, fold, visit}
use Rattle.rules.specs.Pictures.{picture}
use Rattle.rules.proofs.Tests.{and_left, and_right}
use Rattle.rules.proofs.Lines.{each_line}
use Rattle.rules.proofs.Accepted.{accepted_tape}
use Rattle.rules.proofs.Grids.{accepted_sound}
use Rattle.order_rules.specs.Orders.{cleared}
use Rattle.table_rules.specs.Tables.{head_length, tile_limit, table_length, flat_grid, table_head, begun, tile_of}
use Rattle.table_rules.specs.Tables.{entry_in, entry_ok, entries_ok, same_bytes, table_ok, Rectangle}
use Rattle.table_rules.specs.Tables.{tiles_in, turn, laid, begin_lines, begin_fault}
use Rattle.table_rules.specs.Tables.{table_fault, draw_fault, Answer, written, BeginSays, DrawSays}
use Rattle.table_rules.specs.Turns.{TrueEntry, Truthful, walk_over, known_in, TrueTable, part_drawn, TrulyDrawn}
use Rattle.table_rules.specs.Turns.{Call, begins, draws, World, Draws, Follows, Turn, Run, none, next}
use Rattle.table_rules.specs.Turns.{DoneTruly, picture_after, picture_by}
use Rattle.table_rules.proofs.TableLines.{off, draw_clear}
use Rattle.table_rules.proofs.KeptMarks.{entry_of_ok, unknown_ok}
use Rattle.table_rules.proofs.Heads.{tape_fits, begun_size, begun_head, begun_entry, same_bytes_lem, bytes_same}
use Rattle.table_rules.proofs.Heads.{head_tape, head_grid}
use Rattle.table_rules.proofs.Numbers.{in_tiles, tiles_rising}
use Rattle.table_rules.proofs.Drawn.{flat_sides, tiles_turned}
use Rattle.table_rules.proofs.Part.{part_drawn_lem}

-- A table newly begun is truthful.
pub begun_truthful : (s : List ℕ) (g : Grid) → (read_tape s).number ≡ 0 → Truthful s g (begun s g)
begun_truthful s g e =
    let h = tape_fits s e in
    record {
      size = begun_size s g h;
      head = begun_head s g h;
      entries = λ i k. inl (begun_entry s g h i k);
    }

-- A truthful table is not refused by 24 for its own tape and grid.
module _ (s : List ℕ) (g : Grid) (good : (read_tape s).number ≡ 0) (b : List ℕ) (f : Truthful s g b) where
  entries_ok_lem : (n : ℕ) → n ≤ tile_limit → entries_ok n (read_tape s).tape b ≡ true
  unfolding entries_ok
  entries_ok_lem zero h = refl
  entries_ok_lem (suc n) h = rw (entries_ok_lem n (omega arith), entry (f.entries n h))
    where
      entry : TrueEntry (read_tape s).tape g n (entry_in n b) → entry_ok (read_tape s).tape (entry_in n b) ≡ true
      entry (inl e) = rw e (unknown_ok (read_tape s).tape)
      entry (inr e) = rw e.1 (entry_of_ok (read_tape s).tape (accepted_tape s good) g (tile_of g n))

  pub true_ok : table_ok s g b ≡ true
  unfolding table_ok
  true_ok =
      let u : eqb (length b) table_length ≡ true = eq-eqb (length b) table_length f.size in
      let v : same_bytes (take head_length b) (table_head s g) ≡ true =
      ap (λ x. same_bytes x (table_head s g)) f.head ∙ bytes_same (table_head s g) in
      rw (u, v) (entries_ok_lem tile_limit (omega arith))

  pub never_refused : table_fault s g b ≡ 0
  never_refused = rw true_ok

-- A table that passes line 24 has the caller's head.
head_passed : (s : List ℕ) (g : Grid) (b : List ℕ) → table_fault s g b ≡ 0 → take head_length b ≡ table_head s g
unfolding table_ok
head_passed s g b e =
    let k = off (table_ok s g b) 23 e in
    let l = and_right (eqb (length b) table_length) _ k in
    same_bytes_lem (take head_length b) (table_head s g) (and_left (same_bytes (take head_length b) (table_head s g)) _ l)

-- A table has the tape and the grid of one caller.
pub one_caller : (s u : List ℕ) (d c : Grid) (b : List ℕ) → (read_tape s).number ≡ 0 → (read_tape u).number ≡ 0
    → grid_fault false (flat_grid d) ≡ 0 → grid_fault false (flat_grid c) ≡ 0 → Truthful u (flat_grid c) b
    → table_fault s (flat_grid d) b ≡ 0 → (u ≡ s) × (flat_grid c ≡ flat_grid d)
one_caller s u d c b e k h l f t =
    let heads = sym f.head ∙ head_passed s (flat_grid d) b t in (
      head_tape u s (flat_grid c) (flat_grid d) k e heads,
      head_grid u s (flat_grid c) (flat_grid d) (tape_fits u k) (tape_fits s e) l h heads,
    )

pub moved : (s u : List ℕ) (g f : Grid) (b : List ℕ) → (u ≡ s) × (f ≡ g) → Truthful u f b → Truthful s g b
moved s u g f b e t = subst (λ x. Truthful x g b) e.0 (subst (λ x. Truthful u x b) e.1 t)

pub same_caller : (s u : List ℕ) (d c : Grid) (b : List ℕ) → (read_tape s).number ≡ 0 → (read_tape u).number ≡ 0
    → grid_fault false (flat_grid d) ≡ 0 → grid_fault false (flat_grid c) ≡ 0 → Truthful u (flat_grid c) b
    → table_fault s (flat_grid d) b ≡ 0 → Truthful s (flat_grid d) b
same_caller s u d c b e k h l f t = moved s u (flat_grid d) (flat_grid c) b (one_caller s u d c b e k h l f t) f

-- A call that is done leaves what it made, one that is refused all bytes as they came.
pub done_left : {A : Type 0} (n : ℕ) (new old left : List A) → n ≡ 0 → left ≡ written n new old → left ≡ new
done_left n new old left e l = l ∙ ap (λ x. written x new old) e

pub refused_left : {A : Type 0} (n : ℕ) (new old left : List A) → eqb n 0 ≡ false → left ≡ written n new old
    → left ≡ old
refused_left n new old left e l = l ∙ ap (λ x. pick x new old) e

-- A drawing that is done, over a table that these calls have made.
pub draw_done : (s : List ℕ) (d : Grid) (q : Rectangle) (b b' o o' w w' : List ℕ) (r : Answer) → TrueTable b
    → DrawSays s d q b b' o o' w w' r → r.number ≡ 0 → TrulyDrawn s d q b b' o o' r
unfolding turn walk_over part_drawn
draw_done s d q b b' o o' w w' r a says e =
    let g = flat_grid d in
    let t = (read_tape s).tape in
    let n = draw_fault s g q b (length o) (length w) in
    let z : n ≡ 0 = sym says.answer.number ∙ e in
    let clear = draw_clear s g q b (length o) (length w) z in
    let good : (read_tape s).number ≡ 0 = clear.read in
    let fine : grid_fault false g ≡ 0 = clear.grid in
    let flat : solid g ≡ false = refl in
    let sound = accepted_sound g false refl fine in
    let inside = in_tiles g q clear.rectangle in
    let f = same_caller s a.bytes d a.grid b good a.read fine a.accepted a.truthful clear.table in
    let u = tiles_turned s good g flat sound.fits (tiles_in g q) 0 (tiles_rising g q inside) (cleared g) b f in
    let made = turn t g q b in
    let c : r.count ≡ made.drawing.clauses =
    says.answer.count ∙ ap (λ x. pick (eqb x 0) made.drawing.clauses 0) z
    in
    record {
      pixels =
          done_left n (laid g q (picture false g made.drawing.heights) o) o o' z says.pixels
          ∙ ap (λ h. laid g q (picture false g h) o) u.heights
          ∙ part_drawn_lem s good g flat sound q inside o;
      count =
          ap (λ x. x + known_in b (tiles_in g q) * length t.clauses) c ∙ u.count
          ∙ ap (λ ns. (fold (λ p y. visit ns t g p y) (map (tile_of g) (tiles_in g q)) (cleared g)).clauses)
          (sym (flat_sides g flat));
      table = subst (λ x. Truthful s g x) (sym (done_left n made.table b b' z says.table)) u.table;
    }

-- So a table that these calls have made stays one.
pub draw_keeps : (s : List ℕ) (d : Grid) (q : Rectangle) (b b' o o' w w' : List ℕ) (r : Answer) → TrueTable b
    → DrawSays s d q b b' o o' w w' r → TrueTable b'
draw_keeps s d q b b' o o' w w' r a says = go (eqb n 0) refl
  where
    n : ℕ
    n = draw_fault s (flat_grid d) q b (length o) (length w)

    go : (t : Bool) → eqb n 0 ≡ t → TrueTable b'
    go true e =
        let z : n ≡ 0 = eqb-true n 0 e in
        let clear = draw_clear s (flat_grid d) q b (length o) (length w) z in
        record {
          bytes = s;
          grid = d;
          read = clear.read;
          accepted = clear.grid;
          truthful = (draw_done s d q b b' o o' w w' r a says (says.answer.number ∙ z)).table;
        }
    go false e =
        subst TrueTable
        (sym (refused_left n (turn (read_tape s).tape (flat_grid d) q b).table b b' e says.table)) a

-- Beginning a table makes one, whatever it held before; refused, it stays one if it was one.
pub begin_done : (s : List ℕ) (d : Grid) (b b' : List ℕ) (r : Answer) → BeginSays s d b b' r → r.number ≡ 0
    → Truthful s (flat_grid d) b'
begin_done s d b b' r says e =
    let g = flat_grid d in
    let n = begin_fault s g (length b) in
    let z : n ≡ 0 = sym says.answer.number ∙ e in
    let line = each_line (begin_lines s g (length b)) z in
    subst (λ x. Truthful s g x) (sym (done_left n (begun s g) b b' z says.table)) (begun_truthful s g (line 0))

pub begin_true : (s : List ℕ) (d : Grid) (b b' : List ℕ) (r : Answer) → BeginSays s d b b' r → r.number ≡ 0
    → TrueTable b'
begin_true s d b b' r says e =
    let z = sym says.answer.number ∙ e in
    let line = each_line (begin_lines s (flat_grid d) (length b)) z in
    record { bytes = s; grid = d; read = line 0; accepted = line 1; truthful = begin_done s d b b' r says e }

pub begin_keeps : (s : List ℕ) (d : Grid) (b b' : List ℕ) (r : Answer) → TrueTable b → BeginSays s d b b' r
    → TrueTable b'
begin_keeps s d b b' r a says = go (eqb n 0) refl
  where
    n : ℕ
    n = begin_fault s (flat_grid d) (length b)

    go : (t : Bool) → eqb n 0 ≡ t → TrueTable b'
    go true e = begin_true s d b b' r says (says.answer.number ∙ eqb-true n 0 e)
    go false e = subst TrueTable (sym (refused_left n (begun s (flat_grid d)) b b' e says.table)) a

-- Along any run of calls, done or refused, by any users, with any tapes, grids and rectangles.
pub step_keeps : (c : Call) (w m : World) (r : Answer) → Follows c w m r → TrueTable w.table → TrueTable m.table
step_keeps (begins u s d) w m r f a = begin_keeps s d w.table m.table r a f.says
step_keeps (draws u s d q k) w m r f a =
    draw_keeps s d q w.table m.table (w.pictures u) (m.pictures u) k f.work r a f.says

pub run_keeps : {w w' : World} {ks : List Turn} → Run w ks w' → TrueTable w.table → TrueTable w'.table
run_keeps none a = a
run_keeps (next {w} {m} {w'} {c} {r} {ks} f rest) a = run_keeps rest (step_keeps c w m r f a)

step_done : (c : Call) (w m : World) (r : Answer) → Follows c w m r → TrueTable w.table → r.number ≡ 0
    → DoneTruly c w m r
step_done (begins u s d) w m r f a e = begin_done s d w.table m.table r f.says e
step_done (draws u s d q k) w m r f a e =
    draw_done s d q w.table m.table (w.pictures u) (m.pictures u) k f.work r a f.says e

-- The theorem of turns: after any run, what the next call that is done draws are the full drawing's pixels, its count
-- is the walk's less the runs of the tiles that were known, and the table is truthful of its tape and grid.
pub every_turn : {w m : World} {ks : List Turn} → Run w ks m → TrueTable w.table → (c : Call) (w' : World)
    (r : Answer) → Follows c m w' r → r.number ≡ 0 → DoneTruly c m w' r
every_turn {w} {m} {ks} run a c w' r f e = step_done c m w' r f (run_keeps run a) e

-- A user's picture after a call, and after a run, by the answers to its own calls.
drawn_picture : (u : ℕ) (s : List ℕ) (d : Grid) (q : Rectangle) (k : List ℕ) (w m : World) (r : Answer)
    → Draws u s d q k w m r → TrueTable w.table
    → m.pictures u ≡ pick (eqb r.number 0) (part_drawn s d q (w.pictures u)) (w.pictures u)
drawn_picture u s d q k w m r f a = go (eqb r.number 0) refl
  where
    o : List ℕ
    o = w.pictures u

    n : ℕ
    n = draw_fault s (flat_grid d) q w.table (length o) (length k)

    go : (t : Bool) → eqb r.number 0 ≡ t → m.pictures u ≡ pick t (part_drawn s d q o) o
    go true e =
        (draw_done s d q w.table m.table o (m.pictures u) k f.work r a f.says (eqb-true r.number 0 e)
        ).pixels
    go false e =
        refused_left n _ o (m.pictures u) (ap (λ x. eqb x 0) (sym f.says.answer.number) ∙ e) f.says.pixels

pub step_picture : (u : ℕ) (c : Call) (w m : World) (r : Answer) → Follows c w m r → TrueTable w.table
    → m.pictures u ≡ picture_after u c r.number (w.pictures u)
unfolding picture_after
step_picture u (begins v s d) w m r f a = f.others u
step_picture u (draws v s d q k) w m r f a = go (eqb v u) refl
  where
    go : (t : Bool) → eqb v u ≡ t → m.pictures u
        ≡ pick t (pick (eqb r.number 0) (part_drawn s d q (w.pictures u)) (w.pictures u)) (w.pictures u)
    go true e =
        subst (λ x. m.pictures x ≡ pick (eqb r.number 0) (part_drawn s d q (w.pictures x)) (w.pictures x))
        (eqb-true v u e) (drawn_picture v s d q k w m r f a)
    go false e = f.others u (λ h. eqb-false v u e (sym h))

pub run_pictures : {w w' : World} {ks : List Turn} → Run w ks w' → TrueTable w.table → (u : ℕ)
    → w'.pictures u ≡ picture_by u ks (w.pictures u)
unfolding picture_by
run_pictures none a u = refl
run_pictures (next {w} {m} {w'} {c} {r} {ks} f rest) a u =
    run_pictures rest (step_keeps c w m r f a) u ∙ ap (picture_by u ks) (step_picture u c w m r f a)

-- Every call in every world has an outcome: no promise contradicts itself, so that runs of all lengths exist.
pub record Outcome (c : Call) (w : World) : Type 0 where
  pub after : World
  pub answer : Answer
  pub follows : Follows c w after answer

pub outcome : (c : Call) (w : World) → Outcome c w
outcome (begins u s d) w =
    let n = begin_fault s (flat_grid d) (length w.table) in
    record {
      after = record { table = written n (begun s (flat_grid d)) w.table; pictures = w.pictures };
      answer = record { number = n; place = place_of n (read_tape s).place; count = pick (eqb n 0) 0 0 };
      follows = record {
        says = record { answer = record { number = refl; place = refl; count = refl }; table = refl };
        others = λ v. refl;
      };
    }
outcome (draws u s d q k) w =
    let g = flat_grid d in
    let o = w.pictures u in
    let n = draw_fault s g q w.table (length o) (length k) in
    let t = turn (read_tape s).tape g q w.table in
    let p = written n (laid g q (picture false g t.drawing.heights) o) o in
    record {
      after = record {
        table = written n t.table w.table;
        pictures = λ v. pick (eqb v u) p (w.pictures v);
      };
      answer = record {
        number = n;
        place = place_of n (read_tape s).place;
        count = pick (eqb n 0) t.drawing.clauses 0;
      };
      follows = record {
        work = written n (replicate (length k) 0) k;
        says = record {
          answer = record { number = refl; place = refl; count = refl };
          table = refl;
          pixels = ap (λ b. pick b p o) (eq-eqb u u refl);
          work = refl;
        };
        others = λ v h. ap (λ b. pick b p (w.pictures v)) (ne_eqb v u h);
      };
    }
