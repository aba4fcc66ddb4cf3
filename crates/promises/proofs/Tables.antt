-- What document 02 asks of the shared table, of what its calls return.
use mathlib.Core.Path.{◌≡◌, refl, sym, ap, ap₂, subst, ◌∙◌}
use mathlib.Core.Bool.{Bool, true, false}
use mathlib.Core.List.{List, [], ◌∷◌, map}
use Prim.Native.Nat.{ℕ, ◌+◌, ◌<◌, ◌≤◌}
use native.Mathlib.Omega.{arith}
use lib.Dec.{eqb}
use lib.ListN.{length, get_or, replicate}
use borrow.Author.Tests.{eqb-true, eq-eqb, ne_eqb}
use Rattle.rules.specs.Values.{pick}
use Rattle.rules.specs.Tapes.{place_of, read_tape}
use Rattle.rules.specs.Drawings as D
use Rattle.rules.specs.Pictures.{picture, picture_size}
use Rattle.rules.proofs.Lines.{each_line}
use Rattle.plate_rules.proofs.FlatGrids.{plain_drawn, plain_fault, plain_size}
use Rattle.table_rules.specs.Tables.{table_length, begun, rectangle_ok, table_ok, turn, laid, byte_in}
use Rattle.table_rules.specs.Tables.{begin_lines, begin_fault, draw_lines, draw_fault, written}
use Rattle.table_rules.specs.Tables as T
use Rattle.table_rules.specs.Turns.{World, part_drawn, calls_of, is_own, without_others}
use Rattle.table_rules.specs.Turns as R
use Rattle.table_rules.proofs.TableLines.{begin_order, draw_order, off}
use Rattle.table_rules.proofs.Part.{laid_at, bits_length}
use Rattle.table_rules.proofs.Calls.{true_ok, begin_done, begin_true, every_turn}
use Rattle.table_rules.proofs.RunCounts.{begun_count}
use Rattle.table_rules.proofs.Alone.{run_ours, one_picture, one_answer, from_begun}
use Rattle.picture.specs.Shapes.{grid_in}
use Rattle.picture.specs.declared.grid.Grid.{Grid}
use Rattle.rectangle.specs.Rectangles.{rectangle_in}
use Rattle.rectangle.specs.declared.Rectangle.{Rectangle}
use Rattle.answers.specs.declared.Answer.{Answer}
use Rattle.promises.specs.Tables.{table_grid, BeginSays, DrawSays}
use Rattle.promises.specs.TableRuns.{Asked, begins, draws, Says, world_after, Turn, Makes, after_turn, Turns, last_of}
use Rattle.promises.specs.TableRuns.{answer_in, call_in, turns_in, NewlyBegun, DrawnInTurns}
use Rattle.promises.specs.TableRuns.{WithoutTheOther, AloneTheSame, OwnDrawingDone, AllByOwnCalls}

-- The promises as the rules have them.
as_begins : {s : List ℕ} {d : Grid} {b b' : List ℕ} {r : Answer} → BeginSays s d b b' r
    → T.BeginSays s (grid_in d false) b b' (answer_in r)
as_begins f =
    record {
      answer = record { number = f.answer.number; place = f.answer.place; count = f.answer.count };
      table = f.table;
    }

as_draws : {s : List ℕ} {d : Grid} {q : Rectangle} {b b' o o' w w' : List ℕ} {r : Answer}
    → DrawSays s d q b b' o o' w w' r → T.DrawSays s (grid_in d false) (rectangle_in q) b b' o o' w w' (answer_in r)
as_draws f =
    record {
      answer = record { number = f.answer.number; place = f.answer.place; count = f.answer.count };
      table = f.table;
      pixels = f.pixels;
      work = f.work;
    }

-- A call and a run as the rules have them. A drawing leaves its user's picture, and no other's.
own_picture : (u : ℕ) (o : List ℕ) (ps : ℕ → List ℕ) → pick (eqb u u) o (ps u) ≡ o
own_picture u o ps = ap (λ t. pick t o (ps u)) (eq-eqb u u refl)

follows : (a : Asked) (w : World) (b o k : List ℕ) (r : Answer) → Says a w b o k r
    → R.Follows (call_in a) w (world_after a w b o) (answer_in r)
follows (begins u s d) w b o k r f = record { says = as_begins f; others = λ v. refl }
follows (draws u s d q l) w b o k r f =
    record {
      work = k;
      says = subst (λ x. T.DrawSays s (grid_in d false) (rectangle_in q) w.table b (w.pictures u) x l k (answer_in r))
          (sym (own_picture u o w.pictures)) (as_draws f);
      others = λ v h. ap (λ t. pick t o (w.pictures v)) (ne_eqb v u h);
    }

as_run : (w : World) (ts : List Turn) → Turns w ts → R.Run w (turns_in ts) (last_of w ts)
unfolding Turns last_of
as_run w [] m = R.none
as_run w (t ∷ ts) m =
    R.next (follows t.asked w t.table t.picture t.work t.answer m.0)
    (as_run (after_turn w t) ts m.1)

module _ (s : List ℕ) (d : Grid) (w : World) (n : NewlyBegun s d w) where
  abbrev earlier : World
  earlier = record { table = n.before; pictures = w.pictures }

  newly : R.Begins s (grid_in d false) earlier w (answer_in n.answer)
  newly = record { says = as_begins n.says; others = λ v. refl }

-- A flat picture does not read the third step.
same_drawn : (s : List ℕ) (d : Grid)
    → picture false (table_grid d) (D.drawn (read_tape s).tape (table_grid d))
    ≡ picture false (grid_in d false) (D.drawn (read_tape s).tape (grid_in d false))
unfolding picture
same_drawn s d = ap (picture false (grid_in d false)) (sym (plain_drawn (read_tape s).tape (grid_in d false)))

from_zero : (a : ℕ) → 0 + a ≡ a
from_zero a = omega arith

-- The picture byte by byte, where its length is the grid's.
part_bytes : (s : List ℕ) (d : Grid) (q : Rectangle) (o : List ℕ) → length o ≡ picture_size false (table_grid d)
    → (i : ℕ) → i < length o → let g = grid_in d false in
    get_or (part_drawn s g (rectangle_in q) o) i 0
    ≡ pick (byte_in g (rectangle_in q) i) (get_or (picture false g (D.drawn (read_tape s).tape g)) i 0) (get_or o i 0)
unfolding part_drawn byte_in picture picture_size
part_bytes s d q o e i l =
    let g = table_grid d in
    let h = D.drawn (read_tape s).tape g in
    laid_at 0 g (rectangle_in q) (picture false g h) o (bits_length d.width d.height h ∙ sym e) i l
    ∙ ap (λ x. pick (byte_in g (rectangle_in q) x) (get_or (picture false g h) i 0) (get_or o i 0)) (from_zero i)
    ∙ ap (λ b. pick (byte_in g (rectangle_in q) i) (get_or b i 0) (get_or o i 0)) (same_drawn s d)

-- "From a newly begun table, in any order of turns, the pixels of each rectangle drawn are the full drawing's"; and the
-- count.
pub drawn_in_turns : DrawnInTurns
drawn_in_turns s₀ d₀ w ts n m u s d q l b o k r f e =
    let z = last_of w ts in
    let c = follows (draws u s d q l) z b o k r f in
    let run = as_run w ts m in
    let first = begin_true s₀ (grid_in d₀ false) n.before w.table (answer_in n.answer) (as_begins n.says) n.done
    in
    let part : o ≡ part_drawn s (grid_in d false) (rectangle_in q) (z.pictures u) =
    sym (own_picture u o z.pictures)
    ∙ (every_turn run first (call_in (draws u s d q l)) (world_after (draws u s d q l) z b o) (answer_in r) c e).pixels in
    let size = each_line
    (draw_lines s (table_grid d) (rectangle_in q) z.table (length (z.pictures u)) (length l))
    (sym f.answer.number ∙ e) 4 in
    let long = picture_size false (table_grid d) in
    record {
      part = part;
      bytes = λ i h.
          ap (λ v. get_or v i 0) part
          ∙ part_bytes s d q (z.pictures u)
          (eqb-true (length (z.pictures u)) long (off (eqb (length (z.pictures u)) long) 11 size)) i h;
      count =
          begun_count s₀ (grid_in d₀ false) (newly s₀ d₀ w n) n.done run u s (grid_in d false) (rectangle_in q) l
          (answer_in r) c e;
    }

-- "each user's picture is what it would be without the other."
pub without_the_other : WithoutTheOther
without_the_other s d w v ts ls n m one a j u same own =
    from_begun s (grid_in d false) (newly s d w n) n.done (as_run w ts m) one (newly s d v a) a.done (as_run v ls j)
    u same own

-- Every call has an outcome: there are runs of any calls from any world.
pub record Made (a : Asked) (w : World) : Type 0 where
  pub turn : Turn
  pub asked : turn.asked ≡ a
  pub makes : Makes w turn

made : (a : Asked) (w : World) → Made a w
made (begins u s d) w =
    let n = begin_fault s (table_grid d) (length w.table) in
    record {
      turn = record {
        asked = begins u s d;
        table = written n (begun s (table_grid d)) w.table;
        picture = [];
        work = [];
        answer = record { number = n; place = place_of n (read_tape s).place; count = pick (eqb n 0) 0 0 };
      };
      asked = refl;
      makes = record { answer = record { number = refl; place = refl; count = refl }; table = refl };
    }
made (draws u s d q l) w =
    let g = table_grid d in
    let o = w.pictures u in
    let n = draw_fault s g (rectangle_in q) w.table (length o) (length l) in
    let t = turn (read_tape s).tape g (rectangle_in q) w.table in
    record {
      turn = record {
        asked = draws u s d q l;
        table = written n t.table w.table;
        picture = written n (laid g (rectangle_in q) (picture false g t.drawing.heights) o) o;
        work = written n (replicate (length l) 0) l;
        answer = record {
          number = n;
          place = place_of n (read_tape s).place;
          count = pick (eqb n 0) t.drawing.clauses 0;
        };
      };
      asked = refl;
      makes = record {
        answer = record { number = refl; place = refl; count = refl };
        table = refl;
        pixels = refl;
        work = refl;
      };
    }

pub record MadeAll (cs : List Asked) (w : World) : Type 0 where
  pub turns : List Turn
  pub calls : calls_of (turns_in turns) ≡ map call_in cs
  pub made : Turns w turns

made_all : (cs : List Asked) (w : World) → MadeAll cs w
unfolding Turns
made_all [] w = record { turns = []; calls = refl; made = tt }
made_all (c ∷ cs) w =
    let t = made c w in
    let l = made_all cs (after_turn w t.turn) in
    record {
      turns = t.turn ∷ l.turns;
      calls = ap₂ (λ (x : R.Call) (xs : List R.Call). x ∷ xs) (ap call_in t.asked) l.calls;
      made = (t.makes, l.made);
    }

-- A user's own calls.
unfoldable own_of : ℕ → List Turn → List Asked
own_of u [] = []
own_of u (t ∷ ts) = pick (is_own u (call_in t.asked)) (t.asked ∷ own_of u ts) (own_of u ts)

own_calls : (u : ℕ) (ts : List Turn) → map call_in (own_of u ts) ≡ without_others u (calls_of (turns_in ts))
unfolding own_of without_others
own_calls u [] = refl
own_calls u (t ∷ ts) = go (is_own u (call_in t.asked)) (own_calls u ts)
  where
    go : (b : Bool) → map call_in (own_of u ts) ≡ without_others u (calls_of (turns_in ts))
        → map call_in (pick b (t.asked ∷ own_of u ts) (own_of u ts))
        ≡ pick b (call_in t.asked ∷ without_others u (calls_of (turns_in ts))) (without_others u (calls_of (turns_in ts)))
    go true h = ap (λ (xs : List R.Call). call_in t.asked ∷ xs) h
    go false h = h

pub alone_the_same : AloneTheSame
alone_the_same s d w ts n m one u =
    let l = made_all (own_of u ts) w in
    let own = l.calls ∙ own_calls u ts in
    record {
      turns = l.turns;
      made = l.made;
      own = own;
      same = without_the_other s d w w ts l.turns n m one n l.made u refl own;
    }

-- Tape and grid of a table newly begun are accepted, and the table is theirs.
module _ (s : List ℕ) (d : Grid) (w : World) (n : NewlyBegun s d w) where
  begun_line : (i : ℕ) → get_or (begin_lines s (table_grid d) (length n.before)) i 0 ≡ 0
  begun_line =
      each_line (begin_lines s (table_grid d) (length n.before)) (sym n.says.answer.number ∙ n.done)

  ours : R.Truthful s (table_grid d) w.table
  ours =
      begin_done s (grid_in d false) n.before w.table (answer_in n.answer) (as_begins n.says) n.done

pub by_own_calls : AllByOwnCalls
by_own_calls s d w ts n m one u =
    let g = grid_in d false in
    let line = begun_line s d w n in
    record {
      picture = one_picture s g (line 0) (line 1) (as_run w ts m) one (ours s d w n) u;
      returns = one_answer s g (line 0) (line 1) (as_run w ts m) one (ours s d w n) u;
    }

-- The order of lines, of the number that is returned. Beginning: 1 to 9, 10 and 11, 24 for the table's length.
pub record BeginNumbers (s : List ℕ) (d : Grid) (b : List ℕ) (n : ℕ) : Type 0 where
  pub tape : ((read_tape s).number ≡ 0 → ⊥) → n ≡ (read_tape s).number
  pub grid : (read_tape s).number ≡ 0 → (D.grid_fault false (grid_in d false) ≡ 0 → ⊥)
      → n ≡ D.grid_fault false (grid_in d false)
  pub table : (read_tape s).number ≡ 0 → D.grid_fault false (grid_in d false) ≡ 0 → (length b ≡ table_length → ⊥) → n ≡ 24
  pub done : (read_tape s).number ≡ 0 → D.grid_fault false (grid_in d false) ≡ 0 → length b ≡ table_length → n ≡ 0

pub begin_numbers : {s : List ℕ} {d : Grid} {b b' : List ℕ} {r : Answer} → BeginSays s d b b' r
    → BeginNumbers s d b r.number
begin_numbers {s} {d} {b} f =
    let o = begin_order s (table_grid d) (length b) in
    let e = f.answer.number in
    let p = plain_fault (grid_in d false) in
    record {
      tape = λ a. e ∙ o.tape a;
      grid = λ a c. e ∙ o.grid a (λ z. c (p ∙ z)) ∙ sym p;
      table = λ a c l. e ∙ o.table a (sym p ∙ c) l;
      done = λ a c l. e ∙ o.done a (sym p ∙ c) l;
    }

-- Drawing: 1 to 9, 10 for the rectangle, 10 and 11 for the grid, 24, 12 for the picture's length, 13 for the work
-- buffer's.
pub record DrawNumbers (s : List ℕ) (d : Grid) (q : Rectangle) (b o w : List ℕ) (n : ℕ) : Type 0 where
  pub tape : ((read_tape s).number ≡ 0 → ⊥) → n ≡ (read_tape s).number
  pub rectangle : (read_tape s).number ≡ 0 → rectangle_ok (table_grid d) (rectangle_in q) ≡ false → n ≡ 10
  pub grid : (read_tape s).number ≡ 0 → rectangle_ok (table_grid d) (rectangle_in q) ≡ true
      → (D.grid_fault false (grid_in d false) ≡ 0 → ⊥) → n ≡ D.grid_fault false (grid_in d false)
  pub table : (read_tape s).number ≡ 0 → rectangle_ok (table_grid d) (rectangle_in q) ≡ true
      → D.grid_fault false (grid_in d false) ≡ 0 → table_ok s (table_grid d) b ≡ false → n ≡ 24
  pub picture : (read_tape s).number ≡ 0 → rectangle_ok (table_grid d) (rectangle_in q) ≡ true
      → D.grid_fault false (grid_in d false) ≡ 0 → table_ok s (table_grid d) b ≡ true
      → (length o ≡ picture_size false (grid_in d false) → ⊥) → n ≡ 12
  pub work : (read_tape s).number ≡ 0 → rectangle_ok (table_grid d) (rectangle_in q) ≡ true
      → D.grid_fault false (grid_in d false) ≡ 0 → table_ok s (table_grid d) b ≡ true
      → length o ≡ picture_size false (grid_in d false) → length w < D.work_limit → n ≡ 13
  pub done : (read_tape s).number ≡ 0 → rectangle_ok (table_grid d) (rectangle_in q) ≡ true
      → D.grid_fault false (grid_in d false) ≡ 0 → table_ok s (table_grid d) b ≡ true
      → length o ≡ picture_size false (grid_in d false) → D.work_limit ≤ length w → n ≡ 0

pub draw_numbers : {s : List ℕ} {d : Grid} {q : Rectangle} {b b' o o' w w' : List ℕ} {r : Answer}
    → DrawSays s d q b b' o o' w w' r → DrawNumbers s d q b o w r.number
draw_numbers {s} {d} {q} {b} {b'} {o} {o'} {w} f =
    let l = draw_order s (table_grid d) (rectangle_in q) b (length o) (length w) in
    let e = f.answer.number in
    let p = plain_fault (grid_in d false) in
    let z = plain_size (grid_in d false) in
    record {
      tape = λ a. e ∙ l.tape a;
      rectangle = λ a t. e ∙ l.rectangle a t;
      grid = λ a t c. e ∙ l.grid a t (λ y. c (p ∙ y)) ∙ sym p;
      table = λ a t c k. e ∙ l.table a t (sym p ∙ c) k;
      picture = λ a t c k n. e ∙ l.picture a t (sym p ∙ c) k (λ y. n (y ∙ sym z));
      work = λ a t c k n h. e ∙ l.work a t (sym p ∙ c) k (n ∙ z) h;
      done = λ a t c k n h. e ∙ l.done a t (sym p ∙ c) k (n ∙ z) h;
    }

pub own_drawing_done : OwnDrawingDone
own_drawing_done s d w ts n m one u q l b o k r f inside size long =
    let line = begun_line s d w n in
    let table = run_ours s (grid_in d false) (line 0) (line 1) (as_run w ts m) one (ours s d w n) in
    (draw_numbers f).done (line 0) inside (plain_fault (grid_in d false) ∙ line 1)
    (true_ok s (table_grid d) (line 0) (last_of w ts).table table) size long

-- A beginning that is refused leaves the table as it came, a drawing table, picture and work buffer.
pub begin_refused : {s : List ℕ} {d : Grid} {b b' : List ℕ} {r : Answer} → BeginSays s d b b' r
    → (r.number ≡ 0 → ⊥) → b' ≡ b
begin_refused {s} {d} {b} f h =
    f.table ∙ rw (ne_eqb (begin_fault s (table_grid d) (length b)) 0 (λ y. h (f.answer.number ∙ y)))

pub draw_refused : {s : List ℕ} {d : Grid} {q : Rectangle} {b b' o o' w w' : List ℕ} {r : Answer}
    → DrawSays s d q b b' o o' w w' r → (r.number ≡ 0 → ⊥) → (b' ≡ b) × ((o' ≡ o) × (w' ≡ w))
draw_refused {s} {d} {q} {b} {b'} {o} {o'} {w} f h =
    let z = ne_eqb (draw_fault s (table_grid d) (rectangle_in q) b (length o) (length w)) 0 (λ y. h (f.answer.number ∙ y))
    in
    (f.table ∙ rw z, (f.pixels ∙ rw z, f.work ∙ rw z))

-- "A table not made by these calls yields 24 or a picture and a count fixed by its bytes": whatever the table holds, two
-- drawings with the same table, tape, grid, rectangle and picture return and leave the same.
pub record FixedByBytes (b' c' o' p' : List ℕ) (r a : Answer) : Type 0 where
  pub number : r.number ≡ a.number
  pub place : r.place ≡ a.place
  pub count : r.count ≡ a.count
  pub table : b' ≡ c'
  pub picture : o' ≡ p'

pub fixed_by_bytes : {s : List ℕ} {d : Grid} {q : Rectangle} {b b' c' o o' p' w w' v v' : List ℕ} {r a : Answer}
    → DrawSays s d q b b' o o' w w' r → DrawSays s d q b c' o p' v v' a → length w ≡ length v
    → FixedByBytes b' c' o' p' r a
fixed_by_bytes {s} {d} {q} {b} {b'} {c'} {o} {o'} {p'} {w} {w'} {v} f h e =
    let g = table_grid d in
    let x = rectangle_in q in
    let t = turn (read_tape s).tape g x b in
    let n = ap (draw_fault s g x b (length o)) e in
    record {
      number = f.answer.number ∙ n ∙ sym h.answer.number;
      place = f.answer.place ∙ ap (λ m. place_of m (read_tape s).place) n ∙ sym h.answer.place;
      count = f.answer.count ∙ ap (λ m. pick (eqb m 0) t.drawing.clauses 0) n ∙ sym h.answer.count;
      table = f.table ∙ ap (λ m. written m t.table b) n ∙ sym h.table;
      picture =
          f.pixels ∙ ap (λ m. written m (laid g x (picture false g t.drawing.heights) o) o) n ∙ sym h.pixels;
    }
