-- Runs of one picture: "each user's picture is what it would be without the other. Only the count may show the other's
-- work". Others may begin the table, draw, be turned down, and come with another tape or grid.
use mathlib.Core.Path.{◌≡◌, refl, sym, ap, ap₂, subst, ◌∙◌}
use mathlib.Core.Bool.{Bool, true, false, not}
use mathlib.Core.List.{List, [], ◌∷◌, ◌++◌}
use Prim.Native.Nat.{ℕ, zero, suc}
use lib.Dec.{eqb}
use lib.ListN.{length, take}
use borrow.Author.Tests.{eqb-true, eq-eqb}
use Rattle.rules.specs.Values.{pick, first_of, first_fault, when}
use Rattle.rules.specs.Tapes.{place_of, read_tape}
use Rattle.rules.specs.Drawings.{Grid, grid_fault}
use Rattle.rules.proofs.Lines.{each_line, lines_after}
use Rattle.table_rules.specs.Tables.{head_length, table_length, flat_grid, table_head, same_bytes, table_ok}
use Rattle.table_rules.specs.Tables.{Rectangle, begin_lines, begin_fault, own_lines, lent_lines, table_fault}
use Rattle.table_rules.specs.Tables.{draw_fault, Answer}
use Rattle.table_rules.specs.Turns.{Truthful, TrueTable, part_drawn, Call, begins, draws, World, Begins, Draws}
use Rattle.table_rules.specs.Turns.{Follows, Turn, turn_of, Run, none, next, user_of, is_own, picture_after, Stays}
use Rattle.table_rules.specs.Turns.{OnePicture, head_fault, own_fault, own_number, picture_alone, returning, return_of}
use Rattle.table_rules.specs.Turns.{returns_alone, own_returns, calls_of, without_others, SameFor}
use Rattle.table_rules.proofs.TableLines.{draw_clear}
use Rattle.table_rules.proofs.Heads.{tape_fits, same_bytes_lem, head_tape, head_grid}
use Rattle.table_rules.proofs.Calls.{never_refused, moved, one_caller, refused_left, draw_done, begin_done}
use Rattle.table_rules.proofs.Calls.{step_picture, outcome}

-- A line that is the same wherever the lines before it are 0.
line_for : (u v : List ℕ) (x y : ℕ) → (first_fault u ≡ 0 → x ≡ y)
    → first_fault (u ++ (x ∷ v)) ≡ first_fault (u ++ (y ∷ v))
line_for [] v x y h = ap (λ z. first_of z (first_fault v)) (h refl)
line_for (zero ∷ u) v x y h = line_for u v x y h
line_for (suc m ∷ u) v x y h = refl

-- A user's calls by themselves are its own.
pub own_again : (u : ℕ) (cs : List Call) → without_others u (without_others u cs) ≡ without_others u cs
unfolding without_others
own_again u [] = refl
own_again u (c ∷ cs) = go (is_own u c) refl (own_again u cs)
  where
    go : (t : Bool) → is_own u c ≡ t → without_others u (without_others u cs) ≡ without_others u cs
        → without_others u (pick t (c ∷ without_others u cs) (without_others u cs))
        ≡ pick t (c ∷ without_others u cs) (without_others u cs)
    go true e ih =
        ap (λ t. pick t (c ∷ without_others u (without_others u cs)) (without_others u (without_others u cs))) e
        ∙ ap (λ xs. c ∷ xs) ih
    go false e ih = ih

-- Calls of others leave a user's picture as it is.
others_leave : (u : ℕ) (c : Call) (n : ℕ) (o : List ℕ) → is_own u c ≡ false → picture_after u c n o ≡ o
unfolding picture_after
others_leave u (begins v s d) n o e = refl
others_leave u (draws v s d q k) n o e = ap (λ t. pick t (pick (eqb n 0) (part_drawn s d q o) o) o) e

module _ (s : List ℕ) (d : Grid) (good : (read_tape s).number ≡ 0) (fine : grid_fault false (flat_grid d) ≡ 0) where
  abbrev Ours : List ℕ → Type 0
  Ours b = Truthful s (flat_grid d) b

  true_table : (b : List ℕ) → Ours b → TrueTable b
  true_table b f = record { bytes = s; grid = d; read = good; accepted = fine; truthful = f }

  -- What a drawing returns does not depend on the entries.
  head_decides : (s' : List ℕ) (d' : Grid) (b : List ℕ) → Ours b → (read_tape s').number ≡ 0
      → grid_fault false (flat_grid d') ≡ 0 → table_fault s' (flat_grid d') b ≡ head_fault s d s' d'
  unfolding table_ok
  head_decides s' d' b f read accepted = go (same_bytes (table_head s (flat_grid d)) (table_head s' (flat_grid d'))) refl
    where
      go : (t : Bool) → same_bytes (table_head s (flat_grid d)) (table_head s' (flat_grid d')) ≡ t
          → table_fault s' (flat_grid d') b ≡ head_fault s d s' d'
      go true e =
          let h = same_bytes_lem (table_head s (flat_grid d)) (table_head s' (flat_grid d')) e in
          let same = head_tape s s' (flat_grid d) (flat_grid d') good read h in
          let grids = head_grid s s' (flat_grid d) (flat_grid d') (tape_fits s good) (tape_fits s' read) fine accepted h
          in
          never_refused s' (flat_grid d') read b (moved s' s (flat_grid d') (flat_grid d) b (same, grids) f)
          ∙ sym (ap (λ t. when (not t) 24) e)
      go false e =
          let u : eqb (length b) table_length ≡ true = eq-eqb (length b) table_length f.size in
          let v : same_bytes (take head_length b) (table_head s' (flat_grid d')) ≡ false =
          ap (λ x. same_bytes x (table_head s' (flat_grid d'))) f.head ∙ e in
          rw (u, v, e)

  own_number_lem : (s' : List ℕ) (d' : Grid) (q : Rectangle) (b : List ℕ) (n m : ℕ) → Ours b
      → draw_fault s' (flat_grid d') q b n m ≡ own_fault s d s' d' q n m
  own_number_lem s' d' q b n m f =
      line_for (own_lines s' (flat_grid d') q) (lent_lines (flat_grid d') n m) (table_fault s' (flat_grid d') b)
      (head_fault s d s' d')
      (λ e.
      let line = each_line (own_lines s' (flat_grid d') q) e in
      head_decides s' d' b f (line 0) (line 2))

  -- A stray drawing, with another tape or grid, that passes the lines before is turned down with 24.
  pub stray_number : (u : ℕ) (s' : List ℕ) (d' : Grid) (q : Rectangle) (k : List ℕ) (w m : World) (r : Answer)
      → Draws u s' d' q k w m r → Ours w.table → ((s ≡ s') × (flat_grid d ≡ flat_grid d') → ⊥)
      → first_fault (own_lines s' (flat_grid d') q) ≡ 0 → r.number ≡ 24
  stray_number u s' d' q k w m r f a stray e =
      let line = each_line (own_lines s' (flat_grid d') q) e in
      let lent = lent_lines (flat_grid d') (length (w.pictures u)) (length k) in
      f.says.answer.number
      ∙ lines_after (own_lines s' (flat_grid d') q) (table_fault s' (flat_grid d') w.table ∷ lent) e
      ∙ ap (λ x. first_of x (first_fault lent))
      (go (line 0) (line 2) (table_ok s' (flat_grid d') w.table) refl)
    where
      go : (read_tape s').number ≡ 0 → grid_fault false (flat_grid d') ≡ 0
          → (t : Bool) → table_ok s' (flat_grid d') w.table ≡ t → table_fault s' (flat_grid d') w.table ≡ 24
      go read accepted true h =
          absurd (stray (one_caller s' s d' d w.table read good accepted fine a (ap (λ t. when (not t) 24) h)))
      go read accepted false h = ap (λ t. when (not t) 24) h

  -- Number and place of every call.
  pub step_returns : (c : Call) (w m : World) (r : Answer) → Follows c w m r → Ours w.table
      → returning r.number r.place ≡ return_of s d c (w.pictures (user_of c))
  unfolding own_number
  step_returns (begins u s' d') w m r f a =
      let n : begin_fault s' (flat_grid d') (length w.table) ≡ begin_fault s' (flat_grid d') table_length =
      ap (begin_fault s' (flat_grid d')) a.size in
      ap₂ returning (f.says.answer.number ∙ n)
      (f.says.answer.place ∙ ap (λ x. place_of x (read_tape s').place) n)
  step_returns (draws u s' d' q k) w m r f a =
      let n = own_number_lem s' d' q w.table (length (w.pictures u)) (length k) a in
      ap₂ returning (f.says.answer.number ∙ n)
      (f.says.answer.place ∙ ap (λ x. place_of x (read_tape s').place) n)

  -- The table stays that of s and d.
  step_ours : (c : Call) (w m : World) (r : Answer) → Stays s d c → Follows c w m r → Ours w.table → Ours m.table
  step_ours (begins u s' d') w m r e f a = go (eqb n 0) refl
    where
      n : ℕ
      n = begin_fault s' (flat_grid d') (length w.table)

      go : (t : Bool) → eqb n 0 ≡ t → Ours m.table
      go true h =
          let z : n ≡ 0 = eqb-true n 0 h in
          moved s s' (flat_grid d) (flat_grid d') m.table (e (ap (begin_fault s' (flat_grid d')) (sym a.size) ∙ z))
          (begin_done s' d' w.table m.table r f.says (f.says.answer.number ∙ z))
      go false h = subst Ours (sym (refused_left n _ w.table m.table h f.says.table)) a
  step_ours (draws u s' d' q k) w m r e f a = go (eqb n 0) refl
    where
      n : ℕ
      n = draw_fault s' (flat_grid d') q w.table (length (w.pictures u)) (length k)

      go : (t : Bool) → eqb n 0 ≡ t → Ours m.table
      go true h =
          let z : n ≡ 0 = eqb-true n 0 h in
          let clear = draw_clear s' (flat_grid d') q w.table (length (w.pictures u)) (length k) z in
          let same = one_caller s' s d' d w.table clear.read good clear.grid fine a clear.table in
          moved s s' (flat_grid d) (flat_grid d') m.table (sym same.0, sym same.1)
          (draw_done s' d' q w.table m.table (w.pictures u) (m.pictures u) k f.work r
          (true_table w.table a) f.says (f.says.answer.number ∙ z)).table
      go false h = subst Ours (sym (refused_left n _ w.table m.table h f.says.table)) a

  pub run_ours : {w w' : World} {ks : List Turn} → Run w ks w' → OnePicture s d (calls_of ks) → Ours w.table
      → Ours w'.table
  unfolding OnePicture
  run_ours none e a = a
  run_ours (next {w} {m} {w'} {c} {r} {ks} f rest) e a = run_ours rest e.1 (step_ours c w m r e.0 f a)

  -- A user's picture after a call, by the call alone.
  step_alone : (u : ℕ) (c : Call) (w m : World) (r : Answer) → Follows c w m r → Ours w.table
      → m.pictures u ≡ picture_after u c (own_number s d c (w.pictures u)) (w.pictures u)
  step_alone u c w m r f a =
      step_picture u c w m r f (true_table w.table a) ∙ go (is_own u c) refl
    where
      o : List ℕ
      o = w.pictures u

      go : (t : Bool) → is_own u c ≡ t → picture_after u c r.number o ≡ picture_after u c (own_number s d c o) o
      go true e =
          ap (λ x. picture_after u c x o)
          (ap (λ x. x.number) (step_returns c w m r f a)
          ∙ ap (λ v. own_number s d c (w.pictures v)) (eqb-true (user_of c) u e))
      go false e = others_leave u c r.number o e ∙ sym (others_leave u c (own_number s d c o) o e)

  -- Along a run: the picture, and what the user's own calls return.
  pub one_picture : {w w' : World} {ks : List Turn} → Run w ks w' → OnePicture s d (calls_of ks) → Ours w.table
      → (u : ℕ) → w'.pictures u ≡ picture_alone s d u (without_others u (calls_of ks)) (w.pictures u)
  unfolding OnePicture picture_alone without_others
  one_picture none e a u = refl
  one_picture (next {w} {m} {w'} {c} {r} {ks} f rest) e a u =
      one_picture rest e.1 (step_ours c w m r e.0 f a) u
      ∙ ap (picture_alone s d u (without_others u (calls_of ks))) (step_alone u c w m r f a)
      ∙ go (is_own u c) refl
    where
      o : List ℕ
      o = w.pictures u

      go : (t : Bool) → is_own u c ≡ t
          → picture_alone s d u (without_others u (calls_of ks)) (picture_after u c (own_number s d c o) o)
          ≡ picture_alone s d u (pick t (c ∷ without_others u (calls_of ks)) (without_others u (calls_of ks))) o
      go true h = refl
      go false h =
          ap (picture_alone s d u (without_others u (calls_of ks))) (others_leave u c (own_number s d c o) o h)

  pub one_answer : {w w' : World} {ks : List Turn} → Run w ks w' → OnePicture s d (calls_of ks) → Ours w.table
      → (u : ℕ) → own_returns u ks ≡ returns_alone s d u (without_others u (calls_of ks)) (w.pictures u)
  unfolding OnePicture own_returns returns_alone without_others
  one_answer none e a u = refl
  one_answer (next {w} {m} {w'} {c} {r} {ks} f rest) e a u =
      go (is_own u c) refl
      (one_answer rest e.1 (step_ours c w m r e.0 f a) u
      ∙ ap (returns_alone s d u (without_others u (calls_of ks))) (step_alone u c w m r f a))
    where
      o : List ℕ
      o = w.pictures u

      go : (t : Bool) → is_own u c ≡ t
          → own_returns u ks
          ≡ returns_alone s d u (without_others u (calls_of ks)) (picture_after u c (own_number s d c o) o)
          → pick t (returning r.number r.place ∷ own_returns u ks) (own_returns u ks)
          ≡ returns_alone s d u (pick t (c ∷ without_others u (calls_of ks)) (without_others u (calls_of ks))) o
      go true h l =
          ap₂ (λ x xs. x ∷ xs)
          (step_returns c w m r f a ∙ ap (λ v. return_of s d c (w.pictures v)) (eqb-true (user_of c) u h)) l
      go false h l =
          l ∙ ap (returns_alone s d u (without_others u (calls_of ks))) (others_leave u c (own_number s d c o) o h)

own_one : (s : List ℕ) (d : Grid) (u : ℕ) (cs : List Call) → OnePicture s d cs → OnePicture s d (without_others u cs)
unfolding OnePicture without_others
own_one s d u [] e = tt
own_one s d u (c ∷ cs) e = go (is_own u c) (own_one s d u cs e.1)
  where
    go : (t : Bool) → OnePicture s d (without_others u cs)
        → OnePicture s d (pick t (c ∷ without_others u cs) (without_others u cs))
    go true l = (e.0, l)
    go false l = l

-- A run with the calls of others, and one without any of them, leave a user the same picture and gave it the same
-- numbers and places.
pub without_the_other : (s : List ℕ) (d : Grid) → (read_tape s).number ≡ 0 → grid_fault false (flat_grid d) ≡ 0
    → {w w' v v' : World} {ks ls : List Turn} → Run w ks w' → Run v ls v' → OnePicture s d (calls_of ks)
    → Truthful s (flat_grid d) w.table → Truthful s (flat_grid d) v.table
    → (u : ℕ) → v.pictures u ≡ w.pictures u → calls_of ls ≡ without_others u (calls_of ks)
    → SameFor u ks ls w' v'
without_the_other s d good fine {w} {w'} {v} {v'} {ks} {ls} run alone one a b u same own =
    let two : OnePicture s d (calls_of ls) = subst (OnePicture s d) (sym own) (own_one s d u (calls_of ks) one) in
    let calls : without_others u (calls_of ls) ≡ without_others u (calls_of ks) =
    ap (without_others u) own ∙ own_again u (calls_of ks) in
    record {
      picture =
          one_picture s d good fine alone two b u ∙ ap₂ (picture_alone s d u) calls same
          ∙ sym (one_picture s d good fine run one a u);
      returns =
          one_answer s d good fine alone two b u ∙ ap₂ (returns_alone s d u) calls same
          ∙ sym (one_answer s d good fine run one a u);
    }

-- "From a newly begun table, in any order of turns": both runs over tables newly begun.
pub from_begun : (s : List ℕ) (d : Grid) {w m w' v n v' : World} {r a : Answer} {ks ls : List Turn}
    → Begins s d w m r → r.number ≡ 0 → Run m ks w' → OnePicture s d (calls_of ks)
    → Begins s d v n a → a.number ≡ 0 → Run n ls v'
    → (u : ℕ) → v.pictures u ≡ w.pictures u → calls_of ls ≡ without_others u (calls_of ks)
    → SameFor u ks ls w' v'
from_begun s d {w} {m} {w'} {v} {n} {v'} {r} {a} {ks} {ls} f e run one f₂ e₂ alone u same own =
    let line = each_line (begin_lines s (flat_grid d) (length w.table)) (sym f.says.answer.number ∙ e) in
    without_the_other s d (line 0) (line 1) run alone one
    (begin_done s d w.table m.table r f.says e) (begin_done s d v.table n.table a f₂.says e₂) u
    (f₂.others u ∙ same ∙ sym (f.others u)) own

-- There is a run of any calls from any world: so the one without the others exists.
pub record RunOf (cs : List Call) (w : World) : Type 0 where
  pub turns : List Turn
  pub after : World
  pub run : Run w turns after
  pub calls : calls_of turns ≡ cs

pub run_of : (cs : List Call) (w : World) → RunOf cs w
run_of [] w = record { turns = []; after = w; run = none; calls = refl }
run_of (c ∷ cs) w =
    let o = outcome c w in
    let l = run_of cs o.after in
    record {
      turns = turn_of c o.answer ∷ l.turns;
      after = l.after;
      run = next o.follows l.run;
      calls = ap (λ xs. c ∷ xs) l.calls;
    }
