-- The count along a run: "the walk's sum over the rectangle's tiles, without the region of side 64 where the verdict
-- was known", and known are the tiles of the rectangles drawn since the table was begun, by whomever.
use mathlib.Core.Path.{◌≡◌, refl, sym, ap, subst, ◌∙◌}
use mathlib.Core.Bool.{Bool, true, false, ◌||◌}
use mathlib.Core.List.{List, map}
use Prim.Native.Nat.{ℕ, ◌+◌, ◌*◌}
use native.Mathlib.Omega.{arith}
use lib.Dec.{eqb}
use lib.ListN.{length}
use borrow.Author.Tests.{eqb-true}
use Rattle.rules.specs.Values.{pick}
use Rattle.rules.specs.Tapes.{read_tape, is_in}
use Rattle.rules.specs.Drawings.{Grid, fold, visit}
use Rattle.rules.proofs.Lines.{each_line}
use Rattle.rules.proofs.Grids.{accepted_sound}
use Rattle.order_rules.specs.Orders.{cleared, total}
use Rattle.table_rules.specs.Tables.{flat_grid, begun, tile_of, Rectangle, tiles_in, turn}
use Rattle.table_rules.specs.Tables.{begin_lines, begin_fault, draw_fault, Answer, BeginSays, DrawSays}
use Rattle.table_rules.specs.Turns.{walk_over, TrueTable, Call, begins, draws, World, Begins, Draws, Follows}
use Rattle.table_rules.specs.Turns.{Turn, Run, none, next, tile_part, count_in, Knows, known_then, known_after}
use Rattle.table_rules.proofs.TableLines.{draw_clear}
use Rattle.table_rules.proofs.Heads.{tape_fits}
use Rattle.table_rules.proofs.Numbers.{in_tiles, tiles_rising}
use Rattle.table_rules.proofs.Drawn.{flat_sides}
use Rattle.table_rules.proofs.Calls.{same_caller, done_left, refused_left, draw_done, step_keeps}
use Rattle.table_rules.proofs.Calls.{run_keeps, begin_true}
use Rattle.table_rules.proofs.Counts.{begun_knows, known_count, turn_knows, parts_added}

-- What a table knows after a call: newly begun none, whatever it knew before.
pub begin_unknown : (s : List ℕ) (d : Grid) (b b' : List ℕ) (r : Answer) → BeginSays s d b b' r → r.number ≡ 0
    → Knows b' (λ i. false)
begin_unknown s d b b' r says e =
    let g = flat_grid d in
    let n = begin_fault s g (length b) in
    let z : n ≡ 0 = sym says.answer.number ∙ e in
    subst (λ x. Knows x (λ i. false)) (sym (done_left n (begun s g) b b' z says.table))
    (begun_knows s g (tape_fits s (each_line (begin_lines s g (length b)) z 0)))

pub begin_knows : (u : ℕ) (s : List ℕ) (d : Grid) (b b' : List ℕ) (r : Answer) (K : ℕ → Bool) → BeginSays s d b b' r
    → Knows b K → Knows b' (known_then (begins u s d) r.number K)
unfolding known_then
begin_knows u s d b b' r K says f = go (eqb r.number 0) refl
  where
    n : ℕ
    n = begin_fault s (flat_grid d) (length b)

    go : (t : Bool) → eqb r.number 0 ≡ t → Knows b' (pick t (λ i. false) K)
    go true e = begin_unknown s d b b' r says (eqb-true r.number 0 e)
    go false e =
        subst (λ x. Knows x K)
        (sym (refused_left n (begun s (flat_grid d)) b b' (ap (λ x. eqb x 0) (sym says.answer.number) ∙ e)
        says.table)) f

draw_knows : (u : ℕ) (s : List ℕ) (d : Grid) (q : Rectangle) (b b' o o' w w' : List ℕ) (r : Answer) (K : ℕ → Bool)
    → TrueTable b → DrawSays s d q b b' o o' w w' r → Knows b K
    → Knows b' (known_then (draws u s d q w) r.number K)
unfolding known_then
draw_knows u s d q b b' o o' w w' r K a says f = go (eqb r.number 0) refl
  where
    g : Grid
    g = flat_grid d

    n : ℕ
    n = draw_fault s g q b (length o) (length w)

    go : (t : Bool) → eqb r.number 0 ≡ t → Knows b' (pick t (λ i. is_in i (tiles_in g q) || K i) K)
    go true e =
        let z : n ≡ 0 = sym says.answer.number ∙ eqb-true r.number 0 e in
        let clear = draw_clear s g q b (length o) (length w) z in
        let sound = accepted_sound g false refl clear.grid in
        let inside = in_tiles g q clear.rectangle in
        let true_of = same_caller s a.bytes d a.grid b clear.read a.read clear.grid a.accepted a.truthful
        clear.table in
        subst (λ x. Knows x (λ i. is_in i (tiles_in g q) || K i))
        (sym (done_left n (turn (read_tape s).tape g q b).table b b' z says.table))
        (turn_knows s clear.read g refl sound.fits q inside b K true_of f)
    go false e =
        subst (λ x. Knows x K)
        (sym (refused_left n (turn (read_tape s).tape g q b).table b b'
        (ap (λ x. eqb x 0) (sym says.answer.number) ∙ e) says.table)) f

step_knows : (c : Call) (w m : World) (r : Answer) (K : ℕ → Bool) → Follows c w m r → TrueTable w.table
    → Knows w.table K → Knows m.table (known_then c r.number K)
step_knows (begins u s d) w m r K f a k = begin_knows u s d w.table m.table r K f.says k
step_knows (draws u s d q l) w m r K f a k =
    draw_knows u s d q w.table m.table (w.pictures u) (m.pictures u) l f.work r K a f.says k

pub run_knows : {w w' : World} {ks : List Turn} → Run w ks w' → TrueTable w.table → (K : ℕ → Bool)
    → Knows w.table K → Knows w'.table (known_after ks K)
unfolding known_after
run_knows none a K k = k
run_knows (next {w} {m} {w'} {c} {r} {ks} f rest) a K k =
    run_knows rest (step_keeps c w m r f a) (known_then c r.number K) (step_knows c w m r K f a k)

-- The count of a drawing that is done after any run.
pub run_count : {w m w' : World} {ks : List Turn} → Run w ks m → TrueTable w.table → (K : ℕ → Bool)
    → Knows w.table K → (u : ℕ) (s : List ℕ) (d : Grid) (q : Rectangle) (l : List ℕ) (r : Answer)
    → Draws u s d q l m w' r → r.number ≡ 0
    → let t = (read_tape s).tape in
    let is = tiles_in (flat_grid d) q in
    r.count + count_in (known_after ks K) is * length t.clauses ≡ total (map (tile_part t (flat_grid d)) is)
unfolding walk_over
run_count {w} {m} {w'} {ks} run a K k u s d q l r f e =
    let g = flat_grid d in
    let t = (read_tape s).tape in
    let is = tiles_in g q in
    let b = m.table in
    let says = f.says in
    let z = sym says.answer.number ∙ e in
    let clear = draw_clear s g q b (length (m.pictures u)) (length l) z in
    let sound = accepted_sound g false refl clear.grid in
    let inside = in_tiles g q clear.rectangle in
    let done = draw_done s d q b w'.table (m.pictures u) (w'.pictures u) l f.work r (run_keeps run a) says e in
    ap (λ c. r.count + c * length t.clauses)
    (sym (known_count s clear.read g refl sound.fits b (known_after ks K) (run_knows run a K k) 0 is
    (tiles_rising g q inside)))
    ∙ done.count
    ∙ ap (λ ns. (fold (λ p y. visit ns t g p y) (map (tile_of g) is) (cleared g)).clauses) (flat_sides g refl)
    ∙ parts_added g refl t is (cleared g)
    ∙ zero_plus (total (map (tile_part t g) is))
  where
    zero_plus : (a : ℕ) → 0 + a ≡ a
    zero_plus a = omega arith

-- "From a newly begun table": the count of a drawing after any run from there. Known are the tiles of the rectangles
-- that were drawn since, by whomever; the table may be begun anew on the way.
pub begun_count : (s₀ : List ℕ) (d₀ : Grid) {w₀ w m w' : World} {r₀ : Answer} {ks : List Turn} → Begins s₀ d₀ w₀ w r₀
    → r₀.number ≡ 0 → Run w ks m → (u : ℕ) (s : List ℕ) (d : Grid) (q : Rectangle) (l : List ℕ) (r : Answer)
    → Draws u s d q l m w' r → r.number ≡ 0
    → let t = (read_tape s).tape in
    let is = tiles_in (flat_grid d) q in
    r.count + count_in (known_after ks (λ i. false)) is * length t.clauses
    ≡ total (map (tile_part t (flat_grid d)) is)
begun_count s₀ d₀ {w₀} {w} {m} {w'} {r₀} {ks} f₀ e₀ run u s d q l r f e =
    run_count run (begin_true s₀ d₀ w₀.table w.table r₀ f₀.says e₀) (λ i. false)
    (begin_unknown s₀ d₀ w₀.table w.table r₀ f₀.says e₀) u s d q l r f e
