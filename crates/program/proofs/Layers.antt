-- A drawing by tiles that is lent enough: its number, and its file where that is 0. Flat and solid are one case.
use mathlib.Core.Path.{◌≡◌, refl, sym, ap, ap₂, ◌∙◌}
use mathlib.Core.Bool.{Bool, true, false, not}
use mathlib.Core.List.{List, [], ◌∷◌, ◌++◌}
use Prim.Native.Nat.{ℕ, zero, suc, ◌+◌, ◌*◌, ◌≤◌}
use native.Mathlib.Omega.{arith}
use lib.Dec.{eqb}
use lib.ListN.{length, take, drop, length-append}
use lib.Seq.{take_at, length-take-le}
use borrow.Author.Tests.{ne_eqb, eq-eqb, le-ltb, le-leb}
use Rattle.rules.specs.Values.{pick, first_of, first_fault, when}
use Rattle.rules.specs.Tapes.{read_tape}
use Rattle.rules.specs.Drawings as D
use Rattle.rules.specs.Pictures.{stride, sides_ok, picture, picture_size, head, bitmap_file, height_file}
use Rattle.program_rules.specs.Program.{file_of}
use Rattle.rules.proofs.Lines.{each_line}
use Rattle.picture.specs.Shapes.{grid_in}
use Rattle.picture.specs.declared.grid.Grid.{Grid}
use Rattle.picture.proofs.Grids.{accepted}
use Rattle.netpbm.proofs.FileLaws.{Sides, short_head, length_bitmap, length_heights}
use Rattle.answers.specs.declared.Answer.{Answer}
use Rattle.answers.specs.Lines.{length_fault, draw_lines, tile_fault}
use Rattle.answers.specs.Says.{Answered, written}
use Rattle.promises.specs.Says as Calls
use Rattle.program.specs.declared.Drawn.{Drawn}
use Rattle.faults.specs.declared.Refusal.{Refusal}
use Rattle.std.proofs.Common.{Result}
use Rattle.program.specs.Says.{told, length_of, PictureFits, layer_fault, FileSays}

-- The sides of a grid that is not refused.
pub sides : (t : Bool) (d : Grid) → D.grid_fault t (grid_in d t) ≡ 0 → Sides d.width d.height
sides t d e =
    let z = (accepted d t e).sizes in
    record {
      width_least = z.width.least;
      width_most = z.width.most;
      height_least = z.height.least;
      height_most = z.height.most;
    }

sides_ok_lem : {w h : ℕ} → Sides w h → sides_ok w h ≡ true
sides_ok_lem {w} {h} s =
    rw (
      le-leb 1 w s.width_least,
      le-leb w 512 s.width_most,
      le-leb 1 h s.height_least,
      le-leb h 512 s.height_most,
    )

pub short_start : {w h : ℕ} (k : ℕ) → Sides w h → length (head k w h) ≤ 11
short_start {w} {h} k s = short_head k w h (omega (arith, s.width_most)) (omega (arith, s.height_most))

-- The number: 12 and 13 never come, since the picture and the work buffer are as long as they must be.
last_zero : (a b c : ℕ) → (b ≡ 0 → c ≡ 0)
    → first_fault (a ∷ (b ∷ (c ∷ (0 ∷ [])))) ≡ first_fault (a ∷ (b ∷ []))
last_zero zero zero c h = ap (λ n. first_of n 0) (h refl)
last_zero zero (suc b) c h = refl
last_zero (suc a) b c h = refl

pub record Lent (t : Bool) (d : Grid) (n m : ℕ) : Type 0 where
  pub pixels : D.grid_fault t (grid_in d t) ≡ 0 → n ≡ picture_size t (grid_in d t)
  pub work : D.work_limit ≤ m

tile_fault_lem : (t : Bool) (s : List ℕ) (d : Grid) (n m : ℕ) → Lent t d n m
    → tile_fault t s (grid_in d t) n m ≡ layer_fault t s (grid_in d t)
tile_fault_lem t s d n m l =
    let g = grid_in d t in
    ap (λ b. first_fault (draw_lines t s g n ++ (when b 13 ∷ []))) (le-ltb m D.work_limit l.work)
    ∙ last_zero (read_tape s).number (D.grid_fault t g) (length_fault t g n)
    (λ e. ap (λ b. when (not b) 12) (eq-eqb n (picture_size t g) (l.pixels e)))

-- The file of a picture, and of heights.
abbrev pub file_in : Bool → D.Grid → List ℕ → List ℕ
file_in t g p = pick t (height_file g.width g.height p) (bitmap_file g.width g.height p)

file_of_lem : (t : Bool) (g : D.Grid) (h : List ℕ) → t ≡ D.solid g → file_in t g (picture t g h) ≡ file_of g h
unfolding file_of picture
file_of_lem true g h e = rw (sym e)
file_of_lem false g h e = rw (sym e)

-- The first n of z were lent and came back as p.
pub record Back (p z : List ℕ) (n : ℕ) : Type 0 where
  pub room : n ≤ length (p ++ drop n z)
  pub size : length (take n (p ++ drop n z)) ≡ n
  pub same : take n (p ++ drop n z) ≡ p

come_back : (p z : List ℕ) (n : ℕ) → length p ≡ n → Back p z n
come_back p z n e =
    let h : n ≤ length (p ++ drop n z) = simp length-append (omega arith) in
    record { room = h; size = length-take-le n (p ++ drop n z) h; same = take_at p (drop n z) n e }

-- What a call leaves that makes a file of a picture and has room for just that file.
made : {w h n : ℕ} {q b x x' : List ℕ} {a : Answer} → Sides w h → length q ≡ n → length x ≡ length b
    → Calls.FileSays w h n q b x x' a → x' ≡ b
made {w} {h} {n} {q} {b} {x} s e l f =
    f.out ∙ rw (sides_ok_lem s, eq-eqb (length q) n e, eq-eqb (length x) (length b) l) refl

-- What a drawing by tiles leaves that is lent the first n of the picture z, and all of the work buffer w.
pub record Tiled (t : Bool) (s : List ℕ) (d : Grid) (n : ℕ) (z p w w' : List ℕ) (a : Answer) : Type 0 where
  pub says : Calls.TilesSay t s d (take n z) p w w' a
  pub lent : Lent t d (length (take n z)) (length w)
  pub size : D.grid_fault t (grid_in d t) ≡ 0 → n ≡ picture_size t (grid_in d t)
  pub back : Back p z n

pub tiled : {t : Bool} {s : List ℕ} {d : Grid} {m n : ℕ} {p w' : List ℕ} {a : Answer} (z w : List ℕ)
    → PictureFits t d m n → m ≡ length z → D.work_limit ≡ length w → length p ≡ length (take n z)
    → Calls.TilesSay t s d (take n z) p w w' a → Tiled t s d n z p w w' a
tiled {n = n} {p} z w f e h k c =
    let l = length-take-le n z (omega (arith, f.most)) in
    record {
      says = c;
      lent = record { pixels = λ i. l ∙ f.size i; work = omega arith };
      size = f.size;
      back = come_back p z n (k ∙ l);
    }

module _ {t : Bool} {s : List ℕ} {d : Grid} {n : ℕ} {z p w w' : List ℕ} {a : Answer}
    (f : Tiled t s d n z p w w' a) where
  same : tile_fault t s (grid_in d t) (length (take n z)) (length w) ≡ layer_fault t s (grid_in d t)
  same = tile_fault_lem t s d (length (take n z)) (length w) f.lent

  -- The answer is the drawing's own, number, place and count.
  told_lem : let g = grid_in d t in
      Answered (layer_fault t s g) (read_tape s).place (D.walked (read_tape s).tape g).clauses a
  told_lem = rw same at f.says.answer

  taken : a.number ≡ 0 → D.grid_fault t (grid_in d t) ≡ 0
  taken e =
      each_line ((read_tape s).number ∷ (D.grid_fault t (grid_in d t) ∷ [])) (sym told_lem.number ∙ e) 1

  pub sided : a.number ≡ 0 → Sides d.width d.height
  sided e = sides t d (taken e)

  pub pixels : a.number ≡ 0 → n ≡ picture_size t (grid_in d t)
  pixels e = f.size (taken e)

  pub layer_refused : (o : List ℕ) (r : Result Drawn Refusal) → (a.number ≡ 0 → ⊥) → told r ≡ a → (length_of r) ≡ 0
      → FileSays t s d o o r
  layer_refused o r h e y =
      let x = layer_fault t s (grid_in d t) in
      let k : eqb x 0 ≡ false = ne_eqb x 0 (λ v. h (told_lem.number ∙ v)) in
      record { answer = rw e told_lem; size = rw k y; out = rw k refl }

  -- The file was made of the part that came back, in the first bytes of the output.
  pub layer_done : (o x : List ℕ) (m : ℕ) (b : Answer) (r : Result Drawn Refusal) → a.number ≡ 0
      → (let q = take n (p ++ drop n z) in
      Calls.FileSays d.width d.height m q (file_in t (grid_in d t) q) (take (length_of r) o) x b)
      → m ≡ picture_size t (grid_in d t) → (length_of r) ≤ length o
      → (length_of r) ≡ length (file_in t (grid_in d t) (take n (p ++ drop n z))) → told r ≡ a
      → FileSays t s d o (x ++ drop (length_of r) o) r
  layer_done o x m b r i u v j l e =
      let g = grid_in d t in
      let k : layer_fault t s g ≡ 0 = sym told_lem.number ∙ i in
      let h = eq-eqb (layer_fault t s g) 0 k in
      let c = D.walked (read_tape s).tape g in
      let made_of : x ≡ file_in t g (take n (p ++ drop n z))
      = made (sided i) (f.back.size ∙ pixels i ∙ sym v) (length-take-le (length_of r) o j ∙ l) u in
      let drawn : p ≡ picture t g c.heights
      = f.says.pixels ∙ ap (λ v. written v (picture t g c.heights) (take n z)) (same ∙ k) in
      let file : x ≡ file_of g c.heights
      = made_of ∙ ap (file_in t g) (f.back.same ∙ drawn) ∙ file_of_lem t g c.heights (accepted d t (taken i)).kind in
      let size : (length_of r) ≡ length (file_of g c.heights) = l ∙ ap length (sym made_of ∙ file) in
      record { answer = rw e told_lem; size = rw h size; out = rw h (ap₂ (λ v m. v ++ drop m o) file size) }

-- The lengths of the files, as the code has them.
module _ (d : Grid) (q : List ℕ) (m n : ℕ) (e : length q ≡ n) where
  pub bitmap_length : n ≡ d.height * stride d.width → m ≡ length (head 52 d.width d.height) + n
      → m ≡ length (bitmap_file d.width d.height q)
  bitmap_length h k =
      k
      ∙ ap (λ v. length (head 52 d.width d.height) + v) (sym e)
      ∙ sym (length_bitmap d.width d.height q (e ∙ h))

  pub heights_length : m ≡ length (head 53 d.width d.height) + (6 + 2 * n)
      → m ≡ length (height_file d.width d.height q)
  heights_length k =
      k
      ∙ ap (λ v. length (head 53 d.width d.height) + (6 + 2 * v)) (sym e)
      ∙ sym (length_heights d.width d.height q)
