-- The table's head as it is written, and two lists of bytes compared.
use mathlib.Core.Path.{◌≡◌, refl, sym, ap, ap₂, ◌∙◌}
use mathlib.Core.Bool.{Bool}
use mathlib.Core.List.{List, [], ◌∷◌, ◌++◌, append-nil, append_assoc}
use lib.IntN.{ℤ, pos}
use Prim.Native.Nat.{ℕ, ◌+◌, ◌-◌, ◌*◌, ◌/◌, ◌%◌, ◌≤◌}
use native.Mathlib.Omega.{arith}
use lib.Dec.{eqb}
use lib.ListN.{length, take, drop, replicate, length-append, length-replicate, length-drop, replicate-append-replicate}
use lib.Seq.{sets, sets-eq, drop-length, take_all, take_at, drop_at, length-take-le}
use borrow.Author.Rules.{rules}
use Rattle.std.specs.Cmp.Lexicographic.{pointwise}
use Rattle.std.proofs.lemmas.Bool.Decides.{same_from_decides, Decides-eqb}
use Rattle.std.proofs.lemmas.Slice.Eq.{slice_eq-Decides, compares_Decides}
use Rattle.rules.specs.Tapes.{two, four}
use Rattle.rules.specs.Drawings.{Grid}
use Rattle.program_rules.specs.Program.{record_length, grid_bytes}
use Rattle.tape.proofs.WrittenBytes.{and_then, four_runs}
use Rattle.table_rules.specs.Tables.{tape_room, head_length, entry_length, tile_limit, table_length, zeros, flat_grid}
use Rattle.table_rules.specs.Tables.{table_head, begun, same_bytes}
use Rattle.table_rules.proofs.Heads.{zeros_size, head_size}
use Rattle.verdicts.specs.Records.{size_bytes, three_bytes}

pub sizes_stored : (l o₁ o₂ o₃ o₄ : List ℕ) (w h : ℕ) → o₁ ≡ sets l 0 (71 ∷ (82 ∷ [])) → o₂ ≡ sets o₁ 2 (two w)
    → o₃ ≡ sets o₂ 4 (two h) → o₄ ≡ sets o₃ 6 (two 0) → o₄ ≡ sets l 0 (size_bytes w h)
sizes_stored l o₁ o₂ o₃ o₄ w h p q r s =
    four_runs l o₁ o₂ o₃ o₄ 0 2 4 6 71 82 (w % 256) (w / 256 % 256) (h % 256) (h / 256 % 256) (two 0) refl refl refl
    p q r s

pub three_stored : (l o₁ o₂ o₃ : List ℕ) (i : ℕ) (x y z x' y' z' : ℤ) → x' ≡ x → y' ≡ y → z' ≡ z
    → o₁ ≡ sets l i (four x') → o₂ ≡ sets o₁ (i + 4) (four y') → o₃ ≡ sets o₂ (i + 8) (four z')
    → o₃ ≡ sets l i (three_bytes x y z)
three_stored l o₁ o₂ o₃ i x y z x' y' z' a b c p q r =
    let e = and_then l o₁ o₂ (four x') (four y') i (i + 4) p q refl in
    and_then l o₂ o₃ (four x' ++ four y') (four z') i (i + 8) e r refl
    ∙ ap (λ v. sets l i (three_bytes v y' z')) a ∙ ap (λ v. sets l i (three_bytes x v z')) b
    ∙ ap (λ v. sets l i (three_bytes x y v)) c

-- The whole record.
record_bytes : (g : Grid) → size_bytes g.width g.height
    ++ (three_bytes g.origin_x g.origin_y g.origin_z ++ three_bytes g.step_x g.step_y (pos 0))
    ≡ grid_bytes (flat_grid g)
unfolding grid_bytes
record_bytes g = refl

over_all : (l vs : List ℕ) → length vs ≡ length l → sets l 0 vs ≡ vs
over_all l vs e =
    sets-eq vs l 0 (omega arith)
    ∙ ap (λ r. vs ++ r) (ap (λ k. drop k l) (zero_plus (length vs) ∙ e) ∙ drop-length l) ∙ append-nil vs
  where
    zero_plus : (k : ℕ) → 0 + k ≡ k
    zero_plus k = omega arith

pub record_stored : (g : Grid) (l o₁ o₂ o₃ : List ℕ) (x y z a b : ℤ) → length l ≡ record_length
    → x ≡ g.origin_x → y ≡ g.origin_y → z ≡ g.origin_z → a ≡ g.step_x → b ≡ g.step_y
    → o₁ ≡ sets l 0 (size_bytes g.width g.height) → o₂ ≡ sets o₁ 8 (three_bytes x y z)
    → o₃ ≡ sets o₂ 20 (three_bytes a b (pos 0)) → o₃ ≡ grid_bytes (flat_grid g)
record_stored g l o₁ o₂ o₃ x y z a b n ex ey ez ea eb p q r =
    let vs = size_bytes g.width g.height in
    let us = three_bytes x y z in
    let ws = three_bytes a b (pos 0) in
    let e = and_then l o₁ o₂ vs us 0 8 p q refl in
    and_then l o₂ o₃ (vs ++ us) ws 0 20 e r refl
    ∙ over_all l (vs ++ (us ++ ws)) (sym n)
    ∙ cc (ex, ey, ez, ea, eb, record_bytes g)

-- Bytes o written over all that stands behind p.
over_end : (p q o : List ℕ) (a k : ℕ) → length p ≡ a → k ≡ length (p ++ q) - a
    → take a (p ++ q) ++ (o ++ drop k (drop a (p ++ q))) ≡ p ++ o
over_end p q o a k l e =
    let m : k ≡ length q = omega (arith, length-append p q) in
    ap₂ (λ u v. u ++ (o ++ drop k v)) (take_at p q a l) (drop_at p q a l)
    ∙ ap (λ r. p ++ (o ++ r)) (ap (λ j. drop j q) m ∙ drop-length q) ∙ ap (λ r. p ++ r) (append-nil o)

-- The head: all clear, the tape in front, and the record over the last bytes. Here a room is r long in n bytes.
zeros_behind : (s : List ℕ) (n r k : ℕ) → length s ≤ r → n ≡ r + k
    → take (length s) s ++ drop (length s) (replicate n 0) ≡ (s ++ zeros (r - length s)) ++ replicate k 0
unfolding zeros
zeros_behind s n r k h e =
    let a = length s in
    let m : n ≡ a + (r - a + k) = omega arith in
    ap₂ (λ u v. u ++ v) (take_all a s (omega arith))
    (ap (λ j. drop a (replicate j 0)) m
    ∙ ap (drop a) (sym (replicate-append-replicate a (r - a + k) 0))
    ∙ drop_at (replicate a 0) (replicate (r - a + k) 0) a (length-replicate a 0)
    ∙ sym (replicate-append-replicate (r - a) k 0))
    ∙ sym (append_assoc s (replicate (r - a) 0) (replicate k 0))

room_size : (s : List ℕ) → length s ≤ tape_room → length (s ++ zeros (tape_room - length s)) ≡ tape_room
room_size s h = omega (arith, length-append s (zeros (tape_room - length s)), zeros_size (tape_room - length s))

pub head_written : (s b c o : List ℕ) (g : Grid) (n k : ℕ) → n ≡ head_length → length s ≤ tape_room
    → b ≡ replicate n 0 → c ≡ take (length s) s ++ drop (length s) b → k ≡ length c - tape_room
    → o ≡ grid_bytes (flat_grid g) → take tape_room c ++ (o ++ drop k (drop tape_room c)) ≡ table_head s g
unfolding table_head
head_written s b c o g n k en h eb ec ek eo =
    let m = ec ∙ ap (λ x. take (length s) s ++ drop (length s) x) eb
    ∙ zeros_behind s n tape_room (n - tape_room) h (omega arith) in
    ap (λ x. take tape_room x ++ (o ++ drop k (drop tape_room x))) m
    ∙ over_end (s ++ zeros (tape_room - length s)) (replicate (n - tape_room) 0) o tape_room k (room_size s h)
    (ek ∙ ap (λ x. length x - tape_room) m)
    ∙ ap (λ u. (s ++ zeros (tape_room - length s)) ++ u) eo
    ∙ append_assoc s (zeros (tape_room - length s)) (grid_bytes (flat_grid g))

-- A table newly begun: the head, and zeros behind it.
zeros_are : (n : ℕ) → replicate n 0 ≡ zeros n
unfolding zeros
zeros_are n = refl

pub begun_written : (s h t z : List ℕ) (g : Grid) (k n : ℕ) → length s ≤ tape_room → length t ≡ table_length
    → h ≡ table_head s g → z ≡ replicate n 0 → k ≡ length (h ++ drop head_length t) - head_length
    → n ≡ length (take k (drop head_length (h ++ drop head_length t)))
    → take head_length (h ++ drop head_length t) ++ (z ++ drop k (drop head_length (h ++ drop head_length t))) ≡ begun s g
unfolding begun
begun_written s h t z g k n l lt eh ez ek en =
    let d = drop head_length t in
    let lh : length h ≡ head_length = ap length eh ∙ head_size s g l in
    let ld : length d ≡ tile_limit * entry_length = omega (arith, length-drop head_length t) in
    let kd : k ≡ length d = omega (arith, length-append h d) in
    let m : n ≡ tile_limit * entry_length =
    en ∙ ap (λ x. length (take k x)) (drop_at h d head_length lh) ∙ length-take-le k d (omega arith) ∙ kd ∙ ld in
    over_end h d z head_length k lh ek ∙ ap₂ (λ u v. u ++ v) eh (ez ∙ zeros_are n ∙ ap zeros m)

-- What a comparison of bytes says.
pub same_told : (a b : List ℕ) (r : Bool) → r ≡ pointwise eqb a b → r ≡ same_bytes a b
unfolding same_bytes
same_told a b r e =
    same_from_decides r (same_bytes a b) (slice_eq-Decides Decides-eqb a b r e) (compares_Decides same_bytes (search rules) a b)
