-- What a row of samples marks, by place, and the bits of a picture when bytes are stored: one by an `or`, whole bytes,
-- and so a row that is filled.
use mathlib.Core.Path.{◌≡◌, refl, sym, ap, ◌∙◌, subst}
use mathlib.Core.Bool.{Bool, true, false}
use mathlib.Core.List.{List, [], ◌∷◌, ◌++◌}
use Prim.Native.Nat.{ℕ, zero, suc, ◌+◌, ◌-◌, ◌*◌, ◌/◌, ◌%◌, ◌<◌, ◌≤◌, max}
use native.Mathlib.Nat.{add-sub_cancel_left, add_assoc, mul-le-mul_right}
use native.Mathlib.Numerals.{add-one}
use native.Mathlib.Omega.{arith}
use lib.Bits.{bit_or}
use lib.Dec.{eqb, ltb}
use lib.ListN.{length, get_or, set, replicate, length-set, length-replicate, get_or-replicate, replicate-append-replicate}
use lib.ListN.{get_or-append, get_or-eq_default, take, drop, take-append-drop, length-drop}
use lib.Seq.{length-take-le}
use borrow.Author.Fill.{fill_more}
use borrow.Rule.Slice.PartMut.{put_mid}
use Rattle.std.proofs.Common.{rules}
use Rattle.std.proofs.lemmas.List.{places, set-append_right}
use lib.Seq.{get_or-set_same, get_or-set_other, get_or-append-add}
use borrow.Author.Tests.{ltb-true, ltb-false, lt-ltb, le-ltb, eqb-true, eqb-false}
use Rattle.rules.specs.Values.{pick, when}
use Rattle.picture.specs.Bits.{bit, row_byte_from, mark_at, Marked}
use Rattle.picture.proofs.BitBytes.{bit_or_lem, row_byte_bits, first_in_lem}

-- What a row of samples marks.
pub mark_in_lem : (p i : ℕ) (bs : List Bool) → mark_at p bs (p + i) ≡ when (get_or bs i false) 1
unfolding mark_at
mark_in_lem p i bs = rw (le-ltb (p + i) p (omega arith), add-sub_cancel_left)

pub mark_before : (p q : ℕ) (bs : List Bool) → q < p → mark_at p bs q ≡ 0
unfolding mark_at
mark_before p q bs l = rw (lt-ltb q p l)

pub mark_past : (p q : ℕ) (bs : List Bool) → p + length bs ≤ q → mark_at p bs q ≡ 0
unfolding mark_at
mark_past p q bs l =
    rw (le-ltb q p (omega arith), get_or-eq_default bs false {n = q - p} (omega arith))

-- Places before a row, and those from its start on.
pub data Place (p q : ℕ) : Type 0 where
  before : q < p → Place p q
  after : (i : ℕ) → q ≡ p + i → Place p q

place_by : (p q : ℕ) (t : Bool) → ltb q p ≡ t → Place p q
place_by p q true e = before (ltb-true q p e)
place_by p q false e = after (q - p) (omega (arith, ltb-false q p e))

pub place : (p q : ℕ) → Place p q
place p q = place_by p q (ltb q p) refl

append_in : (p k : ℕ) (bs cs : List Bool)
    → when (get_or (bs ++ cs) (length bs + k) false) 1
    ≡ max (when (get_or bs (length bs + k) false) 1) (mark_at (p + length bs) cs (p + (length bs + k)))
append_in p k bs cs =
    let e : mark_at (p + length bs) cs (p + (length bs + k)) ≡ when (get_or cs k false) 1 =
    ap (mark_at (p + length bs) cs) (sym (add_assoc p (length bs) k)) ∙ mark_in_lem (p + length bs) k cs in
    let n : get_or bs (length bs + k) false ≡ false = get_or-eq_default bs false (omega arith) in
    rw (e, n, get_or-append-add) (omega arith)

append_at : (p i : ℕ) (bs cs : List Bool) → Place (length bs) i
    → when (get_or (bs ++ cs) i false) 1 ≡ max (when (get_or bs i false) 1) (mark_at (p + length bs) cs (p + i))
append_at p i bs cs (before l) =
    let e : mark_at (p + length bs) cs (p + i) ≡ 0 = mark_before (p + length bs) (p + i) cs (omega arith) in
    rw (get_or-append bs cs false i l, e) (omega arith)
append_at p i bs cs (after k e) = rw e (append_in p k bs cs)

append_by : (p q : ℕ) (bs cs : List Bool) → Place p q
    → mark_at p (bs ++ cs) q ≡ max (mark_at p bs q) (mark_at (p + length bs) cs q)
append_by p q bs cs (before l) =
    omega (
      arith,
      mark_before p q (bs ++ cs) l,
      mark_before p q bs l,
      mark_before (p + length bs) q cs (omega arith),
    )
append_by p q bs cs (after i e) =
    rw (e, mark_in_lem p i (bs ++ cs), mark_in_lem p i bs) (append_at p i bs cs (place (length bs) i))

pub mark_append : (p q : ℕ) (bs cs : List Bool)
    → mark_at p (bs ++ cs) q ≡ max (mark_at p bs q) (mark_at (p + length bs) cs q)
mark_append p q bs cs = append_by p q bs cs (place p q)

none_by : (p q : ℕ) → Place p q → mark_at p [] q ≡ 0
none_by p q (before l) = mark_before p q [] l
none_by p q (after i e) = mark_past p q [] (omega arith)

pub mark_none : (p q : ℕ) → mark_at p [] q ≡ 0
mark_none p q = none_by p q (place p q)

-- One sample.
off_by : (p q : ℕ) → Place p q → mark_at p (false ∷ []) q ≡ 0
off_by p q (before l) = mark_before p q (false ∷ []) l
off_by p q (after zero e) = rw e (mark_in_lem p 0 (false ∷ []))
off_by p q (after (suc i) e) = mark_past p q (false ∷ []) (omega arith)

pub mark_off : (p q : ℕ) → mark_at p (false ∷ []) q ≡ 0
mark_off p q = off_by p q (place p q)

apart_by : (p q : ℕ) (b : Bool) → (q ≡ p → ⊥) → Place p q → mark_at p (b ∷ []) q ≡ 0
apart_by p q b n (before l) = mark_before p q (b ∷ []) l
apart_by p q b n (after zero e) = absurd (n (omega arith))
apart_by p q b n (after (suc i) e) = mark_past p q (b ∷ []) (omega arith)

pub mark_apart : (p q : ℕ) (b : Bool) → (q ≡ p → ⊥) → mark_at p (b ∷ []) q ≡ 0
mark_apart p q b n = apart_by p q b n (place p q)

-- Where rows are v places long, a row of samples within row a marks there alone.
same_row : (v a d x : ℕ) (bs : List Bool) → Place d x → mark_at (a * v + d) bs (a * v + x) ≡ mark_at d bs x
same_row v a d x bs (before l) =
    mark_before (a * v + d) (a * v + x) bs (omega arith) ∙ sym (mark_before d x bs l)
same_row v a d x bs (after i e) =
    rw (e, ← add_assoc) (simp mark_in_lem)

place_by_row : (v a d y x : ℕ) (bs : List Bool) → x < v → d + length bs ≤ v → (t u : Bool) → eqb y a ≡ t → ltb y a ≡ u
    → mark_at (a * v + d) bs (y * v + x) ≡ pick t (mark_at d bs x) 0
place_by_row v a d y x bs l m true u e f = rw (eqb-true y a e) (same_row v a d x bs (place d x))
place_by_row v a d y x bs l m false true e f =
    mark_before (a * v + d) (y * v + x) bs (omega (arith, mul-le-mul_right v (ltb-true y a f)))
place_by_row v a d y x bs l m false false e f =
    let o : suc a ≤ y = omega (arith, ltb-false y a f, eqb-false y a e) in
    mark_past (a * v + d) (y * v + x) bs (omega (arith, mul-le-mul_right v o))

pub mark_place : (v a d y x : ℕ) (bs : List Bool) → x < v → d + length bs ≤ v
    → mark_at (a * v + d) bs (y * v + x) ≡ pick (eqb y a) (mark_at d bs x) 0
mark_place v a d y x bs l m = place_by_row v a d y x bs l m (eqb y a) (ltb y a) refl refl

-- Storing bytes, by the bits.
pub marked_none : (p : ℕ) (b : List ℕ) → Marked p [] b b
marked_none p b = record { size = refl; bits = λ j k l m. omega (arith, mark_none p (8 * j + k)) }

pub marked_more : (p : ℕ) (bs cs : List Bool) (b c d : List ℕ) → Marked p bs b c
    → Marked (p + length bs) cs c d → Marked p (bs ++ cs) b d
marked_more p bs cs b c d m n =
    record {
      size = n.size ∙ m.size;
      bits =
          λ j k l o.
          omega (arith, n.bits j k (omega (arith, m.size)) o, m.bits j k l o, mark_append p (8 * j + k) bs cs);
    }

-- One byte changed, at most 8 samples.
module _ (b b' : List ℕ) (at : ℕ) (bs : List Bool) (short : length bs ≤ 8) (size : length b' ≡ length b)
    (here : (k : ℕ) → k < 8
    → bit (7 - k) (get_or b' at 0) ≡ max (bit (7 - k) (get_or b at 0)) (when (get_or bs k false) 1))
    (other : (j : ℕ) → (j ≡ at → ⊥) → get_or b' j 0 ≡ get_or b j 0) where
  byte_by : (j k : ℕ) → k < 8 → (t : Bool) → eqb j at ≡ t
      → bit (7 - k) (get_or b' j 0) ≡ max (bit (7 - k) (get_or b j 0)) (mark_at (8 * at) bs (8 * j + k))
  byte_by j k o true q = rw (eqb-true j at q, mark_in_lem) (here k o)
  byte_by j k o false q =
      rw (other j (eqb-false j at q)) (omega (arith, apart (ltb j at) refl))
    where
      apart : (t : Bool) → ltb j at ≡ t → mark_at (8 * at) bs (8 * j + k) ≡ 0
      apart true r = mark_before (8 * at) (8 * j + k) bs (omega (arith, ltb-true j at r))
      apart false r =
          let d : at < j = omega (arith, ltb-false j at r, eqb-false j at q) in
          mark_past (8 * at) (8 * j + k) bs (omega arith)

  pub marked_byte : Marked (8 * at) bs b b'
  marked_byte = record { size = size; bits = λ j k m o. byte_by j k o (eqb j at) refl }

-- One byte stored.
marked_set : (b : List ℕ) (at v : ℕ) (bs : List Bool) → at < length b → length bs ≤ 8
    → ((k : ℕ) → k < 8 → bit (7 - k) v ≡ max (bit (7 - k) (get_or b at 0)) (when (get_or bs k false) 1))
    → Marked (8 * at) bs b (set b at v)
marked_set b at v bs l s e =
    marked_byte b (set b at v) at bs s (length-set b at v) (λ k o. rw get_or-set_same (e k o))
    (λ j n. get_or-set_other b at j v 0 n)

-- An `or` marks the samples of the byte joined.
pub marked_or : (b : List ℕ) (at v : ℕ) (bs : List Bool) → at < length b → length bs ≤ 8
    → ((k : ℕ) → k < 8 → bit (7 - k) v ≡ when (get_or bs k false) 1)
    → Marked (8 * at) bs b (set b at (bit_or (get_or b at 0) v))
marked_or b at v bs l s e =
    marked_set b at (bit_or (get_or b at 0) v) bs l s
    (λ k o. bit_or_lem (7 - k) (get_or b at 0) v ∙ ap (max (bit (7 - k) (get_or b at 0))) (e k o))

-- A whole byte of samples, 255, whatever was there.
pub marked_whole : (b : List ℕ) (at : ℕ) → at < length b → Marked (8 * at) (replicate 8 true) b (set b at 255)
unfolding row_byte_from
marked_whole b at l =
    marked_set b at 255 (replicate 8 true) l (omega arith)
    (λ k o.
    let e : get_or (replicate 8 true) k false ≡ true = get_or-replicate 8 k true false o in
    rw e (omega (arith, row_byte_bits k (replicate 8 true) o ∙ ap (λ t. when t 1) e)))

-- A row filled byte by byte, and then the first pixels of one more.
filled_more : (p m q : ℕ) (b c d : List ℕ) → Marked p (replicate m true) b c → Marked (p + m) (replicate q true) c d
    → Marked p (replicate (m + q) true) b d
filled_more p m q b c d k n =
    let l : p + m ≡ p + length (replicate m true) = omega (arith, length-replicate m true) in
    rw (← replicate-append-replicate m q true)
    (marked_more p (replicate m true) (replicate q true) b c d k (rw l at n))

pub fill_byte : (at i : ℕ) (b c : List ℕ) → at ≤ i → i < length c → Marked (8 * at) (replicate (8 * (i - at)) true) b c
    → Marked (8 * at) (replicate (8 * (i + 1 - at)) true) b (set c i 255)
fill_byte at i b c l o k =
    let p : 8 * i ≡ 8 * at + 8 * (i - at) = omega arith in
    let q : 8 * (i + 1 - at) ≡ 8 * (i - at) + 8 = omega arith in
    rw q
    (filled_more (8 * at) (8 * (i - at)) 8 b c (set c i 255) k
    (rw p at (marked_whole c i o)))

-- Whole bytes, lent as a part.
pub fill_bytes : (at n : ℕ) (b : List ℕ) → at + n ≤ length b
    → Marked (8 * at) (replicate (8 * n) true) b (put_mid at n b (replicate n 255))
fill_bytes at zero b l = subst (λ c. Marked (8 * at) [] b c) (sym (take-append-drop at b)) (marked_none (8 * at) b)
fill_bytes at (suc n) b l =
    let f = put_mid at n b (replicate n 255) in
    let long : length f ≡ length b = search (rules, places) in
    let p : n ≡ at + n - at = omega arith in
    let q : at + n + 1 - at ≡ n + 1 = omega arith in
    let k : Marked (8 * at) (replicate (8 * (at + n - at)) true) b f =
    subst (λ i. Marked (8 * at) (replicate (8 * i) true) b f) p (fill_bytes at n b (omega arith)) in
    let one : Marked (8 * at) (replicate (8 * (n + 1)) true) b (set f (at + n) 255) =
    subst (λ i. Marked (8 * at) (replicate (8 * i) true) b (set f (at + n) 255)) q
    (fill_byte at (at + n) b f (omega arith) (omega arith) k) in
    subst (λ i. Marked (8 * at) (replicate (8 * i) true) b (put_mid at i b (replicate i 255))) (add-one n)
    (rw more one)
  where
    more : put_mid at (n + 1) b (replicate (n + 1) 255) ≡ set (put_mid at n b (replicate n 255)) (at + n) 255
    more =
        let rest = drop at b in
        let room : n < length rest = omega (arith, length-drop {A = ℕ}) in
        let long : length (take at b) ≡ at = length-take-le at b (omega arith) in
        sym (set-append_right (take at b) (replicate n 255 ++ drop n rest) at (at + n) 255 long (omega arith)
        ∙ ap (λ i. take at b ++ set (replicate n 255 ++ drop n rest) i 255) (add-sub_cancel_left at n)
        ∙ ap (λ t. take at b ++ t) (fill_more n 255 rest room))

pub fill_last : (at count i v : ℕ) (b c : List ℕ) → 1 ≤ count → i ≡ at + (count - 1) / 8 → i < length c
    → ((k : ℕ) → k < 8 → bit (7 - k) v ≡ when (ltb k ((count - 1) % 8 + 1)) 1)
    → Marked (8 * at) (replicate (8 * (i - at)) true) b c
    → Marked (8 * at) (replicate count true) b (set c i (bit_or (get_or c i 0) v))
fill_last at count i v b c o e l m k =
    let r = (count - 1) % 8 + 1 in
    let p : 8 * i ≡ 8 * at + 8 * (i - at) = omega arith in
    let q : count ≡ 8 * (i - at) + r = omega arith in
    let s : length (replicate r true) ≤ 8 = omega (arith, length-replicate r true) in
    let n : Marked (8 * i) (replicate r true) c (set c i (bit_or (get_or c i 0) v)) =
    marked_or c i v (replicate r true) l s (λ j o. m j o ∙ ap (λ t. when t 1) (sym (first_in_lem r j))) in
    subst (λ x. Marked (8 * at) (replicate x true) b (set c i (bit_or (get_or c i 0) v))) (sym q)
    (filled_more (8 * at) (8 * (i - at)) r b c (set c i (bit_or (get_or c i 0) v)) k (rw p at n))
