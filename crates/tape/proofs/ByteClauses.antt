-- The clauses of a tape's bytes: the signed constant, the clause at a place and those after it.
use mathlib.Core.Path.{◌≡◌, refl, sym, ap, ap₂, ◌∙◌}
use mathlib.Core.Bool.{Bool, true, false}
use mathlib.Core.List.{List, [], ◌∷◌}
use Prim.Native.Nat.{ℕ, zero, suc, ◌+◌, ◌-◌, ◌*◌, ◌≤◌, ◌<◌}
use native.Mathlib.Nat.{add-zero}
use native.Mathlib.Omega.{arith}
use native.Mathlib.Numerals.{add-one}
use lib.Dec.{ltb}
use lib.IntN.{ℤ, pos, negsuc}
use lib.ListN.{get_or, drop}
use lib.Seq.{get_or-drop, drop-drop}
use mir.Syntax.{w32}
use mir.Val.{sel, to_z}
use Rattle.rules.specs.Values.{pick}
use Rattle.rules.specs.Tapes.{Raw, word, signed4, mark_ok, raw_in, raws_from}
use Rattle.tape.specs.Clauses.{marked}
use Rattle.tape.proofs.FieldValues.{raw, kept, small, kept_is}

-- A number below the half, as an operation reads it.
abbrev pub read : ℕ → ℤ
read v = to_z w32 v

read_is : (v : ℕ) → v < 2147483648 → read v ≡ pos v
read_is v h = kept_is (pos v) h

abbrev signed_of : ℕ → ℤ
signed_of v = pick (ltb v 2147483648) (pos v) (negsuc (4294967295 - v))

-- A constant as the library reads its four bytes.
cast_bits : (v : ℕ) → to_z w32 v ≡ signed_of v
cast_bits v = go (ltb v 2147483648) (4294967296 - suc v) (4294967295 - v) (omega arith)
  where
    go : (t : Bool) (a b : ℕ) → a ≡ b → sel t (pos v) (negsuc a) ≡ pick t (pos v) (negsuc b)
    go true a b e = refl
    go false a b e = ap negsuc e

pub constant_is : (s : List ℕ) (i v : ℕ) → v ≡ word i s + 65536 * word (i + 2) s → to_z w32 v ≡ signed4 i s
unfolding signed4
constant_is s i v e = cast_bits v ∙ ap signed_of e

pub word_is : (s : List ℕ) (i a b : ℕ) → a ≡ get_or s i 0 → b ≡ get_or s (i + 1) 0 → a + 256 * b ≡ word i s
word_is s i a b p q = rw (p, q, add-one)

pub four_bytes : (s : List ℕ) (i : ℕ)
    → get_or s i 0 + get_or s (i + 1) 0 * 256 + get_or s (i + 2) 0 * 65536 + get_or s (i + 3) 0 * 16777216
    ≡ word i s + 65536 * word (i + 2) s
four_bytes s i =
    let p : get_or s (i + 1) 0 ≡ get_or s (suc i) 0 = ap (λ k. get_or s k 0) (add-one i) in
    let e : i + 3 ≡ suc (i + 2) = omega arith in
    let q : get_or s (i + 3) 0 ≡ get_or s (suc (i + 2)) 0 = ap (λ k. get_or s k 0) e in
    omega (arith, p, q)

-- The bytes of a part are those of the whole, further on.
byte_on : (s : List ℕ) (i k : ℕ) → get_or (drop i s) k 0 ≡ get_or s (i + k) 0
byte_on s i k = get_or-drop i s k 0

word_on : (s : List ℕ) (i k : ℕ) → word k (drop i s) ≡ word (i + k) s
word_on s i k =
    let e : i + suc k ≡ suc (i + k) = omega arith in
    cc (byte_on s i k, byte_on s i (suc k), ap (λ x. get_or s x 0) e)

signed_on : (s : List ℕ) (i k : ℕ) → signed4 k (drop i s) ≡ signed4 (i + k) s
unfolding signed4
signed_on s i k =
    let e : i + (k + 2) ≡ i + k + 2 = omega arith in
    ap₂ (λ x y. signed_of (x + 65536 * y)) (word_on s i k) (word_on s i (k + 2) ∙ ap (λ x. word x s) e)

-- One clause, field by field.
same_raw : (a b c d e v w x y z : ℤ) → a ≡ v → b ≡ w → c ≡ x → d ≡ y → e ≡ z → raw a b c d e ≡ raw v w x y z
same_raw a b c d e v w x y z p q r s t = cc

module _ (s : List ℕ) (i : ℕ) where
  mark_on : marked i s (67 ∷ (76 ∷ [])) ≡ mark_ok (drop i s)
  mark_on = cc (byte_on s i 0, byte_on s i 1, ap (λ x. get_or s x 0) (add-zero i))

  pub opcode_marked : (b : ℕ) → marked i s (67 ∷ (76 ∷ [])) ≡ true → b ≡ get_or s (i + 2) 0 → b < 256
      → read b ≡ (raw_in (drop i s)).opcode
  unfolding raw_in
  opcode_marked b m e l =
      let k : mark_ok (drop i s) ≡ true = sym mark_on ∙ m in
      read_is b (omega arith) ∙ ap pos (e ∙ sym (byte_on s i 2)) ∙ rw k

  pub opcode_unmarked : marked i s (67 ∷ (76 ∷ [])) ≡ false → pos 255 ≡ (raw_in (drop i s)).opcode
  unfolding raw_in
  opcode_unmarked m = let k : mark_ok (drop i s) ≡ false = sym mark_on ∙ m in rw k

  byte_is : (b k : ℕ) → b ≡ get_or s (i + k) 0 → b < 256 → read b ≡ pos (get_or (drop i s) k 0)
  byte_is b k e l = read_is b (omega arith) ∙ ap pos (e ∙ sym (byte_on s i k))

  pub raw_is : (o e : ℤ) (b c d : ℕ) → small o → small e → o ≡ (raw_in (drop i s)).opcode
      → (b ≡ get_or s (i + 3) 0) × (b < 256)
      → (c ≡ get_or s (i + 4) 0) × (c < 256) → (d ≡ get_or s (i + 5) 0) × (d < 256) → e ≡ signed4 (i + 6) s
      → raw (kept o) (read b) (read c) (read d) (kept e) ≡ raw_in (drop i s)
  unfolding raw_in
  raw_is o e b c d ho he po pb pc pd pe =
      same_raw _ _ _ _ _ _ _ _ _ _ (kept_is o ho ∙ po) (byte_is b 3 pb.0 pb.1) (byte_is c 4 pc.0 pc.1)
      (byte_is d 5 pd.0 pd.1) (kept_is e he ∙ pe ∙ sym (signed_on s i 6))

-- As the walk over them goes: what is left from the i-th on of a tape of k clauses, from one to the next, to the end.
abbrev pub left_from : List ℕ → ℕ → ℕ → List Raw
left_from s k i = raws_from (k - i) (drop (8 + 10 * i) s)

module _ (s : List ℕ) (k : ℕ) where
  pub raws_first : raws_from k (drop 8 s) ≡ left_from s k 0
  raws_first = let e : k ≡ k - 0 = omega arith in ap (λ x. raws_from x (drop 8 s)) e

  pub raws_here : (i : ℕ) → i < k → left_from s k i ≡ raw_in (drop (8 + 10 * i) s) ∷ left_from s k (i + 1)
  unfolding raws_from
  raws_here i h =
      let e : k - i ≡ suc (k - (i + 1)) = omega arith in
      let d : 8 + 10 * i + 10 ≡ 8 + 10 * (i + 1) = omega arith in
      rw e
      (ap (λ r. raw_in (drop (8 + 10 * i) s) ∷ raws_from (k - (i + 1)) r)
      (drop-drop 10 (8 + 10 * i) s ∙ ap (λ x. drop x s) d))

  pub raws_over : (i : ℕ) → k ≤ i → left_from s k i ≡ []
  unfolding raws_from
  raws_over i h = let e : k - i ≡ 0 = omega arith in rw e

  -- What is left from the i-th on is what the clauses read before it leave.
  pub raws_left : (i : ℕ) → i ≤ k → drop i (raws_from k (drop 8 s)) ≡ left_from s k i
  raws_left zero h = raws_first
  raws_left (suc i) h =
      let one : i + 1 ≡ suc i = omega arith in
      let here : drop i (raws_from k (drop 8 s)) ≡ raw_in (drop (8 + 10 * i) s) ∷ left_from s k (i + 1) =
      raws_left i (omega arith) ∙ raws_here i (omega arith) in
      ap (λ x. drop x (raws_from k (drop 8 s))) (sym one)
      ∙ sym (drop-drop 1 i (raws_from k (drop 8 s)))
      ∙ ap (drop 1) here
      ∙ ap (left_from s k) one
