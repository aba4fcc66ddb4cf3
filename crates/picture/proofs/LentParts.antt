-- A part of a list that is lent and put back: a write in it is a write in the whole, its values are those of the whole,
-- and the others are as they were.
use Rattle.std.proofs.Common.{◌≡◌, ap, sym, ◌∙◌, refl, Bool, true, false, List, ◌++◌, ℕ, ◌+◌, ◌-◌, ◌≤◌, ◌<◌, arith, length, get_or, set, take, rules}
use Rattle.std.proofs.lemmas.List.{get_or-append_right, get_or_append_left, set-append_left, set-append_right, places}
use lib.Dec.{ltb}
use lib.Seq.{length-take-le}
use native.Mathlib.Nat.{add-sub_cancel_left}
use borrow.Author.Tests.{ltb-true, ltb-false}
use borrow.Rule.Slice.PartMut.{put_mid, post_of}
use Rattle.picture.specs.Parts.{KeptOutside}

module _ (a k : ℕ) (xs s : List ℕ) where
  module _ (j : ℕ) (room : a ≤ length xs) (l : j < length s) where
    pub set_part : (v : ℕ) → put_mid a k xs (set s j v) ≡ set (put_mid a k xs s) (a + j) v
    set_part v =
        let n : length (take a xs) ≡ a = length-take-le a xs room in
        sym (set-append_right (take a xs) (s ++ post_of a k xs) a (a + j) v n (omega arith)
        ∙ ap (λ i. take a xs ++ set (s ++ post_of a k xs) i v) (add-sub_cancel_left a j)
        ∙ ap (λ t. take a xs ++ t) (set-append_left s (post_of a k xs) j v l))

    pub get_part : get_or (put_mid a k xs s) (a + j) 0 ≡ get_or s j 0
    get_part =
        let n : length (take a xs) ≡ a = length-take-le a xs room in
        get_or-append_right (take a xs) (s ++ post_of a k xs) a (a + j) 0 n (omega arith)
        ∙ ap (λ i. get_or (s ++ post_of a k xs) i 0) (add-sub_cancel_left a j)
        ∙ get_or_append_left s (post_of a k xs) 0 j l

  pub kept_part : (to : ℕ) → a + k ≡ to → to ≤ length xs → length s ≡ k → KeptOutside a to xs (put_mid a k xs s)
  kept_part to z room l = record { bytes = λ i o. at i o (ltb i a) refl }
    where
      n : length (take a xs) ≡ a
      n = length-take-le a xs (omega arith)

      at : (i : ℕ) → (a ≤ i → i < to → ⊥) → (t : Bool) → ltb i a ≡ t → get_or (put_mid a k xs s) i 0 ≡ get_or xs i 0
      at i o true e =
          let m = ltb-true i a e in
          get_or_append_left (take a xs) (s ++ post_of a k xs) 0 i (omega (arith, n, m)) ∙ search (rules, places)
      at i o false e =
          let m = ltb-false i a e in
          let past : a + k ≤ i = by (ltb i to) refl in
          let p : i ≡ a + (k + (i - (a + k))) = omega arith in
          get_or-append_right (take a xs) (s ++ post_of a k xs) a i 0 n m
          ∙ get_or-append_right s (post_of a k xs) k (i - a) 0 l (omega arith)
          ∙ search (rules, places)
        where
          by : (t : Bool) → ltb i to ≡ t → a + k ≤ i
          by true f = absurd (o (ltb-false i a e) (ltb-true i to f))
          by false f = omega (arith, ltb-false i to f)
