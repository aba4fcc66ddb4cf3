-- The sides of a file's picture, the lengths of a file, and what a call promises, case by case.
use mathlib.Core.Path.{◌≡◌, refl, sym, ap, ◌∙◌}
use mathlib.Core.Bool.{Bool, true, false, not}
use mathlib.Core.List.{List, ◌∷◌}
use Prim.Native.Nat.{ℕ, suc, ◌+◌, ◌*◌, ◌≤◌, ◌<◌}
use native.Mathlib.Nat.{mul-le-mul}
use native.Mathlib.Omega.{arith}
use lib.Dec.{leb, eqb}
use lib.ListN.{length, length-append}
use borrow.Author.Tests.{leb-true, eqb-true, ne_eqb, not-true, not-false}
use Rattle.rules.specs.Drawings.{size_ok}
use Rattle.rules.specs.Pictures.{stride, sides_ok, decimal, head, clean_rows, bitmap_file, high_first, height_file}
use Rattle.rules.specs.Pictures.{digits_from}
use Rattle.rules.proofs.Order.{and_left, and_right}
use Rattle.netpbm.specs.FileParts.{sizes}
use Rattle.netpbm.specs.Files.{sizes_fault, FileWith}
use Rattle.promises.specs.Faults.{file_fault}
use Rattle.faults.specs.declared.Fault.{Fault}
use Rattle.faults.specs.Numbers.{number_of}
use Rattle.faults.proofs.NumberLaws.{some_number}
use Rattle.netpbm.proofs.Digits.{few_digits}
use Rattle.netpbm.proofs.FileRows.{length_clean_rows, length_high_first}

-- What the test of a call's result says of what the result is.
pub told_false : {r b : Bool} → r ≡ b → not r ≡ true → b ≡ false
told_false {r} e t = sym e ∙ not-true r t

pub told_true : {r b : Bool} → r ≡ b → not r ≡ false → b ≡ true
told_true {r} e t = sym e ∙ not-false r t

pub record Sides (w h : ℕ) : Type 0 where
  pub width_least : 1 ≤ w
  pub width_most : w ≤ 512
  pub height_least : 1 ≤ h
  pub height_most : h ≤ 512

pub sides_right : (w h : ℕ) → sides_ok w h ≡ true → Sides w h
sides_right w h e =
    let x = and_left (size_ok w) (size_ok h) e in
    let y = and_right (size_ok w) (size_ok h) e in
    record {
      width_least = leb-true 1 w (and_left (leb 1 w) (leb w 512) x);
      width_most = leb-true w 512 (and_right (leb 1 w) (leb w 512) x);
      height_least = leb-true 1 h (and_left (leb 1 h) (leb h 512) y);
      height_most = leb-true h 512 (and_right (leb 1 h) (leb h 512) y);
    }

-- How long the rows are at most.
pub most_heights : {w h : ℕ} → Sides w h → w * h ≤ 262144
most_heights s = mul-le-mul s.width_most s.height_most

pub most_bytes : {w h : ℕ} → Sides w h → h * stride w ≤ 32768
most_bytes {w} {h} s =
    let row : stride w ≤ 64 = omega arith in
    mul-le-mul s.height_most row

-- The head is a mark of three bytes and the line of sizes.
pub length_sizes : (w h : ℕ) → length (sizes w h) ≡ length (decimal w) + length (decimal h) + 2
length_sizes w h = simp length-append (omega arith)

pub length_head : (k w h : ℕ) → length (head k w h) ≡ 5 + length (decimal w) + length (decimal h)
unfolding head
length_head k w h = omega (arith, length_sizes w h)

pub short_head : (k w h : ℕ) → w < 1000 → h < 1000 → length (head k w h) ≤ 11
short_head k w h i j = omega (arith, length_head k w h, few_digits w i, few_digits h j)

pub length_bitmap : (w h : ℕ) (p : List ℕ) → length p ≡ h * stride w → length (bitmap_file w h p)
    ≡ length (head 52 w h) + length p
unfolding bitmap_file
length_bitmap w h p e = length-append (head 52 w h) (clean_rows h w p) ∙ ap (λ n. length (head 52 w h) + n)
    (length_clean_rows h w p e)

pub length_heights : (w h : ℕ) (p : List ℕ) → length (height_file w h p) ≡ length (head 53 w h) + (6 + 2 * length p)
unfolding height_file digits_from
length_heights w h p =
    length-append (head 53 w h) (54 ∷ (53 ∷ (53 ∷ (51 ∷ (53 ∷ (10 ∷ high_first p))))))
    ∙ ap (λ n. length (head 53 w h) + suc (suc (suc (suc (suc (suc n)))))) (length_high_first p)
    ∙ omega arith

-- The tests one after another: none refuses, and what does not matter to those that do.
pub passes : (w h g n r s : ℕ) → 0 ≡ sizes_fault w h g n r s → (sides_ok w h ≡ true) × (g ≡ n) × (r ≡ s)
passes w h g n r s e = by (sides_ok w h) (eqb g n) (eqb r s) refl refl refl
  where
    by : (t u v : Bool) → sides_ok w h ≡ t → eqb g n ≡ u → eqb r s ≡ v → (sides_ok w h ≡ true) × (g ≡ n) × (r ≡ s)
    by true true true a b d = (a, eqb-true g n b, eqb-true r s d)
    by true true false a b d = absurd (omega (arith, rw (a, b, d) at e))
    by true false v a b d = absurd (omega (arith, rw (a, b) at e))
    by false u v a b d = absurd (omega (arith, rw a at e))

-- What the tests leave, where none refuses.
pub record Room (w h g n r rest : ℕ) : Type 0 where
  pub sides : Sides w h
  pub picture : g ≡ n
  pub output : r ≡ 5 + length (decimal w) + length (decimal h) + rest

pub roomy : (k w h g n r rest : ℕ) → 0 ≡ sizes_fault w h g n r (length (head k w h) + rest) → Room w h g n r rest
roomy k w h g n r rest e =
    let t = passes w h g n r (length (head k w h) + rest) e in
    record { sides = sides_right w h t.0; picture = t.1; output = omega (arith, t.2, length_head k w h) }

pub as_long : (w h g n r s t : ℕ) → (g ≡ n → s ≡ t) → sizes_fault w h g n r s ≡ sizes_fault w h g n r t
as_long w h g n r s t f = by (eqb g n) refl
  where
    by : (u : Bool) → eqb g n ≡ u → sizes_fault w h g n r s ≡ sizes_fault w h g n r t
    by true e = ap (sizes_fault w h g n r) (f (eqb-true g n e))
    by false e = rw e

module _ {w h n : ℕ} {p b o : List ℕ} where
  pub file_refused : (f : Fault) → number_of f ≡ file_fault w h n p b o → FileWith w h n p b o o (number_of f)
  file_refused f e =
      let k = ne_eqb (file_fault w h n p b o) 0 (λ z. some_number f (e ∙ z)) in
      record { number = e; bytes = rw k refl }

  pub file_made : {o' : List ℕ} → 0 ≡ file_fault w h n p b o → o' ≡ b → FileWith w h n p b o o' 0
  file_made e q = record { number = e; bytes = rw (sym e) q }
