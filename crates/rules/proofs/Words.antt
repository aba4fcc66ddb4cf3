-- Whole numbers as machine words: what is written is read back.
use mathlib.Core.Path.{◌≡◌, sym, ap, ◌∙◌}
use mathlib.Core.Bool.{Bool}
use lib.IntN.{ℤ}
use lib.Signed.{lt_z, mag}
use Prim.Native.Nat.{◌<◌, ◌^◌}
use mir.Syntax.{Width, w32, w64}
use mir.Val.{SFits, hbits, to_z, of_z}
use mir.Facts.{to_z-of_z, sfits_widen}

-- A number that went through a word, and one that went through a word of 32 bits and then one of 64.
abbrev pub read : Width → ℤ → ℤ
read w z = to_z w (of_z w z)

abbrev pub wide : ℤ → ℤ
wide z = read w64 (read w32 z)

pub read_wide : {z : ℤ} → SFits w32 z → wide z ≡ z
read_wide {z} f = ap (read w64) (to_z-of_z f) ∙ to_z-of_z {w = w64} (sfits_widen {w = w32} {w' = w64} {z = z} tt f)

pub read_fits : {z : ℤ} → SFits w32 z → SFits w64 (read w32 z)
read_fits {z} f = rw (to_z-of_z {w = w32} {z = z} f) (sfits_widen tt f)

-- A call's result, which lies in a word, with what the call ensures.
pub back : (w : Width) (r : ℤ) {s : ℤ} → mag r < 2 ^ hbits w → r ≡ s → read w r ≡ s
back w r h e = to_z-of_z {w = w} {z = r} (record { sfits = h }) ∙ e

pub both : {A B C : Type 0} (op : A → B → C) {x a : A} {y b : B} → x ≡ a → y ≡ b → op x y ≡ op a b
both op {x} {a} {y} {b} e h = ap (λ z. op z y) e ∙ ap (op a) h

-- A test of words is the test of the numbers.
pub tested : {w : Width} {u v : ℤ} {t : Bool} → SFits w u → SFits w v → lt_z (read w u) (read w v) ≡ t → lt_z u v ≡ t
tested {w} {u} {v} f g e = both lt_z (sym (to_z-of_z {w = w} {z = u} f)) (sym (to_z-of_z {w = w} {z = v} g)) ∙ e
