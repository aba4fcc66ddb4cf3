-- An entry's bytes: the verdict, the marks, and zeros behind them.
use mathlib.Core.Path.{◌≡◌, ap, ap₂, ◌∙◌}
use mathlib.Core.List.{List, ◌∷◌, ◌++◌}
use Prim.Native.Nat.{ℕ, suc, ◌-◌}
use lib.ListN.{length, set, replicate}
use borrow.Rule.Slice.PartMut.{put_mid}
use Rattle.std.proofs.lemmas.List.{drop-replicate}
use Rattle.table_rules.specs.Tables.{entry_length, mark_room, zeros, padded}

-- All clear, then the verdict, then the marks.
filled_at : (v m : ℕ) (ms : List ℕ)
    → put_mid 1 (length ms) (set (replicate (suc m) 0) 0 v) ms ≡ v ∷ (ms ++ replicate (m - length ms) 0)
filled_at v m ms = ap (λ r. v ∷ (ms ++ r)) (drop-replicate (length ms) m 0)

pub entry_filled : (v : ℕ) (ms b c : List ℕ) (n k : ℕ) → b ≡ replicate n 0 → n ≡ entry_length → c ≡ ms → k ≡ length ms
    → put_mid 1 k (set b 0 v) c ≡ v ∷ padded ms
unfolding zeros
entry_filled v ms b c n k e l f h =
    ap₂ (λ i r. put_mid 1 i (set r 0 v) c) h (e ∙ ap (λ i. replicate i 0) l)
    ∙ ap (put_mid 1 (length ms) (set (replicate (suc mark_room) 0) 0 v)) f
    ∙ filled_at v mark_room ms
