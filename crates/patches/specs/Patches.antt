-- Bytes of a flat picture that are set, and every other as it was.
use Rattle.std.specs.Prelude.{◌≡◌, List, ℕ, ◌+◌, ◌*◌, ◌<◌, ◌≤◌, get_or}
use Rattle.std.specs.Int.Bits.{bit_or}
use Rattle.rules.specs.Pictures.{stride}
use Rattle.picture.specs.Parts.{KeptOutside, ByteIn, Apart}

-- What a byte is set to, by its place: 0; the byte of another picture; its own joined with that bit by bit.
abbrev pub nothing : ℕ → ℕ
nothing i = 0

abbrev pub bytes_in : List ℕ → ℕ → ℕ
bytes_in o i = get_or o i 0

abbrev pub joined : List ℕ → List ℕ → ℕ → ℕ
joined b o i = bit_or (get_or b i 0) (get_or o i 0)

-- The bytes from one place to before another.
pub record BytesSet (from to : ℕ) (f : ℕ → ℕ) (b b' : List ℕ) : Type 0 where
  pub inside : (i : ℕ) → from ≤ i → i < to → get_or b' i 0 ≡ f i
  pub outside : KeptOutside from to b b'

-- The bytes of a part.
pub record PartSet (w x xend y yend : ℕ) (f : ℕ → ℕ) (b b' : List ℕ) : Type 0 where
  pub inside : (j c : ℕ) → c < stride w → ByteIn x xend y yend j c
      → get_or b' (j * stride w + c) 0 ≡ f (j * stride w + c)
  pub outside : Apart w x xend y yend b b'
