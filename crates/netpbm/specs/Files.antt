-- What the two functions promise that make a file's bytes from a picture.
use Rattle.std.specs.Prelude.{◌≡◌, List, [], ◌∷◌, ℕ, ◌*◌, eqb, not}
use Rattle.rules.specs.Values.{pick, when, first_fault}
use Rattle.rules.specs.Pictures.{stride, sides_ok, bitmap_file, height_file}
use Rattle.promises.specs.Faults.{file_fault}

-- The refusal of a file by its sides and the lengths of the picture and the output, as given and as they must be.
abbrev pub sizes_fault : ℕ → ℕ → ℕ → ℕ → ℕ → ℕ → ℕ
sizes_fault w h given wanted room size =
    first_fault
    (when (not (sides_ok w h)) 10 ∷ (when (not (eqb given wanted)) 12 ∷ (when (not (eqb room size)) 14 ∷ [])))

-- "A number other than 0 has .. every lent byte unchanged. A 0 overwrites the whole picture or output"; n is the picture's
-- length as it must be, b the file.
pub record FileWith (w h n : ℕ) (p b o o' : List ℕ) (r : ℕ) : Type 0 where
  pub number : r ≡ file_fault w h n p b o
  pub bytes : o' ≡ pick (eqb (file_fault w h n p b o) 0) b o

abbrev pub BitmapSays : ℕ → ℕ → List ℕ → List ℕ → List ℕ → ℕ → Type 0
BitmapSays w h p o o' r = FileWith w h (h * stride w) p (bitmap_file w h p) o o' r

abbrev pub HeightsSay : ℕ → ℕ → List ℕ → List ℕ → List ℕ → ℕ → Type 0
HeightsSay w h p o o' r = FileWith w h (w * h) p (height_file w h p) o o' r
