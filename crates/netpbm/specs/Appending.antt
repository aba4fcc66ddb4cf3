-- What a function promises that writes bytes behind those already written.
use Rattle.std.specs.Prelude.{◌≡◌, List, ◌++◌, ℕ, ◌+◌, length, take, drop}

-- With the first `from` bytes of o written, s comes next: r is where the bytes after s go, which are as they were.
pub record Appends (o : List ℕ) (from : ℕ) (s o' : List ℕ) (r : ℕ) : Type 0 where
  pub next : r ≡ from + length s
  pub front : take r o' ≡ take from o ++ s
  pub size : length o' ≡ length o
  pub rest : drop r o' ≡ drop r o
