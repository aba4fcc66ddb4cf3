-- What the proofs about roots share: lemmas on plain numbers.
mod Squares
