-- Chunks of four bytes as numbers. Assumes nothing.
use Rattle.std.proofs.Common.{◌≡◌, ℕ, zero, suc, ◌+◌, ◌*◌, ◌/◌, ◌<◌, List, map, length, take, drop, get_or, refl, ap, ◌∙◌, w32, lit<, arith}
use Rattle.std.specs.Int.{from_le_bytes}
use Rattle.std.specs.List.{range_with_len}
use Rattle.std.specs.Simd.{first_chunks}
use Rattle.std.proofs.lemmas.List.{get_or-take, get_or-drop, drop-drop}
use Rattle.formats.specs.Input.{number_at, numbers_in}

-- the number in four bytes, written out
number_in : (bs : List ℕ) → from_le_bytes w32 bs ≡ get_or bs 0 0 + get_or bs 1 0 * 256 + get_or bs 2 0 * 65536 + get_or bs 3 0 * 16777216
number_in bs = refl

module _ (bytes : List ℕ) where
  -- a byte of the chunk of that number
  byte : (i j at : ℕ) → j < 4 → 4 * i + j ≡ at → get_or (take 4 (drop (4 * i) bytes)) j 0 ≡ get_or bytes at 0
  byte i j at h e = get_or-take 4 (drop (4 * i) bytes) j 0 h ∙ get_or-drop (4 * i) bytes j 0 ∙ ap (λ n. get_or bytes n 0) e

  -- the number in the chunk of that number
  number_of : (i : ℕ) → from_le_bytes w32 (take 4 (drop (4 * i) bytes)) ≡ number_at bytes i
  number_of i =
      let a = byte i 0 (4 * i) (lit< tt) (omega arith) in
      let b = byte i 1 (4 * i + 1) (lit< tt) refl in
      let c = byte i 2 (4 * i + 2) (lit< tt) refl in
      let d = byte i 3 (4 * i + 3) (lit< tt) refl in
      number_in (take 4 (drop (4 * i) bytes)) ∙ omega arith

  -- the numbers in so many chunks from one on
  numbers_from : (k i : ℕ) → map (from_le_bytes w32) (first_chunks 4 k (drop (4 * i) bytes)) ≡ map (number_at bytes) (range_with_len i k)
  numbers_from zero i = refl
  numbers_from (suc k) i =
      let head = number_of i in
      let next : drop 4 (drop (4 * i) bytes) ≡ drop (4 * (i + 1)) bytes = drop-drop 4 (4 * i) bytes ∙ ap (λ n. drop n bytes) (omega arith) in
      let tail = numbers_from k (i + 1) in
      cc

  -- the numbers in all whole chunks are the whole numbers in the bytes
  pub chunks_are_numbers : map (from_le_bytes w32) (first_chunks 4 (length bytes / 4) bytes) ≡ numbers_in bytes
  unfolding numbers_in
  chunks_are_numbers = numbers_from (length bytes / 4) 0
