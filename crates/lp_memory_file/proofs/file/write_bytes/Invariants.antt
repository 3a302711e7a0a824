use Rattle.std.proofs.Common.{◌≡◌, ◌+◌, ◌≤◌, ◌<◌, ◌⊎◌, ℕ, length, slice_get, vec_len}
use Rattle.lp_memory_file.specs.Holding.{file_of}
use Rattle.lp_memory_file.proofs.file.write_bytes.Given as goal

abbrev pub invariant-loop-k : goal.invariant-loop-k
invariant-loop-k l = record {
  reached : l.place + l.k ≤ vec_len l.bytes;
  done : (i : ℕ) → i < l.k → file_of l.bytes.items (l.place + i) ≡ slice_get l.piece i;
  others : (i : ℕ) → (i < l.place) ⊎ (l.place + length l.piece ≤ i) → file_of l.bytes.items i ≡ file_of l.fn.bytes.items i;
}
