-- The adapters over std's readers and writers, as a caller sees them.
use Rattle.std.specs.Prelude.{ℕ}

-- a source over a reader: the reader, and how often it failed
pub record OverReader (R : Type 0) : Type 0 where
  pub reader : R
  pub faults : ℕ

-- a sink over a writer: the writer, how often it failed, and how many writes took nothing of a piece that has bytes
pub record OverWriter (W : Type 0) : Type 0 where
  pub writer : W
  pub faults : ℕ
  pub zeros : ℕ
