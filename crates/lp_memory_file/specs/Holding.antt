-- A swap file in memory, as a caller sees it.
use Rattle.std.specs.Prelude.{ℕ, List, drop, slice_get, take}
use Rattle.lp_swapfile.specs.Device.{Bytes, Last, Nothing, Gave, FailedAt}
use Rattle.lp_memory_file.specs.declared.file.LastRead.{LastRead}
use Rattle.lp_memory_file.specs.declared.file.LastRead.TheVariants as read

-- the bytes that it holds, from place 0 on; its latest read; and how many reads and writes failed
pub record Holding : Type 0 where
  pub held : List ℕ
  pub last : Last
  pub read_faults : ℕ
  pub write_faults : ℕ

-- at each place the byte that stands there
abbrev pub file_of : List ℕ → Bytes
file_of bytes i = slice_get bytes i

-- the latest read: what it gave stands in the file still
abbrev pub last_read : LastRead → List ℕ → Last
last_read read.Nothing bytes = Nothing
last_read (read.Gave place len) bytes = Gave place (take len (drop place bytes))
last_read (read.FailedAt place len) bytes = FailedAt place len
