-- The forms in memory, as a caller sees them.
use Rattle.std.specs.Prelude.{ℕ, ◌==◌, List, Bool}
use Rattle.std.specs.List.{list_any}
use Rattle.lp_io.specs.Counts.{one_more}

-- the calls of a form in memory: the numbers of those that fail, how many were made, and how many failed
pub record Calls : Type 0 where
  pub listed : List ℕ
  pub made : ℕ
  pub failed : ℕ

-- a source in memory: the bytes that are left, and its calls
pub record Reading : Type 0 where
  pub left : List ℕ
  pub calls : Calls

-- a sink in memory: the bytes that it took, whether no write followed the last flush, the most that it takes at once, its calls, and how many writes took nothing of a piece that has bytes
pub record Writing : Type 0 where
  pub bytes : List ℕ
  pub passed : Bool
  pub most : ℕ
  pub calls : Calls
  pub zeros : ℕ

-- the next call fails: its number, counted from 1, is on the list
abbrev pub next_is_listed : Calls → Bool
next_is_listed c = list_any (λ n. n == one_more c.made) c.listed

-- the calls after one more that did not fail
abbrev pub after_call : Calls → Calls
after_call c = record { listed = c.listed; made = one_more c.made; failed = c.failed }

-- the calls after one more that failed
abbrev pub after_failure : Calls → Calls
after_failure c = record { listed = c.listed; made = one_more c.made; failed = one_more c.failed }
