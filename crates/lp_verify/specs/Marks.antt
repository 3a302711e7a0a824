-- Functions of instructions as marks, one for each.
use Rattle.std.specs.Prelude.{◌≡◌, ◌<◌, ℕ, List, length, slice_index_or}
use Rattle.lp_code.specs.declared.program.FunRow.{FunRow}
use Rattle.lp_code.specs.Owners.{begun, owner}

pub record MarksBegins (n : ℕ) (rows : List FunRow) (marks : List ℕ) : Type 0 where
  pub size : length marks ≡ n
  pub each : (p : ℕ) → p < n → slice_index_or marks p 0 ≡ begun 0 rows p

pub record MarksOwners (n : ℕ) (rows : List FunRow) (marks : List ℕ) : Type 0 where
  pub size : length marks ≡ n
  pub each : (p : ℕ) → p < n → slice_index_or marks p 0 ≡ owner rows p
