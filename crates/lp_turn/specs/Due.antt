-- Objects whose turn in a step of a tick is still to come, the first of which comes next.
use Rattle.std.specs.Prelude.{ℕ, List}
use Rattle.lp_values.specs.declared.id.ObjId.{ObjId}

-- the moment of the tick, and the objects
pub record Due : Type 0 where
  pub moment : ℕ
  pub objects : List ObjId
