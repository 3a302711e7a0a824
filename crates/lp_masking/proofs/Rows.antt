-- Rows of names, found by the map of the names.
use Rattle.std.proofs.Common.{◌≡◌, ◌∙◌, ℕ, Bool, true, false, is_some, List, Some, None, refl, sym, subst, slice_get, if◌then◌else◌}
use Rattle.lp_code.specs.declared.tables.Slot.{Slot}
use Rattle.lp_code.specs.Slots.{first_place}
use Rattle.lp_types_expr.specs.Signatures.{has_function}
use Rattle.lp_layout.specs.Layout.{slot_named}
use Rattle.lp_plan_laws.specs.Tables.{reached_by}
use Rattle.lp_isa.specs.Programs.{Reached}
use Rattle.lp_part_laws.proofs.Rows.{IsNamedAt, named_at}

pub named_some : (w : List ℕ) (ss : List Slot) (k : ℕ) → first_place w ss ≡ Some k → slice_get ss k ≡ slot_named ss w
named_some w ss k e = let n = subst (IsNamedAt ss w) e (named_at w ss) in n.1 ∙ sym n.2

pub named_none : (w : List ℕ) (ss : List Slot) → first_place w ss ≡ None → slot_named ss w ≡ None
named_none w ss e = subst (IsNamedAt ss w) e (named_at w ss)

-- a row has a function where it reaches one
pub reach_some : (s : Slot) → has_function s ≡ is_some (reached_by s)
reach_some s = by (has_function s) (record { part = s.part; fun = s.fun })
  where
    by : (b : Bool) (r : Reached) → b ≡ is_some (if b then Some r else None)
    by true r = refl
    by false r = refl
