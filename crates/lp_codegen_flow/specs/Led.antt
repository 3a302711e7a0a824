-- Breaks and continues become jumps.
use Rattle.std.specs.Prelude.{◌≡◌, ℕ, ◌≤◌, ◌<◌, List, Option, Some, None, length, slice_get}
use Rattle.lp_instr.specs.declared.instr.Instr.TheVariants.{Jump}
use Rattle.lp_codegen_expr.specs.declared.code.Draft.{Draft}
use Rattle.lp_codegen_expr.specs.declared.code.Draft.TheVariants.{Done, Break, Continue}

-- a continue, which stays open where no place is given for it
abbrev pub continue_to : Option ℕ → Draft
continue_to None = Continue
continue_to (Some again) = Done (Jump again)

abbrev pub lead_to : ℕ → Option ℕ → Draft → Draft
lead_to out again (Done i) = Done i
lead_to out again Break = Done (Jump out)
lead_to out again Continue = continue_to again

abbrev pub leads_to : ℕ → Option ℕ → Option Draft → Option Draft
leads_to out again None = None
leads_to out again (Some d) = Some (lead_to out again d)

-- two drafts are the same from one place up to another
abbrev pub Same : List Draft → List Draft → ℕ → ℕ → Type 0
Same old new from to = (p : ℕ) → from ≤ p → p < to → slice_get new p ≡ slice_get old p

-- from a place on, breaks became jumps, and continues where a place is given
pub record Led (from out : ℕ) (again : Option ℕ) (old new : List Draft) : Type 0 where
  pub as_long : length new ≡ length old
  pub below : Same old new 0 from
  pub led : (p : ℕ) → from ≤ p → slice_get new p ≡ leads_to out again (slice_get old p)
