-- Maps of what rows are made of, after a change at one name.
use Rattle.std.proofs.Common.{◌≡◌, ℕ, refl, ap, ◌∙◌, Bool, true, false, List, Option, None}
use Rattle.std.specs.Prelude.{if◌then◌else◌, option_map}
use Rattle.lp_code.specs.declared.tables.Slot.{Slot}
use Rattle.lp_instr.specs.EfunList.{is_name}
use Rattle.lp_layout.specs.declared.origin.Origin.{Origin}
use Rattle.lp_layout.specs.Origins.{row_of, without}

abbrev made : List ℕ → Option Origin → Option Slot
made w o = option_map (row_of w) o

-- a name that is taken away
pub put_away : (old new : List ℕ → Option Origin) (name : List ℕ) → ((w : List ℕ) → new w ≡ (if is_name w name then None else old w)) → (w : List ℕ) → option_map (row_of w) (new w) ≡ without name (λ v. option_map (row_of v) (old v)) w
put_away old new name p w = ap (made w) (p w) ∙ go (is_name w name)
  where
    go : (b : Bool) → made w (if b then None else old w) ≡ (if b then None else made w (old w))
    go true = refl
    go false = refl
