-- How what is kept while values are gone over and spelled stands for what the definitions keep.
use Rattle.std.specs.Prelude.{◌≡◌, ℕ, zero, suc, Bool, true, false, codes, List, [], ◌∷◌, Result, Ok, Err, if◌then◌else◌}
use Rattle.std.specs.declared.alloc.AllocError.{AllocError}
use Rattle.lp_values.specs.declared.id.CellId.{CellId}
use Rattle.lp_values.specs.declared.value.Value.{Value}
use Rattle.lp_save.specs.declared.walk.Walker.{Walker}
use Rattle.lp_save.specs.declared.spell.Speller.{Speller}
use Rattle.lp_save.specs.SaveText.{Spelt, Walk, add, is_among, met_first, met_again, met_deep}

-- a key and its value, one behind the other
abbrev pub both : Value × Value → List Value
both p = p.0 ∷ p.1 ∷ []

-- the same cells met, the same among those met again, the same answer to whether cells lie too deep
pub record Stands (k : Walker) (w : Walk) : Type 0 where
  pub met : k.met ≡ w.met
  pub again : (c : CellId) → is_among c k.again ≡ is_among c w.again
  pub is_deep : k.is_deep ≡ w.is_deep

-- what stood for a walk stands for what the walk becomes
abbrev pub GoesOver : Walker → Walker → (Walk → Walk) → Type 0
GoesOver old new become = (w : Walk) → Stands old w → Stands new (become w)

-- a cell is met for the first time, and is entered where a level is left; or it is met again; or it lies too deep
abbrev pub met_at : ℕ → CellId → Walk → Walk
met_at zero c w = if is_among c w.met then met_again c w else met_deep w
met_at (suc n) c w = if is_among c w.met then met_again c w else met_first c w

abbrev pub is_entered : ℕ → CellId → Walk → Bool
is_entered zero c w = false
is_entered (suc n) c w = if is_among c w.met then false else true

abbrev pub Enters : Result Bool AllocError → Walker → Walker → CellId → ℕ → Type 0
Enters (Ok b) old new c levels = (w : Walk) → Stands old w → Stands new (met_at levels c w) × (b ≡ is_entered levels c w)
Enters (Err e) old new c levels = Unit {0}

-- the same text, and the same shared cells spelled
pub record Writes (k : Speller) (s : Spelt) : Type 0 where
  pub text : k.text.items ≡ s.text
  pub done : (c : CellId) → is_among c k.done ≡ is_among c s.done

-- what stood for something spelled stands for what that becomes
abbrev pub Spells : Speller → Speller → (Spelt → Spelt) → Type 0
Spells old new become = (s : Spelt) → Writes old s → Writes new (become s)

-- a pair behind what is spelled so far
abbrev pub pair_spelt : (Spelt → Value → Spelt) → Spelt → Value × Value → Spelt
pair_spelt spell s p = add (codes ",") (spell (add (codes ":") (spell s p.0)) p.1)
