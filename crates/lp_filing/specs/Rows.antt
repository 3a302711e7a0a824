-- Which rows of a program's table of variables are those of saved variables, and what is read for them.
use Rattle.std.specs.Prelude.{◌≡◌, ◌+◌, ℕ, List, [], ◌∷◌, Bool, ◌||◌, Option, Some, None, Result, Ok, Err, Vec, chars, drop, length, slice_get, slice_set, if◌then◌else◌}
use Rattle.std.specs.declared.alloc.Global.{Global}
use Rattle.lp_values.specs.declared.id.ObjId.{ObjId}
use Rattle.lp_values.specs.declared.value.Value.{Value}
use Rattle.lp_cells.specs.Cells.{Store}
use Rattle.lp_save.specs.Reading.{Given, FaultIn, outcome}
use Rattle.lp_save.specs.declared.fault.RestoreFault.{RestoreFault}
use Rattle.lp_save.specs.declared.fault.RestoreFault.TheVariants as faults
use Rattle.lp_code.specs.declared.program.RawProgram.{RawProgram}
use Rattle.lp_code.specs.declared.tables.VarRow.{VarRow}
use Rattle.lp_types_expr.specs.Signatures.{has_bit}
use Rattle.lp_meaning.specs.FileEfuns.{Saved}
use Rattle.lp_world.specs.Rows.{variables_at}
use Rattle.lp_world.specs.declared.objects.Object.{Object}
use Rattle.lp_world.specs.declared.objects.ObjectState.TheVariants as objects_of

-- bit 3 is `static`, and bit 4 `nosave`: such a variable is not saved
abbrev pub is_unsaved_number : ℕ → Bool
is_unsaved_number mods = has_bit 8 mods || has_bit 16 mods

-- the saved ones among rows, from a place on, each with its name as a text
abbrev pub saved_rows : ℕ → List VarRow → List Saved
saved_rows n [] = []
saved_rows n (r ∷ rs) = if is_unsaved_number r.mods then saved_rows (n + 1) rs else record { place = n; name = chars r.name } ∷ saved_rows (n + 1) rs

-- those of a program
abbrev pub saved_in : RawProgram → List Saved
saved_in code = saved_rows 0 code.tables.vars

-- a variable with what was given for it, if anything was
abbrev pub with_given : List Value → ℕ → Option Value → List Value
with_given vs p None = vs
with_given vs p (Some v) = slice_set vs p v

-- the variables at these places with what was given for each, one after another
abbrev pub with_places : List Value → List ℕ → List (Option Value) → List Value
with_places vs [] given = vs
with_places vs (p ∷ ps) [] = vs
with_places vs (p ∷ ps) (x ∷ given) = with_places (with_given vs p x) ps given

-- the variables of an object in memory became these, and nothing else of the table changed
abbrev pub Become : List (Option Object) → List (Option Object) → ObjId → (List Value → List Value) → Type 0
Become old new o change =
    (x : Object) (vs : List Value) → slice_get old o.0 ≡ Some (Some x) → x.state ≡ objects_of.Resident vs → new ≡ slice_set old o.0 (Some (record x { state = objects_of.Resident (change vs) }))

-- each object that is in memory stays there, with as many variables
abbrev pub KeepsVariables : List (Option Object) → List (Option Object) → Type 0
KeepsVariables old new = (o : ObjId) (vs : List Value) → variables_at old o ≡ Some vs → (us : List Value) × (variables_at new o ≡ Some us) × (length us ≡ length vs)

-- What is put next: the place at a number, if there is one, gets this, and is behind afterwards.
abbrev pub Puts : List (Option Object) → List (Option Object) → ObjId → List ℕ → ℕ → ℕ → Option Value → Type 0
Puts old new o places at0 at1 value =
    (rest : List (Option Value)) (x : Object) (vs : List Value) → slice_get old o.0 ≡ Some (Some x) → x.state ≡ objects_of.Resident vs
    → (us : List Value) × (new ≡ slice_set old o.0 (Some (record x { state = objects_of.Resident us }))) × (with_places us (drop at1 places) rest ≡ with_places vs (drop at0 places) (value ∷ rest))

-- What is read of a file: nothing where none is there; a value or nothing for each name, with the new cells; or the first line that is
-- faulty, and then no cell has changed.
abbrev pub ReadsFrom : Option (List ℕ) → List (List ℕ) → Result (Option (Vec (Option Value) Global)) RestoreFault → Store → Store → Type 0
ReadsFrom file names (Err faults.NoMemory) old new = new ≡ old
ReadsFrom None names (Ok None) old new = new ≡ old
ReadsFrom (Some bytes) names (Ok (Some x)) old new = outcome names bytes old ≡ Given x.items new
ReadsFrom (Some bytes) names (Err (faults.Line n k)) old new = (outcome names bytes old ≡ FaultIn n k) × (new ≡ old)
ReadsFrom _ names _ old new = ⊥
