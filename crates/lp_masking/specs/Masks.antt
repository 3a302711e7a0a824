-- Functions that may not be masked, in the inheritance trees of two versions and in the tables of their programs.
use Rattle.std.specs.Prelude.{List, Bool, ◌&&◌, ◌||◌, is_some}
use Rattle.std.specs.List.{list_any}
use Rattle.lp_code.specs.declared.program.RawProgram.{RawProgram}
use Rattle.lp_code.specs.declared.tables.Slot.{Slot}
use Rattle.lp_types_expr.specs.Signatures.{has_function}
use Rattle.lp_layout.specs.Layout.{slot_named}
use Rattle.lp_layout.specs.LayoutFaults.{is_nomask_number}
use Rattle.lp_part_laws.specs.Parts.{reached_in}
use Rattle.lp_language.specs.Resolve.{Heritage, names_in, resolve, version_of}
use Rattle.lp_meaning.specs.CallingEfuns.{is_nomask_found}

-- a row is that of a nomask function, and its name has a function in another table
unfoldable pub is_masking : List Slot → Slot → Bool
is_masking others s = has_function s && is_nomask_number s.mods && is_some (reached_in (slot_named others s.name))

abbrev pub rows_mask : List Slot → List Slot → Bool
rows_mask others slots = list_any (is_masking others) slots

-- A program forbids it: it has a nomask function whose name the other one has a function of, or its file says `no_shadow`.
abbrev pub programs_forbid : RawProgram → RawProgram → Bool
programs_forbid victim other = rows_mask other.tables.slots victim.tables.slots || victim.tables.pragmas.no_shadow

-- the same of inheritance trees, as the efun `shadow` means it
abbrev pub is_forbidden_in : Heritage → Heritage → Bool
is_forbidden_in victim other =
    list_any (λ name. is_nomask_found (resolve victim name) && is_some (resolve other name)) (names_in victim) || (version_of victim).pragmas.no_shadow
