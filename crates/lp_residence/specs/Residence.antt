-- Where an object or a program is, and what goes out of an object.
use Rattle.std.specs.Prelude.{◌≡◌, ℕ, List, Option, None, Some, IsSome, true, false}
use Rattle.lp_values.specs.declared.id.CellId.{CellId}
use Rattle.lp_values.specs.declared.id.ObjId.{ObjId}
use Rattle.lp_values.specs.declared.id.ProgId.{ProgId}
use Rattle.lp_values.specs.declared.value.Value.{Value}
use Rattle.lp_image.specs.Image.{IsRecord, image}
use Rattle.lp_world.specs.Rows.{live_in, row_at, state_in, variables_at, version_state}
use Rattle.lp_world.specs.declared.objects.Object.{Object}
use Rattle.lp_world.specs.declared.versions.Version.{Version}
use Rattle.lp_residence.specs.declared.residence.Residence.{Residence}
use Rattle.lp_residence.specs.declared.residence.Residence.TheVariants as places
use Rattle.lp_residence.specs.Owners.{cells_named, program_of, record_of, ticket_of_state, ticket_of_version}

abbrev pub IsResidence : List (Option Object) → ObjId → Residence → Type 0
IsResidence rows o places.Missing = live_in rows o ≡ false
IsResidence rows o places.Inside = (live_in rows o ≡ true) × IsSome (variables_at rows o)
IsResidence rows o places.Outside = (live_in rows o ≡ true) × IsSome (ticket_of_state (state_in (row_at rows o.0)))

abbrev pub IsVersionResidence : List (Option Version) → ProgId → Residence → Type 0
IsVersionResidence rows p places.Missing = row_at rows p.0 ≡ None
IsVersionResidence rows p places.Inside = IsSome (program_of (version_state (row_at rows p.0)))
IsVersionResidence rows p places.Outside = IsSome (ticket_of_version (version_state (row_at rows p.0)))

-- The bytes are the image of an object in memory, and these are the cells that it names.
pub record IsPacked (rows : List (Option Object)) (o : ObjId) (bytes : List ℕ) (shared : List CellId) : Type 0 where
  pub values : List Value
  pub here : variables_at rows o ≡ Some values
  pub fits : IsRecord (record_of o values)
  pub spelled : bytes ≡ image (record_of o values)
  pub named : shared ≡ cells_named values
