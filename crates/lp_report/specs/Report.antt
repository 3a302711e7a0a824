-- The numbers of a report: how much is live and kept, and how much of that is out.
use Rattle.std.specs.Prelude.{◌≡◌, List, length, filter, Bool, true, false, ◌&&◌, Option, Some, None}
use Rattle.lp_values.specs.declared.id.ProgId.{ProgId}
use Rattle.lp_code.specs.declared.program.RawProgram.{RawProgram}
use Rattle.lp_swapfile.specs.Device.{Bytes}
use Rattle.lp_language.specs.World.{World}
use Rattle.lp_meaning.specs.IdleAndKept.{kept_number, kept_versions, live_number}
use Rattle.lp_world.specs.Rows.{is_out_state, row_at}
use Rattle.lp_world.specs.Stands.{Stands}
use Rattle.lp_world.specs.declared.live.Live.{Live}
use Rattle.lp_world.specs.declared.objects.Object.{Object}
use Rattle.lp_world.specs.declared.versions.ProgramState.{ProgramState}
use Rattle.lp_world.specs.declared.versions.ProgramState.TheVariants as programs_of
use Rattle.lp_world.specs.declared.versions.Version.{Version}
use Rattle.lp_report.specs.declared.keeping.Kept.{Kept}
use Rattle.lp_report.specs.declared.report.Report.{Report}

-- whether a row is that of a live object that is out
abbrev pub is_out_object : Option Object → Bool
is_out_object None = false
is_out_object (Some o) = o.is_live && is_out_state o.state

-- whether the program of a version is out
abbrev pub is_ticket : ProgramState → Bool
is_ticket (programs_of.Resident p) = false
is_ticket (programs_of.Swapped t) = true

abbrev pub is_out_version : Option Version → Bool
is_out_version None = false
is_out_version (Some v) = is_ticket v.state

-- whether the version with a number is out
abbrev pub is_out_at : List (Option Version) → ProgId → Bool
is_out_at rows p = is_out_version (row_at rows p.0)

-- THE NUMBERS of a state that stands for a world: the live objects of the world, and how many of them are out; the kept versions of the
-- world, and how many of them are out.
pub record IsReportOf (w : World) (state : Live) (r : Report) : Type 0 where
  pub live : r.live ≡ live_number w
  pub live_out : r.live_out ≡ length (filter is_out_object state.objects)
  pub kept : r.kept ≡ kept_number w
  pub kept_out : r.kept_out ≡ length (filter (is_out_at state.versions) (kept_versions w))

-- the kept versions, and how many of them are out, in each world for which the state stands
abbrev pub IsKept : Live → Kept → Type 0
IsKept state k =
    (told : Option Bytes) (programs : List RawProgram) (w : World) → Stands told programs state w → (k.all ≡ kept_number w) × (k.out ≡ length (filter (is_out_at state.versions) (kept_versions w)))

-- so in each world for which the state stands
abbrev pub Reports : Live → Report → Type 0
Reports state r = (told : Option Bytes) (programs : List RawProgram) (w : World) → Stands told programs state w → IsReportOf w state r
