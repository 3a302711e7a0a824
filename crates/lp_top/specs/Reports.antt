-- The line of a report, behind a transcript.
use Rattle.std.specs.Prelude.{◌≡◌, List, [], ◌++◌, ℕ, Bool, true, false, Option, codes}
use Rattle.std.specs.Fmt.{decimal}
use Rattle.lp_events.specs.declared.item.Item.{Item}
use Rattle.lp_events.specs.declared.out.Out.{Out}
use Rattle.lp_events.specs.Script.{seed_of, events_of}
use Rattle.lp_swapfile.specs.Device.{Bytes}
use Rattle.lp_language.specs.World.{World}
use Rattle.lp_meaning.specs.FrontEnd.{FrontEnd}
use Rattle.lp_meaning.specs.Closing.{Run}
use Rattle.lp_front_end.specs.FrontEnds.{IsFrontEnd}
use Rattle.lp_world.specs.declared.live.Live.{Live}
use Rattle.lp_report.specs.Report.{IsReportOf, Reports}
use Rattle.lp_report.specs.declared.report.Report.{Report}
use Rattle.lp_driver.specs.Driving.{IsAtRest}
use Rattle.lp_top.specs.Coming.{HasCome}
use Rattle.lp_top.specs.Items.{moment_of, world_files}

-- the line: live objects, how many of them are out, kept versions, how many of them are out
abbrev pub report_line : Report → List ℕ
report_line r = codes "report " ++ decimal r.live ++ codes " " ++ decimal r.live_out ++ codes " " ++ decimal r.kept ++ codes " " ++ decimal r.kept_out ++ codes "\n"

-- The run of these items has these outputs and, for each front end that there is, this last world; the state stands for that, and the
-- numbers are theirs.
pub record IsLastReport (front : FrontEnd) (xs : List Item) (outputs : List (List Out)) (told : Option Bytes) (state : Live) (r : Report) : Type 0 where
  pub last : World
  pub run : Run front (seed_of xs) (moment_of xs) (world_files xs) (events_of xs) outputs last
  pub rest : IsAtRest told state last
  pub numbers : IsReportOf last state r

-- THE NUMBERS OF A RUN of these items, with this swap time: those of its last world, and of the state that came about, by the start and each
-- turn, with what goes out behind it.
pub record IsReportOfRun (swap_time : ℕ) (xs : List Item) (r : Report) : Type 0 where
  pub outputs : List (List Out)
  pub told : Option Bytes
  pub state : Live
  pub came : HasCome swap_time (seed_of xs) (moment_of xs) (world_files xs) (events_of xs) told state
  pub runs : (front : FrontEnd) → IsFrontEnd front → IsLastReport front xs outputs told state r

-- What stands behind a transcript: nothing, or where it was asked for the line of the report.
abbrev pub IsBehind : ℕ → Bool → List Item → List ℕ → Type 0
IsBehind swap_time false xs more = more ≡ []
IsBehind swap_time true xs more = (r : Report) × IsReportOfRun swap_time xs r × (more ≡ report_line r)

-- so by the numbers of a state
abbrev pub IsBehindState : Bool → Live → List ℕ → Type 0
IsBehindState false state more = more ≡ []
IsBehindState true state more = (r : Report) × Reports state r × (more ≡ report_line r)
