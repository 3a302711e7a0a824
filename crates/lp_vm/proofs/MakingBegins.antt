-- An object that was made is at its beginning: its job can be carried out.
use Rattle.std.proofs.Common.{ℕ, List, Option, IsSome}
use Rattle.lp_values.specs.declared.id.ObjId.{ObjId}
use Rattle.lp_code.specs.declared.program.RawProgram.{RawProgram}
use Rattle.lp_events.specs.declared.out.Out.{Out}
use Rattle.lp_swapfile.specs.Device.{Bytes}
use Rattle.lp_language.specs.Course.{State}
use Rattle.lp_meaning.specs.Askers as meaning
use Rattle.lp_world.specs.declared.live.Live.{Live}
use Rattle.lp_world.specs.Rows.{variables_at}
use Rattle.lp_asking.specs.declared.asker.Asker.{Asker}
use Rattle.lp_asking.specs.declared.ending.Place.{Place}
use Rattle.lp_beginning.specs.declared.job.Making.{Making}
use Rattle.lp_beginning.specs.Beginning.{HasItsParts}
use Rattle.lp_beginning.proofs.Staying.{parts_stay}
use Rattle.lp_vm.specs.Making.{IsBehind, IsMaking}

-- What making an object tells of its job, and who asks, are what carrying out the job needs.
pub begins_making : (caller : Option ObjId) (at : Option Place) (job : Making) (told : Option Bytes) (programs : List RawProgram) (before : List Out) (live : Live) (asker : Asker) (budget : ℕ) (by : meaning.Asker) (s : State)
    → IsBehind caller at told programs before live asker budget by s → HasItsParts s.world job → IsSome (variables_at live.objects job.object) → IsMaking caller at job told programs before live asker budget by s
begins_making caller at job told programs before live asker budget by s behind parts home = record { behind = behind; parts = λ w k. parts_stay told programs live s.world w job behind.fits.world home parts k }
