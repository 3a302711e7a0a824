-- How loads end for LPC.
use Rattle.std.specs.Prelude.{ℕ, List, None}
use Rattle.lp_meaning.specs.FileLoads.{could_not_load}
use Rattle.lp_asking.specs.declared.ending.Cause.TheVariants as causes
use Rattle.lp_asking.specs.declared.ending.Ending.{Ending}
use Rattle.lp_asking.specs.declared.ending.Ending.TheVariants as endings
use Rattle.lp_loading.specs.declared.job.Answer.{Answer}
use Rattle.lp_loading.specs.declared.job.Answer.TheVariants as answers

-- the value or the stop of a load; faults of its file are an error
abbrev pub loaded_ending : List ℕ → Answer → Ending
loaded_ending name (answers.Value v) = endings.Value v
loaded_ending name (answers.Faulty faults) = endings.Stopped (record { cause = causes.Failed (could_not_load name faults.items); place = None })
loaded_ending name (answers.Stopped stop) = endings.Stopped stop
