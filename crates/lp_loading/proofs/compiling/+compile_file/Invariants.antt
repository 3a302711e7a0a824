use Rattle.lp_loading.specs.Present.{out_count}
use Rattle.lp_loading.proofs.compiling.+compile_file.Given as goal

abbrev pub decreases-compile_file : goal.decreases-compile_file
decreases-compile_file g l = out_count l.live.now.versions
