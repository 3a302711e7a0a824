use Rattle.std.proofs.Common.{subst}
use Rattle.lp_preproc.specs.Tables.{macros_in}
use Rattle.lp_preproc.specs.Steps.{Reads, state_of}
use Rattle.lp_preproc.specs.Uses.{read_plain}
use Rattle.lp_preproc.proofs.reading.read_plain.Goals as goal

pub returns : goal.returns
returns c = λ c' k. subst (λ n. Reads c' (read_plain c' (state_of c.args.reader.now (macros_in c.args.table.now) k) c.args.word n) c.plain_by.result (state_of c.plain_by.new.reader (macros_in c.args.table.now) k)) c.in_ok-name.ensures (c.plain_by.ensures c' k)
