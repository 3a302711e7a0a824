use Rattle.std.proofs.Common.{subst}
use Rattle.lp_preproc.specs.Tables.{macros_in}
use Rattle.lp_preproc.specs.Steps.{Reads, state_of}
use Rattle.lp_preproc.specs.Uses.{read_by}
use Rattle.lp_preproc.proofs.reading.take_word.Goals as goal

pub returns : goal.returns
returns c = λ c' k.
    subst (λ r. Reads c' (read_by c' (state_of r (macros_in c.args.table.now) k) c.args.word c.args.reader.now.reading) c.read_by.result (state_of c.read_by.new.reader (macros_in c.args.table.now) k)) c.take_reading-reading.ensures.rest
    (subst (λ r. Reads c' (read_by c' (state_of c.take_reading-reading.new.reader (macros_in c.args.table.now) k) c.args.word r) c.read_by.result (state_of c.read_by.new.reader (macros_in c.args.table.now) k)) c.take_reading-reading.ensures.taken
    (c.read_by.ensures c' k))
