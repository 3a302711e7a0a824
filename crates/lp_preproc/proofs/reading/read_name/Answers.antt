use Rattle.std.proofs.Common.{sym, subst, ◌∙◌}
use Rattle.lp_preproc.specs.Tables.{macros_in}
use Rattle.lp_preproc.specs.Steps.{Reads, state_of}
use Rattle.lp_preproc.specs.Uses.{use_macro}
use Rattle.lp_preproc.proofs.reading.read_name.Goals as goal

pub returns-then-contains : goal.returns-then-contains
returns-then-contains c = λ c' k. rw (sym c.contains.ensures ∙ c.if-contains.true) (c.out.ensures c' (macros_in c.args.table.now) k)

pub returns : goal.returns
returns c = λ c' k. rw (sym c.contains.ensures ∙ c.if-contains.false)
    (subst (λ m. Reads c' (use_macro c' (state_of c.args.reader.now (macros_in c.args.table.now) k) c.args.word m) c.use_macro.result (state_of c.use_macro.new.reader (macros_in c.args.table.now) k)) c.find.ensures (c.use_macro.ensures c' (macros_in c.args.table.now) k))
