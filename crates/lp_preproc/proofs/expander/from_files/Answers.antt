use Rattle.std.proofs.Common.{sym, subst, ◌∙◌}
use Rattle.lp_preproc.specs.Tables.{macros_in}
use Rattle.lp_preproc.specs.Expansion.{from_files}
use Rattle.lp_preproc.specs.Uses.{ended}
use Rattle.lp_preproc.specs.Steps.{Turns, beside, state_of, whole_of}
use Rattle.lp_preproc.proofs.Leading.{turn_file, turn_finishes}
use Rattle.lp_preproc.proofs.expander.from_files.Goals as goal

pub returns-in-Some : goal.returns-in-Some
returns-in-Some c = λ c' i. turn_file c' (whole_of c.args.expander.now) c.args.expander.now.files c.pop.new.self c.in-Some.source c.from_file.result (whole_of c.from_file.new.expander) (c.from_file.ensures c' i) c.in-Some.ensures

pub returns-in-None : goal.returns-in-None
returns-in-None c = λ c' i.
    let e = c.args.expander.now in
    let r = c.take_end.result in
    let k = beside e.files e.pragmas in
    subst (λ fs. Turns c' (from_files c' (whole_of e) fs) r (state_of c.take_end.new.reader (macros_in e.table) (beside c.pop.new.self e.pragmas))) (sym c.in-None.ensures.0)
    (subst (λ gs. Turns c' (ended (whole_of e)) r (state_of c.take_end.new.reader (macros_in e.table) (beside gs e.pragmas))) (c.in-None.ensures.0 ∙ sym c.in-None.ensures.1)
    (turn_finishes c' (ended (whole_of e)) r (state_of c.take_end.new.reader (macros_in e.table) k) (c.take_end.ensures (macros_in e.table) k)))
