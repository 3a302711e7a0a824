use Rattle.std.proofs.Common.{refl, sym, subst}
use Rattle.lp_preproc.specs.Tables.{macros_in}
use Rattle.lp_preproc.specs.Expansion.{next, from_waiting, from_files}
use Rattle.lp_preproc.specs.Steps.{Turns, beside, state_of, whole_of}
use Rattle.lp_preproc.proofs.expander.turn.Goals as goal

pub returns-in-None : goal.returns-in-None
returns-in-None c = λ c' i.
    let e = c.args.expander.now in
    let r = c.from_files.result in
    let t = whole_of c.from_files.new.expander in
    subst (λ ws. Turns c' (from_waiting c' (whole_of e) ws) r t) (sym c.in-None.ensures.0)
    (subst (λ rd. Turns c' (from_files c' (state_of rd (macros_in e.table) (beside e.files e.pragmas)) e.files) r t) c.in-None.ensures.1 (c.from_files.ensures c' i))

pub returns-in-Some : goal.returns-in-Some
returns-in-Some c = λ c' i.
    let k = beside c.args.expander.now.files c.args.expander.now.pragmas in
    subst (λ r. Turns c' (next c' (state_of r (macros_in c.args.expander.now.table) k)) c.expand_word.result (state_of c.expand_word.new.reader (macros_in c.args.expander.now.table) k)) (sym c.in-Some.ensures) (c.expand_word.ensures c' i.place k refl)
