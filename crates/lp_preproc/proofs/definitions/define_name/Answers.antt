use Rattle.std.proofs.Common.{Some, sym, ap, ◌∙◌, subst}
use Rattle.std.specs.Option.{option_copied}
use Rattle.lp_preproc.specs.Tables.{macros_in}
use Rattle.lp_preproc.specs.State.{State}
use Rattle.lp_preproc.specs.Macros.{macro_of}
use Rattle.lp_preproc.specs.Directives.{define_name, defined, definition}
use Rattle.lp_preproc.specs.Steps.{Does}
use Rattle.lp_preproc.proofs.definitions.define_name.Goals as goal

pub returns : goal.returns
returns c = λ s.
    let old : State = record s { macros = macros_in c.args.table.now } in
    let new : State = record s { macros = macros_in c.define_as.new.table } in
    subst (λ n. Does (define_name old n (definition c.args.bytes.now c.args.token.now c.args.rest.now) c.args.line) c.define_as.result new) (sym (ap option_copied c.in-Some.is) ∙ c.name_part.ensures)
    (subst (λ m. Does (define_name old (Some c.in-Some.name.now) m c.args.line) c.define_as.result new) (sym c.in-Some-2.is ∙ c.in_ok-meaning.ensures)
    (subst (λ n. Does (defined old n c.in-Some-2.meaning c.args.line (macro_of n (macros_in c.args.table.now))) c.define_as.result new) c.as_slice.ensures (c.define_as.ensures s)))
