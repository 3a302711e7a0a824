use Rattle.std.proofs.Common.{◌+◌, drop, sym, ap, ◌∙◌, arith}
use Rattle.std.proofs.lemmas.List.{length-drop}
use Rattle.lp_preproc.specs.Directives.{more_parameters}
use Rattle.lp_preproc.proofs.ParameterLemmas.{parameter_end, two_left}
use Rattle.lp_preproc.proofs.definitions.more_parameters.Goals as goal

pub returns-in-Ends : goal.returns-in-Ends
returns-in-Ends c =
    let two = two_left c.args.words.now c.names.i c.index-words-i.result c.index-words-i-in-names.result (omega (arith, c.names-test.true)) c.index-words-i.is c.index-words-i-in-names.is in
    sym c.names.invariant ∙ ap (more_parameters c.names.names) two ∙ (rw c.in-Ends.is at c.in_ok-take_parameter.ensures) (drop (c.names.i + 2) c.args.words.now)

pub names-preserved : goal.names-preserved
names-preserved c =
    let two = two_left c.args.words.now c.names.i c.index-words-i.result c.index-words-i-in-names.result (omega (arith, c.names-test.true)) c.index-words-i.is c.index-words-i-in-names.is in
    sym (ap (more_parameters c.names.names) two ∙ (rw c.in-GoesOn.is at c.in_ok-take_parameter.ensures) (drop (c.names.i + 2) c.args.words.now)) ∙ c.names.invariant

pub returns-in-Bad : goal.returns-in-Bad
returns-in-Bad c =
    let two = two_left c.args.words.now c.names.i c.index-words-i.result c.index-words-i-in-names.result (omega (arith, c.names-test.true)) c.index-words-i.is c.index-words-i-in-names.is in
    sym c.names.invariant ∙ ap (more_parameters c.names.names) two ∙ (rw c.in-Bad.is at c.in_ok-take_parameter.ensures) (drop (c.names.i + 2) c.args.words.now)

pub returns : goal.returns
returns c = sym c.names.invariant ∙ parameter_end c.names.names (drop c.names.i c.args.words.now) (grind (arith, length-drop, c.names-test.false))
