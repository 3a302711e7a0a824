use Rattle.std.proofs.Common.{◌∙◌, ap, sym, Some}
use Rattle.lp_top.specs.Words.{command_named}
use Rattle.lp_top.proofs.Naming.{by_first, named_command, refused_command, with_refused}
use Rattle.lp_top.proofs.words.named_of.Goals as goal

pub returns-then-not-may_all_stand-clause-refused :
    goal.returns-then-not-may_all_stand-clause-refused
returns-then-not-may_all_stand-clause-refused c = λ e.
    by_first c.args.words.now c.in-Some.word.now (Some c.in-Some-command_named.name) c.in-Some.ensures.value (c.in-Some-command_named.ensures ∙ ap command_named c.as_str.ensures.value)
    ∙ with_refused c.args.words.now c.in-Some-command_named.name (sym c.may_all_stand.ensures ∙ c.if-not-may_all_stand.true)

pub returns-clause-named : goal.returns-clause-named
returns-clause-named c =
    named_command c.args.words.now c.in-Some.word.now c.in-Some-command_named.name c.command_with.result c.in-Some.ensures.value (c.in-Some-command_named.ensures ∙ ap command_named c.as_str.ensures.value)
    (sym c.may_all_stand.ensures ∙ c.if-not-may_all_stand.false) c.command_with.ensures.named

pub returns-clause-refused : goal.returns-clause-refused
returns-clause-refused c = λ e.
    refused_command c.args.words.now c.in-Some.word.now c.in-Some-command_named.name c.in-Some.ensures.value (c.in-Some-command_named.ensures ∙ ap command_named c.as_str.ensures.value)
    (sym c.may_all_stand.ensures ∙ c.if-not-may_all_stand.false) (c.command_with.ensures.refused e)
