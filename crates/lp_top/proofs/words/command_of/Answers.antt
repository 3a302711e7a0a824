use Rattle.std.proofs.Common.{◌∙◌, map, string_bytes, sym}
use Rattle.lp_top.proofs.Naming.{another_named, by_another, by_serve, serve_named}
use Rattle.lp_top.proofs.words.command_of.Goals as goal

pub returns-then-is_serve-clause-named : goal.returns-then-is_serve-clause-named
returns-then-is_serve-clause-named c = serve_named c.args.words.now c.serve_of.result (sym c.is_serve.ensures ∙ c.if-is_serve.true) c.serve_of.ensures.named

pub returns-then-is_serve-clause-refused : goal.returns-then-is_serve-clause-refused
returns-then-is_serve-clause-refused c = λ e. by_serve (map string_bytes c.args.words.now) (sym c.is_serve.ensures ∙ c.if-is_serve.true) ∙ c.serve_of.ensures.refused e

pub returns-clause-named : goal.returns-clause-named
returns-clause-named c = another_named c.args.words.now c.named_of.result (sym c.is_serve.ensures ∙ c.if-is_serve.false) c.named_of.ensures.named

pub returns-clause-refused : goal.returns-clause-refused
returns-clause-refused c = λ e. by_another (map string_bytes c.args.words.now) (sym c.is_serve.ensures ∙ c.if-is_serve.false) ∙ c.named_of.ensures.refused e
