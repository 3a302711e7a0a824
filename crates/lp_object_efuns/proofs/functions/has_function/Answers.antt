use Rattle.std.proofs.Common.{◌∙◌, IfOk, ap, refl, subst}
use Rattle.std.proofs.lemmas.Str.{encodes-IsAscii}
use Rattle.std.proofs.lemmas.Str.Ascii.{All-from_ascii, IsAscii-from_all}
use Rattle.std.specs.Prelude.{is_some}
use Rattle.lp_object_efuns.specs.Called.{IsFunctionAsked}
use Rattle.lp_object_efuns.proofs.Shown.{nothing_found}
use Rattle.lp_object_efuns.proofs.functions.has_function.Goals as goal

pub returns-then-not-is_plain-clause-found : goal.returns-then-not-is_plain-clause-found
returns-then-not-is_plain-clause-found g c = λ t programs w h.
    ap is_some (nothing_found (g.W.SwapFile.content c.args.swap.now) programs c.args.live.now w c.args.ob c.args.name.now h (λ p. let q = c.if-not-is_plain.ensures.1 (All-from_ascii c.args.name.now p) in cc))

pub returns-in-Ok-clause-found : goal.returns-in-Ok-clause-found
returns-in-Ok-clause-found g c = λ t.
    subst (λ name. IfOk c.has_named.result (λ b. IsFunctionAsked (g.W.SwapFile.content c.args.swap.now) c.args.live.now c.args.ob name b))
    (c.as_str.ensures.value ∙ c.in-Ok.ensures ∙ encodes-IsAscii c.args.name.now (IsAscii-from_all c.args.name.now (c.if-not-is_plain.ensures.0 refl))) (c.has_named.ensures.found t)
