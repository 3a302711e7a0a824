use Rattle.std.proofs.Common.{◌≡◌, ap, ◌∙◌, map, nat_eq, ◌&&◌, subst}
use Rattle.std.specs.Option.{option_map, IfSome}
use Rattle.std.specs.Cmp.Lexicographic.{pointwise}
use Rattle.std.proofs.lemmas.Cmp.{nat_cmp_total}
use Rattle.std.proofs.lemmas.List.Elements.{recursion_from_All}
use Rattle.std.proofs.lemmas.Map.Views.{All-found}
use Rattle.lp_timers.specs.Timers.{earliest}
use Rattle.lp_timers.specs.Index.{function_in}
use Rattle.lp_timers.specs.Waiting.{Waiting, spot_in, entry_call, numbered}
use Rattle.lp_timers.proofs.DueLemmas.{first_of_function, first_is_numbered, by_number}
use Rattle.lp_timers.proofs.call_outs.CallOuts.spot_of.Goals as goal

pub returns-clause-spot : goal.returns-clause-spot
returns-clause-spot c =
    c.first_of_function.ensures.first
    ∙ first_of_function c.args.ob c.args.fun.now (function_in c.self.inside.index c.args.fun.now) c.self.inside.calls.entries c.self.invariant.rising c.first_of_function.ensures.ordered (c.self.invariant.functions c.args.fun.now)
    ∙ ap (λ w. option_map (spot_in c.args.ob.0) (earliest w.call_outs c.args.ob c.args.fun.now)) c.self.view_is

pub returns-clause-number : goal.returns-clause-number
returns-clause-number c =
    let cs = map entry_call c.self.inside.calls.entries in
    subst (λ (w : Waiting). IfSome c.first_of_function.result (λ s. numbered w.call_outs s.number ≡ earliest w.call_outs c.args.ob c.args.fun.now)) c.self.view_is
    (by_number c.args.ob.0 cs (earliest cs c.args.ob c.args.fun.now) c.first_of_function.result
    (c.first_of_function.ensures.first ∙ first_of_function c.args.ob c.args.fun.now (function_in c.self.inside.index c.args.fun.now) c.self.inside.calls.entries c.self.invariant.rising c.first_of_function.ensures.ordered (c.self.invariant.functions c.args.fun.now))
    (first_is_numbered (λ x. nat_eq x.object.0 c.args.ob.0 && pointwise nat_eq x.function c.args.fun.now) c.self.inside.calls.entries
    (recursion_from_All _ c.self.inside.calls.entries (All-found nat_cmp_total c.self.inside.calls c.self.invariant.rising))))
