use Rattle.std.proofs.Common.{◌≡◌, ap, ◌∙◌, map, nat_eq, subst}
use Rattle.std.specs.Option.{option_map, IfSome}
use Rattle.std.proofs.lemmas.Cmp.{nat_cmp_total}
use Rattle.std.proofs.lemmas.List.Elements.{recursion_from_All}
use Rattle.std.proofs.lemmas.Map.Views.{All-found}
use Rattle.lp_timers.specs.Index.{objects_in}
use Rattle.lp_timers.specs.Waiting.{Waiting, spot_in, earliest_of, entry_call, numbered}
use Rattle.lp_timers.proofs.DueLemmas.{first_of_object, first_is_numbered, by_number}
use Rattle.lp_timers.proofs.call_outs.CallOuts.spot_of_object.Goals as goal

pub returns-clause-spot : goal.returns-clause-spot
returns-clause-spot c =
    c.first_of.ensures.first
    ∙ first_of_object c.args.ob (objects_in c.self.inside.index) c.self.inside.calls.entries c.self.invariant.rising c.first_of.ensures.ordered c.self.invariant.objects
    ∙ ap (λ w. option_map (spot_in c.args.ob.0) (earliest_of w.call_outs c.args.ob)) c.self.view_is

pub returns-clause-number : goal.returns-clause-number
returns-clause-number c =
    let cs = map entry_call c.self.inside.calls.entries in
    subst (λ (w : Waiting). IfSome c.first_of.result (λ s. numbered w.call_outs s.number ≡ earliest_of w.call_outs c.args.ob)) c.self.view_is
    (by_number c.args.ob.0 cs (earliest_of cs c.args.ob) c.first_of.result
    (c.first_of.ensures.first ∙ first_of_object c.args.ob (objects_in c.self.inside.index) c.self.inside.calls.entries c.self.invariant.rising c.first_of.ensures.ordered c.self.invariant.objects)
    (first_is_numbered (λ x. nat_eq x.object.0 c.args.ob.0) c.self.inside.calls.entries
    (recursion_from_All _ c.self.inside.calls.entries (All-found nat_cmp_total c.self.inside.calls c.self.invariant.rising))))
