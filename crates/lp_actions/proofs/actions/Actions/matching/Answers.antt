use Rattle.std.proofs.Common.{◌++◌, map, filter, ap, sym, ◌∙◌}
use Rattle.std.specs.Prelude.{reverse}
use Rattle.std.proofs.lemmas.List.{append-nil}
use Rattle.lp_actions.specs.Actions.{matches}
use Rattle.lp_actions.specs.Stored.{sentence_of, sentence_from}
use Rattle.lp_actions.proofs.ListLemmas.{map_reverse, found_more, found_no_more}
use Rattle.lp_actions.proofs.Held.{matching_is}
use Rattle.lp_actions.proofs.actions.Actions.matching.Goals as goal

pub loop-place-preserved-in_ok-push : goal.loop-place-preserved-in_ok-push
loop-place-preserved-in_ok-push c =
    let h = c.args.holder in
    rw c.in_ok-push.ensures.items
    (found_more (sentence_of h) (λ e. sentence_from h e.0.number e.1) (matches c.args.typed.now) c.loop-place.found.items c.in_ok-sentence.field-0 (c.in-Some.place.now, c.in-Some.deed.now) c.next.new.self
    (c.in_ok-sentence.ensures h) (sym (c.matches.ensures h c.in-Some.place.now.number) ∙ c.if-matches.true)
    ∙ ap (λ es. map (sentence_of h) c.loop-place.found.items ++ filter (matches c.args.typed.now) (map (λ e. sentence_from h e.0.number e.1) es)) (sym c.in-Some.ensures.steps)
    ∙ c.loop-place.invariant)

pub loop-place-preserved : goal.loop-place-preserved
loop-place-preserved c =
    let h = c.args.holder in
    found_no_more (sentence_of h) (λ e. sentence_from h e.0.number e.1) (matches c.args.typed.now) c.loop-place.found.items (c.in-Some.place.now, c.in-Some.deed.now) c.next.new.self
    (sym (c.matches.ensures h c.in-Some.place.now.number) ∙ c.if-matches.false)
    ∙ ap (λ es. map (sentence_of h) c.loop-place.found.items ++ filter (matches c.args.typed.now) (map (λ e. sentence_from h e.0.number e.1) es)) (sym c.in-Some.ensures.steps)
    ∙ c.loop-place.invariant

pub returns : goal.returns
returns c = λ ss lists.
    let h = c.args.holder in
    let last = c.in-None.ensures.steps in
    ap (map (sentence_of h)) c.reverse.ensures.items
    ∙ map_reverse (sentence_of h) c.loop-place.found.items
    ∙ ap reverse (sym (append-nil (map (sentence_of h) c.loop-place.found.items))
    ∙ ap (λ es. map (sentence_of h) c.loop-place.found.items ++ filter (matches c.args.typed.now) (map (λ e. sentence_from h e.0.number e.1) es)) (sym last.0)
    ∙ c.loop-place.invariant)
    ∙ matching_is h c.args.typed.now c.args.self.now.next ss c.args.self.now.deeds.entries (lists.each h) lists.numbers
