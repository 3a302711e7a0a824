use Rattle.std.proofs.Common.{◌∙◌, ◌++◌, ◌∷◌, [], ap, subst}
use Rattle.std.specs.Prelude.{Ok}
use Rattle.lp_events.specs.declared.item.Item.TheVariants as items
use Rattle.lp_script.specs.Reader.{IsAfter}
use Rattle.lp_eventless.proofs.Readers.{begins_with}
use Rattle.lp_eventless.proofs.Starting.{event-fault, event-goes, first-not-behind, goes-start, is_first, read-whole, whole-behind}
use Rattle.lp_eventless.proofs.reading.read_end.Goals as goal

pub returns-in-Ok-End-clause-whole : goal.returns-in-Ok-End-clause-whole
returns-in-Ok-End-clause-whole g c = λ b xs a h.
    let r = c.args.reader.now in
    let is = c.in-Ok-End.field-0-is in
    let w = whole-behind b r xs c.in-Ok-End.field-0 a is (c.in-Ok-End.ensures.end b (xs ++ items.Start ∷ []) (goes-start r xs a) a.given h is) in
    let p = subst (λ x. IsAfter (Ok x) c.next_item.new.reader.phase) is c.in-Ok-End.ensures.phase in
    (w, read-whole b c.next_item.new.reader _ p (c.in-Ok-End.ensures.reads b h) w.short)

pub returns-in-Ok-Event-clause-end : goal.returns-in-Ok-Event-clause-end
returns-in-Ok-Event-clause-end g c = λ b xs a h.
    let r = c.args.reader.now in
    let new = c.next_item.new.reader in
    let is = c.in-Ok-Event.field-0-is in
    let goes = goes-start r xs a in
    let holds = begins_with b new _ _ (c.in-Ok-Event.ensures.reads b h) (event-goes new c.in-Ok-Event.field-0 c.in-Ok-Event._event is c.in-Ok-Event.ensures.phase) (c.in-Ok-Event.ensures.given (xs ++ items.Start ∷ []) goes a.given) in
    event-fault b r new xs c.in-Ok-Event.field-0 c.in-Ok-Event._event _ a is holds (c.at.ensures ∙ c.in-Ok-Event.ensures.place goes)

pub returns-in-Err-clause-end : goal.returns-in-Err-clause-end
returns-in-Err-clause-end g c = λ b xs a h.
    let e = c.in-Err.ensures.fault b (xs ++ items.Start ∷ []) (goes-start c.args.reader.now xs a) a.given h in
    (e.read, e.ends)

pub unreachable-requires : goal.unreachable-requires
unreachable-requires g c =
    let a = c.requires in
    first-not-behind c.next_item.new.reader a.0 c.in-Ok-Head.field-0 (ap is_first c.in-Ok-Head.field-0-is) (c.in-Ok-Head.ensures.given (a.0 ++ items.Start ∷ []) (goes-start c.args.reader.now a.0 a.1) a.1.given)

pub unreachable-requires-in-Ok-File : goal.unreachable-requires-in-Ok-File
unreachable-requires-in-Ok-File g c =
    let a = c.requires in
    first-not-behind c.next_item.new.reader a.0 c.in-Ok-File.field-0 (ap is_first c.in-Ok-File.field-0-is) (c.in-Ok-File.ensures.given (a.0 ++ items.Start ∷ []) (goes-start c.args.reader.now a.0 a.1) a.1.given)

pub unreachable-requires-in-Ok-Start : goal.unreachable-requires-in-Ok-Start
unreachable-requires-in-Ok-Start g c =
    let a = c.requires in
    first-not-behind c.next_item.new.reader a.0 c.in-Ok-Start.field-0 (ap is_first c.in-Ok-Start.field-0-is) (c.in-Ok-Start.ensures.given (a.0 ++ items.Start ∷ []) (goes-start c.args.reader.now a.0 a.1) a.1.given)
