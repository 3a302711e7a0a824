use Rattle.std.proofs.Common.{◌≡◌, ◌∙◌, ◌⊎◌, inl, inr, refl, subst, ap, Some, Err}
use Rattle.lp_top.proofs.Completeness.{completes}
use Rattle.lp_top.proofs.Swapping.{still-tells, never-blamed, check-calm, make-calm}
use Rattle.lp_top.proofs.Checking.{completes_check, checks_unread, replays_unread}
use Rattle.lp_top.specs.Check.{IsCheckEnd}
use Rattle.lp_top.specs.Make.{IsMakeEnd}
use Rattle.lp_top.specs.Replay.{IsReplayEnd}
use Rattle.lp_top.specs.Serves.{IsServeEnd}
use Rattle.lp_top.proofs.Making.{completes_make, makes_named, makes_nothing, none_not_serve, not_check, not_none, not_replay, not_serve, replays_named, serve_not_make, serves_named, serves_nothing}
use Rattle.lp_top.proofs.Serving.{not-files, not-wire}
use Rattle.lp_top.proofs.command.run.Goals as goal

either_not : {A B : Type 0} → A ⊎ B → (A → ⊥) → (B → ⊥) → ⊥
either_not (inl a) f g = f a
either_not (inr b) f g = g b

pub returns-in-Ok-Replay-clause-complete : goal.returns-in-Ok-Replay-clause-complete
returns-in-Ok-Replay-clause-complete g c = λ swap_time report b xs words told short script master honest true reads source sink zeros.
    let r = c.replay.ensures.replays b told in
    completes c.one_spelling.ensures c.one_end_of_the_start.ensures c.law_there_is_one.ensures b r.read xs c.replay.result short script master
    (λ e. source (c.replay.ensures.input_cause e)) (λ e. either_not (c.replay.ensures.output_cause e) sink zeros) (never-blamed c.replay.result _ _ _ _ _ _ _ _ c.replay.ensures.swap honest true reads) r.ends

pub returns-in-Ok-Check-clause-swap_fault : goal.returns-in-Ok-Check-clause-swap_fault
returns-in-Ok-Check-clause-swap_fault g c = still-tells c.check.result _ _ _ _ _ (check-calm c.check.result c.check.ensures.kind)

pub returns-in-Ok-Make-clause-swap_fault : goal.returns-in-Ok-Make-clause-swap_fault
returns-in-Ok-Make-clause-swap_fault g c = still-tells c.make.result _ _ _ _ _ (make-calm c.make.result c.make.ensures.kind)

pub returns-in-Ok-Check-clause-complete_check : goal.returns-in-Ok-Check-clause-complete_check
returns-in-Ok-Check-clause-complete_check g c = λ simul b xs words told short script source sink zeros.
    let r = c.check.ensures.checks b told in
    completes_check c.one_spelling.ensures b r.read xs c.check.result short script (λ e. source (c.check.ensures.input_cause e)) (λ e. either_not (c.check.ensures.output_cause e) sink zeros) r.ends

pub returns-in-Err-NoMemory-clause-replays : goal.returns-in-Err-NoMemory-clause-replays
returns-in-Err-NoMemory-clause-replays g c = λ swap_time report named b told. replays_unread swap_time report b _

pub returns-in-Err-NoMemory-clause-checks : goal.returns-in-Err-NoMemory-clause-checks
returns-in-Err-NoMemory-clause-checks g c = λ simul named b told. checks_unread simul b _

pub returns-in-Ok-Replay-clause-unread : goal.returns-in-Ok-Replay-clause-unread
returns-in-Ok-Replay-clause-unread g c = λ m. absurd (not_replay _ _ _ m.0 m.1 (c.in-Ok-Replay.ensures.named ∙ ap (λ x. Some x) c.in-Ok-Replay.field-0-is) m.2)

pub returns-in-Ok-Replay-clause-complete_make : goal.returns-in-Ok-Replay-clause-complete_make
returns-in-Ok-Replay-clause-complete_make g c = λ m sink zeros. absurd (not_replay _ _ _ m.0 m.1 (c.in-Ok-Replay.ensures.named ∙ ap (λ x. Some x) c.in-Ok-Replay.field-0-is) m.2)

pub returns-in-Ok-Check-clause-unread : goal.returns-in-Ok-Check-clause-unread
returns-in-Ok-Check-clause-unread g c = λ m. absurd (not_check _ _ m.0 m.1 (c.in-Ok-Check.ensures.named ∙ ap (λ x. Some x) c.in-Ok-Check.field-0-is) m.2)

pub returns-in-Ok-Check-clause-complete_make : goal.returns-in-Ok-Check-clause-complete_make
returns-in-Ok-Check-clause-complete_make g c = λ m sink zeros. absurd (not_check _ _ m.0 m.1 (c.in-Ok-Check.ensures.named ∙ ap (λ x. Some x) c.in-Ok-Check.field-0-is) m.2)

pub returns-in-Ok-Make-clause-words : goal.returns-in-Ok-Make-clause-words
returns-in-Ok-Make-clause-words g c = λ e. absurd (subst IsMakeEnd e c.make.ensures.kind)

pub returns-in-Ok-Make-clause-makes : goal.returns-in-Ok-Make-clause-makes
returns-in-Ok-Make-clause-makes g c = λ count seed e. makes_named _ _ _ count seed c.make.result _ _ (c.in-Ok-Make.ensures.named ∙ ap (λ x. Some x) c.in-Ok-Make.field-0-is) e c.make.ensures.makes

pub returns-in-Ok-Make-clause-whole : goal.returns-in-Ok-Make-clause-whole
returns-in-Ok-Make-clause-whole g c = λ done other served b told. absurd (other (c.in-Ok-Make.count, c.in-Ok-Make.seed, (c.in-Ok-Make.ensures.named ∙ ap (λ x. Some x) c.in-Ok-Make.field-0-is)))

pub returns-in-Ok-Make-clause-input_fault : goal.returns-in-Ok-Make-clause-input_fault
returns-in-Ok-Make-clause-input_fault g c = λ e. absurd (subst IsMakeEnd e c.make.ensures.kind)

pub returns-in-Ok-Make-clause-complete_make : goal.returns-in-Ok-Make-clause-complete_make
returns-in-Ok-Make-clause-complete_make g c = λ m sink zeros. completes_make c.make.result c.make.ensures.kind (λ e. either_not (c.make.ensures.output_cause e) sink zeros)

pub returns-in-Err-BadWords-clause-complete_make : goal.returns-in-Err-BadWords-clause-complete_make
returns-in-Err-BadWords-clause-complete_make g c = λ m sink zeros. absurd (not_none _ m.0 m.1 (c.command_of.ensures.refused (subst (λ f. c.command_of.result ≡ Err f) c.in-Err-BadWords.field-0-is c.in-Err-BadWords.is)) m.2)

pub returns-in-Err-NoMemory-clause-makes : goal.returns-in-Err-NoMemory-clause-makes
returns-in-Err-NoMemory-clause-makes g c = λ count seed named. makes_nothing count seed _

pub returns-in-Ok-Replay-clause-swapless : goal.returns-in-Ok-Replay-clause-swapless
returns-in-Ok-Replay-clause-swapless g c = λ h served. absurd (h _ _ (c.in-Ok-Replay.ensures.named ∙ ap (λ x. Some x) c.in-Ok-Replay.field-0-is))

pub returns-in-Ok-Replay-clause-replays : goal.returns-in-Ok-Replay-clause-replays
returns-in-Ok-Replay-clause-replays g c = λ swap_time report e b told. replays_named _ _ swap_time _ report b c.replay.result _ _ (c.in-Ok-Replay.ensures.named ∙ ap (λ x. Some x) c.in-Ok-Replay.field-0-is) e (c.replay.ensures.replays b told)

pub returns-in-Ok-Replay-clause-unread_serving : goal.returns-in-Ok-Replay-clause-unread_serving
returns-in-Ok-Replay-clause-unread_serving g c = λ m. absurd (not_serve _ _ m.0 refl (c.in-Ok-Replay.ensures.named ∙ ap (λ x. Some x) c.in-Ok-Replay.field-0-is) m.1)

pub returns-in-Ok-Check-clause-unread_serving : goal.returns-in-Ok-Check-clause-unread_serving
returns-in-Ok-Check-clause-unread_serving g c = λ m. absurd (not_serve _ _ m.0 refl (c.in-Ok-Check.ensures.named ∙ ap (λ x. Some x) c.in-Ok-Check.field-0-is) m.1)

pub returns-in-Err-NoMemory-clause-serves : goal.returns-in-Err-NoMemory-clause-serves
returns-in-Err-NoMemory-clause-serves g c = λ serving named. serves_nothing serving _ _ _ _ _ _

pub returns-in-Ok-Serve-clause-words : goal.returns-in-Ok-Serve-clause-words
returns-in-Ok-Serve-clause-words g c = λ e. absurd (subst IsServeEnd e c.serve.ensures.kind)

pub returns-in-Ok-Serve-clause-serves : goal.returns-in-Ok-Serve-clause-serves
returns-in-Ok-Serve-clause-serves g c = λ serving e. serves_named _ _ serving _ _ _ _ _ _ _ _ c.serve.result (c.in-Ok-Serve.ensures.named ∙ ap (λ x. Some x) c.in-Ok-Serve.field-0-is) e c.serve.ensures.serves

pub returns-in-Ok-Serve-clause-unserved : goal.returns-in-Ok-Serve-clause-unserved
returns-in-Ok-Serve-clause-unserved g c = λ h. absurd (h (c.in-Ok-Serve.serving, (c.in-Ok-Serve.ensures.named ∙ ap (λ x. Some x) c.in-Ok-Serve.field-0-is)))

pub returns-in-Ok-Serve-clause-whole : goal.returns-in-Ok-Serve-clause-whole
returns-in-Ok-Serve-clause-whole g c = λ done other served b told. absurd (served (c.in-Ok-Serve.serving, (c.in-Ok-Serve.ensures.named ∙ ap (λ x. Some x) c.in-Ok-Serve.field-0-is)))

pub returns-in-Ok-Serve-clause-input_fault : goal.returns-in-Ok-Serve-clause-input_fault
returns-in-Ok-Serve-clause-input_fault g c = λ e. absurd (subst IsServeEnd e c.serve.ensures.kind)

pub returns-in-Ok-Serve-clause-swapless : goal.returns-in-Ok-Serve-clause-swapless
returns-in-Ok-Serve-clause-swapless g c = λ h served. absurd (served (c.in-Ok-Serve.serving, (c.in-Ok-Serve.ensures.named ∙ ap (λ x. Some x) c.in-Ok-Serve.field-0-is)))

pub returns-in-Ok-Serve-clause-complete_make : goal.returns-in-Ok-Serve-clause-complete_make
returns-in-Ok-Serve-clause-complete_make g c = λ m sink zeros. absurd (serve_not_make _ c.in-Ok-Serve.serving m.0 m.1 (c.in-Ok-Serve.ensures.named ∙ ap (λ x. Some x) c.in-Ok-Serve.field-0-is) m.2)

pub returns-in-Ok-Replay-clause-files_fault : goal.returns-in-Ok-Replay-clause-files_fault
returns-in-Ok-Replay-clause-files_fault g c = not-files c.replay.result _ _ (λ path e. subst IsReplayEnd e c.replay.ensures.kind)

pub returns-in-Ok-Replay-clause-wire_fault : goal.returns-in-Ok-Replay-clause-wire_fault
returns-in-Ok-Replay-clause-wire_fault g c = not-wire c.replay.result _ (λ e. subst IsReplayEnd e c.replay.ensures.kind)

pub returns-in-Ok-Replay-clause-complete_serving : goal.returns-in-Ok-Replay-clause-complete_serving
returns-in-Ok-Replay-clause-complete_serving g c = λ m n. absurd (not_serve _ _ m.0 refl (c.in-Ok-Replay.ensures.named ∙ ap (λ x. Some x) c.in-Ok-Replay.field-0-is) m.1)

pub returns-in-Ok-Check-clause-files_fault : goal.returns-in-Ok-Check-clause-files_fault
returns-in-Ok-Check-clause-files_fault g c = not-files c.check.result _ _ (λ path e. subst IsCheckEnd e c.check.ensures.kind)

pub returns-in-Ok-Check-clause-wire_fault : goal.returns-in-Ok-Check-clause-wire_fault
returns-in-Ok-Check-clause-wire_fault g c = not-wire c.check.result _ (λ e. subst IsCheckEnd e c.check.ensures.kind)

pub returns-in-Ok-Check-clause-complete_serving : goal.returns-in-Ok-Check-clause-complete_serving
returns-in-Ok-Check-clause-complete_serving g c = λ m n. absurd (not_serve _ _ m.0 refl (c.in-Ok-Check.ensures.named ∙ ap (λ x. Some x) c.in-Ok-Check.field-0-is) m.1)

pub returns-in-Ok-Make-clause-files_fault : goal.returns-in-Ok-Make-clause-files_fault
returns-in-Ok-Make-clause-files_fault g c = not-files c.make.result _ _ (λ path e. subst IsMakeEnd e c.make.ensures.kind)

pub returns-in-Ok-Make-clause-wire_fault : goal.returns-in-Ok-Make-clause-wire_fault
returns-in-Ok-Make-clause-wire_fault g c = not-wire c.make.result _ (λ e. subst IsMakeEnd e c.make.ensures.kind)

pub returns-in-Ok-Make-clause-complete_serving : goal.returns-in-Ok-Make-clause-complete_serving
returns-in-Ok-Make-clause-complete_serving g c = λ m n. absurd (not_serve _ _ m.0 refl (c.in-Ok-Make.ensures.named ∙ ap (λ x. Some x) c.in-Ok-Make.field-0-is) m.1)

pub returns-in-Err-BadWords-clause-complete_serving : goal.returns-in-Err-BadWords-clause-complete_serving
returns-in-Err-BadWords-clause-complete_serving g c = λ m n. absurd (none_not_serve _ m.0 (c.command_of.ensures.refused (subst (λ f. c.command_of.result ≡ Err f) c.in-Err-BadWords.field-0-is c.in-Err-BadWords.is)) m.1)

pub returns-in-Ok-Serve-clause-complete_serving : goal.returns-in-Ok-Serve-clause-complete_serving
returns-in-Ok-Serve-clause-complete_serving g c = λ m n. c.serve.ensures.complete n
