use Rattle.std.proofs.Common.{◌∙◌}
use Rattle.std.specs.Str.{chars}
use Rattle.lp_meaning.specs.Askers.{cause_text}
use Rattle.lp_asking.specs.Endings.{cause_of}
use Rattle.std.proofs.Common.{ap, ◌++◌}
use Rattle.lp_targets.proofs.Lookups.{if_ok}
use Rattle.lp_beginning.proofs.Words.{stop_put}
use Rattle.lp_beginning.proofs.report.stop_words.Goals as goal

pub returns : goal.returns
unfolding chars
returns c =
    let cause = cause_text (cause_of c.args.cause.now) in
    if_ok c.from_vec.result (λ t e.
    e ∙ stop_put cause c.args.place.now c.in_ok-text.text.items c.extend_from_slice.new.self.items c.extend_from_slice-2.new.self.items
    c.in_ok-text.ensures (c.in_ok-extend_from_slice.ensures.items ∙ ap (λ z. c.in_ok-text.text.items ++ z) (c.as_slice.ensures.value ∙ c.in_ok-words.ensures)) c.in_ok-extend_from_slice-2.ensures.items)
    c.from_vec.ensures
