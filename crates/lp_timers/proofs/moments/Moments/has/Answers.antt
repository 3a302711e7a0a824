use Rattle.std.proofs.Common.{Option, ℕ, is_some, ◌≡◌, None, Some, refl, ap, ◌∙◌}
use Rattle.lp_timers.proofs.MarkLemmas.{has_is, has_number}
use Rattle.lp_timers.proofs.moments.Moments.has.Goals as goal

as_some : (q : Option ℕ) → is_some q ≡ has_number q
as_some None = refl
as_some (Some n) = refl

pub returns : goal.returns
returns c = c.is_some.ensures ∙ ap is_some c.number.ensures.number ∙ as_some _ ∙ has_is c.args.kind c.args.ob c.args.self.now.lines
