use Rattle.std.proofs.Common.{◌∙◌, ap, pos, sym}
use Rattle.lp_ops.specs.Integers.{int}
use Rattle.lp_meaning.specs.WorldEfuns.{Yields, deed}
use Rattle.lp_efuns.specs.Deeds.{bounded}
use Rattle.lp_efuns.proofs.looks.time.Goals as goal

pub returns-clause-looks : goal.returns-clause-looks
unfolding deed
returns-clause-looks c = λ caller vs turn g b d s sc h.
    ap (λ n. Yields (int (pos n)) s) (sym h.stands.rest.clock) ∙ ap (λ e. Yields (bounded e) s) (sym c.count_effect.ensures.value)
