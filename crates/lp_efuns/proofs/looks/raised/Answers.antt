use Rattle.std.proofs.Common.{◌∙◌, ap, sym}
use Rattle.lp_values.specs.Errors.{error}
use Rattle.lp_values.specs.declared.error.ErrorKind.TheVariants.{Raised}
use Rattle.lp_ops.specs.declared.effect.Effect.TheVariants.{Fault}
use Rattle.lp_language.specs.Operations.{cells_of, living}
use Rattle.lp_meaning.specs.WorldEfuns.{Yields, deed}
use Rattle.lp_efuns.proofs.looks.raised.Goals as goal

pub returns-clause-looks : goal.returns-clause-looks
unfolding deed
returns-clause-looks c = λ caller turn g b d s sc h.
    ap (λ t. Yields (Fault (error Raised t)) s) (sym (c.text_at.ensures (living s) (cells_of s))) ∙ ap (λ e. Yields (Fault e) s) (sym c.in_ok-new.ensures)
