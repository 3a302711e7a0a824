use Rattle.std.proofs.Common.{◌≡◌, ◌∙◌, sym, inl, inr, ap}
use Rattle.lp_lexer.specs.Walks.{place_of}
use Rattle.lp_lexer.specs.Source.{code_at}
use Rattle.std.specs.Prelude.{◌⊎◌, Some}
use Rattle.lp_lexer.proofs.Walking.{token_next}
use Rattle.lp_lexer.proofs.lexer.go_on.Goals as goal
use Rattle.lp_lexer.proofs.lexer.go_on.Goals.{then-sign-eq47+else-second-eq47+else-second-eq42, else-sign-eq47}

pub returns : goal.returns
returns c =
    let second = code_at 1 c.args.lexer.now.cursor.left in
    let o : (c.in-Some.sign.code ≡ 47 → ⊥) ⊎ ((second ≡ 47 → ⊥) × (second ≡ 42 → ⊥)) =
    elim c.if-sign-eq47.branch [
      | then-sign-eq47+else-second-eq47+else-second-eq42 w ↦ inr ((λ e. w.if-second-eq47.false (w.codes-second.ensures.second ∙ e)), (λ e. w.if-second-eq42.false (w.codes-second.ensures.second ∙ e)))
      | else-sign-eq47 w ↦ inl w.if-sign-eq47.false
    ] in
    token_next (place_of c.args.lexer.now) c.in-Some.sign (c.in-Some.ensures) (sym c.is_blank.ensures ∙ c.if-is_blank.false) o ∙ ap Some (sym c.in_ok-take_token.ensures)
