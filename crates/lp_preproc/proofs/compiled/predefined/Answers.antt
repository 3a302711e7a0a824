use Rattle.std.proofs.Common.{◌∷◌, [], ap, ◌∙◌}
use Rattle.std.specs.Prelude.{codes}
use Rattle.lp_tree.specs.declared.token.TokenKind.TheVariants.{Text}
use Rattle.lp_preproc.specs.declared.macros.Body.TheVariants.{Tokens}
use Rattle.lp_preproc.specs.Macros.{plain, with_macro}
use Rattle.lp_preproc.proofs.compiled.predefined.Goals as goal

pub returns : goal.returns
returns c =
    let file = c.in_ok-put.ensures ∙ (λ i. with_macro (codes "__FILE__") (c.plain.ensures i) (c.new-table.ensures i)) in
    let line = c.in_ok-put-2.ensures ∙ (λ i. with_macro (codes "__LINE__") (c.plain-2.ensures i) (file i)) in
    let folder = c.in_ok-put-3.ensures ∙ (λ i. with_macro (codes "__DIR__") (c.plain-3.ensures i) (line i)) in
    let version = c.in_ok-version.ensures ∙ ap (λ t. plain (Tokens (Text t ∷ []))) c.in_ok-letters.ensures in
    let four = c.in_ok-put-4.ensures ∙ (λ i. with_macro (codes "__VERSION__") (version i) (folder i)) in
    let five = c.in_ok-put-5.ensures ∙ (λ i. with_macro (codes "LPC3") (c.in_ok-token.ensures i) (four i)) in
    c.in_ok-put-6.ensures ∙ (λ i. with_macro (codes "__LDMUD__") (c.in_ok-token-2.ensures i) (five i))
