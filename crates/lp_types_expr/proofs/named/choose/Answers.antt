use Rattle.std.proofs.Common.{◌≡◌, List, [], ◌∷◌, ◌++◌, true, false, cond, sym, ap, subst, ◌∙◌, rules}
use Rattle.lp_types_expr.specs.declared.chosen.Chosen.{Chosen}
use Rattle.lp_types_expr.specs.declared.parent.Parent.{Parent}
use Rattle.lp_types_expr.specs.ParentRows.{Chooses}
use Rattle.lp_types_expr.proofs.Choosing.{nil_right}
use Rattle.lp_types_expr.proofs.named.choose.Goals as goal

pub returns-then-not-fits : goal.returns-then-not-fits
returns-then-not-fits c = λ all qs q there h.
    let no : c.args.fits ≡ false = search rules in
    subst (λ (l : List Parent). Chooses all l c.args.chosen) (sym (ap (λ b. qs ++ cond b (q ∷ []) []) no ∙ nil_right qs)) h

pub returns-in-Nothing : goal.returns-in-Nothing
returns-in-Nothing c = λ all qs q there h.
    let yes : c.args.fits ≡ true = search rules in
    let e : qs ≡ [] = subst (λ (x : Chosen). Chooses all qs x) c.in-Nothing.is h in
    (q, there, ap (λ b. qs ++ cond b (q ∷ []) []) yes ∙ ap (λ (l : List Parent). l ++ q ∷ []) e)

pub returns-in-One : goal.returns-in-One
returns-in-One c = λ all qs q there h.
    let yes : c.args.fits ≡ true = search rules in
    let e = subst (λ (x : Chosen). Chooses all qs x) c.in-One.is h in
    (e.0, q, [], ap (λ b. qs ++ cond b (q ∷ []) []) yes ∙ ap (λ (l : List Parent). l ++ q ∷ []) e.2)

pub returns-in-Several : goal.returns-in-Several
returns-in-Several c = λ all qs q there h.
    let e = subst (λ (x : Chosen). Chooses all qs x) c.in-Several.is h in
    (e.0, e.1, e.2 ++ cond c.args.fits (q ∷ []) [], ap (λ (l : List Parent). l ++ cond c.args.fits (q ∷ []) []) e.3)
