use Rattle.std.proofs.Common.{◌≡◌, ◌∙◌, ◌+◌, ◌++◌, ◌∷◌, [], ℕ, List, ap, rules, sym, take}
use Rattle.std.proofs.Math.Logic.{∥∥₁_elim}
use Rattle.std.proofs.Props.{props}
use Rattle.std.proofs.lemmas.List.{take_all, take_more}
use Rattle.std.proofs.lemmas.Str.{chars_from_encodes, encodes-append}
use Rattle.std.proofs.Math.Utf8.{encode, encodes}
use Rattle.std.specs.Str.{chars}
use Rattle.std.specs.String.{string_bytes}
use Rattle.lp_turn.proofs.simul.string_of.Goals as goal

list_set : (a b : List ℕ) → IsProp (a ≡ b)
list_set = hlevel props

pub loop-c-preserved : goal.loop-c-preserved
loop-c-preserved c =
    let cs = c.args.all.now in
    let i = c.loop-c.c-index in
    let x = c.c-item.result in
    let t : take (i + 1) cs ≡ take i cs ++ x ∷ [] = take_more cs i x c.loop-c-test.true ∙ ap (λ y. take i cs ++ y ∷ []) (sym c.c-item.is) in
    let v : encode x ≡ encodes (x ∷ []) = search rules in
    c.in_ok-push.ensures.bytes ∙ ap (λ b. b ++ encode x) c.loop-c.invariant ∙ ap (λ b. encodes (take i cs) ++ b) v ∙ sym (ap encodes t ∙ encodes-append (take i cs) (x ∷ []))

pub returns : goal.returns
returns c =
    let e : encodes c.args.all.now ≡ string_bytes c.loop-c.s = search (rules, take_all) in
    ∥∥₁_elim c.loop-c.s.ok (list_set c.args.all.now (chars (string_bytes c.loop-c.s))) (λ u. chars_from_encodes c.args.all.now (string_bytes c.loop-c.s) u e)
