use Rattle.std.proofs.Common.{◌≡◌, ◌∙◌, ◌++◌, ◌∷◌, [], None, length, sym, rules}
use Rattle.std.proofs.lemmas.Result.{IfOk-at_ok}
use Rattle.lp_preproc.proofs.TableLemmas.{after_change, at_letters, none_of_get, place_of-more}
use Rattle.lp_preproc.proofs.params.Distinct.add.Goals as goal

pub invariant_of-self-2 : goal.invariant_of-self-2
invariant_of-self-2 c = λ q.
    let name = c.args.name.now in
    let names = c.self.inside.names.items in
    let missing : at_letters c.self.inside.places name ≡ None = none_of_get (λ b. b.now) c.get.result _ (search rules) (search rules) in
    let letters = IfOk-at_ok (λ v. v.items ≡ c.as_slice-2.result.now) c.in_ok-letters.was c.from_slice.ensures.items ∙ c.as_slice-2.ensures in
    let own : c.in_ok-own.own ≡ name = search rules in
    let new : c.push.new.self.items ≡ names ++ name ∷ [] = search rules in
    let place : c.len-place.result ≡ length names = search rules in
    after_change c.in_ok-letters.letters.items c.self.inside.places c.insert.new.self _ c.in_ok-insert.ensures.updates q
    ∙ rw (letters, place, c.self.invariant q, new) (sym (place_of-more q name names (sym (c.self.invariant name) ∙ missing)))
