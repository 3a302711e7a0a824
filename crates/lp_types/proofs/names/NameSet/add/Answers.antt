use Rattle.std.proofs.Common.{◌≡◌, true, not, sym, ap, ◌∙◌, rules}
use Rattle.std.specs.List.{list_any}
use Rattle.std.proofs.lemmas.Bool.{MatchBool-at_true}
use Rattle.lp_instr.specs.EfunList.{is_name}
use Rattle.lp_types.proofs.NameLemmas.{known, put}
use Rattle.lp_types.proofs.names.NameSet.add.Goals as goal

pub returns-then-has : goal.returns-then-has
returns-then-has c w = known c.args.self.now.names.keys c.args.name.now w (sym c.has.ensures ∙ c.if-has.true)

pub returns : goal.returns
returns c w =
    let key = c.in_ok-key.key in
    let items : key.items ≡ c.args.name.now = search rules in
    let new_one : c.in_ok-insert.field-0 ≡ true = c.in_ok-insert.ensures.added ∙ ap (λ v. not (list_any (λ k. is_name v k.items) c.args.self.now.names.keys)) items ∙ ap not (sym c.has.ensures ∙ c.if-has.false) in
    put c.args.self.now.names.keys c.insert.new.self.keys key c.args.name.now w items (MatchBool-at_true _ _ new_one c.in_ok-insert.ensures.keys)
