use Rattle.std.proofs.Common.{◌≡◌, Some, cond, ap, ◌∙◌}
use Rattle.std.proofs.lemmas.Result.{IfOk-at_ok}
use Rattle.lp_preproc.specs.Macros.{same_name}
use Rattle.lp_preproc.proofs.TableLemmas.{after_change, at_letters, same_table}
use Rattle.lp_preproc.proofs.table.Table.put.Goals as goal

pub returns : goal.returns
returns c =
    let key = c.in_ok-from_slice.field-0 in
    let is = IfOk-at_ok (λ v. v.items ≡ c.args.name.now) c.in_ok-from_slice.was c.from_slice.ensures.items in
    same_table _ _ (λ q.
    after_change key.items c.args.self.now.macros c.insert.new.self _ c.in_ok-insert.ensures.updates q
    ∙ ap (λ n. cond (same_name n q) (Some c.args.meaning) (at_letters c.args.self.now.macros q)) is)
