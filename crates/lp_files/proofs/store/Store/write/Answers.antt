use Rattle.std.proofs.Common.{◌≡◌, ◌∙◌, ap, string_bytes}
use Rattle.std.specs.Map.{lookup}
use Rattle.std.specs.Ordering.{nat_cmp}
use Rattle.std.specs.BTreeMap.{is_at}
use Rattle.std.specs.Cmp.Lexicographic.{slice_cmp}
use Rattle.std.proofs.lemmas.Map.Text.{btree_map_updates_text}
use Rattle.std.proofs.lemmas.Result.{IfOk-at_ok}
use Rattle.std.specs.Option.{option_map}
use Rattle.lp_files.proofs.FileLemmas.{option_map-cond, undone}
use Rattle.lp_files.proofs.store.Store.write.Goals as goal

pub returns-in-Ok-clause-files : goal.returns-in-Ok-clause-files
returns-in-Ok-clause-files c = λ q.
    let own_is = IfOk-at_ok (λ s. string_bytes s ≡ c.args.path.now) c.in_ok-own.was c.from_str.ensures.ok in
    let same = IfOk-at_ok (λ v. v.items ≡ c.args.bytes.now) c.in_ok-content.was c.from_slice.ensures.items in
    rw (← own_is, ← same) (ap (option_map (λ v. v.items)) (btree_map_updates_text (string_bytes c.in_ok-own.own) c.args.self.now.files c.insert.new.self _ c.in-Ok.ensures.updates q) ∙ option_map-cond (λ v. v.items) _ _ _)

pub returns-clause-err : goal.returns-clause-err
returns-clause-err c = record {
  files = λ q. ap (λ es. option_map (λ v. v.items) (lookup (is_at (λ k. slice_cmp nat_cmp q (string_bytes k))) es)) c.in-Err.ensures.err;
  changed = c.take_back.ensures ∙ undone c.in_ok-fresh.fresh c.args.path.now c.args.self.now.changed c.add.new.self c.in_ok-fresh.ensures.fresh c.in_ok-fresh.ensures.there c.in_ok-fresh.ensures.ok;
}
