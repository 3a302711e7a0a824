use Rattle.std.proofs.Common.{rules, Some, ap, sym, ◌∙◌}
use Rattle.std.specs.Option.{option_map}
use Rattle.std.proofs.lemmas.Map.Text.{btree_map_updates_text}
use Rattle.lp_files.specs.Store.{bytes_at}
use Rattle.lp_files.proofs.FileLemmas.{grown_there, option_map-cond, same_there}
use Rattle.lp_files.proofs.store.extend_file.Goals as goal

pub returns-in-Ok-clause-extended : goal.returns-in-Ok-clause-extended
returns-in-Ok-clause-extended c = λ q.
    let after = (c.get_mut.follows.holds c.extend_from_slice.new.self).3 (search rules) in
    ap (option_map (λ v. v.items)) (btree_map_updates_text c.args.path.now c.args.files.now (c.get_mut.follows.lender c.extend_from_slice.new.self) (Some c.extend_from_slice.new.self) after q)
    ∙ option_map-cond (λ v. v.items) _ _ _
    ∙ grown_there c.args.path.now (bytes_at c.args.files.now) c.in-Some.content.now.items c.args.bytes.now c.extend_from_slice.new.self.items
    (ap (option_map (λ v. v.items)) (sym c.in-Some.ensures.value)) c.in-Ok.ensures.items q

pub returns-in-Err-clause-same : goal.returns-in-Err-clause-same
returns-in-Err-clause-same c = λ q.
    let after = (c.get_mut.follows.holds c.extend_from_slice.new.self).3 (search rules) in
    ap (option_map (λ v. v.items)) (btree_map_updates_text c.args.path.now c.args.files.now (c.get_mut.follows.lender c.extend_from_slice.new.self) (Some c.extend_from_slice.new.self) after q)
    ∙ option_map-cond (λ v. v.items) _ _ _
    ∙ same_there c.args.path.now (bytes_at c.args.files.now) c.in-Some.content.now.items c.extend_from_slice.new.self.items
    (ap (option_map (λ v. v.items)) (sym c.in-Some.ensures.value)) c.in-Err.ensures.items q
