use Rattle.std.proofs.Common.{◌≡◌, ◌∙◌, ap, string_bytes}
use Rattle.std.proofs.lemmas.Map.Text.{btree_map_updates_text}
use Rattle.std.proofs.lemmas.Result.{IfOk-at_ok}
use Rattle.std.specs.Option.{option_map}
use Rattle.lp_files.proofs.FileLemmas.{option_map-cond}
use Rattle.lp_folder.proofs.memory.MemFiles.put.Goals as goal

pub returns-in-Ok-clause-ok : goal.returns-in-Ok-clause-ok
returns-in-Ok-clause-ok c = λ q.
    let own_is = IfOk-at_ok (λ s. string_bytes s ≡ c.args.path.now) c.in_ok-own.was c.from_str.ensures.ok in
    let same = IfOk-at_ok (λ v. v.items ≡ c.args.bytes.now) c.in_ok-content.was c.from_slice.ensures.items in
    rw (← own_is, ← same) (ap (option_map (λ v. v.items)) (btree_map_updates_text (string_bytes c.in_ok-own.own) c.args.self.now.files c.insert.new.self _ c.in-Ok.ensures.updates q) ∙ option_map-cond (λ v. v.items) _ _ _)
