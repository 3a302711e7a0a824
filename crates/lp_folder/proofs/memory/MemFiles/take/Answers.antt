use Rattle.std.proofs.Common.{◌∙◌, ap}
use Rattle.std.proofs.lemmas.Map.Text.{btree_map_updates_text}
use Rattle.std.specs.Option.{option_map}
use Rattle.lp_files.proofs.FileLemmas.{option_map-cond}
use Rattle.lp_folder.proofs.memory.MemFiles.take.Goals as goal

pub returns-clause-files : goal.returns-clause-files
returns-clause-files c = λ q. ap (option_map (λ v. v.items)) (btree_map_updates_text c.args.path.now c.args.self.now.files c.remove.new.self _ c.remove.ensures.updates q) ∙ option_map-cond (λ v. v.items) _ _ _
