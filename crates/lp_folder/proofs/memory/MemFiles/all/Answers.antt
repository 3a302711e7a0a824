use Rattle.std.proofs.Common.{refl}
use Rattle.lp_folder.specs.Memory.{held_of}
use Rattle.lp_folder.proofs.InMemory.{whole_of, holds_all, holds_all_told, are_paths}
use Rattle.lp_folder.proofs.memory.MemFiles.all.Goals as goal

pub returns-clause-all : goal.returns-clause-all
returns-clause-all c =
    holds_all_told c.loop-path.files.items (held_of c.args.self.now) (λ q path. holds_all c.loop-path.files.items c.args.self.now.files.entries (whole_of _ _ _ c.in-None.ensures.steps.0 c.loop-path.invariant) q path)

pub returns-clause-paths : goal.returns-clause-paths
returns-clause-paths c =
    are_paths _ (λ a b. refl) c.loop-path.files.items c.args.self.now.files.entries (whole_of _ _ _ c.in-None.ensures.steps.0 c.loop-path.invariant) c.iter-path-items.ensures.ordered
