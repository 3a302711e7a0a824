use Rattle.std.proofs.Common.{sym, ap}
use Rattle.std.specs.Option.{option_map}
use Rattle.lp_files.proofs.FileLemmas.{none_at}
use Rattle.lp_files.proofs.store.Store.read_bytes.Goals as goal

pub returns-in-Err : goal.returns-in-Err
returns-in-Err c = sym (ap (option_map (λ v. v.items)) (none_at c.args.path.now c.in-Err.ensures.cases.0 c.args.self.now.files.entries))
