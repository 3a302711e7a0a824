use Rattle.std.proofs.Common.{rules}
use Rattle.lp_world.proofs.versions.VersionTable.add.Goals as goal

pub returns-clause-ok : goal.returns-clause-ok
returns-clause-ok c = record { version = c.in_ok-version.version; after = search (rules); is = search (rules) }
