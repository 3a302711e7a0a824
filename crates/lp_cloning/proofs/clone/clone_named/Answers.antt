use Rattle.std.proofs.Common.{Ok}
use Rattle.lp_cloning.proofs.Telling.{taken_made, tells_first, tells_made}
use Rattle.std.proofs.Common.{sym, subst}
use Rattle.std.specs.Str.{chars}
use Rattle.lp_cloning.specs.Beginning.{StartsAs, made_named}
use Rattle.lp_cloning.proofs.Cloned.{named_starts}
use Rattle.lp_cloning.proofs.clone.clone_named.Goals as goal

pub returns-in-Ok-clause-starts : goal.returns-in-Ok-clause-starts
returns-in-Ok-clause-starts g c =
    let told = g.W.SwapFile.content c.args.swap.now in
    let name = chars c.args.name.now in
    subst (λ r. StartsAs r (made_named name c.args.version) told c.args.live.now c.begin.new.live) (sym c.begun_of.ensures) (named_starts c.in-Ok.made name c.args.version told c.args.live.now c.begin.new.live c.in-Ok.ensures.begins)

pub returns-in-Ok-clause-tells : goal.returns-in-Ok-clause-tells
returns-in-Ok-clause-tells g c = tells_first (Ok tt) c.in-Ok.ensures.brings

pub returns-in-Err-clause-tells : goal.returns-in-Err-clause-tells
returns-in-Err-clause-tells g c = tells_made c.in-Err.e c.from.result c.from.ensures c.in-Err.ensures.brings

pub returns-in-Err-clause-refused : goal.returns-in-Err-clause-refused
returns-in-Err-clause-refused g c = taken_made (g.W.SwapFile.content c.args.swap.now) c.args.live.now (chars c.args.name.now) c.in-Err.e c.from.result c.from.ensures c.in-Err.ensures.refused
