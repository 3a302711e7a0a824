use Rattle.std.proofs.Common.{◌∙◌, ap}
use Rattle.lp_making.specs.Objects.{without_watches}
use Rattle.lp_making.proofs.Watched.{first_back}
use Rattle.lp_making.proofs.watches.watch_new.Goals as goal

pub returns-in-Err-clause-err : goal.returns-in-Err-clause-err
returns-in-Err-clause-err c =
    c.unwatch.ensures
    ∙ ap (λ t. without_watches t c.args.ob) (c.in-Err.ensures.err ∙ c.in_ok-watch_if.ensures.ok)
    ∙ first_back c.args.timers.now c.args.reset c.args.ob c.args.now c.requires.fresh
