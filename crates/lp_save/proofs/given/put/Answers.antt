use Rattle.std.proofs.Common.{◌&&◌, cond, Some, ap, ◌∙◌}
use Rattle.std.specs.Prelude.{bytes_eq, nat_eq}
use Rattle.lp_save.specs.Names.{found_at}
use Rattle.lp_save.proofs.given.put.Goals as goal

pub returns : goal.returns
returns c = λ q k.
    c.in_ok-insert.ensures.updates.0 (record { name = q; before = k })
    ∙ ap (λ n. cond (bytes_eq n q && nat_eq c.args.before k) (Some c.in_ok-copy-2.field-0) (found_at c.args.found.now q k)) c.in_ok-copy.ensures
    ∙ ap (λ v. cond (bytes_eq c.args.line.now.0 q && nat_eq c.args.before k) (Some v) (found_at c.args.found.now q k)) c.in_ok-copy-2.ensures
