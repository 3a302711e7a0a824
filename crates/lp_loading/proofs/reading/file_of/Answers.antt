use Rattle.std.proofs.Common.{◌∙◌, ◌++◌, ap, codes}
use Rattle.lp_loading.proofs.Worlds.{file_is_bytes}
use Rattle.lp_loading.proofs.reading.file_of.Goals as goal

pub returns : goal.returns
returns c = c.in_ok-push_str.ensures.bytes ∙ ap (λ x. x ++ codes ".c") c.in_ok-path.ensures.bytes ∙ file_is_bytes c.args.name.now
