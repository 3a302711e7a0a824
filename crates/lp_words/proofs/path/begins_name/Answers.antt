use Rattle.lp_words.proofs.PathLaws.{split-within, split-begun}
use Rattle.lp_words.proofs.path.begins_name.Goals as goal

pub split_at-requires : goal.split_at-requires
split_at-requires c = split-within c.args.word.now c.path_len.result c.path_len.ensures

pub returns : goal.returns
returns c = split-begun c.args.word.now _ _ c.path_len.result _ c.path_len.ensures c.split_at.ensures.front c.split_at.ensures.back c.begins_with_parts.ensures
