use Rattle.lp_tree.proofs.Keywords.{reserved_found, reserved_only}
use Rattle.lp_tree.proofs.reserved.reserved_words.Goals as goal

pub returns : goal.returns
returns c = record { found = reserved_found; only = reserved_only }
