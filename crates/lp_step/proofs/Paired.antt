-- What a mapping that is spelled out names is there.
use Rattle.std.proofs.Common.{◌∷◌, [], List, Bool, All}
use Rattle.std.proofs.lemmas.List.Elements.{All-nil, All-cons, All-head, All-tail}
use Rattle.lp_cells.specs.Cells.{IsPairThere, IsThere, Store}
use Rattle.lp_cells.specs.Mapping.{pairs_of}
use Rattle.lp_cells.proofs.ClosedLemmas.{insert_all_there, read_there}
use Rattle.lp_values.specs.Read.{as_read}
use Rattle.lp_values.specs.declared.id.ObjId.{ObjId}
use Rattle.lp_values.specs.declared.value.Value.{Value}
use Rattle.lp_step.specs.LiteralWorks.{by_turns}

turns_there : (l : ObjId → Bool) (cells : Store) (xs : List Value) → All (IsThere cells) xs → All (IsPairThere cells) (by_turns l xs)
turns_there l cells [] t = All-nil (IsPairThere cells)
turns_there l cells (k ∷ []) t = All-nil (IsPairThere cells)
turns_there l cells (k ∷ v ∷ xs) t =
    let more = All-tail (IsThere cells) k (v ∷ xs) t in
    All-cons (IsPairThere cells) (as_read l k, v) (by_turns l xs) (read_there l cells k (All-head (IsThere cells) k (v ∷ xs) t), All-head (IsThere cells) v xs more) (turns_there l cells xs (All-tail (IsThere cells) v xs more))

pub pairs_there : (l : ObjId → Bool) (cells : Store) (xs : List Value) → All (IsThere cells) xs → All (IsPairThere cells) (pairs_of (by_turns l xs))
pairs_there l cells xs t = insert_all_there cells [] (by_turns l xs) (All-nil (IsPairThere cells)) (turns_there l cells xs t)
