use Rattle.std.proofs.Common.{◌≡◌, ◌≤◌, subst, length, arith, rules}
use Rattle.std.specs.Vec.Iter.{into_iter_items}
use Rattle.indexmap.specs.IndexMap.{insert_all}
use Rattle.lp_values.specs.Read.{value_eq}
use Rattle.lp_cells.specs.Mapping.{pairs_of}
use Rattle.lp_cells.proofs.MappingLemmas.{insert_all_grows}
use Rattle.lp_cells.proofs.pairs.Pairs.from_vec.Goals as goal

pub returns-then-len-gt-MAX_ITEMS : goal.returns-then-len-gt-MAX_ITEMS
returns-then-len-gt-MAX_ITEMS c =
    let whole : insert_all value_eq c.put.new.self (into_iter_items c.next.new.self) ≡ pairs_of c.args.pairs.items = search rules in
    let grown : length c.put.new.self ≤ length (pairs_of c.args.pairs.items) = subst (λ ps. length c.put.new.self ≤ length ps) whole (insert_all_grows c.put.new.self (into_iter_items c.next.new.self)) in
    (grind arith, tt)
