use Rattle.std.proofs.Common.{ltb, rules}
use Rattle.std.proofs.lemmas.List.Sorted.{IsPartitionPoint-from_clause}
use Rattle.lp_code.specs.declared.tables.VarRow.{VarRow}
use Rattle.lp_targets.proofs.Lookups.{parted_by, point_is}
use Rattle.lp_initialisers.proofs.parts.first_variable.Goals as goal

pub returns : goal.returns
returns c = λ n s.
    let parted = parted_by c.args.vars.now c.args.first n s in
    let point = IsPartitionPoint-from_clause (λ (r : VarRow). ltb r.part c.args.first) _ _ c.partition_point.ensures.partitioned parted (λ a r q k. search rules) in
    point_is c.args.vars.now c.args.first n _ s c.partition_point.ensures.bound point
