use Rattle.std.proofs.lemmas.Result.{IfOk-at_ok}
use Rattle.std.proofs.Common.{◌≡◌, subst, sym, ap, string_bytes, not}
use Rattle.lp_files.specs.Paths.{IsRising}
use Rattle.lp_files.proofs.PathLemmas.{with_path-at, lists-at, with_path-gap, lists-gap, rising-with_path, map_insert}
use Rattle.lp_files.proofs.paths.Paths.add.Goals as goal

-- the path was there
pub returns-in-Ok-clause-ok : goal.returns-in-Ok-clause-ok
returns-in-Ok-clause-ok c = sym (with_path-at _ _ _ (subst IsRising c.self.view_is c.self.invariant) c.in-Ok.ensures.found)

pub returns-in-Ok-clause-fresh : goal.returns-in-Ok-clause-fresh
returns-in-Ok-clause-fresh c = ap not (sym (lists-at _ _ _ (subst IsRising c.self.view_is c.self.invariant) c.in-Ok.ensures.found))

-- the path goes to its place
pub returns-in_ok-insert-in-Err-clause-ok : goal.returns-in_ok-insert-in-Err-clause-ok
returns-in_ok-insert-in-Err-clause-ok c =
    let own_is = IfOk-at_ok (λ s. string_bytes s ≡ c.args.path.now) c.in_ok-own-in-Err.was c.from_str.ensures.ok in
    rw (c.in_ok-insert-in-Err.ensures.items, map_insert string_bytes _ _ _, own_is, c.self.view_is) (sym (with_path-gap _ _ _ c.in-Err.ensures.gap))

pub invariant_of-self-in-Err : goal.invariant_of-self-in-Err
invariant_of-self-in-Err c =
    subst IsRising (sym (returns-in_ok-insert-in-Err-clause-ok c)) (rising-with_path _ _ (subst IsRising c.self.view_is c.self.invariant))

pub returns-in_ok-insert-in-Err-clause-fresh : goal.returns-in_ok-insert-in-Err-clause-fresh
returns-in_ok-insert-in-Err-clause-fresh c = ap not (sym (lists-gap _ _ _ c.in-Err.ensures.gap))
