use Rattle.std.proofs.Common.{subst, sym, string_bytes}
use Rattle.lp_files.specs.Paths.{IsRising}
use Rattle.lp_files.proofs.PathLemmas.{without_path-at, without_path-gap, rising-without_path, map_remove}
use Rattle.lp_files.proofs.paths.Paths.remove.Goals as goal

pub returns-in-Ok : goal.returns-in-Ok
returns-in-Ok c =
    rw (c.remove.ensures.items, map_remove string_bytes _ _, c.self.view_is) (sym (without_path-at _ _ _ (subst IsRising c.self.view_is c.self.invariant) c.in-Ok.ensures.found))

pub invariant_of-self : goal.invariant_of-self
invariant_of-self c =
    subst IsRising (sym (returns-in-Ok c)) (rising-without_path _ _ (subst IsRising c.self.view_is c.self.invariant))

pub returns-in_default : goal.returns-in_default
returns-in_default c = sym (without_path-gap _ _ _ c.in_default.ensures.gap)
