use Rattle.std.proofs.Common.{rules, string_bytes}
use Rattle.std.proofs.lemmas.Fn.{always_returns_same}
use Rattle.lp_files.specs.Paths.{path_cmp}
use Rattle.lp_files.proofs.PathLemmas.{found, gap}
use Rattle.lp_files.proofs.paths.Paths.place.Goals as goal

-- the closure compares the bytes of a path
pub returns-clause-found : goal.returns-clause-found
returns-clause-found c =
    let facts = c.binary_search_by.ensures in
    let by_bytes = facts.position (λ y. path_cmp (string_bytes y) c.args.path.now) (always_returns_same _ _ _ (λ a r f called. (search rules, search rules))) in
    rw (← c.self.view_is, ← c.deref.ensures.value) (found string_bytes c.args.path.now _ _ facts.bound by_bytes)

pub returns-clause-gap : goal.returns-clause-gap
returns-clause-gap c =
    let facts = c.binary_search_by.ensures in
    let by_bytes = facts.position (λ y. path_cmp (string_bytes y) c.args.path.now) (always_returns_same _ _ _ (λ a r f called. (search rules, search rules))) in
    rw (← c.self.view_is, ← c.deref.ensures.value) (gap string_bytes c.args.path.now _ _ (rw c.deref.ensures.value c.self.invariant) facts.bound by_bytes)
