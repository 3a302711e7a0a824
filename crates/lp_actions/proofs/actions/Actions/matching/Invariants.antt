use Rattle.std.proofs.Common.{◌≡◌, ◌++◌, map}
use Rattle.std.specs.List.{filter}
use Rattle.std.specs.BTreeMap.Range.{entries_between}
use Rattle.std.specs.declared.ops.Bound.TheVariants.{Included, Excluded}
use Rattle.lp_actions.specs.Actions.{matches}
use Rattle.lp_actions.specs.Stored.{place_cmp, sentence_of, sentence_from}
use Rattle.lp_actions.proofs.actions.Actions.matching.Given as goal

-- what was found, and then what is left to find, is all
abbrev pub invariant-loop-place : goal.invariant-loop-place
invariant-loop-place l =
    map (sentence_of l.fn.holder) l.found.items ++ filter (matches l.typed) (map (λ e. sentence_from l.fn.holder e.0.number e.1) l.place-iterator)
    ≡ filter (matches l.typed) (map (λ e. sentence_from l.fn.holder e.0.number e.1) (entries_between place_cmp (Included (record { holder = l.fn.holder.0; number = 0 })) (Excluded (record { holder = l.fn.holder.0; number = l.fn.self.next })) l.fn.self.deeds.entries))
