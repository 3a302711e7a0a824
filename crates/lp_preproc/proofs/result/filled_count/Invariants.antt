use Rattle.std.proofs.Common.{◌≡◌, ◌+◌, ◌≤◌, ℕ, List, length, drop}
use Rattle.lp_preproc.specs.declared.word.Word.{Word}
use Rattle.lp_preproc.specs.Uses.{filled}
use Rattle.lp_preproc.proofs.result.filled_count.Given as goal

abbrev pub invariant-kinds : goal.invariant-kinds
invariant-kinds l = (l.count ≤ l.room) × ((w : Word) (d : ℕ) (hidden : List (List ℕ)) → l.count + length (filled w d hidden l.params l.args (drop l.kind-index l.kinds)) ≡ length (filled w d hidden l.params l.args l.kinds))
