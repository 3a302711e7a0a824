-- Programs that are there stay.
use Rattle.std.proofs.Common.{◌∙◌, ◌++◌, List, [], ap, sym}
use Rattle.std.proofs.lemmas.List.{append_assoc, append-nil}
use Rattle.lp_code.specs.declared.program.RawProgram.{RawProgram}
use Rattle.lp_loading.specs.Growing.{Grows}

pub grows_same : (programs : List RawProgram) → Grows programs programs
grows_same programs = ([], sym (append-nil programs))

pub grows_more : (a b c : List RawProgram) → Grows a b → Grows b c → Grows a c
grows_more a b c g h = (g.0 ++ h.0, h.1 ∙ ap (λ xs. xs ++ h.0) g.1 ∙ append_assoc a g.0 h.0)
