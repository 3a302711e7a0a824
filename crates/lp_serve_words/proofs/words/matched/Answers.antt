use Rattle.std.proofs.Common.{inl, inr, ◌∙◌}
use Rattle.lp_serve_words.proofs.Naming.{some_kind}
use Rattle.lp_serve_words.proofs.words.matched.Goals as goal

pub returns : goal.returns
returns c = record {
  taken = tt;
  matches = tt;
  refused = λ e. elim (c.in-Err.ensures.kinds c.requires) [
    | inl h ↦ absurd (c.in_default.not-OutOfMemory (c.kind.ensures ∙ h))
    | inr h ↦ some_kind _ _ h
  ];
}
