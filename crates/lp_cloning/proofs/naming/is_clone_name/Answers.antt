use Rattle.std.proofs.Common.{◌∙◌, ap, sym}
use Rattle.std.proofs.lemmas.List.{nil_from_length}
use Rattle.lp_meaning.specs.WorldSteps.{is_clone_name}
use Rattle.lp_value_efuns.proofs.FormatLemmas.{empty_chars, hash_here, hash_later}
use Rattle.std.proofs.Common.{chars}
use Rattle.std.proofs.lemmas.Str.{IsUtf8-past_char}
use Rattle.lp_cloning.proofs.naming.is_clone_name.Goals as goal

pub returns-then-c-eq35 : goal.returns-then-c-eq35
returns-then-c-eq35 c = sym (hash_here _ _ _ c.loop-c.invariant.0 c.in-Some.ensures.steps.0 c.if-c-eq35.true) ∙ c.loop-c.invariant.1

pub loop-c-preserved : goal.loop-c-preserved
loop-c-preserved c = (IsUtf8-past_char _ _ _ c.loop-c.invariant.0 c.in-Some.ensures.steps.0, sym (hash_later _ _ _ c.loop-c.invariant.0 c.in-Some.ensures.steps.0 c.if-c-eq35.false) ∙ c.loop-c.invariant.1)

pub returns : goal.returns
returns c = sym (ap is_clone_name (ap chars (nil_from_length _ c.in_default.ensures.steps.0.0) ∙ empty_chars)) ∙ c.loop-c.invariant.1
