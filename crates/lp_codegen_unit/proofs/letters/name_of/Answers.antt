use Rattle.std.proofs.Common.{ℕ, List, ap, ◌∙◌}
use Rattle.std.specs.Prelude.{encode_utf8_all}
use Rattle.std.proofs.lemmas.Str.{encodes-IsAscii}
use Rattle.lp_codegen_unit.proofs.letters.name_of.Goals as goal

pub returns : goal.returns
returns c = λ h. c.from_string.ensures ∙ c.in_ok-text_of.ensures ∙ ap (λ (l : List ℕ). encode_utf8_all l) c.as_slice.ensures ∙ encodes-IsAscii c.args.letters.now h
