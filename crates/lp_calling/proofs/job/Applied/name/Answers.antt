use Rattle.std.specs.Str.{chars}
use Rattle.std.proofs.Common.{◌≡◌, ◌∙◌, ap, codes, refl, sym}
use Rattle.lp_calling.specs.Questions.{applied_name}
use Rattle.lp_calling.proofs.job.Applied.name.Goals as goal

catch_tell : chars (codes "catch_tell") ≡ codes "catch_tell"
unfolding chars
catch_tell = refl

init : chars (codes "init") ≡ codes "init"
unfolding chars
init = refl

query_allow_shadow : chars (codes "query_allow_shadow") ≡ codes "query_allow_shadow"
unfolding chars
query_allow_shadow = refl

valid_read : chars (codes "valid_read") ≡ codes "valid_read"
unfolding chars
valid_read = refl

valid_write : chars (codes "valid_write") ≡ codes "valid_write"
unfolding chars
valid_write = refl

pub returns-in-CatchTell-clause-letters : goal.returns-in-CatchTell-clause-letters
returns-in-CatchTell-clause-letters c = catch_tell ∙ ap applied_name (sym c.in-CatchTell.is)

pub returns-in-Init-clause-letters : goal.returns-in-Init-clause-letters
returns-in-Init-clause-letters c = init ∙ ap applied_name (sym c.in-Init.is)

pub returns-in-QueryAllowShadow-clause-letters : goal.returns-in-QueryAllowShadow-clause-letters
returns-in-QueryAllowShadow-clause-letters c = query_allow_shadow ∙ ap applied_name (sym c.in-QueryAllowShadow.is)

pub returns-in-ValidRead-clause-letters : goal.returns-in-ValidRead-clause-letters
returns-in-ValidRead-clause-letters c = valid_read ∙ ap applied_name (sym c.in-ValidRead.is)

pub returns-in-ValidWrite-clause-letters : goal.returns-in-ValidWrite-clause-letters
returns-in-ValidWrite-clause-letters c = valid_write ∙ ap applied_name (sym c.in-ValidWrite.is)
