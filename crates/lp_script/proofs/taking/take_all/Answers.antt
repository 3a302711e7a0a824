use Rattle.std.proofs.Common.{arith, length, ◌≡◌, ◌≤◌, Some}
use Rattle.std.proofs.lemmas.Grind.{common_steps}
use Rattle.lp_io.specs.Told.{before_giving, IsAtEnd}
use Rattle.lp_script.proofs.TakingLemmas.{whole_at_end, whole_if_long}
use Rattle.lp_script.proofs.taking.take_all.Goals as goal

pub returns-in-Ok-eq0-clause-whole : goal.returns-in-Ok-eq0-clause-whole
returns-in-Ok-eq0-clause-whole g c bytes is =
    let told : before_giving c.truncate.new.self.items (g.S.Source.remaining c.read_behind.new.input) ≡ Some bytes = grind (arith, common_steps) in
    let ended : IsAtEnd (g.S.Source.remaining c.read_behind.new.input) = grind (arith, common_steps) in
    let short : length c.truncate.new.self.items ≤ 67108865 = grind (arith, common_steps) in
    whole_at_end 67108865 _ _ bytes told ended short

pub returns-clause-whole : goal.returns-clause-whole
returns-clause-whole g c bytes is =
    let told : before_giving c.truncate-2.new.self.items (g.S.Source.remaining c.loop-filled.input) ≡ Some bytes = grind (arith, common_steps) in
    let long : length c.truncate-2.new.self.items ≡ 67108865 = grind (arith, common_steps) in
    whole_if_long 67108865 _ _ bytes told long
