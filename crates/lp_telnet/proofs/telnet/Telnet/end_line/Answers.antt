use Rattle.std.proofs.Common.{◌≡◌, ◌≤◌, ◌∷◌, [], ◌++◌, length, rules}
use Rattle.lp_telnet.proofs.LineLemmas.{whole_kept, begins_itself, first_of_ended}
use Rattle.lp_telnet.proofs.telnet.Telnet.end_line.Goals as goal

pub returns-in-Ok-clause-lines : goal.returns-in-Ok-clause-lines
returns-in-Ok-clause-lines c =
    let small : length c.args.self.now.line ≤ 4096 = rw (← c.self.view_is) c.self.invariant in
    let kept = whole_kept c.args.self.now.line small in
    rw kept (search rules)

pub returns-in-Ok-clause-begun : goal.returns-in-Ok-clause-begun
returns-in-Ok-clause-begun c =
    let now : c.push.new.self.items ≡ c.args.lines.now.items ++ c.args.self.now.line ∷ [] = search rules in
    let none : c.replace-line.new.dest.items ≡ [] = search rules in
    rw (now, none, first_of_ended) (begins_itself _)
