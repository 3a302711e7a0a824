use Rattle.std.proofs.Common.{rules}
use Rattle.std.proofs.lemmas.Fn.{always_returns_same}
use Rattle.std.specs.Ordering.{nat_cmp}
use Rattle.lp_sessions.specs.declared.session.Session.{Session}
use Rattle.lp_sessions.proofs.Finding.{found, none}
use Rattle.lp_sessions.proofs.each.place_among.Goals as goal

-- the closure compares the number of a connection
pub returns-in-Ok-clause-found : goal.returns-in-Ok-clause-found
returns-in-Ok-clause-found c =
    let by_number = c.in-Ok.ensures.position (λ (s : Session). nat_cmp s.number c.args.number) (always_returns_same _ _ _ (λ a r f called. (search rules, search rules))) in
    found c.args.number c.args.sessions.now c.in-Ok.i c.in-Ok.ensures.bound by_number

pub returns-in-Err-clause-none : goal.returns-in-Err-clause-none
returns-in-Err-clause-none c =
    let by_number = c.in-Err.ensures.position (λ (s : Session). nat_cmp s.number c.args.number) (always_returns_same _ _ _ (λ a r f called. (search rules, search rules))) in
    none c.args.number c.args.sessions.now c.in-Err.field-0 (search rules) by_number
