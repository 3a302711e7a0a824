use Rattle.std.proofs.Common.{◌≡◌, ◌++◌, List, sym, subst, ap, ◌∙◌}
use Rattle.std.specs.Prelude.{option_to_list}
use Rattle.std.specs.Option.{option_copied}
use Rattle.lp_verify.specs.declared.effect.Exit.{Exit}
use Rattle.lp_verify.specs.Flow.{exits, leads, row_at, row_exits}
use Rattle.lp_verify.specs.Walks.{known_of, MayLead, Moves}
use Rattle.lp_verify.proofs.Leading.{as_exits, may_right, may_left, may_three, lead_three}
use Rattle.lp_verify.proofs.walk.Walk.lead_all.Goals as goal

pub lead_one-requires-clause-held : goal.lead_one-requires-clause-held
lead_one-requires-clause-held c =
    let e : exits c.args.body.now c.args.at c.args.effect ≡ option_to_list c.next_exit-next.result ++ (option_to_list c.jump_exit-jump.result ++ row_exits (option_copied c.row_at-row.result))
    = as_exits c.args.body.now c.args.at c.args.effect _ _ (option_copied c.row_at-row.result) c.next_exit-next.ensures c.jump_exit-jump.ensures (c.row_at-row.ensures ∙ ap (λ z. row_at z c.args.effect.row) c.raw.ensures) in
    let P : List Exit → Type 0 = λ z. MayLead c.args.body.now c.args.at (known_of c.args.self.now.openings c.args.known) c.args.effect z in
    may_left c.args.body.now c.args.at (known_of c.args.self.now.openings c.args.known) c.args.effect _ _ (subst P e c.requires.held)

pub lead_one-requires-2-clause-held : goal.lead_one-requires-2-clause-held
lead_one-requires-2-clause-held c =
    let e : exits c.args.body.now c.args.at c.args.effect ≡ option_to_list c.next_exit-next.result ++ (option_to_list c.jump_exit-jump.result ++ row_exits (option_copied c.row_at-row.result))
    = as_exits c.args.body.now c.args.at c.args.effect _ _ (option_copied c.row_at-row.result) c.next_exit-next.ensures c.jump_exit-jump.ensures (c.row_at-row.ensures ∙ ap (λ z. row_at z c.args.effect.row) c.raw.ensures) in
    let P : List Exit → Type 0 = λ z. MayLead c.args.body.now c.args.at (known_of c.args.self.now.openings c.args.known) c.args.effect z in
    may_left c.args.body.now c.args.at (known_of c.lead_one.new.self.openings c.args.known) c.args.effect _ (row_exits (option_copied c.row_at-row.result))
    (may_right c.args.body.now c.args.at c.args.known c.args.effect (option_to_list c.next_exit-next.result) _ c.args.self.now c.lead_one.new.self _ c.requires.ready c.in_ok-lead_one.ensures (subst P e c.requires.held))

pub lead_row-requires-clause-held : goal.lead_row-requires-clause-held
lead_row-requires-clause-held c =
    let e : exits c.args.body.now c.args.at c.args.effect ≡ option_to_list c.next_exit-next.result ++ (option_to_list c.jump_exit-jump.result ++ row_exits (option_copied c.row_at-row.result))
    = as_exits c.args.body.now c.args.at c.args.effect _ _ (option_copied c.row_at-row.result) c.next_exit-next.ensures c.jump_exit-jump.ensures (c.row_at-row.ensures ∙ ap (λ z. row_at z c.args.effect.row) c.raw.ensures) in
    let P : List Exit → Type 0 = λ z. MayLead c.args.body.now c.args.at (known_of c.args.self.now.openings c.args.known) c.args.effect z in
    may_three c.args.body.now c.args.at c.args.effect c.args.known (option_to_list c.next_exit-next.result) (option_to_list c.jump_exit-jump.result) (row_exits (option_copied c.row_at-row.result)) c.args.self.now c.lead_one.new.self c.lead_one-2.new.self
    c.requires.ready c.in_ok-lead_one.ensures c.in_ok-lead_one-2.ensures (subst P e c.requires.held)

pub returns : goal.returns
returns c =
    let e : exits c.args.body.now c.args.at c.args.effect ≡ option_to_list c.next_exit-next.result ++ (option_to_list c.jump_exit-jump.result ++ row_exits (option_copied c.row_at-row.result))
    = as_exits c.args.body.now c.args.at c.args.effect _ _ (option_copied c.row_at-row.result) c.next_exit-next.ensures c.jump_exit-jump.ensures (c.row_at-row.ensures ∙ ap (λ z. row_at z c.args.effect.row) c.raw.ensures) in
    let P : List Exit → Type 0 = λ z. Moves (leads c.args.body.now c.args.at (known_of c.args.self.now.openings c.args.known) c.args.effect z) c.args.self.now c.lead_row.new.self in
    subst P (sym e) (lead_three c.args.body.now c.args.at c.args.effect c.args.known (option_to_list c.next_exit-next.result) (option_to_list c.jump_exit-jump.result) (row_exits (option_copied c.row_at-row.result)) c.args.self.now c.lead_one.new.self c.lead_one-2.new.self c.lead_row.new.self
    c.requires.ready c.in_ok-lead_one.ensures c.in_ok-lead_one-2.ensures c.in_ok-lead_row.ensures)
