use Rattle.std.proofs.Common.{◌≡◌, ◌<◌, refl, sym, ap, subst, ◌∙◌}
use Rattle.lp_sessions.specs.declared.session.Session.{Session}
use Rattle.lp_sessions.proofs.Index.{index_set}
use Rattle.lp_sessions.proofs.Outputs.{above_at, numbers_at, ok_takes, takes_at}
use Rattle.lp_sessions.proofs.Tables.{any_default}
use Rattle.lp_sessions.proofs.each.take_at.Goals as goal

pub put_on-requires-clause-number : goal.put_on-requires-clause-number
put_on-requires-clause-number c = subst (λ (s : Session). 0 < s.number) (sym c.index.ensures) (above_at 0 c.args.i c.args.sessions.now.items c.index.result.now c.requires.within c.requires.table)

pub returns-clause-ok : goal.returns-clause-ok
returns-clause-ok c =
    ok_takes c.take_out.result _ _ (λ text. takes_at c.args.out.now c.args.i _ c.args.sessions.now.items c.index_mut.result.now c.take_out.new.self c.index_mut.result.now (c.requires.goes c.index_mut.result.now) c.requires.within c.index_mut.ensures.value refl
    c.take_out.ensures.number c.take_out.ensures.telnet text) c.take_out.ensures.text

pub returns-clause-numbers : goal.returns-clause-numbers
returns-clause-numbers c = numbers_at c.args.i _ c.index_mut.result.now _ c.index_mut.result.now c.requires.within c.index_mut.ensures.value c.take_out.ensures.number

pub returns-clause-index : goal.returns-clause-index
returns-clause-index c =
    let same : c.index_mut.result.now ≡ c.index.result.now = c.index_mut.ensures.value ∙ any_default c.args.sessions.now.items c.args.i c.index_mut.result.now c.index.result.now c.requires.within ∙ sym c.index.ensures in
    index_set c.put_on.new.listed.items c.args.i c.index.result.now.number c.args.sessions.now.items c.take_out.new.self (c.take_out.ensures.number ∙ ap (λ (s : Session). s.number) same) c.in_ok-put_on.ensures.listed
    (c.in_ok-put_on.ensures.index c.args.sessions.now.items c.requires.index)
