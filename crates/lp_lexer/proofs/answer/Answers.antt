use Rattle.std.proofs.Common.{◌∙◌, sym, ap, subst, List, ℕ}
use Rattle.lp_lexer.specs.Source.{width}
use Rattle.lp_lexer.specs.Lexis.{begin_of, ReachesEnd, ReachesOpenComment}
use Rattle.lp_lexer.proofs.Walking.{not_utf8_whole, not_utf8_open}
use Rattle.lp_lexer.proofs.answer.Goals as goal
use Rattle.lp_lexer.proofs.answer.Goals.{in-Open+else-at-valid, in-Whole+else-valid-bytes}

pub returns-clause-fault : goal.returns-clause-fault
returns-clause-fault c =
    let bs = c.args.bytes.now in
    let all = c.new-characters.ensures.all in
    elim c.match-branch-2.branch [
      | in-Open+else-at-valid w ↦
          let h = rw w.in-Open.is at c.in_ok-at.ensures in
          not_utf8_open bs c.new-characters.result.1 w.in-Open.at c.new-characters.ensures.valid w.if-at-valid.false (ap width (sym all) ∙ c.new-characters.ensures.size) (subst (λ (cs : List ℕ). ReachesOpenComment (begin_of cs) w.in-Open.at) all h)
      | in-Whole+else-valid-bytes w ↦
          let h = rw w.in-Whole.is at c.in_ok-at.ensures in
          not_utf8_whole bs c.new-characters.result.1 w.in-Whole.tokens.items c.new-characters.ensures.valid c.new-characters.ensures.within w.if-valid-bytes.false (subst (λ (cs : List ℕ). ReachesEnd (begin_of cs) w.in-Whole.tokens.items) all h)
    ]
