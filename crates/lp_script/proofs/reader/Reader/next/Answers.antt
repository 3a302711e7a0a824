use Rattle.std.proofs.Common.{◌≡◌, ◌∙◌, subst, sym, ap, Some, ◌+◌, ◌≤◌, length, take}
use Rattle.lp_events.specs.Script.{Over as over, longest_input}
use Rattle.lp_io.specs.Told.{before_giving}
use Rattle.lp_script.specs.declared.phase.Phase.TheVariants.{Taking, Giving}
use Rattle.lp_script.proofs.ReaderLemmas.{given_next, end_next, fault_next, retaken, reads_rest, reads_got, reads_told, taken_same}
use Rattle.lp_script.specs.Reader.{GoesOn, HasGiven}
use Rattle.lp_script.proofs.reader.Reader.next.Goals as goal

pub returns-in-Over-Whole-clause-end : goal.returns-in-Over-Whole-clause-end
returns-in-Over-Whole-clause-end g c = λ bytes xs h. absurd (subst GoesOn (sym (ap (λ r. r.phase) c.self.view_is) ∙ c.in-Over-Whole.is) h)

pub returns-in-Over-Bad-clause-fault : goal.returns-in-Over-Bad-clause-fault
returns-in-Over-Bad-clause-fault g c = λ bytes xs h. absurd (subst GoesOn (sym (ap (λ r. r.phase) c.self.view_is) ∙ c.in-Over-Bad.is) h)

pub returns-in-Over-Large-clause-fault : goal.returns-in-Over-Large-clause-fault
returns-in-Over-Large-clause-fault g c = λ bytes xs h. absurd (subst GoesOn (sym (ap (λ r. r.phase) c.self.view_is) ∙ c.in-Over-Large.is) h)

pub returns-in-Ok-clause-given : goal.returns-in-Ok-clause-given
returns-in-Ok-clause-given g c xs goes given =
    let none : c.self.inside.cut ≡ 0 = c.self.invariant.nothing c.in-Taking.is in
    let here : HasGiven _ xs = retaken _ c.take_all.new.taken.items Giving xs none (subst (λ r. HasGiven r xs) (sym c.self.view_is) given) in
    given_next _ c.give.new.self xs c.give.result c.take_all.ensures.most c.give.ensures.steps here

pub returns-in-Ok-clause-end : goal.returns-in-Ok-clause-end
returns-in-Ok-clause-end g c bytes xs goes given input =
    let none : c.self.inside.cut ≡ 0 = c.self.invariant.nothing c.in-Taking.is in
    let here : HasGiven _ xs = retaken _ c.take_all.new.taken.items Giving xs none (subst (λ r. HasGiven r xs) (sym c.self.view_is) given) in
    end_next _ c.give.new.self bytes xs c.give.result c.give.ensures.steps here input

pub returns-in-Ok-clause-fault : goal.returns-in-Ok-clause-fault
returns-in-Ok-clause-fault g c bytes xs goes given input =
    let none : c.self.inside.cut ≡ 0 = c.self.invariant.nothing c.in-Taking.is in
    let here : HasGiven _ xs = retaken _ c.take_all.new.taken.items Giving xs none (subst (λ r. HasGiven r xs) (sym c.self.view_is) given) in
    fault_next _ c.give.new.self bytes xs c.give.result (c.self.invariant.goes (subst GoesOn (sym c.in-Taking.is) tt)) c.give.ensures.steps here input

pub returns-in-Ok-clause-reads : goal.returns-in-Ok-clause-reads
returns-in-Ok-clause-reads g c bytes reads =
    let phase : c.args.self.now.phase ≡ Taking = sym (ap (λ r. r.phase) c.self.view_is) ∙ c.in-Taking.is in
    let told : before_giving c.args.self.now.taken (g.S.Source.remaining c.args.input.now) ≡ Some bytes = reads_told bytes c.args.self.now _ phase reads in
    let left : before_giving c.self.inside.taken.items (g.S.Source.remaining c.args.input.now) ≡ Some bytes = subst (λ r. before_giving r.taken (g.S.Source.remaining c.args.input.now) ≡ Some bytes) (sym c.self.view_is) told in
    let same : c.give.new.self.taken ≡ c.take_all.new.taken.items = taken_same _ c.give.new.self c.give.result c.give.ensures.steps in
    let input : c.take_all.new.taken.items ≡ take (longest_input + 1) bytes = c.in-Ok.ensures.whole bytes left in
    let now : before_giving c.take_all.new.taken.items (g.S.Source.remaining c.take_all.new.input) ≡ Some bytes = c.take_all.ensures.reads ∙ left in
    reads_rest bytes c.give.new.self _ c.give.ensures.stays (same ∙ input) (subst (λ bs. before_giving bs (g.S.Source.remaining c.take_all.new.input) ≡ Some bytes) (sym same) now)

pub returns-in-Giving-clause-given : goal.returns-in-Giving-clause-given
returns-in-Giving-clause-given g c xs goes given = given_next c.args.self.now c.give-in-Giving.new.self xs c.give-in-Giving.result (subst (λ r. length r.taken ≤ longest_input + 1) c.self.view_is c.self.invariant.most) c.give-in-Giving.ensures.steps given

pub returns-in-Giving-clause-end : goal.returns-in-Giving-clause-end
returns-in-Giving-clause-end g c bytes xs goes given input = end_next c.args.self.now c.give-in-Giving.new.self bytes xs c.give-in-Giving.result c.give-in-Giving.ensures.steps given input

pub returns-in-Giving-clause-fault : goal.returns-in-Giving-clause-fault
returns-in-Giving-clause-fault g c bytes xs goes given input = fault_next c.args.self.now c.give-in-Giving.new.self bytes xs c.give-in-Giving.result (subst (λ r. r.before.stage ≡ over → ⊥) c.self.view_is (c.self.invariant.goes (subst GoesOn (sym c.in-Giving.is) tt))) c.give-in-Giving.ensures.steps given input

pub returns-in-Giving-clause-reads : goal.returns-in-Giving-clause-reads
returns-in-Giving-clause-reads g c bytes reads =
    let phase : c.args.self.now.phase ≡ Giving = sym (ap (λ r. r.phase) c.self.view_is) ∙ c.in-Giving.is in
    let got = reads_got bytes c.args.self.now _ phase reads in
    let same : c.give-in-Giving.new.self.taken ≡ c.args.self.now.taken = taken_same c.args.self.now c.give-in-Giving.new.self c.give-in-Giving.result c.give-in-Giving.ensures.steps in
    reads_rest bytes c.give-in-Giving.new.self _ c.give-in-Giving.ensures.stays (same ∙ got.0) (subst (λ bs. before_giving bs (g.S.Source.remaining c.args.input.now) ≡ Some bytes) (sym same) got.1)
