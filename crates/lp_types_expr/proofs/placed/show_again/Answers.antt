use Rattle.std.proofs.Common.{◌≡◌, ℕ, List, Some, None, sym, ap, ◌∙◌, Option, true}
use Rattle.std.specs.Prelude.{if◌then◌else◌, is_some}
use Rattle.lp_instr.specs.EfunList.{is_name}
use Rattle.lp_types_expr.specs.NameMaps.{named}
use Rattle.lp_types_expr.proofs.NamesPut.{after_change}
use Rattle.lp_types_expr.proofs.placed.show_again.Goals as goal

pub returns-in-None : goal.returns-in-None
returns-in-None c = λ w _. after_change c.as_slice.result.now c.args.places.now c.remove.new.self None c.remove.ensures.updates w
    ∙ ap (λ (n : List ℕ). if is_name w n then None else named c.args.places.now w) c.as_slice.ensures
    ∙ ap (λ (o : Option ℕ). if is_name w c.args.name.now then o else named c.args.places.now w) (sym c.in-None.is)

pub returns-in-Some-get_mut : goal.returns-in-Some-get_mut
returns-in-Some-get_mut c = λ w h.
    let there : is_some (named c.args.places.now c.as_slice-in-Some.result.now) ≡ true = ap (λ (n : List ℕ). is_some (named c.args.places.now n)) c.as_slice-in-Some.ensures ∙ h in
    after_change c.as_slice-in-Some.result.now c.args.places.now (c.get_mut.follows.lender c.in-Some.place) (Some c.in-Some.place) ((c.get_mut.follows.holds c.in-Some.place).3 there) w
    ∙ ap (λ (n : List ℕ). if is_name w n then Some c.in-Some.place else named c.args.places.now w) c.as_slice-in-Some.ensures
    ∙ ap (λ (o : Option ℕ). if is_name w c.args.name.now then o else named c.args.places.now w) (sym c.in-Some.is)
