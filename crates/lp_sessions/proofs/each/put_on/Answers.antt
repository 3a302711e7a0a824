use Rattle.std.proofs.Common.{◌≤◌, ◌<◌, length, get_or, ℕ, List, sym, subst}
use Rattle.std.specs.FinMap.{nat_cmp-IsAntisymmetric}
use Rattle.lp_sessions.specs.Index.{IsListed}
use Rattle.lp_sessions.specs.All.{AreAbove}
use Rattle.lp_sessions.proofs.Index.{gap_below, gap_over, index_insert, listed_found}
use Rattle.lp_sessions.proofs.each.put_on.Goals as goal

pub returns-in-Ok-clause-listed : goal.returns-in-Ok-clause-listed
returns-in-Ok-clause-listed c =
    subst (λ (ks : List ℕ). IsListed c.args.number ks) c.deref.ensures.value (listed_found c.deref.result.now c.in-Ok.field-0 c.args.number 0 c.in-Ok.ensures.bound (nat_cmp-IsAntisymmetric _ _ (c.in-Ok.ensures.position 0)))

pub returns-in-Ok-insert-clause-index : goal.returns-in-Ok-insert-clause-index
returns-in-Ok-insert-clause-index c = λ ss x.
    let ks = c.args.listed.now.items in
    let same = c.deref.ensures.value in
    let above : AreAbove 0 c.deref.result.now = subst (λ (ns : List ℕ). AreAbove 0 ns) (sym same) c.requires.rising in
    let below : (j d : ℕ) → j < c.in-Err.at → get_or ks j d < c.args.number =
    subst (λ (ns : List ℕ). (j d : ℕ) → j < c.in-Err.at → get_or ns j d < c.args.number) same (gap_below c.args.number c.deref.result.now c.in-Err.at above c.in-Err.ensures.position) in
    let over : (j d : ℕ) → c.in-Err.at ≤ j → j < length ks → c.args.number < get_or ks j d =
    subst (λ (ns : List ℕ). (j d : ℕ) → c.in-Err.at ≤ j → j < length ns → c.args.number < get_or ns j d) same (gap_over c.args.number c.deref.result.now c.in-Err.at above c.in-Err.ensures.position) in
    let le : c.in-Err.at ≤ length ks = subst (λ (ns : List ℕ). c.in-Err.at ≤ length ns) same c.in-Err.ensures.bound in
    rw c.in-Ok-insert.ensures.items (index_insert ks c.in-Err.at c.args.number ss c.requires.number le below over x)
