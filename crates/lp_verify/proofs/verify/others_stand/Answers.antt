use Rattle.std.proofs.Common.{◌≡◌, ◌∙◌, ap, length, sym, subst, IsTrue, Bool}
use Rattle.lp_verify.specs.Rows.{are_rows}
use Rattle.lp_verify.specs.Verified.{AreOthers}
use Rattle.lp_verify.proofs.Others.{others_tested}
use Rattle.lp_verify.proofs.verify.others_stand.Goals as goal

pub returns : goal.returns
returns c =
    let rows : c.are_rows-rows.result ≡ are_rows (length c.args.raw.now.instrs) c.args.raw.now.funs
    = c.are_rows-rows.ensures ∙ ap (λ n. are_rows (length n) c.as_slice-2.result.now) c.as_slice.ensures ∙ ap (are_rows (length c.args.raw.now.instrs)) c.as_slice-2.ensures in
    let P : Bool → Type 0 = λ z. (IsTrue z → AreOthers c.args.raw.now) × (AreOthers c.args.raw.now → IsTrue z) in
    subst P (sym c.are_all.ensures) (others_tested c.args.raw.now c.are_rows-rows.result c.are_switches-switches.result c.in_ok-tables.tables rows c.are_switches-switches.ensures c.in_ok-tables.ensures)
