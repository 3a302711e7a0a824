use Rattle.std.proofs.Common.{◌≡◌, ℕ, List, Option, Some, None, sym, ap, ◌∙◌, rules}
use Rattle.std.specs.Prelude.{if◌then◌else◌}
use Rattle.lp_instr.specs.EfunList.{is_name}
use Rattle.lp_types_expr.specs.NameMaps.{named}
use Rattle.lp_types_expr.specs.Signatures.{or_else}
use Rattle.lp_layout.specs.LayoutFaults.{Source, source}
use Rattle.lp_layout.specs.Standing.{shown_with, with_source}
use Rattle.lp_layout.proofs.Beside.{lifted, put_known}
use Rattle.lp_layout.proofs.nomask.add_name.Goals as goal

pub returns-in_ok-key-in-Some : goal.returns-in_ok-key-in-Some
returns-in_ok-key-in-Some c =
    let name = c.args.name.now in
    let old = named c.args.known.now in
    let y = c.in-Some.one in
    let key : c.in_ok-key-in-Some.key.items ≡ name = c.in_ok-key-in-Some.ensures ∙ c.as_str.ensures in
    let was : c.copied.result ≡ named c.args.known.now c.in_ok-key-in-Some.key.items = search rules in
    let k : c.with_source-standing.result ≡ with_source (old name) y = c.with_source-standing.ensures ∙ ap (λ o. with_source o y) (was ∙ ap old key) in
    let shown : source c.args.parent.now name ≡ Some y = sym c.source.ensures ∙ c.in-Some.is in
    let put : c.as_slice-in-Some.result.now ≡ name = search rules in
    lifted c.put.result
    (λ p w. put_known old (named c.put.new.map) name c.with_source-standing.result y k (λ v. p v ∙ ap (λ (n : List ℕ). or_else (if is_name v n then Some c.with_source-standing.result else None) (old v)) put) w
    ∙ ap (λ (s : Option Source). shown_with s name (old w) w) (sym shown))
    c.put.ensures.ok
