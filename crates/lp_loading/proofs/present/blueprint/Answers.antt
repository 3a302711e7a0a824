use Rattle.std.proofs.Common.{◌∙◌, ap, sym}
use Rattle.std.proofs.Common.{None, if◌then◌else◌}
use Rattle.std.specs.BTreeMap.{get_by_text}
use Rattle.lp_meaning.specs.WorldSteps.{is_clone_name}
use Rattle.lp_loading.proofs.present.blueprint.Goals as goal

pub returns-then-is_clone_name : goal.returns-then-is_clone_name
returns-then-is_clone_name c = sym (ap (λ b. if b then None else get_by_text c.args.names.now.serials c.args.name.now) (ap is_clone_name (sym c.as_bytes.ensures.value) ∙ sym c.is_clone_name.ensures ∙ c.if-is_clone_name.true))

pub returns : goal.returns
returns c =
    let n = c.requires.named in
    c.find.ensures n.objects n.stands ∙ sym (n.stands.listed c.args.name.now c.utf8.name)
    ∙ sym (ap (λ b. if b then None else get_by_text c.args.names.now.serials c.args.name.now) (ap is_clone_name (sym c.as_bytes.ensures.value) ∙ sym c.is_clone_name.ensures ∙ c.if-is_clone_name.false))
