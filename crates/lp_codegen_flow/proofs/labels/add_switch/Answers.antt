use Rattle.std.proofs.Common.{◌++◌, ◌∷◌, [], map, refl, sym, ap, ◌∙◌}
use Rattle.std.proofs.lemmas.List.{length-map, map_push}
use Rattle.lp_codegen_flow.proofs.Switching.{table_as}
use Rattle.lp_code.specs.Programs.{table_of}
use Rattle.lp_codegen_flow.proofs.labels.add_switch.Goals as goal

pub returns : goal.returns
returns c =
    let old = c.args.into.now.switches.items in
    record {
      code = refl;
      texts = refl;
      switches = ap (map table_of) c.in_ok-push.ensures.items ∙ map_push table_of old (record { cases = c.from_vec.result; other = c.place_or-other.result }) ∙ ap (λ r. map table_of old ++ r ∷ []) (table_as c.from_vec.ensures c.place_or-other.ensures);
      number = c.in_ok-row.ensures ∙ c.len.ensures ∙ c.args.into.now.switches.ok.0 ∙ sym (length-map old table_of);
    }
