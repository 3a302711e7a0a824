use Rattle.std.proofs.Common.{◌≡◌, ◌∙◌, ◌+◌, ◌∷◌, ℕ, suc, List, length, ap, sym, subst, arith, Some, cond, string_bytes}
use Rattle.std.specs.Prelude.{bytes_eq}
use Rattle.std.specs.BTreeMap.{get_by_text}
use Rattle.std.proofs.lemmas.Map.Text.{btree_map_updates_text}
use Rattle.std.proofs.lemmas.Result.{IfOk-at_ok}
use Rattle.lp_loads.proofs.Keeping.{same_with, inside_with}
use Rattle.lp_loads.proofs.known.Known.add.Goals as goal

pub returns : goal.returns
returns c ls k =
    let own_is = IfOk-at_ok (λ s. string_bytes s ≡ c.args.file.now) c.in_ok-from_str.was c.from_str.ensures.ok in
    record {
      same = λ q. same_with c.args.file.now q c.args.ended ls (get_by_text c.insert.new.self q) (get_by_text c.args.self.now.files q)
          (rw (← own_is) (btree_map_updates_text (string_bytes c.in_ok-from_str.field-0) c.args.self.now.files c.insert.new.self _ c.in_ok-insert.ensures.updates q)) (k.same q);
      inside = λ q. inside_with c.args.file.now q c.args.ended ls c.requires (k.inside q);
      count = omega (arith, c.in-Some.ensures, k.count);
    }
