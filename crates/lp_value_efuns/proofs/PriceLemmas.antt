-- Prices by what is live and the cells of a state.
use Rattle.std.proofs.Common.{◌≡◌, ◌+◌, ◌∙◌, Bool, List, ap, sym, if◌then◌else◌}
use Rattle.lp_values.specs.declared.id.ObjId.{ObjId}
use Rattle.lp_values.specs.declared.value.Value.{Value}
use Rattle.lp_cells.specs.Cells.{Store}
use Rattle.lp_ops.specs.Prices.{share, total_size}
use Rattle.lp_instr.specs.declared.efun.Efun.{Efun}
use Rattle.lp_language.specs.Course.{State}
use Rattle.lp_language.specs.Operations.{cells_of, living}
use Rattle.lp_meaning.specs.EfunArguments.{has_share, price_before}

pub price_is : (e : Efun) (vs : List Value) (s : State) (live : ObjId → Bool) (cells : Store) → living s ≡ live → cells_of s ≡ cells → 1 + (if has_share e then share (total_size live cells vs) else 0) ≡ price_before e vs s
price_is e vs s live cells h g = sym (ap (λ l. 1 + (if has_share e then share (total_size l (cells_of s) vs) else 0)) h ∙ ap (λ c. 1 + (if has_share e then share (total_size live c vs) else 0)) g)
