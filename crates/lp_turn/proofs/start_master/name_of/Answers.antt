use Rattle.std.proofs.Common.{◌∙◌, ap, sym}
use Rattle.std.proofs.lemmas.Result.{IfOk-weaker}
use Rattle.lp_turn.specs.Starts.{start_name}
use Rattle.lp_turn.proofs.Words.{chars-epilog, chars-inaugurate, chars-preload, chars-simul}
use Rattle.lp_turn.proofs.start_master.name_of.Goals as goal

pub returns-in-Inaugurate : goal.returns-in-Inaugurate
returns-in-Inaugurate c = IfOk-weaker c.from_str.result _ _ (λ t e. e ∙ chars-inaugurate ∙ ap start_name (sym c.in-Inaugurate.is)) c.from_str.ensures

pub returns-in-SimulEfun : goal.returns-in-SimulEfun
returns-in-SimulEfun c = IfOk-weaker c.from_str-in-SimulEfun.result _ _ (λ t e. e ∙ chars-simul ∙ ap start_name (sym c.in-SimulEfun.is)) c.from_str-in-SimulEfun.ensures

pub returns-in-Epilog : goal.returns-in-Epilog
returns-in-Epilog c = IfOk-weaker c.from_str-in-Epilog.result _ _ (λ t e. e ∙ chars-epilog ∙ ap start_name (sym c.in-Epilog.is)) c.from_str-in-Epilog.ensures

pub returns-in-Preload : goal.returns-in-Preload
returns-in-Preload c = IfOk-weaker c.from_str-in-Preload.result _ _ (λ t e. e ∙ chars-preload ∙ ap start_name (sym c.in-Preload.is)) c.from_str-in-Preload.ensures
