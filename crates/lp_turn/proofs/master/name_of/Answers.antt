use Rattle.std.proofs.Common.{◌∙◌, ap, sym}
use Rattle.std.proofs.lemmas.Result.{IfOk-weaker}
use Rattle.lp_turn.specs.Turns.{name_of}
use Rattle.lp_turn.proofs.Words.{chars-connect, chars-disconnect}
use Rattle.lp_turn.proofs.master.name_of.Goals as goal

pub returns-in-Connect : goal.returns-in-Connect
returns-in-Connect c = IfOk-weaker c.from_str.result _ _ (λ t e. e ∙ chars-connect ∙ ap name_of (sym c.in-Connect.is)) c.from_str.ensures

pub returns-in-Disconnect : goal.returns-in-Disconnect
returns-in-Disconnect c = IfOk-weaker c.from_str-in-Disconnect.result _ _ (λ t e. e ∙ chars-disconnect ∙ ap name_of (sym c.in-Disconnect.is)) c.from_str-in-Disconnect.ensures
