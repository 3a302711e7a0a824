-- The world of a state that a step leads to settles from the one before.
use Rattle.std.proofs.Common.{ℕ}
use Rattle.lp_values.specs.declared.value.Value.{Value}
use Rattle.lp_instr.specs.declared.efun.Efun.{Efun}
use Rattle.lp_ops.specs.Operands.{size_of}
use Rattle.lp_language.specs.World.{World}
use Rattle.lp_language.specs.Course.{Course, End, Gives, State, Stops}
use Rattle.lp_language.specs.Operations.{seen}
use Rattle.lp_meaning.specs.EfunArguments.{price_after}
use Rattle.lp_meaning.specs.Questions.{value_end}
use Rattle.lp_world.specs.declared.live.Live.{Live}
use Rattle.lp_efuns.specs.declared.answer.Answer.{Answer}
use Rattle.lp_efuns.specs.declared.answer.Answer.TheVariants as answers
use Rattle.lp_efuns.specs.declared.caller.Turn.{Turn}
use Rattle.lp_efuns.specs.Plain.{IsEnd}
use Rattle.lp_efuns.specs.Turns.{At, Setting}
use Rattle.lp_settling.specs.Settling.{EndSettles, Settles}
use Rattle.lp_settling.proofs.Still.{onward, pay_settles, still}
use Rattle.lp_calling.specs.Beginning.{IsOver, Settled}

-- the state itself
pub settled_here : (g : Setting) (live : Live) (turn : Turn) (b : ℕ) (s : State) → At g live turn b s → Settled s.world g live turn b s
settled_here g live turn b s h = record { at = h; settles = still s.world }

-- an end in a world that settles
pub end_settled : (w : World) (g : Setting) (live : Live) (turn : Turn) (b : ℕ) (a : Answer) (e : End Value) → IsEnd a (At g live turn b) e → EndSettles w e → IsEnd a (Settled w g live turn b) e
end_settled w g live turn b (answers.Value v) (Gives x t) h k = (h.0, record { at = h.1; settles = k })
end_settled w g live turn b (answers.Error v) (Stops x t) h k = (h.0, record { at = h.1; settles = k })
end_settled w g live turn b (answers.Thrown v) (Stops x t) h k = (h.0, record { at = h.1; settles = k })
end_settled w g live turn b answers.Spent (Stops x t) h k = (h.0, record { at = h.1; settles = k })
end_settled w g live turn b (answers.Value v) (Stops x t) h k = absurd h
end_settled w g live turn b (answers.Error v) (Gives x t) h k = absurd h
end_settled w g live turn b (answers.Thrown v) (Gives x t) h k = absurd h
end_settled w g live turn b answers.Spent (Gives x t) h k = absurd h

-- the end of a value settles from where its state did
pub value_settles : (w : World) (e : Efun) (v : Value) (s : State) → Settles w s.world → EndSettles w (value_end e v s)
value_settles w e v s h = pay_settles w (price_after e (size_of (seen s v))) s (Gives v) h h

-- what settles from what settled
end_onward : (w u : World) (g : Setting) (live : Live) (turn : Turn) (b : ℕ) (a : Answer) (e : End Value) → Settles w u → IsEnd a (Settled u g live turn b) e → IsEnd a (Settled w g live turn b) e
end_onward w u g live turn b (answers.Value v) (Gives x t) k h = (h.0, record { at = h.1.at; settles = onward w u t.world k h.1.settles })
end_onward w u g live turn b (answers.Error v) (Stops x t) k h = (h.0, record { at = h.1.at; settles = onward w u t.world k h.1.settles })
end_onward w u g live turn b (answers.Thrown v) (Stops x t) k h = (h.0, record { at = h.1.at; settles = onward w u t.world k h.1.settles })
end_onward w u g live turn b answers.Spent (Stops x t) k h = (h.0, record { at = h.1.at; settles = onward w u t.world k h.1.settles })
end_onward w u g live turn b (answers.Value v) (Stops x t) k h = absurd h
end_onward w u g live turn b (answers.Error v) (Gives x t) k h = absurd h
end_onward w u g live turn b (answers.Thrown v) (Gives x t) k h = absurd h
end_onward w u g live turn b answers.Spent (Gives x t) k h = absurd h

pub over_onward : (w u : World) (g : Setting) (live : Live) (turn : Turn) (b : ℕ) (a : Answer) (c : Course Value) → Settles w u → IsOver a (Settled u g live turn b) c → IsOver a (Settled w g live turn b) c
over_onward w u g live turn b a c k h = (h.0, h.1, end_onward w u g live turn b a h.0 k h.2)
