-- Commands are pushed and popped.
use Rattle.std.proofs.Common.{◌≡◌, ◌∙◌, ◌-◌, ◌++◌, ◌∷◌, [], ℕ, List, None, ap, sym, drop, length, map, reverse, take}
use Rattle.lp_language.specs.Course.{Typed}
use Rattle.lp_efuns.specs.declared.caller.Command.{Command}
use Rattle.lp_efuns.specs.declared.caller.Turn.{Turn}
use Rattle.lp_efuns.specs.Turns.{command_of, commands_of}
use Rattle.lp_commanding.specs.Beginning.{Pushes}
use Rattle.lp_commanding.specs.Going.{IsPopped}
use Rattle.lp_commanding.proofs.Backwards.{drop_map, reverse_front, turned}

-- the innermost is popped
pub popped : (turn0 turn1 : Turn) → turn1.player ≡ turn0.player → turn1.commands.items ≡ take (length turn0.commands.items - 1) turn0.commands.items → IsPopped turn0 turn1
popped turn0 turn1 p q g live b s h = record {
  stands = h.stands;
  left = h.left;
  outputs = h.outputs;
  player = h.player ∙ sym p;
  commands = ap (λ l. drop 1 l) h.commands ∙ drop_map command_of (reverse turn0.commands.items) ∙ ap (map command_of) (sym (reverse_front turn0.commands.items)) ∙ ap commands_of (sym q);
}

-- another one is pushed
pub pushed : (turn0 turn1 : Turn) (verb : List ℕ) → turn1.player ≡ turn0.player → turn1.commands.items ≡ turn0.commands.items ++ record { verb = verb; fail = None } ∷ [] → Pushes verb turn0 turn1
pushed turn0 turn1 verb p q g live b s h =
    let c : Command = record { verb = verb; fail = None } in
    let inner : Typed = record { verb = verb; fail = None } in
    record {
      stands = h.stands;
      left = h.left;
      outputs = h.outputs;
      player = h.player ∙ sym p;
      commands = ap (λ l. inner ∷ l) h.commands ∙ ap (map command_of) (sym (turned turn0.commands.items c)) ∙ ap commands_of (sym q);
    }
