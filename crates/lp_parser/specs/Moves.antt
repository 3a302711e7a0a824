-- What the program's steps come to.
use Rattle.std.specs.Prelude.{◌≡◌, ℕ, List, Option, Some, None, Result, Ok, Err}
use Rattle.std.specs.declared.alloc.AllocError.{AllocError}
use Rattle.lp_tree.specs.declared.keyword.Modifier.{Modifier as ModifierWord}
use Rattle.lp_tree.specs.declared.keyword.Base.{Base as BaseWord}
use Rattle.lp_tree.specs.declared.seen.Seen.{Seen}
use Rattle.lp_parser_stmt.specs.Machine.{Names}
use Rattle.lp_parser.specs.declared.focus.Focus.{Focus}
use Rattle.lp_parser.specs.declared.focus.Focus.TheVariants as focus
use Rattle.lp_parser.specs.View.{head_of}
use Rattle.lp_parser_stmt.specs.View.{names_of}
use Rattle.lp_parser_stmt.specs.Moves.{state_of as stmt_state}
use Rattle.lp_parser_stmt.specs.StackView.{stack_of}
use Rattle.lp_parser.specs.Machine.{Before, State, Top, NeedPath, EndInherit, Modified, Typed, NeedOpen, NeedParam, NextParam, ParamStars, BehindParam, HaveParams, InBody, step}

-- the state of the machine
abbrev pub state_of : Focus → Before → State
state_of focus.Top b = Top b
state_of (focus.NeedPath line) b = NeedPath b line
state_of (focus.EndInherit line w) b = EndInherit b line w
state_of (focus.Modified line ms) b = Modified b line ms.items
state_of (focus.Typed t d) b = Typed b t.line t.mods.items t.base (names_of d)
state_of (focus.NeedOpen h) b = NeedOpen b (head_of h)
state_of (focus.NeedParam h) b = NeedParam b (head_of h)
state_of (focus.NextParam h) b = NextParam b (head_of h.head) h.params.items
state_of (focus.ParamStars h line ty) b = ParamStars b (head_of h.head) h.params.items line ty.base ty.stars
state_of (focus.BehindParam h) b = BehindParam b (head_of h.head) h.params.items
state_of (focus.HaveParams h) b = HaveParams b (head_of h.head) h.params.items
state_of (focus.InBody h line s f) b = InBody b (head_of h.head) h.params.items line (stmt_state f (stack_of s))

-- the state that is next, or none
abbrev pub Goes : Option State → Before → Option Focus → Type 0
Goes o b (Some f) = o ≡ Some (state_of f b)
Goes o b None = o ≡ None

-- the state that is next, or none, unless memory ran out
abbrev pub Moves : Option State → Before → Result (Option Focus) AllocError → Type 0
Moves o b (Ok f) = Goes o b f
Moves o b (Err e) = Unit {0}

-- a token of the names behind a type word, or behind them
abbrev pub typed_read : ℕ → List ModifierWord → BaseWord → Names → Seen → Before → Option State
typed_read line ms t d x b = step (Typed b line ms t d) x
