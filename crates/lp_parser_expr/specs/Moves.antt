-- What the program's steps come to.
use Rattle.std.specs.Prelude.{◌≡◌, ℕ, [], ◌∷◌, Option, Some, None, Result, Ok, Err}
use Rattle.std.specs.declared.alloc.AllocError.{AllocError}
use Rattle.lp_tree.specs.declared.seen.Seen.{Seen}
use Rattle.lp_tree.specs.Trees.{Tree}
use Rattle.lp_tree.specs.TreeView.{tree_of}
use Rattle.lp_parser_expr.specs.declared.tall.Tall.{Tall}
use Rattle.lp_parser_expr.specs.declared.frame.Frame.{Frame as CodeFrame}
use Rattle.lp_parser_expr.specs.declared.focus.Focus.{Focus}
use Rattle.lp_parser_expr.specs.declared.focus.Focus.TheVariants as focus
use Rattle.lp_parser_expr.specs.declared.focus.Acted.{Acted}
use Rattle.lp_parser_expr.specs.declared.focus.Acted.TheVariants as acted
use Rattle.lp_parser_expr.specs.declared.focus.Moved.{Moved}
use Rattle.lp_parser_expr.specs.declared.focus.Moved.TheVariants as moved
use Rattle.lp_parser_expr.specs.View.{callee_of, frame_of, tree_in}
use Rattle.lp_parser_expr.specs.Machine.{Frame, ScanText, ScanForm, ScanPlaces, Stack, State, Need, Have, EndCast, EndLiteral, NeedName, NeedParen, settle, step, finished, next_place, begun_sequence}

-- the state of the machine
abbrev pub state_of : Focus → Stack → State
state_of focus.Need s = Need s
state_of (focus.Have t) s = Have (tree_of t.expr.value) s
state_of (focus.EndCast line ty) s = EndCast line ty s
state_of (focus.EndLiteral t) s = EndLiteral (tree_of t.expr.value) s
state_of (focus.NeedName c) s = NeedName (callee_of c) s
state_of (focus.NeedParen f) s = NeedParen (frame_of f) s

-- ending productions: the tree and the stack that are left, or none
abbrev pub Settled : ℕ → Tree → Stack → Stack → Option Tall → Type 0
Settled p t s s' None = settle p t s ≡ None
Settled p t s s' (Some u) = settle p t s ≡ Some (record { tree = tree_of u.expr.value; stack = s' })

-- where an operand is waited for: the state that is next, or none
abbrev pub Begins : Option State → Stack → Result (Option Focus) AllocError → Type 0
Begins o s' (Ok (Some f)) = o ≡ Some (state_of f s')
Begins o s' (Ok None) = o ≡ None
Begins o s' (Err e) = Unit {0}

-- behind an operand: the state that is next, or none, and then all is as it was
abbrev pub Acts : Option State → Tree → Stack → Stack → Result Acted AllocError → Type 0
Acts o t s s' (Ok (acted.Goes f)) = o ≡ Some (state_of f s')
Acts o t s s' (Ok (acted.Refuses u)) = (o ≡ None) × ((tree_of u.expr.value ≡ t) × (s' ≡ s))
Acts o t s s' (Err e) = Unit {0}

-- the state that is next, or none, and then what was read is finished
abbrev pub MovesOn : Option State → Option Tree → Stack → Result Moved AllocError → Type 0
MovesOn o t s' (Ok (moved.Goes f)) = o ≡ Some (state_of f s')
MovesOn o t s' (Ok (moved.Ends u)) = (o ≡ None) × (tree_in u ≡ t)
MovesOn o t s' (Err e) = Unit {0}

-- one token
abbrev pub Moves : State → Seen → Stack → Result Moved AllocError → Type 0
Moves st x s' r = MovesOn (step st x) (finished st) s' r

-- a stack with what was taken from it
abbrev pub restored : Option CodeFrame → Stack → Stack
restored None s = s
restored (Some f) s = frame_of f ∷ s

-- a production goes on with its next part
abbrev pub OpensTo : Frame → Stack → Stack → Result Acted AllocError → Type 0
OpensTo f s s' (Ok (acted.Goes focus.Need)) = s' ≡ f ∷ s
OpensTo f s s' (Ok a) = ⊥
OpensTo f s s' (Err e) = Unit {0}

-- a comma in a scan, or where a sequence may begin
abbrev pub comma_scanned : Tree → Stack → Option State
comma_scanned t (ScanText line ∷ s) = Some (Need (ScanForm line t ∷ s))
comma_scanned t (ScanForm line x ∷ s) = Some (Need (ScanPlaces line x t [] ∷ s))
comma_scanned t (ScanPlaces line x f done ∷ s) = next_place line x f done t s
comma_scanned t s = begun_sequence t s
