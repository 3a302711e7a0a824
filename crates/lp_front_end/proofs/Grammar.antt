-- Tokens spell a unit in which nothing is too deep, or have a first fault.
use Rattle.std.proofs.Common.{◌≡◌, ◌≤◌, ◌<◌, ◌+◌, ◌⊎◌, inl, inr, ℕ, zero, suc, List, Option, Some, None, refl, length, take, get_or, arith}
use Rattle.std.specs.Prelude.{false}
use Rattle.std.proofs.lemmas.Bool.{cases_lt}
use Rattle.lp_tree.specs.declared.fault.FaultKind.{FaultKind}
use Rattle.lp_tree.specs.declared.fault.FaultKind.TheVariants as kinds
use Rattle.lp_tree.specs.declared.token.Mark.TheVariants.{Semicolon}
use Rattle.lp_tree.specs.declared.token.Token.{Token}
use Rattle.lp_tree.specs.declared.token.TokenKind.TheVariants.{Mark}
use Rattle.lp_tree.specs.Seen.{seen}
use Rattle.lp_tree.specs.Units.{ItemTree, SpellsUnit, IsUnexpected, IsTooNested, line_at, unit_height}
use Rattle.lp_parser.specs.Machine.{State, start, step, finished, walk}
use Rattle.lp_parser.specs.Depth.{least}
use Rattle.lp_parser.specs.Stops.{Stands}
use Rattle.lp_parser.specs.Theorem.{sight, deepest}
use Rattle.lp_parser.proofs.Main.{found, nested_at, unexpected_at, unexpected_end, walk_more}
use Rattle.lp_front.specs.Reading.{IsUnitFault}

-- they do the one or the other
abbrev pub HasUnit : List Token → Type 0
HasUnit ts = ((is : List ItemTree) × SpellsUnit is (sight ts) × (unit_height is ≤ deepest)) ⊎ ((kind : FaultKind) × (line : ℕ) × IsUnitFault ts kind line)

-- any token
none : Token
none = record { kind = Mark Semicolon; line = 0; at = 0; len = 0; first = false }

unexpected : (ts : List Token) (at : ℕ) → IsUnexpected deepest (sight ts) at → HasUnit ts
unexpected ts at u = inr (kinds.Unexpected, line_at (sight ts) at, (at, u, refl))

nested : (ts : List Token) (at : ℕ) → IsTooNested deepest (sight ts) at → HasUnit ts
nested ts at t = inr (kinds.TooNested, line_at (sight ts) at, (at, t, refl))

-- the tokens end here
at_end : (ts : List Token) (n : ℕ) (st : State) → Stands deepest ts n st → n ≡ length ts → (o : Option (List ItemTree)) → finished st ≡ o → HasUnit ts
at_end ts n st s e None f = unexpected ts n (unexpected_end deepest ts n st s e f)
at_end ts n st s e (Some is) f = let u = found deepest ts n st is s e f in inl (is, u.0, u.1)

-- a token leads on, or too deep
led : (ts : List Token) (n : ℕ) (st next : State) → Stands deepest ts n st → n < length ts → walk start (sight (take (n + 1) ts)) ≡ Some next → (Stands deepest ts (n + 1) next → HasUnit ts) → HasUnit ts
led ts n st next s lt w go =
    elim (cases_lt deepest (least next)) [
      | inl deep ↦ nested ts n (nested_at deepest ts n st next s lt w deep)
      | inr shallow ↦ go (record { within = omega (arith, lt); walked = w; shallow = shallow })
    ]

-- or it is refused
at_token : (ts : List Token) (n : ℕ) (st : State) → Stands deepest ts n st → n < length ts → (o : Option State) → walk start (sight (take (n + 1) ts)) ≡ o → ((next : State) → Stands deepest ts (n + 1) next → HasUnit ts) → HasUnit ts
at_token ts n st s lt None w go = unexpected ts n (unexpected_at deepest ts n st s lt w)
at_token ts n st s lt (Some next) w go = led ts n st next s lt w (go next)

-- so many tokens are left
from : (ts : List Token) (left n : ℕ) (st : State) → left + n ≡ length ts → Stands deepest ts n st → HasUnit ts
from ts zero n st e s = at_end ts n st s (omega (arith, e)) (finished st) refl
from ts (suc left) n st e s =
    let lt : n < length ts = omega (arith, e) in
    at_token ts n st s lt (step st (seen (get_or ts n none))) (walk_more ts n none st (step st (seen (get_or ts n none))) lt s.walked refl) (λ next t. from ts left (n + 1) next (omega (arith, e)) t)

pub has_unit : (ts : List Token) → HasUnit ts
has_unit ts = from ts (length ts) 0 start (omega arith) (record { within = omega arith; walked = refl; shallow = omega arith })
