-- The levels that open productions add, kept beside each of them.
use Rattle.std.specs.Prelude.{◌≡◌, ℕ, ◌+◌, suc, max, List, [], ◌∷◌, Bool, true, false, ⊤, Option, Some, None}
use Rattle.std.specs.Coded.{×_prop, Π_prop, Unit-prop}
use Rattle.std.proofs.Math.Nat.{ℕ_set}
use Rattle.lp_tree.specs.Trees.{height, end_height}
use Rattle.lp_parser_expr.specs.declared.open.Lift.{Lift}
use Rattle.lp_parser_expr.specs.declared.open.Open.{Open}
use Rattle.lp_parser_expr.specs.Capped.{capped}
use Rattle.lp_parser_expr.specs.View.{frame_of}
use Rattle.lp_parser_expr.specs.Machine.{Frame, Alone, InParen, InArray, AtKey, AtValue, InArgs, ScanText, ScanForm, ScanPlaces, InIndex, InRange, Stepping, LeftOf, Testing, Choosing, Assigning, InSequence, Stack}
use Rattle.lp_parser_expr.specs.Depth.{tallest, tallest_pair, callee_height, total, least_need}

-- the lift gives the levels of the whole for each number of levels of the part
abbrev pub IsLift : Lift → (ℕ → ℕ) → Type 0
IsLift l f = (h : ℕ) → capped (f h) ≡ capped (max l.floor (h + l.rise))

-- the levels of the parts beside the open one; an operand that has still to come has 1
abbrev pub beside : Frame → ℕ
beside (InArray line done) = tallest done
beside (AtKey line done) = max (tallest_pair done) 1
beside (AtValue line done k) = max (tallest_pair done) (height k)
beside (InArgs c w done) = max (callee_height c) (tallest done)
beside (ScanText line) = 1
beside (ScanForm line t) = height t
beside (ScanPlaces line t f done) = max (height t) (max (height f) (tallest done))
beside (InIndex t e) = height t
beside (InRange t a e) = max (height t) (end_height a)
beside (LeftOf op t) = height t
beside (Testing t) = max (height t) 1
beside (Choosing t y) = max (height t) (height y)
beside (Assigning op p) = height p
beside (InSequence line done) = tallest done
beside _ = 0

-- whether the open part has to be a place
abbrev pub wants_place : Frame → Bool
wants_place (ScanPlaces line t f done) = true
wants_place (Stepping line s) = true
wants_place _ = false

abbrev pub is_alone : Frame → Bool
is_alone Alone = true
is_alone _ = false

-- what stands beside the production on top of this stack is right
abbrev pub IsRight : Stack → Open → Type 0
IsRight s o = IsLift o.place (total s true) × (IsLift o.other (total s false) × (o.least ≡ capped (least_need s)))

-- productions put on a stack, the first one lowest
abbrev pub above : Stack → List Open → Stack
above s [] = s
above s (o ∷ os) = above (frame_of o.frame ∷ s) os

-- what stands beside each production is right
abbrev pub AllRight : Stack → List Open → Type 0
AllRight s [] = ⊤
AllRight s (o ∷ os) = IsRight (frame_of o.frame ∷ s) o × AllRight (frame_of o.frame ∷ s) os

-- there is one proof of it at most
pub IsRight-prop : (s : Stack) (o : Open) → IsProp (IsRight s o)
IsRight-prop s o = ×_prop (Π_prop (λ h. ℕ_set _ _)) (×_prop (Π_prop (λ h. ℕ_set _ _)) (ℕ_set _ _))

pub AllRight-prop : (s : Stack) (os : List Open) → IsProp (AllRight s os)
AllRight-prop s [] = Unit-prop
AllRight-prop s (o ∷ os) = ×_prop (IsRight-prop (frame_of o.frame ∷ s) o) (AllRight-prop (frame_of o.frame ∷ s) os)

-- the levels of a production that may end where its next part could begin
abbrev pub ended : Frame → Option ℕ
ended (InArgs c w done) = Some (suc (max (callee_height c) (tallest done)))
ended (InArray line done) = Some (suc (tallest done))
ended (AtKey line done) = Some (suc (tallest_pair done))
ended (ScanPlaces line t f done) = Some (suc (max (height t) (max (height f) (tallest done))))
-- behind `(` the shallowest is `({ })`
ended (InParen line) = Some 1
ended _ = None
