-- The stack as the program keeps it.
use Rattle.std.proofs.Common.{◌≡◌, ℕ, length, take, get_or, suc, ◌-◌, max, List, [], ◌∷◌, ◌++◌, refl, ◌<◌, ap, ◌∙◌, sym, subst, arith, Bool, true, false, cond}
use Rattle.std.specs.Prelude.{Option, Some, None, IfSome, option_map}
use Rattle.std.specs.Option.{option_to_list}
use Rattle.std.proofs.lemmas.List.{take_more}
use Rattle.std.proofs.Math.Seq.{take-length}
use Rattle.lp_tree.specs.Trees.{height}
use Rattle.lp_parser_expr.specs.declared.frame.Frame.{Frame as CodeFrame}
use Rattle.lp_parser_expr.specs.declared.open.Lift.{Lift}
use Rattle.lp_parser_expr.specs.declared.open.Open.{Open}
use Rattle.lp_parser_expr.specs.Capped.{capped}
use Rattle.lp_parser_expr.specs.Machine.{Frame, InParen, InArray, AtKey, InArgs, ScanPlaces, Stack, wants, wants_of}
use Rattle.lp_parser_expr.specs.Depth.{tallest, tallest_pair, callee_height, total, least_need}
use Rattle.lp_parser_expr.specs.View.{frame_of}
use Rattle.lp_parser_expr.specs.Levels.{IsLift, IsRight, AllRight, above, ended}

pub above-push : (s : Stack) (os : List Open) (o : Open) → above s (os ++ o ∷ []) ≡ frame_of o.frame ∷ above s os
above-push s [] o = refl
above-push s (x ∷ os) o = above-push (frame_of x.frame ∷ s) os o

pub right-push : (s : Stack) (os : List Open) (o : Open) → AllRight s os → IsRight (frame_of o.frame ∷ above s os) o → AllRight s (os ++ o ∷ [])
right-push s [] o a r = (r, tt)
right-push s (x ∷ os) o a r = (a.0, right-push (frame_of x.frame ∷ s) os o a.1 r)

right-front : (s : Stack) (os : List Open) (o : Open) → AllRight s (os ++ o ∷ []) → AllRight s os
right-front s [] o a = tt
right-front s (x ∷ os) o a = (a.0, right-front (frame_of x.frame ∷ s) os o a.1)

right-last : (s : Stack) (os : List Open) (o : Open) → AllRight s (os ++ o ∷ []) → IsRight (above s (os ++ o ∷ [])) o
right-last s [] o a = a.0
right-last s (x ∷ os) o a = right-last (frame_of x.frame ∷ s) os o a.1

split_last : (os : List Open) (i : ℕ) (x : Open) → i ≡ length os → 0 < i → x ≡ get_or os (i - 1) x → os ≡ take (i - 1) os ++ x ∷ []
split_last os i x e h w =
    let all : os ≡ take (i - 1) os ++ get_or os (i - 1) x ∷ [] = sym (take-length os) ∙ ap (λ m. take m os) (omega arith) ∙ take_more os (i - 1) x (omega arith) in
    all ∙ ap (λ y. take (i - 1) os ++ y ∷ []) (sym w)

pub top_right : (os : List Open) (i : ℕ) (x : Open) → i ≡ length os → 0 < i → x ≡ get_or os (i - 1) x → AllRight [] os → IsRight (above [] os) x
top_right os i x e h w a =
    let all = split_last os i x e h w in
    subst (λ l. IsRight (above [] l) x) (sym all) (right-last [] (take (i - 1) os) x (subst (λ l. AllRight [] l) all a))

pub top_wants : (os : List Open) (i : ℕ) (x : Open) (n : ℕ) → i ≡ length os → 0 < i → x ≡ get_or os (i - 1) x → n ≡ wants (frame_of x.frame) → n ≡ wants_of (above [] os)
top_wants os i x n e h w k =
    let all = split_last os i x e h w in
    k ∙ ap wants_of (sym (ap (above []) all ∙ above-push [] (take (i - 1) os) x))

pub popped_view : (r : Option Open) (old new : List Open) → old ≡ new ++ option_to_list r → IfSome r (λ o. above [] old ≡ frame_of o.frame ∷ above [] new)
popped_view None old new e = tt
popped_view (Some o) old new e = ap (above []) e ∙ above-push [] new o

pub popped_right : (r : Option Open) (old new : List Open) → old ≡ new ++ option_to_list r → AllRight [] old → AllRight [] new
popped_right None old new e a = subst (λ l. AllRight [] l) (e ∙ empty_end new) a
  where
    empty_end : (l : List Open) → l ++ [] ≡ l
    empty_end [] = refl
    empty_end (x ∷ l) = ap (λ m. x ∷ m) (empty_end l)
popped_right (Some o) old new e a = right-front [] new o (subst (λ l. AllRight [] l) e a)

pub least_ended : (f : Frame) (s : Stack) (n : ℕ) → ended f ≡ Some n → least_need (f ∷ s) ≡ total s false n
least_ended (InArgs c w done) s n e = let k : suc (max (callee_height c) (tallest done)) ≡ n = cc in ap (total s false) k
least_ended (InArray line done) s n e = let k : suc (tallest done) ≡ n = cc in ap (total s false) k
least_ended (AtKey line done) s n e = let k : suc (tallest_pair done) ≡ n = cc in ap (total s false) k
least_ended (ScanPlaces line t f done) s n e = let k : suc (max (height t) (max (height f) (tallest done))) ≡ n = cc in ap (total s false) k
least_ended (InParen line) s n e = let k : 1 ≡ n = cc in ap (total s false) k
least_ended _ s n e = cc

pub least_open : (f : Frame) (s : Stack) → ended f ≡ None → least_need (f ∷ s) ≡ total (f ∷ s) true 1
least_open (InArgs c w done) s e = cc
least_open (InArray line done) s e = cc
least_open (AtKey line done) s e = cc
least_open (ScanPlaces line t f done) s e = cc
least_open (InParen line) s e = cc
least_open _ s e = refl

pub pushed_right : (b : Bool) (old new : List Open) (o : Open) (f : CodeFrame) → new ≡ cond b (old ++ o ∷ []) old → o.frame ≡ f → AllRight [] old → IsRight (frame_of f ∷ above [] old) o → AllRight [] new
pushed_right true old new o f e w a r = subst (λ l. AllRight [] l) (sym e) (right-push [] old o a (subst (λ g. IsRight (frame_of g ∷ above [] old) o) (sym w) r))
pushed_right false old new o f e w a r = subst (λ l. AllRight [] l) (sym e) a

pub pushed_view : (old new : List Open) (o : Open) (f : CodeFrame) → new ≡ old ++ o ∷ [] → o.frame ≡ f → above [] new ≡ frame_of f ∷ above [] old
pushed_view old new o f e w = ap (above []) e ∙ above-push [] old o ∙ ap (λ g. frame_of g ∷ above [] old) w

pub lift_as : (l : Lift) (s : Stack) (b d : Bool) → b ≡ d → IsLift l (total s b) → IsLift l (total s d)
lift_as l s b d e h = subst (λ x. IsLift l (total s x)) e h

by_ended : (f : Frame) (s : Stack) (o : Option ℕ) (levels least : ℕ) → ended f ≡ o → Some levels ≡ option_map capped o → ((n : ℕ) → levels ≡ capped n → least ≡ capped (total s false n)) → least ≡ capped (least_need (f ∷ s))
by_ended f s None levels least e w h = cc
by_ended f s (Some n) levels least e w h = let k : levels ≡ capped n = cc in h n k ∙ ap capped (sym (least_ended f s n e))

by_open : (f : Frame) (s : Stack) (o : Option ℕ) (least : ℕ) → ended f ≡ o → None ≡ option_map capped o → least ≡ capped (total (f ∷ s) true 1) → least ≡ capped (least_need (f ∷ s))
by_open f s None least e w h = h ∙ ap capped (sym (least_open f s e))
by_open f s (Some n) least e w h = cc

pub opened_least : (f : Frame) (s : Stack) (r : Option ℕ) (levels least : ℕ) → r ≡ option_map capped (ended f) → r ≡ Some levels → ((n : ℕ) → levels ≡ capped n → least ≡ capped (total s false n)) → least ≡ capped (least_need (f ∷ s))
opened_least f s r levels least e w h = by_ended f s (ended f) levels least refl (sym w ∙ e) h

pub opened_open : (f : Frame) (s : Stack) (r : Option ℕ) (least : ℕ) → r ≡ option_map capped (ended f) → r ≡ None → least ≡ capped (total (f ∷ s) true 1) → least ≡ capped (least_need (f ∷ s))
opened_open f s r least e w h = by_open f s (ended f) least refl (sym w ∙ e) h
