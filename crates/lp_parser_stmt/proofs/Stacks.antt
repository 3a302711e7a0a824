-- The stack as the program keeps it.
use Rattle.std.proofs.Common.{◌≡◌, ℕ, map, length, take, get_or, ◌+◌, ◌-◌, List, [], ◌∷◌, ◌++◌, refl, ◌<◌, ap, ◌∙◌, sym, subst, arith, Bool, true, false, cond}
use Rattle.std.specs.Prelude.{Option, Some, None}
use Rattle.std.specs.Option.{option_to_list}
use Rattle.std.proofs.lemmas.List.{take_more}
use Rattle.std.proofs.Math.Seq.{take-length}
use Rattle.lp_tree.specs.Statements.{Around, StmtTree, in_function}
use Rattle.lp_parser_stmt.specs.declared.frame.Frame.{Frame as CodeFrame}
use Rattle.lp_parser_stmt.specs.declared.frame.Open.{Open}
use Rattle.lp_parser_stmt.specs.Arounds.{around_in, IsRight, AllRight}
use Rattle.lp_parser_stmt.specs.Depth.{depth, extra, frame_extra}
use Rattle.lp_parser_stmt.specs.Machine.{Frame, InBlock, InSwitch, IfYes, IfNo, WhileBody, DoBody, ForBody, EachBody, Stack, InFunction, Inside, around}
use Rattle.lp_parser_stmt.specs.StackView.{above}
use Rattle.lp_parser_stmt.specs.View.{frame_of}

pub above-push : (s : Stack) (os : List Open) (o : Open) → above s (os ++ o ∷ []) ≡ Inside (frame_of o.frame) (above s os)
above-push s [] o = refl
above-push s (x ∷ os) o = above-push (Inside (frame_of x.frame) s) os o

around-in : (f : Frame) (s : Stack) → around (Inside f s) ≡ around_in f (around s)
around-in (InBlock line done) s = refl
around-in (InSwitch w) s = refl
around-in (IfYes line e) s = refl
around-in (IfNo line e y) s = refl
around-in (WhileBody line e) s = refl
around-in (DoBody line) s = refl
around-in (ForBody line i t p) s = refl
around-in (EachBody line f g e) s = refl

-- what stands round a statement in all of these
abbrev round : Around → List Open → Around
round a [] = a
round a (o ∷ os) = round (around_in (frame_of o.frame) a) os

around-above : (s : Stack) (os : List Open) → around (above s os) ≡ round (around s) os
around-above s [] = refl
around-above s (o ∷ os) = around-above (Inside (frame_of o.frame) s) os ∙ ap (λ a. round a os) (around-in (frame_of o.frame) s)

right-push : (a : Around) (os : List Open) (o : Open) → AllRight a os → IsRight (around_in (frame_of o.frame) (round a os)) o → AllRight a (os ++ o ∷ [])
right-push a [] o h r = (r, tt)
right-push a (x ∷ os) o h r = (h.0, right-push (around_in (frame_of x.frame) a) os o h.1 r)

right-front : (a : Around) (os : List Open) (o : Open) → AllRight a (os ++ o ∷ []) → AllRight a os
right-front a [] o h = tt
right-front a (x ∷ os) o h = (h.0, right-front (around_in (frame_of x.frame) a) os o h.1)

right-last : (a : Around) (os : List Open) (o : Open) → AllRight a (os ++ o ∷ []) → IsRight (round a (os ++ o ∷ [])) o
right-last a [] o h = h.0
right-last a (x ∷ os) o h = right-last (around_in (frame_of x.frame) a) os o h.1

split_last : (os : List Open) (i : ℕ) (x : Open) → i ≡ length os → 0 < i → x ≡ get_or os (i - 1) x → os ≡ take (i - 1) os ++ x ∷ []
split_last os i x e h w =
    let all : os ≡ take (i - 1) os ++ get_or os (i - 1) x ∷ [] = sym (take-length os) ∙ ap (λ m. take m os) (omega arith) ∙ take_more os (i - 1) x (omega arith) in
    all ∙ ap (λ y. take (i - 1) os ++ y ∷ []) (sym w)

pub top_right : (ds : List StmtTree) (os : List Open) (i : ℕ) (x : Open) → i ≡ length os → 0 < i → x ≡ get_or os (i - 1) x → AllRight in_function os → IsRight (around (above (InFunction ds) os)) x
top_right ds os i x e h w a =
    let all = split_last os i x e h w in
    let last : IsRight (round in_function os) x = subst (λ l. IsRight (round in_function l) x) (sym all) (right-last in_function (take (i - 1) os) x (subst (λ l. AllRight in_function l) all a)) in
    subst (λ b. IsRight b x) (sym (around-above (InFunction ds) os)) last

pub top_extra : (ds : List StmtTree) (os : List Open) (i : ℕ) (x : Open) (n : ℕ) → i ≡ length os → 0 < i → x ≡ get_or os (i - 1) x → n ≡ frame_extra (frame_of x.frame) → n ≡ extra (above (InFunction ds) os)
top_extra ds os i x n e h w k =
    let all = split_last os i x e h w in
    k ∙ ap extra (sym (ap (above (InFunction ds)) all ∙ above-push (InFunction ds) (take (i - 1) os) x))

pub depth-above : (s : Stack) (os : List Open) → depth (above s os) ≡ depth s + length os
depth-above s [] = omega arith
depth-above s (o ∷ os) = omega (arith, depth-above (Inside (frame_of o.frame) s) os)

pub popped_right : (r : Option Open) (old new : List Open) → old ≡ new ++ option_to_list r → AllRight in_function old → AllRight in_function new
popped_right None old new e a = subst (λ l. AllRight in_function l) (e ∙ empty_end new) a
  where
    empty_end : (l : List Open) → l ++ [] ≡ l
    empty_end [] = refl
    empty_end (x ∷ l) = ap (λ m. x ∷ m) (empty_end l)
popped_right (Some o) old new e a = right-front in_function new o (subst (λ l. AllRight in_function l) e a)

pub pushed_right : (b : Bool) (ds : List StmtTree) (old new : List Open) (o : Open) (f : CodeFrame) → new ≡ cond b (old ++ o ∷ []) old → o.frame ≡ f → AllRight in_function old → IsRight (around_in (frame_of f) (around (above (InFunction ds) old))) o → AllRight in_function new
pushed_right true ds old new o f e w a r =
    let s : IsRight (around_in (frame_of o.frame) (round in_function old)) o = subst (λ b. IsRight (around_in (frame_of o.frame) b) o) (around-above (InFunction ds) old) (subst (λ g. IsRight (around_in (frame_of g) (around (above (InFunction ds) old))) o) (sym w) r) in
    subst (λ l. AllRight in_function l) (sym e) (right-push in_function old o a s)
pushed_right false ds old new o f e w a r = subst (λ l. AllRight in_function l) (sym e) a

pub pushed_view : (s : Stack) (old new : List Open) (o : Open) (f : CodeFrame) → new ≡ old ++ o ∷ [] → o.frame ≡ f → above s new ≡ Inside (frame_of f) (above s old)
pushed_view s old new o f e w = ap (above s) e ∙ above-push s old o ∙ ap (λ g. Inside (frame_of g) (above s old)) w

pub map-push : {A B : Type 0} (f : A → B) (xs : List A) (x : A) → map f (xs ++ x ∷ []) ≡ map f xs ++ f x ∷ []
map-push f [] x = refl
map-push f (y ∷ ys) x = ap (λ ts. f y ∷ ts) (map-push f ys x)

-- where only the function's block is open, that stays so
pub add_view : (ds es : List StmtTree) (os : List Open) → above (InFunction ds) os ≡ InFunction ds → above (InFunction es) os ≡ InFunction es
add_view ds es [] e = refl
add_view ds es (o ∷ os) e = absurd (omega (arith, ap depth e, depth-above (Inside (frame_of o.frame) (InFunction ds)) os))
