-- Which actions are tried.
use Rattle.std.proofs.Common.{◌≡◌, ◌∙◌, ◌+◌, ◌-◌, ◌<◌, ◌≤◌, ◌++◌, ◌∷◌, [], ℕ, Bool, true, false, ◌&&◌, List, refl, ap, sym, subst, map, length, take, slice_index_or, arith}
use Rattle.std.proofs.lemmas.List.{take_all, take_more}
use Rattle.lp_values.specs.declared.id.ObjId.{ObjId}
use Rattle.lp_actions.specs.Actions.{Sentence as Action, holds}
use Rattle.lp_actions.specs.Held.{Lists}
use Rattle.lp_actions.specs.Stored.{sentence_of}
use Rattle.lp_actions.specs.declared.sentence.Sentence.{Sentence}
use Rattle.lp_language.specs.World.{is_live}
use Rattle.lp_world.specs.Rows.{live_in}
use Rattle.lp_world.specs.declared.live.Live.{Live}
use Rattle.lp_world.proofs.Keeping.{live_same}
use Rattle.lp_commanding.specs.Trying.{AreTriedAs, IsFirstLive, IsFirstTried, IsLeft, IsNext, IsTried, actions_in}
use Rattle.lp_commanding.proofs.Backwards.{turned}
use Rattle.lp_commanding.proofs.Courses.{passed}
use Rattle.lp_meaning.specs.MovesAndCommands.{trying}

-- By what the live state tells

and_false : (b : Bool) → false ≡ b && false
and_false true = refl
and_false false = refl

and_true : (b : Bool) → b ≡ b && true
and_true true = refl
and_true false = refl

pub giver_dead : (live : Live) (o : ObjId) (x : Sentence) → live_in live.objects x.giver ≡ false → IsTried false live o x
giver_dead live o x l g turn b s h =
    let dead : is_live s.world x.giver ≡ false = sym (ap (λ f. f x.giver) (live_same g.told g.programs live s.world h.stands)) ∙ l in
    and_false (holds s.world.sentences o x.number) ∙ ap (λ b. holds s.world.sentences o x.number && b) (sym dead)

pub held_so : (live : Live) (o : ObjId) (x : Sentence) (is : Bool) → live_in live.objects x.giver ≡ true → ((ss : List Action) → Lists live.actions ss → is ≡ holds ss o x.number) → IsTried is live o x
held_so live o x is l f g turn b s h =
    let alive : is_live s.world x.giver ≡ true = sym (ap (λ f. f x.giver) (live_same g.told g.programs live s.world h.stands)) ∙ l in
    f s.world.sentences h.stands.rest.sentences ∙ and_true (holds s.world.sentences o x.number) ∙ ap (λ b. holds s.world.sentences o x.number && b) (sym alive)

-- Those that are left

-- one more
pub actions_more : (o : ObjId) (ys : List Sentence) (x : Sentence) → actions_in o (ys ++ x ∷ []) ≡ sentence_of o x ∷ actions_in o ys
actions_more o ys x = ap (map (sentence_of o)) (turned ys x)

pub all_left : (live : Live) (o : ObjId) (left : List Sentence) (n : ℕ) → n ≡ length left → AreTriedAs live o left (take n left)
all_left live o left n e g turn b by s v h = ap (λ l. trying by o v (actions_in o l) s) (sym (take_all n left (omega arith)))

-- the last one
last_of : (left : List Sentence) (n : ℕ) (x : Sentence) → 0 < n → n ≤ length left → x ≡ slice_index_or left (n - 1) x → take n left ≡ take (n - 1) left ++ x ∷ []
last_of left n x p l e =
    let one : n ≡ n - 1 + 1 = omega arith in
    ap (λ k. take k left) one ∙ take_more left (n - 1) x (omega arith) ∙ ap (λ y. take (n - 1) left ++ y ∷ []) (sym e)

-- it is passed
pub one_passed : (live : Live) (o : ObjId) (left : List Sentence) (n : ℕ) (x : Sentence) → 0 < n → n ≤ length left → x ≡ slice_index_or left (n - 1) x → IsTried false live o x → AreTriedAs live o left (take n left)
    → AreTriedAs live o left (take (n - 1) left)
one_passed live o left n x p l e t f g turn b by s v h =
    f g turn b by s v h ∙ ap (λ ys. trying by o v ys s) (ap (actions_in o) (last_of left n x p l e) ∙ actions_more o (take (n - 1) left) x)
    ∙ passed by o v (sentence_of o x) (actions_in o (take (n - 1) left)) s (sym (t g turn b s h))

-- it is tried
next_of : (live : Live) (o : ObjId) (ys : List Sentence) (x : Sentence) → IsTried true live o x → live_in live.objects x.giver ≡ true → IsNext live o (ys ++ x ∷ [])
next_of live o ys x t l = record {
  tried = λ g turn b s h. subst (λ zs. IsFirstTried s.world o zs) (sym (actions_more o ys x)) (sym (t g turn b s h));
  giver = subst (λ zs. IsFirstLive live.objects zs) (sym (actions_more o ys x)) l;
}

pub one_tried : (live : Live) (o : ObjId) (left : List Sentence) (n : ℕ) (x : Sentence) → 0 < n → n ≤ length left → x ≡ slice_index_or left (n - 1) x → IsTried true live o x → live_in live.objects x.giver ≡ true
    → AreTriedAs live o left (take n left) → IsLeft live o left n
one_tried live o left n x p l e t a f = record {
  within = l;
  same = f;
  next = subst (λ ys. IsNext live o ys) (sym (last_of left n x p l e)) (next_of live o (take (n - 1) left) x t a);
}

-- none is left
pub none_left : (live : Live) (o : ObjId) (left : List Sentence) (n : ℕ) → n ≡ 0 → AreTriedAs live o left (take n left) → IsLeft live o left 0
none_left live o left n z f = record {
  within = omega arith;
  same = subst (λ k. AreTriedAs live o left (take k left)) z f;
  next = record { tried = λ g turn b s h. tt; giver = tt };
}
