-- Rounds are heard, one after another.
use Rattle.std.proofs.Common.{subst, ◌≡◌, ℕ, List, [], ◌∷◌, ◌++◌, refl, sym, ap, ◌∙◌, append-nil, append_assoc}
use Rattle.lp_wire.specs.Courses.{Course, Over, Deed, Along, over, and_then}
use Rattle.lp_wire.specs.Heard.{Hearing, Slow, hearing_from, heard, next_heard}
use Rattle.lp_wire.specs.Wires.{given}
use Rattle.lp_wire.specs.declared.happening.Happening.{Happening}
use Rattle.lp_wire.specs.declared.happening.WireCall.{WireCall}
use Rattle.lp_wire.specs.declared.happening.WireCall.TheVariants.{Gave}
use Rattle.lp_sessions.proofs.Taking.{given_append}
use Rattle.lp_serving.proofs.LinesHeard.{along_over, along_parts, along_same, along_then}
use Rattle.lp_serve.specs.Rounds.{IsRound, Rounds, no_round, one_more}

-- what is heard of one more happening
pub heard_more : (slow : Slow) (xs : List Happening) (x : Happening) (h a b : Hearing) (ds es : List Deed) → Along (heard slow xs h) ds a → Along (next_heard slow x a) es b → Along (heard slow (xs ++ x ∷ []) h) (ds ++ es) b
heard_more slow [] x h a b ds es first second =
    let none = along_over h a ds first in
    let two : Along (next_heard slow x h) es b = subst (λ (y : Hearing). Along (next_heard slow x y) es b) none.1 second in
    let last : Along (and_then (next_heard slow x h) (heard slow [])) (es ++ []) b = along_then (next_heard slow x h) (heard slow []) es [] b b two (over b) in
    along_same (heard slow (x ∷ []) h) (es ++ []) (ds ++ es) b (append-nil es ∙ ap (λ (ys : List Deed). ys ++ es) (sym none.0)) last
heard_more slow (y ∷ xs) x h a b ds es first second =
    let p = along_parts (next_heard slow y h) (heard slow xs) ds a first in
    let rest = heard_more slow xs x p.mid a b p.second es p.there second in
    let all = along_then (next_heard slow y h) (heard slow (xs ++ x ∷ [])) p.first (p.second ++ es) p.mid b p.here rest in
    along_same (heard slow (y ∷ (xs ++ x ∷ [])) h) (p.first ++ (p.second ++ es)) (ds ++ es) b (sym (append_assoc p.first p.second es) ∙ ap (λ (ys : List Deed). ys ++ es) (sym p.whole)) all

pub rounds_heard : (slow : Slow) (opening : ℕ) (calls : List WireCall) (deeds : List Deed) (after : Hearing) → Rounds slow opening calls deeds after → Along (heard slow (given calls) (hearing_from opening)) deeds after
rounds_heard slow opening _ _ _ no_round = over (hearing_from opening)
rounds_heard slow opening _ _ _ (one_more calls before at happening more deeds after rounds round) =
    let so_far = rounds_heard slow opening calls before at rounds in
    let all : given (calls ++ Gave happening ∷ more) ≡ given calls ++ happening ∷ [] = given_append calls (Gave happening ∷ more) ∙ ap (λ (hs : List Happening). given calls ++ happening ∷ hs) round.none_given in
    subst (λ (hs : List Happening). Along (heard slow hs (hearing_from opening)) (before ++ deeds) after) (sym all)
    (heard_more slow (given calls) happening (hearing_from opening) at after before deeds so_far round.along)
