-- What the operator's connection stands for.
use Rattle.std.proofs.Common.{subst, ◌≡◌, ℕ, ◌<◌, List, [], ◌∷◌, ◌++◌, length, drop, Bool, true, false, refl, sym, ap, ◌∙◌, append-nil, append_assoc, arith, inl, inr, ◌⊎◌}
use Rattle.std.proofs.lemmas.List.{length-append}
use Rattle.lp_telnet.specs.Lines.{Place, lines_of, lines_from}
use Rattle.lp_wire.specs.Heard.{Hearing, hearing_from, answered, new_span, with_stream, new_lines, most_pending}
use Rattle.lp_wire.specs.Wires.{Offers, nothing, offered, taken, given, stalls, closed}
use Rattle.lp_wire.specs.declared.happening.WireCall.{WireCall}
use Rattle.lp_wire.specs.declared.happening.WireCall.TheVariants.{Gave, Took, Closed}
use Rattle.lp_sessions.proofs.Taking.{taken_append, given_append, below_other, offer_taken, offer_other, offer_given, offer_prompt}
use Rattle.lp_control.specs.Operator.{Operator, new_operator, with_answer, IsFed, OffersOperator, is_over, offers, closes, AreFronts, no_span, one_span, HasAnswers, ReadsOn, ControlStands}
use Rattle.lp_control.specs.Laws.{OffersApart, AnswersAreFronts}

-- Fronts

-- one more span, of whose answers a front was taken
pub one_more_span : (earlier : List ℕ) (spans : List (List ℕ)) (piece rest whole : List ℕ) → whole ≡ piece ++ rest → AreFronts earlier spans → AreFronts (earlier ++ piece) (spans ++ whole ∷ [])
one_more_span _ _ piece rest whole is no_span = subst (λ (xs : List ℕ). AreFronts xs (whole ∷ [])) (append-nil piece) (one_span piece rest whole [] is no_span)
one_more_span _ _ piece rest whole is (one_span piece0 rest0 whole0 more0 {others} is0 fs) =
    subst (λ (xs : List ℕ). AreFronts xs (whole0 ∷ (others ++ whole ∷ []))) (sym (append_assoc piece0 more0 piece))
    (one_span piece0 rest0 whole0 (more0 ++ piece) is0 (one_more_span more0 others piece rest whole is fs))

-- what was taken in a span is a front of its answers
pub is_front : (over : Bool) (pending mine answers : List ℕ) → HasAnswers over pending mine answers → (rest : List ℕ) × (answers ≡ mine ++ rest)
is_front false pending mine answers is = (pending, is)
is_front true pending mine answers is = (is.0, is.1)

pub fronts_of : (c : Operator) (h : Hearing) (calls : List WireCall) → ControlStands c h calls → AreFronts (taken 0 calls) (h.spans ++ h.answers ∷ [])
fronts_of c h calls s =
    let f = is_front c.is_closed c.pending s.mine h.answers s.present in
    subst (λ (xs : List ℕ). AreFronts xs (h.spans ++ h.answers ∷ [])) (sym s.took) (one_more_span s.earlier h.spans s.mine f.0 h.answers f.1 s.fronts)

-- Streams

pub behind_append : (a b : List (List ℕ)) → drop (length a) (a ++ b) ≡ b
behind_append [] b = refl
behind_append (x ∷ a) b = behind_append a b

pub lines_new : (place : Place) (stream bytes : List ℕ) → ReadsOn place stream → lines_from place bytes ≡ new_lines stream bytes
lines_new place stream bytes reads = sym (ap (drop (length (lines_of stream))) (reads bytes) ∙ behind_append (lines_of stream) (lines_from place bytes))

pub reads_more : (place place1 : Place) (stream bytes : List ℕ) (ended : List (List ℕ)) → ended ≡ lines_from place bytes → ((more : List ℕ) → ended ++ lines_from place1 more ≡ lines_from place (bytes ++ more))
    → ReadsOn place stream → ReadsOn place1 (stream ++ bytes)
reads_more place place1 stream bytes ended is rest reads more =
    ap lines_of (append_assoc stream bytes more) ∙ reads (bytes ++ more) ∙ ap (λ (xs : List (List ℕ)). lines_of stream ++ xs) (sym (rest more))
    ∙ sym (append_assoc (lines_of stream) ended (lines_from place1 more)) ∙ ap (λ (xs : List (List ℕ)). (lines_of stream ++ xs) ++ lines_from place1 more) is
    ∙ ap (λ (xs : List (List ℕ)). xs ++ lines_from place1 more) (sym (reads bytes))

pub begins_so : (moment : ℕ) (calls : List WireCall) → taken 0 calls ≡ [] → ControlStands new_operator (hearing_from moment) calls
begins_so moment calls none = record { earlier = []; mine = []; took = none; fronts = no_span; present = refl; reads = λ rest. refl }

pub renewed_so : (c : Operator) (h : Hearing) (calls : List WireCall) → ControlStands c h calls → ControlStands new_operator (new_span h) calls
renewed_so c h calls s = record {
  earlier = taken 0 calls;
  mine = [];
  took = sym (append-nil (taken 0 calls));
  fronts = fronts_of c h calls s;
  present = refl;
  reads = λ rest. refl;
}

-- the same but for the place
pub placed : (place : Place) (stream : List ℕ) (c : Operator) (h : Hearing) (calls : List WireCall) → ReadsOn place stream → ControlStands c h calls
    → ControlStands (record c { place = place }) (with_stream 0 stream h) calls
placed place stream c h calls reads s = record { earlier = s.earlier; mine = s.mine; took = s.took; fronts = s.fronts; present = s.present; reads = reads }

pub fed_so : (bytes : List ℕ) (ended : List (List ℕ)) (c c1 : Operator) (h : Hearing) (calls : List WireCall) → IsFed bytes ended c c1 → ControlStands c h calls
    → (ended ≡ new_lines (h.links 0).stream bytes) × ControlStands c1 (with_stream 0 ((h.links 0).stream ++ bytes) h) calls
fed_so bytes ended c c1 h calls f s = (
  f.lines ∙ lines_new c.place (h.links 0).stream bytes s.reads,
  subst (λ (x : Operator). ControlStands x (with_stream 0 ((h.links 0).stream ++ bytes) h) calls) (sym f.others)
      (placed c1.place ((h.links 0).stream ++ bytes) c h calls (reads_more c.place c1.place (h.links 0).stream bytes ended f.lines f.rest s.reads) s),
)

-- Answers

pub closed_answers : (pending mine answers text : List ℕ) → HasAnswers true pending mine answers → HasAnswers true pending mine (answers ++ text)
closed_answers pending mine answers text is =
    (is.0 ++ text, ap (λ (xs : List ℕ). xs ++ text) is.1 ∙ append_assoc mine is.0 text, omega (arith, is.2, length-append is.0 text), is.3)

answered_at : (over : Bool) (text : List ℕ) (place : Place) (pending : List ℕ) (h : Hearing) (calls : List WireCall) → ControlStands (record { place = place; pending = pending; is_closed = over }) h calls
    → ControlStands (with_answer text (record { place = place; pending = pending; is_closed = over })) (answered text h) calls
answered_at false text place pending h calls s = record {
  earlier = s.earlier;
  mine = s.mine;
  took = s.took;
  fronts = s.fronts;
  present = ap (λ (xs : List ℕ). xs ++ text) s.present ∙ append_assoc s.mine pending text;
  reads = s.reads;
}
answered_at true text place pending h calls s = record {
  earlier = s.earlier;
  mine = s.mine;
  took = s.took;
  fronts = s.fronts;
  present = closed_answers pending s.mine h.answers text s.present;
  reads = s.reads;
}

pub answered_so : (text : List ℕ) (c : Operator) (h : Hearing) (calls : List WireCall) → ControlStands c h calls → ControlStands (with_answer text c) (answered text h) calls
answered_so text c h calls s = answered_at c.is_closed text c.place c.pending h calls s

-- Offers

-- what was taken in an offer was pending
pub still_answers : (pending left mine answers more : List ℕ) → answers ≡ mine ++ pending → pending ≡ more ++ left → answers ≡ (mine ++ more) ++ left
still_answers pending left mine answers more is parts = is ∙ ap (λ (xs : List ℕ). mine ++ xs) parts ∙ sym (append_assoc mine more left)

pub took_more : (calls added : List WireCall) (earlier mine : List ℕ) → taken 0 calls ≡ earlier ++ mine → taken 0 (calls ++ added) ≡ earlier ++ (mine ++ taken 0 added)
took_more calls added earlier mine took = taken_append 0 calls added ∙ ap (λ (xs : List ℕ). xs ++ taken 0 added) took ∙ append_assoc earlier mine (taken 0 added)

pub present_open : (over : Bool) (pending mine answers : List ℕ) → over ≡ false → HasAnswers over pending mine answers → answers ≡ mine ++ pending
present_open false pending mine answers e is = is
present_open true pending mine answers e is = cc

pub open_present : (over : Bool) (pending mine answers : List ℕ) → over ≡ false → answers ≡ mine ++ pending → HasAnswers over pending mine answers
open_present false pending mine answers e is = is
open_present true pending mine answers e is = cc

-- an offer leaves the rest pending
pub offered_rest : (c : Operator) (left : List ℕ) (added : List WireCall) (h : Hearing) (calls : List WireCall) → c.is_closed ≡ false → Offers 0 c.pending left added → ControlStands c h calls
    → ControlStands (record c { pending = left }) h (calls ++ added)
offered_rest c left added h calls e o s = record {
  earlier = s.earlier;
  mine = s.mine ++ taken 0 added;
  took = took_more calls added s.earlier s.mine s.took;
  fronts = s.fronts;
  present = open_present c.is_closed left (s.mine ++ taken 0 added) h.answers e
      (still_answers c.pending left s.mine h.answers (taken 0 added) (present_open c.is_closed c.pending s.mine h.answers e s.present) (offer_taken 0 c.pending left added o));
  reads = s.reads;
}

-- calls of which nothing is taken for the operator
pub calls_apart : (c : Operator) (h : Hearing) (calls added : List WireCall) → taken 0 added ≡ [] → ControlStands c h calls → ControlStands c h (calls ++ added)
calls_apart c h calls added none s = record {
  earlier = s.earlier;
  mine = s.mine;
  took = took_more calls added s.earlier s.mine s.took ∙ ap (λ (xs : List ℕ). s.earlier ++ (s.mine ++ xs)) none ∙ ap (λ (xs : List ℕ). s.earlier ++ xs) (append-nil s.mine);
  fronts = s.fronts;
  present = s.present;
  reads = s.reads;
}

pub taken_closing : (j : ℕ) (first : List WireCall) → taken j (first ++ Closed 0 ∷ []) ≡ taken j first
taken_closing j first = taken_append j first (Closed 0 ∷ []) ∙ append-nil (taken j first)

-- an offer leaves too much
pub offered_last : (c : Operator) (left : List ℕ) (first : List WireCall) (h : Hearing) (calls : List WireCall) → c.is_closed ≡ false → Offers 0 c.pending left first → most_pending < length left → ControlStands c h calls
    → ControlStands (record { place = c.place; pending = []; is_closed = true }) h (calls ++ (first ++ Closed 0 ∷ []))
offered_last c left first h calls e o many s = record {
  earlier = s.earlier;
  mine = s.mine ++ taken 0 first;
  took = took_more calls (first ++ Closed 0 ∷ []) s.earlier s.mine s.took ∙ ap (λ (xs : List ℕ). s.earlier ++ (s.mine ++ xs)) (taken_closing 0 first);
  fronts = s.fronts;
  present = (
    left,
    still_answers c.pending left s.mine h.answers (taken 0 first) (present_open c.is_closed c.pending s.mine h.answers e s.present) (offer_taken 0 c.pending left first o),
    many,
    refl,
  );
  reads = s.reads;
}

pub offered_so : (c c1 : Operator) (added : List WireCall) (h : Hearing) (calls : List WireCall) → OffersOperator c c1 added → ControlStands c h calls → ControlStands c1 h (calls ++ added)
offered_so c c1 added h calls (is_over over same none) s =
    subst (λ (x : Operator). ControlStands x h (calls ++ added)) (sym same) (calls_apart c h calls added (ap (taken 0) none) s)
offered_so c c1 added h calls (offers going left o few same) s =
    subst (λ (x : Operator). ControlStands x h (calls ++ added)) (sym same) (offered_rest c left added h calls going o s)
offered_so c c1 added h calls (closes going left first o many is same) s =
    subst (λ (x : Operator). ControlStands x h (calls ++ added)) (sym same)
    (subst (λ (xs : List WireCall). ControlStands (record { place = c.place; pending = []; is_closed = true }) h (calls ++ xs)) (sym is) (offered_last c left first h calls going o many s))

-- Apart from others

pub none_closed : (before after : List ℕ) (added : List WireCall) → Offers 0 before after added → closed added ≡ []
none_closed before after added (nothing a b c) = ap closed c
none_closed before after added (offered bytes a b) = ap closed b

pub closed_append : (a b : List WireCall) → closed (a ++ b) ≡ closed a ++ closed b
closed_append [] b = refl
closed_append (Gave h ∷ a) b = closed_append a b
closed_append (Took j bytes most ∷ a) b = closed_append a b
closed_append (Closed j ∷ a) b = ap (λ (ks : List ℕ). j ∷ ks) (closed_append a b)

closed_pending : (over : Bool) (pending mine answers : List ℕ) → over ≡ true → HasAnswers over pending mine answers → pending ≡ []
closed_pending true pending mine answers e is = is.3
closed_pending false pending mine answers e is = cc

pub prompt_so : (c c1 : Operator) (added : List WireCall) (h : Hearing) (calls : List WireCall) → OffersOperator c c1 added → ControlStands c h calls → (c1.pending ≡ []) ⊎ (0 < stalls 0 added)
prompt_so c c1 added h calls (is_over over same none) s = inl (ap (λ (x : Operator). x.pending) same ∙ closed_pending c.is_closed c.pending s.mine h.answers over s.present)
prompt_so c c1 added h calls (offers going left o few same) s = elim (offer_prompt 0 c.pending left added o) [
  | inl none ↦ inl (ap (λ (x : Operator). x.pending) same ∙ none)
  | inr some ↦ inr some
]
prompt_so c c1 added h calls (closes going left first o many is same) s = inl (ap (λ (x : Operator). x.pending) same)

pub apart_so : (c c1 : Operator) (added : List WireCall) → OffersOperator c c1 added → OffersApart c c1 added
apart_so c c1 added (is_over over same none) = record {
  none_given = ap given none;
  untaken = λ j some. ap (taken j) none;
  closes = inl (ap closed none, ap (λ (x : Operator). x.is_closed) same);
}
apart_so c c1 added (offers going left o few same) = record {
  none_given = offer_given 0 c.pending left added o;
  untaken = λ j some. offer_other 0 j c.pending left added (below_other 0 j some) o;
  closes = inl (none_closed c.pending left added o, ap (λ (x : Operator). x.is_closed) same);
}
apart_so c c1 added (closes going left first o many is same) = record {
  none_given = ap given is ∙ given_append first (Closed 0 ∷ []) ∙ append-nil (given first) ∙ offer_given 0 c.pending left first o;
  untaken = λ j some. ap (taken j) is ∙ taken_closing j first ∙ offer_other 0 j c.pending left first (below_other 0 j some) o;
  closes = inr (ap closed is ∙ closed_append first (Closed 0 ∷ []) ∙ ap (λ (ks : List ℕ). ks ++ 0 ∷ []) (none_closed c.pending left first o), going, ap (λ (x : Operator). x.is_closed) same);
}

pub heard_apart : (c : Operator) (h h1 : Hearing) (calls : List WireCall) → (h1.links 0).stream ≡ (h.links 0).stream → h1.spans ≡ h.spans → h1.answers ≡ h.answers → ControlStands c h calls → ControlStands c h1 calls
heard_apart c h h1 calls stream spans answers s = record {
  earlier = s.earlier;
  mine = s.mine;
  took = s.took;
  fronts = subst (λ (xs : List (List ℕ)). AreFronts s.earlier xs) (sym spans) s.fronts;
  present = subst (λ (xs : List ℕ). HasAnswers c.is_closed c.pending s.mine xs) (sym answers) s.present;
  reads = subst (λ (xs : List ℕ). ReadsOn c.place xs) (sym stream) s.reads;
}

pub answers_fronts : AnswersAreFronts
answers_fronts = record {
  begins = λ moment calls none. begins_so moment calls none;
  renewed = λ c h calls s. renewed_so c h calls s;
  fed = λ bytes ended c c1 h calls f s. fed_so bytes ended c c1 h calls f s;
  line_answered = λ text c h calls s. answered_so text c h calls s;
  offered = λ c c1 added h calls o s. offered_so c c1 added h calls o s;
  prompt = λ c c1 added h calls o s. prompt_so c c1 added h calls o s;
  apart = λ c c1 added o. apart_so c c1 added o;
  other_calls = λ c h calls added none s. calls_apart c h calls added none s;
  other_heard = λ c h h1 calls stream spans answers s. heard_apart c h h1 calls stream spans answers s;
  fronts = λ c h calls s. fronts_of c h calls s;
}
