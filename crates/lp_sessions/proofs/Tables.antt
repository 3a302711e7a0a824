-- Tables of connections stay tables.
use Rattle.std.proofs.Common.{◌≡◌, ℕ, zero, suc, ◌<◌, List, [], ◌∷◌, ◌++◌, length, get_or, slice_set, Result, Ok, Err, IfOk, refl, ap, ◌∙◌, arith}
use Rattle.std.specs.List.{remove}
use Rattle.lp_sessions.specs.declared.session.Session.{Session}
use Rattle.lp_sessions.specs.Tied.{new_session}
use Rattle.lp_telnet.specs.Lines.{Place, lines_from}
use Rattle.lp_sessions.specs.All.{AreAbove, Fed, numbers}
use Rattle.lp_sessions.specs.Table.{AreAtMost, IsTable}
use Rattle.lp_sessions.proofs.Serving.{above_remove}
use Rattle.lp_sessions.proofs.Outputs.{numbers_at}

at_most_same : (h : ℕ) (ss ss1 : List Session) → numbers ss1 ≡ numbers ss → AreAtMost h ss → AreAtMost h ss1
at_most_same h [] [] same most = tt
at_most_same h [] (s ∷ ss1) same most = cc
at_most_same h (s ∷ ss) [] same most = tt
at_most_same h (s ∷ ss) (x ∷ ss1) same most =
    let head : x.number ≡ s.number = cc in
    let tail : numbers ss1 ≡ numbers ss = cc in
    (rw head most.0, at_most_same h ss ss1 tail most.1)

pub table_same : (h : ℕ) (ss ss1 : List Session) → numbers ss1 ≡ numbers ss → IsTable (record { sessions = ss; highest = h }) → IsTable (record { sessions = ss1; highest = h })
table_same h ss ss1 same t = record { above = rw same t.above; most = at_most_same h ss ss1 same t.most }

pub table_set : (h i : ℕ) (ss : List Session) (s s1 d : Session) → i < length ss → s ≡ get_or ss i d → s1.number ≡ s.number → IsTable (record { sessions = ss; highest = h }) → IsTable (record { sessions = slice_set ss i s1; highest = h })
table_set h i ss s s1 d within at number t = table_same h ss (slice_set ss i s1) (numbers_at i ss s s1 d within at number) t

above_new : (low h k : ℕ) (ss : List Session) → low < k → h < k → AreAbove low (numbers ss) → AreAtMost h ss → AreAbove low (numbers (ss ++ new_session k ∷ []))
above_new low h k [] below higher above most = (below, tt)
above_new low h k (s ∷ ss) below higher above most = (above.0, above_new s.number h k ss (omega (arith, higher, most.0)) higher above.1 most.1)

most_new : (h k : ℕ) (ss : List Session) → h < k → AreAtMost h ss → AreAtMost k (ss ++ new_session k ∷ [])
most_new h k [] higher most = (omega arith, tt)
most_new h k (s ∷ ss) higher most = (omega (arith, higher, most.0), most_new h k ss higher most.1)

pub table_new : (h k : ℕ) (ss : List Session) → h < k → IsTable (record { sessions = ss; highest = h }) → IsTable (record { sessions = ss ++ new_session k ∷ []; highest = k })
table_new h k ss higher t = record { above = above_new 0 h k ss (omega (arith, higher)) higher t.above t.most; most = most_new h k ss higher t.most }

most_remove : (h i : ℕ) (ss : List Session) → AreAtMost h ss → AreAtMost h (remove ss i)
most_remove h zero [] most = tt
most_remove h (suc i) [] most = tt
most_remove h zero (s ∷ ss) most = most.1
most_remove h (suc i) (s ∷ ss) most = (most.0, most_remove h i ss most.1)

pub table_remove : (h i : ℕ) (ss : List Session) → IsTable (record { sessions = ss; highest = h }) → IsTable (record { sessions = remove ss i; highest = h })
table_remove h i ss t = record { above = above_remove i 0 ss t.above; most = most_remove h i ss t.most }

-- the same behind a push and a removal, as a vector tells them
pub table_pushed : (h k : ℕ) (ss ss1 : List Session) (s : Session) → h < k → s ≡ new_session k → ss1 ≡ ss ++ s ∷ [] → IsTable (record { sessions = ss; highest = h }) → IsTable (record { sessions = ss1; highest = k })
table_pushed h k ss ss1 s higher is pushed t = rw (pushed, is) (table_new h k ss higher t)

pub table_removed : (h i : ℕ) (ss ss1 : List Session) → ss1 ≡ remove ss i → IsTable (record { sessions = ss; highest = h }) → IsTable (record { sessions = ss1; highest = h })
table_removed h i ss ss1 removed t = rw removed (table_remove h i ss t)

-- A piece of a stream

pub any_default : (ss : List Session) (i : ℕ) (d e : Session) → i < length ss → get_or ss i d ≡ get_or ss i e
any_default [] i d e within = absurd (omega (arith, within))
any_default (s ∷ ss) zero d e within = refl
any_default (s ∷ ss) (suc i) d e within = any_default ss i d e (omega (arith, within))

pub fed_at : (i : ℕ) (bytes : List ℕ) (ended : List (List ℕ)) (ss : List Session) (s d : Session) (t : Place) → i < length ss → s ≡ get_or ss i d → ended ≡ lines_from s.telnet bytes
    → ((rest : List ℕ) → ended ++ lines_from t rest ≡ lines_from s.telnet (bytes ++ rest)) → Fed i bytes ended ss (slice_set ss i (record s { telnet = t }))
fed_at i bytes ended ss s d t within at lines rest =
    let is = λ (e : Session). at ∙ any_default ss i d e within in
    record {
      place = t;
      after = λ e. ap (λ (x : Session). slice_set ss i (record x { telnet = t })) (is e);
      lines = λ e. lines ∙ ap (λ (x : Session). lines_from x.telnet bytes) (is e);
      rest = λ e more. rest more ∙ ap (λ (x : Session). lines_from x.telnet (bytes ++ more)) (is e);
    }

pub if_both : {A E : Type 0} (r : Result A E) (P Q R : A → Type 0) → ((a : A) → P a → Q a → R a) → IfOk r P → IfOk r Q → IfOk r R
if_both (Ok a) P Q R f p q = f a p q
if_both (Err e) P Q R f p q = p
