-- The theorem, from where the machine stops.
use Rattle.std.proofs.Common.{◌≡◌, ℕ, zero, suc, ◌+◌, ◌≤◌, ◌<◌, List, [], ◌∷◌, ◌++◌, length, take, get_or, Bool, true, false, refl, ap, sym, ◌∙◌, subst, arith}
use Rattle.std.specs.Prelude.{Option, Some, None, option_and_then}
use Rattle.std.proofs.lemmas.List.{take_more, append_assoc}
use Rattle.lp_tree.specs.declared.token.Token.{Token}
use Rattle.lp_tree.specs.declared.seen.Seen.{Seen}
use Rattle.lp_tree.specs.Seen.{seen}
use Rattle.lp_tree.specs.Trees.{Tree, rank, height}
use Rattle.lp_tree.specs.Expressions.{Spells}
use Rattle.lp_parser_expr.specs.Machine.{State, Need, Alone, step, walk, run, finished}
use Rattle.lp_parser_expr.specs.Depth.{least}
use Rattle.lp_parser_expr.specs.Theorem.{sight, Begins, BeginsWithin, IsRead, IsUnexpected, IsTooNested, Stands, IsStuck, start, floor}
use Rattle.lp_parser_expr.proofs.Settle.{0<reach}
use Rattle.lp_parser_expr.proofs.Complete.{complete, run_reads}
use Rattle.lp_parser_expr.proofs.Sound.{Reads, needs_more, bottom, alone, sound, some_same}
use Rattle.lp_parser_expr.proofs.Shallow.{run-least, finished-height}
use Rattle.lp_parser_expr.proofs.Viable.{some_end, walked, run-append}
use Rattle.lp_parser_expr.proofs.Lists.{map-push}

pub complete_all : (b : Bool) (t : Tree) (ts : List Seen) → Spells t ts [] → floor b ≤ rank t → run (start b) ts ≡ Some t
complete_all false t ts d h = complete run run_reads d [] h (0<reach t)
complete_all true t ts d h = complete run run_reads d (Alone ∷ []) h (0<reach t)

started : (b : Bool) (ts : List Seen) → Reads (floor b) (start b) ts ts
started false ts = needs_more bottom
started true ts = needs_more alone

pub sound_all : (b : Bool) (t : Tree) (ts : List Seen) → run (start b) ts ≡ Some t → Spells t ts [] × (floor b ≤ rank t)
sound_all b t ts e = sound (start b) t ts ts (started b ts) e

pub begun : (b : Bool) (front : List Seen) (st : State) → walk (start b) front ≡ Some st → (others : List Seen) × (t : Tree) × Spells t (front ++ others) [] × (floor b ≤ rank t) × (height t ≤ least st)
begun b front st e =
    let w = some_end (walked (start b) front front st (started b front) e) in
    let d = sound_all b w.1.0 (front ++ w.0) (run-append (start b) front w.0 ∙ ap (option_and_then (λ next. run next w.0)) e ∙ w.1.1) in
    (w.0, w.1.0, d.0, d.1, omega (arith, w.1.2))

pub refused : (b : Bool) (front others : List Seen) (t : Tree) → walk (start b) front ≡ None → Spells t (front ++ others) [] → floor b ≤ rank t → ⊥
refused b front others t e d h =
    let f = complete_all b t (front ++ others) d h in
    let g = run-append (start b) front others ∙ ap (option_and_then (λ next. run next others)) e in
    cc

pub deep : (b : Bool) (front others : List Seen) (t : Tree) (st : State) → walk (start b) front ≡ Some st → Spells t (front ++ others) [] → floor b ≤ rank t → least st ≤ height t
deep b front others t st e d h =
    let f = complete_all b t (front ++ others) d h in
    let g = run-append (start b) front others ∙ ap (option_and_then (λ next. run next others)) e in
    run-least st others t (sym g ∙ f)

pub spells_one : (t u : Tree) (ts : List Seen) → Spells t ts [] → Spells u ts [] → t ≡ u
spells_one t u ts d e = some_same (sym (complete_all false t ts d (omega arith)) ∙ complete_all false u ts e (omega arith))

push-step : (o : Option State) (x : Seen) (xs : List Seen) → ((next : State) → walk next (xs ++ x ∷ []) ≡ option_and_then (λ s. step s x) (walk next xs)) → option_and_then (λ next. walk next (xs ++ x ∷ [])) o ≡ option_and_then (λ s. step s x) (option_and_then (λ next. walk next xs) o)
push-step None x xs ih = refl
push-step (Some next) x xs ih = ih next

just : (o : Option State) → option_and_then (λ next. Some next) o ≡ o
just None = refl
just (Some s) = refl

walk-push : (st : State) (xs : List Seen) (x : Seen) → walk st (xs ++ x ∷ []) ≡ option_and_then (λ s. step s x) (walk st xs)
walk-push st [] x = just (step st x)
walk-push st (y ∷ ys) x = push-step (step st y) x ys (λ next. walk-push next ys x)

pub walk_more : (ts : List Token) (i : ℕ) (d : Token) (st : State) (o : Option State) → i < length ts → walk (Need []) (sight (take i ts)) ≡ Some st → step st (seen (get_or ts i d)) ≡ o → walk (Need []) (sight (take (i + 1) ts)) ≡ o
walk_more ts i d st o h e f =
    ap (λ xs. walk (Need []) (sight xs)) (take_more ts i d h)
    ∙ ap (walk (Need [])) (map-push seen (take i ts) (get_or ts i d))
    ∙ walk-push (Need []) (sight (take i ts)) (seen (get_or ts i d))
    ∙ ap (option_and_then (λ s. step s (seen (get_or ts i d)))) e ∙ f

then_finish : (o : Option State) (xs : List Seen) → ((next : State) → run next xs ≡ option_and_then finished (walk next xs)) → option_and_then (λ next. run next xs) o ≡ option_and_then finished (option_and_then (λ next. walk next xs) o)
then_finish None xs ih = refl
then_finish (Some next) xs ih = ih next

run-walk : (st : State) (ts : List Seen) → run st ts ≡ option_and_then finished (walk st ts)
run-walk st [] = refl
run-walk st (x ∷ xs) = then_finish (step st x) xs (λ next. run-walk next xs)

run_end : (ts : List Seen) (st : State) (o : Option Tree) → walk (Need []) ts ≡ Some st → finished st ≡ o → run (Need []) ts ≡ o
run_end ts st o e f = run-walk (Need []) ts ∙ ap (option_and_then finished) e ∙ f

-- a longer front has the shorter one before it
front_of : (m n : ℕ) (ts : List Token) → m ≤ n → (w : List Seen) × (sight (take n ts) ≡ sight (take m ts) ++ w)
front_of zero n ts h = (sight (take n ts), refl)
front_of (suc m) zero ts h = absurd (omega arith)
front_of (suc m) (suc n) [] h = ([], refl)
front_of (suc m) (suc n) (x ∷ ts) h = let r = front_of m n ts (omega arith) in (r.0, ap (λ xs. seen x ∷ xs) r.1)

pub shorter : (m n : ℕ) (ts : List Token) → m ≤ n → Begins (take n ts) → Begins (take m ts)
shorter m n ts h b =
    let r = front_of m n ts h in
    (r.0 ++ b.0, b.1, subst (λ xs. Spells b.1 xs []) (ap (λ xs. xs ++ b.0) r.1 ∙ append_assoc (sight (take m ts)) r.0 b.0) b.2)

pub whole_begins : (m n : ℕ) (ts : List Token) (t : Tree) → m ≤ n → Spells t (sight (take n ts)) [] → (w : List Seen) × Spells t (sight (take m ts) ++ w) []
whole_begins m n ts t h d = let r = front_of m n ts h in (r.0, subst (λ xs. Spells t xs []) r.1 d)

pub stands_begins : (limit : ℕ) (ts : List Token) (n : ℕ) (st : State) → Stands limit ts n st → Begins (take n ts)
stands_begins limit ts n st s = let w = begun false (sight (take n ts)) st s.walked in (w.0, w.1, w.2)

stands_within : (limit : ℕ) (ts : List Token) (n : ℕ) (st : State) → Stands limit ts n st → 0 < n → BeginsWithin limit (take n ts)
stands_within limit ts n st s h = let w = begun false (sight (take n ts)) st s.walked in (w.0, w.1, w.2, omega (arith, w.4, s.shallow h))

pub stuck_not : (ts : List Token) (n : ℕ) → IsStuck ts n → n < length ts → Begins (take (n + 1) ts) → ⊥
stuck_not ts n k h b = refused false (sight (take (n + 1) ts)) b.0 b.1 (k h) b.2 (omega arith)

no_tree : (st : State) (t : Tree) → Some (Need []) ≡ Some st → finished st ≡ Some t → ⊥
no_tree st t e f = let same : Need [] ≡ st = cc in let g : None ≡ Some t = ap finished same ∙ f in cc

positive : (ts : List Token) (n : ℕ) (st : State) (t : Tree) → walk (Need []) (sight (take n ts)) ≡ Some st → finished st ≡ Some t → 0 < n
positive ts zero st t e f = absurd (no_tree st t e f)
positive ts (suc n) st t e f = omega arith

pub found : (limit : ℕ) (ts : List Token) (t : Tree) (n : ℕ) (st : State) → Stands limit ts n st → IsStuck ts n → finished st ≡ Some t → IsRead limit ts n t
found limit ts t n st s k f = record {
  within = s.within;
  spelled = (sound_all false t (sight (take n ts)) (run_end (sight (take n ts)) st (Some t) s.walked f)).0;
  shallow = omega (arith, finished-height st t f, s.shallow (positive ts n st t s.walked f));
  longest = stuck_not ts n k;
}

pub not_finished : (ts : List Token) (n : ℕ) (st : State) (t : Tree) → walk (Need []) (sight (take n ts)) ≡ Some st → finished st ≡ None → Spells t (sight (take n ts)) [] → ⊥
not_finished ts n st t e f d = let g = run_end (sight (take n ts)) st None e f in let k = complete_all false t (sight (take n ts)) d (omega arith) in cc

pub unexpected_at : (limit : ℕ) (ts : List Token) (at : ℕ) (st : State) → Stands limit ts at st → IsStuck ts at → finished st ≡ None → IsUnexpected limit ts at
unexpected_at limit ts at st s k f = record {
  within = s.within;
  before = stands_within limit ts at st s;
  not_so = stuck_not ts at k;
  not_whole = λ t d. not_finished ts at st t s.walked f d;
}

pub nested_at : (limit : ℕ) (ts : List Token) (at : ℕ) (st next : State) → Stands limit ts at st → at < length ts → walk (Need []) (sight (take (at + 1) ts)) ≡ Some next → limit < least next → IsTooNested limit ts at
nested_at limit ts at st next s h e k = record {
  within = h;
  before = stands_within limit ts at st s;
  so = let w = begun false (sight (take (at + 1) ts)) next e in (w.0, w.1, w.2);
  not_within = λ b. absurd (omega (arith, b.3, k, deep false (sight (take (at + 1) ts)) b.0 b.1 next e b.2 (omega arith)));
}

-- two readings of the same tokens are one
pub not_longer : (limit : ℕ) (ts : List Token) (n m : ℕ) (t : Tree) → IsRead limit ts n t → m ≤ length ts → Begins (take m ts) → n < m → ⊥
not_longer limit ts n m t r w b h = r.longest (omega (arith, w)) (shorter (n + 1) m ts (omega arith) b)

pub read_begins : (limit : ℕ) (ts : List Token) (n : ℕ) (t : Tree) → IsRead limit ts n t → Begins (take n ts)
read_begins limit ts n t r = let w = whole_begins n n ts t (omega arith) r.spelled in (w.0, t, w.1)

pub same_place : (limit : ℕ) (ts : List Token) (n m : ℕ) (t u : Tree) → IsRead limit ts n t → IsRead limit ts m u → (n < m → ⊥) × (m < n → ⊥)
same_place limit ts n m t u r q = (not_longer limit ts n m t r q.within (read_begins limit ts m u q), not_longer limit ts m n u q r.within (read_begins limit ts n t r))
