-- The theorem, from where the machine stops.
use Rattle.std.proofs.Common.{◌≡◌, ℕ, zero, suc, ◌+◌, ◌≤◌, ◌<◌, List, [], ◌∷◌, ◌++◌, length, take, get_or, refl, ap, sym, ◌∙◌, subst, arith, map}
use Rattle.std.specs.Prelude.{Option, Some, None, option_and_then}
use Rattle.std.proofs.lemmas.List.{take_more}
use Rattle.lp_tree.specs.declared.token.Token.{Token}
use Rattle.lp_tree.specs.declared.seen.Seen.{Seen}
use Rattle.lp_tree.specs.Seen.{seen}
use Rattle.lp_tree.specs.Units.{ItemTree, Inherits, SpellsUnit, unit_height, Begins, BeginsWithin, IsUnexpected, IsTooNested}
use Rattle.lp_parser.specs.Machine.{Before, State, Top, step, start, finished, run, walk}
use Rattle.lp_parser.specs.Depth.{least}
use Rattle.lp_parser.specs.Stops.{Stands}
use Rattle.lp_parser.specs.Theorem.{sight}
use Rattle.lp_parser.proofs.Complete.{items_run}
use Rattle.lp_parser.proofs.Sound.{run_rest, rest_spelled}
use Rattle.lp_parser.proofs.Levels.{run-least}
use Rattle.lp_parser.proofs.Viable.{some_end, walk_reached, unwalk}

pub unit_run : (is : List ItemTree) (ts : List Seen) → SpellsUnit is ts → run start ts ≡ Some is
unit_run is ts d = items_run d (record { done = []; phase = Inherits }) refl

pub unit_spelled : (is : List ItemTree) (ts : List Seen) → run start ts ≡ Some is → SpellsUnit is ts
unit_spelled is ts e = rest_spelled (run_rest start ts is e)

some_items : {a c : List ItemTree} → Some a ≡ Some c → a ≡ c
some_items e = cc

pub spells_one : (is js : List ItemTree) (ts : List Seen) → SpellsUnit is ts → SpellsUnit js ts → is ≡ js
spells_one is js ts d e = some_items (sym (unit_run is ts d) ∙ unit_run js ts e)

after_step : (o : Option State) (xs w : List Seen) → ((next : State) → run next (xs ++ w) ≡ option_and_then (λ last. run last w) (walk next xs)) → option_and_then (λ next. run next (xs ++ w)) o ≡ option_and_then (λ next. run next w) (option_and_then (λ next. walk next xs) o)
after_step None xs w ih = refl
after_step (Some next) xs w ih = ih next

run-append : (st : State) (a w : List Seen) → run st (a ++ w) ≡ option_and_then (λ next. run next w) (walk st a)
run-append st [] w = refl
run-append st (x ∷ xs) w = after_step (step st x) xs w (λ next. run-append next xs w)

then_finish : (o : Option State) (xs : List Seen) → ((next : State) → run next xs ≡ option_and_then finished (walk next xs)) → option_and_then (λ next. run next xs) o ≡ option_and_then finished (option_and_then (λ next. walk next xs) o)
then_finish None xs ih = refl
then_finish (Some next) xs ih = ih next

run-walk : (st : State) (ts : List Seen) → run st ts ≡ option_and_then finished (walk st ts)
run-walk st [] = refl
run-walk st (x ∷ xs) = then_finish (step st x) xs (λ next. run-walk next xs)

run_end : (ts : List Seen) (st : State) (o : Option (List ItemTree)) → walk start ts ≡ Some st → finished st ≡ o → run start ts ≡ o
run_end ts st o e f = run-walk start ts ∙ ap (option_and_then finished) e ∙ f

-- a front that was walked begins a unit as shallow as the state says
pub begun : (front : List Seen) (st : State) → walk start front ≡ Some st → (others : List Seen) × (is : List ItemTree) × SpellsUnit is (front ++ others) × (unit_height is ≤ least st)
begun front st w =
    let q = some_end st (walk_reached start st front tt w) in
    (q.tokens, q.items, rest_spelled (unwalk start st front q.tokens q.items w q.rest), q.shallow)

pub refused : (front : List Seen) → walk start front ≡ None → Begins front → ⊥
refused front w b =
    let f = unit_run b.1 (front ++ b.0) b.2 in
    let g = run-append start front b.0 ∙ ap (option_and_then (λ next. run next b.0)) w in
    cc

pub deep : (front others : List Seen) (is : List ItemTree) (st : State) → walk start front ≡ Some st → SpellsUnit is (front ++ others) → least st ≤ unit_height is
deep front others is st w d =
    let f = unit_run is (front ++ others) d in
    let g = run-append start front others ∙ ap (option_and_then (λ next. run next others)) w in
    run-least st others is (sym g ∙ f)

push-step : (o : Option State) (x : Seen) (xs : List Seen) → ((next : State) → walk next (xs ++ x ∷ []) ≡ option_and_then (λ s. step s x) (walk next xs)) → option_and_then (λ next. walk next (xs ++ x ∷ [])) o ≡ option_and_then (λ s. step s x) (option_and_then (λ next. walk next xs) o)
push-step None x xs ih = refl
push-step (Some next) x xs ih = ih next

just : (o : Option State) → option_and_then (λ next. Some next) o ≡ o
just None = refl
just (Some s) = refl

walk-push : (st : State) (xs : List Seen) (x : Seen) → walk st (xs ++ x ∷ []) ≡ option_and_then (λ s. step s x) (walk st xs)
walk-push st [] x = just (step st x)
walk-push st (y ∷ ys) x = push-step (step st y) x ys (λ next. walk-push next ys x)

map-push : {A B : Type 0} (f : A → B) (xs : List A) (x : A) → map f (xs ++ x ∷ []) ≡ map f xs ++ f x ∷ []
map-push f [] x = refl
map-push f (y ∷ ys) x = ap (λ ts. f y ∷ ts) (map-push f ys x)

pub walk_more : (ts : List Token) (i : ℕ) (d : Token) (st : State) (o : Option State) → i < length ts → walk start (sight (take i ts)) ≡ Some st → step st (seen (get_or ts i d)) ≡ o → walk start (sight (take (i + 1) ts)) ≡ o
walk_more ts i d st o h e f =
    ap (λ xs. walk start (sight xs)) (take_more ts i d h)
    ∙ ap (walk start) (map-push seen (take i ts) (get_or ts i d))
    ∙ walk-push start (sight (take i ts)) (seen (get_or ts i d))
    ∙ ap (option_and_then (λ s. step s (seen (get_or ts i d)))) e ∙ f

-- what parsers see of a front is a front of what they see
sight-take : (n : ℕ) (ts : List Token) → take n (sight ts) ≡ sight (take n ts)
sight-take zero ts = refl
sight-take (suc n) [] = refl
sight-take (suc n) (t ∷ ts) = ap (λ xs. seen t ∷ xs) (sight-take n ts)

sight-length : (ts : List Token) → length (sight ts) ≡ length ts
sight-length [] = refl
sight-length (t ∷ ts) = ap suc (sight-length ts)

take-whole : (ts : List Token) (n : ℕ) → n ≡ length ts → take n ts ≡ ts
take-whole ts n e = ap (λ m. take m ts) e ∙ all ts
  where
    all : {A : Type 0} (l : List A) → take (length l) l ≡ l
    all [] = refl
    all (x ∷ l) = ap (λ m. x ∷ m) (all l)

stands_within : (limit : ℕ) (ts : List Token) (n : ℕ) (st : State) → Stands limit ts n st → BeginsWithin limit (take n (sight ts))
stands_within limit ts n st s =
    let w = begun (sight (take n ts)) st s.walked in
    subst (λ xs. BeginsWithin limit xs) (sym (sight-take n ts)) (w.0, w.1, w.2, omega (arith, w.3, s.shallow))

pub unexpected_at : (limit : ℕ) (ts : List Token) (at : ℕ) (st : State) → Stands limit ts at st → at < length ts → walk start (sight (take (at + 1) ts)) ≡ None → IsUnexpected limit (sight ts) at
unexpected_at limit ts at st s h w = record {
  within = omega (arith, h, sight-length ts);
  before = stands_within limit ts at st s;
  not_so = λ _ b. refused (sight (take (at + 1) ts)) w (subst (λ xs. Begins xs) (sight-take (at + 1) ts) b);
  not_whole = λ e is d. absurd (omega (arith, e, h, sight-length ts));
}

pub no_unit_at_end : (limit : ℕ) (ts : List Token) (at : ℕ) (st : State) → Stands limit ts at st → at ≡ length ts → finished st ≡ None → (is : List ItemTree) → SpellsUnit is (sight ts) → ⊥
no_unit_at_end limit ts at st s e f is d = let g = unit_run is (sight ts) d in let k = run_end (sight ts) st None (ap (λ xs. walk start (sight xs)) (sym (take-whole ts at e)) ∙ s.walked) f in cc

-- a whole unit goes on from each front
pub front_of : (n : ℕ) (ts : List Token) (is : List ItemTree) → SpellsUnit is (sight ts) → (w : List Seen) × SpellsUnit is (sight (take n ts) ++ w)
front_of n ts is d = let r = split n ts in (r.0, subst (λ xs. SpellsUnit is xs) r.1 d)
  where
    split : (n : ℕ) (ts : List Token) → (w : List Seen) × (sight ts ≡ sight (take n ts) ++ w)
    split zero ts = (sight ts, refl)
    split (suc n) [] = ([], refl)
    split (suc n) (t ∷ ts) = let r = split n ts in (r.0, ap (λ xs. seen t ∷ xs) r.1)

pub unexpected_end : (limit : ℕ) (ts : List Token) (at : ℕ) (st : State) → Stands limit ts at st → at ≡ length ts → finished st ≡ None → IsUnexpected limit (sight ts) at
unexpected_end limit ts at st s e f = record {
  within = omega (arith, e, sight-length ts);
  before = stands_within limit ts at st s;
  not_so = λ h b. absurd (omega (arith, e, h, sight-length ts));
  not_whole = λ _ is d. no_unit_at_end limit ts at st s e f is d;
}

pub nested_at : (limit : ℕ) (ts : List Token) (at : ℕ) (st next : State) → Stands limit ts at st → at < length ts → walk start (sight (take (at + 1) ts)) ≡ Some next → limit < least next → IsTooNested limit (sight ts) at
nested_at limit ts at st next s h w k = record {
  within = omega (arith, h, sight-length ts);
  before = stands_within limit ts at st s;
  so = let q = begun (sight (take (at + 1) ts)) next w in subst (λ xs. Begins xs) (sym (sight-take (at + 1) ts)) (q.0, q.1, q.2);
  not_within = λ b. too_deep (subst (λ xs. BeginsWithin limit xs) (sight-take (at + 1) ts) b);
}
  where
    too_deep : BeginsWithin limit (sight (take (at + 1) ts)) → ⊥
    too_deep b = absurd (omega (arith, b.3, k, deep (sight (take (at + 1) ts)) b.0 b.1 next w b.2))

some_done : (b : Before) (is : List ItemTree) → Some b.done ≡ Some is → unit_height is ≤ unit_height b.done
some_done b is e = omega (arith, ap unit_height (some_items e))

finished_height : (st : State) (is : List ItemTree) → finished st ≡ Some is → unit_height is ≤ least st
finished_height (Top b) is e = some_done b is e
finished_height _ is e = cc

pub found : (limit : ℕ) (ts : List Token) (n : ℕ) (st : State) (is : List ItemTree) → Stands limit ts n st → n ≡ length ts → finished st ≡ Some is → SpellsUnit is (sight ts) × (unit_height is ≤ limit)
found limit ts n st is s e f =
    let w : walk start (sight ts) ≡ Some st = ap (λ xs. walk start (sight xs)) (sym (take-whole ts n e)) ∙ s.walked in
    let r = run_end (sight ts) st (Some is) w f in
    (unit_spelled is (sight ts) r, omega (arith, s.shallow, finished_height st is f))
