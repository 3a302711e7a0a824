-- Watches of a new object, put and taken back.
use Rattle.std.proofs.Common.{◌≡◌, ◌∙◌, ◌++◌, ◌+◌, ◌||◌, ℕ, Bool, true, false, not, List, [], ◌∷◌, refl, ap, sym, filter, if◌then◌else◌}
use Rattle.std.specs.List.{list_any}
use Rattle.std.proofs.lemmas.Bool.{eq-eqb}
use Rattle.lp_values.specs.declared.id.ObjId.{ObjId}
use Rattle.lp_timers.specs.Timers.{CleanUp, Reset, WatchKind, Watching, is_watch_of, is_watched, unwatched, watch_next, watch_put, watch_time}
use Rattle.lp_timers.specs.Timing.{Timing}
use Rattle.lp_meaning.specs.WorldSteps.{watch_if}
use Rattle.lp_making.specs.Objects.{IsUnwatched, with_watch, with_watches, without_watches}

none_out : (p : Watching → Bool) (ws : List Watching) → list_any p ws ≡ false → filter (λ x. not (p x)) ws ≡ ws
none_out p [] e = refl
none_out p (x ∷ ws) e = by (none_out p ws) (p x) e
  where
    by : (list_any p ws ≡ false → filter (λ y. not (p y)) ws ≡ ws) → (b : Bool) → (b || list_any p ws) ≡ false → (if not b then x ∷ filter (λ y. not (p y)) ws else filter (λ y. not (p y)) ws) ≡ x ∷ ws
    by i true q = cc
    by i false q = ap (λ l. x ∷ l) (i q)

filter_append : (p : Watching → Bool) (xs ys : List Watching) → filter p (xs ++ ys) ≡ filter p xs ++ filter p ys
filter_append p [] ys = refl
filter_append p (x ∷ xs) ys = by (filter_append p xs ys) (p x)
  where
    by : filter p (xs ++ ys) ≡ filter p xs ++ filter p ys → (b : Bool) → (if b then x ∷ filter p (xs ++ ys) else filter p (xs ++ ys)) ≡ (if b then x ∷ filter p xs else filter p xs) ++ filter p ys
    by i true = ap (λ l. x ∷ l) i
    by i false = i

any_append : (p : Watching → Bool) (xs ys : List Watching) → list_any p xs ≡ false → list_any p (xs ++ ys) ≡ list_any p ys
any_append p [] ys e = refl
any_append p (x ∷ xs) ys e = by (any_append p xs ys) (p x) e
  where
    by : (list_any p xs ≡ false → list_any p (xs ++ ys) ≡ list_any p ys) → (b : Bool) → (b || list_any p xs) ≡ false → (b || list_any p (xs ++ ys)) ≡ list_any p ys
    by i true q = cc
    by i false q = i q

append_nil : (ws : List Watching) → ws ++ [] ≡ ws
append_nil [] = refl
append_nil (x ∷ ws) = ap (λ l. x ∷ l) (append_nil ws)

-- what is taken of some watches is taken of those that came, where the others have none
taken_back : (o : ObjId) (ws more : List Watching) → is_watched ws Reset o ≡ false → is_watched ws CleanUp o ≡ false → unwatched (unwatched more Reset o) CleanUp o ≡ []
    → unwatched (unwatched (ws ++ more) Reset o) CleanUp o ≡ ws
taken_back o ws more r c e =
    ap (λ l. unwatched l CleanUp o) (filter_append (λ x. not (is_watch_of Reset o x)) ws more ∙ ap (λ l. l ++ unwatched more Reset o) (none_out (is_watch_of Reset o) ws r))
    ∙ filter_append (λ x. not (is_watch_of CleanUp o x)) ws (unwatched more Reset o) ∙ ap (λ l. l ++ unwatched (unwatched more Reset o) CleanUp o) (none_out (is_watch_of CleanUp o) ws c)
    ∙ ap (λ l. ws ++ l) e ∙ append_nil ws

one_gone : (a : Bool) (o : ObjId) (now : ℕ) → unwatched (unwatched (watch_if a Reset o now) Reset o) CleanUp o ≡ []
one_gone false o now = refl
one_gone true o now = ap (λ b. unwatched (if not b then record { object = o; kind = Reset; next = now + watch_time Reset } ∷ [] else []) CleanUp o) (eq-eqb o.0 o.0 refl)

both_gone : (a b : Bool) (o : ObjId) (now : ℕ) → unwatched (unwatched (watch_if a Reset o now ++ watch_if b CleanUp o now) Reset o) CleanUp o ≡ []
both_gone false false o now = refl
both_gone false true o now = ap (λ b. if not b then record { object = o; kind = CleanUp; next = now + watch_time CleanUp } ∷ [] else []) (eq-eqb o.0 o.0 refl)
both_gone true false o now = one_gone true o now
both_gone true true o now =
    ap (λ b. unwatched (if not b then record { object = o; kind = Reset; next = now + watch_time Reset } ∷ record { object = o; kind = CleanUp; next = now + watch_time CleanUp } ∷ [] else record { object = o; kind = CleanUp; next = now + watch_time CleanUp } ∷ []) CleanUp o) (eq-eqb o.0 o.0 refl)
    ∙ ap (λ b. if not b then record { object = o; kind = CleanUp; next = now + watch_time CleanUp } ∷ [] else []) (eq-eqb o.0 o.0 refl)

assoc : (xs ys zs : List Watching) → (xs ++ ys) ++ zs ≡ xs ++ (ys ++ zs)
assoc [] ys zs = refl
assoc (x ∷ xs) ys zs = ap (λ l. x ∷ l) (assoc xs ys zs)

pub first_back : (t : Timing) (a : Bool) (o : ObjId) (now : ℕ) → IsUnwatched t o → without_watches (with_watch t a Reset o now) o ≡ t
first_back t a o now u = ap (λ l. record t { watches = l }) (taken_back o t.watches (watch_if a Reset o now) u.reset u.clean_up (one_gone a o now))

pub both_back : (t : Timing) (a b : Bool) (o : ObjId) (now : ℕ) → IsUnwatched t o → without_watches (with_watches t a b o now) o ≡ t
both_back t a b o now u =
    ap (λ l. record t { watches = unwatched (unwatched l Reset o) CleanUp o }) (assoc t.watches (watch_if a Reset o now) (watch_if b CleanUp o now))
    ∙ ap (λ l. record t { watches = l }) (taken_back o t.watches (watch_if a Reset o now ++ watch_if b CleanUp o now) u.reset u.clean_up (both_gone a b o now))

-- a watch for `reset` is none for `clean_up`
pub still_fresh : (t : Timing) (a : Bool) (o : ObjId) (now : ℕ) → IsUnwatched t o → is_watched (with_watch t a Reset o now).watches CleanUp o ≡ false
still_fresh t a o now u = any_append (is_watch_of CleanUp o) t.watches (watch_if a Reset o now) u.clean_up ∙ by a
  where
    by : (b : Bool) → list_any (is_watch_of CleanUp o) (watch_if b Reset o now) ≡ false
    by true = refl
    by false = refl

pub watch_put_fresh : (t : Timing) (k : WatchKind) (o : ObjId) (now : ℕ) → is_watched t.watches k o ≡ false
    → record { next = t.next; call_outs = t.call_outs; beats = t.beats; watches = watch_put t.watches k o (now + watch_time k) } ≡ with_watch t true k o now
watch_put_fresh t k o now e = ap (λ b. record t { watches = if b then watch_next t.watches k o (now + watch_time k) else t.watches ++ record { object = o; kind = k; next = now + watch_time k } ∷ [] }) e

pub no_watch : (t : Timing) (k : WatchKind) (o : ObjId) (now : ℕ) → t ≡ with_watch t false k o now
no_watch t k o now = ap (λ l. record t { watches = l }) (sym (append_nil t.watches))
