-- What was read of a script, in the words of the definition.
use Rattle.std.proofs.Common.{◌≡◌, ap, sym, refl, ◌∙◌, subst, ℕ, ◌+◌, ◌<◌, ◌≤◌, true, false, leb, List, [], ◌∷◌, ◌++◌, Err, length, take, drop, arith, ◌⊎◌, inl, inr}
use Rattle.std.proofs.lemmas.Bool.{leb-true, le-leb, cases_lt}
use Rattle.std.proofs.lemmas.List.{take_all, take_at, length-append, length-take, length-drop, append-nil, take-take}
use Rattle.std.proofs.lemmas.List.Concat.{flat_map-append}
use Rattle.std.proofs.Math.Seq.{take-add}
use Rattle.lp_events.specs.declared.item.Item.{Item}
use Rattle.lp_events.specs.declared.item.Item.TheVariants as items
use Rattle.lp_events.specs.Script.{Context, Over, beginning, after_item, after_items, AllFit, Fits, spelling, spellings, BeginsWith, IsBegun, IsFront, IsScript, IsTooLarge, IsBadScript, longest_input}
use Rattle.lp_script.specs.declared.behind.Refusal.TheVariants.{Bad, Large}
use Rattle.lp_script.specs.Behind.{Behind}
use Rattle.lp_script.specs.Given.{Stands}
use Rattle.lp_script.proofs.Sorts.{over_none}

-- items before another one
pub spellings-append : (xs : List Item) (x : Item) → spellings (xs ++ x ∷ []) ≡ spellings xs ++ spelling x
spellings-append xs x = flat_map-append spelling xs (x ∷ []) ∙ ap (λ (r : List ℕ). spellings xs ++ r) (append-nil (spelling x))

pub after_items-append : (c : Context) (xs : List Item) (x : Item) → after_items c (xs ++ x ∷ []) ≡ after_item (after_items c xs) x
after_items-append c [] x = refl
after_items-append c (y ∷ xs) x = after_items-append (after_item c y) xs x

pub AllFit-append : (c : Context) (xs : List Item) (x : Item) → AllFit c xs → Fits (after_items c xs) x → AllFit c (xs ++ x ∷ [])
AllFit-append c [] x f g = (g, tt)
AllFit-append c (y ∷ xs) x f g = (f.0, AllFit-append (after_item c y) xs x f.1 g)

-- the first bytes of the first ones
front_take : (m : ℕ) (bytes : List ℕ) → take m (take (m + 1) bytes) ≡ take m bytes
front_take m bytes = take-take m (m + 1) bytes (omega arith)

window : (m : ℕ) (bytes taken : List ℕ) (xs : List Item) (cut : ℕ) (c : Context) → Stands m bytes taken xs cut c → take m taken ≡ take m bytes
window m bytes taken xs cut c s = ap (take m) s.input ∙ front_take m bytes

front_is : (m : ℕ) (bytes taken : List ℕ) (xs : List Item) (cut : ℕ) (c : Context) → Stands m bytes taken xs cut c → take cut (take m taken) ≡ spellings xs
front_is m bytes taken xs cut c s = take-take cut m taken (omega (arith, s.within, length-take m taken)) ∙ s.spelled

-- one more item stands behind
pub stands_more : (m : ℕ) (bytes taken : List ℕ) (xs : List Item) (cut : ℕ) (c : Context) (x : Item) (n : ℕ) → Stands m bytes taken xs cut c → Fits c x → n ≤ length (take m taken) → drop cut (take m taken) ≡ spelling x ++ drop n (take m taken)
    → Stands m bytes taken (xs ++ x ∷ []) n (after_item c x)
stands_more m bytes taken xs cut c x n s f within e =
    let w = take m taken in
    let long : n ≡ cut + length (spelling x) = omega (arith, ap length e, length-append (spelling x) (drop n w), length-drop cut w, length-drop n w, s.within) in
    record {
      input = s.input;
      within = within;
      spelled = sym (take-take n m taken (omega (arith, within, length-take m taken))) ∙ ap (λ (i : ℕ). take i w) long ∙ take-add cut (length (spelling x)) w ∙ ap (λ (r : List ℕ). take cut w ++ take (length (spelling x)) r) e ∙ ap (λ (r : List ℕ). take cut w ++ r) (take_at (spelling x) (drop n w) (length (spelling x)) refl)
          ∙ ap (λ (r : List ℕ). r ++ spelling x) (front_is m bytes taken xs cut c s) ∙ sym (spellings-append xs x);
      fit = AllFit-append beginning xs x s.fit (subst (λ (d : Context). Fits d x) s.before f);
      before = ap (λ (d : Context). after_item d x) s.before ∙ sym (after_items-append beginning xs x);
    }

-- where items end, and no other one follows
front_of : (m : ℕ) (bytes taken : List ℕ) (xs : List Item) (cut : ℕ) (c : Context) → Stands m bytes taken xs cut c → ((x : Item) → BeginsWith c (drop cut (take m taken)) x → ⊥) → IsFront (take m bytes) xs cut
front_of m bytes taken xs cut c s none =
    let w = window m bytes taken xs cut c s in
    record {
      within = subst (λ (r : List ℕ). cut ≤ length r) w s.within;
      spelled = ap (take cut) (sym w) ∙ front_is m bytes taken xs cut c s;
      fit = s.fit;
      longest = λ x b. none x (subst (λ (d : Context). BeginsWith d (drop cut (take m taken)) x) (sym s.before) (subst (λ (r : List ℕ). BeginsWith (after_items beginning xs) (drop cut r) x) (sym w) b));
    }

-- there is one such place
same_cut : (bytes : List ℕ) (xs : List Item) (i j : ℕ) → IsFront bytes xs i → IsFront bytes xs j → i ≡ j
same_cut bytes xs i j f g = omega (arith, ap length (f.spelled ∙ sym g.spelled), length-take i bytes, length-take j bytes, f.within, g.within)

-- all bytes were taken, or one more than a script may have
taken_all : (m : ℕ) (bytes taken : List ℕ) → taken ≡ take (m + 1) bytes → length taken ≤ m → (length bytes ≤ m) × (taken ≡ bytes)
taken_all m bytes taken e le =
    let few : length bytes ≤ m = omega (arith, ap length e, length-take (m + 1) bytes) in
    (few, e ∙ take_all (m + 1) bytes (omega arith))

taken_more : (m : ℕ) (bytes taken : List ℕ) → taken ≡ take (m + 1) bytes → m < length taken → m < length bytes
taken_more m bytes taken e lt = omega (arith, ap length e, length-take (m + 1) bytes)

whole_le : (taken : List ℕ) (m : ℕ) → leb (length taken) m ≡ true → length taken ≤ m
whole_le taken m e = leb-true (length taken) m e

not_whole : (taken : List ℕ) (m : ℕ) → leb (length taken) m ≡ false → m < length taken
not_whole taken m e = elim (cases_lt m (length taken)) as (λ _. m < length taken) [
  | inl lt ↦ lt
  | inr ge ↦ let f : true ≡ false = sym (le-leb (length taken) m ge) ∙ e in absurd cc
]

-- nothing follows and nothing is begun, or the whole was read: then it is not too large
not_large : (bytes taken : List ℕ) (xs : List Item) (cut : ℕ) (c : Context) → Stands longest_input bytes taken xs cut c → IsFront (take longest_input bytes) xs cut
    → ((leb (length taken) longest_input ≡ true) ⊎ ((cut < length (take longest_input taken)) × (IsBegun c (drop cut (take longest_input taken)) → ⊥))) → IsTooLarge bytes xs → ⊥
not_large bytes taken xs cut c s front (inl is) (lt, cut', front', ends) = let a = taken_all longest_input bytes taken s.input (whole_le taken longest_input is) in omega (arith, a.0)
not_large bytes taken xs cut c s front (inr (more, none)) (lt, cut', front', inl e) = omega (arith, same_cut (take longest_input bytes) xs cut cut' front front', more, length-take longest_input taken, e)
not_large bytes taken xs cut c s front (inr (more, none)) (lt, cut', front', inr b) =
    none (subst (λ (d : Context). IsBegun d (drop cut (take longest_input taken))) (sym s.before) (subst (λ (r : List ℕ). IsBegun (after_items beginning xs) (drop cut r)) (sym (window longest_input bytes taken xs cut c s))
    (subst (λ (i : ℕ). IsBegun (after_items beginning xs) (drop i (take longest_input bytes))) (sym (same_cut (take longest_input bytes) xs cut cut' front front')) b)))

-- a fault
pub bad_is : (bytes taken : List ℕ) (xs : List Item) (cut at : ℕ) (c : Context) → Stands longest_input bytes taken xs cut c → (c.stage ≡ Over → ⊥) → Behind c (take longest_input taken) (leb (length taken) longest_input) cut (Err (Bad at)) → IsBadScript bytes xs at
bad_is bytes taken xs cut at c s not_over f =
    let front = front_of longest_input bytes taken xs cut c s f.1 in
    subst (IsBadScript bytes xs) (sym f.0) (front, λ z. not_over (ap (λ (d : Context). d.stage) s.before ∙ z.over), not_large bytes taken xs cut c s front f.2)

-- too large
pub large_is : (bytes taken : List ℕ) (xs : List Item) (cut : ℕ) (c : Context) → Stands longest_input bytes taken xs cut c → Behind c (take longest_input taken) (leb (length taken) longest_input) cut (Err Large) → IsTooLarge bytes xs
large_is bytes taken xs cut c s f =
    let lt = not_whole taken longest_input f.0 in
    let front = front_of longest_input bytes taken xs cut c s f.1 in
    (taken_more longest_input bytes taken s.input lt, cut, front, ends f.2 lt)
  where
    ends : (cut ≡ length (take longest_input taken)) ⊎ IsBegun c (drop cut (take longest_input taken)) → longest_input < length taken → (cut ≡ longest_input) ⊎ IsBegun (after_items beginning xs) (drop cut (take longest_input bytes))
    ends (inl e) lt = inl (omega (arith, e, length-take longest_input taken, lt))
    ends (inr b) lt = inr (subst (λ (r : List ℕ). IsBegun (after_items beginning xs) (drop cut r)) (window longest_input bytes taken xs cut c s) (subst (λ (d : Context). IsBegun d (drop cut (take longest_input taken))) s.before b))

-- the last item
module _ (bytes taken : List ℕ) (xs : List Item) (n : ℕ) (c : Context) (s : Stands longest_input bytes taken (xs ++ items.End ∷ []) n (after_item c items.End)) where
  over : (after_items beginning (xs ++ items.End ∷ [])).stage ≡ Over
  over = ap (λ (d : Context). d.stage) (sym s.before)

  nothing_more : (x : Item) → BeginsWith (after_item c items.End) (drop n (take longest_input taken)) x → ⊥
  nothing_more x b = over_none (after_item c items.End) refl x b.fits

  pub end_is_script : n ≡ length (take longest_input taken) → leb (length taken) longest_input ≡ true → IsScript bytes (xs ++ items.End ∷ [])
  end_is_script last is =
      let le = whole_le taken longest_input is in
      let a = taken_all longest_input bytes taken s.input le in
      let all : n ≡ length taken = omega (arith, last, length-take longest_input taken) in
      record { spelled = sym a.1 ∙ sym (take_all n taken (omega (arith, all))) ∙ s.spelled; fit = s.fit; over = over }

  pub end_is_large : n ≡ length (take longest_input taken) → leb (length taken) longest_input ≡ false → IsTooLarge bytes (xs ++ items.End ∷ [])
  end_is_large last is =
      let lt = not_whole taken longest_input is in
      (taken_more longest_input bytes taken s.input lt, n, front_of longest_input bytes taken _ n _ s nothing_more, inl (omega (arith, last, length-take longest_input taken, lt)))

  pub end_is_bad : n < length (take longest_input taken) → IsBadScript bytes (xs ++ items.End ∷ []) n
  end_is_bad more =
      let front = front_of longest_input bytes taken _ n _ s nothing_more in (
        front,
        λ z. omega (arith, ap length z.spelled, ap length front.spelled, length-take n (take longest_input bytes), front.within, more, ap length (window longest_input bytes taken _ n _ s), length-take longest_input bytes),
        not_large bytes taken _ n _ s front (inr (more, λ b. over_none (after_item c items.End) refl b.item b.fits)),
      )
