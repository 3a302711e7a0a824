-- Spans that are put to others, and found.
use Rattle.std.proofs.Common.{◌≡◌, ℤ, List, [], ◌∷◌, ◌++◌, Bool, true, false, ◌||◌, ◌&&◌, int_le, ◌≤ℤ◌, FitsSigned, refl, sym, subst, ap, ◌∙◌, arith}
use Rattle.std.specs.List.{list_any, list_all}
use Rattle.std.proofs.lemmas.Bool.{and_parts}
use Rattle.std.proofs.lemmas.Int.{ints, to_z-of_z}
use mir.Syntax.{w64}
use mir.Val.{to_z, of_z}
use Rattle.lp_types.specs.declared.spans.Span.{Span}
use Rattle.lp_types.specs.Spans.{is_hit, are_hit, any_begins, all_begin, any_ends, IsSummary, IsWider}

-- Tests

or_moved : (y x z : Bool) → (y || z) ≡ ((y || false) || z)
or_moved true x z = refl
or_moved false x z = refl

or_step : (y x xs z : Bool) → (x || ((y || xs) || z)) ≡ ((y || (x || xs)) || z)
or_step true true xs z = refl
or_step true false xs z = refl
or_step false true xs z = refl
or_step false false xs z = refl

and_moved : (y z : Bool) → (y && z) ≡ ((y && true) && z)
and_moved true z = refl
and_moved false z = refl

and_step : (y x xs z : Bool) → (x && ((y && xs) && z)) ≡ ((y && (x && xs)) && z)
and_step true true xs z = refl
and_step true false xs z = refl
and_step false true xs z = refl
and_step false false xs z = refl

pub any_split : {A : Type 0} (p : A → Bool) (xs : List A) (y : A) (zs : List A) → list_any p (xs ++ y ∷ zs) ≡ ((p y || list_any p xs) || list_any p zs)
any_split p [] y zs = or_moved (p y) true (list_any p zs)
any_split p (x ∷ xs) y zs = ap (λ b. p x || b) (any_split p xs y zs) ∙ or_step (p y) (p x) (list_any p xs) (list_any p zs)

pub all_split : {A : Type 0} (p : A → Bool) (xs : List A) (y : A) (zs : List A) → list_all p (xs ++ y ∷ zs) ≡ ((p y && list_all p xs) && list_all p zs)
all_split p [] y zs = and_moved (p y) (list_all p zs)
all_split p (x ∷ xs) y zs = ap (λ b. p x && b) (all_split p xs y zs) ∙ and_step (p y) (p x) (list_all p xs) (list_all p zs)

here : (o w l r : Bool) → (((o || w) || l) || r) ≡ (o || ((w || l) || r))
here true w l r = refl
here false w l r = refl

left_of : (o w l r : Bool) → ((w || (o || l)) || r) ≡ (o || ((w || l) || r))
left_of true true l r = refl
left_of true false l r = refl
left_of false w l r = refl

right_of : (o w l r : Bool) → ((w || l) || (o || r)) ≡ (o || ((w || l) || r))
right_of true true l r = refl
right_of true false true r = refl
right_of true false false r = refl
right_of false w l r = refl

-- One span more

module _ (from to : ℤ) (s own : Span) (ls rs : List Span) where
  pub hit_here : (new : Span) → is_hit from to new ≡ (is_hit from to s || is_hit from to own) → are_hit from to (ls ++ new ∷ rs) ≡ (is_hit from to s || are_hit from to (ls ++ own ∷ rs))
  hit_here new h =
      any_split (is_hit from to) ls new rs
      ∙ ap (λ b. (b || are_hit from to ls) || are_hit from to rs) h
      ∙ here (is_hit from to s) (is_hit from to own) (are_hit from to ls) (are_hit from to rs)
      ∙ ap (λ b. is_hit from to s || b) (sym (any_split (is_hit from to) ls own rs))

  pub hit_left : (new : List Span) → are_hit from to new ≡ (is_hit from to s || are_hit from to ls) → are_hit from to (new ++ own ∷ rs) ≡ (is_hit from to s || are_hit from to (ls ++ own ∷ rs))
  hit_left new h =
      any_split (is_hit from to) new own rs
      ∙ ap (λ b. (is_hit from to own || b) || are_hit from to rs) h
      ∙ left_of (is_hit from to s) (is_hit from to own) (are_hit from to ls) (are_hit from to rs)
      ∙ ap (λ b. is_hit from to s || b) (sym (any_split (is_hit from to) ls own rs))

  pub hit_right : (new : List Span) → are_hit from to new ≡ (is_hit from to s || are_hit from to rs) → are_hit from to (ls ++ own ∷ new) ≡ (is_hit from to s || are_hit from to (ls ++ own ∷ rs))
  hit_right new h =
      any_split (is_hit from to) ls own new
      ∙ ap (λ b. (is_hit from to own || are_hit from to ls) || b) h
      ∙ right_of (is_hit from to s) (is_hit from to own) (are_hit from to ls) (are_hit from to rs)
      ∙ ap (λ b. is_hit from to s || b) (sym (any_split (is_hit from to) ls own rs))

-- What a branch keeps

summed_any : (p : Span → Bool) (ls : List Span) (s : Span) (rs : List Span) (mid all : Bool) → mid ≡ (p s || list_any p ls) → all ≡ (mid || list_any p rs) → all ≡ list_any p (ls ++ s ∷ rs)
summed_any p ls s rs mid all f g = g ∙ ap (λ b. b || list_any p rs) f ∙ sym (any_split p ls s rs)

summed_all : (p : Span → Bool) (ls : List Span) (s : Span) (rs : List Span) (mid all : Bool) → mid ≡ (p s && list_all p ls) → all ≡ (mid && list_all p rs) → all ≡ list_all p (ls ++ s ∷ rs)
summed_all p ls s rs mid all f g = g ∙ ap (λ b. b && list_all p rs) f ∙ sym (all_split p ls s rs)

summary : (ls : List Span) (s : Span) (rs : List Span) (first last reach a b c : ℤ)
    → ((n : ℤ) → int_le a n ≡ (int_le s.from n || any_begins n ls)) → ((n : ℤ) → int_le first n ≡ (int_le a n || any_begins n rs))
    → ((n : ℤ) → int_le b n ≡ (int_le s.from n && all_begin n ls)) → ((n : ℤ) → int_le last n ≡ (int_le b n && all_begin n rs))
    → ((n : ℤ) → int_le n c ≡ (int_le n s.to || any_ends n ls)) → ((n : ℤ) → int_le n reach ≡ (int_le n c || any_ends n rs))
    → IsSummary first last reach (ls ++ s ∷ rs)
summary ls s rs first last reach a b c f1 f2 l1 l2 r1 r2 = record {
  first_is = λ n. summed_any (λ x. int_le x.from n) ls s rs (int_le a n) (int_le first n) (f1 n) (f2 n);
  last_is = λ n. summed_all (λ x. int_le x.from n) ls s rs (int_le b n) (int_le last n) (l1 n) (l2 n);
  reach_is = λ n. summed_any (λ x. int_le n x.to) ls s rs (int_le n c) (int_le n reach) (r1 n) (r2 n);
}

abbrev kept : ℤ → ℤ
kept z = to_z w64 (of_z w64 z)

at : (P : ℤ → Type 0) (z : ℤ) → FitsSigned w64 z → P (kept z) → P z
at P z f h = subst P (to_z-of_z w64 z f) h

back : (P : ℤ → Type 0) (z : ℤ) → FitsSigned w64 z → P z → P (kept z)
back P z f h = subst P (sym (to_z-of_z w64 z f)) h

-- the same, of numbers that were put away and taken back
pub summary_kept : (ls : List Span) (s : Span) (rs : List Span) (first last reach a b c : ℤ)
    → FitsSigned w64 s.from → FitsSigned w64 s.to → FitsSigned w64 first → FitsSigned w64 last → FitsSigned w64 reach → FitsSigned w64 a → FitsSigned w64 b → FitsSigned w64 c
    → ((n : ℤ) → int_le a n ≡ (int_le (kept s.from) n || any_begins n ls)) → ((n : ℤ) → int_le first n ≡ (int_le (kept a) n || any_begins n rs))
    → ((n : ℤ) → int_le b n ≡ (int_le (kept s.from) n && all_begin n ls)) → ((n : ℤ) → int_le last n ≡ (int_le (kept b) n && all_begin n rs))
    → ((n : ℤ) → int_le n c ≡ (int_le n (kept s.to) || any_ends n ls)) → ((n : ℤ) → int_le n reach ≡ (int_le n (kept c) || any_ends n rs))
    → IsSummary (kept first) (kept last) (kept reach) (ls ++ s ∷ rs)
summary_kept ls s rs first last reach a b c ff ft fi fl fr fa fb fc f1 f2 l1 l2 r1 r2 =
    back (λ x. IsSummary x (kept last) (kept reach) (ls ++ s ∷ rs)) first fi
    (back (λ x. IsSummary first x (kept reach) (ls ++ s ∷ rs)) last fl
    (back (λ x. IsSummary first last x (ls ++ s ∷ rs)) reach fr
    (summary ls s rs first last reach a b c
    (at (λ x. (n : ℤ) → int_le a n ≡ (int_le x n || any_begins n ls)) s.from ff f1)
    (at (λ x. (n : ℤ) → int_le first n ≡ (int_le x n || any_begins n rs)) a fa f2)
    (at (λ x. (n : ℤ) → int_le b n ≡ (int_le x n && all_begin n ls)) s.from ff l1)
    (at (λ x. (n : ℤ) → int_le last n ≡ (int_le x n && all_begin n rs)) b fb l2)
    (at (λ x. (n : ℤ) → int_le n c ≡ (int_le n x || any_ends n ls)) s.to ft r1)
    (at (λ x. (n : ℤ) → int_le n reach ≡ (int_le n x || any_ends n rs)) c fc r2))))

-- What the look at a branch tells

both_step : (b e h B E : Bool) → h ≡ (h && (B && E)) → ((b && e) || h) ≡ (((b && e) || h) && ((b || B) && (e || E)))
both_step true true h B E p = refl
both_step true false false B E p = refl
both_step true false true true E p = p
both_step true false true false E p = absurd cc
both_step false true false B E p = refl
both_step false true true true E p = refl
both_step false true true false E p = p
both_step false false h B E p = p

hit_both : (from to : ℤ) (ss : List Span) → are_hit from to ss ≡ (are_hit from to ss && (any_begins to ss && any_ends from ss))
hit_both from to [] = refl
hit_both from to (s ∷ ss) = both_step (int_le s.from to) (int_le from s.to) (are_hit from to ss) (any_begins to ss) (any_ends from ss) (hit_both from to ss)

and_false : (h b : Bool) → h ≡ (h && b) → b ≡ false → h ≡ false
and_false true b p q = p ∙ q
and_false false b p q = refl

pub hit_none : (from to : ℤ) (ss : List Span) (first last reach : ℤ) → IsSummary first last reach ss → (int_le first to && int_le from reach) ≡ false → are_hit from to ss ≡ false
hit_none from to ss first last reach w h =
    and_false (are_hit from to ss) _ (hit_both from to ss) (ap (λ b. b && any_ends from ss) (sym (w.first_is to)) ∙ ap (λ b. int_le first to && b) (sym (w.reach_is from)) ∙ h)

ends_hit : (from to : ℤ) (ss : List Span) → all_begin to ss ≡ true → are_hit from to ss ≡ any_ends from ss
ends_hit from to [] h = refl
ends_hit from to (s ∷ ss) h =
    let p = and_parts (int_le s.from to) (all_begin to ss) h in
    ap (λ b. (b && int_le from s.to) || are_hit from to ss) p.0 ∙ ap (λ b. int_le from s.to || b) (ends_hit from to ss p.1)

pub hit_all : (from to : ℤ) (ss : List Span) (first last reach : ℤ) → IsSummary first last reach ss → (int_le first to && int_le from reach) ≡ true → int_le last to ≡ true → are_hit from to ss ≡ true
hit_all from to ss first last reach w h l =
    ends_hit from to ss (sym (w.last_is to) ∙ l) ∙ sym (w.reach_is from) ∙ (and_parts (int_le first to) (int_le from reach) h).1

pub hit_own : (from to : ℤ) (ls : List Span) (s : Span) (rs : List Span) → is_hit from to s ≡ true → are_hit from to (ls ++ s ∷ rs) ≡ true
hit_own from to ls s rs h = any_split (is_hit from to) ls s rs ∙ ap (λ b. (b || are_hit from to ls) || are_hit from to rs) h

pub hit_in_left : (from to : ℤ) (ls : List Span) (s : Span) (rs : List Span) → is_hit from to s ≡ false → are_hit from to ls ≡ true → are_hit from to (ls ++ s ∷ rs) ≡ true
hit_in_left from to ls s rs h l =
    any_split (is_hit from to) ls s rs ∙ ap (λ b. (b || are_hit from to ls) || are_hit from to rs) h ∙ ap (λ b. b || are_hit from to rs) l

pub hit_in_right : (from to : ℤ) (ls : List Span) (s : Span) (rs : List Span) → is_hit from to s ≡ false → are_hit from to ls ≡ false → are_hit from to (ls ++ s ∷ rs) ≡ are_hit from to rs
hit_in_right from to ls s rs h l =
    any_split (is_hit from to) ls s rs ∙ ap (λ b. (b || are_hit from to ls) || are_hit from to rs) h ∙ ap (λ b. b || are_hit from to rs) l

-- Of two spans that begin at one integer

below : (a x y : ℤ) → x ≤ℤ y → int_le a x ≡ true → int_le a y ≡ true
below a x y h e = grind (arith, ints)

joined : (b p q : Bool) → (p ≡ true → q ≡ true) → (b && q) ≡ ((b && q) || (b && p))
joined false p q h = refl
joined true p true h = refl
joined true true false h = absurd (let e : false ≡ true = h refl in cc)
joined true false false h = refl

joined_back : (b p q : Bool) → (p ≡ true → q ≡ true) → (b && q) ≡ ((b && p) || (b && q))
joined_back false p q h = refl
joined_back true true q h = h refl
joined_back true false q h = refl

pub wider_other : (one other : Span) → one.from ≡ other.from → one.to ≤ℤ other.to → IsWider other one other
wider_other one other e l from to =
    joined (int_le other.from to) (int_le from one.to) (int_le from other.to) (below from one.to other.to l) ∙ ap (λ f. is_hit from to other || (int_le f to && int_le from one.to)) (sym e)

pub wider_one : (one other : Span) → one.from ≡ other.from → other.to ≤ℤ one.to → IsWider other one one
wider_one one other e l from to =
    joined_back (int_le one.from to) (int_le from other.to) (int_le from one.to) (below from other.to one.to l) ∙ ap (λ f. (int_le f to && int_le from other.to) || is_hit from to one) e
