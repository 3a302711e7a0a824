-- The test of paths by their bytes, one after another, is the one by their parts.
use Rattle.std.proofs.Common.{◌≡◌, ◌∙◌, ◌<◌, ◌≤◌, ℕ, Bool, true, false, cond, not, ◌&&◌, List, [], ◌∷◌, ◌++◌, length, drop, Some, None, refl, ap, sym, subst, append_assoc, length-append, arith, codes, nat_eq, nat_lt, nat_le}
use Rattle.std.specs.List.{list_all}
use Rattle.std.specs.Prelude.{All, IsAscii, slice_index}
use Rattle.std.proofs.lemmas.Bool.{and_from, and_parts, cond-true, cond-false, eq-eqb, eqb-true, eqb-false, false≢true, lt-leb, lt-ltb, ltb-false, ltb-true, ne_eqb, false_from_ne_true}
use Rattle.std.proofs.lemmas.Bool.Decides.{nat_tests}
use Rattle.std.proofs.lemmas.List.Elements.{All-cons, All-nil}
use Rattle.std.proofs.lemmas.Str.Ascii.{IsAscii-from_all}
use Rattle.std.proofs.lemmas.List.{append-nil}
use Rattle.std.proofs.lemmas.List.Folds.{list_all-append}
use Rattle.std.proofs.lemmas.Slice.Eq.{bytes_eq-Decides}
use Rattle.lp_events.specs.Script.{is_part_byte}
use Rattle.lp_instr.specs.EfunList.{is_name}
use Rattle.lp_text.specs.Pieces.{pieces, with_head}
use Rattle.lp_words.specs.declared.path.Progress.{Progress}
use Rattle.lp_words.specs.declared.path.Progress.TheVariants.{Start, Slash, Dot, Dots, Part, Refused}
use Rattle.lp_words.specs.Paths.{is_done, read}
use Rattle.lp_words.specs.Paths as words
use Rattle.lp_meaning.specs.FileEfuns.{is_part, is_path, path_if}

abbrev slash : List ℕ
slash = codes "/"

swap : (c : ℕ) → nat_eq 47 c ≡ nat_eq c 47
swap c = by (nat_eq c 47) refl
  where
    by : (b : Bool) → nat_eq c 47 ≡ b → nat_eq 47 c ≡ nat_eq c 47
    by true e = eq-eqb 47 c (sym (eqb-true c 47 e)) ∙ sym e
    by false e = ne_eqb 47 c (λ h. false≢true (sym e ∙ eq-eqb c 47 (sym h))) ∙ sym e

and_true : (b : Bool) → (b && true) ≡ b
and_true true = refl
and_true false = refl

cut : (c : ℕ) (cs : List ℕ) → pieces slash (c ∷ cs) ≡ cond (nat_eq c 47) ([] ∷ pieces slash cs) (with_head c (pieces slash cs))
cut c cs = ap (λ b. cond b ([] ∷ pieces slash cs) (with_head c (pieces slash cs))) (and_true (nat_eq 47 c) ∙ swap c)

-- the pieces are parts, where the first one stands behind what was read of it
abbrev all_with : List ℕ → List (List ℕ) → Bool
all_with p [] = is_part p
all_with p (h ∷ t) = is_part (p ++ h) && list_all is_part t

head_more : (p : List ℕ) (c : ℕ) (ps : List (List ℕ)) → all_with p (with_head c ps) ≡ all_with (p ++ c ∷ []) ps
head_more p c [] = and_true (is_part (p ++ c ∷ []))
head_more p c (h ∷ t) = ap (λ x. is_part x && list_all is_part t) (sym (append_assoc p (c ∷ []) h))

ends : (p : List ℕ) → all_with p ([] ∷ []) ≡ is_part p
ends p = and_true (is_part (p ++ [])) ∙ ap is_part (append-nil p)

next : (p : List ℕ) (ps : List (List ℕ)) → all_with p ([] ∷ ps) ≡ (is_part p && list_all is_part ps)
next p ps = ap (λ x. is_part x && list_all is_part ps) (append-nil p)

-- a part
record IsWhole (p : List ℕ) : Type 0 where
  some : 0 < length p
  bytes : list_all is_part_byte p ≡ true
  not_here : p ≡ 46 ∷ [] → ⊥
  not_above : p ≡ 46 ∷ 46 ∷ [] → ⊥

not_name : (p q : List ℕ) → (p ≡ q → ⊥) → not (is_name p q) ≡ true
not_name p q n = ap not (false_from_ne_true (is_name p q) (λ e. n ((bytes_eq-Decides p q).0 e)))

whole_part : (p : List ℕ) → IsWhole p → is_part p ≡ true
whole_part p h = and_from _ _ (and_from _ _ (and_from _ _ (lt-ltb 0 (length p) h.some) h.bytes) (not_name p (codes ".") h.not_here)) (not_name p (codes "..") h.not_above)

no_part : (p : List ℕ) → list_all is_part_byte p ≡ false → is_part p ≡ false
no_part p e = ap (λ b. nat_lt 0 (length p) && b && not (is_name p (codes ".")) && not (is_name p (codes ".."))) e ∙ by (nat_lt 0 (length p)) (not (is_name p (codes "."))) (not (is_name p (codes "..")))
  where
    by : (a b c : Bool) → (a && false && b && c) ≡ false
    by true b c = refl
    by false b c = refl

and_false : (a b : Bool) → a ≡ false → (a && b) ≡ false
and_false a b e = ap (λ x. x && b) e

bad_more : (p q : List ℕ) → list_all is_part_byte p ≡ false → list_all is_part_byte (p ++ q) ≡ false
bad_more p q e = list_all-append is_part_byte p q ∙ and_false (list_all is_part_byte p) (list_all is_part_byte q) e

refused_all : (p : List ℕ) (ps : List (List ℕ)) → list_all is_part_byte p ≡ false → all_with p ps ≡ false
refused_all p [] e = no_part p e
refused_all p (h ∷ t) e = and_false (is_part (p ++ h)) (list_all is_part t) (no_part (p ++ h) (bad_more p h e))

stays_refused : (cs : List ℕ) → is_done (read Refused cs) ≡ false
stays_refused [] = refl
stays_refused (c ∷ cs) = stays_refused cs

not_above_more : (q : List ℕ) (c : ℕ) → IsWhole q → q ++ c ∷ [] ≡ 46 ∷ 46 ∷ [] → ⊥
not_above_more [] c p e = absurd cc
not_above_more (a ∷ []) c p e = p.not_here (cc)
not_above_more (a ∷ b ∷ q) c p e = omega (arith, length-append q (c ∷ []), ap length e)

whole_more : (q : List ℕ) (c : ℕ) → IsWhole q → is_part_byte c ≡ true → IsWhole (q ++ c ∷ [])
whole_more q c p h = record {
  some = omega (arith, length-append q (c ∷ []));
  bytes = list_all-append is_part_byte q (c ∷ []) ∙ and_from _ _ p.bytes (and_from _ _ h refl);
  not_here = λ e. omega (arith, length-append q (c ∷ []), ap length e, p.some);
  not_above = not_above_more q c p;
}

bad_last : (q : List ℕ) (c : ℕ) → is_part_byte c ≡ false → list_all is_part_byte (q ++ c ∷ []) ≡ false
bad_last q c h = list_all-append is_part_byte q (c ∷ []) ∙ ap (λ b. list_all is_part_byte q && (b && true)) h ∙ by (list_all is_part_byte q)
  where
    by : (b : Bool) → (b && false) ≡ false
    by true = refl
    by false = refl

-- what follows where a byte does not end a part
abbrev Goes : Progress → List ℕ → List ℕ → Type 0
Goes s p cs = is_done (read s cs) ≡ all_with p (pieces slash cs)

goes_refused : (p cs : List ℕ) → list_all is_part_byte p ≡ false → Goes Refused p cs
goes_refused p cs e = stays_refused cs ∙ sym (refused_all p (pieces slash cs) e)

-- at a `/`
at_slash : (s : Progress) (p : List ℕ) (c : ℕ) (cs : List ℕ) → nat_eq c 47 ≡ true → is_done (read s cs) ≡ (is_part p && list_all is_part (pieces slash cs)) → is_done (read s cs) ≡ all_with p (pieces slash (c ∷ cs))
at_slash s p c cs e h = h ∙ sym (next p (pieces slash cs)) ∙ sym (ap (all_with p) (cut c cs ∙ cond-true (nat_eq c 47) ([] ∷ pieces slash cs) (with_head c (pieces slash cs)) e))

-- at another byte
at_byte : (s : Progress) (p : List ℕ) (c : ℕ) (cs : List ℕ) → nat_eq c 47 ≡ false → Goes s (p ++ c ∷ []) cs → is_done (read s cs) ≡ all_with p (pieces slash (c ∷ cs))
at_byte s p c cs e h = h ∙ sym (head_more p c (pieces slash cs)) ∙ sym (ap (all_with p) (cut c cs ∙ cond-false (nat_eq c 47) ([] ∷ pieces slash cs) (with_head c (pieces slash cs)) e))

no_slash : (c : ℕ) → nat_eq c 47 ≡ true → is_part_byte c ≡ false
no_slash c e = ap is_part_byte (eqb-true c 47 e)

no_dot : (c : ℕ) → nat_eq c 46 ≡ true → nat_eq c 47 ≡ false
no_dot c e = ap (λ x. nat_eq x 47) (eqb-true c 46 e)

slash_no_dot : (c : ℕ) → nat_eq c 47 ≡ true → nat_eq c 46 ≡ false
slash_no_dot c e = ap (λ x. nat_eq x 46) (eqb-true c 47 e)

-- a part that is none, and a `/` behind it
refused_at_slash : (p : List ℕ) (c : ℕ) (cs : List ℕ) → is_part p ≡ false → nat_eq c 47 ≡ true → is_done (read Refused cs) ≡ all_with p (pieces slash (c ∷ cs))
refused_at_slash p c cs n e = at_slash Refused p c cs e (stays_refused cs ∙ sym (and_false (is_part p) (list_all is_part (pieces slash cs)) n))

-- a byte of a part, or none
part_step_goes : (p : List ℕ) (c : ℕ) (cs : List ℕ) → is_part p ≡ false → (is_part_byte c ≡ true → Goes Part (p ++ c ∷ []) cs) → is_done (read (cond (is_part_byte c) Part Refused) cs) ≡ all_with p (pieces slash (c ∷ cs))
part_step_goes p c cs n h = by (is_part_byte c) (nat_eq c 47) refl refl
  where
    by : (b d : Bool) → is_part_byte c ≡ b → nat_eq c 47 ≡ d → is_done (read (cond b Part Refused) cs) ≡ all_with p (pieces slash (c ∷ cs))
    by true true e f = absurd (false≢true (sym (no_slash c f) ∙ e))
    by true false e f = at_byte Part p c cs f (h e)
    by false true e f = refused_at_slash p c cs n f
    by false false e f = at_byte Refused p c cs f (goes_refused (p ++ c ∷ []) cs (bad_last p c e))

one_whole : (c : ℕ) → nat_eq c 46 ≡ false → is_part_byte c ≡ true → IsWhole (c ∷ [])
one_whole c e h = record { some = omega arith; bytes = and_from _ _ h refl; not_here = λ g. eqb-false c 46 e (cc); not_above = λ g. absurd cc }

dot_whole : (c : ℕ) → nat_eq c 46 ≡ false → is_part_byte c ≡ true → IsWhole (46 ∷ c ∷ [])
dot_whole c e h = record { some = omega arith; bytes = and_from _ _ h refl; not_here = λ g. absurd cc; not_above = λ g. eqb-false c 46 e (cc) }

dots_whole : (c : ℕ) → is_part_byte c ≡ true → IsWhole (46 ∷ 46 ∷ c ∷ [])
dots_whole c h = record { some = omega arith; bytes = and_from _ _ h refl; not_here = λ g. absurd cc; not_above = λ g. absurd cc }

first : (ps : List (List ℕ)) (c : ℕ) → all_with [] (with_head c ps) ≡ list_all is_part (with_head c ps)
first [] c = refl
first (h ∷ t) c = refl

all_pieces : (cs : List ℕ) → all_with [] (pieces slash cs) ≡ list_all is_part (pieces slash cs)
all_pieces [] = refl
all_pieces (c ∷ cs) = subst (λ ps. all_with [] ps ≡ list_all is_part ps) (sym (cut c cs)) (by (nat_eq c 47))
  where
    by : (b : Bool) → all_with [] (cond b ([] ∷ pieces slash cs) (with_head c (pieces slash cs))) ≡ list_all is_part (cond b ([] ∷ pieces slash cs) (with_head c (pieces slash cs)))
    by true = refl
    by false = first (pieces slash cs) c

-- one byte more, behind nothing, `.`, `..` and a part
slash_step : (c : ℕ) (cs : List ℕ) → Goes Dot (46 ∷ []) cs → ((h : IsWhole (c ∷ [])) → Goes Part (c ∷ []) cs) → Goes Slash [] (c ∷ cs)
slash_step c cs dot part = by (nat_eq c 46) refl
  where
    by : (b : Bool) → nat_eq c 46 ≡ b → is_done (read (cond b Dot (cond (is_part_byte c) Part Refused)) cs) ≡ all_with [] (pieces slash (c ∷ cs))
    by true e = at_byte Dot [] c cs (no_dot c e) (subst (λ x. Goes Dot (x ∷ []) cs) (sym (eqb-true c 46 e)) dot)
    by false e = part_step_goes [] c cs refl (λ h. part (one_whole c e h))

dot_step : (c : ℕ) (cs : List ℕ) → Goes Dots (46 ∷ 46 ∷ []) cs → ((h : IsWhole (46 ∷ c ∷ [])) → Goes Part (46 ∷ c ∷ []) cs) → Goes Dot (46 ∷ []) (c ∷ cs)
dot_step c cs dots part = by (nat_eq c 46) refl
  where
    by : (b : Bool) → nat_eq c 46 ≡ b → is_done (read (cond b Dots (cond (is_part_byte c) Part Refused)) cs) ≡ all_with (46 ∷ []) (pieces slash (c ∷ cs))
    by true e = at_byte Dots (46 ∷ []) c cs (no_dot c e) (subst (λ x. Goes Dots (46 ∷ x ∷ []) cs) (sym (eqb-true c 46 e)) dots)
    by false e = part_step_goes (46 ∷ []) c cs refl (λ h. part (dot_whole c e h))

dots_step : (c : ℕ) (cs : List ℕ) → ((h : IsWhole (46 ∷ 46 ∷ c ∷ [])) → Goes Part (46 ∷ 46 ∷ c ∷ []) cs) → Goes Dots (46 ∷ 46 ∷ []) (c ∷ cs)
dots_step c cs part = part_step_goes (46 ∷ 46 ∷ []) c cs refl (λ h. part (dots_whole c h))

part_step : (p : List ℕ) (c : ℕ) (cs : List ℕ) → IsWhole p → Goes Slash [] cs → ((h : IsWhole (p ++ c ∷ [])) → Goes Part (p ++ c ∷ []) cs) → Goes Part p (c ∷ cs)
part_step p c cs h next_part more = by (nat_eq c 47) (is_part_byte c) refl refl
  where
    by : (b d : Bool) → nat_eq c 47 ≡ b → is_part_byte c ≡ d → is_done (read (cond b Slash (cond d Part Refused)) cs) ≡ all_with p (pieces slash (c ∷ cs))
    by true d e f = at_slash Slash p c cs e (next_part ∙ all_pieces cs ∙ ap (λ b. b && list_all is_part (pieces slash cs)) (sym (whole_part p h)))
    by false true e f = at_byte Part p c cs e (more (whole_more p c h f))
    by false false e f = at_byte Refused p c cs e (goes_refused (p ++ c ∷ []) cs (bad_last p c f))

mutual
  slash_goes : (cs : List ℕ) → Goes Slash [] cs
  slash_goes [] = refl
  slash_goes (c ∷ cs) = slash_step c cs (dot_goes cs) (λ h. part_goes cs (c ∷ []) h)

  dot_goes : (cs : List ℕ) → Goes Dot (46 ∷ []) cs
  dot_goes [] = refl
  dot_goes (c ∷ cs) = dot_step c cs (dots_goes cs) (λ h. part_goes cs (46 ∷ c ∷ []) h)

  dots_goes : (cs : List ℕ) → Goes Dots (46 ∷ 46 ∷ []) cs
  dots_goes [] = refl
  dots_goes (c ∷ cs) = dots_step c cs (λ h. part_goes cs (46 ∷ 46 ∷ c ∷ []) h)

  part_goes : (cs : List ℕ) (p : List ℕ) → IsWhole p → Goes Part p cs
  part_goes [] p h = sym (ends p ∙ whole_part p h)
  part_goes (c ∷ cs) p h = part_step p c cs h (slash_goes cs) (λ w. part_goes cs (p ++ c ∷ []) w)

-- both tests of paths are one
pub paths_same : (path : List ℕ) → words.is_path path ≡ is_path path
unfolding words.is_path
paths_same [] = refl
paths_same (c ∷ cs) = by (nat_eq c 47) refl (nat_le (length (c ∷ cs)) 256)
  where
    by : (b : Bool) → nat_eq c 47 ≡ b → (a : Bool) → (a && is_done (read (cond b Slash Refused) cs)) ≡ (a && b && list_all is_part (pieces slash cs))
    by b e false = refl
    by true e true = slash_goes cs ∙ all_pieces cs
    by false e true = stays_refused cs

-- A path is of ASCII.

part_small : (c : ℕ) → is_part_byte c ≡ true → c < 128
part_small c h = grind (arith, nat_tests)

part_large : (c : ℕ) → 128 ≤ c → is_part_byte c ≡ false
part_large c le = false_from_ne_true (is_part_byte c) (λ h. let s = part_small c h in omega (arith, s, le))

large_not : (c k : ℕ) → 128 ≤ c → k < 128 → nat_eq c k ≡ false
large_not c k le lt = ne_eqb c k (λ e. omega (arith, e, le, lt))

large_refused : (s : Progress) (c : ℕ) → 128 ≤ c → words.step s c ≡ Refused
large_refused Start c le = ap (λ b. cond b Slash Refused) (large_not c 47 le (omega arith))
large_refused Slash c le = ap (λ b. cond b Dot (cond (is_part_byte c) Part Refused)) (large_not c 46 le (omega arith)) ∙ ap (λ b. cond b Part Refused) (part_large c le)
large_refused Dot c le = ap (λ b. cond b Dots (cond (is_part_byte c) Part Refused)) (large_not c 46 le (omega arith)) ∙ ap (λ b. cond b Part Refused) (part_large c le)
large_refused Dots c le = ap (λ b. cond b Part Refused) (part_large c le)
large_refused Part c le = ap (λ b. cond b Slash (cond (is_part_byte c) Part Refused)) (large_not c 47 le (omega arith)) ∙ ap (λ b. cond b Part Refused) (part_large c le)
large_refused Refused c le = refl

first_small : (s : Progress) (c : ℕ) (cs : List ℕ) → is_done (read (words.step s c) cs) ≡ true → c < 128
first_small s c cs e = by (nat_lt c 128) refl
  where
    by : (b : Bool) → nat_lt c 128 ≡ b → c < 128
    by true q = ltb-true c 128 q
    by false q = absurd (false≢true (sym (ap (λ p. is_done (read p cs)) (large_refused s c (ltb-false c 128 q)) ∙ stays_refused cs) ∙ e))

all_small : (s : Progress) (cs : List ℕ) → is_done (read s cs) ≡ true → All (λ c. c < 128) cs
all_small s [] e = All-nil (λ c. c < 128)
all_small s (c ∷ cs) e = All-cons (λ c. c < 128) c cs (first_small s c cs e) (all_small (words.step s c) cs e)

words_ascii : (path : List ℕ) → words.is_path path ≡ true → All (λ c. c < 128) path
unfolding words.is_path
words_ascii path e = all_small Start path (and_parts (nat_le (length path) 256) (is_done (read Start path)) e).1

pub path_ascii : (path : List ℕ) → is_path path ≡ true → IsAscii path
path_ascii path e = IsAscii-from_all path (words_ascii path (paths_same path ∙ e))

-- What is a path, ..
pub path_is : (path : List ℕ) → words.is_path path ≡ true → Some path ≡ path_if path
path_is path e = ap (λ b. cond b (Some path) None) (sym e ∙ paths_same path)

-- .. and what is none
pub path_is_none : (path : List ℕ) → words.is_path path ≡ false → None ≡ path_if path
path_is_none path e = ap (λ b. cond b (Some path) None) (sym e ∙ paths_same path)

pub long_is_none : (path : List ℕ) → 256 < length path → None ≡ path_if path
long_is_none path lt =
    ap (λ b. cond b (Some path) None) (sym (and_false (nat_le (length path) 256 && nat_eq (slice_index path 0) 47) (list_all is_part (pieces slash (drop 1 path))) (and_false (nat_le (length path) 256) (nat_eq (slice_index path 0) 47) (lt-leb (length path) 256 lt))))

pub foreign_is_none : (path : List ℕ) → (All (λ c. c < 128) path → ⊥) → None ≡ path_if path
foreign_is_none path n = path_is_none path (false_from_ne_true (words.is_path path) (λ e. n (words_ascii path e)))
