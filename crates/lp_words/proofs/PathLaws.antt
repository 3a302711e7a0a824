-- Exactly the paths and names pass the tests.
use Rattle.std.proofs.Common.{subst, ◌⊎◌, inl, inr, zero, suc, ◌<◌, ◌≤◌, ◌+◌, ◌-◌, ◌==◌, length, take, drop, get_or, replicate, arith, ◌≡◌, ◌∙◌, ℕ, List, [], ◌∷◌, ◌++◌, Bool, true, false, not, ◌&&◌, refl, sym, ap, append_assoc, length-append, nat_eq, nat_lt, drop-cons, add-one}
use Rattle.std.specs.Ordering.{nat_cmp, is_lt, ordering_then}
use Rattle.std.specs.Cmp.{nat_cmp_is}
use Rattle.std.specs.Cmp.Lexicographic.{slice_cmp, pointwise}
use Rattle.std.specs.declared.cmp.Ordering.{Ordering}
use Rattle.std.specs.declared.cmp.Ordering.TheVariants.{Less, Equal, Greater}
use Rattle.std.proofs.Common.{Decides}
use Rattle.std.proofs.lemmas.Bool.Decides.{nat_tests}
use Rattle.std.proofs.lemmas.Bool.{cases_order, cases_lt, lt-ltb, le-ltb, lt-leb, eq-eqb, ne_eqb, and_left}
use Rattle.std.proofs.lemmas.List.{length-replicate}
use Rattle.std.specs.Prelude.{if◌then◌else◌, nat_le}
use Rattle.std.specs.List.{list_all}
use Rattle.std.proofs.lemmas.Bool.{and_parts, and_from, eqb-true, eqb-false, leb-true, le-leb, cases_Bool, true≢false, both_ways}
use Rattle.std.proofs.lemmas.List.{append-nil}
use Rattle.std.proofs.lemmas.List.Folds.{list_all-append}
use Rattle.std.proofs.lemmas.List.Sums.{AllPass-from_list_all, list_all-from_AllPass}
use Rattle.lp_events.specs.Script.{is_part_byte, IsPart, AreParts, path_of, IsPath, EndsInC, IsObjectName, numeral}
use Rattle.lp_words.specs.declared.path.Progress.{Progress}
use Rattle.lp_words.specs.declared.path.Progress.TheVariants.{Start, Slash, Dot, Dots, Part, Refused}
use Rattle.lp_words.specs.Paths.{BeginsPath, BeginsName, step, read, is_done, is_path, may_go_on, stem, filled, is_above, begins_path, is_nil, is_digit, is_numeral, ends_in_c, is_object_path, before_hash, from_hash, is_clone, is_name, begins_with_parts, begins_name}
use Rattle.lp_words.proofs.Numerals.{numeral-passes, numeral-spelled, numeral-digits, numeral-front}
use Rattle.std.specs.Prelude.{◌||◌, codes}
use Rattle.std.specs.List.{prefix_len}
use Rattle.std.proofs.lemmas.List.Sums.{prefix_len-le-length}
use Rattle.std.proofs.lemmas.Slice.Eq.{ends_is}
use Rattle.std.proofs.lemmas.Bool.Decides.{Decides-eqb}
use Rattle.std.proofs.lemmas.Bool.{or_cases, not-true, false_from_ne_true, true_from_ne_false}
use Rattle.std.proofs.Common.{one-add, cond}

-- what has been read of the last part
abbrev Describes : Progress → List ℕ → Type 0
Describes Start q = ⊥
Describes Slash q = q ≡ []
Describes Dot q = q ≡ 46 ∷ []
Describes Dots q = q ≡ 46 ∷ 46 ∷ []
Describes Part q = IsPart q
Describes Refused q = ⊥

no_slash : (c : ℕ) → is_part_byte c ≡ true → c ≡ 47 → ⊥
no_slash c h e = true≢false (sym (subst (λ x. is_part_byte x ≡ true) e h))

-- A byte of a part, after the part so far. The tests stand as variables.
after-slash : (dot byte : Bool) (c : ℕ) → (c == 46) ≡ dot → is_part_byte c ≡ true → byte ≡ true
    → Describes (if◌then◌else◌ dot Dot (if◌then◌else◌ byte Part Refused)) (c ∷ [])
after-slash true byte c e h b = ap (λ x. x ∷ []) (eqb-true c 46 e)
after-slash false false c e h b = absurd (true≢false (sym b))
after-slash false true c e h b = record {
  some = omega arith;
  bytes = AllPass-from_list_all is_part_byte (c ∷ []) (and_from _ _ h refl);
  not_here = λ g. eqb-false c 46 e (cc);
  not_above = λ g. absurd cc;
}

after-dot : (dot byte : Bool) (c : ℕ) → (c == 46) ≡ dot → is_part_byte c ≡ true → byte ≡ true
    → Describes (if◌then◌else◌ dot Dots (if◌then◌else◌ byte Part Refused)) (46 ∷ c ∷ [])
after-dot true byte c e h b = ap (λ x. 46 ∷ x ∷ []) (eqb-true c 46 e)
after-dot false false c e h b = absurd (true≢false (sym b))
after-dot false true c e h b = record {
  some = omega arith;
  bytes = AllPass-from_list_all is_part_byte (46 ∷ c ∷ []) (and_from _ _ h refl);
  not_here = λ g. absurd cc;
  not_above = λ g. eqb-false c 46 e (cc);
}

after-dots : (byte : Bool) (c : ℕ) → is_part_byte c ≡ true → byte ≡ true → Describes (if◌then◌else◌ byte Part Refused) (46 ∷ 46 ∷ c ∷ [])
after-dots false c h b = absurd (true≢false (sym b))
after-dots true c h b = record {
  some = omega arith;
  bytes = AllPass-from_list_all is_part_byte (46 ∷ 46 ∷ c ∷ []) (and_from _ _ h refl);
  not_here = λ g. absurd cc;
  not_above = λ g. absurd cc;
}

not_above-more : (q : List ℕ) (c : ℕ) → IsPart q → q ++ c ∷ [] ≡ 46 ∷ 46 ∷ [] → ⊥
not_above-more [] c p e = absurd cc
not_above-more (a ∷ []) c p e = p.not_here (cc)
not_above-more (a ∷ b ∷ q) c p e = omega (arith, length-append q (c ∷ []), ap length e)

part-more : (q : List ℕ) (c : ℕ) → IsPart q → is_part_byte c ≡ true → IsPart (q ++ c ∷ [])
part-more q c p h = record {
  some = omega (arith, length-append q (c ∷ []));
  bytes = AllPass-from_list_all is_part_byte (q ++ c ∷ []) (list_all-append is_part_byte q (c ∷ []) ∙ and_from _ _ (list_all-from_AllPass is_part_byte q p.bytes) (and_from _ _ h refl));
  not_here = λ e. omega (arith, length-append q (c ∷ []), ap length e, p.some);
  not_above = not_above-more q c p;
}

after-part : (slash byte : Bool) (q : List ℕ) (c : ℕ) → (c == 47) ≡ slash → is_part_byte c ≡ true → byte ≡ true → IsPart q
    → Describes (if◌then◌else◌ slash Slash (if◌then◌else◌ byte Part Refused)) (q ++ c ∷ [])
after-part true byte q c e h b p = absurd (no_slash c h (eqb-true c 47 e))
after-part false false q c e h b p = absurd (true≢false (sym b))
after-part false true q c e h b p = part-more q c p h

goes_on : (s : Progress) (q : List ℕ) (c : ℕ) → Describes s q → is_part_byte c ≡ true → Describes (step s c) (q ++ c ∷ [])
goes_on Start q c d h = absurd d
goes_on Refused q c d h = absurd d
goes_on Slash q c d h = subst (λ q. Describes (step Slash c) (q ++ c ∷ [])) (sym d) (after-slash (c == 46) (is_part_byte c) c refl h h)
goes_on Dot q c d h = subst (λ q. Describes (step Dot c) (q ++ c ∷ [])) (sym d) (after-dot (c == 46) (is_part_byte c) c refl h h)
goes_on Dots q c d h = subst (λ q. Describes (step Dots c) (q ++ c ∷ [])) (sym d) (after-dots (is_part_byte c) c h h)
goes_on Part q c d h = after-part (c == 47) (is_part_byte c) q c refl h h d

-- COMPLETE: what spells a path is read

reads-bytes : (s : Progress) (q p cs : List ℕ) → Describes s q → list_all is_part_byte p ≡ true → (t : Progress) × Describes t (q ++ p) × (read s (p ++ cs) ≡ read t cs)
reads-bytes s q [] cs d h = (s, subst (Describes s) (sym (append-nil q)) d, refl)
reads-bytes s q (c ∷ p) cs d h =
    let r = reads-bytes (step s c) (q ++ c ∷ []) p cs (goes_on s q c d (and_parts (is_part_byte c) _ h).0) (and_parts (is_part_byte c) _ h).1 in
    (r.0, subst (Describes r.0) (append_assoc q (c ∷ []) p) r.1, r.2)

is_whole : (s : Progress) (q : List ℕ) → Describes s q → IsPart q → s ≡ Part
is_whole Start q d p = absurd d
is_whole Slash q d p = absurd (omega (arith, p.some, ap length d))
is_whole Dot q d p = absurd (p.not_here d)
is_whole Dots q d p = absurd (p.not_above d)
is_whole Part q d p = refl
is_whole Refused q d p = absurd d

reads-parts : (parts : List (List ℕ)) → AreParts parts → read Part (path_of parts) ≡ Part
reads-parts [] h = refl
reads-parts (part ∷ parts) h =
    let r = reads-bytes Slash [] part (path_of parts) refl (list_all-from_AllPass is_part_byte part h.0.bytes) in
    r.2 ∙ ap (λ s. read s (path_of parts)) (is_whole r.0 part r.1 h.0) ∙ reads-parts parts h.1

reads-some : (parts : List (List ℕ)) → 0 < length parts → AreParts parts → read Start (path_of parts) ≡ Part
reads-some [] some h = absurd (omega arith)
reads-some (part ∷ parts) some h = reads-parts (part ∷ parts) h

reads-path : (w : List ℕ) → IsPath w → read Start w ≡ Part
reads-path w p = ap (read Start) p.joined ∙ reads-some p.parts p.some p.each

pub is_path-complete : (w : List ℕ) → IsPath w → is_path w ≡ true
unfolding is_path
is_path-complete w p = and_from _ _ (le-leb _ _ p.short) (ap is_done (reads-path w p))

pub is_path-no : (w : List ℕ) → is_path w ≡ false → IsPath w → ⊥
is_path-no w h p = both_ways (is_path w) h (is_path-complete w p)

-- SOUND: what is read spells a path

stays-refused : (cs : List ℕ) → read Refused cs ≡ Refused
stays-refused [] = refl
stays-refused (c ∷ cs) = stays-refused cs

not-refused : {P : Type 0} (cs : List ℕ) (s : Progress) → s ≡ Refused → is_done (read s cs) ≡ true → P
not-refused cs s e h = absurd (true≢false (sym h ∙ ap (λ s. is_done (read s cs)) e ∙ ap is_done (stays-refused cs)))

-- a byte that no part has
not-46 : (c : ℕ) → is_part_byte c ≡ false → (c == 46) ≡ true → ⊥
not-46 c h e = true≢false (subst (λ x. is_part_byte x ≡ false) (eqb-true c 46 e) h)

refused-dot : (dot byte : Bool) (s : Progress) (c : ℕ) → (c == 46) ≡ dot → is_part_byte c ≡ false → byte ≡ false → if◌then◌else◌ dot s (if◌then◌else◌ byte Part Refused) ≡ Refused
refused-dot true byte s c e h b = absurd (not-46 c h e)
refused-dot false false s c e h b = refl
refused-dot false true s c e h b = absurd (true≢false b)

refused-byte : (byte : Bool) → byte ≡ false → if◌then◌else◌ byte Part Refused ≡ Refused
refused-byte false b = refl
refused-byte true b = absurd (true≢false b)

-- where a byte that no part has does not stop the reading, it is the `/` behind a part
abbrev Divides : Progress → List ℕ → ℕ → Type 0
Divides s q c = IsPart q × (s ≡ Slash) × (c ≡ 47)

divides-part : (slash byte : Bool) (q : List ℕ) (c : ℕ) → (c == 47) ≡ slash → byte ≡ false → IsPart q
    → (if◌then◌else◌ slash Slash (if◌then◌else◌ byte Part Refused) ≡ Refused) ⊎ Divides (if◌then◌else◌ slash Slash (if◌then◌else◌ byte Part Refused)) q c
divides-part true byte q c e b p = inr (p, refl, eqb-true c 47 e)
divides-part false byte q c e b p = inl (refused-byte byte b)

divides : (s : Progress) (q : List ℕ) (c : ℕ) → Describes s q → is_part_byte c ≡ false → (step s c ≡ Refused) ⊎ Divides (step s c) q c
divides Start q c d h = absurd d
divides Refused q c d h = absurd d
divides Slash q c d h = inl (refused-dot (c == 46) (is_part_byte c) Dot c refl h h)
divides Dot q c d h = inl (refused-dot (c == 46) (is_part_byte c) Dots c refl h h)
divides Dots q c d h = inl (refused-byte (is_part_byte c) h)
divides Part q c d h = divides-part (c == 47) (is_part_byte c) q c refl h d

-- bytes that end a part, and further parts behind it
record Ends (q w : List ℕ) : Type 0 where
  part : List ℕ
  parts : List (List ℕ)
  whole : IsPart part
  each : AreParts parts
  spelled : q ++ w ≡ part ++ path_of parts

ends-here : (q : List ℕ) (s : Progress) → Describes s q → is_done s ≡ true → Ends q []
ends-here q Part d h = record { part = q; parts = []; whole = d; each = tt; spelled = refl }
ends-here q Start d h = absurd d
ends-here q Slash d h = absurd (true≢false (sym h))
ends-here q Dot d h = absurd (true≢false (sym h))
ends-here q Dots d h = absurd (true≢false (sym h))
ends-here q Refused d h = absurd d

ends-later : (q : List ℕ) (c : ℕ) (cs : List ℕ) → Ends (q ++ c ∷ []) cs → Ends q (c ∷ cs)
ends-later q c cs e = record { part = e.part; parts = e.parts; whole = e.whole; each = e.each; spelled = sym (append_assoc q (c ∷ []) cs) ∙ e.spelled }

ends-divided : (q : List ℕ) (c : ℕ) (cs : List ℕ) → IsPart q → c ≡ 47 → Ends [] cs → Ends q (c ∷ cs)
ends-divided q c cs p e t = record {
  part = q;
  parts = t.part ∷ t.parts;
  whole = p;
  each = (t.whole, t.each);
  spelled = ap (λ x. q ++ x ∷ cs) e ∙ ap (λ x. q ++ 47 ∷ x) t.spelled;
}

reads-end : (s : Progress) (q w : List ℕ) → Describes s q → is_done (read s w) ≡ true → Ends q w
reads-end s q [] d h = ends-here q s d h
reads-end s q (c ∷ cs) d h = elim (cases_Bool (is_part_byte c)) [
  | inl b ↦ ends-later q c cs (reads-end (step s c) (q ++ c ∷ []) cs (goes_on s q c d b) h)
  | inr b ↦ elim (divides s q c d b) [
    | inl e ↦ not-refused cs (step s c) e h
    | inr e ↦ ends-divided q c cs e.0 e.2 (reads-end Slash [] cs refl (subst (λ s. is_done (read s cs) ≡ true) e.1 h))
  ]
]

path-from : (c : ℕ) (cs : List ℕ) → c ≡ 47 → Ends [] cs → length (c ∷ cs) ≤ 256 → IsPath (c ∷ cs)
path-from c cs e t short = record {
  parts = t.part ∷ t.parts;
  some = omega arith;
  each = (t.whole, t.each);
  joined = ap (λ x. x ∷ cs) e ∙ ap (λ x. 47 ∷ x) t.spelled;
  short = short;
}

from-start : (slash : Bool) (c : ℕ) (cs : List ℕ) → (c == 47) ≡ slash → is_done (read (if◌then◌else◌ slash Slash Refused) cs) ≡ true → length (c ∷ cs) ≤ 256 → IsPath (c ∷ cs)
from-start true c cs e h short = path-from c cs (eqb-true c 47 e) (reads-end Slash [] cs refl h) short
from-start false c cs e h short = not-refused cs Refused refl h

from-read : (w : List ℕ) → is_done (read Start w) ≡ true → length w ≤ 256 → IsPath w
from-read [] h short = absurd (true≢false (sym h))
from-read (c ∷ cs) h short = from-start (c == 47) c cs refl h short

pub is_path-yes : (w : List ℕ) → is_path w ≡ true → IsPath w
unfolding is_path
is_path-yes w h = let t = and_parts (nat_le (length w) 256) (is_done (read Start w)) h in from-read w t.1 (leb-true _ _ t.0)

-- THE BYTES OF A PATH

all-pass : (p q : ℕ → Bool) → ((c : ℕ) → p c ≡ true → q c ≡ true) → (xs : List ℕ) → list_all p xs ≡ true → list_all q xs ≡ true
all-pass p q f [] h = refl
all-pass p q f (c ∷ xs) h = let t = and_parts (p c) (list_all p xs) h in and_from _ _ (f c t.0) (all-pass p q f xs t.1)

all-parts : (q : ℕ → Bool) → q 47 ≡ true → ((c : ℕ) → is_part_byte c ≡ true → q c ≡ true) → (parts : List (List ℕ)) → AreParts parts → list_all q (path_of parts) ≡ true
all-parts q slash f [] h = refl
all-parts q slash f (part ∷ parts) h =
    and_from _ _ slash (list_all-append q part (path_of parts) ∙ and_from _ _ (all-pass is_part_byte q f part (list_all-from_AllPass is_part_byte part h.0.bytes)) (all-parts q slash f parts h.1))

all-path : (q : ℕ → Bool) → q 47 ≡ true → ((c : ℕ) → is_part_byte c ≡ true → q c ≡ true) → (w : List ℕ) → IsPath w → list_all q w ≡ true
all-path q slash f w p = ap (list_all q) p.joined ∙ all-parts q slash f p.parts p.each

other-byte : (n c : ℕ) → is_part_byte n ≡ false → is_part_byte c ≡ true → not (c == n) ≡ true
other-byte n c none h = elim (cases_Bool (c == n)) [
  | inl e ↦ absurd (both_ways (is_part_byte n) none (subst (λ x. is_part_byte x ≡ true) (eqb-true c n e) h))
  | inr e ↦ ap not e
]

-- no byte of a path is a space or a newline
pub path-bytes : (w : List ℕ) → IsPath w → list_all (λ c. not (c == 32) && not (c == 10)) w ≡ true
path-bytes w p = all-path (λ c. not (c == 32) && not (c == 10)) refl (λ c h. and_from _ _ (other-byte 32 c refl h) (other-byte 10 c refl h)) w p

low-byte : (c : ℕ) → is_part_byte c ≡ true → nat_le c 122 ≡ true
low-byte c h = grind (arith, nat_tests)

-- THE GREATEST PATH THAT BEGINS WITH A WORD

read-append : (s : Progress) (v w : List ℕ) → read s (v ++ w) ≡ read (read s v) w
read-append s [] w = refl
read-append s (c ∷ v) w = read-append (step s c) v w

fill-part : (k : ℕ) → read Part (replicate k 122) ≡ Part
fill-part zero = refl
fill-part (suc k) = fill-part k

fill-some : (s : Progress) (k : ℕ) → is_done (read s (replicate (suc k) 122)) ≡ may_go_on s
fill-some Start k = ap is_done (stays-refused (replicate k 122))
fill-some Refused k = ap is_done (stays-refused (replicate k 122))
fill-some Slash k = ap is_done (fill-part k)
fill-some Dot k = ap is_done (fill-part k)
fill-some Dots k = ap is_done (fill-part k)
fill-some Part k = ap is_done (fill-part k)

-- something was read
abbrev has_begun : Progress → Bool
has_begun Start = false
has_begun _ = true

begun-one : (a : Bool) (s : Progress) → has_begun s ≡ true → has_begun (if◌then◌else◌ a s Refused) ≡ true
begun-one true s h = h
begun-one false s h = refl

begun-two : (a b : Bool) (s : Progress) → has_begun s ≡ true → has_begun (if◌then◌else◌ a s (if◌then◌else◌ b Part Refused)) ≡ true
begun-two true b s h = h
begun-two false b s h = begun-one b Part refl

begun-step : (s : Progress) (c : ℕ) → has_begun (step s c) ≡ true
begun-step Start c = begun-one (c == 47) Slash refl
begun-step Slash c = begun-two (c == 46) (is_part_byte c) Dot refl
begun-step Dot c = begun-two (c == 46) (is_part_byte c) Dots refl
begun-step Dots c = begun-one (is_part_byte c) Part refl
begun-step Part c = begun-two (c == 47) (is_part_byte c) Slash refl
begun-step Refused c = refl

begun-read : (s : Progress) (w : List ℕ) → has_begun s ≡ true → has_begun (read s w) ≡ true
begun-read s [] h = h
begun-read s (c ∷ w) h = begun-read (step s c) w (begun-step s c)

begun-stem : (w : List ℕ) → has_begun (read Start (stem w)) ≡ true
begun-stem [] = refl
begun-stem (c ∷ cs) = begun-read (step Start c) cs (begun-step Start c)

may-go-on : (s : Progress) (rest : List ℕ) → has_begun s ≡ true → is_done (read s rest) ≡ true → may_go_on s ≡ true
may-go-on Start rest b d = b
may-go-on Slash rest b d = refl
may-go-on Dot rest b d = refl
may-go-on Dots rest b d = refl
may-go-on Part rest b d = refl
may-go-on Refused rest b d = sym (ap is_done (stays-refused rest)) ∙ d

fill : (s : Progress) (rest : List ℕ) (k : ℕ) → has_begun s ≡ true → is_done (read s rest) ≡ true → length rest ≤ k → is_done (read s (replicate k 122)) ≡ true
fill s [] zero b d l = d
fill s (c ∷ rest) zero b d l = absurd (omega arith)
fill s rest (suc k) b d l = fill-some s k ∙ may-go-on s rest b d

-- a path from its first `/` on
slash-first : (parts : List (List ℕ)) → 0 < length parts → (rest : List ℕ) × (path_of parts ≡ 47 ∷ rest)
slash-first [] h = absurd (omega arith)
slash-first (part ∷ parts) h = (part ++ path_of parts, refl)

stem-first : (w others : List ℕ) → IsPath (w ++ others) → (rest : List ℕ) × (w ++ others ≡ stem w ++ rest)
stem-first [] others p = let t = slash-first p.parts p.some in (t.0, p.joined ∙ t.1)
stem-first (c ∷ cs) others p = (others, refl)

length-fill : (v : List ℕ) → length v ≤ 256 → length (v ++ replicate (256 - length v) 122) ≡ 256
length-fill v h = omega (arith, length-append v (replicate (256 - length v) 122), length-replicate {A = ℕ} (256 - length v) 122)

fill-done : (v rest : List ℕ) → has_begun (read Start v) ≡ true → is_done (read Start (v ++ rest)) ≡ true → length (v ++ rest) ≤ 256
    → is_done (read Start (v ++ replicate (256 - length v) 122)) ≡ true
fill-done v rest b d l =
    let m : length rest ≤ 256 - length v = omega (arith, length-append v rest) in
    ap is_done (read-append Start v (replicate (256 - length v) 122))
    ∙ fill (read Start v) rest (256 - length v) b (sym (ap is_done (read-append Start v rest)) ∙ d) m

is_path-filled : (w rest : List ℕ) → IsPath (stem w ++ rest) → is_path (filled w) ≡ true
unfolding is_path filled
is_path-filled w rest p =
    let m : length (stem w) ≤ 256 = omega (arith, length-append (stem w) rest, p.short) in
    and_from _ _ (le-leb _ _ (omega (arith, length-fill (stem w) m))) (fill-done (stem w) rest (begun-stem w) (ap is_done (reads-path (stem w ++ rest) p)) p.short)

filled-front : (w : List ℕ) → (others : List ℕ) × (filled w ≡ w ++ others)
unfolding filled
filled-front [] = (filled [], refl)
filled-front (c ∷ cs) = (replicate (256 - length (c ∷ cs)) 122, refl)

-- THE ORDER

cmp-less : (x y : ℕ) → x < y → nat_cmp x y ≡ Less
cmp-less x y h = sym (nat_cmp_is x y Less h)

cmp-equal : (x y : ℕ) → x ≡ y → nat_cmp x y ≡ Equal
cmp-equal x y h = sym (nat_cmp_is x y Equal h)

cmp-greater : (x y : ℕ) → y < x → nat_cmp x y ≡ Greater
cmp-greater x y h = sym (nat_cmp_is x y Greater h)

then-by : (o r : Ordering) (s : Ordering) → o ≡ r → ordering_then o s ≡ ordering_then r s
then-by o r s e = ap (λ o. ordering_then o s) e

abbrev is_low : ℕ → Bool
is_low c = nat_le c 122

-- one byte, and what stands behind it, filled up
fill-byte : (x y : ℕ) (o p : Ordering) → y ≤ 122 → (o ≡ Less → p ≡ Less) → ordering_then (nat_cmp x y) o ≡ Less → ordering_then (nat_cmp x 122) p ≡ Less
fill-byte x y o p low f h = elim (cases_order x y) [
  | inr (inl l) ↦ then-by (nat_cmp x 122) Less p (cmp-less x 122 (omega arith))
  | inr (inr g) ↦ absurd (let e : Greater ≡ Less = sym (then-by (nat_cmp x y) Greater o (cmp-greater x y g)) ∙ h in cc)
  | inl e ↦ elim (cases_order x 122) [
    | inl z ↦ then-by (nat_cmp x 122) Equal p (cmp-equal x 122 z) ∙ f (sym (then-by (nat_cmp x y) Equal o (cmp-equal x y e)) ∙ h)
    | inr (inl l) ↦ then-by (nat_cmp x 122) Less p (cmp-less x 122 l)
    | inr (inr g) ↦ absurd (omega arith)
  ]
]

fill-above : (last rest : List ℕ) (k : ℕ) → list_all is_low rest ≡ true → length rest ≤ k → slice_cmp nat_cmp last rest ≡ Less → slice_cmp nat_cmp last (replicate k 122) ≡ Less
fill-above [] [] k low l h = absurd cc
fill-above (x ∷ last) [] k low l h = absurd cc
fill-above last (y ∷ rest) zero low l h = absurd (omega arith)
fill-above [] (y ∷ rest) (suc k) low l h = refl
fill-above (x ∷ last) (y ∷ rest) (suc k) low l h =
    let t = and_parts (is_low y) (list_all is_low rest) low in
    let m : length rest ≤ k = omega arith in
    fill-byte x y (slice_cmp nat_cmp last rest) (slice_cmp nat_cmp last (replicate k 122)) (leb-true y 122 t.0) (fill-above last rest k t.1 m) h

front-above : (last v rest : List ℕ) (k : ℕ) → list_all is_low rest ≡ true → length rest ≤ k → slice_cmp nat_cmp last (v ++ rest) ≡ Less → slice_cmp nat_cmp last (v ++ replicate k 122) ≡ Less
front-above last [] rest k low l h = fill-above last rest k low l h
front-above [] (c ∷ v) rest k low l h = refl
front-above (x ∷ last) (c ∷ v) rest k low l h =
    elim (nat_cmp x c) as (λ o. ordering_then o (slice_cmp nat_cmp last (v ++ rest)) ≡ Less → ordering_then o (slice_cmp nat_cmp last (v ++ replicate k 122)) ≡ Less) [
      | Less ↦ λ g. refl
      | Equal ↦ λ g. front-above last v rest k low l g
      | Greater ↦ λ g. g
    ] h

filled-above : (last w rest : List ℕ) → IsPath (stem w ++ rest) → slice_cmp nat_cmp last (stem w ++ rest) ≡ Less → slice_cmp nat_cmp last (filled w) ≡ Less
unfolding filled
filled-above last w rest p h =
    let m : length rest ≤ 256 - length (stem w) = omega (arith, length-append (stem w) rest, p.short) in
    let low = and_parts _ _ (sym (list_all-append is_low (stem w) rest) ∙ all-path is_low refl low-byte (stem w ++ rest) p) in
    front-above last (stem w) rest (256 - length (stem w)) low.1 m h

less-from : (o : Ordering) → is_lt o ≡ true → o ≡ Less
less-from Less h = refl
less-from Equal h = absurd (true≢false (sym h))
less-from Greater h = absurd (true≢false (sym h))

pub begins_path-yes : (last w : List ℕ) → begins_path last w ≡ true → (p : List ℕ) × IsPath p × (slice_cmp nat_cmp last p ≡ Less) × (others : List ℕ) × (p ≡ w ++ others)
unfolding begins_path
begins_path-yes last w h =
    let t = and_parts (is_path (filled w)) (is_above last (filled w)) h in
    let f = filled-front w in
    (filled w, is_path-yes (filled w) t.0, less-from _ t.1, f.0, f.1)

begins_path-complete : (last w rest : List ℕ) → IsPath (stem w ++ rest) → slice_cmp nat_cmp last (stem w ++ rest) ≡ Less → begins_path last w ≡ true
unfolding begins_path
begins_path-complete last w rest p h = and_from _ _ (is_path-filled w rest p) (ap is_lt (filled-above last w rest p h))

pub begins_path-no : (last w : List ℕ) → begins_path last w ≡ false → (p others : List ℕ) → IsPath p → slice_cmp nat_cmp last p ≡ Less → p ≡ w ++ others → ⊥
begins_path-no last w none p others path above e =
    let t = stem-first w others (subst IsPath e path) in
    let s : p ≡ stem w ++ t.0 = e ∙ t.1 in
    both_ways (begins_path last w) none (begins_path-complete last w t.0 (subst IsPath s path) (subst (λ p. slice_cmp nat_cmp last p ≡ Less) s above))

-- HOW THE CODE FINDS IT, WITHOUT THE FILLED WORD

read-fill : (v : List ℕ) (k : ℕ) → is_done (read Start (v ++ replicate k 122)) ≡ is_done (read (read Start v) (replicate k 122))
read-fill v k = ap is_done (read-append Start v (replicate k 122))

fill-room : (v : List ℕ) (k : ℕ) → 0 < k → is_done (read Start (v ++ replicate k 122)) ≡ may_go_on (read Start v)
fill-room v zero h = absurd (omega arith)
fill-room v (suc k) h = read-fill v (suc k) ∙ fill-some (read Start v) k

fill-none : (v : List ℕ) (k : ℕ) → k ≡ 0 → is_done (read Start (v ++ replicate k 122)) ≡ is_done (read Start v)
fill-none v zero h = read-fill v 0
fill-none v (suc k) h = absurd (omega arith)

pub filled-short : (w : List ℕ) → length (stem w) < 256 → is_path (filled w) ≡ may_go_on (read Start (stem w))
unfolding is_path filled
filled-short w h =
    let m : length (stem w) ≤ 256 = omega arith in
    let room : 0 < 256 - length (stem w) = omega arith in
    ap (λ b. b && is_done (read Start (stem w ++ replicate (256 - length (stem w)) 122))) (le-leb _ 256 (omega (arith, length-fill (stem w) m)))
    ∙ fill-room (stem w) (256 - length (stem w)) room

pub filled-full : (w : List ℕ) → length (stem w) ≡ 256 → is_path (filled w) ≡ is_done (read Start (stem w))
unfolding is_path filled
filled-full w h =
    let m : length (stem w) ≤ 256 = omega arith in
    let room : 256 - length (stem w) ≡ 0 = omega arith in
    ap (λ b. b && is_done (read Start (stem w ++ replicate (256 - length (stem w)) 122))) (le-leb _ 256 (omega (arith, length-fill (stem w) m)))
    ∙ fill-none (stem w) (256 - length (stem w)) room

pub filled-long : (w : List ℕ) → 256 < length (stem w) → is_path (filled w) ≡ false
unfolding is_path filled
filled-long w h =
    let over : 256 < length (stem w ++ replicate (256 - length (stem w)) 122) = omega (arith, length-append (stem w) (replicate (256 - length (stem w)) 122)) in
    and_left _ _ (lt-leb _ 256 over)

pub filling-none : (last : List ℕ) → is_above last (replicate 0 122) ≡ false
filling-none [] = refl
filling-none (x ∷ last) = refl

pub filling-over : (room : ℕ) → is_above [] (replicate room 122) ≡ nat_lt 0 room
filling-over zero = refl
filling-over (suc k) = sym (lt-ltb 0 (suc k) (omega arith))

less-or-not : (x : ℕ) (o : Ordering) → (x ≡ 122 → ⊥) → is_lt (ordering_then (nat_cmp x 122) o) ≡ nat_lt x 122
less-or-not x o h = elim (cases_order x 122) [
  | inl e ↦ absurd (h e)
  | inr (inl l) ↦ ap is_lt (then-by (nat_cmp x 122) Less o (cmp-less x 122 l)) ∙ sym (lt-ltb x 122 l)
  | inr (inr g) ↦ ap is_lt (then-by (nat_cmp x 122) Greater o (cmp-greater x 122 g)) ∙ sym (le-ltb x 122 (omega arith))
]

pub filling-other : (x : ℕ) (last : List ℕ) (room : ℕ) → 0 < room → (x ≡ 122 → ⊥) → is_above (x ∷ last) (replicate room 122) ≡ nat_lt x 122
filling-other x last zero r h = absurd (omega arith)
filling-other x last (suc room) r h = less-or-not x (slice_cmp nat_cmp last (replicate room 122)) h

pub filling-same : (x : ℕ) (last : List ℕ) (room : ℕ) → 0 < room → x ≡ 122 → is_above (x ∷ last) (replicate room 122) ≡ is_above last (replicate (room - 1) 122)
filling-same x last zero r h = absurd (omega arith)
filling-same x last (suc room) r h =
    let e : room ≡ suc room - 1 = omega arith in
    ap is_lt (then-by (nat_cmp x 122) Equal (slice_cmp nat_cmp last (replicate room 122)) (cmp-equal x 122 h)) ∙ ap (λ k. is_above last (replicate k 122)) e

pub front-stripped : (last v zs : List ℕ) → pointwise nat_eq (take (length v) last) v ≡ true → is_above last (v ++ zs) ≡ is_above (drop (length v) last) zs
front-stripped last [] zs h = refl
front-stripped [] (c ∷ v) zs h = absurd (true≢false (sym h))
front-stripped (x ∷ last) (c ∷ v) zs h =
    let t = and_parts (nat_eq x c) (pointwise nat_eq (take (length v) last) v) h in
    ap is_lt (then-by (nat_cmp x c) Equal (slice_cmp nat_cmp last (v ++ zs)) (cmp-equal x c (eqb-true x c t.0))) ∙ front-stripped last v zs t.1

pub front-kept : (last v zs : List ℕ) → pointwise nat_eq (take (length v) last) v ≡ false → is_above last (v ++ zs) ≡ is_above last v
front-kept last [] zs h = absurd (true≢false h)
front-kept [] (c ∷ v) zs h = refl
front-kept (x ∷ last) (c ∷ v) zs h = elim (cases_order x c) [
  | inl e ↦
      let f : pointwise nat_eq (take (length v) last) v ≡ false = sym (ap (λ b. b && pointwise nat_eq (take (length v) last) v) (eq-eqb x c e)) ∙ h in
      ap is_lt (then-by (nat_cmp x c) Equal (slice_cmp nat_cmp last (v ++ zs)) (cmp-equal x c e))
      ∙ front-kept last v zs f
      ∙ sym (ap is_lt (then-by (nat_cmp x c) Equal (slice_cmp nat_cmp last v) (cmp-equal x c e)))
  | inr (inl l) ↦
      ap is_lt (then-by (nat_cmp x c) Less (slice_cmp nat_cmp last (v ++ zs)) (cmp-less x c l))
      ∙ sym (ap is_lt (then-by (nat_cmp x c) Less (slice_cmp nat_cmp last v) (cmp-less x c l)))
  | inr (inr g) ↦
      ap is_lt (then-by (nat_cmp x c) Greater (slice_cmp nat_cmp last (v ++ zs)) (cmp-greater x c g))
      ∙ sym (ap is_lt (then-by (nat_cmp x c) Greater (slice_cmp nat_cmp last v) (cmp-greater x c g)))
]

-- the code's steps

pub path-short : (w v : List ℕ) (s : Progress) (r : Bool) → v ≡ stem w → s ≡ read Start v → r ≡ may_go_on s → length v < 256 → r ≡ is_path (filled w)
path-short w v s r e f g h = g ∙ ap may_go_on (f ∙ ap (read Start) e) ∙ sym (filled-short w (subst (λ v. length v < 256) e h))

pub path-full : (w v : List ℕ) (s : Progress) (r : Bool) → v ≡ stem w → s ≡ read Start v → r ≡ is_done s → length v ≡ 256 → r ≡ is_path (filled w)
path-full w v s r e f g h = g ∙ ap is_done (f ∙ ap (read Start) e) ∙ sym (filled-full w (subst (λ v. length v ≡ 256) e h))

pub path-long : (w v : List ℕ) → v ≡ stem w → 256 ≤ length v → (length v ≡ 256 → ⊥) → nat_eq (length v) 256 ≡ is_path (filled w)
path-long w v e l h =
    let over : 256 < length v = omega arith in
    ne_eqb _ _ h ∙ sym (filled-long w (subst (λ v. 256 < length v) e over))

pub at-none : (xs : List ℕ) (i room : ℕ) → room ≡ 0 → false ≡ is_above (drop i xs) (replicate room 122)
at-none xs i room h = sym (ap (λ k. is_above (drop i xs) (replicate k 122)) h ∙ filling-none (drop i xs))

pub at-other : (xs : List ℕ) (i room : ℕ) → i < length xs → (room ≡ 0 → ⊥) → (get_or xs i 0 ≡ 122 → ⊥) → nat_lt (get_or xs i 0) 122 ≡ is_above (drop i xs) (replicate room 122)
at-other xs i room l r h =
    let some : 0 < room = omega arith in
    sym (ap (λ ys. is_above ys (replicate room 122)) (drop-cons xs i 0 l) ∙ filling-other (get_or xs i 0) (drop (suc i) xs) room some h)

pub at-same : (xs : List ℕ) (i room : ℕ) → i < length xs → (room ≡ 0 → ⊥) → get_or xs i 0 ≡ 122 → is_above (drop (i + 1) xs) (replicate (room - 1) 122) ≡ is_above (drop i xs) (replicate room 122)
at-same xs i room l r h =
    let some : 0 < room = omega arith in
    rw add-one (sym (ap (λ ys. is_above ys (replicate room 122)) (drop-cons xs i 0 l) ∙ filling-same (get_or xs i 0) (drop (suc i) xs) room some h))

above-filled : (last w v : List ℕ) → v ≡ stem w → is_above last (filled w) ≡ is_above last (v ++ replicate (256 - length v) 122)
unfolding filled
above-filled last w v e = ap (λ v. is_above last (v ++ replicate (256 - length v) 122)) (sym e)

pub above-stripped : (last w v rest : List ℕ) (k : ℕ) (r : Bool) → v ≡ stem w → pointwise nat_eq (take (length v) last) v ≡ true → rest ≡ drop (length v) last → k ≡ 256 - length v
    → r ≡ is_above rest (replicate k 122) → r ≡ is_above last (filled w)
above-stripped last w v rest k r e h f g i =
    i ∙ ap (λ xs. is_above xs (replicate k 122)) f ∙ ap (λ k. is_above (drop (length v) last) (replicate k 122)) g
    ∙ sym (front-stripped last v (replicate (256 - length v) 122) h) ∙ sym (above-filled last w v e)

pub above-kept : (last w v : List ℕ) (r : Bool) → v ≡ stem w → pointwise nat_eq (take (length v) last) v ≡ false → r ≡ is_above last v → r ≡ is_above last (filled w)
above-kept last w v r e h i = i ∙ sym (front-kept last v (replicate (256 - length v) 122) h) ∙ sym (above-filled last w v e)

pub is_above-yes : (last path : List ℕ) → is_above last path ≡ true → slice_cmp nat_cmp last path ≡ Less
is_above-yes last path h = less-from _ h

pub is_above-no : (last path : List ℕ) → is_above last path ≡ false → slice_cmp nat_cmp last path ≡ Less → ⊥
is_above-no last path h e = both_ways (is_above last path) h (ap is_lt e)

-- THE END OF A TEXT

pub ends_in_c-yes : (w : List ℕ) → ends_in_c w ≡ true → EndsInC w
ends_in_c-yes w h = let t = ends_is Decides-eqb w (codes ".c") (ends_in_c w) refl in (take (length w - 2) w, t.0 h)

pub ends_in_c-no : (w : List ℕ) → ends_in_c w ≡ false → EndsInC w → ⊥
ends_in_c-no w h e = let t = ends_is Decides-eqb w (codes ".c") (ends_in_c w) refl in both_ways (ends_in_c w) h (t.1 e.0 e.1)

not-ends : (w : List ℕ) → (EndsInC w → ⊥) → ends_in_c w ≡ false
not-ends w h = false_from_ne_true (ends_in_c w) (λ e. h (ends_in_c-yes w e))

-- the last byte, or this one
abbrev last_or : ℕ → List ℕ → ℕ
last_or d [] = d
last_or d (x ∷ xs) = last_or x xs

last-push : (d : ℕ) (xs : List ℕ) (a : ℕ) → last_or d (xs ++ a ∷ []) ≡ a
last-push d [] a = refl
last-push d (x ∷ xs) a = last-push x xs a

last-c : (d : ℕ) (xs : List ℕ) → last_or d (xs ++ codes ".c") ≡ 99
last-c d [] = refl
last-c d (x ∷ xs) = last-c x xs

last-filling : (d k : ℕ) → last_or d (replicate (suc k) 122) ≡ 122
last-filling d zero = refl
last-filling d (suc k) = last-filling 122 k

last-filled : (d : ℕ) (v : List ℕ) (k : ℕ) → last_or d (v ++ replicate (suc k) 122) ≡ 122
last-filled d [] k = last-filling d k
last-filled d (x ∷ v) k = last-filled x v k

two-bytes : (x : ℕ) → x ≡ 122 → x ≡ 99 → ⊥
two-bytes x e f = omega arith

filling-ends : (v : List ℕ) (k : ℕ) → EndsInC (v ++ replicate (suc k) 122) → ⊥
filling-ends v k e = two-bytes (last_or 0 (v ++ replicate (suc k) 122)) (last-filled 0 v k) (ap (last_or 0) e.1 ∙ last-c 0 e.0)

-- a word with room ends with the greatest byte of a part, and one without is as it was
end-room : (v : List ℕ) (k : ℕ) → 0 < k → EndsInC (v ++ replicate k 122) → ⊥
end-room v zero h = absurd (omega arith)
end-room v (suc k) h = filling-ends v k

no-room : (v : List ℕ) (k : ℕ) → k ≡ 0 → v ++ replicate k 122 ≡ v
no-room v zero h = append-nil v
no-room v (suc k) h = absurd (omega arith)

filled-ends : (w : List ℕ) → length (stem w) < 256 → EndsInC (filled w) → ⊥
unfolding filled
filled-ends w h = let room : 0 < 256 - length (stem w) = omega arith in end-room (stem w) (256 - length (stem w)) room

filled-same : (w : List ℕ) → 256 ≤ length (stem w) → filled w ≡ stem w
unfolding filled
filled-same w h = let room : 256 - length (stem w) ≡ 0 = omega arith in no-room (stem w) (256 - length (stem w)) room

-- OBJECT PATHS

abbrev IsObjectPath : List ℕ → Type 0
IsObjectPath w = IsPath w × (EndsInC w → ⊥)

object_path-yes : (w : List ℕ) → is_object_path w ≡ true → IsObjectPath w
object_path-yes w h =
    let t = and_parts (is_path w) (not (ends_in_c w)) h in
    (is_path-yes w t.0, ends_in_c-no w (not-true (ends_in_c w) t.1))

object_path-complete : (w : List ℕ) → IsObjectPath w → is_object_path w ≡ true
object_path-complete w p = and_from _ _ (is_path-complete w p.0) (ap not (not-ends w p.1))

-- where there is no room for more, the path is the word
whole-stem : (v rest : List ℕ) → 256 ≤ length v → length (v ++ rest) ≤ 256 → v ++ rest ≡ v
whole-stem v [] h l = append-nil v
whole-stem v (c ∷ rest) h l = absurd (omega (arith, length-append v (c ∷ rest)))

filled-object : (w rest : List ℕ) → IsObjectPath (stem w ++ rest) → EndsInC (filled w) → ⊥
filled-object w rest p = elim (cases_lt (length (stem w)) 256) [
  | inl l ↦ filled-ends w l
  | inr g ↦ λ e. p.1 (subst EndsInC (filled-same w g ∙ sym (whole-stem (stem w) rest g p.0.short)) e)
]

filled-complete : (w others : List ℕ) → IsObjectPath (w ++ others) → is_object_path (filled w) ≡ true
filled-complete w others p =
    let t = stem-first w others p.0 in
    let q : IsObjectPath (stem w ++ t.0) = subst IsObjectPath t.1 p in
    and_from _ _ (is_path-filled w t.0 q.0) (ap not (not-ends (filled w) (filled-object w t.0 q)))

-- THE HASH

abbrev no_hash : ℕ → Bool
no_hash c = not (c == 35)

path-no_hash : (w : List ℕ) → IsPath w → list_all no_hash w ≡ true
path-no_hash w p = all-path no_hash refl (λ c h. other-byte 35 c refl h) w p

-- nothing, or what begins with a `#`
abbrev IsTail : List ℕ → Type 0
IsTail [] = Unit {0}
IsTail (c ∷ cs) = c ≡ 35

joins-by : (b : Bool) (c : ℕ) (cs xs ys : List ℕ) → xs ++ ys ≡ cs → if◌then◌else◌ b [] (c ∷ xs) ++ if◌then◌else◌ b (c ∷ cs) ys ≡ c ∷ cs
joins-by true c cs xs ys h = refl
joins-by false c cs xs ys h = ap (λ zs. c ∷ zs) h

hash-joins : (w : List ℕ) → before_hash w ++ from_hash w ≡ w
hash-joins [] = refl
hash-joins (c ∷ cs) = joins-by (c == 35) c cs (before_hash cs) (from_hash cs) (hash-joins cs)

tail-by : (b : Bool) (c : ℕ) (cs ys : List ℕ) → (c == 35) ≡ b → IsTail ys → IsTail (if◌then◌else◌ b (c ∷ cs) ys)
tail-by true c cs ys e h = eqb-true c 35 e
tail-by false c cs ys e h = h

hash-tail : (w : List ℕ) → IsTail (from_hash w)
hash-tail [] = tt
hash-tail (c ∷ cs) = tail-by (c == 35) c cs (from_hash cs) refl (hash-tail cs)

front-by : (b : Bool) (c : ℕ) (xs : List ℕ) → (c == 35) ≡ b → list_all no_hash xs ≡ true → list_all no_hash (if◌then◌else◌ b [] (c ∷ xs)) ≡ true
front-by true c xs e h = refl
front-by false c xs e h = and_from _ _ (ap not e) h

hash-front : (w : List ℕ) → list_all no_hash (before_hash w) ≡ true
hash-front [] = refl
hash-front (c ∷ cs) = front-by (c == 35) c (before_hash cs) refl (hash-front cs)

hash-byte : (c : ℕ) → no_hash c ≡ true → c ≡ 35 → ⊥
hash-byte c h e = eqb-false c 35 (not-true (c == 35) h) e

-- two words with a tail each are equal where both fronts and both tails are
same-front : (p q a b : List ℕ) → list_all no_hash p ≡ true → list_all no_hash q ≡ true → IsTail a → IsTail b → p ++ a ≡ q ++ b → (p ≡ q) × (a ≡ b)
same-front [] [] a b f g s t e = (refl, e)
same-front [] (y ∷ q) [] b f g s t e = absurd cc
same-front [] (y ∷ q) (x ∷ a) b f g s t e = absurd (hash-byte y (and_parts (no_hash y) (list_all no_hash q) g).0 (let d : x ≡ y = cc in sym d ∙ s))
same-front (x ∷ p) [] a [] f g s t e = absurd cc
same-front (x ∷ p) [] a (y ∷ b) f g s t e = absurd (hash-byte x (and_parts (no_hash x) (list_all no_hash p) f).0 (let d : x ≡ y = cc in d ∙ t))
same-front (x ∷ p) (y ∷ q) a b f g s t e =
    let d : x ≡ y = cc in
    let u : p ++ a ≡ q ++ b = cc in
    let r = same-front p q a b (and_parts (no_hash x) (list_all no_hash p) f).1 (and_parts (no_hash y) (list_all no_hash q) g).1 s t u in
    (ap (λ z. z ∷ p) d ∙ ap (λ zs. y ∷ zs) r.0, r.1)

-- a word without `#` that begins a path and a tail begins the path
front-within : (w path a others : List ℕ) → list_all no_hash w ≡ true → IsTail a → path ++ a ≡ w ++ others → (rest : List ℕ) × (path ≡ w ++ rest)
front-within [] path a others f s e = (path, refl)
front-within (c ∷ w) [] [] others f s e = absurd cc
front-within (c ∷ w) [] (x ∷ a) others f s e = absurd (hash-byte c (and_parts (no_hash c) (list_all no_hash w) f).0 (let d : x ≡ c = cc in sym d ∙ s))
front-within (c ∷ w) (x ∷ path) a others f s e =
    let d : x ≡ c = cc in
    let u : path ++ a ≡ w ++ others = cc in
    let r = front-within w path a others (and_parts (no_hash c) (list_all no_hash w) f).1 s u in
    (r.0, ap (λ z. z ∷ path) d ∙ ap (λ zs. c ∷ zs) r.1)

-- NAMES

-- what stands behind the path of a name
abbrev IsClone : List ℕ → Type 0
IsClone [] = Unit {0}
IsClone (c ∷ cs) = (c ≡ 35) × (is_numeral cs ≡ true)

record Named (name path tail : List ℕ) : Type 0 where
  object : IsObjectPath path
  clone : IsClone tail
  joined : name ≡ path ++ tail

clone-tail : (a : List ℕ) → IsClone a → IsTail a
clone-tail [] h = tt
clone-tail (c ∷ cs) h = h.0

clone-passes : (a : List ℕ) → IsClone a → is_clone a ≡ true
clone-passes [] h = refl
clone-passes (c ∷ cs) h = h.1

clone-from : (a : List ℕ) → IsTail a → is_clone a ≡ true → IsClone a
clone-from [] t h = tt
clone-from (c ∷ cs) t h = (t, h)

hash-joined : (path xs : List ℕ) → path ++ codes "#" ++ xs ≡ path ++ 35 ∷ xs
hash-joined path xs = append_assoc path (35 ∷ []) xs

abbrev Splits : List ℕ → Type 0
Splits name = (path : List ℕ) × (tail : List ℕ) × Named name path tail

name-splits : (name : List ℕ) → IsObjectName name → Splits name
name-splits name o = elim o.spelled [
  | inl e ↦ (o.path, [], record { object = (o.is_path, o.no_source); clone = tt; joined = e ∙ sym (append-nil o.path) })
  | inr s ↦ (o.path, 35 ∷ numeral s.0, record { object = (o.is_path, o.no_source); clone = (refl, numeral-passes s.0); joined = s.1 ∙ hash-joined o.path (numeral s.0) })
]

name-from : (name path tail : List ℕ) → Named name path tail → IsObjectName name
name-from name path [] n = record { path = path; is_path = n.object.0; no_source = n.object.1; spelled = inl (n.joined ∙ append-nil path) }
name-from name path (c ∷ cs) n =
    let s = numeral-spelled cs n.clone.1 in
    record { path = path; is_path = n.object.0; no_source = n.object.1; spelled = inr (s.0, n.joined ∙ ap (λ x. path ++ x ∷ cs) n.clone.0 ∙ ap (λ xs. path ++ 35 ∷ xs) s.1 ∙ sym (hash-joined path (numeral s.0))) }

pub is_name-yes : (w : List ℕ) → is_name w ≡ true → IsObjectName w
unfolding is_name
is_name-yes w h =
    let t = and_parts (is_object_path (before_hash w)) (is_clone (from_hash w)) h in
    name-from w (before_hash w) (from_hash w) (record { object = object_path-yes (before_hash w) t.0; clone = clone-from (from_hash w) (hash-tail w) t.1; joined = sym (hash-joins w) })

named-complete : (w path tail : List ℕ) → Named w path tail → is_name w ≡ true
unfolding is_name
named-complete w path tail n =
    let s = same-front (before_hash w) path (from_hash w) tail (hash-front w) (path-no_hash path n.object.0) (hash-tail w) (clone-tail tail n.clone) (hash-joins w ∙ n.joined) in
    and_from _ _ (ap is_object_path s.0 ∙ object_path-complete path n.object) (ap is_clone s.1 ∙ clone-passes tail n.clone)

is_name-complete : (w : List ℕ) → IsObjectName w → is_name w ≡ true
is_name-complete w o = let s = name-splits w o in named-complete w s.0 s.1 s.2

pub is_name-no : (w : List ℕ) → is_name w ≡ false → IsObjectName w → ⊥
is_name-no w h o = both_ways (is_name w) h (is_name-complete w o)

-- BEGUN NAMES

abbrev Begun : List ℕ → Type 0
Begun w = (name : List ℕ) × IsObjectName name × (others : List ℕ) × (name ≡ w ++ others)

begun-path : (w path : List ℕ) → path ++ [] ≡ w → is_object_path (filled path) ≡ true → Begun w
begun-path w path e h =
    let f = filled-front path in
    let j : filled path ≡ w ++ f.0 = f.1 ∙ ap (λ p. p ++ f.0) (sym (append-nil path) ∙ e) in
    (filled path, name-from (filled path) (filled path) [] (record { object = object_path-yes (filled path) h; clone = tt; joined = sym (append-nil (filled path)) }), f.0, j)

begun-hash : (w path : List ℕ) (c : ℕ) (cs : List ℕ) → c ≡ 35 → path ++ c ∷ cs ≡ w → is_object_path path ≡ true → is_nil cs ≡ true → Begun w
begun-hash w path c (x ∷ cs) t e h n = absurd (true≢false (sym n))
begun-hash w path c [] t e h n =
    let j : path ++ c ∷ numeral 0 ≡ w ++ numeral 0 = sym (append_assoc path (c ∷ []) (numeral 0)) ∙ ap (λ v. v ++ numeral 0) e in
    (path ++ c ∷ numeral 0, name-from (path ++ c ∷ numeral 0) path (c ∷ numeral 0) (record { object = object_path-yes path h; clone = (t, numeral-passes 0); joined = refl }), numeral 0, j)

begun-clone : (w path : List ℕ) (c : ℕ) (cs : List ℕ) → c ≡ 35 → path ++ c ∷ cs ≡ w → is_object_path path ≡ true → is_numeral cs ≡ true → Begun w
begun-clone w path c cs t e h n = (w, name-from w path (c ∷ cs) (record { object = object_path-yes path h; clone = (t, n); joined = sym e }), [], sym (append-nil w))

begun-parts : (w path tail : List ℕ) → IsTail tail → path ++ tail ≡ w → begins_with_parts path tail ≡ true → Begun w
begun-parts w path [] t e h = begun-path w path e h
begun-parts w path (c ∷ cs) t e h =
    let s = and_parts (is_object_path path) (is_nil cs || is_numeral cs) h in
    elim (or_cases (is_nil cs) (is_numeral cs) s.1) [
      | inl n ↦ begun-hash w path c cs t e s.0 n
      | inr n ↦ begun-clone w path c cs t e s.0 n
    ]

pub begins_name-yes : (w : List ℕ) → begins_name w ≡ true → (name : List ℕ) × IsObjectName name × (others : List ℕ) × (name ≡ w ++ others)
unfolding begins_name
begins_name-yes w h = begun-parts w (before_hash w) (from_hash w) (hash-tail w) (hash-joins w) h

number-front : (cs others : List ℕ) → is_numeral (cs ++ others) ≡ true → (is_nil cs || is_numeral cs) ≡ true
number-front [] others h = refl
number-front (c ∷ cs) others h = numeral-front c cs others h

tail-begun : (c : ℕ) (cs others tail : List ℕ) → IsClone tail → tail ≡ c ∷ (cs ++ others) → (is_nil cs || is_numeral cs) ≡ true
tail-begun c cs others [] n e = absurd cc
tail-begun c cs others (x ∷ xs) n e =
    let d : xs ≡ cs ++ others = cc in
    number-front cs others (sym (ap is_numeral d) ∙ n.1)

parts-complete : (w front back name path tail others : List ℕ) → list_all no_hash front ≡ true → IsTail back → front ++ back ≡ w → Named name path tail → name ≡ w ++ others → begins_with_parts front back ≡ true
parts-complete w front [] name path tail others f t j n e =
    let u : path ++ tail ≡ front ++ others = sym n.joined ∙ e ∙ ap (λ v. v ++ others) (sym j ∙ append-nil front) in
    let r = front-within front path tail others f (clone-tail tail n.clone) u in
    filled-complete front r.0 (subst IsObjectPath r.1 n.object)
parts-complete w front (c ∷ cs) name path tail others f t j n e =
    let u : path ++ tail ≡ front ++ c ∷ (cs ++ others) = sym n.joined ∙ e ∙ ap (λ v. v ++ others) (sym j) ∙ append_assoc front (c ∷ cs) others in
    let s = same-front path front tail (c ∷ (cs ++ others)) (path-no_hash path n.object.0) f (clone-tail tail n.clone) t u in
    and_from _ _ (sym (ap is_object_path s.0) ∙ object_path-complete path n.object) (tail-begun c cs others tail n.clone s.1)

begins_name-complete : (w name others : List ℕ) → IsObjectName name → name ≡ w ++ others → begins_name w ≡ true
unfolding begins_name
begins_name-complete w name others o e =
    let s = name-splits name o in
    parts-complete w (before_hash w) (from_hash w) name s.0 s.1 others (hash-front w) (hash-tail w) (hash-joins w) s.2 e

pub begins_name-no : (w : List ℕ) → begins_name w ≡ false → (name others : List ℕ) → IsObjectName name → name ≡ w ++ others → ⊥
begins_name-no w h name others o e = both_ways (begins_name w) h (begins_name-complete w name others o e)

other-digit : (n c : ℕ) → is_digit n ≡ false → is_digit c ≡ true → not (c == n) ≡ true
other-digit n c none h = elim (cases_Bool (c == n)) [
  | inl e ↦ absurd (both_ways (is_digit n) none (subst (λ x. is_digit x ≡ true) (eqb-true c n e) h))
  | inr e ↦ ap not e
]

digit-no_space : (c : ℕ) → is_digit c ≡ true → (not (c == 32) && not (c == 10)) ≡ true
digit-no_space c h = and_from _ _ (other-digit 32 c refl h) (other-digit 10 c refl h)

clone-bytes : (tail : List ℕ) → IsClone tail → list_all (λ c. not (c == 32) && not (c == 10)) tail ≡ true
clone-bytes [] h = refl
clone-bytes (c ∷ cs) h =
    and_from _ _ (ap (λ x. not (x == 32) && not (x == 10)) h.0) (all-pass is_digit (λ c. not (c == 32) && not (c == 10)) digit-no_space cs (numeral-digits cs h.1))

-- no byte of a name is a space or a newline
pub name-bytes : (w : List ℕ) → IsObjectName w → list_all (λ c. not (c == 32) && not (c == 10)) w ≡ true
name-bytes w o =
    let s = name-splits w o in
    ap (list_all (λ c. not (c == 32) && not (c == 10))) s.2.joined
    ∙ list_all-append (λ c. not (c == 32) && not (c == 10)) s.0 s.1
    ∙ and_from _ _ (path-bytes s.0 s.2.object.0) (clone-bytes s.1 s.2.clone)

-- how the code splits a word, and what the end of a filled word is

take-by : (b : Bool) (c : ℕ) (cs : List ℕ) (n : ℕ) (xs : List ℕ) → xs ≡ take n cs → if◌then◌else◌ b [] (c ∷ xs) ≡ take (cond (not b) (1 + n) 0) (c ∷ cs)
take-by true c cs n xs h = refl
take-by false c cs n xs h = rw one-add (ap (λ ys. c ∷ ys) h)

drop-by : (b : Bool) (c : ℕ) (cs : List ℕ) (n : ℕ) (xs : List ℕ) → xs ≡ drop n cs → if◌then◌else◌ b (c ∷ cs) xs ≡ drop (cond (not b) (1 + n) 0) (c ∷ cs)
drop-by true c cs n xs h = refl
drop-by false c cs n xs h = rw one-add h

pub hash-take : (w : List ℕ) → before_hash w ≡ take (prefix_len (λ c. not (c == 35)) w) w
hash-take [] = refl
hash-take (c ∷ cs) = take-by (c == 35) c cs (prefix_len no_hash cs) (before_hash cs) (hash-take cs)

pub hash-drop : (w : List ℕ) → from_hash w ≡ drop (prefix_len (λ c. not (c == 35)) w) w
hash-drop [] = refl
hash-drop (c ∷ cs) = drop-by (c == 35) c cs (prefix_len no_hash cs) (from_hash cs) (hash-drop cs)

pub end-short : (w v : List ℕ) → v ≡ stem w → length v < 256 → false ≡ ends_in_c (filled w)
end-short w v e h = sym (not-ends (filled w) (filled-ends w (subst (λ v. length v < 256) e h)))

pub end-full : (w v : List ℕ) (r : Bool) → v ≡ stem w → 256 ≤ length v → r ≡ ends_in_c v → r ≡ ends_in_c (filled w)
end-full w v r e h f = f ∙ ap ends_in_c e ∙ sym (ap ends_in_c (filled-same w (subst (λ v. 256 ≤ length v) e h)))

pub split-within : (w : List ℕ) (n : ℕ) → n ≡ prefix_len (λ c. not (c == 35)) w → n ≤ length w
split-within w n e = omega (arith, prefix_len-le-length (λ c. not (c == 35)) w)

split-front : (w p : List ℕ) (n : ℕ) → n ≡ prefix_len (λ c. not (c == 35)) w → p ≡ take n w → p ≡ before_hash w
split-front w p n e f = f ∙ ap (λ n. take n w) e ∙ sym (hash-take w)

split-behind : (w t : List ℕ) (n : ℕ) → n ≡ prefix_len (λ c. not (c == 35)) w → t ≡ drop n w → t ≡ from_hash w
split-behind w t n e f = f ∙ ap (λ n. drop n w) e ∙ sym (hash-drop w)

pub split-name : (w p t : List ℕ) (n : ℕ) (r : Bool) → n ≡ prefix_len (λ c. not (c == 35)) w → p ≡ take n w → t ≡ drop n w → r ≡ (is_object_path p && is_clone t) → r ≡ is_name w
unfolding is_name
split-name w p t n r e f g h = h ∙ ap (λ p. is_object_path p && is_clone t) (split-front w p n e f) ∙ ap (λ t. is_object_path (before_hash w) && is_clone t) (split-behind w t n e g)

pub split-begun : (w p t : List ℕ) (n : ℕ) (r : Bool) → n ≡ prefix_len (λ c. not (c == 35)) w → p ≡ take n w → t ≡ drop n w → r ≡ begins_with_parts p t → r ≡ begins_name w
unfolding begins_name
split-begun w p t n r e f g h = h ∙ ap (λ p. begins_with_parts p t) (split-front w p n e f) ∙ ap (begins_with_parts (before_hash w)) (split-behind w t n e g)

-- each test says true exactly where what it tests is so

pub path-exact : (w : List ℕ) → Decides (is_path w) (IsPath w)
path-exact w = (is_path-yes w, is_path-complete w)

pub front-exact : (last w : List ℕ) → Decides (begins_path last w) (BeginsPath last w)
front-exact last w = (begins_path-yes last w, λ b. true_from_ne_false (begins_path last w) (λ e. begins_path-no last w e b.0 b.3 b.1 b.2 b.4))

pub name-exact : (w : List ℕ) → Decides (is_name w) (IsObjectName w)
name-exact w = (is_name-yes w, is_name-complete w)

pub name_front-exact : (w : List ℕ) → Decides (begins_name w) (BeginsName w)
name_front-exact w = (begins_name-yes w, λ b. begins_name-complete w b.0 b.2 b.1 b.3)
