-- The file of a name.
use Rattle.std.proofs.Common.{◌≡◌, ◌∙◌, ◌-◌, ℕ, List, [], ◌∷◌, ◌++◌, Bool, true, false, refl, sym, ap, length, take, drop, map, nat_eq, codes, encode_utf8_all, if◌then◌else◌, arith}
use Rattle.std.specs.Char.{encode_utf8}
use Rattle.std.specs.List.{ends_with}
use Rattle.std.specs.Cmp.Lexicographic.{same_text}
use Rattle.std.proofs.lemmas.Bool.{true≢false}
use Rattle.std.proofs.lemmas.List.{take-append-drop, append-nil, append_cancel_right, length-append}
use Rattle.std.proofs.Math.Seq.{drop-append_seam}
use Rattle.std.proofs.lemmas.Str.{encode_ascii, encodes-append, encodes_same}
use Rattle.lp_tree.specs.Units.{Inherit, Proto, Fun, Var}
use Rattle.lp_instr.specs.EfunList.{is_name}
use Rattle.lp_front.specs.declared.parents.Parent.{Parent as Inherited}
use Rattle.lp_front.specs.Names as files
use Rattle.lp_front.specs.Names.{slash_before, end_behind}
use Rattle.lp_meaning.specs.WorldSteps.{as_name, file_of_name, with_slash}
use Rattle.lp_meaning.specs.FileLoads.{parents_in}
use Rattle.lp_front_end.specs.Parents.{FilesAreOfNames, NamesHaveFiles, by_file, file_bytes}

abbrev dot_c : List ℕ
dot_c = codes ".c"

-- a text ends in `.c`
abbrev Ends : List ℕ → Type 0
Ends s = (front : List ℕ) × (s ≡ front ++ dot_c)

by_rest : (s : List ℕ) → drop (length s - 2) s ≡ dot_c → Ends s
by_rest s e = (take (length s - 2) s, sym (take-append-drop (length s - 2) s) ∙ ap (λ (xs : List ℕ). take (length s - 2) s ++ xs) e)

two_less : (front : List ℕ) → length (front ++ dot_c) - 2 ≡ length front
two_less front = omega (arith, length-append front dot_c)

rest : (s : List ℕ) → Ends s → drop (length s - 2) s ≡ dot_c
rest s h = ap (λ (x : List ℕ). drop (length x - 2) x) h.1 ∙ ap (λ (n : ℕ). drop n (h.0 ++ dot_c)) (two_less h.0) ∙ drop-append_seam h.0 dot_c

-- the two tests of it
abbrev is_c : List ℕ → Bool
is_c s = is_name (drop (length s - 2) s) dot_c

is_c_true : (s : List ℕ) → is_c s ≡ true → Ends s
is_c_true s e = by_rest s (same_text (drop (length s - 2) s) dot_c (sym e))

true_is_c : (s : List ℕ) → Ends s → is_c s ≡ true
true_is_c s h = ap (λ (x : List ℕ). is_name x dot_c) (rest s h)

abbrev has_c : List ℕ → Bool
has_c name = ends_with nat_eq name dot_c

has_c_true : (name : List ℕ) → has_c name ≡ true → Ends name
has_c_true name e = by_rest name (sym (same_text dot_c (drop (length name - 2) name) (sym e)))

true_has_c : (name : List ℕ) → Ends name → has_c name ≡ true
true_has_c name h = ap (λ (x : List ℕ). is_name dot_c x) (rest name h)

-- A slash before it changes nothing of its end.
too_short : (s front : List ℕ) → length s ≡ 0 → s ≡ front ++ dot_c → ⊥
too_short s front n e = absurd (omega (arith, n, ap length e, length-append front dot_c))

slash_alone : (front : List ℕ) → codes "/" ≡ front ++ dot_c → ⊥
slash_alone front e = absurd (omega (arith, ap length e, length-append front dot_c))

abbrev first_of : List ℕ → ℕ
first_of [] = 0
first_of (x ∷ xs) = x

behind_slash : (s front : List ℕ) → 47 ∷ s ≡ front ++ dot_c → Ends s
behind_slash s [] e = absurd (omega (arith, ap first_of e))
behind_slash s (x ∷ front) e = (front, ap (drop 1) e)

up_by : (b : Bool) (c : ℕ) (cs : List ℕ) → Ends (c ∷ cs) → Ends (if b then c ∷ cs else 47 ∷ c ∷ cs)
up_by true c cs h = h
up_by false c cs h = (47 ∷ h.0, ap (λ (xs : List ℕ). 47 ∷ xs) h.1)

up : (name : List ℕ) → Ends name → Ends (with_slash name)
up [] h = absurd (too_short [] h.0 refl h.1)
up (c ∷ cs) h = up_by (nat_eq c 47) c cs h

down_by : (b : Bool) (c : ℕ) (cs : List ℕ) → Ends (if b then c ∷ cs else 47 ∷ c ∷ cs) → Ends (c ∷ cs)
down_by true c cs h = h
down_by false c cs h = behind_slash (c ∷ cs) h.0 h.1

down : (name : List ℕ) → Ends (with_slash name) → Ends name
down [] h = absurd (slash_alone h.0 h.1)
down (c ∷ cs) h = down_by (nat_eq c 47) c cs h

-- So a name with its file's ending is the same in both forms.
ending_by : (name : List ℕ) (b d : Bool) → is_c (with_slash name) ≡ b → has_c name ≡ d
    → (if b then take (length (with_slash name) - 2) (with_slash name) else with_slash name) ++ dot_c ≡ with_slash name ++ (if d then [] else dot_c)
ending_by name true true e f =
    let s : List ℕ = with_slash name in
    ap (λ (xs : List ℕ). take (length s - 2) s ++ xs) (sym (rest s (is_c_true s e))) ∙ take-append-drop (length s - 2) s ∙ sym (append-nil s)
ending_by name true false e f = absurd (true≢false (sym (true_has_c name (down name (is_c_true (with_slash name) e))) ∙ f))
ending_by name false true e f = absurd (true≢false (sym (true_is_c (with_slash name) (up name (has_c_true name f))) ∙ e))
ending_by name false false e f = refl

ending : (name : List ℕ) → file_of_name (as_name name) ≡ with_slash name ++ end_behind name
ending name = ending_by name (is_c (with_slash name)) (has_c name) refl refl

slash_bytes : encode_utf8_all (codes "/") ≡ codes "/"
slash_bytes = ap (λ (xs : List ℕ). xs ++ []) (encode_ascii 47 (omega arith))

dot_c_bytes : encode_utf8_all dot_c ≡ dot_c
dot_c_bytes = ap (λ (xs : List ℕ). xs ++ (encode_utf8 99 ++ [])) (encode_ascii 46 (omega arith)) ∙ ap (λ (xs : List ℕ). 46 ∷ (xs ++ [])) (encode_ascii 99 (omega arith))

slashed_by : (b : Bool) (c : ℕ) (cs : List ℕ) → (if b then [] else codes "/") ++ encode_utf8_all (c ∷ cs) ≡ encode_utf8_all (if b then c ∷ cs else 47 ∷ c ∷ cs)
slashed_by true c cs = refl
slashed_by false c cs = ap (λ (xs : List ℕ). xs ++ encode_utf8_all (c ∷ cs)) (sym slash_bytes) ∙ sym (encodes-append (codes "/") (c ∷ cs))

slashed : (name : List ℕ) → slash_before name ++ encode_utf8_all name ≡ encode_utf8_all (with_slash name)
slashed [] = sym slash_bytes
slashed (c ∷ cs) = slashed_by (nat_eq c 47) c cs

end_by : (d : Bool) → (if d then [] else dot_c) ≡ encode_utf8_all (if d then [] else dot_c)
end_by true = refl
end_by false = sym dot_c_bytes

file_of_a_name : (name : List ℕ) → files.file_of name ≡ file_bytes (as_name name)
file_of_a_name name =
    ap (λ (xs : List ℕ). xs ++ end_behind name) (slashed name)
    ∙ ap (λ (xs : List ℕ). encode_utf8_all (with_slash name) ++ xs) (end_by (has_c name))
    ∙ sym (encodes-append (with_slash name) (end_behind name))
    ∙ ap encode_utf8_all (sym (ending name))

one_more : (line : ℕ) (name : List ℕ) (ps qs : List Inherited) → ps ≡ qs → record { line = line; file = files.file_of name } ∷ ps ≡ record { line = line; file = file_bytes (as_name name) } ∷ qs
one_more line name ps qs e = ap (λ (f : List ℕ). record { line = line; file = f } ∷ ps) (file_of_a_name name) ∙ ap (λ (xs : List Inherited). record { line = line; file = file_bytes (as_name name) } ∷ xs) e

pub files_are_of_names : FilesAreOfNames
files_are_of_names [] = refl
files_are_of_names (Inherit line name ∷ is) = one_more line name (files.parents_in is) (map by_file (parents_in is)) (files_are_of_names is)
files_are_of_names (Proto line ms ty name ps ∷ is) = files_are_of_names is
files_are_of_names (Fun line ms ty name ps b ∷ is) = files_are_of_names is
files_are_of_names (Var line ms base ds ∷ is) = files_are_of_names is

pub names_have_files : NamesHaveFiles
names_have_files a b e = append_cancel_right a b dot_c (encodes_same (file_of_name a) (file_of_name b) e)
