-- What is read is spelled.
use Rattle.std.proofs.Common.{◌≡◌, ℕ, suc, ◌≤◌, List, [], ◌∷◌, ◌++◌, Bool, true, false, cond, refl, sym, subst, arith}
use Rattle.std.specs.Prelude.{Option, Some, None, option_and_then, nat_le, IsTrue, codes, bytes_eq}
use Rattle.std.proofs.lemmas.Bool.{leb-true, leb-false}
use Rattle.lp_tree.specs.declared.keyword.Keyword.{Keyword}
use Rattle.lp_tree.specs.declared.keyword.Keyword.TheVariants as words
use Rattle.lp_tree.specs.declared.keyword.Base.{Base as BaseWord}
use Rattle.lp_tree.specs.declared.operator.UnOp.{UnOp}
use Rattle.lp_tree.specs.declared.operator.BinOp.{BinOp}
use Rattle.lp_tree.specs.declared.operator.BinOp.TheVariants.{Sub, Lt, Mul}
use Rattle.lp_tree.specs.declared.operator.AssignOp.{AssignOp}
use Rattle.lp_tree.specs.declared.operator.Step.{Step}
use Rattle.lp_tree.specs.declared.types.TypeName.{TypeName}
use Rattle.lp_tree.specs.declared.expr.Edge.{Edge}
use Rattle.lp_tree.specs.declared.expr.Edge.TheVariants.{Front}
use Rattle.lp_tree.specs.declared.token.Mark.{Mark}
use Rattle.lp_tree.specs.declared.token.Mark.TheVariants as marks
use Rattle.lp_tree.specs.declared.token.Mark.TheVariants.{OpenParen, CloseParen, OpenBrace, CloseBrace, OpenBracket, CloseBracket, Comma, Colon, ColonColon, DotDot, Arrow, Question}
use Rattle.lp_tree.specs.declared.seen.Sort.{Sort}
use Rattle.lp_tree.specs.declared.seen.Sort.TheVariants as sorts
use Rattle.lp_tree.specs.declared.seen.Seen.{Seen}
use Rattle.lp_tree.specs.Seen.{word, text, mark, reserved}
use Rattle.lp_tree.specs.Types.{SpellsStars, none as no_star, one_more as one_star, SpellsType, typed}
use Rattle.lp_tree.specs.Trees.{Tree, Text, Name, Array, Mapping, Sscanf, PostStep, PreStep, Unary, Cast, Binary, Cond, Assign, Sequence, Trees, OneMore, Pairs, End, trees, rank, line_of, is_place}
use Rattle.lp_tree.specs.Expressions.{IsUnary, exclamation, tilde, minus, SpellsEdge, from_front, from_back, Spells, int, string, name, paren, array, mapping, call, efun_call, parent_call, named_parent_call, catch, sscanf, index, range, call_other, post_step, pre_step, unary, cast, binary, and_then, or_else, cond as conditional, assign, sequence, SpellsParts, final, further, SpellsItems, none, last, more, SpellsPairs, no_pair, last_pair, more_pairs, SpellsPlaces, no_place, comma_last, one_place, SpellsEnd, missing, given}
use Rattle.lp_parser_expr.specs.Machine.{Callee, Function, Efun, Parent, NamedParent, Other, called, infix_level, infix_mark, infix_tree, Frame, Alone, InParen, InArray, AtKey, AtValue, InArgs, InCatch, ScanText, ScanForm, ScanPlaces, InIndex, InRange, Stepping, UnaryOf, Casting, LeftOf, Testing, Choosing, Assigning, InSequence, Stack, wants, wants_of, needs, needs_of, plug, Held, settle, State, Need, Have, EndCast, EndLiteral, NeedName, NeedParen, binds_mark, binds, empty_paren, empty_brace, empty_bracket, opened_brace, opened_bracket, begun_range, counted_back, prefixed, begin_base, begin_op, begin_mark, begin_word, begin, infixed, assigned_to, opened, scoped, closed, ended_brace, ended_bracket, after_dots, after_colon, after_comma, act_held, end_cast, end_literal, need_name, need_paren, step, whole_held, run}
use Rattle.lp_parser_expr.specs.declared.infix.Infix.{Infix}
use Rattle.lp_parser_expr.specs.declared.infix.Infix.TheVariants.{Plain, And, Or}
use Rattle.lp_parser_expr.proofs.Settle.{held, level-least, level≤13, wants-most, called-rank, infix-rank}
use Rattle.std.proofs.lemmas.Slice.Eq.{bytes_eq-Decides}
use Rattle.lp_parser_expr.proofs.Complete.{joined, joined-none, joined-last, pairs_joined, pairs_joined-none, pairs_joined-last}

-- items that were read, each with the comma behind it
pub data Done : List Tree → List Seen → List Seen → Type 0 where
  nothing : {ts : List Seen} → Done [] ts ts
  one : {t : Tree} {us : List Tree} {l : ℕ} {ts rest rest' : List Seen}
      → Spells t ts (mark Comma l ∷ rest) → 2 ≤ rank t → Done us rest rest' → Done (t ∷ us) ts rest'

-- pairs that were read, each with the comma behind it
pub data DonePairs : List (Tree × Tree) → List Seen → List Seen → Type 0 where
  no_pairs : {ts : List Seen} → DonePairs [] ts ts
  one_pair : {k v : Tree} {ps : List (Tree × Tree)} {l l' : ℕ} {ts us vs rest : List Seen}
      → Spells k ts (mark Colon l ∷ us) → 2 ≤ rank k → Spells v us (mark Comma l' ∷ vs) → 2 ≤ rank v
      → DonePairs ps vs rest → DonePairs ((k, v) ∷ ps) ts rest

-- places that were read, each with the comma before it
pub data DonePlaces : List Tree → List Seen → List Seen → Type 0 where
  no_places : {ts : List Seen} → DonePlaces [] ts ts
  done_place : {p : Tree} {ps : List Tree} {l : ℕ} {ts us rest : List Seen}
      → Spells p ts us → IsTrue (is_place p) → DonePlaces ps us rest → DonePlaces (p ∷ ps) (mark Comma l ∷ ts) rest

-- the tokens before the name of a function
pub data IsScope : Callee → List Seen → List Seen → Type 0 where
  of_efun : {line l : ℕ} {rest : List Seen} → IsScope (Efun line) (word (codes "efun") line ∷ mark ColonColon l ∷ rest) rest
  of_parent : {line : ℕ} {rest : List Seen} → IsScope (Parent line) (mark ColonColon line ∷ rest) rest
  of_named : {line l : ℕ} {p : List ℕ} {rest : List Seen} → IsScope (NamedParent line p) (text p line ∷ mark ColonColon l ∷ rest) rest
  of_other : {t : Tree} {l : ℕ} {ts rest : List Seen} → Spells t ts (mark Arrow l ∷ rest) → 15 ≤ rank t → IsScope (Other t) ts rest

-- the tokens up to the name of a function
pub data IsNamed : Callee → List ℕ → List Seen → List Seen → Type 0 where
  plain : {line : ℕ} {w : List ℕ} {rest : List Seen} → IsNamed (Function line) w (word w line ∷ rest) rest
  behind : {c : Callee} {w : List ℕ} {l : ℕ} {ts rest : List Seen} → IsScope c ts (word w l ∷ rest) → IsNamed c w ts rest

-- Opened g s ts rest: the tokens of ts before rest begin the productions of the stack, round which g is the least level
pub data Opened : ℕ → Stack → List Seen → List Seen → Type 0 where
  bottom : {ts : List Seen} → Opened 0 [] ts ts
  alone : {ts : List Seen} → Opened 2 (Alone ∷ []) ts ts
  in_paren : {g : ℕ} {s : Stack} {line : ℕ} {ts rest : List Seen} → Opened g s ts (mark OpenParen line ∷ rest) → Opened g (InParen line ∷ s) ts rest
  in_array : {g : ℕ} {s : Stack} {line l : ℕ} {done : List Tree} {ts us rest : List Seen}
      → Opened g s ts (mark OpenParen line ∷ mark OpenBrace l ∷ us) → Done done us rest → Opened g (InArray line done ∷ s) ts rest
  at_key : {g : ℕ} {s : Stack} {line l : ℕ} {done : List (Tree × Tree)} {ts us rest : List Seen}
      → Opened g s ts (mark OpenParen line ∷ mark OpenBracket l ∷ us) → DonePairs done us rest → Opened g (AtKey line done ∷ s) ts rest
  at_value : {g : ℕ} {s : Stack} {line l l' : ℕ} {done : List (Tree × Tree)} {k : Tree} {ts us vs rest : List Seen}
      → Opened g s ts (mark OpenParen line ∷ mark OpenBracket l ∷ us) → DonePairs done us vs
      → Spells k vs (mark Colon l' ∷ rest) → 2 ≤ rank k → Opened g (AtValue line done k ∷ s) ts rest
  in_args : {g : ℕ} {s : Stack} {c : Callee} {w : List ℕ} {l : ℕ} {done : List Tree} {ts us vs rest : List Seen}
      → Opened g s ts us → IsNamed c w us (mark OpenParen l ∷ vs) → Done done vs rest → Opened g (InArgs c w done ∷ s) ts rest
  in_catch : {g : ℕ} {s : Stack} {line l : ℕ} {ts rest : List Seen}
      → Opened g s ts (reserved words.Catch line ∷ mark OpenParen l ∷ rest) → Opened g (InCatch line ∷ s) ts rest
  scan_text : {g : ℕ} {s : Stack} {line l : ℕ} {ts rest : List Seen}
      → Opened g s ts (reserved words.Sscanf line ∷ mark OpenParen l ∷ rest) → Opened g (ScanText line ∷ s) ts rest
  scan_form : {g : ℕ} {s : Stack} {line l l' : ℕ} {t : Tree} {ts us rest : List Seen}
      → Opened g s ts (reserved words.Sscanf line ∷ mark OpenParen l ∷ us) → Spells t us (mark Comma l' ∷ rest) → 2 ≤ rank t
      → Opened g (ScanForm line t ∷ s) ts rest
  scan_places : {g : ℕ} {s : Stack} {line l l' l'' : ℕ} {t f : Tree} {done : List Tree} {ts us vs ws rest : List Seen}
      → Opened g s ts (reserved words.Sscanf line ∷ mark OpenParen l ∷ us) → Spells t us (mark Comma l' ∷ vs) → 2 ≤ rank t
      → Spells f vs ws → 2 ≤ rank f → DonePlaces done ws (mark Comma l'' ∷ rest) → Opened g (ScanPlaces line t f done ∷ s) ts rest
  in_index : {g : ℕ} {s : Stack} {t : Tree} {e : Edge} {l : ℕ} {ts us vs rest : List Seen}
      → Opened g s ts us → Spells t us (mark OpenBracket l ∷ vs) → 15 ≤ rank t → SpellsEdge e vs rest → Opened g (InIndex t e ∷ s) ts rest
  in_range : {g : ℕ} {s : Stack} {t : Tree} {a : End} {e : Edge} {l l' : ℕ} {ts us vs ws rest : List Seen}
      → Opened g s ts us → Spells t us (mark OpenBracket l ∷ vs) → 15 ≤ rank t → SpellsEnd a vs (mark DotDot l' ∷ ws)
      → SpellsEdge e ws rest → Opened g (InRange t a e ∷ s) ts rest
  stepping_on : {g : ℕ} {s : Stack} {line : ℕ} {st : Step} {ts rest : List Seen}
      → Opened g s ts (mark (marks.Step st) line ∷ rest) → wants_of s ≤ 14 → Opened g (Stepping line st ∷ s) ts rest
  unary_of : {g : ℕ} {s : Stack} {m : Mark} {op : UnOp} {line : ℕ} {ts rest : List Seen}
      → IsUnary m op → Opened g s ts (mark m line ∷ rest) → wants_of s ≤ 14 → Opened g (UnaryOf line op ∷ s) ts rest
  casting : {g : ℕ} {s : Stack} {line l : ℕ} {ty : TypeName} {ts us rest : List Seen}
      → Opened g s ts (mark OpenParen line ∷ us) → SpellsType ty us (mark CloseParen l ∷ rest) → wants_of s ≤ 14 → Opened g (Casting line ty ∷ s) ts rest
  left_of : {g : ℕ} {s : Stack} {op : Infix} {t : Tree} {at : ℕ} {ts us rest : List Seen}
      → Opened g s ts us → wants_of s ≤ infix_level op → Spells t us (mark (infix_mark op) at ∷ rest) → infix_level op ≤ rank t
      → Opened g (LeftOf op t ∷ s) ts rest
  testing : {g : ℕ} {s : Stack} {t : Tree} {at : ℕ} {ts us rest : List Seen}
      → Opened g s ts us → wants_of s ≤ 3 → Spells t us (mark Question at ∷ rest) → 4 ≤ rank t → Opened g (Testing t ∷ s) ts rest
  choosing : {g : ℕ} {s : Stack} {t y : Tree} {at colon : ℕ} {ts us vs rest : List Seen}
      → Opened g s ts us → wants_of s ≤ 3 → Spells t us (mark Question at ∷ vs) → 4 ≤ rank t → Spells y vs (mark Colon colon ∷ rest)
      → Opened g (Choosing t y ∷ s) ts rest
  assigning : {g : ℕ} {s : Stack} {p : Tree} {op : AssignOp} {at : ℕ} {ts us rest : List Seen}
      → Opened g s ts us → wants_of s ≤ 2 → Spells p us (mark (marks.Assign op) at ∷ rest) → IsTrue (is_place p) → Opened g (Assigning op p ∷ s) ts rest
  in_sequence : {g : ℕ} {s : Stack} {t : Tree} {done : List Tree} {l : ℕ} {ts us vs rest : List Seen}
      → Opened g s ts us → wants_of s ≤ 0 → Spells t us (mark Comma l ∷ vs) → 2 ≤ rank t → Done done vs rest → Opened g (InSequence (line_of t) (t ∷ done) ∷ s) ts rest

-- a literal of which only its last parenthesis is missing
pub data Closes : Tree → List Seen → List Seen → Type 0 where
  array_closes : {line l : ℕ} {items : Trees} {us rest : List Seen}
      → SpellsItems CloseBrace items us rest → Closes (Array line items) (mark OpenParen line ∷ mark OpenBrace l ∷ us) rest
  mapping_closes : {line l : ℕ} {ps : Pairs} {us rest : List Seen}
      → SpellsPairs ps us rest → Closes (Mapping line ps) (mark OpenParen line ∷ mark OpenBracket l ∷ us) rest

-- what a state has read: the tokens of ts before rest
pub data Reads : ℕ → State → List Seen → List Seen → Type 0 where
  needs_more : {g : ℕ} {s : Stack} {ts rest : List Seen} → Opened g s ts rest → Reads g (Need s) ts rest
  has : {g : ℕ} {t : Tree} {s : Stack} {ts us rest : List Seen} → Opened g s ts us → Spells t us rest → rank t ≡ 15 → Reads g (Have t s) ts rest
  cast_end : {g : ℕ} {s : Stack} {line : ℕ} {ty : TypeName} {ts us rest : List Seen}
      → Opened g s ts (mark OpenParen line ∷ us) → SpellsType ty us rest → wants_of s ≤ 14 → Reads g (EndCast line ty s) ts rest
  literal_end : {g : ℕ} {t : Tree} {s : Stack} {ts us rest : List Seen} → Opened g s ts us → Closes t us rest → Reads g (EndLiteral t s) ts rest
  name_next : {g : ℕ} {c : Callee} {s : Stack} {ts us rest : List Seen} → Opened g s ts us → IsScope c us rest → Reads g (NeedName c s) ts rest
  args_next : {g : ℕ} {c : Callee} {w : List ℕ} {s : Stack} {ts us rest : List Seen} → Opened g s ts us → IsNamed c w us rest → Reads g (NeedParen (InArgs c w []) s) ts rest
  catch_next : {g : ℕ} {s : Stack} {line : ℕ} {ts rest : List Seen} → Opened g s ts (reserved words.Catch line ∷ rest) → Reads g (NeedParen (InCatch line) s) ts rest
  scan_next : {g : ℕ} {s : Stack} {line : ℕ} {ts rest : List Seen} → Opened g s ts (reserved words.Sscanf line ∷ rest) → Reads g (NeedParen (ScanText line) s) ts rest

-- a tree on a stack that fits it
pub data Fitting : ℕ → Option Held → ℕ → List Seen → List Seen → Type 0 where
  misfit : {g p : ℕ} {ts rest : List Seen} → Fitting g None p ts rest
  fitting : {g : ℕ} {t : Tree} {s : Stack} {p : ℕ} {ts us rest : List Seen}
      → Opened g s ts us → Spells t us rest → wants_of s ≤ rank t → needs_of s ≤ p → p ≤ rank t → Fitting g (Some (held t s)) p ts rest

abbrev pub Settles : ℕ → ℕ → Stack → List Seen → List Seen → Type 0
Settles g p s ts rest = (t : Tree) (us : List Seen) → Opened g s ts us → Spells t us rest → wants_of s ≤ rank t → p ≤ rank t → Fitting g (settle p t s) p ts rest

settled_step : (g p : ℕ) (s : Stack) (ts us rest : List Seen) → Settles g p s ts rest → (b : Bool) (u : Tree) → (IsTrue b → Spells u us rest) → Opened g s ts us → wants_of s ≤ rank u → p ≤ rank u → Fitting g (option_and_then (λ v. settle p v s) (cond b (Some u) None)) p ts rest
settled_step g p s ts us rest ih true u d o h k = ih u us o (d refl) h k
settled_step g p s ts us rest ih false u d o h k = misfit

infix_spelled : (op : Infix) {l r : Tree} {at : ℕ} {us vs rest : List Seen} → Spells l us (mark (infix_mark op) at ∷ vs) → infix_level op ≤ rank l → Spells r vs rest → suc (infix_level op) ≤ rank r → Spells (infix_tree op l r) us rest
infix_spelled (Plain op) d h e k = binary d h e k
infix_spelled And d h e k = and_then d h e k
infix_spelled Or d h e k = or_else d h e k

parts_spelled : {ds : List Tree} {us : Trees} {ts mid rest : List Seen} → Done ds ts mid → SpellsParts us mid rest → SpellsParts (joined ds us) ts rest
parts_spelled nothing a = a
parts_spelled (one d h e) a = further d h (parts_spelled e a)

parts_as : {us vs : Trees} {ts rest : List Seen} → us ≡ vs → SpellsParts us ts rest → SpellsParts vs ts rest
parts_as {us} {vs} {ts} {rest} e a = subst (λ ws. SpellsParts ws ts rest) e a

settled_if : (g p : ℕ) (t : Tree) (f : Frame) (s : Stack) (b : Bool) → nat_le (needs f) p ≡ b → (ts us rest : List Seen) → Settles g p s ts rest → Opened g (f ∷ s) ts us → Spells t us rest → wants f ≤ rank t → p ≤ rank t → Fitting g (cond b (Some (held t (f ∷ s))) (option_and_then (λ u. settle p u s) (plug f t))) p ts rest
settled_if g p t f s true e ts us rest ih o d h k = fitting o d h (leb-true (needs f) p e) k
settled_if g p t (Stepping line st) s false e ts us rest ih (stepping_on o n) d h k = settled_step g p s ts _ rest ih (is_place t) (PreStep line st t) (λ w. pre_step d w) o n (omega (arith, leb-false 15 p e))
settled_if g p t (UnaryOf line op) s false e ts us rest ih (unary_of w o n) d h k = ih (Unary line op t) _ o (unary w d h) n (omega (arith, leb-false 14 p e))
settled_if g p t (Casting line ty) s false e ts us rest ih (casting o w n) d h k = ih (Cast line ty t) _ o (cast w d h) n (omega (arith, leb-false 14 p e))
settled_if g p t (LeftOf op l) s false e ts us rest ih (left_of o n d0 r) d h k = ih (infix_tree op l t) _ o (infix_spelled op d0 r d h) (omega (arith, infix-rank op l t)) (omega (arith, infix-rank op l t, leb-false (suc (infix_level op)) p e))
settled_if g p t (Choosing c y) s false e ts us rest ih (choosing o n d0 r d1) d h k = ih (Cond (line_of c) c y t) _ o (conditional d0 r d1 d h) n (omega (arith, leb-false 3 p e))
settled_if g p t (Assigning op q) s false e ts us rest ih (assigning o n d0 r) d h k = ih (Assign (line_of q) op q t) _ o (assign d0 r d h) n (omega (arith, leb-false 2 p e))
settled_if g p t (InSequence line done) s false e ts us rest ih (in_sequence {t = c} {done = ds} o n d0 r a) d h k = ih (Sequence (line_of c) (OneMore c (trees (ds ++ t ∷ [])))) _ o (sequence d0 r (parts_as (sym (joined-last ds t)) (parts_spelled a (final d h)))) n (omega (arith, leb-false 1 p e))
settled_if g p t f s false e ts us rest ih o d h k = absurd (omega (arith, leb-false 0 p e))

-- Ending productions keeps what was read.
pub settled : (g p : ℕ) (s : Stack) (ts rest : List Seen) → Settles g p s ts rest
settled g p [] ts rest = λ t us o d h k. fitting o d h (omega arith) k
settled g p (f ∷ s) ts rest = λ t us o d h k. settled_if g p t f s (nat_le (needs f) p) refl ts us rest (settled g p s ts rest) o d h k

all-spelled : {m : Mark} {ds : List Tree} {us : Trees} {ts mid rest : List Seen} → Done ds ts mid → SpellsItems m us mid rest → SpellsItems m (joined ds us) ts rest
all-spelled nothing a = a
all-spelled (one d h e) a = more d h (all-spelled e a)

one_more : {ds : List Tree} {t : Tree} {l : ℕ} {ts mid rest : List Seen} → Done ds ts mid → Spells t mid (mark Comma l ∷ rest) → 2 ≤ rank t → Done (ds ++ t ∷ []) ts rest
one_more nothing d h = one d h nothing
one_more (one e k f) d h = one e k (one_more f d h)

items_as : {m : Mark} {us vs : Trees} {ts rest : List Seen} → us ≡ vs → SpellsItems m us ts rest → SpellsItems m vs ts rest
items_as {m} {us} {vs} {ts} {rest} e a = subst (λ ws. SpellsItems m ws ts rest) e a

pairs_spelled : {ds : List (Tree × Tree)} {ps : Pairs} {ts mid rest : List Seen} → DonePairs ds ts mid → SpellsPairs ps mid rest → SpellsPairs (pairs_joined ds ps) ts rest
pairs_spelled no_pairs a = a
pairs_spelled (one_pair d h e k f) a = more_pairs d h e k (pairs_spelled f a)

pair_more : {ds : List (Tree × Tree)} {k v : Tree} {l l' : ℕ} {ts mid us rest : List Seen} → DonePairs ds ts mid → Spells k mid (mark Colon l ∷ us) → 2 ≤ rank k → Spells v us (mark Comma l' ∷ rest) → 2 ≤ rank v → DonePairs (ds ++ (k, v) ∷ []) ts rest
pair_more no_pairs d h e k = one_pair d h e k no_pairs
pair_more (one_pair a b c x y) d h e k = one_pair a b c x (pair_more y d h e k)

pairs_as : {ps qs : Pairs} {ts rest : List Seen} → ps ≡ qs → SpellsPairs ps ts rest → SpellsPairs qs ts rest
pairs_as {ps} {qs} {ts} {rest} e a = subst (λ rs. SpellsPairs rs ts rest) e a

places_spelled : {ds : List Tree} {ps : Trees} {ts mid rest : List Seen} → DonePlaces ds ts mid → SpellsPlaces ps mid rest → SpellsPlaces (joined ds ps) ts rest
places_spelled no_places a = a
places_spelled (done_place d h e) a = one_place d h (places_spelled e a)

place_more : {ds : List Tree} {p : Tree} {l : ℕ} {ts mid rest : List Seen} → DonePlaces ds ts (mark Comma l ∷ mid) → Spells p mid rest → IsTrue (is_place p) → DonePlaces (ds ++ p ∷ []) ts rest
place_more no_places d h = done_place d h no_places
place_more (done_place a b c) d h = done_place a b (place_more c d h)

places_as : {ps qs : Trees} {ts rest : List Seen} → ps ≡ qs → SpellsPlaces ps ts rest → SpellsPlaces qs ts rest
places_as {ps} {qs} {ts} {rest} e a = subst (λ rs. SpellsPlaces rs ts rest) e a

scope_spelled : {c : Callee} {w : List ℕ} {args : Trees} {l l' : ℕ} {ts us rest : List Seen} → IsScope c ts (word w l ∷ mark OpenParen l' ∷ us) → SpellsItems CloseParen args us rest → Spells (called c w args) ts rest
scope_spelled of_efun a = efun_call a
scope_spelled of_parent a = parent_call a
scope_spelled of_named a = named_parent_call a
scope_spelled (of_other d h) a = call_other d h a

call_spelled : {c : Callee} {w : List ℕ} {args : Trees} {l : ℕ} {ts us rest : List Seen} → IsNamed c w ts (mark OpenParen l ∷ us) → SpellsItems CloseParen args us rest → Spells (called c w args) ts rest
call_spelled plain a = call a
call_spelled (behind w) a = scope_spelled w a

abbrev pub ReadsOnSome : ℕ → Option State → List Seen → List Seen → Type 0
ReadsOnSome g None ts rest = Unit {0}
ReadsOnSome g (Some st) ts rest = Reads g st ts rest

read-if : (g : ℕ) (b : Bool) (st : State) (ts rest : List Seen) → (IsTrue b → Reads g st ts rest) → ReadsOnSome g (cond b (Some st) None) ts rest
read-if g true st ts rest h = h refl
read-if g false st ts rest h = tt

paren_emptied : {g line : ℕ} (s : Stack) (ts rest : List Seen) → Opened g s ts (mark CloseParen line ∷ rest) → ReadsOnSome g (empty_paren s) ts rest
paren_emptied (InArgs c w done ∷ s) ts rest (in_args o n e) = has o (call_spelled n (items_as (sym (joined-none done)) (all-spelled e none))) (called-rank c w (trees done))
paren_emptied (ScanPlaces at t f done ∷ s) ts rest (scan_places o d h e k a) = has o (sscanf d h e k (places_as (sym (joined-none done)) (places_spelled a comma_last))) refl
paren_emptied _ ts rest o = tt

brace_emptied : {g line : ℕ} (s : Stack) (ts rest : List Seen) → Opened g s ts (mark CloseBrace line ∷ rest) → ReadsOnSome g (empty_brace s) ts rest
brace_emptied (InArray at done ∷ s) ts rest (in_array o e) = literal_end o (array_closes (items_as (sym (joined-none done)) (all-spelled e none)))
brace_emptied _ ts rest o = tt

bracket_emptied : {g line : ℕ} (s : Stack) (ts rest : List Seen) → Opened g s ts (mark CloseBracket line ∷ rest) → ReadsOnSome g (empty_bracket s) ts rest
bracket_emptied (AtKey at done ∷ s) ts rest (at_key o e) = literal_end o (mapping_closes (pairs_as (sym (pairs_joined-none done)) (pairs_spelled e no_pair)))
bracket_emptied (InRange of a Front ∷ s) ts rest (in_range o d h e from_front) = has o (range d h e missing) refl
bracket_emptied _ ts rest o = tt

brace_opened : {g line : ℕ} (s : Stack) (ts rest : List Seen) → Opened g s ts (mark OpenBrace line ∷ rest) → ReadsOnSome g (opened_brace s) ts rest
brace_opened (InParen at ∷ s) ts rest (in_paren o) = needs_more (in_array o nothing)
brace_opened _ ts rest o = tt

bracket_opened : {g line : ℕ} (s : Stack) (ts rest : List Seen) → Opened g s ts (mark OpenBracket line ∷ rest) → ReadsOnSome g (opened_bracket s) ts rest
bracket_opened (InParen at ∷ s) ts rest (in_paren o) = needs_more (at_key o no_pairs)
bracket_opened _ ts rest o = tt

range_begun : {g line : ℕ} (s : Stack) (ts rest : List Seen) → Opened g s ts (mark DotDot line ∷ rest) → ReadsOnSome g (begun_range s) ts rest
range_begun (InIndex of Front ∷ s) ts rest (in_index o d h from_front) = needs_more (in_range o d h missing from_front)
range_begun _ ts rest o = tt

back_counted : {g line : ℕ} (s : Stack) (ts rest : List Seen) → Opened g s ts (mark (marks.Binary Lt) line ∷ rest) → ReadsOnSome g (counted_back s) ts rest
back_counted (InIndex of Front ∷ s) ts rest (in_index o d h from_front) = needs_more (in_index o d h from_back)
back_counted (InRange of a Front ∷ s) ts rest (in_range o d h e from_front) = needs_more (in_range o d h e from_back)
back_counted _ ts rest o = tt

prefix_read : {g : ℕ} {m : Mark} {op : UnOp} → IsUnary m op → (line : ℕ) (s : Stack) (ts rest : List Seen) → Opened g s ts (mark m line ∷ rest) → ReadsOnSome g (prefixed op line s) ts rest
prefix_read {g} {op} w line s ts rest o = read-if g (nat_le (wants_of s) 14) (Need (UnaryOf line op ∷ s)) ts rest (λ h. needs_more (unary_of w o (leb-true (wants_of s) 14 h)))

op_read : {g : ℕ} (op : BinOp) (line : ℕ) (s : Stack) (ts rest : List Seen) → Opened g s ts (mark (marks.Binary op) line ∷ rest) → ReadsOnSome g (begin_op op line s) ts rest
op_read Sub line s ts rest o = prefix_read minus line s ts rest o
op_read Lt line s ts rest o = back_counted s ts rest o
op_read _ line s ts rest o = tt

mark_begun : {g : ℕ} (m : Mark) (line : ℕ) (s : Stack) (ts rest : List Seen) → Opened g s ts (mark m line ∷ rest) → ReadsOnSome g (begin_mark m line s) ts rest
mark_begun OpenParen line s ts rest o = needs_more (in_paren o)
mark_begun CloseParen line s ts rest o = paren_emptied s ts rest o
mark_begun OpenBrace line s ts rest o = brace_opened s ts rest o
mark_begun CloseBrace line s ts rest o = brace_emptied s ts rest o
mark_begun OpenBracket line s ts rest o = bracket_opened s ts rest o
mark_begun CloseBracket line s ts rest o = bracket_emptied s ts rest o
mark_begun ColonColon line s ts rest o = name_next o of_parent
mark_begun DotDot line s ts rest o = range_begun s ts rest o
mark_begun marks.Not line s ts rest o = prefix_read exclamation line s ts rest o
mark_begun marks.Flip line s ts rest o = prefix_read tilde line s ts rest o
mark_begun (marks.Binary op) line s ts rest o = op_read op line s ts rest o
mark_begun {g} (marks.Step st) line s ts rest o = read-if g (nat_le (wants_of s) 14) (Need (Stepping line st ∷ s)) ts rest (λ h. needs_more (stepping_on o (leb-true (wants_of s) 14 h)))
mark_begun _ line s ts rest o = tt

base_begun : {g line : ℕ} (b : BaseWord) (s : Stack) (ts rest : List Seen) → Opened g s ts (reserved (words.Base b) line ∷ rest) → ReadsOnSome g (begin_base b s) ts rest
base_begun {g} b (InParen at ∷ s) ts rest (in_paren o) = read-if g (nat_le (wants_of s) 14) (EndCast at (record { base = b; stars = 0 }) s) ts rest (λ w. cast_end o (typed no_star) (leb-true (wants_of s) 14 w))
base_begun b _ ts rest o = tt

word_begun : {g : ℕ} (k : Keyword) (line : ℕ) (s : Stack) (ts rest : List Seen) → Opened g s ts (reserved k line ∷ rest) → ReadsOnSome g (begin_word k line s) ts rest
word_begun (words.Base b) line s ts rest o = base_begun b s ts rest o
word_begun words.Catch line s ts rest o = catch_next o
word_begun words.Sscanf line s ts rest o = scan_next o
word_begun _ line s ts rest o = tt

abbrev pub on : Sort → ℕ → Seen
on k line = record { sort = k; line = line }

begun : {g : ℕ} (k : Sort) (line : ℕ) (s : Stack) (ts rest : List Seen) → Opened g s ts (on k line ∷ rest) → ReadsOnSome g (begin k line s) ts rest
begun (sorts.Name w) line s ts rest o = has o name refl
begun (sorts.Text w) line s ts rest o = has o string refl
begun (sorts.Int n) line s ts rest o = has o int refl
begun (sorts.Mark m) line s ts rest o = mark_begun m line s ts rest o
begun (sorts.Reserved k) line s ts rest o = word_begun k line s ts rest o
begun sorts.Wrong line s ts rest o = tt

single : (t : Tree) → 1 ≤ rank t → 2 ≤ rank t
single (Sequence line ts) h = absurd (omega arith)
single (Binary line op l r) h = omega (arith, level-least op)
single _ h = omega arith

parens_opened : {g line : ℕ} (t : Tree) (s : Stack) (ts rest : List Seen) {us : List Seen} → Opened g s ts us → Spells t us (mark OpenParen line ∷ rest) → ReadsOnSome g (opened t s) ts rest
parens_opened (Name at w) s ts rest o name = needs_more (in_args o plain nothing)
parens_opened _ s ts rest o d = tt

efun_scope : (w : List ℕ) (at l : ℕ) (rest : List Seen) → w ≡ codes "efun" → IsScope (Efun at) (word w at ∷ mark ColonColon l ∷ rest) rest
efun_scope w at l rest e = subst (λ v. IsScope (Efun at) (word v at ∷ mark ColonColon l ∷ rest) rest) (sym e) of_efun

scope_reads : {g line : ℕ} (t : Tree) (s : Stack) (ts rest : List Seen) {us : List Seen} → Opened g s ts us → Spells t us (mark ColonColon line ∷ rest) → ReadsOnSome g (scoped t s) ts rest
scope_reads {g} {line} (Name at w) s ts rest o name = read-if g (bytes_eq w (codes "efun")) (NeedName (Efun at) s) ts rest (λ e. name_next o (efun_scope w at line rest ((bytes_eq-Decides w (codes "efun")).0 e)))
scope_reads (Text at p) s ts rest o string = name_next o of_named
scope_reads _ s ts rest o d = tt

closed_reads : {g line : ℕ} (t : Tree) (s : Stack) (ts rest : List Seen) {us : List Seen} → Opened g s ts us → Spells t us (mark CloseParen line ∷ rest) → wants_of s ≤ rank t → ReadsOnSome g (closed t s) ts rest
closed_reads t (InParen at ∷ s) ts rest (in_paren o) d h = has o (paren d) refl
closed_reads t (InArgs c w done ∷ s) ts rest (in_args o n e) d h = has o (call_spelled n (items_as (sym (joined-last done t)) (all-spelled e (last d h)))) (called-rank c w (trees (done ++ t ∷ [])))
closed_reads t (InCatch at ∷ s) ts rest (in_catch o) d h = has o (catch d) refl
closed_reads t (ScanForm at text ∷ s) ts rest (scan_form o d0 h0) d h = has o (sscanf d0 h0 d h no_place) refl
closed_reads {g} t (ScanPlaces at text form done ∷ s) ts rest (scan_places o d0 h0 d1 h1 a) d h = read-if g (is_place t) (Have (Sscanf at text form (trees (done ++ t ∷ []))) s) ts rest (λ w. has o (sscanf d0 h0 d1 h1 (places_as (sym (joined-last done t)) (places_spelled a (one_place d w no_place)))) refl)
closed_reads t _ ts rest o d h = tt

brace_ended : {g line : ℕ} (t : Tree) (s : Stack) (ts rest : List Seen) {us : List Seen} → Opened g s ts us → Spells t us (mark CloseBrace line ∷ rest) → wants_of s ≤ rank t → ReadsOnSome g (ended_brace t s) ts rest
brace_ended t (InArray at done ∷ s) ts rest (in_array o e) d h = literal_end o (array_closes (items_as (sym (joined-last done t)) (all-spelled e (last d h))))
brace_ended t _ ts rest o d h = tt

bracket_ended : {g line : ℕ} (t : Tree) (s : Stack) (ts rest : List Seen) {us : List Seen} → Opened g s ts us → Spells t us (mark CloseBracket line ∷ rest) → wants_of s ≤ rank t → ReadsOnSome g (ended_bracket t s) ts rest
bracket_ended t (AtValue at done k ∷ s) ts rest (at_value o e d0 h0) d h = literal_end o (mapping_closes (pairs_as (sym (pairs_joined-last done k t)) (pairs_spelled e (last_pair d0 h0 d h))))
bracket_ended t (InIndex of e ∷ s) ts rest (in_index o d0 h0 w) d h = has o (index d0 h0 w d) refl
bracket_ended t (InRange of a e ∷ s) ts rest (in_range o d0 h0 b w) d h = has o (range d0 h0 b (given w d)) refl
bracket_ended t _ ts rest o d h = tt

dots_read : {g line : ℕ} (t : Tree) (s : Stack) (ts rest : List Seen) {us : List Seen} → Opened g s ts us → Spells t us (mark DotDot line ∷ rest) → ReadsOnSome g (after_dots t s) ts rest
dots_read t (InIndex of e ∷ s) ts rest (in_index o d0 h0 w) d = needs_more (in_range o d0 h0 (given w d) from_front)
dots_read t _ ts rest o d = tt

colon_read : {g line : ℕ} (t : Tree) (s : Stack) (ts rest : List Seen) {us : List Seen} → Opened g s ts us → Spells t us (mark Colon line ∷ rest) → wants_of s ≤ rank t → ReadsOnSome g (after_colon t s) ts rest
colon_read t (Testing c ∷ s) ts rest (testing o n d0 r) d h = needs_more (choosing o n d0 r d)
colon_read t (AtKey at done ∷ s) ts rest (at_key o e) d h = needs_more (at_value o e d h)
colon_read t _ ts rest o d h = tt

comma_read : {g line : ℕ} (t : Tree) (s : Stack) (ts rest : List Seen) {us : List Seen} → Opened g s ts us → Spells t us (mark Comma line ∷ rest) → 2 ≤ rank t → ReadsOnSome g (after_comma t s) ts rest
comma_read t (InArray at done ∷ s) ts rest (in_array o e) d h = needs_more (in_array o (one_more e d h))
comma_read t (AtValue at done k ∷ s) ts rest (at_value o e d0 h0) d h = needs_more (at_key o (pair_more e d0 h0 d h))
comma_read t (InArgs c w done ∷ s) ts rest (in_args o n e) d h = needs_more (in_args o n (one_more e d h))
comma_read t (ScanText at ∷ s) ts rest (scan_text o) d h = needs_more (scan_form o d h)
comma_read t (ScanForm at text ∷ s) ts rest (scan_form o d0 h0) d h = needs_more (scan_places o d0 h0 d h no_places)
comma_read {g} t (ScanPlaces at text form done ∷ s) ts rest (scan_places o d0 h0 d1 h1 a) d h = read-if g (is_place t) (Need (ScanPlaces at text form (done ++ t ∷ []) ∷ s)) ts rest (λ w. needs_more (scan_places o d0 h0 d1 h1 (place_more a d w)))
comma_read t (InSequence at done ∷ s) ts rest (in_sequence o n d0 h0 a) d h = needs_more (in_sequence o n d0 h0 (one_more a d h))
comma_read {g} t s ts rest o d h = read-if g (nat_le (wants_of s) 0) (Need (InSequence (line_of t) (t ∷ []) ∷ s)) ts rest (λ w. needs_more (in_sequence o (leb-true (wants_of s) 0 w) d h nothing))

binds-most : (m : Mark) → binds_mark m ≤ 15
binds-most (marks.Binary op) = omega (arith, level≤13 op)
binds-most _ = omega arith

infix_read : {g at : ℕ} (op : Infix) (t : Tree) (s : Stack) (ts rest : List Seen) {us : List Seen} → Opened g s ts us → Spells t us (mark (infix_mark op) at ∷ rest) → infix_level op ≤ rank t → ReadsOnSome g (infixed op t s) ts rest
infix_read {g} op t s ts rest o d r = read-if g (nat_le (wants_of s) (infix_level op)) (Need (LeftOf op t ∷ s)) ts rest (λ w. needs_more (left_of o (leb-true (wants_of s) (infix_level op) w) d r))

assign_read : {g at : ℕ} (op : AssignOp) (b : Bool) (t : Tree) (s : Stack) (ts rest : List Seen) {us : List Seen} → is_place t ≡ b → Opened g s ts us → Spells t us (mark (marks.Assign op) at ∷ rest) → ReadsOnSome g (cond b (assigned_to op t s) None) ts rest
assign_read {g} op true t s ts rest e o d = read-if g (nat_le (wants_of s) 2) (Need (Assigning op t ∷ s)) ts rest (λ w. needs_more (assigning o (leb-true (wants_of s) 2 w) d e))
assign_read op false t s ts rest e o d = tt

mark_acted : {g : ℕ} (m : Mark) (line : ℕ) (h : Option Held) (ts rest : List Seen) → Fitting g h (binds_mark m) ts (mark m line ∷ rest) → ReadsOnSome g (option_and_then (act_held (sorts.Mark m)) h) ts rest
mark_acted m line None ts rest f = tt
mark_acted (marks.Binary op) line (Some h) ts rest (fitting {t} {s} o d n q r) = infix_read (Plain op) t s ts rest o d r
mark_acted marks.AndThen line (Some h) ts rest (fitting {t} {s} o d n q r) = infix_read And t s ts rest o d r
mark_acted marks.OrElse line (Some h) ts rest (fitting {t} {s} o d n q r) = infix_read Or t s ts rest o d r
mark_acted (marks.Assign op) line (Some h) ts rest (fitting {t} {s} o d n q r) = assign_read op (is_place t) t s ts rest refl o d
mark_acted {g} (marks.Step st) line (Some h) ts rest (fitting {t} {s} o d n q r) = read-if g (is_place t) (Have (PostStep (line_of t) st t) s) ts rest (λ w. has o (post_step d w) refl)
mark_acted {g} Question line (Some h) ts rest (fitting {t} {s} o d n q r) = read-if g (nat_le (wants_of s) 3) (Need (Testing t ∷ s)) ts rest (λ w. needs_more (testing o (leb-true (wants_of s) 3 w) d r))
mark_acted OpenParen line (Some h) ts rest (fitting {t} {s} o d n q r) = parens_opened t s ts rest o d
mark_acted OpenBracket line (Some h) ts rest (fitting {t} {s} o d n q r) = needs_more (in_index o d r from_front)
mark_acted Arrow line (Some h) ts rest (fitting {t} {s} o d n q r) = name_next o (of_other d r)
mark_acted ColonColon line (Some h) ts rest (fitting {t} {s} o d n q r) = scope_reads t s ts rest o d
mark_acted CloseParen line (Some h) ts rest (fitting {t} {s} o d n q r) = closed_reads t s ts rest o d n
mark_acted CloseBrace line (Some h) ts rest (fitting {t} {s} o d n q r) = brace_ended t s ts rest o d n
mark_acted CloseBracket line (Some h) ts rest (fitting {t} {s} o d n q r) = bracket_ended t s ts rest o d n
mark_acted DotDot line (Some h) ts rest (fitting {t} {s} o d n q r) = dots_read t s ts rest o d
mark_acted Colon line (Some h) ts rest (fitting {t} {s} o d n q r) = colon_read t s ts rest o d n
mark_acted Comma line (Some h) ts rest (fitting {t} {s} o d n q r) = comma_read t s ts rest o d (single t r)
mark_acted _ line (Some h) ts rest f = tt

nothing_acted : (g : ℕ) (o : Option Held) (k : Sort) (ts rest : List Seen) → ((h : Held) → act_held k h ≡ None) → ReadsOnSome g (option_and_then (act_held k) o) ts rest
nothing_acted g None k ts rest e = tt
nothing_acted g (Some h) k ts rest e = subst (λ o. ReadsOnSome g o ts rest) (sym (e h)) tt

acted : {g : ℕ} (k : Sort) (line : ℕ) (h : Option Held) (ts rest : List Seen) → Fitting g h (binds k) ts (on k line ∷ rest) → ReadsOnSome g (option_and_then (act_held k) h) ts rest
acted (sorts.Mark m) line h ts rest f = mark_acted m line h ts rest f
acted (sorts.Name w) line h ts rest f = nothing_acted _ h (sorts.Name w) ts rest (λ x. refl)
acted (sorts.Text w) line h ts rest f = nothing_acted _ h (sorts.Text w) ts rest (λ x. refl)
acted (sorts.Int n) line h ts rest f = nothing_acted _ h (sorts.Int n) ts rest (λ x. refl)
acted (sorts.Reserved w) line h ts rest f = nothing_acted _ h (sorts.Reserved w) ts rest (λ x. refl)
acted sorts.Wrong line h ts rest f = nothing_acted _ h sorts.Wrong ts rest (λ x. refl)

star_more : {n l : ℕ} {ts rest : List Seen} → SpellsStars n ts (mark (marks.Binary Mul) l ∷ rest) → SpellsStars (suc n) ts rest
star_more no_star = one_star no_star
star_more (one_star d) = one_star (star_more d)

type_more : {ty : TypeName} {l : ℕ} {ts rest : List Seen} → SpellsType ty ts (mark (marks.Binary Mul) l ∷ rest) → SpellsType (record { base = ty.base; stars = suc ty.stars }) ts rest
type_more (typed d) = typed (star_more d)

cast_op : {g : ℕ} (op : BinOp) (line at : ℕ) (ty : TypeName) (s : Stack) (ts rest : List Seen) {us : List Seen} → Opened g s ts (mark OpenParen line ∷ us) → SpellsType ty us (mark (marks.Binary op) at ∷ rest) → wants_of s ≤ 14 → ReadsOnSome g (end_cast (sorts.Mark (marks.Binary op)) line ty s) ts rest
cast_op Mul line at ty s ts rest o d n = cast_end o (type_more d) n
cast_op _ line at ty s ts rest o d n = tt

cast_mark : {g : ℕ} (m : Mark) (line at : ℕ) (ty : TypeName) (s : Stack) (ts rest : List Seen) {us : List Seen} → Opened g s ts (mark OpenParen line ∷ us) → SpellsType ty us (mark m at ∷ rest) → wants_of s ≤ 14 → ReadsOnSome g (end_cast (sorts.Mark m) line ty s) ts rest
cast_mark (marks.Binary op) line at ty s ts rest o d n = cast_op op line at ty s ts rest o d n
cast_mark CloseParen line at ty s ts rest o d n = needs_more (casting o d n)
cast_mark _ line at ty s ts rest o d n = tt

cast_read : {g : ℕ} (k : Sort) (line at : ℕ) (ty : TypeName) (s : Stack) (ts rest : List Seen) {us : List Seen} → Opened g s ts (mark OpenParen line ∷ us) → SpellsType ty us (on k at ∷ rest) → wants_of s ≤ 14 → ReadsOnSome g (end_cast k line ty s) ts rest
cast_read (sorts.Mark m) line at ty s ts rest o d n = cast_mark m line at ty s ts rest o d n
cast_read _ line at ty s ts rest o d n = tt

literal_mark : {g : ℕ} (m : Mark) (at : ℕ) (t : Tree) (s : Stack) (ts rest : List Seen) {us : List Seen} → Opened g s ts us → Closes t us (mark m at ∷ rest) → ReadsOnSome g (end_literal (sorts.Mark m) t s) ts rest
literal_mark CloseParen at t s ts rest o (array_closes d) = has o (array d) refl
literal_mark CloseParen at t s ts rest o (mapping_closes d) = has o (mapping d) refl
literal_mark _ at t s ts rest o d = tt

literal_read : {g : ℕ} (k : Sort) (at : ℕ) (t : Tree) (s : Stack) (ts rest : List Seen) {us : List Seen} → Opened g s ts us → Closes t us (on k at ∷ rest) → ReadsOnSome g (end_literal k t s) ts rest
literal_read (sorts.Mark m) at t s ts rest o d = literal_mark m at t s ts rest o d
literal_read _ at t s ts rest o d = tt

name_read : {g : ℕ} (k : Sort) (at : ℕ) (c : Callee) (s : Stack) (ts rest : List Seen) {us : List Seen} → Opened g s ts us → IsScope c us (on k at ∷ rest) → ReadsOnSome g (need_name k c s) ts rest
name_read (sorts.Name w) at c s ts rest o d = args_next o (behind d)
name_read _ at c s ts rest o d = tt

paren_mark : {g : ℕ} (m : Mark) (at : ℕ) (f : Frame) (s : Stack) (ts rest : List Seen) → Reads g (NeedParen f s) ts (mark m at ∷ rest) → ReadsOnSome g (need_paren (sorts.Mark m) f s) ts rest
paren_mark OpenParen at f s ts rest (args_next o d) = needs_more (in_args o d nothing)
paren_mark OpenParen at f s ts rest (catch_next o) = needs_more (in_catch o)
paren_mark OpenParen at f s ts rest (scan_next o) = needs_more (scan_text o)
paren_mark _ at f s ts rest r = tt

paren_read : {g : ℕ} (k : Sort) (at : ℕ) (f : Frame) (s : Stack) (ts rest : List Seen) → Reads g (NeedParen f s) ts (on k at ∷ rest) → ReadsOnSome g (need_paren k f s) ts rest
paren_read (sorts.Mark m) at f s ts rest r = paren_mark m at f s ts rest r
paren_read _ at f s ts rest r = tt

binds≤15 : (k : Sort) → binds k ≤ 15
binds≤15 (sorts.Mark m) = binds-most m
binds≤15 _ = omega arith

pub step_reads : {g : ℕ} (st : State) (k : Sort) (line : ℕ) (ts rest : List Seen) → Reads g st ts (on k line ∷ rest) → ReadsOnSome g (step st (on k line)) ts rest
step_reads (Need s) k line ts rest (needs_more o) = begun k line s ts rest o
step_reads {g} (Have t s) k line ts rest (has {us} o d h) = acted k line (settle (binds k) t s) ts rest (settled g (binds k) s ts (on k line ∷ rest) t us o d (omega (arith, wants-most s)) (omega (arith, binds≤15 k)))
step_reads (EndCast at ty s) k line ts rest (cast_end o d n) = cast_read k at line ty s ts rest o d n
step_reads (EndLiteral t s) k line ts rest (literal_end o d) = literal_read k line t s ts rest o d
step_reads (NeedName c s) k line ts rest (name_next o d) = name_read k line c s ts rest o d
step_reads (NeedParen f s) k line ts rest r = paren_read k line f s ts rest r

pub some_same : {a b : Tree} → Some a ≡ Some b → a ≡ b
some_same e = cc

-- the tokens spell the tree, and it has a level of g at least
abbrev pub Spelled : ℕ → Tree → List Seen → Type 0
Spelled g t ts = Spells t ts [] × (g ≤ rank t)

spelled_as : {g : ℕ} {t u : Tree} {ts : List Seen} → t ≡ u → Spelled g t ts → Spelled g u ts
spelled_as {g} {t} {u} {ts} e d = subst (λ x. Spelled g x ts) e d

finished_tree : {g : ℕ} (t : Tree) (ts : List Seen) (h : Option Held) → Fitting g h 0 ts [] → option_and_then whole_held h ≡ Some t → Spelled g t ts
finished_tree t ts None f e = cc
finished_tree t ts (Some h) (fitting bottom d n q r) e = spelled_as (some_same e) (d, r)
finished_tree t ts (Some h) (fitting alone d n q r) e = spelled_as (some_same e) (d, n)
finished_tree t ts (Some h) (fitting _ d n q r) e = cc

some-then : {g : ℕ} (st : Option State) (t : Tree) (xs ts : List Seen) → ReadsOnSome g st ts xs → ((next : State) → Reads g next ts xs → run next xs ≡ Some t → Spelled g t ts) → option_and_then (λ next. run next xs) st ≡ Some t → Spelled g t ts
some-then None t xs ts r ih e = cc
some-then (Some st) t xs ts r ih e = ih st r e

-- The tree that is read from tokens is spelled by them.
pub sound : {g : ℕ} (st : State) (t : Tree) (rest ts : List Seen) → Reads g st ts rest → run st rest ≡ Some t → Spelled g t ts
sound {g} (Have u s) t [] ts (has {us} o d h) e = finished_tree t ts (settle 0 u s) (settled g 0 s ts [] u us o d (omega (arith, wants-most s)) (omega arith)) e
sound (Need s) t [] ts r e = cc
sound (EndCast line ty s) t [] ts r e = cc
sound (EndLiteral u s) t [] ts r e = cc
sound (NeedName c s) t [] ts r e = cc
sound (NeedParen f s) t [] ts r e = cc
sound st t (x ∷ xs) ts r e = some-then (step st x) t xs ts (step_reads st x.sort x.line ts xs r) (λ next r'. sound next t xs ts r') e
