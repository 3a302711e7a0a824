-- The tokens of a source: no integer is negative, and each name is spelled as names are.
use Rattle.std.proofs.Common.{◌≡◌, ℕ, Bool, true, false, List, [], ◌∷◌, Option, Some, None, subst, sym, if◌then◌else◌, pos, ◌==◌, ◌&&◌, ◌||◌, not, refl}
use Rattle.std.specs.Prelude.{option_map, ⊤, All}
use Rattle.std.proofs.lemmas.List.Elements.{All-nil, All-append, All-cons}
use Rattle.lp_tree.specs.declared.token.Token.{Token}
use Rattle.lp_tree.specs.declared.token.TokenKind.{TokenKind}
use Rattle.lp_tree.specs.declared.token.TokenKind.TheVariants.{Name, Text, Int, Mark, Bad}
use Rattle.lp_tree.specs.declared.token.LexKind.TheVariants.{BadChar, OpenString, NumberTooLarge}
use Rattle.lp_tree.specs.Signs.{IsFromZero, IsUnsigned}
use Rattle.lp_lexer.specs.declared.sign.Sign.{Sign}
use Rattle.lp_lexer.specs.Source.{Rest, code_at, passed, skipped, front}
use Rattle.lp_lexer.specs.Marks.{Fit, longest}
use Rattle.lp_lexer.specs.Forms.{Read, read, name, number, text, literal, mark, marked, letter_at, is_letter, is_word, is_digit}
use Rattle.lp_lexer.specs.Lexis.{Place, Comment, next_by, Reaches, here, more, IsLexed, past_blank, past_line_comment, past_comment, past_token, comment_at, is_blank, opens_line, opens_block, token_from}
use Rattle.lp_preproc_laws.specs.Names.{IsWord, IsName, IsNamed}

-- a token as those of a source are
abbrev pub IsOfSource : TokenKind → Type 0
IsOfSource (Name cs) = IsName cs
IsOfSource (Text cs) = ⊤
IsOfSource (Int n) = IsFromZero n
IsOfSource (Mark m) = ⊤
IsOfSource (Bad k) = ⊤

pub to-unsigned : (k : TokenKind) → IsOfSource k → IsUnsigned k
to-unsigned (Name cs) h = tt
to-unsigned (Text cs) h = tt
to-unsigned (Int i) h = h
to-unsigned (Mark m) h = tt
to-unsigned (Bad k) h = tt

pub to-named : (k : TokenKind) → IsOfSource k → IsNamed k
to-named (Name cs) h = h
to-named (Text cs) h = tt
to-named (Int i) h = tt
to-named (Mark m) h = tt
to-named (Bad k) h = tt

-- the tokens are
abbrev pub AreOfSource : List Token → Type 0
AreOfSource ts = All (λ t. IsOfSource t.kind) ts

either : {A : Type 0} (P : A → Type 0) (b : Bool) (x y : A) → P x → P y → P (if b then x else y)
either P true x y h k = h
either P false x y h k = k

abbrev IsRead : Read → Type 0
IsRead r = IsOfSource r.kind

-- ---- One token

word-if : (b : Bool) (c : ℕ) (cs : List ℕ) → is_word c ≡ b → IsWord cs → IsWord (if b then (c ∷ cs) else [])
word-if true c cs e h = (e, h)
word-if false c cs e h = tt

front-word : (ss : List Sign) → IsWord (front is_word ss)
front-word [] = tt
front-word (s ∷ ss) = word-if (is_word s.code) s.code (front is_word ss) refl (front-word ss)

front-name : (ss : List Sign) → is_letter (code_at 0 ss) ≡ true → IsName (front is_word ss)
front-name [] h = cc
front-name (s ∷ ss) h = subst (λ b. IsName (if b || is_digit 10 s.code then (s.code ∷ front is_word ss) else [])) (sym h) (h, front-word ss)

marked-read : (f : Option Fit) (r : Rest) → IsOfSource (marked f r).kind
marked-read None r = tt
marked-read (Some f) r = tt

chosen-read : (b : Bool) (k : ℕ) (x y : Rest) → IsRead (if b then record { kind = Int (pos k); after = x } else record { kind = Bad BadChar; after = y })
chosen-read true k x y = tt
chosen-read false k x y = tt

literal-read : (r : Rest) → IsRead (literal r)
literal-read r =
    let quote = passed r.behind r.left in
    let l = letter_at quote.left in
    let close = skipped l.size quote.behind quote.left in
    chosen-read (not ((code_at 0 quote.left == 39) || (code_at 0 quote.left == 10)) && (code_at 0 close.left == 39)) l.code (passed close.behind close.left) quote

-- what begins with a letter is a name, and what does not is none
by-letter : (b : Bool) (r : Rest) (y : Read) → is_letter (code_at 0 r.left) ≡ b → IsRead y → IsRead (if b then name r else y)
by-letter true r y e h = front-name r.left e
by-letter false r y e h = h

read-one : (r : Rest) → IsOfSource (read r).kind
read-one r =
    by-letter (is_letter (code_at 0 r.left)) r _ refl
    (either IsRead (is_digit 10 (code_at 0 r.left)) (number r) _ (either IsOfSource _ (Int (pos _)) (Bad NumberTooLarge) tt tt)
    (either IsRead (code_at 0 r.left == 34) (text r) _ (either IsOfSource _ (Text _) (Bad OpenString) tt tt)
    (either IsRead (code_at 0 r.left == 39) (literal r) (mark r) (literal-read r)
    (marked-read (longest (code_at 0 r.left) (code_at 1 r.left) (code_at 2 r.left)) r))))

-- ---- All tokens

abbrev AreOfSourceAt : Option Place → Type 0
AreOfSourceAt None = ⊤
AreOfSourceAt (Some p) = AreOfSource p.tokens

comment-read : (p : Place) (c : Option Comment) → AreOfSource p.tokens → AreOfSourceAt (option_map (past_comment p) c)
comment-read p None h = tt
comment-read p (Some c) h = h

token-read : (p : Place) (s : Sign) → AreOfSource p.tokens → AreOfSource (past_token p s).tokens
token-read p s h =
    All-append (λ (t : Token). IsOfSource t.kind) p.tokens (token_from p.fresh s (read p.rest) ∷ []) h
    (All-cons (λ (t : Token). IsOfSource t.kind) (token_from p.fresh s (read p.rest)) [] (read-one p.rest) (All-nil (λ (t : Token). IsOfSource t.kind)))

by-read : (p : Place) (ss : List Sign) → AreOfSource p.tokens → AreOfSourceAt (next_by p ss)
by-read p [] h = tt
by-read p (s ∷ ss) h =
    either AreOfSourceAt (is_blank s.code) (Some (past_blank p)) _ h
    (either AreOfSourceAt (opens_line (s ∷ ss)) (Some (past_line_comment p)) _ h
    (either AreOfSourceAt (opens_block (s ∷ ss)) (option_map (past_comment p) (comment_at p.rest)) (Some (past_token p s)) (comment-read p (comment_at p.rest) h) (token-read p s h)))

reached-read : {a p : Place} → Reaches a p → AreOfSource a.tokens → AreOfSource p.tokens
reached-read here h = h
reached-read (more {p} {q} r e) h = subst AreOfSourceAt e (by-read p p.rest.left (reached-read r h))

pub lexed : (bs : List ℕ) (ts : List Token) → IsLexed bs ts → AreOfSource ts
lexed bs ts x = subst AreOfSource x.1.3 (reached-read x.1.1 (All-nil (λ (t : Token). IsOfSource t.kind)))
