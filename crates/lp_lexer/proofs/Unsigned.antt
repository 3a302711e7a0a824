-- Integer tokens are not negative.
use Rattle.std.proofs.Common.{ℕ, Bool, true, false, List, [], ◌∷◌, Option, Some, None, subst, if◌then◌else◌, pos, ◌==◌, ◌&&◌, ◌||◌, not}
use Rattle.std.specs.Prelude.{option_map, ⊤}
use Rattle.std.proofs.lemmas.List.Elements.{All-nil, All-append, All-cons}
use Rattle.lp_tree.specs.declared.token.Token.{Token}
use Rattle.lp_tree.specs.declared.token.TokenKind.TheVariants.{Text, Int, Bad}
use Rattle.lp_tree.specs.declared.token.LexKind.TheVariants.{BadChar, OpenString, NumberTooLarge}
use Rattle.lp_tree.specs.Signs.{IsUnsigned, AreUnsigned}
use Rattle.lp_lexer.specs.declared.sign.Sign.{Sign}
use Rattle.lp_lexer.specs.Source.{Rest, code_at, passed, skipped}
use Rattle.lp_lexer.specs.Marks.{Fit, longest}
use Rattle.lp_lexer.specs.Forms.{Read, read, name, number, text, literal, mark, marked, letter_at, is_letter, is_digit}
use Rattle.lp_lexer.specs.Lexis.{Place, Comment, next_by, Reaches, here, more, IsLexed, past_blank, past_line_comment, past_comment, past_token, comment_at, is_blank, opens_line, opens_block, token_from}

either : {A : Type 0} (P : A → Type 0) (b : Bool) (x y : A) → P x → P y → P (if b then x else y)
either P true x y h k = h
either P false x y h k = k

marked-unsigned : (f : Option Fit) (r : Rest) → IsUnsigned (marked f r).kind
marked-unsigned None r = tt
marked-unsigned (Some f) r = tt

abbrev IsRead : Read → Type 0
IsRead r = IsUnsigned r.kind

chosen-unsigned : (b : Bool) (k : ℕ) (x y : Rest) → IsRead (if b then record { kind = Int (pos k); after = x } else record { kind = Bad BadChar; after = y })
chosen-unsigned true k x y = tt
chosen-unsigned false k x y = tt

literal-unsigned : (r : Rest) → IsRead (literal r)
literal-unsigned r =
    let quote = passed r.behind r.left in
    let l = letter_at quote.left in
    let close = skipped l.size quote.behind quote.left in
    chosen-unsigned (not ((code_at 0 quote.left == 39) || (code_at 0 quote.left == 10)) && (code_at 0 close.left == 39)) l.code (passed close.behind close.left) quote

-- whatever is read: what has an integer has it from a number of digits, or from a code point
read-unsigned : (r : Rest) → IsUnsigned (read r).kind
read-unsigned r =
    either IsRead (is_letter (code_at 0 r.left)) (name r) _ tt
    (either IsRead (is_digit 10 (code_at 0 r.left)) (number r) _ (either IsUnsigned _ (Int (pos _)) (Bad NumberTooLarge) tt tt)
    (either IsRead (code_at 0 r.left == 34) (text r) _ (either IsUnsigned _ (Text _) (Bad OpenString) tt tt)
    (either IsRead (code_at 0 r.left == 39) (literal r) (mark r) (literal-unsigned r)
    (marked-unsigned (longest (code_at 0 r.left) (code_at 1 r.left) (code_at 2 r.left)) r))))

abbrev AreUnsignedAt : Option Place → Type 0
AreUnsignedAt None = ⊤
AreUnsignedAt (Some p) = AreUnsigned p.tokens

comment-unsigned : (p : Place) (c : Option Comment) → AreUnsigned p.tokens → AreUnsignedAt (option_map (past_comment p) c)
comment-unsigned p None h = tt
comment-unsigned p (Some c) h = h

token-unsigned : (p : Place) (s : Sign) → AreUnsigned p.tokens → AreUnsigned (past_token p s).tokens
token-unsigned p s h =
    All-append (λ (t : Token). IsUnsigned t.kind) p.tokens (token_from p.fresh s (read p.rest) ∷ []) h
    (All-cons (λ (t : Token). IsUnsigned t.kind) (token_from p.fresh s (read p.rest)) [] (read-unsigned p.rest) (All-nil (λ (t : Token). IsUnsigned t.kind)))

by-unsigned : (p : Place) (ss : List Sign) → AreUnsigned p.tokens → AreUnsignedAt (next_by p ss)
by-unsigned p [] h = tt
by-unsigned p (s ∷ ss) h =
    either AreUnsignedAt (is_blank s.code) (Some (past_blank p)) _ h
    (either AreUnsignedAt (opens_line (s ∷ ss)) (Some (past_line_comment p)) _ h
    (either AreUnsignedAt (opens_block (s ∷ ss)) (option_map (past_comment p) (comment_at p.rest)) (Some (past_token p s)) (comment-unsigned p (comment_at p.rest) h) (token-unsigned p s h)))

reached-unsigned : {a p : Place} → Reaches a p → AreUnsigned a.tokens → AreUnsigned p.tokens
reached-unsigned here h = h
reached-unsigned (more {p} {q} r e) h = subst AreUnsignedAt e (by-unsigned p p.rest.left (reached-unsigned r h))

pub lexed-unsigned : (bs : List ℕ) (ts : List Token) → IsLexed bs ts → AreUnsigned ts
lexed-unsigned bs ts x = subst AreUnsigned x.1.3 (reached-unsigned x.1.1 (All-nil (λ (t : Token). IsUnsigned t.kind)))
