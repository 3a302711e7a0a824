-- Where reading stops.
use Rattle.std.proofs.Common.{◌≡◌, ℕ, ◌+◌, ◌≤◌, ◌<◌, max, List, length, take, get_or, inl, ap, sym, ◌∙◌, subst, arith}
use Rattle.std.specs.Prelude.{Option, Some, None}
use Rattle.std.proofs.lemmas.List.Elements.{All-get_or}
use Rattle.lp_tree.specs.declared.keyword.Keyword.{Keyword}
use Rattle.lp_tree.specs.declared.token.Token.{Token}
use Rattle.lp_tree.specs.declared.token.TokenKind.{TokenKind}
use Rattle.lp_tree.specs.declared.token.TokenKind.TheVariants as kinds
use Rattle.lp_tree.specs.declared.seen.Seen.{Seen}
use Rattle.lp_tree.specs.Keywords.{keyword_of}
use Rattle.lp_tree.specs.Seen.{seen, sort_of, named_as}
use Rattle.lp_tree.specs.Signs as signs
use Rattle.lp_tree.specs.Signs.{AreUnsigned}
use Rattle.lp_parser_expr.specs.Capped.{capped}
use Rattle.lp_parser_stmt.specs.Moves.{IsUnsigned}
use Rattle.lp_parser.specs.declared.focus.Focus.{Focus}
use Rattle.lp_parser.specs.Machine.{Before, State, start, step, walk}
use Rattle.lp_parser.specs.Depth.{here, least}
use Rattle.lp_parser.specs.Moves.{Goes, state_of}
use Rattle.lp_parser.specs.Stops.{Stands, IsStuck}
use Rattle.lp_parser.specs.Theorem.{sight}
use Rattle.lp_parser.proofs.Levels.{step-levels}
use Rattle.lp_parser.proofs.Main.{walk_more}

named_unsigned : (w : List ℕ) (o : Option Keyword) → IsUnsigned (named_as w o)
named_unsigned w None = tt
named_unsigned w (Some k) = tt

sort_unsigned : (k : TokenKind) → signs.IsUnsigned k → IsUnsigned (sort_of k)
sort_unsigned (kinds.Name w) u = named_unsigned w (keyword_of w)
sort_unsigned (kinds.Text w) u = tt
sort_unsigned (kinds.Int n) u = u
sort_unsigned (kinds.Mark m) u = tt
sort_unsigned (kinds.Bad k) u = tt

pub unsigned_at : (ts : List Token) (i : ℕ) (d : Token) (x : Seen) → AreUnsigned ts → i < length ts → x ≡ seen d → d ≡ get_or ts i d → IsUnsigned x.sort
unsigned_at ts i d x u h e w =
    subst (λ y. IsUnsigned y.sort) (sym e) (sort_unsigned d.kind (subst (λ t. signs.IsUnsigned t.kind) (sym w) (All-get_or (λ t. signs.IsUnsigned t.kind) ts i d h u)))

at_token : (st : State) (x : Seen) (ts : List Token) (i : ℕ) (d : Token) (o : Option State) → x ≡ seen d → d ≡ get_or ts i d → step st x ≡ o → step st (seen (get_or ts i d)) ≡ o
at_token st x ts i d o e w h = ap (λ y. step st (seen y)) (sym w) ∙ ap (step st) (sym e) ∙ h

goes_none : (o : Option State) (b : Before) (r : Option Focus) → Goes o b r → r ≡ None → o ≡ None
goes_none o b r g e = subst (λ y. Goes o b y) e g

goes_some : (o : Option State) (b : Before) (r : Option Focus) (f : Focus) → Goes o b r → r ≡ Some f → o ≡ Some (state_of f b)
goes_some o b r f g e = subst (λ y. Goes o b y) e g

-- a token is refused
pub refused_at : (limit : ℕ) (ts : List Token) (i : ℕ) (d : Token) (st : State) (x : Seen) (b : Before) (r : Option Focus)
    → i < length ts → walk start (sight (take i ts)) ≡ Some st → least st ≤ limit → x ≡ seen d → d ≡ get_or ts i d → Goes (step st x) b r → r ≡ None
    → (s : State) × Stands limit ts i s × IsStuck ts i s
refused_at limit ts i d st x b r h w k e f g n = (
  st,
  record { within = omega (arith, h); walked = w; shallow = k },
  inl (h, walk_more ts i d st None h w (at_token st x ts i d None e f (goes_none _ b r g n))),
)

-- a token leads on
pub walked_on : (ts : List Token) (i : ℕ) (d : Token) (st : State) (x : Seen) (b : Before) (r : Option Focus) (f : Focus)
    → i < length ts → walk start (sight (take i ts)) ≡ Some st → x ≡ seen d → d ≡ get_or ts i d → Goes (step st x) b r → r ≡ Some f
    → walk start (sight (take (i + 1) ts)) ≡ Some (state_of f b)
walked_on ts i d st x b r f h w e k g n = walk_more ts i d st (Some (state_of f b)) h w (at_token st x ts i d (Some (state_of f b)) e k (goes_some _ b r f g n))

-- and adds the depth of what has to come
pub risen : (st : State) (x : Seen) (b : Before) (r : Option Focus) (f : Focus) → Goes (step st x) b r → r ≡ Some f → least (state_of f b) ≡ max (least st) (here (state_of f b))
risen st x b r f g n = step-levels st (state_of f b) x (goes_some _ b r f g n)

pub deeper_than : (limit n old k new : ℕ) → n ≡ capped k → limit < n → new ≡ max old k → limit < new
deeper_than limit n old k new e h w = omega (arith, e, h, w)

pub still_within : (limit n old k new : ℕ) → n ≡ capped k → limit ≤ 200 → n ≤ limit → old ≤ limit → new ≡ max old k → new ≤ limit
still_within limit n old k new e c h o w = omega (arith, e, c, h, o, w)
