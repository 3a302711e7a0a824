-- What the walk over a source does.
use Rattle.std.specs.Prelude.{◌≡◌, List, [], ◌∷◌, Bool, Option, Some, None}
use Rattle.lp_lexer.specs.declared.sign.Sign.{Sign}
use Rattle.lp_lexer.specs.declared.lexer.Lexer.{Lexer}
use Rattle.lp_lexer.specs.declared.lexer.Step.{Step}
use Rattle.lp_lexer.specs.declared.lexer.Step.TheVariants as step
use Rattle.lp_lexer.specs.declared.lexer.Walk.{Walk}
use Rattle.lp_lexer.specs.declared.lexer.Walk.TheVariants as walks
use Rattle.lp_lexer.specs.Source.{Rest}
use Rattle.lp_lexer.specs.Lexis.{Comment, Place, next, ReachesEnd, ReachesOpenComment}

-- the comment that was read, if it has an end
abbrev pub IsCommentOf : Option Comment → Option Bool → Rest → Type 0
IsCommentOf c None after = c ≡ None
IsCommentOf c (Some crosses) after = c ≡ Some (record { crosses = crosses; after = after })

-- the place that a lexer is at
abbrev pub place_of : Lexer → Place
place_of l = record { rest = l.cursor; fresh = l.fresh; tokens = l.tokens.items }

-- one step of the walk, or why there is none
abbrev pub IsStep : Place → Step → Place → Type 0
IsStep old step.Went new = next old ≡ Some new
IsStep old step.End new = (old.rest.left ≡ []) × (new ≡ old)
IsStep old (step.Open at) new = (s : Sign) × (ss : List Sign) × (old.rest.left ≡ s ∷ ss) × (next old ≡ None) × (s.at ≡ at)

-- where a walk ends
abbrev pub IsWalk : Place → Walk → Type 0
IsWalk from (walks.Whole v) = ReachesEnd from v.items
IsWalk from (walks.Open at) = ReachesOpenComment from at
