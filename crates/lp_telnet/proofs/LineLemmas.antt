-- What is kept of a line, and the first of the lines.
use Rattle.std.proofs.Common.{◌≡◌, ℕ, zero, suc, ◌≤◌, List, [], ◌∷◌, ◌++◌, length, take, nat_eq, refl, sym, ap, ◌∙◌, append-nil, inl, inr}
use Rattle.std.proofs.Math.Seq.{take-length, take-append_seam}
use Rattle.std.proofs.lemmas.Bool.{cases_Bool}
use Rattle.std.proofs.lemmas.List.{take_all, take-append-le}
use Rattle.lp_telnet.specs.declared.command.Within.{Within}
use Rattle.lp_telnet.specs.declared.command.Within.TheVariants.{Text, Command, Negotiation, Subnegotiation, SubnegotiationCommand}
use Rattle.lp_telnet.specs.Lines.{max_line, ended, first_line, BeginsWith, Place, text_from, lines_from}

pub max_line-is : max_line ≡ 4096
unfolding max_line
max_line-is = refl

-- bytes past those that are kept make no difference
pub kept_alike : (n : ℕ) (a b : List ℕ) (x : ℕ) → take n a ≡ take n b → take n (a ++ x ∷ []) ≡ take n (b ++ x ∷ [])
kept_alike zero a b x e = refl
kept_alike (suc n) [] [] x e = refl
kept_alike (suc n) [] (z ∷ b) x e = cc
kept_alike (suc n) (y ∷ a) [] x e = cc
kept_alike (suc n) (y ∷ a) (z ∷ b) x e =
    let head : y ≡ z = cc in
    let tail : take n a ≡ take n b = cc in
    let more = kept_alike n a b x tail in
    cc

pub ended-alike : (a b bs : List ℕ) → take max_line a ≡ take max_line b → ended a bs ≡ ended b bs
ended-alike a b [] e = refl
ended-alike a b (c ∷ cs) e =
    elim (cases_Bool (nat_eq c 10)) [
      | inl y ↦ rw y (ap (λ l. l ∷ ended [] cs) e)
      | inr n ↦ rw n (ended-alike (a ++ c ∷ []) (b ++ c ∷ []) cs (kept_alike max_line a b c e))
    ]

-- a whole line is kept
pub whole_kept : (a : List ℕ) → length a ≤ 4096 → take max_line a ≡ a
whole_kept a h = take_all max_line a (rw max_line-is h)

pub full_kept : (a : List ℕ) (x : ℕ) → 4096 ≤ length a → take max_line a ≡ take max_line (a ++ x ∷ [])
full_kept a x h = let le : max_line ≤ length a = rw max_line-is h in sym (take-append-le max_line a (x ∷ []) le)

-- beginnings
pub begins_itself : (a : List ℕ) → BeginsWith a a
begins_itself a = take-length a

pub begins_appended : (a b : List ℕ) → BeginsWith a (a ++ b)
begins_appended a b = take-append_seam a b

pub begins_onward : (a b c : List ℕ) → BeginsWith a b → BeginsWith b c → BeginsWith a c
begins_onward [] b c e f = refl
begins_onward (x ∷ a) [] c e f = cc
begins_onward (x ∷ a) (y ∷ b) [] e f = cc
begins_onward (x ∷ a) (y ∷ b) (z ∷ c) e f =
    let one : y ≡ x = cc in
    let two : z ≡ y = cc in
    let tail_e : take (length a) b ≡ a = cc in
    let tail_f : take (length b) c ≡ b = cc in
    let more = begins_onward a b c tail_e tail_f in
    cc

-- the first line once the last has ended
pub first_of_ended : (ls : List (List ℕ)) (l : List ℕ) → first_line (ls ++ l ∷ []) [] ≡ first_line ls l
first_of_ended [] l = refl
first_of_ended (x ∷ xs) l = refl

-- the first line once there is more of the last
pub first_of_longer : (ls : List (List ℕ)) (l m : List ℕ) → BeginsWith l m → BeginsWith (first_line ls l) (first_line ls m)
first_of_longer [] l m e = e
first_of_longer (x ∷ xs) l m e = take-length x

-- nothing gives no text and no lines
text_from-none : (w : Within) → text_from w [] ≡ []
text_from-none Text = refl
text_from-none Command = refl
text_from-none Negotiation = refl
text_from-none Subnegotiation = refl
text_from-none SubnegotiationCommand = refl

pub lines_from-none : (p : Place) → lines_from p [] ≡ []
lines_from-none p = rw (text_from-none p.within) refl

-- the lines of a piece alone
pub of_piece : (old new : Place) (lines : List (List ℕ)) (bytes : List ℕ) → lines ++ lines_from new [] ≡ lines_from old (bytes ++ []) → lines ≡ lines_from old bytes
of_piece old new lines bytes e =
    sym (append-nil lines) ∙ ap (λ x. lines ++ x) (sym (lines_from-none new)) ∙ e ∙ ap (lines_from old) (append-nil bytes)
