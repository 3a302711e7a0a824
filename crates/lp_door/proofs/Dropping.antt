-- The end of a line that grows byte by byte.
use Rattle.std.proofs.Common.{◌≡◌, ◌∙◌, ℕ, ◌≤◌, List, ◌++◌, length, take, drop, refl, sym, ap, append-nil, arith}
use Rattle.std.proofs.lemmas.List.{take-append-le, take_all, drop_all}
use Rattle.lp_telnet.specs.Lines.{max_line}
use Rattle.lp_door.specs.Doors.{line_of, without_dropped}

pub max_line-is : max_line ≡ 4096
unfolding max_line
max_line-is = refl

-- a line that is full is the line of the message
pub full : (line rest message : List ℕ) → length line ≡ 4096 → line ++ rest ≡ without_dropped message → line ≡ line_of message
full line rest message n e =
    let le : max_line ≤ length line = rw max_line-is (omega (arith, n)) in
    let le' : length line ≤ max_line = rw max_line-is (omega (arith, n)) in
    sym (take_all max_line line le') ∙ sym (take-append-le max_line line rest le) ∙ ap (take max_line) e

-- and so is one to which nothing is added any more
pub ended : (line message : List ℕ) (i : ℕ) → length line ≤ 4096 → length message ≤ i → line ++ without_dropped (drop i message) ≡ without_dropped message → line ≡ line_of message
ended line message i n past e =
    let le : length line ≤ max_line = rw max_line-is n in
    sym (take_all max_line line le)
    ∙ ap (take max_line) (sym (append-nil line) ∙ ap (λ xs. line ++ without_dropped xs) (sym (drop_all i message past)) ∙ e)
