-- What the text functions answer.
use Rattle.std.specs.Prelude.{◌≡◌, ◌<◌, ◌≤◌, ℕ, List, length, Result, Ok, Err}
use Rattle.lp_text.specs.declared.fault.TextFault.{TextFault}
use Rattle.lp_text.specs.declared.fault.TextFault.TheVariants.{TooLong, BadFormat, NoMemory}
use Rattle.lp_values.specs.Limits.{max_code_points}

-- the answer is this text where it has at most 100000 code points, and exactly above that it is TooLong; want of memory comes last
abbrev pub GivesText : Result (List ℕ) TextFault → List ℕ → Type 0
GivesText (Ok t) cs = (t ≡ cs) × (length cs ≤ max_code_points)
GivesText (Err TooLong) cs = max_code_points < length cs
GivesText (Err (BadFormat at)) cs = ⊥
GivesText (Err NoMemory) cs = length cs ≤ max_code_points
