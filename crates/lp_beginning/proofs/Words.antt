-- What the log tells of a stop, from the words of its place.
use Rattle.std.proofs.Common.{◌≡◌, ◌∙◌, ℕ, List, ◌++◌, Option, Some, ap, sym, unwrap_or, slice_get}
use Rattle.std.specs.Prelude.{codes, option_map}
use Rattle.lp_values.specs.declared.id.ProgId.{ProgId}
use Rattle.lp_code.specs.declared.program.RawProgram.{RawProgram}
use Rattle.lp_swapfile.specs.Device.{Bytes}
use Rattle.lp_language.specs.World as world
use Rattle.lp_language.specs.World.{no_version}
use Rattle.lp_language.specs.Resolve.{without_c}
use Rattle.lp_world.specs.declared.live.Live.{Live}
use Rattle.lp_world.specs.declared.versions.Version.{Version}
use Rattle.lp_world.specs.Rows.{row_at}
use Rattle.lp_residence.proofs.RowChanges.{row_there}
use Rattle.lp_part_laws.proofs.Lists.{one_value}
use Rattle.lp_targets.specs.Brought.{program_at}
use Rattle.lp_targets.proofs.Worlds.{program_is}
use Rattle.lp_asking.specs.declared.ending.Place.{Place}
use Rattle.lp_beginning.specs.Reports.{IsFunctionName, IsObjectName, IsPlaceText, IsProgramName, place_words}

-- words put one behind another
pub words_put : (f p o a b c d e g h : List ℕ) → a ≡ codes " [" → b ≡ a ++ f → c ≡ b ++ codes " of " → d ≡ c ++ p → e ≡ d ++ codes ", object " → g ≡ e ++ o → h ≡ g ++ codes "]" → h ≡ place_words f p o
words_put f p o a b c d e g h ea eb ec ed ee eg eh =
    eh ∙ ap (λ z. z ++ codes "]") (eg ∙ ap (λ z. z ++ o) (ee ∙ ap (λ z. z ++ codes ", object ") (ed ∙ ap (λ z. z ++ p) (ec ∙ ap (λ z. z ++ codes " of ") (eb ∙ ap (λ z. z ++ f) ea)))))

pub stop_put : (cause place a b c : List ℕ) → a ≡ codes "error: " → b ≡ a ++ cause → c ≡ b ++ place → c ≡ codes "error: " ++ cause ++ place
stop_put cause place a b c ea eb ec = ec ∙ ap (λ z. z ++ place) (eb ∙ ap (λ z. z ++ cause) ea)

-- the name of a function, by the program that is in memory
pub function_named : (live : Live) (p : ProgId) (fun : ℕ) (raw : RawProgram) (text : List ℕ) → program_at live.versions p ≡ Some raw → ((name : List ℕ) → option_map (λ f. f.name) (slice_get raw.funs fun) ≡ Some name → text ≡ name) → IsFunctionName live p fun text
function_named live p fun raw text here f told programs w code name s e g =
    let same : raw ≡ code = one_value (slice_get programs p.0) raw code (program_is told programs live w p raw s here) e in
    f name (ap (λ (r : RawProgram). option_map (λ f. f.name) (slice_get r.funs fun)) same ∙ g)

-- the path of a version's file
pub program_named : (live : Live) (p : ProgId) (row : Version) (text : List ℕ) → row_at live.versions p.0 ≡ Some row → text ≡ without_c row.path → IsProgramName live p text
program_named live p row text there e told programs w s =
    let is = s.versions.each p.0 row (row_there live.versions p.0 row there) in
    e ∙ ap without_c (is.path ∙ ap (λ (o : Option world.Version). (unwrap_or o no_version).path) (sym is.there))

-- the words of a place
pub place_told : (live : Live) (at : Place) (function program object text : List ℕ) → IsFunctionName live at.program at.fun function → IsProgramName live at.program program → IsObjectName live at.this object → text ≡ place_words function program object
    → (told : Option Bytes) → IsPlaceText told live at text
place_told live at function program object text f p o e told programs w place s is =
    e ∙ ap (λ z. place_words z program object) (f told programs w is.raw place.function s is.is is.function)
    ∙ ap (λ z. place_words place.function z object) (p told programs w s ∙ sym is.program)
    ∙ ap (λ z. place_words place.function place.program z) (o told programs w s ∙ sym is.object)
