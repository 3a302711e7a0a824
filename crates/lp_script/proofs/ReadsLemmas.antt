-- What a reader of one item answers.
use Rattle.std.proofs.Common.{◌≡◌, ap, sym, ◌∙◌, ℕ, List, [], ◌++◌, Result, Ok, Err, length, arith, append_assoc}
use Rattle.std.specs.Borrow.{Bor}
use Rattle.std.proofs.lemmas.List.{append-nil, length-append}
use Rattle.lp_events.specs.declared.item.Item.{Item}
use Rattle.lp_events.specs.Script.{Context, Fits, spelling, BeginsWith, IsBegun}
use Rattle.lp_script.specs.declared.stop.Stop.TheVariants.{Short, Wrong}
use Rattle.lp_script.specs.declared.stop.ReadError.{ReadError}
use Rattle.lp_script.specs.declared.stop.ReadError.TheVariants as errors
use Rattle.lp_script.specs.Reading.{Gives}
use Rattle.lp_script.specs.Items.{item_at}
use Rattle.lp_script.specs.Reads.{ReadsItem}
use Rattle.lp_script.proofs.Exact.{cancel}
use Rattle.lp_script.proofs.Sorts.{item_exact}

-- what is begun is no whole item: no spelling is a front of another
begun_only : (c : Context) (bytes : List ℕ) → IsBegun c bytes → (x : Item) → BeginsWith c bytes x → ⊥
begun_only c bytes s x b =
    let parts : spelling x ++ (b.others ++ s.others) ≡ spelling s.item ++ [] = sym (append_assoc (spelling x) b.others s.others) ∙ ap (λ (r : List ℕ). r ++ s.others) (sym b.spelled) ∙ sym s.spelled ∙ sym (append-nil (spelling s.item)) in
    let same : x ≡ s.item = (item_exact c).free x s.item (b.others ++ s.others) [] b.fits s.fits parts in
    let none : b.others ++ s.others ≡ [] = cancel (spelling x) (b.others ++ s.others) [] (parts ∙ ap (λ (y : Item). spelling y ++ []) (sym same)) in
    omega (arith, ap length none, length-append b.others s.others, s.some)

pub reads_item : (c : Context) (bytes : List ℕ) (r : Result (Item × Bor (List ℕ)) ReadError) → Gives (λ x. (x.0, x.1.now)) r (item_at c bytes) → ReadsItem c bytes r
reads_item c bytes (Ok x) e = (item_exact c).takes bytes x.0 x.1.now e
reads_item c bytes (Err errors.NoMemory) e = tt
reads_item c bytes (Err (errors.Stop Short)) e =
    let s = (item_exact c).short bytes e in
    let b : IsBegun c bytes = record { item = s.value; fits = s.fit; others = s.others; some = s.some; spelled = s.spelled } in
    (b, begun_only c bytes b)
reads_item c bytes (Err (errors.Stop Wrong)) e = (
  λ s. (item_exact c).wrong bytes e s.item [] s.others s.fits (append-nil (spelling s.item) ∙ s.spelled),
  λ x b. (item_exact c).wrong bytes e x b.others [] b.fits (sym b.spelled ∙ sym (append-nil bytes)),
)

pub one_spelling_lem : (c : Context) (x y : Item) (a b : List ℕ) → Fits c x → Fits c y → spelling x ++ a ≡ spelling y ++ b → x ≡ y
one_spelling_lem c x y a b f g e = (item_exact c).free x y a b f g e
