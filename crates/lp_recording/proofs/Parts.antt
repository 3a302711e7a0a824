-- What is written in parts.
use Rattle.std.proofs.Common.{◌≡◌, ap, sym, refl, ◌∙◌, ℕ, List, [], ◌∷◌, ◌++◌, map}
use Rattle.std.proofs.lemmas.List.{append-nil, append_assoc}
use Rattle.lp_events.specs.Script.{spelling, spellings}
use Rattle.lp_events.specs.declared.item.Item.{Item}
use Rattle.lp_events.specs.declared.item.Item.TheVariants as items
use Rattle.lp_wire.specs.Record.{file_item, opening_items}

spellings_append : (a b : List Item) → spellings (a ++ b) ≡ spellings a ++ spellings b
spellings_append [] b = refl
spellings_append (x ∷ a) b = ap (λ bs. spelling x ++ bs) (spellings_append a b) ∙ sym (append_assoc (spelling x) (spellings a) (spellings b))

-- the head, the files and the start
pub opening_parts : (seed moment : ℕ) (files : List (List ℕ × List ℕ))
    → spellings (opening_items seed moment files) ≡ (spelling (items.Head seed moment) ++ spellings (map file_item files)) ++ spelling items.Start
opening_parts seed moment files =
    ap (λ bs. spelling (items.Head seed moment) ++ bs) (spellings_append (map file_item files) (items.Start ∷ []) ∙ ap (λ bs. spellings (map file_item files) ++ bs) (append-nil (spelling items.Start)))
    ∙ sym (append_assoc (spelling (items.Head seed moment)) (spellings (map file_item files)) (spelling items.Start))
