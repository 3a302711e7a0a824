-- Expressions that are spelled have places where places must be.
use Rattle.std.proofs.Common.{refl, List}
use Rattle.lp_tree.specs.declared.seen.Seen.{Seen}
use Rattle.lp_tree.specs.declared.token.Mark.{Mark}
use Rattle.lp_tree.specs.Expressions.{Spells, int, string, name, paren, array, mapping, call, efun_call, parent_call, named_parent_call, catch, sscanf, index, range, call_other, post_step, pre_step, unary, cast, binary, and_then, or_else, cond, assign, sequence, SpellsParts, final, further, SpellsItems, none, last, more, SpellsPairs, no_pair, last_pair, more_pairs, SpellsPlaces, no_place, comma_last, one_place, SpellsEnd, missing, given}
use Rattle.lp_tree.specs.Trees.{Tree, Trees, Pairs, End}
use Rattle.lp_types_expr.specs.Meant.{HasPlaces, HavePlaces, ArePlaces, HavePlacesPairs, HasPlacesEnd}

mutual
  pub spelled : {t : Tree} {ts rest : List Seen} → Spells t ts rest → HasPlaces t
  spelled int = tt
  spelled string = tt
  spelled name = tt
  spelled (paren s) = spelled s
  spelled (array s) = items s
  spelled (mapping s) = key_values s
  spelled (call s) = items s
  spelled (efun_call s) = items s
  spelled (parent_call s) = items s
  spelled (named_parent_call s) = items s
  spelled (catch s) = spelled s
  spelled (sscanf s r f q p) = (spelled s, (spelled f, places p))
  spelled (index s r e i) = (spelled s, spelled i)
  spelled (range s r a b) = (spelled s, (of_end a, of_end b))
  spelled (call_other s r a) = (spelled s, items a)
  spelled (post_step s p) = (p, spelled s)
  spelled (pre_step s p) = (p, spelled s)
  spelled (unary u s r) = spelled s
  spelled (cast ty s r) = spelled s
  spelled (binary s q r p) = (spelled s, spelled r)
  spelled (and_then s q r p) = (spelled s, spelled r)
  spelled (or_else s q r p) = (spelled s, spelled r)
  spelled (cond s q y n p) = (spelled s, (spelled y, spelled n))
  spelled (assign s q v p) = (q, (spelled s, spelled v))
  spelled (sequence s q r) = (refl, (spelled s, parts r))

  parts : {ps : Trees} {ts rest : List Seen} → SpellsParts ps ts rest → HavePlaces ps
  parts (final s r) = (spelled s, tt)
  parts (further s r p) = (spelled s, parts p)

  items : {m : Mark} {ps : Trees} {ts rest : List Seen} → SpellsItems m ps ts rest → HavePlaces ps
  items none = tt
  items (last s r) = (spelled s, tt)
  items (more s r p) = (spelled s, items p)

  key_values : {ps : Pairs} {ts rest : List Seen} → SpellsPairs ps ts rest → HavePlacesPairs ps
  key_values no_pair = tt
  key_values (last_pair k q v r) = (spelled k, (spelled v, tt))
  key_values (more_pairs k q v r p) = (spelled k, (spelled v, key_values p))

  places : {ps : Trees} {ts rest : List Seen} → SpellsPlaces ps ts rest → ArePlaces ps
  places no_place = tt
  places comma_last = tt
  places (one_place s q p) = (q, (spelled s, places p))

  of_end : {e : End} {ts rest : List Seen} → SpellsEnd e ts rest → HasPlacesEnd e
  of_end missing = tt
  of_end (given d s) = spelled s
