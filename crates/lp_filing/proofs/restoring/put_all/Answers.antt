use Rattle.std.proofs.Common.{◌≡◌, [], ◌∷◌, arith, rules, subst, sym}
use Rattle.std.proofs.lemmas.Grind.{common_steps}
use Rattle.std.proofs.lemmas.List.{nil_from_length}
use Rattle.std.specs.Vec.Iter.{into_iter_items}
use Rattle.lp_filing.proofs.Putting.{HasPut, put_more, put_none, put_whole}
use Rattle.lp_filing.proofs.restoring.put_all.Goals as goal

pub loop-value-init : goal.loop-value-init
loop-value-init c =
    let e : into_iter_items c.into_iter-value-iterator.result ≡ c.args.given.items = search rules in
    record {
      memory = c.requires;
      put = subst (λ r. HasPut c.args.objects.now c.args.objects.now c.args.this c.args.places.now c.args.given.items 0 r) (sym e) (put_none c.args.objects.now c.args.this c.args.places.now c.args.given.items);
    }

pub loop-value-preserved : goal.loop-value-preserved
loop-value-preserved c =
    let e : into_iter_items c.loop-value.value-iterator ≡ c.in-Some.value ∷ into_iter_items c.next.new.self = search rules in
    record {
      memory = c.put_next.ensures.memory;
      put = put_more c.args.objects.now c.loop-value.objects c.put_next.new.objects c.args.this c.args.places.now c.args.given.items c.loop-value.at c.put_next.new.at c.in-Some.value (into_iter_items c.loop-value.value-iterator) (into_iter_items c.next.new.self) e
          c.loop-value.invariant.put c.put_next.ensures.put;
    }

pub returns : goal.returns
returns c =
    let e : into_iter_items c.loop-value.value-iterator ≡ [] = first_of (grind (arith, common_steps), search (rules, nil_from_length)) in
    put_whole c.args.objects.now c.loop-value.objects c.args.this c.args.places.now c.args.given.items c.loop-value.at (into_iter_items c.loop-value.value-iterator) e c.loop-value.invariant.put
