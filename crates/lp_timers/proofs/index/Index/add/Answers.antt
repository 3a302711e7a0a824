use Rattle.std.proofs.Common.{◌≡◌, false, ap, sym, subst, refl}
use Rattle.lp_timers.specs.Spots.{is_among}
use Rattle.lp_timers.proofs.IndexLemmas.{undone}
use Rattle.lp_timers.proofs.index.Index.add.Goals as goal

pub returns-in-Err-clause-err : goal.returns-in-Err-clause-err
returns-in-Err-clause-err c = λ new. record {
  all = λ s. undone c.among_all-alike.result s c.args.self.now.all.keys c.insert.new.self.keys c.remove.new.self.keys (subst (λ x. is_among c.args.self.now.all.keys x ≡ false) (sym c.among_all-alike.ensures) new.all) (c.in_ok-insert.ensures.updates.0 s) (c.remove.ensures.updates.0 s);
  objects = λ s. ap (λ ks. is_among ks s) c.in-Err.ensures.err;
  functions = λ g s. refl;
}

pub returns-in-Err-add-clause-err : goal.returns-in-Err-add-clause-err
returns-in-Err-add-clause-err c = λ new. record {
  all = λ s. undone c.among_all-alike.result s c.args.self.now.all.keys c.insert.new.self.keys c.remove-in-Err-add.new.self.keys (subst (λ x. is_among c.args.self.now.all.keys x ≡ false) (sym c.among_all-alike.ensures) new.all) (c.in_ok-insert.ensures.updates.0 s) (c.remove-in-Err-add.ensures.updates.0 s);
  objects = λ s. undone c.args.spot s c.args.self.now.objects.keys c.insert-2.new.self.keys c.remove-in-Err-add-2.new.self.keys new.objects (c.in-Ok.ensures.updates.0 s) (c.remove-in-Err-add-2.ensures.updates.0 s);
  functions = λ g s. c.in-Err-add.ensures.err g s;
}
