use Rattle.std.proofs.Common.{◌≡◌, None, cond, refl, subst, ℕ}
use Rattle.std.specs.Ordering.{nat_cmp}
use Rattle.std.specs.BTreeMap.{get}
use Rattle.lp_objects.specs.Stands.{is_among}
use Rattle.lp_objects.proofs.TableLemmas.{stands_forgotten}
use Rattle.lp_objects.proofs.objects.Objects.forget_dead.Goals as goal

pub returns-clause-same : goal.returns-clause-same
returns-clause-same c = λ objects st.
    let each : (n : ℕ) → get nat_cmp c.take_out_all.new.entries n ≡ cond (is_among n c.args.self.now.died.items) None (get nat_cmp c.args.self.now.entries n) =
    subst (λ os. (n : ℕ) → get nat_cmp c.take_out_all.new.entries n ≡ cond (is_among n os) None (get nat_cmp c.args.self.now.entries n)) c.as_slice.ensures.value c.take_out_all.ensures in
    stands_forgotten c.args.self.now (record { alloc = c.args.self.now.alloc; next = c.args.self.now.next; clones = c.args.self.now.clones; serials = c.args.self.now.serials; entries = c.take_out_all.new.entries; died = c.clear.new.self }) objects st (record {
      next = refl;
      serials = refl;
      entries = each;
      died = c.clear.ensures.items;
      len = c.clear.ensures.len;
      capacity = c.clear.ensures.capacity;
    })
