-- What small pieces of LPC give, by computing it.
use Rattle.std.proofs.Common.{refl}
use Rattle.lp_values.specs.Errors.{error_text}
use Rattle.lp_language.specs.Operations.{is_false, binary, stepped, scan, local_of, with_local, labelled}
use Rattle.lp_sim.specs.Examples.{Examples, HasCode}

pub examples : Examples
unfolding error_text is_false binary stepped scan local_of with_local labelled
examples = record {
  sums = (refl, refl, refl);
  catches = (refl, refl, refl);
  scans = (refl, refl, refl);
  first = (refl, refl);
  second = (refl, refl);
  other = (refl, refl);
  turns = (refl, refl);
  spent = refl;
  part_a = refl;
  part_b = refl;
}

pub has_code : HasCode
has_code = record {
  of_successor = (5, (4, (0, refl, (4, (3, (1, (refl, refl), (2, (refl, refl), (refl, refl))), (refl, refl)), refl)), (refl, refl)));
  of_looking =
      (19, (18, (5, refl, (18, (7, (6, (refl, refl), (refl, refl)), (8, 14, 16, (refl, refl), (9, (refl, refl), (11, (11, (10, (refl, refl), (refl, refl)), refl), (14, (12, (refl, refl), (13, (refl, refl), (14, (refl, refl), refl))), refl))), (refl, (refl, refl)), (refl, (refl, refl)))), refl)), (refl, refl)));
}
