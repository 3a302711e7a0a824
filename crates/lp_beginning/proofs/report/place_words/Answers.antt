use Rattle.std.specs.Str.{chars}
use Rattle.lp_beginning.proofs.Words.{words_put}
use Rattle.lp_beginning.proofs.report.place_words.Goals as goal

pub returns : goal.returns
unfolding chars
returns c =
    words_put c.args.function.now c.args.program.now c.args.object.now c.in_ok-text.text.items c.extend_from_slice.new.self.items c.add.new.text.items c.extend_from_slice-2.new.self.items c.add-2.new.text.items c.extend_from_slice-3.new.self.items c.add-3.new.text.items
    c.in_ok-text.ensures c.in_ok-extend_from_slice.ensures.items c.in_ok-add.ensures c.in_ok-extend_from_slice-2.ensures.items c.in_ok-add-2.ensures c.in_ok-extend_from_slice-3.ensures.items c.in_ok-add-3.ensures
