use Rattle.std.proofs.Common.{◌≡◌, ◌∙◌, ◌++◌, ap, codes, sym}
use Rattle.lp_front_end.specs.Parents.{file_bytes}
use Rattle.lp_loading.proofs.FilesRead.{file_of_front}
use Rattle.lp_loading.proofs.Worlds.{front_text}
use Rattle.lp_loading.proofs.reading.parent_name.Goals as goal

pub returns-in_ok-from_str-in-Some-clause-file : goal.returns-in_ok-from_str-in-Some-clause-file
returns-in_ok-from_str-in-Some-clause-file c =
    let file = c.args.file.now in
    let name = c.in-Some.name.now in
    let e : file ≡ name ++ codes ".c" = c.in-Some.ensures.cases.1.1 ∙ ap (λ l. l ++ codes ".c") (sym c.in-Some.ensures.cases.2) in
    file_of_front file name (front_text file name c.utf8.file e) e ∙ ap file_bytes (sym c.in_ok-from_str-in-Some.ensures)
