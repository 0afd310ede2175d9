use Rattle.std.proofs.Common.{arith}
use Rattle.std.proofs.lemmas.Map.Text.{text_keys}
use Rattle.tim_io.proofs.file_shelf.FileShelfShelf.take.Goals as goal

pub returns-in-Some-clause-other_faults : goal.returns-in-Some-clause-other_faults
returns-in-Some-clause-other_faults g c = grind (arith, text_keys)

pub returns-in-Some-clause-other_files : goal.returns-in-Some-clause-other_files
returns-in-Some-clause-other_files g c = grind (arith, text_keys)
