-- `reading::read::read_on` meets its contract. Assumes nothing.
use Rattle.std.proofs.Common.{◌∙◌, ap}
use Rattle.std.specs.Prelude.{Ok}
use Rattle.std.proofs.lemmas.Result.{err_from_is_err_and}
use Rattle.reading.proofs.Readings.{read_refused, read_directory, read_failed, read_copied}
use Rattle.reading.proofs.Readings.{image_long, file_inside, file_size, blocks_inside}
use Rattle.reading.proofs.read.read_on.Goals as goal

pub returns-in_err-key : goal.returns-in_err-key
returns-in_err-key c =
    let p = err_from_is_err_and c.from_residual.result c.from_residual.ensures.1 in
    rw (p.1, p.2) (read_refused _ _ _ _ _ _ c.find_on.ensures _ c.in_err-key.was)

pub returns-in_default : goal.returns-in_default
returns-in_default c =
    rw c.at.ensures
    (read_directory _ _ _ _ _ _ c.find_on.ensures _ _ _ (c.in_ok-key.was ∙ ap Ok c.in_default.is)
    c.last_component.ensures)

pub test_file-requires : goal.test_file-requires
test_file-requires c =
    let g = (c.in_ok-key.was ∙ ap Ok c.in-File.is) in (
      c.requires,
      image_long _ _ _ _ c.find_on.ensures _ _ _ g,
      file_inside _ _ _ _ c.find_on.ensures _ _ _ g,
    )

pub returns-in_err-test_file : goal.returns-in_err-test_file
returns-in_err-test_file c =
    let p = err_from_is_err_and c.from_residual-in_err-test_file.result c.from_residual-in_err-test_file.ensures.1 in
    rw (p.1, p.2)
    (read_failed _ _ _ _ _ _ c.find_on.ensures _ _ _ (c.in_ok-key.was ∙ ap Ok c.in-File.is) _ _ c.test_file.ensures
    c.in_err-test_file.was)

pub copy_file-requires : goal.copy_file-requires
copy_file-requires c =
    let g = (c.in_ok-key.was ∙ ap Ok c.in-File.is) in (
      c.requires,
      image_long _ _ _ _ c.find_on.ensures _ _ _ g,
      file_inside _ _ _ _ c.find_on.ensures _ _ _ g,
      file_size _ _ _ _ c.find_on.ensures _ _ _ g,
      blocks_inside _ _ _ _ c.test_file.ensures c.in_ok-test_file.was,
    )

pub returns : goal.returns
returns c =
    read_copied _ _ _ _ _ _ c.find_on.ensures _ _ _ (c.in_ok-key.was ∙ ap Ok c.in-File.is) _ _ _ c.test_file.ensures
    c.in_ok-test_file.was c.copy_file.ensures
