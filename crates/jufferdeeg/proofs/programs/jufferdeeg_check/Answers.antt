-- `jufferdeeg::programs::jufferdeeg_check` meets its contract. Assumes nothing.
use Rattle.std.proofs.Common.{◌≡◌, List, ℕ, ap, ◌∙◌}
use Rattle.program.specs.Check.{Answer}
use Rattle.program.specs.Check.{check_of}
use Rattle.jufferdeeg.specs.declared.programs.ProgramNumbers.{ProgramNumbers}
use Rattle.jufferdeeg.specs.Programs.{program_numbers, check_numbers}
use Rattle.jufferdeeg.proofs.programs.jufferdeeg_check.Goals as goal

-- the answer of the check, as numbers
checked : (file : List ℕ) (a : Answer) (r : ProgramNumbers) → a ≡ check_of file → r ≡ program_numbers a
    → r ≡ check_numbers file
checked file a r e q = q ∙ ap program_numbers e

pub returns : goal.returns
returns c = search checked depth 7
