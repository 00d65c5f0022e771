-- `loader::memory::store_run` meets its contract. Assumes nothing.
use Rattle.std.proofs.Common.{ap, ◌∙◌}
use Rattle.words.specs.Word.{set_word}
use Rattle.loader.proofs.StoredRuns.{storing_on, storing_end}
use Rattle.loader.proofs.memory.store_run.Goals as goal

pub loop-i-preserved : goal.loop-i-preserved
loop-i-preserved c =
    storing_on _ _ _ _ _ _ _ c.loop-i.invariant _ (c.put_word.ensures ∙ ap (set_word _ _) c.word.ensures)
    c.loop-i-test.true

pub returns : goal.returns
returns c = search storing_end depth 7
