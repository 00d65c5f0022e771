-- A repair of a tree, its page right: cut off after any of its writes, every find and every read answers as before
-- (`repair_answers`), and all of it leaves a volume (`repair_lawful`). Assumes nothing.
use Prim.Native.Nat.{ℕ, ◌≤◌, ◌<◌}
use mathlib.Core.Path.{◌≡◌}
use mathlib.Core.Logic.{◌↔◌}
use mathlib.Core.List.{List}
use lib.ListN.{length, take}
use Rattle.words.specs.Word.{Bytes}
use Rattle.words.specs.Sum.{sum_at}
use Rattle.volume.specs.declared.disk.Disk.{Disk}
use Rattle.volume.specs.Disks.{Sized, first_key}
use Rattle.volume.specs.Blocks.{block_bytes}
use Rattle.volume.specs.Law.{Tree, Used, Volume}
use Rattle.writes.specs.Writes.{carried}
use Rattle.tree.specs.SameTree.{SameTree}
use Rattle.tree.specs.Pages.{repair_page}
use Rattle.tree.specs.Repairs.{repaired, repair_writes}
use Rattle.tree.proofs.Marking.{map_holds}
use Rattle.tree.proofs.Repairing.{repair_cut, repair_volume}
use Rattle.tree.proofs.Pages.{length_repair, sum_repair, page_maps}
use Rattle.finds.specs.Answers.{SameAnswers}
use Rattle.finds.proofs.SameFinds.{same_find}
use Rattle.finds.proofs.SameReads.{same_read, same_left}

-- images with the same tree answer alike
pub same_answers : (d : Disk) (s t : List ℕ) → Tree d s → Tree d t → SameTree d s t → SameAnswers d s t
same_answers d s t v u a =
    record { finds = same_find d s t v u a; reads = same_read d s t v u a; left = same_left d s t v u a }

-- of a tree s; f j is 0 if and only if block j is reached
module _ (d : Disk) (z : Sized d) (s : List ℕ) (b : Bytes s) (v : Tree d s) (f : ℕ → ℕ) (bits : (j : ℕ) → f j < 2)
    (used : (j : ℕ) → first_key ≤ j → j < d.blocks → (f j ≡ 0) ↔ Used d s j) where
  long : length (repair_page d s f) ≡ block_bytes
  long = length_repair d z s (map_holds d s v) b f bits

  sum : sum_at (repair_page d s f) 0 ≡ 0
  sum = sum_repair d z s (map_holds d s v) b f bits

  pub repair_answers : (j : ℕ) → SameAnswers d s (carried s (take j (repair_writes d s (repair_page d s f))))
  repair_answers j = let c = repair_cut d s v (repair_page d s f) long sum j in same_answers d s _ v c.0 c.1

  pub repair_lawful : Volume d (repaired d s (repair_page d s f))
  repair_lawful = repair_volume d s v (repair_page d s f) long sum z (page_maps d z s (map_holds d s v) b f bits used)
