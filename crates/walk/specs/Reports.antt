-- What an accepted walk hands back, said of blocks and kinds alone: a claim byte for each block, and the counts
-- (docs/FORMAT.md, "Order of the walk").
use Rattle.std.specs.Prelude.{ℕ, suc, ◌+◌, ◌<◌, ◌≡◌, ◌⊎◌, Bool, true, false, not, List, [], ◌∷◌, map, length, get_or}
use Rattle.answers.specs.Tests.{pick}
use Rattle.reach.specs.References.{◌∈◌, Uniq, Reached}
use Rattle.reach.specs.Walk.{free}
use Rattle.volume.specs.declared.disk.Disk.{Disk}
use Rattle.volume.specs.Blocks.{directory}
use Rattle.volume.specs.References.{root, bitmap, entry, list, datum, Ref, references}
use Rattle.volume.specs.Law.{Used}
use Rattle.walk.specs.declared.Counts.{Counts}

-- how many of a list pass a test
unfoldable pub count : (Ref → Bool) → List Ref → ℕ
count f [] = 0
count f (r ∷ l) = pick (f r) (suc (count f l)) (count f l)

-- ---- what is counted

abbrev pub is_directory : List ℕ → Ref → Bool
is_directory s r =
    elim r.kind [ root ↦ false | bitmap ↦ false | entry ↦ directory s r.key | list ↦ false | datum ↦ false ]

abbrev pub is_file : List ℕ → Ref → Bool
is_file s r =
    elim r.kind [ root ↦ false | bitmap ↦ false | entry ↦ not (directory s r.key) | list ↦ false | datum ↦ false ]

abbrev pub is_list : Ref → Bool
is_list r = elim r.kind [ root ↦ false | bitmap ↦ false | entry ↦ false | list ↦ true | datum ↦ false ]

abbrev pub is_data : Ref → Bool
is_data r = elim r.kind [ root ↦ false | bitmap ↦ false | entry ↦ false | list ↦ false | datum ↦ true ]

-- ---- the report

-- of the claims c and the counts n
pub record Walked (d : Disk) (s c : List ℕ) (n : Counts) : Type 0 where
  -- 1 for each block that is reached, and 0 for the others
  pub size : length c ≡ d.blocks
  pub byte : (k : ℕ) → k < d.blocks → ((get_or c k 1 ≡ 1) × Used d s k) ⊎ ((get_or c k 1 ≡ 0) × (¬ Used d s k))
  -- what is reached, no key twice
  pub reached : List Ref
  pub all : (r : Ref) → Reached (references d s) r → r ∈ reached
  pub only : (r : Ref) → r ∈ reached → Reached (references d s) r
  pub keys : Uniq (map (λ r. r.key) reached)
  -- of these, how many of each kind; the root and the bitmap block are not counted
  pub directories : n.directories ≡ count (is_directory s) reached
  pub files : n.files ≡ count (is_file s) reached
  pub lists : n.lists ≡ count is_list reached
  pub blocks : n.blocks ≡ count is_data reached
  pub total : n.directories + n.files + n.lists + n.blocks + 2 ≡ length reached
  pub used : free c + length reached ≡ d.blocks
