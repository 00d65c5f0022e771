-- Components that lead from directory to directory: what stands at each position of a component's chain, and the
-- directories passed on the way; and the names under which an entry lies in the volume.
use Rattle.std.specs.Prelude.{ℕ, ◌+◌, ◌≤◌, ◌<◌, ◌≡◌, ◌≢◌, true, List, [], ◌∷◌, ◌++◌}
use Rattle.volume.specs.declared.disk.Disk.{Disk}
use Rattle.volume.specs.Disks.{chain_limit}
use Rattle.volume.specs.Blocks.{directory}
use Rattle.volume.specs.Names.{folded, slot_of, name_of}
use Rattle.volume.specs.Law.{Hangs}
use Rattle.volume.specs.Breaks.{Inside, EntrySound}
use Rattle.lookup.specs.Paths.{joined}
use Rattle.lookup.specs.Search.{position_key}

-- ---- the positions of one chain: that on which directory t would have a name

-- position p has an entry that passes its tests: its key lies in the volume, fewer entries come before it than a
-- chain may have, and it is as the law asks of an entry on that chain of t
pub record Tests (d : Disk) (s : List ℕ) (t : ℕ) (name : List ℕ) (p : ℕ) : Type 0 where
  pub some : position_key d s t name p ≢ 0
  pub inside : Inside d (position_key d s t name p)
  pub near : p < chain_limit d
  pub sound : EntrySound d s (position_key d s t name p) t (slot_of d name)

-- its folded name is the component's
abbrev pub Equal : Disk → List ℕ → ℕ → List ℕ → ℕ → Type 0
Equal d s t name p = folded d (name_of s (position_key d s t name p)) ≡ folded d name

-- the positions from f up to p have entries that pass, each with another name
abbrev pub Others : Disk → List ℕ → ℕ → List ℕ → ℕ → ℕ → Type 0
Others d s t name f p = (q : ℕ) → f ≤ q → q < p → Tests d s t name q × (Equal d s t name q → ⊥)

-- position p has the first equal folded name
pub record First (d : Disk) (s : List ℕ) (t : ℕ) (name : List ℕ) (p : ℕ) : Type 0 where
  pub tests : Tests d s t name p
  pub named : Equal d s t name p
  pub others : Others d s t name 0 p

-- the chain ends at position p, and every entry before that passes and has another name
pub record Over (d : Disk) (s : List ℕ) (t : ℕ) (name : List ℕ) (p : ℕ) : Type 0 where
  pub ended : position_key d s t name p ≡ 0
  pub others : Others d s t name 0 p

-- ---- from directory to directory

-- The components cs lead from directory t down to directory k, n entries compared: each is the first equal folded
-- name in the directory that the one before it led to.
pub data Trail (d : Disk) (s : List ℕ) : ℕ → List (List ℕ) → ℕ → ℕ → Type 0 where
  stay : {t : ℕ} → Trail d s t [] t 0
  down : {t k n : ℕ} {c : List ℕ} {cs : List (List ℕ)} (p : ℕ) → First d s t c p
      → directory s (position_key d s t c p) ≡ true → Trail d s (position_key d s t c p) cs k n
      → Trail d s t (c ∷ cs) k (p + 1 + n)

-- one of the components, looked for in the directory that those before it lead to
pub record Comes (d : Disk) (s : List ℕ) (t : ℕ) (cs : List (List ℕ)) : Type 0 where
  pub front : List (List ℕ)
  pub name : List ℕ
  pub back : List (List ℕ)
  pub parts : cs ≡ front ++ (name ∷ back)
  pub parent : ℕ
  pub compared : ℕ
  pub trail : Trail d s t front parent compared

-- ---- the path of an entry

-- the names that lead from directory t down to directory k
pub data Names (s : List ℕ) : ℕ → List (List ℕ) → ℕ → Type 0 where
  none : {t : ℕ} → Names s t [] t
  into : {t b k : ℕ} {cs : List (List ℕ)} (i : ℕ) → Hangs s t i b → directory s b ≡ true → Names s b cs k
      → Names s t (name_of s b ∷ cs) k

-- entry k hangs in the directory `parent`, to which the names `front` lead from directory r
pub record Lies (s : List ℕ) (r k : ℕ) : Type 0 where
  pub front : List (List ℕ)
  pub parent : ℕ
  pub above : Names s r front parent
  pub slot : ℕ
  pub hangs : Hangs s parent slot k

-- its path
abbrev pub path_of : (s : List ℕ) (r k : ℕ) → Lies s r k → List ℕ
path_of s r k h = joined (h.front ++ (name_of s k ∷ []))
