-- What is in a directory of a tree, by w125 of the entries; and what a search for a name gives there: the entry that
-- has the name, or the end (`gives`). Assumes nothing.
use Rattle.std.specs.Prelude.{Ok, Some, None}
use Prim.Native.Nat.{ℕ, ◌+◌, ◌<◌}
use mathlib.Core.Path.{◌≡◌, refl, sym, ap, ◌∙◌, subst}
use mathlib.Core.Logic.{◌≢◌, inl, inr}
use mathlib.Core.List.{List}
use native.Mathlib.Omega.{arith}
use native.Mathlib.Decide.{dec_lt}
use Rattle.answers.proofs.Clashes.{impossible}
use Rattle.reach.specs.References.{Reached}
use Rattle.volume.specs.declared.disk.Disk.{Disk}
use Rattle.volume.specs.Disks.{root_of}
use Rattle.volume.specs.Blocks.{word_of, slot_word}
use Rattle.volume.specs.Names.{name_of, folded, slot_of}
use Rattle.volume.specs.References.{Kind, to, references}
use Rattle.volume.specs.Law.{chain_key, Hangs, Tree}
use Rattle.volume.proofs.Names.{slot_same}
use Rattle.walk.proofs.Chains.{chain_some}
use Rattle.walk.proofs.Positions.{Holder}
use Rattle.walk.proofs.Lawful.{held_by}
use Rattle.lookup.specs.Search.{position_key, search_of, Step, hit}
use Rattle.lookup.specs.Trails.{Lies}
use Rattle.lookup.proofs.Chains.{slot_below, tests_pass}
use Rattle.lookup.proofs.Positions.{Outcome, at, ended, faulty, outcome}
use Rattle.lookup.proofs.OnTrees.{position_tests}
use Rattle.lookup.proofs.Bridge.{reached_lies, names_holder}
use Rattle.tree.specs.Pointers.{Pointed, Leaf}
use Rattle.tree.proofs.Carrying.{hung_reached}
use Rattle.tree.proofs.SameTrees.{not_root}
use Rattle.tree.proofs.Finding.{hangs_points}

first_key_lem : (s : List ℕ) (head : ℕ) → chain_key s head 0 ≡ head
unfolding chain_key
first_key_lem s head = refl

-- y is an entry of directory x
pub record In (d : Disk) (s : List ℕ) (x y : ℕ) : Type 0 where
  pub reached : Reached (references d s) (to Kind.entry y)
  pub parent : word_of s y 125 ≡ x

-- what a search gives: the entry of the directory that has the name, or the end
pub data Gives (d : Disk) (s : List ℕ) (x : ℕ) (c : List ℕ) (r : Step) : Type 0 where
  one : (y m : ℕ) → r ≡ Ok (Some (hit y m)) → In d s x y → folded d (name_of s y) ≡ folded d c → Gives d s x c r
  no_one : r ≡ Ok None → ((y : ℕ) → In d s x y → folded d (name_of s y) ≢ folded d c) → Gives d s x c r

module _ (d : Disk) (s : List ℕ) (v : Tree d s) where
  pub hangs_in : (x i y : ℕ) → Holder d s x → Hangs s x i y → In d s x y
  hangs_in x i y o g = record { reached = hung_reached d s x i y o g; parent = (held_by d s v x o).parent i y g }

  -- ---- an entry hangs in the directory that its w125 names

  module _ (y : ℕ) (r : Reached (references d s) (to Kind.entry y)) where
    lies : Lies s (root_of d) y
    lies = reached_lies d s v y r

    above : Holder d s lies.parent
    above = names_holder d s v (inl refl) lies.above

    parent_is : lies.parent ≡ word_of s y 125
    parent_is = sym ((held_by d s v lies.parent above).parent lies.slot y lies.hangs)

    -- the word that points to it
    pub reached_pointed : Pointed d s y
    reached_pointed = hangs_points d s lies.parent lies.slot y above lies.hangs

  module _ (x y : ℕ) (h : In d s x y) where
    pub in_holder : Holder d s x
    in_holder = subst (Holder d s) (parent_is y h.reached ∙ h.parent) (above y h.reached)

    pub in_hangs : Hangs s x (slot_of d (name_of s y)) y
    in_hangs =
        let l = lies y h.reached in
        let f : l.slot ≡ slot_of d (name_of s y) =
        sym ((held_by d s v l.parent (above y h.reached)).slot l.slot y l.hangs) in
        subst (λ i. Hangs s x i y) f (subst (λ z. Hangs s z l.slot y) (parent_is y h.reached ∙ h.parent)
        l.hangs)

  -- two entries of a directory with one name are one
  pub in_one : (x y z : ℕ) → In d s x y → In d s x z → folded d (name_of s y) ≡ folded d (name_of s z) → y ≡ z
  in_one x y z h g e =
      (held_by d s v x (in_holder x y h)).names (slot_of d (name_of s y)) (slot_of d (name_of s z)) y z (in_hangs x y h)
      (in_hangs x z g) e

  -- nothing is in a file, or in an empty directory
  pub leaf_empty : (k y : ℕ) → Reached (references d s) (to Kind.entry k) → Leaf s k → In d s k y → ⊥
  leaf_empty k y r leaf h = go leaf (in_holder k y h)
    where
      go : Leaf s k → Holder d s k → ⊥
      go l (inl e) = not_root d s v (to Kind.entry k) r tt e
      go (inl e) (inr w) = let f = sym e ∙ w.1 in impossible cc
      go (inr e) (inr w) =
          let g = in_hangs k y h in
          let i = slot_of d (name_of s y) in
          chain_some s (slot_word s k i) g.position 0 (omega arith) (λ z. g.some (sym g.there ∙ z))
          (first_key_lem s (slot_word s k i) ∙ e.1 i g.slot)

  -- ---- a search

  pub gives : (x : ℕ) (c : List ℕ) → Holder d s x → Gives d s x c (search_of d s x c)
  gives x c o = go (outcome d s x c)
    where
      i : ℕ
      i = slot_of d c

      go : Outcome d s x c (search_of d s x c) → Gives d s x c (search_of d s x c)
      go (at p f e) =
          let h : Hangs s x i (position_key d s x c p) =
          record { slot = slot_below d c i refl; position = p; there = refl; some = f.tests.some } in
          one (position_key d s x c p) (p + 1) e (hangs_in x i (position_key d s x c p) o h) f.named
      go (faulty p f e) = absurd (f.fault (tests_pass d s x c p (position_tests d s v x c o p f.some)))
      go (ended p f e) = no_one e none_named
        where
          none_named : (y : ℕ) → In d s x y → folded d (name_of s y) ≢ folded d c
          none_named y h q = there (subst (λ j. Hangs s x j y) (slot_same d (name_of s y) c q) (in_hangs x y h))
            where
              there : Hangs s x i y → ⊥
              there g = before (dec_lt g.position p)
                where
                  before : Dec (g.position < p) → ⊥
                  before (yes l) =
                      (f.others g.position (omega arith) l).1 (ap (λ z. folded d (name_of s z)) g.there ∙ q)
                  before (no l) =
                      chain_some s (slot_word s x i) g.position p (omega arith) (λ z. g.some (sym g.there ∙ z))
                      f.ended
