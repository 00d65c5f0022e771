-- In a tree every entry of a chain passes its tests, so that a lookup gives an answer, 18, 19 or 20 (`tree_answers`).
-- Assumes nothing.
use Prim.Native.Nat.{ℕ, ◌<◌}
use mathlib.Core.Path.{◌≡◌, refl, sym, ◌∙◌}
use mathlib.Core.Logic.{◌≢◌, ◌⊎◌, inl, inr}
use mathlib.Core.Bool.{true}
use mathlib.Core.List.{List}
use native.Mathlib.Omega.{arith}
use Rattle.std.specs.Prelude.{Ok}
use Rattle.reach.specs.References.{Reached, top}
use Rattle.volume.specs.declared.disk.Disk.{Disk}
use Rattle.volume.specs.Disks.{root_of, chain_limit}
use Rattle.volume.specs.Blocks.{slots, slot_word, directory}
use Rattle.volume.specs.Names.{slot_of}
use Rattle.volume.specs.References.{Kind, to, references}
use Rattle.volume.specs.Law.{chain_key, Hangs, Tree}
use Rattle.volume.specs.Breaks.{Inside, EntrySound}
use Rattle.volume.proofs.Passes.{root_passes}
use Rattle.volume.proofs.Breaks.{root_breaks, entry_breaks, entry_sound}
use Rattle.walk.proofs.Positions.{Holder, from_chain, referred}
use Rattle.walk.proofs.Lawful.{held_by}
use Rattle.lookup.specs.declared.find.Found.TheVariants.{Directory, File}
use Rattle.lookup.specs.Search.{position_key}
use Rattle.lookup.specs.Lookup.{refuse, find_of}
use Rattle.lookup.specs.Trails.{Tests, First, Trail, stay, down}
use Rattle.lookup.specs.Verdicts.{Stands, Refuses, number_1, number_18, number_3, of_root, number_5, number_6}
use Rattle.lookup.specs.Verdicts.{of_entry, number_19, number_20}
use Rattle.lookup.proofs.Chains.{slot_below}
use Rattle.lookup.proofs.Refusing.{refused_exactly, directory_exactly, file_exactly}
use Rattle.lookup.proofs.Rooms.{chain_few}

module _ (d : Disk) (s : List ℕ) (v : Tree d s) where
  -- ---- position p of the chain of slot i of directory t

  module _ (t i p : ℕ) (holder : Holder d s t) (l : i < slots) (some : chain_key s (slot_word s t i) p ≢ 0) where
    abbrev k : ℕ
    k = chain_key s (slot_word s t i) p

    pub position_reached : Reached (references d s) (to Kind.entry (chain_key s (slot_word s t i) p))
    position_reached = referred d s k (from_chain d s t i holder l p some)

    pub position_inside : Inside d (chain_key s (slot_word s t i) p)
    position_inside = let h = v.keys (to Kind.entry k) position_reached in record { low = h.0; high = h.1 }

    pub position_sound : EntrySound d s (chain_key s (slot_word s t i) p) t i
    position_sound =
        let h : Hangs s t i k = record { slot = l; position = p; there = refl; some = some } in
        let b = held_by d s v t holder in
        record {
          sum = v.sums (to Kind.entry k) position_reached refl;
          entry = v.entries k position_reached;
          parent = b.parent i k h;
          link = λ e. (v.directories k position_reached e).0;
          slot = b.slot i k h;
        }

    pub position_near : p < chain_limit d
    position_near = chain_few d s v t i holder l p some

  module _ (t : ℕ) (name : List ℕ) (holder : Holder d s t) where
    abbrev i : ℕ
    i = slot_of d name

    low : i < slots
    low = slot_below d name i refl

    pub position_tests : (p : ℕ) → position_key d s t name p ≢ 0 → Tests d s t name p
    position_tests p some =
        record {
          some = some;
          inside = position_inside t i p holder low some;
          near = position_near t i p holder low some;
          sound = position_sound t i p holder low some;
        }

    -- an entry that is found is reached
    pub first_reached : (p : ℕ) → First d s t name p
        → Reached (references d s) (to Kind.entry (position_key d s t name p))
    first_reached p f = position_reached t i p holder low f.tests.some

  pub trail_holder : {t k n : ℕ} {cs : List (List ℕ)} → Trail d s t cs k n → Holder d s t → Holder d s k
  trail_holder stay h = h
  trail_holder {t} (down {c = c} p f e r) h = trail_holder r (inr (first_reached t c h p f, e))

  -- No lookup in a tree gives anything but an answer, 18, 19 or 20.
  pub tree_answers : (path : List ℕ) (n k : ℕ) → find_of d s path ≡ refuse n k → (n ≡ 18) ⊎ (n ≡ 19) ⊎ (n ≡ 20)
  tree_answers path n k e = go ((refused_exactly d s path n k).0 e)
    where
      held : (h : Stands d s path k) → Holder d s h.comes.parent
      held h = trail_holder h.comes.trail (inl refl)

      some : (h : Stands d s path k) → position_key d s h.comes.parent h.comes.name h.position ≢ 0
      some h z = h.some (sym h.key ∙ z)

      go : Refuses d s path n k → (n ≡ 18) ⊎ (n ≡ 19) ⊎ (n ≡ 20)
      go (number_1 h a b) = absurd (h v.long)
      go (number_18 h f a) = inl a
      go (number_3 h p u a b) = absurd (u v.tag)
      go (of_root h p u z b) =
          let a = (root_breaks d s n).1 z in
          absurd (a.1 (sym a.0 ∙ root_passes d s (v.sums (to Kind.root (root_of d)) (top refl) refl) v.top))
      go (number_5 h y a) =
          absurd (y (rw h.key at (position_inside h.comes.parent (slot_of d h.comes.name) h.position
          (held h) (slot_below d h.comes.name _ refl) (some h))))
      go (number_6 h y l a) =
          let q =
          position_near h.comes.parent (slot_of d h.comes.name) h.position (held h)
          (slot_below d h.comes.name _ refl) (some h) in
          absurd (omega arith)
      go (of_entry h y l z) =
          let a = (entry_breaks d s k h.comes.parent (slot_of d h.comes.name) n).1 z in
          absurd (a.1 (sym a.0 ∙ (entry_sound d s k h.comes.parent (slot_of d h.comes.name)).1
          (rw h.key at (position_sound h.comes.parent (slot_of d h.comes.name) h.position (held h)
          (slot_below d h.comes.name _ refl) (some h)))))
      go (number_19 h a) = inr (inl a)
      go (number_20 h a) = inr (inr a)

  -- A directory found in a tree is the root or a reached one.
  pub found_directory : (path : List ℕ) (k n : ℕ) → find_of d s path ≡ Ok (Directory k n)
      → (k ≡ root_of d) ⊎ (Reached (references d s) (to Kind.entry k) × (directory s k ≡ true))
  found_directory path k n e = trail_holder ((directory_exactly d s path k n).0 e).1 (inl refl)

  -- A file found in a tree is a reached entry.
  pub found_file : (path : List ℕ) (k z n : ℕ) → find_of d s path ≡ Ok (File k z n)
      → Reached (references d s) (to Kind.entry k)
  found_file path k z n e =
      let h = (file_exactly d s path k z n).0 e in
      rw h.key at (first_reached h.comes.parent h.comes.name (trail_holder h.comes.trail (inl refl))
      h.position h.found)
