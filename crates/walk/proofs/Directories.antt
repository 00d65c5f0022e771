-- If every reached node passes its tests, whatever hangs on a chain of a reached directory is reached, and that
-- directory is as the law says (`directory_law`). Assumes nothing.
use Prim.Native.Nat.{ℕ, zero, suc, ◌<◌}
use mathlib.Core.Path.{◌≡◌, refl, sym, ap, ◌∙◌, subst}
use mathlib.Core.Logic.{◌≢◌, inr}
use mathlib.Core.Bool.{Bool}
use mathlib.Core.List.{List}
use native.Mathlib.Omega.{arith}
use native.Mathlib.Decide.{dec_lt}
use Rattle.reach.specs.References.{◌∈◌, top, ref}
use Rattle.reach.proofs.Lists.{in_at, in_left, in_right}
use Rattle.volume.specs.declared.disk.Disk.{Disk}
use Rattle.volume.specs.Disks.{root_of}
use Rattle.volume.specs.Blocks.{slots, word_of, slot_word, directory}
use Rattle.volume.specs.Names.{folded, name_of}
use Rattle.volume.specs.Law.{chain_key, Hangs, Directory}
use Rattle.volume.proofs.Names.{slot_same, map_same}
use Rattle.volume.proofs.Passes.{EntrySound, entry_passed}
use Rattle.walk.specs.Nodes.{Node, root, entry, chained, slot_nodes, contents, leads_to, fault_of}
use Rattle.walk.proofs.Nodes.{NodeReached, linked_in, slot_in}
use Rattle.walk.proofs.Passes.{Hung, hung_passed}
use Rattle.walk.proofs.Accepts.{TreePasses}
use Rattle.walk.proofs.Chains.{chain_next, chain_before, twin_there}

module _ (d : Disk) (s : List ℕ) where
  pub leads : (m n : Node) → NodeReached d s m → n ∈ leads_to d s m → NodeReached d s n
  leads m n r h = let a = in_at n (leads_to d s m) h in ref a.0 r a.1

  -- what is in a directory or a file is reached with it
  pub contents_reached : (k t i p : ℕ) (b : Bool) → NodeReached d s (entry k t i p) → directory s k ≡ b → (n : Node)
      → n ∈ contents d s k b → NodeReached d s n
  unfolding leads_to
  contents_reached k t i p b r e n h =
      leads (entry k t i p) n r (in_left n (contents d s k (directory s k)) (chained (word_of s k 124) t i (suc p))
      (rw e h))

  -- the slots of t are reached
  abbrev pub Opened : ℕ → Type 0
  Opened t = (n : Node) → n ∈ slot_nodes s t 0 slots → NodeReached d s n

  pub root_opened : Opened (root_of d)
  unfolding leads_to
  root_opened n h = leads root n (top refl) (inr h)

  -- so is the next on its chain
  next_reached : (k t i p : ℕ) → NodeReached d s (entry k t i p) → word_of s k 124 ≢ 0
      → NodeReached d s (entry (word_of s k 124) t i (suc p))
  unfolding leads_to
  next_reached k t i p r h =
      let n = entry (word_of s k 124) t i (suc p) in
      leads (entry k t i p) n r (in_right n (contents d s k (directory s k)) (chained (word_of s k 124) t i (suc p))
      (linked_in (word_of s k 124) (λ k. entry k t i (suc p)) h))

  module _ (t : ℕ) (opened : Opened t) where
    hang_reached : (i p : ℕ) → i < slots → chain_key s (slot_word s t i) p ≢ 0
        → NodeReached d s (entry (chain_key s (slot_word s t i) p) t i p)
    unfolding chain_key
    hang_reached i zero l h =
        opened (entry (slot_word s t i) t i 0) (slot_in s t 0 slots i (omega arith) (omega arith) h)
    hang_reached i (suc p) l h =
        let head = slot_word s t i in
        let z = chain_before s head p h in
        let e = chain_next s head p z in
        subst (λ k. NodeReached d s (entry k t i (suc p))) (sym e)
        (next_reached (chain_key s head p) t i p (hang_reached i p l z) (λ q. h (e ∙ q)))

    module _ (fine : TreePasses d s) where
      hung : (i k : ℕ) (g : Hangs s t i k) → Hung d s k t i g.position
      unfolding fault_of
      hung i k g =
          let r = hang_reached i g.position g.slot (λ q. g.some (sym g.there ∙ q)) in
          hung_passed d s k t i g.position
          (fine (entry k t i g.position)
          (subst (λ x. NodeReached d s (entry x t i g.position)) g.there r)).1

      entry_sound : (i k : ℕ) → Hangs s t i k → EntrySound d s k t i
      entry_sound i k g = entry_passed d s k t i (hung i k g).0

      -- of two positions on one chain the later has no name of the earlier
      apart : (i k l : ℕ) (g : Hangs s t i k) (g' : Hangs s t i l) → g.position < g'.position
          → folded d (name_of s k) ≡ folded d (name_of s l) → ⊥
      apart i k l g g' o e =
          let head = slot_word s t i in
          let f =
          map_same d (name_of s (chain_key s head g.position)) (name_of s l)
          (ap (λ x. folded d (name_of s x)) g.there ∙ e) in
          let q = sym (twin_there s d l head g'.position g.position o f) ∙ (hung i l g').1 in
          let z : ◌≡◌ {A = ℕ} 0 1 = cc in
          absurd (omega arith)

      one : (i k l : ℕ) → Hangs s t i k → Hangs s t i l → folded d (name_of s k) ≡ folded d (name_of s l) → k ≡ l
      one i k l g g' e = go (dec_lt g.position g'.position) (dec_lt g'.position g.position)
        where
          go : Dec (g.position < g'.position) → Dec (g'.position < g.position) → k ≡ l
          go (yes o) o' = absurd (apart i k l g g' o e)
          go (no o) (yes o') = absurd (apart i l k g' g o' (sym e))
          go (no o) (no o') =
              let q : g.position ≡ g'.position = omega arith in
              sym g.there ∙ ap (chain_key s (slot_word s t i)) q ∙ g'.there

      pub directory_law : Directory d s t
      directory_law =
          record {
            parent = λ i k g. (entry_sound i k g).parent;
            slot = λ i k g. (entry_sound i k g).slot;
            names = names';
          }
        where
          names' : (i j k l : ℕ) → Hangs s t i k → Hangs s t j l → folded d (name_of s k) ≡ folded d (name_of s l)
              → k ≡ l
          names' i j k l g g' e =
              let q =
              sym (entry_sound j l g').slot ∙ slot_same d (name_of s l) (name_of s k) (sym e)
              ∙ (entry_sound i k g).slot in
              one i k l g (subst (λ x. Hangs s t x l) q g') e
