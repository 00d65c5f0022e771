-- The theorem `tree_passes`: if the tree is as its law says, every reached node passes its tests, but for the root's
-- w78. Assumes nothing.
use Prim.Native.Nat.{ℕ, ◌-◌, ◌<◌}
use mathlib.Core.Path.{◌≡◌, refl, sym, ap, ◌∙◌, subst}
use mathlib.Core.Logic.{◌≢◌, inl, inr}
use mathlib.Core.Bool.{true, false}
use mathlib.Core.List.{List}
use native.Mathlib.Omega.{arith}
use Rattle.reach.specs.References.{At, Reached, top, ref}
use Rattle.reach.proofs.Lists.{at_in, at_map}
use Rattle.volume.specs.declared.disk.Disk.{Disk}
use Rattle.volume.specs.Blocks.{word_of, slot_word, directory}
use Rattle.volume.specs.Names.{name_of, same}
use Rattle.volume.specs.Files.{list_blocks, blocks_of}
use Rattle.volume.specs.References.{Kind, to, references}
use Rattle.volume.specs.Law.{chain_key, Hangs, Directory, Tree}
use Rattle.volume.specs.Rules.{file_fault}
use Rattle.volume.proofs.Names.{same_map}
use Rattle.volume.proofs.Passes.{EntrySound, bitmap_passed, entry_passes, file_passes, list_passes, data_passes}
use Rattle.walk.specs.Nodes.{Node, root, bitmap, entry, list, datum, key_of, bare, leads_to, key_fault, fault_of}
use Rattle.walk.proofs.Nodes.{NodeReached}
use Rattle.walk.proofs.Passes.{InTree, key_passes, hung_passes}
use Rattle.walk.proofs.Accepts.{TreePasses, key_bare, refs_bare}
use Rattle.walk.proofs.Chains.{chain_some, twin_none}
use Rattle.walk.proofs.Spreads.{spread_first, file_header}
use Rattle.walk.proofs.Positions.{Holder, chain_apart}
use Rattle.walk.proofs.Coherent.{Coherent, leads_coherent}

module _ (d : Disk) (s : List ℕ) (v : Tree d s) where
  -- the block of n is reached, in its kind
  abbrev BlockReached : Node → Type 0
  BlockReached n = Reached (references d s) (bare d n)

  key_lawful : (n : Node) → BlockReached n → key_fault d (key_of d n) ≡ 0
  key_lawful n r = key_passes d (key_of d n) (rw (key_bare d s n) at (v.keys (bare d n) r))

  pub held_by : (t : ℕ) → Holder d s t → Directory d s t
  held_by t (inl e) = rw e v.holds
  held_by t (inr o) = (v.directories t o.0 o.1).1

  -- ---- an entry

  module _ (k t i p : ℕ) (r : Reached (references d s) (to Kind.entry k)) (c : Coherent d s (entry k t i p)) where
    abbrev K : ℕ → ℕ
    K q = chain_key s (slot_word s t i) q

    some : K p ≢ 0
    some z = c.3 (sym c.2 ∙ z)

    hangs : Hangs s t i k
    hangs = record { slot = c.1; position = p; there = c.2; some = c.3 }

    -- an earlier entry of the same name would be the same block, and no block stands twice on a chain
    differ : (q : ℕ) → q < p → same d (name_of s (K q)) (name_of s k) ≡ true → ⊥
    differ q l e =
        let g : Hangs s t i (K q) =
        record {
          slot = c.1;
          position = q;
          there = refl;
          some = chain_some s (slot_word s t i) p q (omega arith) some;
        } in
        let f = (held_by t c.0).names i i (K q) k g hangs (same_map d (name_of s (K q)) (name_of s k) e) in
        chain_apart d s t i c.0 c.1 v.owned q p l some (f ∙ sym c.2)

    file_lawful : directory s k ≡ false → file_fault d s k ≡ 0
    file_lawful e = file_passes d s k (file_header d s k (v.files k r e))

    entry_lawful : fault_of d s (entry k t i p) ≡ 0
    unfolding fault_of
    entry_lawful =
        let h = held_by t c.0 in
        let entry_sound : EntrySound d s k t i =
        record {
          sum = v.sums (to Kind.entry k) r refl;
          entry = v.entries k r;
          parent = h.parent i k hangs;
          link = λ e. (v.directories k r e).0;
          slot = h.slot i k hangs;
        } in
        hung_passes d s k t i p (
          entry_passes d s k t i entry_sound,
          twin_none s d k (slot_word s t i) p differ,
          file_lawful,
        )

  -- ---- every node

  fault_lawful : (n : Node) → BlockReached n → Coherent d s n → InTree d s n
  unfolding fault_of
  fault_lawful root r c = (v.sums (bare d root) r refl, v.top)
  fault_lawful (bitmap k) r c = (bitmap_passed s k).1 (v.sums (bare d (bitmap k)) r refl)
  fault_lawful (entry k t i p) r c = entry_lawful k t i p r c
  fault_lawful (list k h m b) r c =
      list_passes s k h (blocks_of d s h - m) (
        v.sums (bare d (list k h m b)) r refl,
        c.0,
        (spread_first d s h (list_blocks (blocks_of d s h - m)) k m b
            c.1).0,
      )
  fault_lawful (datum k h n b) r c =
      data_passes d s k h n (word_of s b 4) (λ o. record { sum = v.sums (bare d (datum k h n b)) r o; ties = c o })

  coherent : {n : Node} → NodeReached d s n → BlockReached n × Coherent d s n
  coherent (top e) = (top (ap (bare d) e), subst (Coherent d s) (sym e) tt)
  coherent (ref {m = m} {n = n} i r h) = go (coherent r)
    where
      go : BlockReached m × Coherent d s m → BlockReached n × Coherent d s n
      go w =
          let e = refs_bare d s m (fault_lawful m w.0 w.1) in (
            ref i w.0 (subst (At i (bare d n)) e (at_map (bare d) i n (leads_to d s m) h)),
            leads_coherent d s m w.0 v.files w.1 n (at_in n i (leads_to d s m) h),
          )

  pub tree_passes : TreePasses d s
  tree_passes n r = let w = coherent r in (key_lawful n w.0, fault_lawful n w.0 w.1)
