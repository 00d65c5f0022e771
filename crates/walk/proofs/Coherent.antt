-- What the context of a node says of the volume (`Coherent`), and that with a node it holds of what that leads to.
-- Assumes nothing.
use Prim.Native.Nat.{ℕ, zero, suc, ◌+◌, ◌-◌, ◌<◌}
use mathlib.Core.Path.{◌≡◌, refl, sym, ap, ◌∙◌, subst}
use mathlib.Core.Logic.{◌≢◌, ◌⊎◌, inl, inr}
use mathlib.Core.Bool.{Bool, true, false}
use mathlib.Core.List.{List}
use native.Mathlib.Omega.{arith}
use Rattle.reach.specs.References.{◌∈◌, Reached}
use Rattle.reach.proofs.Lists.{in_either}
use Rattle.volume.specs.declared.disk.Disk.{Disk}
use Rattle.volume.specs.Disks.{root_of}
use Rattle.volume.specs.Blocks.{slots, word_of, slot_word, directory}
use Rattle.volume.specs.Files.{list_blocks, blocks_of}
use Rattle.volume.specs.References.{Kind, to, references}
use Rattle.volume.specs.Law.{chain_key, ListBlock, File}
use Rattle.walk.specs.Nodes.{Node, root, bitmap, entry, list, datum, bare, chained, slot_nodes, before, key_nodes}
use Rattle.walk.specs.Nodes.{list_link, key_block_nodes, contents, leads_to}
use Rattle.walk.proofs.Nodes.{in_linked, in_slots, in_keys}
use Rattle.walk.proofs.Chains.{chain_next}
use Rattle.walk.proofs.Spreads.{Follows, Spread, here, spread_first, file_spreads}
use Rattle.walk.proofs.KeyRuns.{NodeFollows, run_nodes}
use Rattle.walk.proofs.Positions.{Holder}

module _ (d : Disk) (s : List ℕ) where
  abbrev pub Coherent : Node → Type 0
  Coherent root = Unit {0}
  Coherent (bitmap k) = k ≡ word_of s (root_of d) 79
  Coherent (entry k t i p) = Holder d s t × (i < slots) × (chain_key s (slot_word s t i) p ≡ k) × (k ≢ 0)
  Coherent (list k h m c) = ListBlock s h k × Spread d s h (list_blocks (blocks_of d s h - m)) k m c
  Coherent (datum k h n c) = Follows d s h n c k

  slots_coherent : (t : ℕ) → Holder d s t → (x : Node) → x ∈ slot_nodes s t 0 slots → Coherent x
  unfolding chain_key
  slots_coherent t o x h =
      let r = in_slots s t 0 slots x h in
      let l = r.1 in subst Coherent (sym r.2.1) (o, omega arith, refl, r.2.0)

  module _ (h q b m c : ℕ) (e : q ≡ list_blocks (blocks_of d s h - m)) (p : Spread d s h q b m c) where
    abbrev n : ℕ
    n = here d s h m

    -- the list block after b
    next_coherent : (j : ℕ) → q ≡ j → Spread d s h j b m c → word_of s b 126 ≢ 0
        → Coherent (list (word_of s b 126) h (m + n) (before s b c n))
    next_coherent zero f p w = absurd (w (p.0.more.1 (omega (arith, e, f))))
    next_coherent (suc j) f p w =
        let g : j ≡ list_blocks (blocks_of d s h - (m + n)) = omega (arith, e, f) in
        (p.2, subst (λ y. Spread d s h y (word_of s b 126) (m + n) (before s b c n)) g p.3)

    nodes_coherent : (x : Node) → x ∈ key_block_nodes d s h b m c → Coherent x
    nodes_coherent x a =
        go (in_either x (key_nodes s h b m c 0 n) (list_link (word_of s b 126) h (m + n) (before s b c n)) a)
      where
        go : (x ∈ key_nodes s h b m c 0 n) ⊎ (x ∈ list_link (word_of s b 126) h (m + n) (before s b c n)) → Coherent x
        go (inl a) =
            let w = in_keys s h b m c 0 n x a in
            subst Coherent (sym w.3)
            (subst (NodeFollows d s) w.3 ((run_nodes d s h b m c).0 (spread_first d s h q b m c p).1 x a))
        go (inr a) =
            let r = in_linked (word_of s b 126) (λ k. list k h (m + n) (before s b c n)) x a in
            subst Coherent (sym r.1) (next_coherent q refl p r.0)

  module _ (k : ℕ) (r : Reached (references d s) (to Kind.entry k)) (file : directory s k ≡ false → File d s k) where
    contents_coherent : (b : Bool) → directory s k ≡ b → (x : Node) → x ∈ contents d s k b → Coherent x
    contents_coherent true e = slots_coherent k (inr (r, e))
    contents_coherent false e =
        nodes_coherent k (list_blocks (blocks_of d s k)) k 0 k (omega arith) ((file_spreads d s k).0 (file e)).2

    entry_coherent : (t i p : ℕ) → Coherent (entry k t i p) → (x : Node) → x ∈ leads_to d s (entry k t i p) → Coherent x
    unfolding leads_to
    entry_coherent t i p c x a =
        go (in_either x (contents d s k (directory s k)) (chained (word_of s k 124) t i (suc p)) a)
      where
        head : ℕ
        head = slot_word s t i

        next : chain_key s head (suc p) ≡ word_of s k 124
        next = chain_next s head p (λ z. c.3 (sym c.2 ∙ z)) ∙ ap (λ y. word_of s y 124) c.2

        go : (x ∈ contents d s k (directory s k)) ⊎ (x ∈ chained (word_of s k 124) t i (suc p)) → Coherent x
        go (inl a) = contents_coherent (directory s k) refl x a
        go (inr a) =
            let w = in_linked (word_of s k 124) (λ k. entry k t i (suc p)) x a in
            subst Coherent (sym w.1) (c.0, c.1, next, w.0)

  pub leads_coherent : (m : Node) → Reached (references d s) (bare d m)
      → ((k : ℕ) → Reached (references d s) (to Kind.entry k) → directory s k ≡ false → File d s k) → Coherent m
      → (x : Node) → x ∈ leads_to d s m → Coherent x
  unfolding leads_to
  leads_coherent root r file c x (inl e) = subst Coherent (sym e) refl
  leads_coherent root r file c x (inr a) = slots_coherent (root_of d) (inl refl) x a
  leads_coherent (bitmap k) r file c x a = absurd a
  leads_coherent (entry k t i p) r file c x a = entry_coherent k r (file k r) t i p c x a
  leads_coherent (list k h m b) r file c x a = nodes_coherent h (list_blocks (blocks_of d s h - m)) k m b refl c.1 x a
  leads_coherent (datum k h n b) r file c x a = absurd a
