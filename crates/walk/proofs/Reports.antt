-- The theorem `walked_report`: what an accepted walk hands back, said of blocks and kinds alone. Assumes nothing.
use Prim.Native.Nat.{ℕ, ◌+◌, ◌<◌}
use mathlib.Core.Path.{◌≡◌, refl, sym, ap₂, ◌∙◌, subst}
use mathlib.Core.Logic.{◌≢◌, ◌⊎◌, inl, inr}
use mathlib.Core.Bool.{Bool, true}
use mathlib.Core.List.{List, [], ◌∷◌, map}
use native.Mathlib.Omega.{arith}
use lib.ListN.{length, get_or, length-map}
use Rattle.reach.specs.References.{◌∈◌, Uniq, Reached, top, ref}
use Rattle.reach.specs.Walk.{done, Accepted}
use Rattle.reach.specs.Law.{Report}
use Rattle.reach.proofs.Lists.{in_map, map_in, at_in}
use Rattle.reach.proofs.Reports.{report}
use Rattle.volume.specs.declared.disk.Disk.{Disk}
use Rattle.volume.specs.Disks.{root_of}
use Rattle.volume.specs.Blocks.{word_of}
use Rattle.volume.specs.References.{Kind, Ref, to, refers_to, references}
use Rattle.walk.specs.declared.Counts.{Counts}
use Rattle.walk.specs.Nodes.{Node, root, bitmap, entry, list, datum, key_of, bare, leads_to, nothing, graph, walk_of}
use Rattle.volume.specs.Law.{Used}
use Rattle.walk.specs.Reports.{count, Walked}
use Rattle.walk.proofs.Nodes.{NodeReached}
use Rattle.walk.proofs.Accepts.{TreePasses, key_bare, passes_in_tree, accepted_lawful, block_reached}
use Rattle.walk.proofs.Accepts.{node_reached, node_key}
use Rattle.walk.proofs.Tallies.{Tally, is_root, is_bitmap, noted_counts, count_one}
use Rattle.walk.proofs.Trees.{file_reached}
use Rattle.walk.proofs.Coherent.{Coherent, leads_coherent}

module _ (d : Disk) (s : List ℕ) where
  keys_bare : (l : List Node) → map (key_of d) l ≡ map (λ r. r.key) (map (bare d) l)
  keys_bare [] = refl
  keys_bare (n ∷ l) = ap₂ (λ k l. k ∷ l) (sym (key_bare d s n)) (keys_bare l)

  -- ---- one root, and one bitmap block

  root_keyed : (x : Node) → is_root (bare d x) ≡ true → (bare d x).key ≡ root_of d
  root_keyed root q = refl
  root_keyed (bitmap k) q = cc
  root_keyed (entry k t i p) q = cc
  root_keyed (list k h m c) q = cc
  root_keyed (datum k h n c) q = cc

  bitmap_keyed : (x : Node) → Coherent d s x → is_bitmap (bare d x) ≡ true → (bare d x).key ≡ word_of s (root_of d) 79
  bitmap_keyed root h q = cc
  bitmap_keyed (bitmap k) h q = h
  bitmap_keyed (entry k t i p) h q = cc
  bitmap_keyed (list k h m c) r q = cc
  bitmap_keyed (datum k h n c) r q = cc

  module _ (c : List ℕ) (n : Counts) (e : walk_of d s ≡ done c n) where
    rep : Report (graph d s) d.blocks nothing c n
    unfolding walk_of
    rep = report (graph d s) d.blocks nothing c n e

    fine : TreePasses d s
    fine = passes_in_tree d s ((accepted_lawful d s).0 (subst Accepted (sym e) tt)).0

    coherent : {n : Node} → NodeReached d s n → Coherent d s n
    coherent (top e) = subst (Coherent d s) (sym e) tt
    coherent (ref {m = m} {n = n} i r h) =
        leads_coherent d s m (block_reached d s fine r) (file_reached d s fine) (coherent r) n
        (at_in n i (leads_to d s m) h)

    abbrev refs : List Ref
    refs = map (bare d) rep.nodes

    all' : (r : Ref) → Reached (references d s) r → r ∈ refs
    all' r h =
        let u = node_reached d s fine h in
        subst (λ x. x ∈ refs) (sym u.2) (in_map (bare d) u.0 rep.nodes (rep.all u.0 u.1))

    -- a reference is a reached node's
    back : (r : Ref) → r ∈ refs → (n : Node) × NodeReached d s n × (r ≡ bare d n)
    back r h = let w = map_in (bare d) r rep.nodes h in (w.0, rep.only w.0 w.1, w.2)

    keys' : Uniq (map (λ r. r.key) refs)
    keys' = subst Uniq (keys_bare rep.nodes) rep.keys

    -- ---- claims

    byte' : (k : ℕ) → k < d.blocks → ((get_or c k 1 ≡ 1) × Used d s k) ⊎ ((get_or c k 1 ≡ 0) × (¬ Used d s k))
    byte' k l = go (rep.byte k l)
      where
        go : ((get_or c k 1 ≡ 0) × ((n : Node) → NodeReached d s n → key_of d n ≢ k))
            ⊎ ((get_or c k 1 ≡ 1) × ((n : Node) × NodeReached d s n × (key_of d n ≡ k)))
            → ((get_or c k 1 ≡ 1) × Used d s k) ⊎ ((get_or c k 1 ≡ 0) × (¬ Used d s k))
        go (inl z) =
            inr (
              z.0,
              λ u. let w = node_reached d s fine u.1 in z.1 w.0 w.1
                  (node_key d s fine u.1 ∙ u.2),
            )
        go (inr o) = inl (o.0, (bare d o.1.0, block_reached d s fine o.1.1, key_bare d s o.1.0 ∙ o.1.2))

    -- ---- counts

    tally : Tally d s rep.nodes n
    tally = subst (Tally d s rep.nodes) (sym rep.noted) (noted_counts d s rep.nodes)

    -- a test that reached nodes pass with one key only counts one
    once : (f : Ref → Bool) (x : Ref) → Reached (references d s) x → f x ≡ true
        → ((y : Node) → NodeReached d s y → f (bare d y) ≡ true → (bare d y).key ≡ x.key) → count f refs ≡ 1
    once f x r t h =
        count_one f x.key x refs (all' x r) refl t keys'
        (λ y a. let w = back y a in subst (λ z. f z ≡ true → z.key ≡ x.key) (sym w.2) (h w.0 w.1))

    total' : n.directories + n.files + n.lists + n.blocks + 2 ≡ length refs
    unfolding refers_to
    total' =
        let a = once is_root (to Kind.root (root_of d)) (top refl) refl (λ y h. root_keyed y) in
        let b =
        once is_bitmap (to Kind.bitmap (word_of s (root_of d) 79)) (ref 0 (top refl) refl) refl
        (λ y h. bitmap_keyed y (coherent h)) in
        let t = tally.total in
        omega arith

    pub walked_report : Walked d s c n
    walked_report =
        record {
          size = rep.size;
          byte = byte';
          reached = refs;
          all = all';
          only =
              λ r a. let w = back r a in subst (Reached (references d s)) (sym w.2)
              (block_reached d s fine w.1);
          keys = keys';
          directories = tally.directories;
          files = tally.files;
          lists = tally.lists;
          blocks = tally.blocks;
          total = total';
          used = rw length-map rep.used;
        }
