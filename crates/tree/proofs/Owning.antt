-- What a leaf has for itself is reached, is owned once (`own_owned`), and is the same on an image with the same tree
-- (`own_agrees`). Assumes nothing.
use Prim.Native.Nat.{ℕ}
use mathlib.Core.Path.{◌≡◌, refl, sym, subst}
use mathlib.Core.Logic.{◌⊎◌, inl, inr, ◌↔◌}
use mathlib.Core.List.{List}
use native.Mathlib.Omega.{arith}
use Rattle.reach.specs.References.{At, Reached, top, ref, Owned}
use Rattle.reach.proofs.Lists.{at_in}
use Rattle.volume.specs.declared.disk.Disk.{Disk}
use Rattle.volume.specs.Blocks.{word_of}
use Rattle.volume.specs.References.{Kind, Ref, to, link, refers_to, references}
use Rattle.cut.specs.Cut.{from}
use Rattle.cut.proofs.Singles.{one_node}
use Rattle.walk.proofs.Lists.{at_left}
use Rattle.cut.proofs.Agreeing.{agree_to, agree_from}
use Rattle.writes.specs.Alike.{SameBlock}
use Rattle.tree.specs.OwnBlocks.{key_of, within, own_to, own_of, Mine}
use Rattle.tree.specs.Pointers.{Leaf}
use Rattle.volume.specs.Law.{Tree}
use Rattle.tree.specs.SameTree.{SameTree}
use Rattle.tree.proofs.Refers.{same_word, slots_same, listed_same, refers_same}
use Rattle.tree.proofs.SameTrees.{Held, not_root, not_map}
use Rattle.tree.proofs.Cuts.{Bare, leaf_mine, leaf_refers}

-- what a block has for itself stands at the same position among all that it refers to
own_at : (s : List ℕ) (a : Kind) (k i : ℕ) (r : Ref) → At i r (own_to s a k) → At i r (refers_to s a k)
unfolding refers_to
own_at s Kind.root k i r h = h
own_at s Kind.bitmap k i r h = h
own_at s Kind.entry k i r h = at_left r i (within s k) (link Kind.entry (word_of s k 124)) h
own_at s Kind.list k i r h = h
own_at s Kind.datum k i r h = h

pub own_same : (s t : List ℕ) (k : ℕ) → SameBlock s t k → (a : Kind) → own_to t a k ≡ own_to s a k
own_same s t k e Kind.root = refers_same s t k e Kind.root
own_same s t k e Kind.bitmap = refers_same s t k e Kind.bitmap
own_same s t k e Kind.entry = rw (same_word s t k e 127 (omega arith), slots_same s t k e, listed_same s t k e) refl
own_same s t k e Kind.list = refers_same s t k e Kind.list
own_same s t k e Kind.datum = refers_same s t k e Kind.datum

bare_held : (a : Kind) → Bare a → Held a
bare_held Kind.root h = h
bare_held Kind.bitmap h = h
bare_held Kind.entry h = tt
bare_held Kind.list h = tt
bare_held Kind.datum h = tt

module _ (d : Disk) (s : List ℕ) (k : ℕ) (reached : Reached (references d s) (to Kind.entry k)) where
  pub own_reached : {r : Ref} → Mine s k r → Reached (references d s) r
  own_reached (top e) = subst (Reached (references d s)) (sym e) reached
  own_reached (ref {m = m} {n = n} i r h) = ref i (own_reached r) (own_at s m.kind m.key i n h)

  pub own_owned : Tree d s → Leaf s k → Owned (from (to Kind.entry k) key_of (own_of s))
  own_owned v leaf =
      record {
        once =
            λ m m' n n' i i' r r' h h' e. v.owned.once m m' n n' i i' (own_reached r) (own_reached r')
            (own_at s m.kind m.key i n h) (own_at s m'.kind m'.key i' n' h') e;
        none =
            λ m n i r h e. subst (λ x. Bare x.kind)
            (one_node (references d s) v.owned (own_reached (ref i r h)) reached e)
            (leaf_refers s k leaf m n r (at_in n i (own_of s m) h));
      }

  module _ (v : Tree d s) (leaf : Leaf s k) (t : List ℕ) (a : SameTree d s t) where
    agrees : (r : Ref) → Mine s k r → own_of t r ≡ own_of s r
    agrees r h =
        let b = own_reached h in
        let w = held (leaf_mine s k leaf h) in
        own_same s t r.key (a.blocks r b (not_root d s v r b w) (not_map d s v r b w)) r.kind
      where
        held : (r ≡ to Kind.entry k) ⊎ Bare r.kind → Held r.kind
        held (inl e) = subst (λ x. Held x.kind) (sym e) tt
        held (inr b) = bare_held r.kind b

    pub own_agrees : (r : Ref) → Mine s k r ↔ Mine t k r
    own_agrees r = (
      agree_to (to Kind.entry k) key_of (own_of s) (own_of t) agrees,
      agree_from (to Kind.entry k) key_of (own_of s)
          (own_of t) agrees,
    )
