-- A leaf that is cut out of a tree leaves a tree (`repointed_tree`), which reaches all but the leaf's own blocks
-- (`repointed_reached`). Assumes nothing.
use Prim.Native.Nat.{ℕ, zero, suc, ◌+◌, ◌<◌, ◌≤◌}
use mathlib.Core.Path.{◌≡◌, refl, sym, ap, ◌∙◌, subst}
use mathlib.Core.Logic.{◌≢◌, ◌⊎◌, inl, inr, ◌↔◌}
use mathlib.Core.Bool.{true, false}
use mathlib.Core.List.{List}
use native.Mathlib.Omega.{arith}
use native.Mathlib.Decide.{ℕ_discrete}
use Rattle.reach.specs.References.{Reached}
use Rattle.volume.specs.declared.disk.Disk.{Disk}
use Rattle.volume.specs.Disks.{root_of}
use Rattle.volume.specs.Blocks.{slots, word_of, sum_of, slot_word, directory}
use Rattle.volume.specs.References.{Kind, Ref, to, references}
use Rattle.volume.specs.Law.{after, chain_key, Hangs, Tree, summed}
use Rattle.walk.proofs.Chains.{after_some}
use Rattle.cut.specs.Cut.{Cut, Parted}
use Rattle.cut.proofs.Singles.{one_node}
use Rattle.cut.proofs.Cutting.{cut_parted, rest_reached}
use Rattle.cut.proofs.Joining.{cut_reached}
use Rattle.writes.proofs.Alike.{same_sum}
use Rattle.tree.specs.OwnBlocks.{refs_of, key_of, own_of, Mine}
use Rattle.tree.specs.Pointers.{Points, Leaf, Repointed}
use Rattle.tree.proofs.Refers.{same_word}
use Rattle.tree.proofs.Carrying.{tree_carried}
use Rattle.tree.proofs.Changed.{bare_same, root_alike, entry_alike}
use Rattle.tree.proofs.Cuts.{word_else, repointed_cut}

-- ---- a chain of t is a chain of s that leaves out an entry here and there

module _ (s t : List ℕ) where
  -- the same, or one entry further on
  abbrev OneOn : ℕ → ℕ → Type 0
  OneOn a b = (b ≡ a) ⊎ (b ≡ after s a)

  pub chain_within : (h h' : ℕ) → OneOn h h' → ((y : ℕ) → OneOn (after s y) (after t y)) → (q : ℕ)
      → (q' : ℕ) × (chain_key t h' q ≡ chain_key s h q')
  unfolding chain_key
  chain_within h h' a b zero = go a
    where
      go : OneOn h h' → (q' : ℕ) × (h' ≡ chain_key s h q')
      go (inl e) = (0, e)
      go (inr e) = (1, e)
  chain_within h h' a b (suc q) = go (chain_within h h' a b q)
    where
      go : (q' : ℕ) × (chain_key t h' q ≡ chain_key s h q') → (q' : ℕ) × (after t (chain_key t h' q) ≡ chain_key s h q')
      go w = next (b (chain_key t h' q))
        where
          next : OneOn (after s (chain_key t h' q)) (after t (chain_key t h' q))
              → (q' : ℕ) × (after t (chain_key t h' q) ≡ chain_key s h q')
          next (inl e) = (suc w.0, e ∙ ap (after s) w.1)
          next (inr e) = (suc (suc w.0), e ∙ ap (λ y. after s (after s y)) w.1)

module _ (d : Disk) (s t : List ℕ) (v : Tree d s) (p : Ref) (w k : ℕ) (reached : Reached (references d s) p)
    (points : word_of s p.key w ≡ k) (some : k ≢ 0) (c : Repointed s t p.key w (word_of s k 124))
    (at : Points d s p w)
    (leaf : Leaf s k) where
  cut : Cut (to Kind.root (root_of d)) key_of (refs_of s) (refs_of t) (own_of s) p (to Kind.entry k)
  cut = repointed_cut d s t p w k few points some c at leaf
    where
      -- a file counts at most 72 keys
      few : (x : ℕ) → p ≡ to Kind.entry x → directory s x ≡ false → word_of s x 2 ≤ slots
      few x e f =
          let q = ((v.files x (subst (Reached (references d s)) e reached) f).counts 0 x refl).count in omega (arith, q)

  pub repointed_parted : Parted (to Kind.root (root_of d)) key_of (refs_of s) (refs_of t) (own_of s) p (to Kind.entry k)
  repointed_parted =
      cut_parted (to Kind.root (root_of d)) key_of (refs_of s) (refs_of t) (own_of s) p (to Kind.entry k) cut reached
      v.owned

  -- What s reaches t reaches, or it is the entry's own.
  pub repointed_reached : (r : Ref) → Reached (references d s) r ↔ (Reached (references d t) r ⊎ Mine s k r)
  repointed_reached =
      cut_reached (to Kind.root (root_of d)) key_of (refs_of s) (refs_of t) (own_of s) p (to Kind.entry k) cut reached
      v.owned

  was : (r : Ref) → Reached (references d t) r → Reached (references d s) r
  was r h =
      rest_reached (to Kind.root (root_of d)) key_of (refs_of s) (refs_of t) (own_of s) p (to Kind.entry k) cut reached
      v.owned h

  pub repointed_one : (r : Ref) → Reached (references d t) r → r.key ≡ p.key → r ≡ p
  repointed_one r h e = one_node (references d s) v.owned (was r h) reached e

  -- ---- chains

  -- the word that changed: where it pointed, and where it points
  moved : {y : ℕ} → y ≡ p.key → word_of t y w ≡ after s (word_of s y w)
  moved e =
      let a : word_of s p.key w ≢ 0 = λ z. some (sym points ∙ z) in
      rw e (c.now ∙ ap (λ x. word_of s x 124) (sym points) ∙ sym (after_some s (word_of s p.key w) a))

  word_on : (y j : ℕ) → j < 128 → j ≢ 5 → (word_of t y j ≡ word_of s y j) ⊎ (word_of t y j ≡ after s (word_of s y j))
  word_on y j l n = go (ℕ_discrete y p.key) (ℕ_discrete j w)
    where
      go : Dec (y ≡ p.key) → Dec (j ≡ w) → (word_of t y j ≡ word_of s y j) ⊎ (word_of t y j ≡ after s (word_of s y j))
      go (yes e) (yes f) = inr (rw f (moved e))
      go (yes e) (no f) = inl (rw e (word_else s t p.key w (word_of s k 124) c j l n f))
      go (no e) f = inl (same_word s t y (c.others y e) j l)

  after_on : (y : ℕ) → OneOn s t (after s y) (after t y)
  unfolding after
  after_on zero = inl refl
  after_on (suc y) = word_on (suc y) 124 (omega arith) (omega arith)

  hangs_on : (x i l : ℕ) → Hangs t x i l → Hangs s x i l
  hangs_on x i l g =
      let m = g.slot in
      let q =
      chain_within s t (slot_word s x i) (slot_word t x i) (word_on x (6 + i) (omega arith) (omega arith)) after_on
      g.position in
      record { slot = g.slot; position = q.0; there = sym q.1 ∙ g.there; some = g.some }

  -- ---- the tree

  sums_on : (r : Ref) → Reached (references d t) r → summed d r.kind ≡ true → sum_of t r.key ≡ 0
  sums_on r h o = go (ℕ_discrete r.key p.key)
    where
      go : Dec (r.key ≡ p.key) → sum_of t r.key ≡ 0
      go (yes e) = rw e c.sum
      go (no e) = same_sum s t r.key (c.others r.key e) ∙ v.sums r (was r h) o

  -- Without a leaf a tree is a tree.
  pub repointed_tree : Tree d t
  repointed_tree =
      tree_carried d s t v
      (record {
        long = c.long;
        tag = same_word s t 0 (c.others 0 (λ e. omega (arith, (v.keys p reached).0, e))) 0 (omega arith);
        reached = was;
        sums = sums_on;
        root = root_alike d s t p w (word_of s k 124) at c repointed_one;
        entries = entry_alike d s t p w (word_of s k 124) at c repointed_one;
        lists = λ x h. bare_same d s t p w (word_of s k 124) at c repointed_one (to Kind.list x) h (λ z. z);
        datums = λ x h. bare_same d s t p w (word_of s k 124) at c repointed_one (to Kind.datum x) h (λ z. z);
        hangs = λ x i l _ g. hangs_on x i l g;
        owned = repointed_parted.rest;
      })
