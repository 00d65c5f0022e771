-- In a tree a chain never has more entries than the limit: its keys, the root's, the bitmap block's and the two boot
-- blocks differ (`chain_few`). Assumes nothing.
use Prim.Native.Nat.{ℕ, zero, suc, ◌≤◌, ◌<◌}
use mathlib.Core.Path.{◌≡◌, refl, sym, ap, ◌∙◌}
use mathlib.Core.Logic.{◌≢◌, ◌⊎◌, inl, inr}
use mathlib.Core.List.{List, [], ◌∷◌, map}
use native.Mathlib.Omega.{arith}
use lib.ListN.{length, get_or, set, replicate, get_or-replicate}
use Rattle.answers.proofs.Clashes.{impossible}
use Rattle.reach.specs.References.{At, ◌∈◌, Uniq, Reached, top, ref}
use Rattle.reach.specs.Walk.{free}
use Rattle.reach.proofs.Lists.{at_in, in_either, map_in}
use Rattle.reach.proofs.Claims.{free_set, free_all, mark_other}
use Rattle.volume.specs.declared.disk.Disk.{Disk}
use Rattle.volume.specs.Disks.{first_key, root_of, chain_limit}
use Rattle.volume.specs.Blocks.{slots, word_of, slot_word}
use Rattle.volume.specs.Files.{keys_down}
use Rattle.volume.specs.References.{Kind, Ref, to, link, key_refs, refers_to, references}
use Rattle.volume.specs.Law.{chain_key, Tree}
use Rattle.walk.proofs.Chains.{chain_some}
use Rattle.walk.proofs.Positions.{Holder, From, from_chain, referred, chain_apart}

-- ---- as many different numbers below N are at most N

marks_few : (c l : List ℕ) → Uniq l → ((x : ℕ) → x ∈ l → get_or c x 1 ≡ 0) → length l ≤ free c
marks_few c [] u h = omega arith
marks_few c (x ∷ l) u h =
    let a = free_set c x (h x (inl refl)) in
    let b = marks_few (set c x 1) l u.1 (λ y m. mark_other c x y (λ e. u.0 (rw e at m)) ∙ h y (inr m)) in
    omega arith

pub few_below : (n : ℕ) (l : List ℕ) → Uniq l → ((x : ℕ) → x ∈ l → x < n) → length l ≤ n
few_below n l u h =
    let a = marks_few (replicate n 0) l u (λ x m. get_or-replicate n x 0 1 (h x m)) in
    rw (free_all n) at a

-- ---- blocks that no chain has

-- a file's lists refer to no entry
keys_none : (s : List ℕ) (b k : ℕ) → to Kind.entry k ∈ key_refs s b → ⊥
keys_none s b k h =
    go (in_either (to Kind.entry k) (map (to Kind.datum) (keys_down s b 0 (word_of s b 2)))
    (link Kind.list (word_of s b 126)) h)
  where
    last : (w : ℕ) → to Kind.entry k ∈ link Kind.list w → ⊥
    last zero m = m
    last (suc w) (inl e) = let f : Kind.entry ≡ Kind.list = ap (λ (r : Ref). r.kind) e in impossible cc
    last (suc w) (inr m) = m

    go : (to Kind.entry k ∈ map (to Kind.datum) (keys_down s b 0 (word_of s b 2)))
        ⊎ (to Kind.entry k ∈ link Kind.list (word_of s b 126))
        → ⊥
    go (inl m) =
        let a = map_in (to Kind.datum) (to Kind.entry k) (keys_down s b 0 (word_of s b 2)) m in
        let f : Kind.entry ≡ Kind.datum = ap (λ (r : Ref). r.kind) a.2 in impossible cc
    go (inr m) = last (word_of s b 126) m

module _ (d : Disk) (s : List ℕ) (v : Tree d s) where
  abbrev B : Ref → Type 0
  B r = Reached (references d s) r

  not_root : (k : ℕ) → B (to Kind.entry k) → k ≢ root_of d
  not_root k (top e) = let f : Kind.entry ≡ Kind.root = ap (λ (r : Ref). r.kind) e in impossible cc
  not_root k (ref {m = m} i r h) = v.owned.none m (to Kind.entry k) i r h

  abbrev page : ℕ
  page = word_of s (root_of d) 79

  page_at : At 0 (to Kind.bitmap page) (refers_to s Kind.root (root_of d))
  unfolding refers_to
  page_at = refl

  page_reached : B (to Kind.bitmap page)
  page_reached = ref 0 (top refl) page_at

  page_root : page ≢ root_of d
  page_root = v.owned.none (to Kind.root (root_of d)) (to Kind.bitmap page) 0 (top refl) page_at

  -- a key with a reference to it as an entry is not the bitmap block's
  not_page : (k : ℕ) → From d s k → k ≢ page
  unfolding refers_to
  not_page k f e =
      let w =
      v.owned.once f.from (to Kind.root (root_of d)) (to Kind.entry k) (to Kind.bitmap page) f.nth 0
      f.reached (top refl) f.stands page_at e in
      go f.from.kind f.from.key f.nth f.reached f.stands w.0 w.1
    where
      go : (a : Kind) (t n : ℕ) → B (to a t) → At n (to Kind.entry k) (refers_to s a t) → t ≡ root_of d → n ≡ 0 → ⊥
      go Kind.root t n r h q z =
          let y : to Kind.entry k ≡ to Kind.bitmap (word_of s t 79) = rw z at h in
          let f : Kind.entry ≡ Kind.bitmap = ap (λ (r : Ref). r.kind) y in impossible cc
      go Kind.bitmap t n r h q z = h
      go Kind.entry t n r h q z = not_root t r q
      go Kind.list t n r h q z = keys_none s t k (at_in (to Kind.entry k) n (key_refs s t) h)
      go Kind.datum t n r h q z = h

  -- ---- the keys of a chain

  module _ (t i : ℕ) (holder : Holder d s t) (l : i < slots) where
    abbrev K : ℕ → ℕ
    K p = chain_key s (slot_word s t i) p

    -- the keys of the first p places
    keys : ℕ → List ℕ
    keys zero = []
    keys (suc p) = K p ∷ keys p

    keys_long : (p : ℕ) → length (keys p) ≡ p
    unfolding keys
    keys_long zero = refl
    keys_long (suc p) = ap suc (keys_long p)

    in_keys : (p x : ℕ) → x ∈ keys p → (q : ℕ) × (q < p) × (x ≡ K q)
    unfolding keys
    in_keys zero x h = absurd h
    in_keys (suc p) x (inl e) = (p, omega arith, e)
    in_keys (suc p) x (inr h) = let w = in_keys p x h in let b = w.1 in (w.0, omega arith, w.2)

    module _ (p : ℕ) (some : K p ≢ 0) where
      before : (q : ℕ) → q ≤ p → K q ≢ 0
      before q h = chain_some s (slot_word s t i) p q h some

      keys_uniq : (n : ℕ) → n ≤ suc p → Uniq (keys n)
      unfolding keys
      keys_uniq zero h = tt
      keys_uniq (suc n) h = (
        (λ m. let w = in_keys n (K n) m in chain_apart d s t i holder l v.owned w.0 n w.1
            (before n (omega arith)) (sym w.2)),
        keys_uniq n (omega arith),
      )

      key_from : (x : ℕ) → x ∈ keys (suc p) → From d s x
      key_from x m =
          let w = in_keys (suc p) x m in
          let b = w.1 in
          rw w.2 (from_chain d s t i holder l w.0 (before w.0 (omega arith)))

      -- the boot blocks, the root, the bitmap block, and the chain
      abbrev all : List ℕ
      all = 0 ∷ 1 ∷ root_of d ∷ page ∷ keys (suc p)

      ranged : (x : ℕ) → x ∈ (root_of d ∷ page ∷ keys (suc p)) → (first_key ≤ x) × (x < d.blocks)
      ranged x (inl e) = rw e (v.keys (to Kind.root (root_of d)) (top refl))
      ranged x (inr (inl e)) = rw e (v.keys (to Kind.bitmap page) page_reached)
      ranged x (inr (inr m)) = v.keys (to Kind.entry x) (referred d s x (key_from x m))

      all_uniq : Uniq all
      all_uniq = (
        low,
        (
          (λ m. let r = (ranged 1 m).0 in omega arith),
          (first, ((λ m. not_page page (key_from page m) refl), keys_uniq (suc p) (omega arith))),
        ),
      )
        where
          low : 0 ∈ (1 ∷ root_of d ∷ page ∷ keys (suc p)) → ⊥
          low (inl e) = omega arith
          low (inr m) = let r = (ranged 0 m).0 in omega arith

          first : root_of d ∈ (page ∷ keys (suc p)) → ⊥
          first (inl e) = page_root (sym e)
          first (inr m) = not_root (root_of d) (referred d s (root_of d) (key_from (root_of d) m)) refl

      all_below : (x : ℕ) → x ∈ all → x < d.blocks
      all_below x (inl e) = let r = ranged (root_of d) (inl refl) in let a = r.0 in let b = r.1 in omega arith
      all_below x (inr (inl e)) = let r = ranged (root_of d) (inl refl) in let a = r.0 in let b = r.1 in omega arith
      all_below x (inr (inr m)) = (ranged x m).1

      pub chain_few : p < chain_limit d
      chain_few = let a = few_below d.blocks all all_uniq all_below in let b = keys_long (suc p) in omega arith
