-- On an image with the same tree every find answers alike (`same_find`). Assumes nothing.
use Rattle.std.specs.Prelude.{Ok, Err, Some, None}
use Prim.Native.Nat.{ℕ, zero, suc, ◌+◌, ◌<◌}
use mathlib.Core.Path.{◌≡◌, refl, sym, ap, ◌∙◌}
use mathlib.Core.Logic.{◌≢◌, inl, inr}
use mathlib.Core.Bool.{Bool, true, false}
use mathlib.Core.List.{List, [], ◌∷◌}
use native.Mathlib.Omega.{arith}
use native.Mathlib.Decide.{ℕ_discrete}
use borrow.Author.Tests.{eq-eqb}
use Rattle.answers.specs.Tests.{pick}
use Rattle.reach.specs.References.{Reached, top}
use Rattle.volume.specs.declared.disk.Disk.{Disk}
use Rattle.volume.specs.Disks.{root_of}
use Rattle.volume.specs.Blocks.{slots, Holds, word_of, slot_word, directory}
use Rattle.volume.specs.Names.{name_of, name_good, slot_of}
use Rattle.volume.specs.References.{Kind, to, references}
use Rattle.volume.specs.Law.{after, chain_key, Hangs, Tree}
use Rattle.volume.specs.Rules.{root_fault, entry_fault}
use Rattle.volume.proofs.Passes.{root_passes}
use Rattle.walk.proofs.Positions.{Holder}
use Rattle.lookup.specs.Search.{position_key, position_fault, visit, search_from, search_of, Step, hit}
use Rattle.lookup.specs.Lookup.{file_at, stepped, lookup_from, from_root, find_of}
use Rattle.lookup.proofs.Chains.{slot_below}
use Rattle.lookup.proofs.Positions.{first_equal_name}
use Rattle.writes.specs.Alike.{SameBlock}
use Rattle.writes.proofs.Alike.{same_sum, alike_name, alike_good, good_short}
use Rattle.tree.specs.SameTree.{SameTree}
use Rattle.tree.proofs.Refers.{same_word}
use Rattle.tree.proofs.Carrying.{key_holds, hung_reached}
use Rattle.tree.proofs.SameTrees.{root_word}
use Rattle.tree.proofs.Kept.{same_entry}

module _ (d : Disk) (s t : List ℕ) (v : Tree d s) (u : Tree d t) (a : SameTree d s t) where
  -- ---- an entry

  module _ (k : ℕ) (r : Reached (references d s) (to Kind.entry k)) where
    block_same : SameBlock s t k
    block_same = same_entry d s v t a k r

    word_same : (j : ℕ) → j < 128 → word_of t k j ≡ word_of s k j
    word_same = same_word s t k block_same

    inside : Holds s k
    inside = key_holds d s v (to Kind.entry k) r

    inside' : Holds t k
    inside' = omega (arith, inside, a.long)

    name_same : name_of t k ≡ name_of s k
    name_same =
        alike_name (λ _. ⊥) s t k block_same inside inside' (λ j p q z. z) (good_short s k (v.entries k r).name)

    good_same : name_good t k ≡ name_good s k
    good_same = alike_good (λ _. ⊥) s t k block_same inside inside' (λ j p q z. z)

    fault_same : (x i : ℕ) → entry_fault d t k x i ≡ entry_fault d s k x i
    unfolding entry_fault
    fault_same x i =
        rw (
          same_sum s t k block_same,
          word_same 0 (omega arith),
          word_same 127 (omega arith),
          word_same 1
              (omega arith),
          word_same 125 (omega arith),
          word_same 126 (omega arith),
          good_same,
          name_same,
        ) refl

  -- ---- a chain

  module _ (x i : ℕ) (o : Holder d s x) (l : i < slots) where
    head_same : slot_word t x i ≡ slot_word s x i
    head_same = go o
      where
        go : Holder d s x → slot_word t x i ≡ slot_word s x i
        go (inl e) = rw e (root_word d s v t a (6 + i) (omega arith) (omega arith) (omega arith))
        go (inr w) = word_same x w.0 (6 + i) (omega arith)

    position_reached : (p : ℕ) → chain_key s (slot_word s x i) p ≢ 0
        → Reached (references d s) (to Kind.entry (chain_key s (slot_word s x i) p))
    position_reached p n =
        hung_reached d s x i (chain_key s (slot_word s x i) p) o
        (record { slot = l; position = p; there = refl; some = n })

    chain_same : (p : ℕ) → chain_key t (slot_word t x i) p ≡ chain_key s (slot_word s x i) p
    unfolding chain_key after
    chain_same zero = head_same
    chain_same (suc p) = ap (after t) (chain_same p) ∙ go (chain_key s (slot_word s x i) p) (position_reached p)
      where
        go : (y : ℕ) → (y ≢ 0 → Reached (references d s) (to Kind.entry y)) → after t y ≡ after s y
        go zero h = refl
        go (suc y) h = word_same (suc y) (h (omega arith)) 124 (omega arith)

  -- ---- a search

  module _ (x : ℕ) (o : Holder d s x) (name : List ℕ) where
    low : slot_of d name < slots
    low = slot_below d name (slot_of d name) refl

    search_same : (n p : ℕ) → search_from d t x name n p ≡ search_from d s x name n p
    unfolding search_from position_fault pick
    search_same zero p = refl
    search_same (suc n) p = rw (chain_same x (slot_of d name) o low p) (go (ℕ_discrete k 0) (search_same n (p + 1)))
      where
        k : ℕ
        k = position_key d s x name p

        go : Dec (k ≡ 0) → search_from d t x name n (p + 1) ≡ search_from d s x name n (p + 1)
            → visit d t name p k (position_fault d t x (slot_of d name) p k) (search_from d t x name n (p + 1))
            ≡ visit d s name p k (position_fault d s x (slot_of d name) p k) (search_from d s x name n (p + 1))
        go (yes e) ih = rw (eq-eqb k 0 e) refl
        go (no e) ih =
            let r = position_reached x (slot_of d name) o low p e in
            rw (ih, name_same k r, fault_same k r x (slot_of d name)) refl

    pub search_of_same : search_of d t x name ≡ search_of d s x name
    unfolding search_of
    search_of_same = search_same _ 0

    -- what it finds hangs there, and so is reached
    pub found_hangs : (k m : ℕ) → search_of d s x name ≡ Ok (Some (hit k m)) → Hangs s x (slot_of d name) k
    found_hangs k m e =
        let w = (first_equal_name d s x name k m).0 e in
        record { slot = low; position = w.0; there = sym w.2; some = λ z. w.1.tests.some (sym w.2 ∙ z) }

    found_reached : (k m : ℕ) → search_of d s x name ≡ Ok (Some (hit k m)) → Reached (references d s) (to Kind.entry k)
    found_reached k m e = hung_reached d s x (slot_of d name) k o (found_hangs k m e)

  -- ---- all components

  lookup_same : (cs : List (List ℕ)) (x i n : ℕ) → Holder d s x → lookup_from d t x i n cs ≡ lookup_from d s x i n cs
  unfolding lookup_from pick
  lookup_same [] x i n o = refl
  lookup_same (c ∷ cs) x i n o =
      rw (search_of_same x o c) (go (search_of d s x c) refl (λ k m h. lookup_same cs k (i + 1) m h))
    where
      go : (r : Step) → search_of d s x c ≡ r
          → ((k m : ℕ) → Holder d s k → lookup_from d t k (i + 1) m cs ≡ lookup_from d s k (i + 1) m cs)
          → stepped t i n cs (λ k m. lookup_from d t k (i + 1) m cs) r
          ≡ stepped s i n cs (λ k m. lookup_from d s k (i + 1) m cs) r
      go (Ok None) e ih = refl
      go (Err r) e ih = refl
      go (Ok (Some h)) e ih = rw kinds (chosen (directory s h.key) refl)
        where
          reached : Reached (references d s) (to Kind.entry h.key)
          reached = found_reached x o c h.key h.compared e

          kinds : directory t h.key ≡ directory s h.key
          kinds = rw (word_same h.key reached 127 (omega arith)) refl

          files : (cs : List (List ℕ)) → file_at t i (n + h.compared) cs h.key ≡ file_at s i (n + h.compared) cs h.key
          files [] = rw (word_same h.key reached 81 (omega arith)) refl
          files (c ∷ cs) = refl

          chosen : (b : Bool) → directory s h.key ≡ b
              → pick b (lookup_from d t h.key (i + 1) (n + h.compared) cs) (file_at t i (n + h.compared) cs h.key)
              ≡ pick b (lookup_from d s h.key (i + 1) (n + h.compared) cs) (file_at s i (n + h.compared) cs h.key)
          chosen true f = ih h.key (n + h.compared) (inr (reached, f))
          chosen false f = files cs

  -- ---- the root, and the whole

  root_fine : (z : List ℕ) → Tree d z → root_fault d z ≡ 0
  root_fine z w = root_passes d z (w.sums (to Kind.root (root_of d)) (top refl) refl) w.top

  -- Every find answers alike.
  pub same_find : (path : List ℕ) → find_of d t path ≡ find_of d s path
  unfolding find_of from_root
  same_find path = rw (a.long, a.tag, root_fine s v, root_fine t u, lookup_same _ (root_of d) 0 0 (inl refl)) refl
