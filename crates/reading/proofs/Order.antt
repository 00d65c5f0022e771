-- Where the blocks of a file stand in the order of its tests: data block i after i others and a list block for each
-- 72 of these, list block j after 72 data blocks for each list block up to it and j list blocks. Assumes nothing.
use Prim.Native.Nat.{ℕ, zero, suc, ◌+◌, ◌-◌, ◌*◌, ◌/◌, ◌%◌, ◌≤◌, ◌<◌}
use mathlib.Core.Path.{◌≡◌, refl, ap, ◌∙◌}
use mathlib.Core.List.{List, [], ◌∷◌, ◌++◌}
use native.Mathlib.Omega.{arith}
use native.Mathlib.Decide.{dec_lt}
use lib.ListN.{length, length-append}
use Rattle.reach.specs.References.{At}
use Rattle.reach.proofs.Lists.{at_one}
use Rattle.volume.specs.declared.disk.Disk.{Disk}
use Rattle.volume.specs.Blocks.{slots, word_of, key_word}
use Rattle.volume.specs.Files.{keys_here, list_blocks, keys_down, lists_from, keys_from, blocks_of, lists_of, keys_of}
use Rattle.volume.proofs.Keys.{down_at, down_long, lists_long, keys_long}
use Rattle.walk.specs.Nodes.{Node, list, datum, before, key_nodes}
use Rattle.walk.proofs.Lists.{at_below, at_left, at_right, right_at, at_some}
use Rattle.reading.specs.FileTests.{blocks_from, file_nodes}
use Rattle.volume.specs.Breaks.{IsData}

-- ---- the keys of one block

module _ (s : List ℕ) (h b : ℕ) where
  module _ (m c : ℕ) where
    nodes_at : (n i j : ℕ) → j < n
        → At j (datum (key_word s b (i + j)) h (suc (m + (i + j))) (before s b c (i + j))) (key_nodes s h b m c i n)
    unfolding key_nodes
    nodes_at zero i j l = absurd (omega arith)
    nodes_at (suc n) i zero l = let e : i + 0 ≡ i = omega arith in rw e refl
    nodes_at (suc n) i (suc j) l =
        let e : i + suc j ≡ suc i + j = omega arith in rw e (nodes_at n (suc i) j (omega arith))

    nodes_long : (n i : ℕ) → length (key_nodes s h b m c i n) ≡ n
    unfolding key_nodes
    nodes_long zero i = refl
    nodes_long (suc n) i = ap suc (nodes_long n (suc i))

  -- n keys, and others after them
  module _ (n : ℕ) (rest : List ℕ) where
    key_is : (i k : ℕ) → i < n → At i k (keys_down s b 0 n ++ rest) → k ≡ key_word s b i
    key_is i k l a =
        at_one i (keys_down s b 0 n ++ rest) a
        (at_left _ i (keys_down s b 0 n) rest (down_at s b 0 n i i (omega arith) l))

    before_is : (c i e : ℕ) → i ≤ n → At i e (c ∷ (keys_down s b 0 n ++ rest)) → e ≡ before s b c i
    before_is c zero e l a = a
    before_is c (suc i) e l a = key_is i e l a

    -- a position among the others
    key_after : (i k : ℕ) → At (n + i) k (keys_down s b 0 n ++ rest) → At i k rest
    key_after i k a = right_at k (n + i) i (keys_down s b 0 n) rest (rw (down_long s b 0 n)) a

    before_after : (c i e : ℕ) → At (n + i) e (c ∷ (keys_down s b 0 n ++ rest)) → At i e (before s b c n ∷ rest)
    before_after c zero e a = let z : n + 0 ≡ n = omega arith in before_is c n e (omega arith) (rw z at a)
    before_after c (suc i) e a = let z : n + suc i ≡ suc (n + i) = omega arith in key_after i e (rw z at a)

    first_at : (m c i k e : ℕ) → i < n → At i k (keys_down s b 0 n ++ rest) → At i e (c ∷ (keys_down s b 0 n ++ rest))
        → At i (datum k h (suc (m + i)) e) (key_nodes s h b m c 0 n)
    first_at m c i k e l p q =
        let z : 0 + i ≡ i = omega arith in
        rw (key_is i k l p, before_is c i e (omega arith) q) (rw z at (nodes_at m c n 0 i l))

-- ---- all blocks of a file, from block b on

-- m data blocks come before, c the last of them; r keys are to come, and q list blocks

module _ (d : Disk) (s : List ℕ) (h : ℕ) where
  abbrev here : ℕ → ℕ
  here m = keys_here (blocks_of d s h - m)

  data_node : (q b m c r : ℕ) → r ≡ blocks_of d s h - m → q ≡ list_blocks r → (i k e : ℕ)
      → At i k (keys_from s r (b ∷ lists_from s b q)) → At i e (c ∷ keys_from s r (b ∷ lists_from s b q))
      → At (i + i / slots) (datum k h (suc (m + i)) e) (blocks_from d s h b m c q)
  unfolding blocks_from keys_from lists_from
  data_node zero b m c r x y i k e p g =
      let l =
      rw (length-append (keys_down s b 0 (keys_here r)) [], down_long s b 0 (keys_here r)) at
      (at_below k i (keys_down s b 0 (keys_here r) ++ []) p) in
      let u : i < keys_here r = omega (arith, l) in
      let z : i + i / slots ≡ i = omega arith in
      rw (z, ← x) (first_at s h b (keys_here r) [] m c i k e u p g)
  data_node (suc q) b m c r x y i k e p g =
      go (dec_lt i slots) (data_node q (word_of s b 126) (m + slots) (key_word s b 71) (r - slots) (omega (arith, x))
      (omega (arith, y)))
    where
      more : List ℕ
      more = keys_from s (r - slots) (word_of s b 126 ∷ lists_from s (word_of s b 126) q)

      next : List Node
      next =
          list (word_of s b 126) h (m + slots) (key_word s b 71) ∷ blocks_from d s h (word_of s b 126) (m + slots)
          (key_word s b 71) q

      full : keys_here r ≡ slots
      full = omega (arith, y)

      go : Dec (i < slots)
          → ((i k e : ℕ) → At i k more → At i e (key_word s b 71 ∷ more)
          → At (i + i / slots) (datum k h (suc (m + slots + i)) e)
          (blocks_from d s h (word_of s b 126) (m + slots) (key_word s b 71) q))
          → At (i + i / slots) (datum k h (suc (m + i)) e) (key_nodes s h b m c 0 (here m) ++ next)
      go (yes l) ih =
          let z : i + i / slots ≡ i = omega arith in
          rw (z, ← x) (at_left _ i (key_nodes s h b m c 0 (keys_here r)) next
          (first_at s h b (keys_here r) more m c i k e (omega (arith, full)) p g))
      go (no l) ih =
          let v : slots + (i - slots) ≡ i = omega arith in
          let p' = key_after s h b slots more (i - slots) k (rw (full, ← v) at p) in
          let g' = before_after s h b slots more c (i - slots) e (rw (full, ← v) at g) in
          let w : m + slots + (i - slots) ≡ m + i = omega arith in
          let n : i + i / slots ≡ slots + suc (i - slots + (i - slots) / slots) = omega arith in
          rw (← x) (at_right _ _ (suc (i - slots + (i - slots) / slots)) (key_nodes s h b m c 0 (keys_here r)) next
          (rw (nodes_long s h b m c (keys_here r) 0, full) n) (rw w at (ih (i - slots) k e p' g')))

  list_node_lem : (q b m c r : ℕ) → r ≡ blocks_of d s h - m → q ≡ list_blocks r → (j k : ℕ) → At j k (lists_from s b q)
      → (e : ℕ) × At (slots * suc j + j) (list k h (m + slots * suc j) e) (blocks_from d s h b m c q)
  unfolding blocks_from lists_from
  list_node_lem zero b m c r x y j k p = absurd p
  list_node_lem (suc q) b m c r x y j k p =
      go j p (list_node_lem q (word_of s b 126) (m + slots) (key_word s b 71) (r - slots) (omega (arith, x))
      (omega (arith, y)))
    where
      next : List Node
      next =
          list (word_of s b 126) h (m + slots) (key_word s b 71) ∷ blocks_from d s h (word_of s b 126) (m + slots)
          (key_word s b 71) q

      nodes : List Node
      nodes = key_nodes s h b m c 0 (here m)

      long : length nodes ≡ slots
      long = nodes_long s h b m c (here m) 0 ∙ omega (arith, x, y)

      go : (j : ℕ) → At j k (word_of s b 126 ∷ lists_from s (word_of s b 126) q)
          → ((j k : ℕ) → At j k (lists_from s (word_of s b 126) q) → (e : ℕ)
          × At (slots * suc j + j) (list k h (m + slots + slots * suc j) e)
          (blocks_from d s h (word_of s b 126) (m + slots) (key_word s b 71) q))
          → (e : ℕ) × At (slots * suc j + j) (list k h (m + slots * suc j) e) (nodes ++ next)
      go zero a ih =
          let w : m + slots * suc 0 ≡ m + slots = omega arith in
          (key_word s b 71, at_right _ _ 0 nodes next (omega (arith, long)) (rw (a, w) refl))
      go (suc j) a ih =
          let f = ih j k a in
          let w : m + slots + slots * suc j ≡ m + slots * suc (suc j) = omega arith in
          (f.0, at_right _ _ (suc (slots * suc j + j)) nodes next (omega (arith, long)) (rw w at f.1))

  nodes_count : (q b m c r : ℕ) → r ≡ blocks_of d s h - m → q ≡ list_blocks r
      → length (blocks_from d s h b m c q) ≡ r + q
  unfolding blocks_from
  nodes_count zero b m c r x y = nodes_long s h b m c (here m) 0 ∙ omega (arith, x, y)
  nodes_count (suc q) b m c r x y =
      let e =
      nodes_count q (word_of s b 126) (m + slots) (key_word s b 71) (r - slots) (omega (arith, x))
      (omega (arith, y)) in
      let n = nodes_long s h b m c (here m) 0 in
      length-append (key_nodes s h b m c 0 (here m)) _ ∙ omega (arith, e, n, x, y)

  -- ---- the whole file

  all : blocks_of d s h ≡ blocks_of d s h - 0
  all = omega arith

  -- data block i, and list block j
  pub data_position : (i k c : ℕ) → IsData d s h i k c → At (i + i / slots) (datum k h (suc i) c) (file_nodes d s h)
  data_position i k c p =
      let z : 0 + i ≡ i = omega arith in
      rw z at (data_node (list_blocks (blocks_of d s h)) h 0 h (blocks_of d s h) all refl i k c p.here p.before)

  pub list_position : (j k : ℕ) → At j k (lists_of d s h)
      → (c : ℕ) × At (slots * suc j + j) (list k h (slots * suc j) c) (file_nodes d s h)
  list_position j k p =
      let z : 0 + slots * suc j ≡ slots * suc j = omega arith in
      rw z at (list_node_lem (list_blocks (blocks_of d s h)) h 0 h (blocks_of d s h) all refl j k p)

  -- and there are no others
  pub data Stands (t : ℕ) (x : Node) : Type 0 where
    is_data_lem : (i k c : ℕ) → IsData d s h i k c → t ≡ i + i / slots → x ≡ datum k h (suc i) c → Stands t x
    is_list_lem : (j k c : ℕ) → At j k (lists_of d s h) → t ≡ slots * suc j + j → x ≡ list k h (slots * suc j) c
        → Stands t x

  pub stands : (t : ℕ) (x : Node) → At t x (file_nodes d s h) → Stands t x
  stands t x a = go (dec_lt (t % suc slots) slots)
    where
      few : t < blocks_of d s h + list_blocks (blocks_of d s h)
      few =
          rw (nodes_count (list_blocks (blocks_of d s h)) h 0 h (blocks_of d s h) all refl) at
          (at_below x t (file_nodes d s h) a)

      go : Dec (t % suc slots < slots) → Stands t x
      go (yes l) =
          let i = t - t / suc slots in
          let p = at_some i (keys_of d s h) (rw (keys_long d s h) (omega (arith, few))) in
          let g = at_some i (h ∷ keys_of d s h) (rw (keys_long d s h) (omega (arith, few))) in
          let w : IsData d s h i p.0 g.0 = record { here = p.1; before = g.1 } in
          let e : t ≡ i + i / slots = omega arith in
          is_data_lem i p.0 g.0 w e (at_one t (file_nodes d s h) a (rw (← e) at (data_position i p.0 g.0 w)))
      go (no l) =
          let j = t / suc slots in
          let p = at_some j (lists_of d s h)
          (rw (lists_long s h (list_blocks (blocks_of d s h))) (omega (arith, few))) in
          let e : t ≡ slots * suc j + j = omega arith in
          let g = list_position j p.0 p.1 in
          is_list_lem j p.0 g.0 p.1 e (at_one t (file_nodes d s h) a (rw (← e) at g.1))
