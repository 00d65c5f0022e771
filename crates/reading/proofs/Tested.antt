-- What it says of a file that its blocks pass their tests: it is as the law says, and its blocks are in range with
-- sum 0 (`tested_file`, `tested_whole`). Assumes nothing.
use Rattle.std.specs.Prelude.{Ok, Err}
use Prim.Native.Nat.{ℕ, zero, suc, ◌+◌, ◌-◌}
use mathlib.Core.Path.{◌≡◌, refl, ap, subst}
use mathlib.Core.Logic.{inl, inr, ◌⊎◌}
use mathlib.Core.Bool.{Bool, true, false}
use mathlib.Core.List.{List, [], ◌∷◌}
use native.Mathlib.Omega.{arith}
use lib.Dec.{eqb}
use borrow.Author.Tests.{eqb-true}
use Rattle.answers.specs.Tests.{pick}
use Rattle.answers.specs.Refusals.{refusal}
use Rattle.answers.proofs.Tests.{first_zero}
use Rattle.answers.proofs.Clashes.{impossible}
use Rattle.reach.specs.References.{◌∈◌}
use Rattle.reach.proofs.Lists.{in_left, in_right, in_either}
use Rattle.volume.specs.declared.disk.Disk.{Disk}
use Rattle.volume.specs.Blocks.{slots, word_of, key_word}
use Rattle.volume.specs.Files.{keys_here, list_blocks, keys_down, lists_from, keys_from, blocks_of}
use Rattle.volume.specs.References.{Kind}
use Rattle.volume.specs.Law.{KeyCount, File}
use Rattle.volume.specs.Rules.{file_fault}
use Rattle.volume.proofs.Passes.{file_passed, list_passed, data_passed}
use Rattle.walk.specs.Nodes.{Node, root, bitmap, entry, list, datum, before, key_nodes, key_of, bare, key_fault}
use Rattle.walk.specs.Nodes.{fault_of}
use Rattle.walk.proofs.Passes.{key_passed, in_tree, sum_passed}
use Rattle.walk.proofs.Spreads.{Run, Spread, here, file_spreads}
use Rattle.walk.proofs.KeyRuns.{NodeFollows, run_nodes}
use Rattle.reading.specs.FileTests.{node_fault, first_fault, blocks_from, file_nodes, blocks_fault}
use Rattle.reading.specs.Outcomes.{Intact, FileWhole}

module _ (d : Disk) (s : List ℕ) where
  abbrev pub Pass : List Node → Type 0
  Pass ns = (x : Node) → x ∈ ns → node_fault d s x ≡ 0

  all_pass : (ns : List Node) → first_fault d s ns ≡ Ok tt → Pass ns
  unfolding first_fault pick
  all_pass [] e x h = absurd h
  all_pass (n ∷ ns) e x h = go (eqb (node_fault d s n) 0) refl e h (all_pass ns)
    where
      go : (b : Bool) → eqb (node_fault d s n) 0 ≡ b
          → pick b (first_fault d s ns) (Err (refusal (node_fault d s n) (key_of d n))) ≡ Ok tt → x ∈ (n ∷ ns)
          → (first_fault d s ns ≡ Ok tt → Pass ns) → node_fault d s x ≡ 0
      go true q e (inl a) f = rw a (eqb-true _ 0 q)
      go true q e (inr a) f = f e x a
      go false q e a f = impossible cc

  own : (x : Node) → node_fault d s x ≡ 0 → fault_of d s x ≡ 0
  own x e = (first_zero (key_fault d (key_of d x)) _ e).1

  intact : (x : Node) → node_fault d s x ≡ 0 → Intact d s (bare d x).kind (key_of d x)
  intact x e =
      let r = key_passed d (key_of d x) (first_zero (key_fault d (key_of d x)) _ e).0 in
      record { inside = record { low = r.0; high = r.1 }; sum = sum_passed d s x (in_tree d s x (own x e)) }

  -- a data block that passes is as the law says
  sound : (x : Node) → fault_of d s x ≡ 0 → NodeFollows d s x
  unfolding fault_of
  sound root e = tt
  sound (bitmap k) e = tt
  sound (entry k t i p) e = tt
  sound (list k h m c) e = tt
  sound (datum k h n c) e = λ o. (data_passed d s k h n (word_of s c 4) e o).ties

  module _ (h : ℕ) where
    abbrev next : ℕ → ℕ → Node
    next b m = list (word_of s b 126) h (m + slots) (key_word s b 71)

    keys_part : (q b m c : ℕ) → Pass (blocks_from d s h b m c q)
        → Pass (key_nodes s h b m c 0 (keys_here (blocks_of d s h - m)))
    unfolding blocks_from
    keys_part zero b m c f = f
    keys_part (suc q) b m c f =
        λ x a. f x (in_left x (key_nodes s h b m c 0 (keys_here (blocks_of d s h - m)))
        (next b m ∷ blocks_from d s h (word_of s b 126) (m + slots) (key_word s b 71) q) a)

    runs : (q b m c : ℕ) → Pass (blocks_from d s h b m c q) → Run d s h m c (keys_down s b 0 (here d s h m))
    runs q b m c f = (run_nodes d s h b m c).1 (λ x a. sound x (own x (keys_part q b m c f x a)))

    rest : (q b m c : ℕ) → Pass (blocks_from d s h b m c (suc q))
        → Pass (next b m ∷ blocks_from d s h (word_of s b 126) (m + slots) (key_word s b 71) q)
    unfolding blocks_from
    rest q b m c f x a = f x (in_right x (key_nodes s h b m c 0 (keys_here (blocks_of d s h - m))) _ a)

    spread_tested : (q b m c : ℕ) → q ≡ list_blocks (blocks_of d s h - m) → KeyCount s b (blocks_of d s h - m)
        → Pass (blocks_from d s h b m c q) → Spread d s h q b m c
    unfolding fault_of
    spread_tested zero b m c e l f = (l, runs zero b m c f)
    spread_tested (suc q) b m c e l f =
        let g = rest q b m c f in
        let p = list_passed s (word_of s b 126) h _ (own (next b m) (g (next b m) (inl refl))) in
        let n : here d s h m ≡ slots = omega (arith, e) in
        let t =
        spread_tested q (word_of s b 126) (m + slots) (key_word s b 71) (omega (arith, e)) p.2
        (λ x a. g x (inr a)) in
        (l, runs (suc q) b m c f, p.1, rw n t)

    -- ---- the keys of its data blocks, and of its list blocks

    down_intact : (b m c i n : ℕ) → Pass (key_nodes s h b m c i n) → (k : ℕ) → k ∈ keys_down s b i n
        → Intact d s Kind.datum k
    unfolding key_nodes keys_down
    down_intact b m c i zero f k a = absurd a
    down_intact b m c i (suc n) f k (inl a) =
        rw a (intact (datum (key_word s b i) h (suc (m + i)) (before s b c i)) (f _ (inl refl)))
    down_intact b m c i (suc n) f k (inr a) = down_intact b m c (suc i) n (λ x p. f x (inr p)) k a

    -- those of one block, and those after
    keys_split : (q b m c r k : ℕ) → r ≡ blocks_of d s h - m → Pass (blocks_from d s h b m c q)
        → (k ∈ keys_from s (r - slots) (lists_from s b q) → Intact d s Kind.datum k)
        → k ∈ keys_from s r (b ∷ lists_from s b q) → Intact d s Kind.datum k
    unfolding keys_from
    keys_split q b m c r k e f g a = go (in_either k (keys_down s b 0 (keys_here r)) _ a)
      where
        go : (k ∈ keys_down s b 0 (keys_here r)) ⊎ (k ∈ keys_from s (r - slots) (lists_from s b q))
            → Intact d s Kind.datum k
        go (inl p) = down_intact b m c 0 (keys_here (blocks_of d s h - m)) (keys_part q b m c f) k (rw e at p)
        go (inr p) = g p

    keys_intact : (q b m c r k : ℕ) → r ≡ blocks_of d s h - m → Pass (blocks_from d s h b m c q)
        → k ∈ keys_from s r (b ∷ lists_from s b q) → Intact d s Kind.datum k
    unfolding keys_from lists_from
    keys_intact zero b m c r k e f a = keys_split zero b m c r k e f (λ p. absurd p) a
    keys_intact (suc q) b m c r k e f a =
        keys_split (suc q) b m c r k e f
        (λ p. keys_intact q (word_of s b 126) (m + slots) (key_word s b 71) (r - slots) k (omega arith)
        (λ x y. rest q b m c f x (inr y)) p) a

    lists_intact : (q b m c k : ℕ) → Pass (blocks_from d s h b m c q) → k ∈ lists_from s b q → Intact d s Kind.list k
    unfolding lists_from
    lists_intact zero b m c k f a = absurd a
    lists_intact (suc q) b m c k f (inl a) = rw a (intact (next b m) (rest q b m c f (next b m) (inl refl)))
    lists_intact (suc q) b m c k f (inr a) =
        lists_intact q (word_of s b 126) (m + slots) (key_word s b 71) k (λ x y. rest q b m c f x (inr y)) a

    -- ---- the whole file

    module _ (e : blocks_fault d s h ≡ Ok tt) where
      header_passes : file_fault d s h ≡ 0
      unfolding blocks_fault pick
      header_passes = go (eqb (file_fault d s h) 0) refl e
        where
          go : (b : Bool) → eqb (file_fault d s h) 0 ≡ b
              → pick b (first_fault d s (file_nodes d s h)) (Err (refusal (file_fault d s h) h)) ≡ Ok tt
              → file_fault d s h ≡ 0
          go true q x = eqb-true _ 0 q
          go false q x = impossible cc

      blocks_pass : Pass (file_nodes d s h)
      unfolding blocks_fault pick
      blocks_pass = all_pass (file_nodes d s h) (rw header_passes at e)

      nothing_done : blocks_of d s h ≡ blocks_of d s h - 0
      nothing_done = omega arith

      -- a file that passes is as the law says
      pub tested_file : File d s h
      tested_file =
          let p = file_passed d s h header_passes in
          (file_spreads d s h).1 (
            p.size,
            p.empty,
            spread_tested (list_blocks (blocks_of d s h)) h 0 h
                (ap list_blocks nothing_done) (subst (KeyCount s h) nothing_done p.lists) blocks_pass,
          )

      -- and whole
      pub tested_whole : FileWhole d s h
      tested_whole =
          let q = list_blocks (blocks_of d s h) in
          record {
            file = tested_file;
            lists = λ k a. lists_intact q h 0 h k blocks_pass a;
            keys = λ k a. keys_intact q h 0 h (blocks_of d s h) k nothing_done blocks_pass a;
          }
