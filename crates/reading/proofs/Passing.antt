-- A file that is as the law says, its blocks in range with sum 0, passes its tests (`passes_tested`), and no other
-- does (`tested_exactly`). Assumes nothing.
use Rattle.std.specs.Prelude.{Ok}
use Prim.Native.Nat.{ℕ, zero, suc, ◌+◌, ◌-◌}
use mathlib.Core.Path.{◌≡◌, refl, sym, ap, subst}
use mathlib.Core.Logic.{◌⊎◌, inl, inr, ◌↔◌}
use mathlib.Core.List.{List, [], ◌∷◌, ◌++◌}
use native.Mathlib.Omega.{arith}
use borrow.Author.Tests.{eq-eqb}
use Rattle.answers.specs.Tests.{pick}
use Rattle.reach.specs.References.{◌∈◌}
use Rattle.reach.proofs.Lists.{in_left, in_right, in_either}
use Rattle.volume.specs.declared.disk.Disk.{Disk}
use Rattle.volume.specs.Blocks.{slots, word_of, key_word}
use Rattle.volume.specs.Files.{keys_here, list_blocks, keys_down, lists_from, keys_from, blocks_of}
use Rattle.volume.specs.References.{Kind}
use Rattle.volume.specs.Law.{ListBlock, KeyCount}
use Rattle.volume.proofs.Passes.{◌&◌, file_passes, list_passes, data_passes}
use Rattle.walk.specs.Nodes.{Node, list, datum, key_nodes, key_of, fault_of}
use Rattle.walk.proofs.Nodes.{in_keys}
use Rattle.walk.proofs.Passes.{key_passes}
use Rattle.walk.proofs.Spreads.{Follows, Run, Spread, here, spread_first, file_spreads, file_header}
use Rattle.walk.proofs.KeyRuns.{NodeFollows, run_nodes}
use Rattle.reading.specs.FileTests.{node_fault, first_fault, blocks_from, file_nodes, blocks_fault}
use Rattle.reading.specs.Outcomes.{Intact, FileWhole}
use Rattle.reading.proofs.Tested.{Pass, tested_whole}

module _ (d : Disk) (s : List ℕ) where
  pass_all : (ns : List Node) → Pass d s ns → first_fault d s ns ≡ Ok tt
  unfolding first_fault pick
  pass_all [] f = refl
  pass_all (n ∷ ns) f = rw (eq-eqb (node_fault d s n) 0 (f n (inl refl))) (pass_all ns (λ x a. f x (inr a)))

  module _ (h : ℕ) where
    abbrev N : ℕ
    N = blocks_of d s h

    -- ---- one block

    datum_passes : (k n c : ℕ) → Intact d s Kind.datum k → Follows d s h n c k → node_fault d s (datum k h n c) ≡ 0
    unfolding fault_of
    datum_passes k n c i f =
        key_passes d k (i.inside.low, i.inside.high) & data_passes d s k h n (word_of s c 4)
        (λ o. record { sum = i.sum o; ties = f o })

    list_there : (k m c : ℕ) → Intact d s Kind.list k → ListBlock s h k → KeyCount s k (blocks_of d s h - m)
        → node_fault d s (list k h m c) ≡ 0
    unfolding fault_of
    list_there k m c i f l =
        key_passes d k (i.inside.low, i.inside.high) & list_passes s k h (blocks_of d s h - m) (i.sum refl, f, l)

    -- ---- the data blocks of one block

    key_down : (b m c i n : ℕ) (x : Node) → x ∈ key_nodes s h b m c i n → key_of d x ∈ keys_down s b i n
    unfolding key_nodes keys_down
    key_down b m c i zero x a = a
    key_down b m c i (suc n) x (inl e) = inl (ap (key_of d) e)
    key_down b m c i (suc n) x (inr a) = inr (key_down b m c (suc i) n x a)

    keys_pass : (b m c : ℕ) → Run d s h m c (keys_down s b 0 (here d s h m))
        → ((k : ℕ) → k ∈ keys_down s b 0 (here d s h m) → Intact d s Kind.datum k)
        → Pass d s (key_nodes s h b m c 0 (here d s h m))
    keys_pass b m c r f x a =
        let w = in_keys s h b m c 0 (here d s h m) x a in
        let k = f (key_of d x) (key_down b m c 0 (here d s h m) x a) in
        let i = subst (λ y. Intact d s Kind.datum (key_of d y)) w.3 k in
        subst (λ y. node_fault d s y ≡ 0) (sym w.3)
        (datum_passes w.0 w.1 w.2 i (subst (NodeFollows d s) w.3 ((run_nodes d s h b m c).0 r x a)))

    -- ---- and of those after it, r keys still to come

    module _ (b m c r : ℕ) (e : r ≡ N - m) (bs : List ℕ)
        (f : (k : ℕ) → k ∈ keys_from s r (b ∷ bs) → Intact d s Kind.datum k) where
      first_keys : (k : ℕ) → k ∈ keys_down s b 0 (here d s h m) → Intact d s Kind.datum k
      unfolding keys_from
      first_keys k a = f k (in_left k (keys_down s b 0 (keys_here r)) (keys_from s (r - slots) bs) (rw e a))

      other_keys : (k : ℕ) → k ∈ keys_from s (r - slots) bs → Intact d s Kind.datum k
      unfolding keys_from
      other_keys k a = f k (in_right k (keys_down s b 0 (keys_here r)) (keys_from s (r - slots) bs) a)

    spread_passes : (q b m c r : ℕ) → q ≡ list_blocks (blocks_of d s h - m) → r ≡ blocks_of d s h - m
        → Spread d s h q b m c → ((k : ℕ) → k ∈ lists_from s b q → Intact d s Kind.list k)
        → ((k : ℕ) → k ∈ keys_from s r (b ∷ lists_from s b q) → Intact d s Kind.datum k)
        → Pass d s (blocks_from d s h b m c q)
    unfolding blocks_from lists_from
    spread_passes zero b m c r e g p l f = keys_pass b m c p.1 (first_keys b m c r g [] f)
    spread_passes (suc q) b m c r e g p l f =
        let n : here d s h m ≡ slots = omega (arith, e) in
        go (rw n at p.3) (λ t. spread_passes q (word_of s b 126) (m + slots) (key_word s b 71) (r - slots)
        (omega (arith, e)) (omega (arith, g)) t (λ k a. l k (inr a))
        (other_keys b m c r g (word_of s b 126 ∷ lists_from s (word_of s b 126) q) f))
      where
        next : Node
        next = list (word_of s b 126) h (m + slots) (key_word s b 71)

        go : Spread d s h q (word_of s b 126) (m + slots) (key_word s b 71)
            → (Spread d s h q (word_of s b 126) (m + slots) (key_word s b 71)
            → Pass d s (blocks_from d s h (word_of s b 126) (m + slots) (key_word s b 71) q))
            → (x : Node)
            → x ∈ (key_nodes s h b m c 0 (keys_here (blocks_of d s h - m))
            ++ (next ∷ blocks_from d s h (word_of s b 126) (m + slots) (key_word s b 71) q))
            → node_fault d s x ≡ 0
        go t later x a = each (in_either x (key_nodes s h b m c 0 (keys_here (blocks_of d s h - m))) _ a)
          where
            each : (x ∈ key_nodes s h b m c 0 (keys_here (blocks_of d s h - m)))
                ⊎ (x ∈ (next ∷ blocks_from d s h (word_of s b 126) (m + slots) (key_word s b 71) q))
                → node_fault d s x ≡ 0
            each (inl a) =
                keys_pass b m c p.1 (first_keys b m c r g (word_of s b 126 ∷ lists_from s (word_of s b 126) q) f) x a
            each (inr (inl a)) =
                subst (λ y. node_fault d s y ≡ 0) (sym a)
                (list_there (word_of s b 126) (m + slots) (key_word s b 71) (l _ (inl refl)) p.2
                (spread_first d s h q (word_of s b 126) (m + slots) (key_word s b 71) t).0)
            each (inr (inr a)) = later t x a

    -- ---- the whole file

    pub passes_tested : FileWhole d s h → blocks_fault d s h ≡ Ok tt
    unfolding blocks_fault pick
    passes_tested w =
        let p = (file_spreads d s h).0 w.file in
        let q = list_blocks (blocks_of d s h) in
        let z : blocks_of d s h ≡ blocks_of d s h - 0 = omega arith in
        let e = file_passes d s h (file_header d s h w.file) in
        rw (eq-eqb _ 0 e) (pass_all (file_nodes d s h)
        (spread_passes q h 0 h (blocks_of d s h) (ap list_blocks z) z p.2 w.lists w.keys))

    -- The blocks of a file pass if and only if it is whole.
    pub tested_exactly : (blocks_fault d s h ≡ Ok tt) ↔ FileWhole d s h
    tested_exactly = (tested_whole d s h, passes_tested)
