-- The nodes that a header or a list block leads to: its data blocks are as the law says if and only if each of their
-- nodes is (`run_nodes`). Assumes nothing.
use Prim.Native.Nat.{ℕ, zero, suc, ◌+◌}
use mathlib.Core.Path.{refl, sym, subst}
use mathlib.Core.Logic.{inl, inr, ◌↔◌}
use mathlib.Core.List.{List, ◌∷◌}
use native.Mathlib.Nat.{add-zero, add-suc}
use Rattle.reach.specs.References.{◌∈◌}
use Rattle.volume.specs.declared.disk.Disk.{Disk}
use Rattle.volume.specs.Blocks.{key_word}
use Rattle.volume.specs.Files.{keys_down}
use Rattle.walk.specs.Nodes.{Node, root, bitmap, entry, list, datum, before, key_nodes}
use Rattle.walk.proofs.Spreads.{Follows, Run, here}

module _ (d : Disk) (s : List ℕ) where
  -- of a data block's node, that it follows the one before as the law says
  abbrev pub NodeFollows : Node → Type 0
  NodeFollows root = Unit {0}
  NodeFollows (bitmap k) = Unit {0}
  NodeFollows (entry k t i p) = Unit {0}
  NodeFollows (list k h m c) = Unit {0}
  NodeFollows (datum k h n c) = Follows d s h n c k

  module _ (h b m c : ℕ) where
    run_keys : (i n : ℕ)
        → Run d s h (m + i) (before s b c i) (keys_down s b i n)
        ↔ ((x : Node) → x ∈ key_nodes s h b m c i n → NodeFollows x)
    unfolding key_nodes keys_down
    run_keys i zero = ((λ r x a. absurd a), (λ f. tt))
    run_keys i (suc n) = go (rw (add-suc m i) at (run_keys (suc i) n))
      where
        first : Node
        first = datum (key_word s b i) h (suc (m + i)) (before s b c i)

        go : Run d s h (suc (m + i)) (key_word s b i) (keys_down s b (suc i) n)
            ↔ ((x : Node) → x ∈ key_nodes s h b m c (suc i) n → NodeFollows x)
            → Run d s h (m + i) (before s b c i) (key_word s b i ∷ keys_down s b (suc i) n)
            ↔ ((x : Node) → x ∈ (first ∷ key_nodes s h b m c (suc i) n) → NodeFollows x)
        go w = (each, λ f. (f first (inl refl), w.1 (λ x a. f x (inr a))))
          where
            each : Run d s h (m + i) (before s b c i) (key_word s b i ∷ keys_down s b (suc i) n) → (x : Node)
                → x ∈ (first ∷ key_nodes s h b m c (suc i) n) → NodeFollows x
            each r x (inl e) = subst NodeFollows (sym e) r.0
            each r x (inr a) = w.0 r.1 x a

    pub run_nodes : Run d s h m c (keys_down s b 0 (here d s h m))
        ↔ ((x : Node) → x ∈ key_nodes s h b m c 0 (here d s h m) → NodeFollows x)
    run_nodes = rw add-zero at (run_keys 0 (here d s h m))
