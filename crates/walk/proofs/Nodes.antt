-- Nodes that are reached; what stands among the nodes that a node leads to, and what is left of these when their
-- context is forgotten (`slots_bare`, `keys_bare`, `linked_bare`). Assumes nothing.
use Prim.Native.Nat.{ℕ, zero, suc, ◌+◌, ◌≤◌, ◌<◌}
use mathlib.Core.Path.{◌≡◌, refl, ap, ap₂, ◌∙◌, subst}
use mathlib.Core.Logic.{◌≢◌, ◌⊎◌, inl, inr}
use mathlib.Core.List.{List, [], ◌∷◌, ◌++◌, map, map-append}
use native.Mathlib.Omega.{arith}
use native.Mathlib.Decide.{dec_lt}
use Rattle.reach.specs.References.{◌∈◌, Reached}
use Rattle.reach.proofs.Lists.{in_left, in_right, in_either}
use Rattle.volume.specs.declared.disk.Disk.{Disk}
use Rattle.volume.specs.Blocks.{slot_word, key_word}
use Rattle.volume.specs.Files.{keys_down}
use Rattle.volume.specs.References.{Kind, to, link, slot_refs}
use Rattle.walk.specs.Nodes.{Node, entry, datum, bare, linked, chained, slot_nodes, before, key_nodes, graph}

-- the root leads to the node n
abbrev pub NodeReached : Disk → List ℕ → Node → Type 0
NodeReached d s n = Reached (graph d s).references n

-- ---- a link

pub in_linked : (k : ℕ) (f : ℕ → Node) (x : Node) → x ∈ linked k f → (k ≢ 0) × (x ≡ f k)
in_linked zero f x h = absurd h
in_linked (suc k) f x (inl e) = ((λ z. absurd (omega (arith, z))), e)
in_linked (suc k) f x (inr h) = absurd h

pub linked_in : (k : ℕ) (f : ℕ → Node) → k ≢ 0 → f k ∈ linked k f
linked_in zero f h = absurd (h refl)
linked_in (suc k) f h = inl refl

-- ---- the slots of a directory

module _ (s : List ℕ) (t : ℕ) where
  -- x stands in slot j
  abbrev pub InSlot : ℕ → Node → Type 0
  InSlot j x = (slot_word s t j ≢ 0) × (x ≡ entry (slot_word s t j) t j 0)

  pub in_slots : (i n : ℕ) (x : Node) → x ∈ slot_nodes s t i n → (j : ℕ) × (j < i + n) × InSlot j x
  unfolding slot_nodes
  in_slots i zero x h = absurd h
  in_slots i (suc n) x h =
      go (in_either x (chained (slot_word s t i) t i 0) (slot_nodes s t (suc i) n) h) (in_slots (suc i) n x)
    where
      go : (x ∈ chained (slot_word s t i) t i 0) ⊎ (x ∈ slot_nodes s t (suc i) n)
          → (x ∈ slot_nodes s t (suc i) n → (j : ℕ) × (j < suc i + n) × InSlot j x)
          → (j : ℕ) × (j < i + suc n) × InSlot j x
      go (inl m) later = (i, omega arith, in_linked (slot_word s t i) (λ k. entry k t i 0) x m)
      go (inr m) later = let r = later m in let b = r.1 in (r.0, omega arith, r.2)

  pub slot_in : (i n j : ℕ) → i ≤ j → j < i + n → slot_word s t j ≢ 0
      → entry (slot_word s t j) t j 0 ∈ slot_nodes s t i n
  unfolding slot_nodes
  slot_in i zero j l h w = absurd (omega arith)
  slot_in i (suc n) j l h w = go (dec_lt i j) (slot_in (suc i) n j)
    where
      x : Node
      x = entry (slot_word s t j) t j 0

      go : Dec (i < j) → (suc i ≤ j → j < suc i + n → slot_word s t j ≢ 0 → x ∈ slot_nodes s t (suc i) n)
          → x ∈ (chained (slot_word s t i) t i 0 ++ slot_nodes s t (suc i) n)
      go (yes q) later = in_right x (chained (slot_word s t i) t i 0) (slot_nodes s t (suc i) n)
          (later q (omega arith) w)
      go (no q) later =
          let e : j ≡ i = omega arith in
          in_left x (chained (slot_word s t i) t i 0) (slot_nodes s t (suc i) n)
          (subst (λ y. x ∈ chained (slot_word s t y) t y 0) e (linked_in (slot_word s t j) (λ k. entry k t j 0) w))

-- ---- the keys of a file

pub in_keys : (s : List ℕ) (h b m c i n : ℕ) (x : Node) → x ∈ key_nodes s h b m c i n
    → (k : ℕ) × (j : ℕ) × (e : ℕ) × (x ≡ datum k h j e)
unfolding key_nodes
in_keys s h b m c i zero x a = absurd a
in_keys s h b m c i (suc n) x (inl e) = (key_word s b i, suc (m + i), before s b c i, e)
in_keys s h b m c i (suc n) x (inr a) = in_keys s h b m c (suc i) n x a

-- ---- with no context

module _ (d : Disk) where
  pub linked_bare : (k : ℕ) (f : ℕ → Node) (a : Kind) → ((k : ℕ) → bare d (f k) ≡ to a k)
      → map (bare d) (linked k f) ≡ link a k
  linked_bare zero f a h = refl
  linked_bare (suc k) f a h = ap (λ r. r ∷ []) (h (suc k))

  pub slots_bare : (s : List ℕ) (t i n : ℕ) → map (bare d) (slot_nodes s t i n) ≡ slot_refs s t i n
  unfolding slot_nodes slot_refs
  slots_bare s t i zero = refl
  slots_bare s t i (suc n) =
      map-append (bare d) (chained (slot_word s t i) t i 0) (slot_nodes s t (suc i) n)
      ∙ ap₂ (λ x y. x ++ y) (linked_bare (slot_word s t i) (λ k. entry k t i 0) Kind.entry (λ k. refl))
      (slots_bare s t (suc i) n)

  pub keys_bare : (s : List ℕ) (h b m c i n : ℕ)
      → map (bare d) (key_nodes s h b m c i n) ≡ map (to Kind.datum) (keys_down s b i n)
  unfolding key_nodes keys_down
  keys_bare s h b m c i zero = refl
  keys_bare s h b m c i (suc n) = ap (λ l. to Kind.datum (key_word s b i) ∷ l) (keys_bare s h b m c (suc i) n)
