-- Places of a chain: each but the first is its predecessor's link, and an earlier entry of the same name is a twin.
-- Assumes nothing.
use Prim.Native.Nat.{ℕ, zero, suc, ◌≤◌, ◌<◌}
use mathlib.Core.Path.{◌≡◌, refl, sym, ap, ◌∙◌}
use mathlib.Core.Logic.{◌≢◌}
use mathlib.Core.Bool.{Bool, true, false}
use mathlib.Core.List.{List}
use native.Mathlib.Omega.{arith}
use native.Mathlib.Decide.{dec_lt}
use Rattle.answers.specs.Tests.{pick}
use Rattle.volume.specs.declared.disk.Disk.{Disk}
use Rattle.volume.specs.Blocks.{word_of}
use Rattle.volume.specs.Names.{name_of, same}
use Rattle.volume.specs.Law.{after, chain_key}
use Rattle.walk.specs.Nodes.{twin}

module _ (s : List ℕ) where
  -- after a block stands what its w124 names, and after the end nothing
  pub after_some : (k : ℕ) → k ≢ 0 → after s k ≡ word_of s k 124
  unfolding after
  after_some zero h = absurd (h refl)
  after_some (suc k) h = refl

  after_from : (k : ℕ) → after s k ≢ 0 → k ≢ 0
  unfolding after
  after_from zero h e = h refl
  after_from (suc k) h e = absurd (omega (arith, e))

  module _ (head : ℕ) where
    pub chain_next : (p : ℕ) → chain_key s head p ≢ 0 → chain_key s head (suc p) ≡ word_of s (chain_key s head p) 124
    unfolding chain_key
    chain_next p h = after_some (chain_key s head p) h

    pub chain_before : (p : ℕ) → chain_key s head (suc p) ≢ 0 → chain_key s head p ≢ 0
    unfolding chain_key
    chain_before p h = after_from (chain_key s head p) h

    pub chain_some : (q p : ℕ) → p ≤ q → chain_key s head q ≢ 0 → chain_key s head p ≢ 0
    chain_some zero p l h = let e : p ≡ 0 = omega arith in rw e h
    chain_some (suc q) p l h = go (dec_lt q p) (chain_some q p)
      where
        go : Dec (q < p) → (p ≤ q → chain_key s head q ≢ 0 → chain_key s head p ≢ 0) → chain_key s head p ≢ 0
        go (yes g) earlier = let e : p ≡ suc q = omega arith in rw e h
        go (no g) earlier = earlier (omega arith) (chain_before q h)

  -- ---- twins

  module _ (d : Disk) (k head : ℕ) where
    abbrev Named : ℕ → Bool
    Named p = same d (name_of s (chain_key s head p)) (name_of s k)

    pub twin_there : (p q : ℕ) → q < p → Named q ≡ true → twin d s k head p ≡ true
    unfolding twin pick
    twin_there zero q l e = absurd (omega arith)
    twin_there (suc p) q l e = go (Named p) refl (dec_lt q p) (twin_there p q)
      where
        go : (b : Bool) → Named p ≡ b → Dec (q < p) → (q < p → Named q ≡ true → twin d s k head p ≡ true)
            → pick b true (twin d s k head p) ≡ true
        go true f g earlier = refl
        go false f (yes g) earlier = earlier g e
        go false f (no g) earlier = let h : p ≡ q = omega arith in let z = sym f ∙ ap Named h ∙ e in cc

    pub twin_none : (p : ℕ) → ((q : ℕ) → q < p → Named q ≡ true → ⊥) → twin d s k head p ≡ false
    unfolding twin pick
    twin_none zero none = refl
    twin_none (suc p) none = go (Named p) refl (twin_none p (λ q l. none q (omega arith)))
      where
        go : (b : Bool) → Named p ≡ b → twin d s k head p ≡ false → pick b true (twin d s k head p) ≡ false
        go true f earlier = absurd (none p (omega arith) f)
        go false f earlier = earlier
