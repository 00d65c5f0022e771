-- Writes one after the other: the length stays, and a block that none of them names is what it was. Assumes nothing.
use Prim.Native.Nat.{ℕ, suc}
use mathlib.Core.Path.{◌≡◌, refl, ◌∙◌}
use mathlib.Core.Logic.{inl, inr}
use mathlib.Core.List.{List, [], ◌∷◌, ◌++◌, map}
use native.Mathlib.Omega.{arith}
use lib.ListN.{length, get_or}
use Rattle.reach.specs.References.{◌∈◌}
use Rattle.writes.specs.Alike.{SameBlock}
use Rattle.writes.specs.Writes.{Write, write, FitsInto, AllFit, put, carried, writes_in, block_of}
use Rattle.writes.proofs.Puts.{length_put, put_other}

-- writes fit an image of the same length
pub fit_same : (s t : List ℕ) (ws : List Write) → length t ≡ length s → AllFit s ws → AllFit t ws
fit_same s t [] e h = tt
fit_same s t (w ∷ ws) e h =
    let i = h.0.inside in
    (record { inside = omega (arith, i, e); whole = h.0.whole }, fit_same s t ws e h.1)

module _ (s : List ℕ) (w : Write) (fits : FitsInto s w) where
  pub length_write : length (put s w.key w.block) ≡ length s
  length_write = length_put s w.key w.block fits.inside fits.whole

  next_fit : (ws : List Write) → AllFit s ws → AllFit (put s w.key w.block) ws
  next_fit ws h = fit_same s (put s w.key w.block) ws length_write h

pub length_carried : (s : List ℕ) (ws : List Write) → AllFit s ws → length (carried s ws) ≡ length s
length_carried s [] h = refl
length_carried s (w ∷ ws) h =
    length_carried (put s w.key w.block) ws (next_fit s w h.0 ws h.1) ∙ length_write s w h.0

pub carried_other : (s : List ℕ) (ws : List Write) (k : ℕ) → AllFit s ws → ¬ (k ∈ map (λ w. w.key) ws)
    → SameBlock s (carried s ws) k
carried_other s [] k h n i l _ = refl
carried_other s (w ∷ ws) k h n i l z =
    carried_other (put s w.key w.block) ws k (next_fit s w h.0 ws h.1) (λ m. n (inr m)) i l z
    ∙ put_other s w.key w.block h.0.inside h.0.whole k (λ e. n (inl e)) i l z

pub carried_append : (s : List ℕ) (xs ys : List Write) → carried s (xs ++ ys) ≡ carried (carried s xs) ys
carried_append s [] ys = refl
carried_append s (w ∷ xs) ys = carried_append (put s w.key w.block) xs ys

-- a turn of a commit: one write more
pub carried_more : (s order blocks : List ℕ) (n : ℕ)
    → carried s (writes_in order blocks (suc n))
    ≡ put (carried s (writes_in order blocks n)) (get_or order n 0) (block_of blocks n)
unfolding writes_in
carried_more s order blocks n =
    carried_append s (writes_in order blocks n) (write (get_or order n 0) (block_of blocks n) ∷ [])
