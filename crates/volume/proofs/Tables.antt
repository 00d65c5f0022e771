-- A table's rule: one test, computed over the whole table, gives it at each entry. Assumes nothing.
use Prim.Native.Nat.{ℕ, zero, suc, ◌+◌, ◌<◌}
use mathlib.Core.Path.{◌≡◌, refl, ap, ◌∙◌}
use mathlib.Core.Bool.{Bool, true, false, ◌&&◌}
use mathlib.Core.List.{List, [], ◌∷◌}
use native.Mathlib.Omega.{arith}
use lib.Dec.{T, eqb, eqb→eq}
use lib.ListN.{length, get_or}

-- each entry is what f gives for its index, counted from i
abbrev pub follows : (ℕ → ℕ) → ℕ → List ℕ → Bool
follows f i [] = true
follows f i (x ∷ xs) = eqb x (f i) && follows f (suc i) xs

-- the first entry, and those after it
first_is : (f : ℕ → ℕ) (x i : ℕ) (more : Bool) → T (eqb x (f i) && more) → (x ≡ f i) × T more
first_is f x i more = go (eqb x (f i)) refl
  where
    go : (b : Bool) → eqb x (f i) ≡ b → T (b && more) → (x ≡ f i) × T more
    go true q t = (eqb→eq x (f i) (rw q tt), t)
    go false q t = absurd t

entry_from : (f : ℕ → ℕ) (xs : List ℕ) (i k n : ℕ) → n ≡ i + k → T (follows f i xs) → k < length xs
    → get_or xs k 0 ≡ f n
entry_from f [] i k n e t h = absurd (omega arith)
entry_from f (x ∷ xs) i zero n e t h = (first_is f x i _ t).0 ∙ ap f (omega arith)
entry_from f (x ∷ xs) i (suc k) n e t h =
    entry_from f xs (suc i) k n (omega arith) (first_is f x i _ t).1 (omega arith)

pub entry_is : (f : ℕ → ℕ) (xs : List ℕ) → T (follows f 0 xs) → (k : ℕ) → k < length xs → get_or xs k 0 ≡ f k
entry_is f xs t k h = entry_from f xs 0 k k (omega arith) t h
