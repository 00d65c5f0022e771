-- Facts on claim bytes: a list with a byte for each key, 0 where the key is free and 1 where it is claimed. Assumes
-- nothing.
use mathlib.Core.Path.{◌≡◌, refl, ap}
use mathlib.Core.Logic.{◌≢◌}
use mathlib.Core.List.{List, [], ◌∷◌}
use Prim.Native.Nat.{ℕ, zero, suc, ◌<◌}
use native.Mathlib.Nat.{not-suc-le-zero}
use native.Mathlib.Omega.{arith}
use lib.ListN.{length, get_or, set, replicate}
use lib.Seq.{get_or-set_same, get_or-set_other}
use Rattle.reach.specs.Walk.{free}

-- a byte that is 0 is there
pub inside : (c : List ℕ) (k : ℕ) → get_or c k 1 ≡ 0 → k < length c
inside [] k e = absurd (omega arith)
inside (x ∷ c) zero e = omega arith
inside (x ∷ c) (suc k) e = omega (arith, inside c k e)

-- of a byte that is there the default does not matter
pub byte_any : (c : List ℕ) (k a b : ℕ) → k < length c → get_or c k a ≡ get_or c k b
byte_any [] k a b h = absurd (not-suc-le-zero h)
byte_any (x ∷ c) zero a b h = refl
byte_any (x ∷ c) (suc k) a b h = byte_any c k a b (omega arith)

-- a claim uses up one of the bytes that are 0
pub free_set : (c : List ℕ) (k : ℕ) → get_or c k 1 ≡ 0 → free c ≡ suc (free (set c k 1))
unfolding free
free_set [] k e = absurd (omega arith)
free_set (zero ∷ c) zero e = refl
free_set (zero ∷ c) (suc k) e = ap suc (free_set c k e)
free_set (suc x ∷ c) zero e = absurd (omega arith)
free_set (suc x ∷ c) (suc k) e = free_set c k e

pub free_all : (N : ℕ) → free (replicate N 0) ≡ N
unfolding free
free_all zero = refl
free_all (suc N) = ap suc (free_all N)

pub mark_same : (c : List ℕ) (k : ℕ) → get_or c k 1 ≡ 0 → get_or (set c k 1) k 1 ≡ 1
mark_same c k h = get_or-set_same c k 1 1 (inside c k h)

pub mark_other : (c : List ℕ) (k j : ℕ) → j ≢ k → get_or (set c k 1) j 1 ≡ get_or c j 1
mark_other c k j h = get_or-set_other c k j 1 1 h

-- a byte that is 1 is not one that is 0
pub apart_bytes : (c : List ℕ) (k j : ℕ) → get_or c k 1 ≡ 0 → get_or c j 1 ≡ 1 → j ≢ k
apart_bytes c k j h h' e = absurd (omega (arith, h, h', ap (λ x. get_or c x 1) e))
