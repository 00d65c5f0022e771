-- A list of tests gives 0 where all pass, else the number of the first that fails (docs/FORMAT.md, "Numbers").
use Rattle.std.specs.Prelude.{ℕ, zero, suc, Bool, true, false, List, [], ◌∷◌}

-- the one or the other, by a test
unfoldable pub pick : {X : Type 0} → Bool → X → X → X
pick true a b = a
pick false a b = b

-- 0 where the test holds, else the number v
unfoldable pub must : Bool → ℕ → ℕ
must true v = 0
must false v = v

-- 0 where it does not hold, else the number v
unfoldable pub never : Bool → ℕ → ℕ
never true v = v
never false v = 0

-- the first of two numbers that is not 0
unfoldable pub first : ℕ → ℕ → ℕ
first zero b = b
first (suc a) b = suc a

-- the first number of a list that is not 0
abbrev pub tests : List ℕ → ℕ
tests [] = 0
tests (x ∷ xs) = first x (tests xs)
