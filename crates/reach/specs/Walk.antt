-- The walk: it goes through a graph of references depth first, tests each node, claims its key, and stops at the
-- first refusal.
use Rattle.std.specs.Prelude.{List, [], ◌∷◌, ◌++◌, ℕ, zero, suc, ◌<◌, get_or, set, replicate}
use Rattle.answers.specs.Tests.{first}
use Rattle.reach.specs.References.{References}

-- A graph to audit. A test is a number: 0 passes, any other is the refusal's.
pub record Graph (Node S : Type 0) : Type 0 where
  pub references : References Node
  -- the tests before a key is claimed
  pub before : Node → ℕ
  -- the refusal of a key that is claimed already
  pub taken : ℕ
  pub taken_refuses : 0 < taken
  -- the tests after the claim
  pub after : Node → ℕ
  -- what is counted of a node that passed
  pub note : Node → S → S

-- the claims and the counts; or a refusal's number, and the key that it is about
pub data Outcome (S : Type 0) : Type 0 where
  done : List ℕ → S → Outcome S
  refused : ℕ → ℕ → Outcome S

abbrev pub Accepted : {S : Type 0} → Outcome S → Type 0
Accepted (done c s) = Unit {0}
Accepted (refused v k) = ⊥

-- the test of a claim byte, which refuses with v
abbrev pub claimed : ℕ → ℕ → ℕ
claimed v zero = 0
claimed v (suc m) = v

-- how many claim bytes are 0
unfoldable pub free : List ℕ → ℕ
free [] = 0
free (zero ∷ c) = suc (free c)
free (suc x ∷ c) = free c

module _ {Node S : Type 0} (G : Graph Node S) where
  open G.references use {root, key, refs}

  -- all tests of a node, in order. A key with no claim byte counts as claimed
  unfoldable pub verdict : List ℕ → Node → ℕ
  verdict c n = first (G.before n) (first (claimed G.taken (get_or c (key n) 1)) (G.after n))

  -- a node's references stand before what was still to do. The first argument is fuel
  unfoldable pub walk : ℕ → List ℕ → S → List Node → Outcome S
  walk zero c s ns = refused 0 0
  walk (suc f) c s [] = done c s
  walk (suc f) c s (n ∷ ns) =
      elim (verdict c n) [
        | zero ↦ walk f (set c (key n) 1) (G.note n s) (refs n ++ ns)
        | suc v ↦ refused (suc v) (key n)
      ]

  -- each step claims a byte that was 0, so this fuel is never spent
  unfoldable pub run : List ℕ → S → List Node → Outcome S
  unfolding walk
  run c s ns = walk (suc (free c)) c s ns

  -- the whole walk: N claim bytes that are 0, and the root to do
  unfoldable pub audit : ℕ → S → Outcome S
  unfolding run
  audit N s = run (replicate N 0) s (root ∷ [])
