-- Who refers to what: a root, and for each node a key and a list of references. `Reached` is what the root leads to;
-- `Owned` says that no reached key is referred to twice.
use Rattle.std.specs.Prelude.{◌≡◌, ◌≢◌, List, [], ◌∷◌, ℕ, zero, suc}
pub use Rattle.answers.specs.Members.{◌∈◌}

-- A node asks for what lies at its key, in some role: two nodes may have one key.
pub record References (Node : Type 0) : Type 0 where
  pub root : Node
  pub key : Node → ℕ
  pub refs : Node → List Node

-- ---- lists

-- a stands at position i
abbrev pub At : {A : Type 0} → ℕ → A → List A → Type 0
At i a [] = ⊥
At zero a (x ∷ l) = a ≡ x
At (suc i) a (x ∷ l) = At i a l

-- nothing stands twice
abbrev pub Uniq : {A : Type 0} → List A → Type 0
Uniq [] = Unit {0}
Uniq (x ∷ l) = (¬ (x ∈ l)) × Uniq l

-- ---- reached, and owned

module _ {Node : Type 0} (R : References Node) where
  -- the least set that holds the root and whatever a reached node refers to
  pub data Reached : Node → Type 0 where
    top : {n : Node} → n ≡ R.root → Reached n
    ref : {m n : Node} (i : ℕ) → Reached m → At i n (R.refs m) → Reached n

  -- no key is referred to twice, where a reference is known by its node's key and its position there; and the root is
  -- not referred to
  pub record Owned : Type 0 where
    pub once : (m m' n n' : Node) (i i' : ℕ) → Reached m → Reached m' → At i n (R.refs m) → At i' n' (R.refs m')
        → R.key n ≡ R.key n' → (R.key m ≡ R.key m') × (i ≡ i')
    pub none : (m n : Node) (i : ℕ) → Reached m → At i n (R.refs m) → R.key n ≢ R.key R.root
