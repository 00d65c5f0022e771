-- Two graphs of references, one with the entry k and one without it: where p refers to k in the first, it refers in the
-- second to what comes after k. What k has for itself is a graph of its own, with k as its root. A delete goes from the
-- first graph to the second, a write from the second to the first.
use Rattle.std.specs.Prelude.{◌≡◌, ◌≢◌, List, ◌∷◌, ◌++◌, ℕ}
use Rattle.reach.specs.References.{References, Reached, Owned}

-- the graph of these references, from a root on
abbrev pub from : {Node : Type 0} → Node → (Node → ℕ) → (Node → List Node) → References Node
from root key refs = record { root = root; key = key; refs = refs }

-- `refs` has the entry k and `refs'` has not; `own` is what each node has for itself: what comes after it is left out
module _ {Node : Type 0} (root : Node) (key : Node → ℕ) (refs refs' own : Node → List Node) (p k : Node) where
  pub record Cut : Type 0 where
    -- what p refers to before k and after k
    pub front : List Node
    pub back : List Node
    -- what comes after k
    pub links : List Node
    pub hung : refs p ≡ front ++ (k ∷ back)
    pub past : refs' p ≡ front ++ (links ++ back)
    pub entry : refs k ≡ own k ++ links
    -- nothing but p's references is changed
    pub same : (n : Node) → key n ≢ key p → refs' n ≡ refs n
    -- after what is k's nothing comes
    pub inner : (n : Node) → Reached (from k key own) n → key n ≢ key k → own n ≡ refs n

  -- no key of the rest is referred to twice, nor is one of what is k's, and the two share no key
  pub record Parted : Type 0 where
    pub rest : Owned (from root key refs')
    pub mine : Owned (from k key own)
    pub apart : (m n : Node) → Reached (from root key refs') m → Reached (from k key own) n → key m ≢ key n
