-- Two graphs in which every node that the one reaches has the same references reach the same, and are owned once
-- together. Assumes nothing.
use mathlib.Core.Path.{◌≡◌, sym, subst}
use mathlib.Core.List.{List}
use Prim.Native.Nat.{ℕ}
use Rattle.reach.specs.References.{At, Reached, top, ref, Owned}
use Rattle.cut.specs.Cut.{from}

module _ {Node : Type 0} (root : Node) (key : Node → ℕ) (refs refs' : Node → List Node)
    (same : (n : Node) → Reached (from root key refs) n → refs' n ≡ refs n) where
  pub agree_to : {n : Node} → Reached (from root key refs) n → Reached (from root key refs') n
  agree_to (top e) = top e
  agree_to (ref {m = m} {n = n} i r h) = ref i (agree_to r) (subst (At i n) (sym (same m r)) h)

  pub agree_from : {n : Node} → Reached (from root key refs') n → Reached (from root key refs) n
  agree_from (top e) = top e
  agree_from (ref {m = m} {n = n} i r h) = let w = agree_from r in ref i w (subst (At i n) (same m w) h)

  pub agree_owned : Owned (from root key refs) → Owned (from root key refs')
  agree_owned o =
      record {
        once =
            λ m m' n n' i i' r r' h h' e. o.once m m' n n' i i' (agree_from r) (agree_from r')
            (subst (At i n) (same m (agree_from r)) h) (subst (At i' n') (same m' (agree_from r')) h') e;
        none = λ m n i r h. o.none m n i (agree_from r) (subst (At i n) (same m (agree_from r)) h);
      }
