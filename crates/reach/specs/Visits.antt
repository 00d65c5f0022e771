-- The order of the walk, with no fuel, no claims and no counts: what is seen and what is to do, from the root on
-- (`Visits`), and the first node that fails (`Stops`).
use Rattle.std.specs.Prelude.{◌≡◌, ◌≢◌, List, [], ◌∷◌, ◌++◌, map, ℕ}
use Rattle.reach.specs.References.{◌∈◌}
use Rattle.reach.specs.Walk.{Graph}

module _ {Node S : Type 0} (G : Graph Node S) where
  open G.references use {root, key, refs}

  -- of a node n that comes after those seen: v is the number of the first test that it fails, or 0
  pub data Judged (seen : List Node) (n : Node) (v : ℕ) : Type 0 where
    -- a test before the claim fails
    early : G.before n ≡ v → v ≢ 0 → Judged seen n v
    -- those pass, and a node seen has its key
    twice : G.before n ≡ 0 → key n ∈ map key seen → G.taken ≡ v → Judged seen n v
    -- those pass, and no node seen has its key: the tests after the claim decide
    late : G.before n ≡ 0 → ¬ (key n ∈ map key seen) → G.after n ≡ v → Judged seen n v

  -- the walk comes to where these nodes are seen, the latest first, and these are to do, the next first
  pub data Visits : List Node → List Node → Type 0 where
    start : Visits [] (root ∷ [])
    -- the next node passes: what it refers to comes before the rest
    step : {seen todo : List Node} {n : Node} → Visits seen (n ∷ todo) → Judged seen n 0
        → Visits (n ∷ seen) (refs n ++ todo)

  -- the walk comes to a node that fails with v, which is not 0, and has the key k
  pub record Stops (v k : ℕ) : Type 0 where
    pub seen : List Node
    pub node : Node
    pub todo : List Node
    pub visits : Visits seen (node ∷ todo)
    pub fails : Judged seen node v
    pub refuses : v ≢ 0
    pub keyed : key node ≡ k
