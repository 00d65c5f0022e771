-- The law of a graph, with no walk in it: every reached node passes its tests, and no key is referred to twice. Then
-- what the walk reports when it accepts (`Report`), and what a refusal means (`Why`).
use Rattle.std.specs.Prelude.{◌≡◌, ◌≢◌, ◌⊎◌, ℕ, ◌+◌, ◌<◌, eqb, length, get_or}
use mathlib.Core.List.{List, [], map, foldr}
use Rattle.answers.specs.Tests.{pick, first}
use Rattle.reach.specs.References.{References, At, ◌∈◌, Uniq, Reached, Owned}
use Rattle.reach.specs.Walk.{Graph, free}

-- ---- two references to one key

module _ {Node : Type 0} (R : References Node) where
  open R use {root, key, refs}

  -- a reference to the key k, from a reached node
  pub record Referral (k : ℕ) : Type 0 where
    pub from : Node
    pub to : Node
    pub nth : ℕ
    pub reached : Reached R from
    pub stands : At nth to (refs from)
    pub keyed : key to ≡ k

  -- two references lead to k, or one does and k is the root's key
  abbrev pub Twice : ℕ → Type 0
  Twice k =
      (p : Referral k) × ((k ≡ key root)
      ⊎ ((q : Referral k) × ((key p.from ≡ key q.from) × (p.nth ≡ q.nth) → ⊥)))

-- ---- a graph

module _ {Node S : Type 0} (G : Graph Node S) where
  open G.references use {root, key, refs}

  -- the graph in which a node that fails its tests refers to nothing
  abbrev pub pruned : Graph Node S
  pruned =
      record {
        references =
            record {
              root = root;
              key = key;
              refs = λ n. pick (eqb (first (G.before n) (G.after n)) 0) (refs n) [];
            };
        before = G.before;
        taken = G.taken;
        taken_refuses = G.taken_refuses;
        after = G.after;
        note = G.note;
      }

  -- every reached node passes its tests
  abbrev pub AllPass : Type 0
  AllPass = (n : Node) → Reached G.references n → (G.before n ≡ 0) × (G.after n ≡ 0)

  pub record Law : Type 0 where
    pub passes : AllPass
    pub owned : Owned G.references

  -- of claims c and counts s, from N keys and counts s₀: c has 1 at the reached keys and 0 elsewhere, and s notes
  -- each reached node once
  pub record Report (N : ℕ) (s₀ : S) (c : List ℕ) (s : S) : Type 0 where
    pub size : length c ≡ N
    pub byte : (k : ℕ) → k < N
        → ((get_or c k 1 ≡ 0) × ((n : Node) → Reached G.references n → key n ≢ k))
        ⊎ ((get_or c k 1 ≡ 1) × ((n : Node) × Reached G.references n × (key n ≡ k)))
    -- the reached nodes, no key twice
    pub nodes : List Node
    pub all : (n : Node) → Reached G.references n → n ∈ nodes
    pub only : (n : Node) → n ∈ nodes → Reached G.references n
    pub keys : Uniq (map key nodes)
    pub noted : s ≡ foldr G.note s₀ nodes
    pub used : free c + length nodes ≡ N

  -- what the refusal v at k says: a reached node with that key fails with v a test of its own, or k is referred to
  -- twice
  pub record Why (v k : ℕ) : Type 0 where
    pub node : Node
    pub reached : Reached G.references node
    pub keyed : key node ≡ k
    pub cause : (G.before node ≡ v) ⊎ ((v ≡ G.taken) × Twice G.references k) ⊎ (G.after node ≡ v)
