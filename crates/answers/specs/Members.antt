-- What a list holds.
use Rattle.std.specs.Prelude.{ℕ, ◌≡◌, ◌⊎◌, Bool, false, ◌||◌, List, [], ◌∷◌, eqb}

infix 20 ◌∈◌
abbrev pub ◌∈◌ : {A : Type 0} → A → List A → Type 0
a ∈ [] = ⊥
a ∈ (x ∷ l) = (a ≡ x) ⊎ (a ∈ l)

-- whether v is one of ns
abbrev pub has : List ℕ → ℕ → Bool
has [] v = false
has (x ∷ ns) v = eqb v x || has ns v
