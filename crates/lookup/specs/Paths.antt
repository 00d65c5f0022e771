-- A path is components split by '/'. It has at most 255 bytes, and each component is 1 to 30 bytes without ':'; the
-- empty path has no component (docs/FORMAT.md, "Paths and reads"; refusal 18).
use Rattle.answers.specs.declared.Refusal.{Refusal}
use Rattle.std.specs.Prelude.{ℕ, ◌+◌, Bool, false, List, [], ◌∷◌, ◌++◌, leb, ltb, eqb, length, Result, Ok, Err}
use Rattle.answers.specs.Numbers as fault
use Rattle.answers.specs.Tests.{pick}
use Rattle.answers.specs.Refusals.{refusal}
use Rattle.volume.specs.Names.{longest, allowed}

abbrev pub longest_path : ℕ
longest_path = 255

abbrev pub slash : ℕ
slash = 47

-- a byte in front of the first component
abbrev pub onto : ℕ → List (List ℕ) → List (List ℕ)
onto b [] = (b ∷ []) ∷ []
onto b (c ∷ cs) = (b ∷ c) ∷ cs

-- one component more than there are '/'
unfoldable pub split : List ℕ → List (List ℕ)
split [] = [] ∷ []
split (b ∷ bs) = pick (eqb b slash) ([] ∷ split bs) (onto b (split bs))

-- the components of a path
abbrev pub components : List ℕ → List (List ℕ)
components [] = []
components (b ∷ bs) = split (b ∷ bs)

-- names with '/' between them
unfoldable pub joined : List (List ℕ) → List ℕ
joined [] = []
joined (c ∷ []) = c
joined (c ∷ b ∷ cs) = c ++ (slash ∷ joined (b ∷ cs))

-- bytes that may be a component: what may be a name
unfoldable pub is_component : List ℕ → Bool
is_component c = pick (leb 1 (length c)) (pick (leb (length c) longest) (allowed c) false) false

-- the first that may not, counted on from i
unfoldable pub components_fault : ℕ → List (List ℕ) → Result Unit Refusal
components_fault i [] = Ok tt
components_fault i (c ∷ cs) = pick (is_component c) (components_fault (i + 1) cs) (Err (refusal fault.path_form i))

unfoldable pub path_fault : List ℕ → Result Unit Refusal
path_fault path =
    pick (ltb longest_path (length path)) (Err (refusal fault.path_form 0)) (components_fault 0 (components path))
