-- Laws of paths: how they split, and their form. Assumes nothing.
use Prim.Native.Nat.{ℕ, zero, suc, ◌+◌, ◌-◌, ◌≤◌, ◌<◌, zero-le, suc-le-suc}
use mathlib.Core.Path.{◌≡◌, refl, sym, ◌∙◌}
use mathlib.Core.Logic.{◌⊎◌, inl, inr}
use mathlib.Core.Bool.{Bool, true, false, cond}
use mathlib.Core.List.{List, [], ◌∷◌}
use native.Mathlib.Nat.{le_refl, not-suc-le-zero, le_of_suc-le-suc}
use native.Mathlib.Numerals.{add-one}
use native.Mathlib.Omega.{arith}
use lib.Dec.{ltb, eqb}
use lib.ListN.{length, get_or, take, drop, length-drop}
use lib.Seq.{take_all}
use borrow.Author.Tests.{eq-eqb, ne_eqb, le-leb, lt-leb, lt-ltb, le-ltb, ltb-false}
use Rattle.answers.specs.declared.Refusal.{Refusal}
use Rattle.std.specs.Prelude.{Result, Ok, Err, Option, Some, None}
use Rattle.std.specs.List.{slice_split, onto_first, AllWithin, HoldsAt}
use Rattle.std.specs.Option.{MatchOption}
use Rattle.answers.specs.Numbers as fault
use Rattle.answers.specs.Tests.{pick}
use Rattle.answers.specs.Refusals.{refusal}
use Rattle.answers.proofs.Tests.{pick_passed}
use Rattle.volume.specs.Names.{longest, allowed}
use Rattle.lookup.specs.Parts.{FirstSlash}
use Rattle.lookup.specs.Paths.{longest_path, slash, onto, split, components, is_component, components_fault, path_fault}

-- ---- what may be a component

module _ (xs : List ℕ) where
  pub component_not : (length xs < 1) ⊎ ((1 ≤ length xs) × (longest < length xs)) → false ≡ is_component xs
  unfolding is_component pick
  component_not (inl q) = rw (lt-leb 1 (length xs) q)
  component_not (inr q) = rw (le-leb 1 (length xs) q.0, lt-leb (length xs) longest q.1)

  pub component_is : (r : Bool) → 1 ≤ length xs → length xs ≤ longest → r ≡ allowed xs → r ≡ is_component xs
  unfolding is_component pick
  component_is r p q e = rw (le-leb 1 (length xs) p, le-leb (length xs) longest q) e

-- ---- the components, as code splits a path

abbrev pub is_slash : ℕ → Bool
is_slash b = eqb b slash

pub split_is : (xs : List ℕ) → slice_split is_slash xs ≡ split xs
unfolding split pick
split_is [] = refl
split_is (x ∷ xs) = go (is_slash x) (slice_split is_slash xs) (split xs) (split_is xs)
  where
    go : (t : Bool) (cs bs : List (List ℕ)) → cs ≡ bs
        → cond t ([] ∷ cs) (onto_first x cs) ≡ pick t ([] ∷ bs) (onto x bs)
    go true cs bs e = rw e
    go false cs bs e = rw e (same bs)
      where
        same : (bs : List (List ℕ)) → onto_first x bs ≡ onto x bs
        same [] = refl
        same (b ∷ bs) = refl

-- ---- the first component, and the rest

-- no '/': one component
split_none : (xs : List ℕ) → ((j : ℕ) → j < length xs → get_or xs j 0 ≡ slash → ⊥) → split xs ≡ xs ∷ []
unfolding split pick
split_none [] none = refl
split_none (x ∷ xs) none =
    simp (ne_eqb x 47 (none 0 (suc-le-suc zero-le)), split_none xs (λ j h. none (suc j) (suc-le-suc h)))

split_first : (xs : List ℕ) (k : ℕ) → ((j : ℕ) → j < k → get_or xs j 0 ≡ slash → ⊥) → k < length xs
    → get_or xs k 0 ≡ slash → split xs ≡ take k xs ∷ split (drop (k + 1) xs)
unfolding split pick
split_first [] k none l e = absurd (not-suc-le-zero l)
split_first (x ∷ xs) zero none l e = simp (eq-eqb x 47 e, add-one)
split_first (x ∷ xs) (suc k) none l e =
    simp (
      ne_eqb x 47 (none 0 (suc-le-suc zero-le)),
      split_first xs k (λ j h. none (suc j) (suc-le-suc h))
          (le_of_suc-le-suc l) e,
      add-one,
    )

module _ (xs : List ℕ) (k : ℕ) (at : FirstSlash xs k) where
  -- the rest as code takes it, `&path[k + 1..]`
  pub split_more : k < length xs → split xs ≡ take k xs ∷ split (take (length xs - (k + 1)) (drop (k + 1) xs))
  split_more l =
      rw (take_all (length xs - (k + 1)) (drop (k + 1) xs) (simp length-drop (le_refl _)))
      (split_first xs k at.before l (at.there l))

  pub split_end : length xs ≤ k → split xs ≡ take k xs ∷ []
  split_end l = rw (take_all k xs l) (split_none xs (λ j h. at.before j (omega arith)))

-- ---- the first component that may not be one

-- number f is, if there is one, counted from n
abbrev pub form_at : ℕ → Option ℕ → Result Unit Refusal
form_at n None = Ok tt
form_at n (Some i) = Err (refusal fault.path_form (n + i))

abbrev pub Good : List ℕ → Type 0
Good c = is_component c ≡ true

abbrev pub Bad : List ℕ → Type 0
Bad c = is_component c ≡ false

pub first_bad : (cs : List (List ℕ)) (f : Option ℕ) (n : ℕ)
    → MatchOption f (AllWithin Good cs 0 (length cs)) (λ i. (i < length cs) × HoldsAt Bad cs i × AllWithin Good cs 0 i)
    → form_at n f ≡ components_fault n cs
unfolding components_fault pick
first_bad [] None n h = refl
first_bad [] (Some i) n h = absurd (omega (arith, h.0))
first_bad (c ∷ cs) None n h =
    rw (h 0 [] zero-le (suc-le-suc zero-le))
    (first_bad cs None (n + 1) (λ k d l u. h (suc k) d zero-le (suc-le-suc u)))
first_bad (c ∷ cs) (Some zero) n h = let e : n + 0 ≡ n = omega arith in rw (h.1 [], e)
first_bad (c ∷ cs) (Some (suc i)) n h =
    let e : n + suc i ≡ n + 1 + i = omega arith in
    rw (e, h.2 0 [] zero-le (suc-le-suc zero-le))
    (first_bad cs (Some i) (n + 1)
    (le_of_suc-le-suc h.0, λ d. h.1 d, λ k d l u. h.2 (suc k) d zero-le (suc-le-suc u)))

-- ---- the form of a path

module _ (path : List ℕ) where
  pub path_long : longest_path < length path → Err (refusal fault.path_form 0) ≡ path_fault path
  unfolding path_fault pick
  path_long q = rw (lt-ltb _ _ q)

  pub path_empty : length path ≤ longest_path → length path ≡ 0 → Ok tt ≡ path_fault path
  unfolding path_fault pick components_fault
  path_empty p q = go path p q
    where
      go : (xs : List ℕ) → length xs ≤ longest_path → length xs ≡ 0 → Ok tt ≡ path_fault xs
      go [] p q = refl
      go (x ∷ xs) p q = absurd (omega arith)

  pub path_components : (length path ≡ 0 → ⊥) → split path ≡ components path
  path_components q = go path q
    where
      go : (xs : List ℕ) → (length xs ≡ 0 → ⊥) → split xs ≡ components xs
      go [] q = absurd (q refl)
      go (x ∷ xs) q = refl

  abbrev pub form_of : Option ℕ → Result Unit Refusal
  form_of None = Ok tt
  form_of (Some i) = Err (refusal fault.path_form i)

  form_from : (f : Option ℕ) → form_of f ≡ form_at 0 f
  form_from None = refl
  form_from (Some i) = let e : 0 + i ≡ i = omega arith in rw e

  -- f is the position of its first bad component, as code finds it
  pub path_parts : length path ≤ longest_path → (length path ≡ 0 → ⊥) → (f g : Option ℕ) → f ≡ g
      → MatchOption f (AllWithin Good (slice_split is_slash path) 0 (length (slice_split is_slash path)))
      (λ i. (i < length (slice_split is_slash path)) × HoldsAt Bad (slice_split is_slash path) i
      × AllWithin Good (slice_split is_slash path) 0 i)
      → form_of g ≡ path_fault path
  unfolding path_fault pick
  path_parts p q f g e h =
      rw (le-ltb longest_path (length path) p, ← path_components q, ← split_is path, ← e)
      (form_from f ∙ first_bad (slice_split is_slash path) f 0 h)

  pub path_short : (r : Result Unit Refusal) → r ≡ path_fault path → r ≡ Ok tt → length path ≤ longest_path
  unfolding path_fault
  path_short r e q =
      ltb-false _ _ (pick_passed (ltb longest_path (length path)) (refusal fault.path_form 0)
      (components_fault 0 (components path))
      (sym e ∙ q)).0
