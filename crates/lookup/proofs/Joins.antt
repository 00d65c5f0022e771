-- Names joined by '/' are the components of what they make. Assumes nothing.
use Prim.Native.Nat.{ℕ, ◌+◌, ◌≤◌}
use mathlib.Core.Path.{◌≡◌, refl, sym, ap, ◌∙◌}
use mathlib.Core.Logic.{◌≢◌, inl, inr}
use mathlib.Core.Bool.{Bool, true, false}
use mathlib.Core.List.{List, [], ◌∷◌, ◌++◌}
use native.Mathlib.Omega.{arith}
use lib.Dec.{leb, eqb}
use lib.ListN.{length, length-append}
use lib.Seq.{length-slice}
use borrow.Author.Tests.{eqb-true, leb-true}
use Rattle.answers.specs.Tests.{pick}
use Rattle.answers.proofs.Clashes.{impossible}
use Rattle.reach.specs.References.{◌∈◌}
use Rattle.volume.specs.Blocks.{Holds}
use Rattle.volume.specs.Names.{allowed, longest, name_length, name_from, name_of, name_good}
use Rattle.lookup.specs.Paths.{longest_path, slash, onto, split, components, joined, is_component}
use Rattle.lookup.specs.Verdicts.{GoodForm}
use Rattle.lookup.proofs.Splits.{path_components}

-- the components of a path, joined again, are the path
pub joined_split : (path : List ℕ) → joined (split path) ≡ path
unfolding joined split pick
joined_split [] = refl
joined_split (b ∷ bs) = go (eqb b slash) refl (split bs) (joined_split bs) (split_some bs)
  where
    split_some : (xs : List ℕ) → split xs ≢ []
    split_some [] e = impossible cc
    split_some (x ∷ xs) e = some (eqb x slash) (split xs) e
      where
        some : (t : Bool) (cs : List (List ℕ)) → pick t ([] ∷ cs) (onto x cs) ≢ []
        some true cs e = impossible cc
        some false [] e = impossible cc
        some false (c ∷ cs) e = impossible cc

    go : (t : Bool) → eqb b slash ≡ t → (cs : List (List ℕ)) → joined cs ≡ bs → cs ≢ []
        → joined (pick t ([] ∷ cs) (onto b cs)) ≡ b ∷ bs
    go t q [] e h = absurd (h refl)
    go true q (c ∷ cs) e h = let x = eqb-true b slash q in rw (x, e)
    go false q (c ∷ []) e h = ap (λ l. b ∷ l) e
    go false q (c ∷ a ∷ cs) e h = ap (λ l. b ∷ l) e

-- ---- what a component has

pub record Component (c : List ℕ) : Type 0 where
  pub some : 1 ≤ length c
  pub few : length c ≤ longest
  pub clean : allowed c ≡ true

pub component_has : (c : List ℕ) → is_component c ≡ true → Component c
unfolding is_component pick
component_has c e = go (leb 1 (length c)) refl (leb (length c) longest) refl e
  where
    go : (a : Bool) → leb 1 (length c) ≡ a → (b : Bool) → leb (length c) longest ≡ b
        → pick a (pick b (allowed c) false) false ≡ true → Component c
    go true p true q h = record { some = leb-true _ _ p; few = leb-true _ _ q; clean = h }
    go true p false q h = impossible cc
    go false p b q h = impossible cc

-- a good name is a component
pub name_component : (s : List ℕ) (k : ℕ) → Holds s k → name_good s k ≡ true → is_component (name_of s k) ≡ true
unfolding name_good is_component pick
name_component s k h e = go (leb 1 n) refl (leb n longest) refl e
  where
    n : ℕ
    n = name_length s k

    go : (a : Bool) → leb 1 n ≡ a → (b : Bool) → leb n longest ≡ b
        → pick a (pick b (allowed (name_of s k)) false) false ≡ true
        → pick (leb 1 (length (name_of s k))) (pick (leb (length (name_of s k)) longest) (allowed (name_of s k)) false)
        false ≡ true
    go true p true q y =
        let few = leb-true n longest q in
        let l : length (name_of s k) ≡ n = length-slice (name_from k) (name_from k + n) s (omega arith) ∙ omega arith in
        rw (l, p, q) y
    go true p false q y = impossible cc
    go false p b q y = impossible cc

-- ---- splitting what was joined

-- the first byte of a clean name is no '/', and the rest is clean
clean_first : (b : ℕ) (c : List ℕ) → allowed (b ∷ c) ≡ true → (eqb b slash ≡ false) × (allowed c ≡ true)
unfolding allowed pick
clean_first b c e = go (eqb b 47) refl (eqb b 58) e
  where
    go : (t : Bool) → eqb b 47 ≡ t → (u : Bool) → pick t false (pick u false (allowed c)) ≡ true
        → (eqb b slash ≡ false) × (allowed c ≡ true)
    go true p u h = impossible cc
    go false p true h = impossible cc
    go false p false h = (p, h)

split_last : (c : List ℕ) → allowed c ≡ true → split c ≡ c ∷ []
unfolding split pick
split_last [] e = refl
split_last (b ∷ c) e = let h = clean_first b c e in rw (h.0, split_last c h.1)

split_join : (c xs : List ℕ) → allowed c ≡ true → split (c ++ (slash ∷ xs)) ≡ c ∷ split xs
unfolding split pick
split_join [] xs e = refl
split_join (b ∷ c) xs e = let h = clean_first b c e in rw (h.0, split_join c xs h.1)

abbrev pub Components : List (List ℕ) → Type 0
Components cs = (c : List ℕ) → c ∈ cs → is_component c ≡ true

split_joined : (c : List ℕ) (cs : List (List ℕ)) → Components (c ∷ cs) → split (joined (c ∷ cs)) ≡ c ∷ cs
unfolding joined
split_joined c [] h = split_last c (component_has c (h c (inl refl))).clean
split_joined c (b ∷ cs) h =
    split_join c (joined (b ∷ cs)) (component_has c (h c (inl refl))).clean
    ∙ ap (λ l. c ∷ l) (split_joined b cs (λ x m. h x (inr m)))

joined_some : (c : List ℕ) (cs : List (List ℕ)) → Components (c ∷ cs) → 1 ≤ length (joined (c ∷ cs))
unfolding joined
joined_some c [] h = (component_has c (h c (inl refl))).some
joined_some c (b ∷ cs) h = let a = (component_has c (h c (inl refl))).some in simp length-append (omega arith)

pub components_joined : (cs : List (List ℕ)) → Components cs → components (joined cs) ≡ cs
unfolding joined
components_joined [] h = refl
components_joined (c ∷ cs) h =
    sym (path_components (joined (c ∷ cs)) (λ e. let a = joined_some c cs h in omega arith)) ∙ split_joined c cs h

-- ---- the form of what was joined

pub joined_form : (cs : List (List ℕ)) → Components cs → length (joined cs) ≤ longest_path → GoodForm (joined cs)
joined_form cs h l = record { short = l; good = rw (components_joined cs h) h }
