-- Two trees, one with the entry k and one without it: every find that does not come to k answers alike, but for how
-- many entries it compared (`find_like`). Assumes nothing.
use Rattle.answers.specs.declared.Refusal.{Refusal}
use Rattle.std.specs.Prelude.{Result, Ok, Err, Some, None}
use Prim.Native.Nat.{ℕ, ◌+◌}
use mathlib.Core.Path.{◌≡◌, refl, sym, ap, ◌∙◌, subst}
use mathlib.Core.Logic.{◌≢◌, ◌⊎◌, inl, inr}
use mathlib.Core.Bool.{Bool, true, false}
use mathlib.Core.List.{List, [], ◌∷◌}
use lib.ListN.{length}
use borrow.Author.Tests.{eq-eqb}
use Rattle.answers.specs.Tests.{pick}
use Rattle.reach.specs.References.{Reached, top}
use Rattle.words.specs.Word.{word_at}
use Rattle.volume.specs.declared.disk.Disk.{Disk}
use Rattle.volume.specs.Disks.{image_bytes, tag_of, root_of}
use Rattle.volume.specs.Blocks.{word_of, directory}
use Rattle.volume.specs.Names.{name_of, folded}
use Rattle.volume.specs.Files.{size_of}
use Rattle.volume.specs.References.{Kind, to, references}
use Rattle.volume.specs.Law.{Tree}
use Rattle.volume.proofs.Passes.{root_passes}
use Rattle.walk.proofs.Positions.{Holder}
use Rattle.lookup.specs.Paths.{components, path_fault}
use Rattle.lookup.specs.Search.{search_of, hit}
use Rattle.lookup.specs.Lookup.{file_at, stepped, lookup_from, from_root, and, find_of}
use Rattle.finds.specs.Answers.{Like}
use Rattle.finds.proofs.Holdings.{In, in_one, Gives, one, no_one, gives}

-- s has the entry k, in which nothing is, and t is the same tree without it
pub record Lacks (d : Disk) (s t : List ℕ) (k : ℕ) : Type 0 where
  pub empty : (y : ℕ) → In d s k y → ⊥
  pub gone : Reached (references d t) (to Kind.entry k) → ⊥
  pub was : (y : ℕ) → Reached (references d t) (to Kind.entry y) → Reached (references d s) (to Kind.entry y)
  pub stays : (y : ℕ) → Reached (references d s) (to Kind.entry y)
      → (y ≡ k) ⊎ Reached (references d t) (to Kind.entry y)
  pub parent : (y : ℕ) → Reached (references d t) (to Kind.entry y) → word_of t y 125 ≡ word_of s y 125
  pub name : (y : ℕ) → Reached (references d t) (to Kind.entry y) → name_of t y ≡ name_of s y
  pub kind : (y : ℕ) → Reached (references d t) (to Kind.entry y) → directory t y ≡ directory s y
  pub size : (y : ℕ) → Reached (references d t) (to Kind.entry y) → size_of t y ≡ size_of s y

-- the components cs from directory x on do not come to k
abbrev pub Misses : Disk → List ℕ → ℕ → ℕ → List (List ℕ) → Type 0
Misses d s k x [] = Unit {0}
Misses d s k x (n ∷ cs) = (y m : ℕ) → search_of d s x n ≡ Ok (Some (hit y m)) → (y ≢ k)
    × (directory s y ≡ true → Misses d s k y cs)

-- on a tree the tests before the components pass, but for the path's form
pub find_components : (d : Disk) (s : List ℕ) → Tree d s → (path : List ℕ)
    → find_of d s path ≡ and (path_fault path) (lookup_from d s (root_of d) 0 0 (components path))
unfolding find_of from_root pick
find_components d s v path =
    rw (
      eq-eqb (length s) (image_bytes d) v.long,
      eq-eqb (word_at s 0) (tag_of d) v.tag,
      root_passes d s
          (v.sums (to Kind.root (root_of d)) (top refl) refl) v.top,
    ) refl

module _ (d : Disk) (s t : List ℕ) (v : Tree d s) (u : Tree d t) (k : ℕ) (c : Lacks d s t k) where
  pub holder_was : (x : ℕ) → Holder d t x → Holder d s x
  holder_was x (inl e) = inl e
  holder_was x (inr w) = inr (c.was x w.0, sym (c.kind x w.0) ∙ w.1)

  pub in_was : (x y : ℕ) → In d t x y → In d s x y
  in_was x y h = record { reached = c.was y h.reached; parent = sym (c.parent y h.reached) ∙ h.parent }

  pub in_stays : (x y : ℕ) → y ≢ k → In d s x y → In d t x y
  in_stays x y n h = go (c.stays y h.reached)
    where
      go : (y ≡ k) ⊎ Reached (references d t) (to Kind.entry y) → In d t x y
      go (inl q) = absurd (n q)
      go (inr r) = record { reached = r; parent = c.parent y r ∙ h.parent }

  -- ---- one component

  -- a name that another entry than k has in s is found in t too
  module _ (x : ℕ) (n : List ℕ) (o : Holder d t x) where
    was_named : (y : ℕ) → In d t x y → folded d (name_of t y) ≡ folded d n → folded d (name_of s y) ≡ folded d n
    was_named y h e = ap (folded d) (sym (c.name y h.reached)) ∙ e

    pub search_stays : (y : ℕ) → y ≢ k → In d s x y → folded d (name_of s y) ≡ folded d n
        → (m : ℕ) × (search_of d t x n ≡ Ok (Some (hit y m)))
    search_stays y e h q = go (gives d t u x n o)
      where
        go : Gives d t x n (search_of d t x n) → (m : ℕ) × (search_of d t x n ≡ Ok (Some (hit y m)))
        go (one z m f g p) = (
          m,
          subst (λ b. search_of d t x n ≡ Ok (Some (hit b m)))
              (in_one d s v x z y (in_was x z g) h (was_named z g p ∙ sym q))
              f,
        )
        go (no_one f g) = let w = in_stays x y e h in absurd (g y w (ap (folded d) (c.name y w.reached) ∙ q))

    -- the name of k is not found
    pub search_gone : In d s x k → folded d (name_of s k) ≡ folded d n → search_of d t x n ≡ Ok None
    search_gone h q = go (gives d t u x n o)
      where
        go : Gives d t x n (search_of d t x n) → search_of d t x n ≡ Ok None
        go (one z m f g p) =
            absurd (c.gone (subst (λ b. Reached (references d t) (to Kind.entry b))
            (in_one d s v x z k (in_was x z g) h (was_named z g p ∙ sym q)) g.reached))
        go (no_one f g) = f

    -- both find the same entry, or neither finds any
    data Both : Type 0 where
      same : (y l m : ℕ) → search_of d s x n ≡ Ok (Some (hit y l)) → search_of d t x n ≡ Ok (Some (hit y m))
          → Reached (references d t) (to Kind.entry y) → Both
      neither : search_of d s x n ≡ Ok None → search_of d t x n ≡ Ok None → Both

    both : ((y m : ℕ) → search_of d s x n ≡ Ok (Some (hit y m)) → y ≢ k) → Both
    both w = go (gives d s v x n (holder_was x o))
      where
        none : ((y : ℕ) → In d s x y → folded d (name_of s y) ≢ folded d n) → Gives d t x n (search_of d t x n)
            → search_of d t x n ≡ Ok None
        none f (one y m e h q) = absurd (f y (in_was x y h) (was_named y h q))
        none f (no_one e g) = e

        go : Gives d s x n (search_of d s x n) → Both
        go (one y l e h q) =
            let a = w y l e in let m = search_stays y a h q in same y l m.0 e m.1 (in_stays x y a h).reached
        go (no_one e f) = neither e (none f (gives d t u x n o))

  -- ---- all components

  lookup_like : (cs : List (List ℕ)) (x i n m : ℕ) → Holder d t x → Misses d s k x cs
      → Like (lookup_from d s x i n cs) (lookup_from d t x i m cs)
  unfolding lookup_from pick
  lookup_like [] x i n m o w = refl
  lookup_like (a ∷ cs) x i n m o w =
      go (both x a o (λ y m e. (w y m e).0)) (λ y n m h g. lookup_like cs y (i + 1) n m h g)
    where
      files : (cs : List (List ℕ)) (y n m : ℕ) → size_of t y ≡ size_of s y
          → Like (file_at s i n cs y) (file_at t i m cs y)
      files [] y n m e = (refl, sym e)
      files (b ∷ cs) y n m e = refl

      chosen : (b : Bool) (y l r : ℕ) → directory s y ≡ b → Reached (references d t) (to Kind.entry y)
          → (directory s y ≡ true → Misses d s k y cs)
          → ((y n m : ℕ) → Holder d t y → Misses d s k y cs
          → Like (lookup_from d s y (i + 1) n cs) (lookup_from d t y (i + 1) m cs))
          → Like (pick b (lookup_from d s y (i + 1) (n + l) cs) (file_at s i (n + l) cs y))
          (pick b (lookup_from d t y (i + 1) (m + r) cs) (file_at t i (m + r) cs y))
      chosen true y l r e h g ih = ih y (n + l) (m + r) (inr (h, c.kind y h ∙ e)) (g e)
      chosen false y l r e h g ih = files cs y (n + l) (m + r) (c.size y h)

      go : Both x a o → ((y n m : ℕ) → Holder d t y → Misses d s k y cs
          → Like (lookup_from d s y (i + 1) n cs) (lookup_from d t y (i + 1) m cs))
          → Like (stepped s i n cs (λ y m. lookup_from d s y (i + 1) m cs) (search_of d s x a))
          (stepped t i m cs (λ y m. lookup_from d t y (i + 1) m cs) (search_of d t x a))
      go (neither e f) ih = rw (e, f) refl
      go (same y l r e f h) ih = rw (e, f, c.kind y h) (chosen (directory s y) y l r refl h (w y l e).1 ih)

  -- Every find that does not come to k answers alike.
  pub find_like : (path : List ℕ) → Misses d s k (root_of d) (components path)
      → Like (find_of d s path) (find_of d t path)
  find_like path w = rw (find_components d s v path, find_components d t u path) (form (path_fault path))
    where
      form : (f : Result Unit Refusal) → Like (and f (lookup_from d s (root_of d) 0 0 (components path)))
          (and f (lookup_from d t (root_of d) 0 0 (components path)))
      form (Ok _) = lookup_like (components path) (root_of d) 0 0 0 (inl refl) w
      form (Err r) = refl
