-- Counting references: every reference is of one kind (`count-kinds`), a walk's counts are those of its references
-- (`noted_counts`), and what has one key is counted once (`count_one`). Assumes nothing.
use Prim.Native.Nat.{ℕ, suc, ◌+◌}
use mathlib.Core.Path.{◌≡◌, refl, sym, ap, ◌∙◌, subst}
use mathlib.Core.Logic.{◌≢◌, inl, inr}
use mathlib.Core.Bool.{Bool, true, false}
use mathlib.Core.List.{List, [], ◌∷◌, map, foldr}
use native.Mathlib.Omega.{arith}
use lib.ListN.{length}
use Rattle.answers.specs.Tests.{pick}
use Rattle.reach.specs.References.{◌∈◌, Uniq}
use Rattle.reach.proofs.Lists.{in_map}
use Rattle.volume.specs.declared.disk.Disk.{Disk}
use Rattle.volume.specs.Blocks.{directory}
use Rattle.volume.specs.References.{Kind, Ref}
use Rattle.walk.specs.declared.Counts.{Counts}
use Rattle.walk.specs.Nodes.{Node, root, bitmap, entry, list, datum, bare, nothing, with_entry, noted}
use Rattle.walk.specs.Reports.{count, is_directory, is_file, is_list, is_data}

-- ---- the two kinds that the counts leave out

abbrev pub is_root : Ref → Bool
is_root r =
    elim r.kind [
      | Kind.root ↦ true
      | Kind.bitmap ↦ false
      | Kind.entry ↦ false
      | Kind.list ↦ false
      | Kind.datum ↦
          false
    ]

abbrev pub is_bitmap : Ref → Bool
is_bitmap r =
    elim r.kind [
      | Kind.root ↦ false
      | Kind.bitmap ↦ true
      | Kind.entry ↦ false
      | Kind.list ↦ false
      | Kind.datum ↦
          false
    ]

-- ---- a walk's counts

module _ (d : Disk) (s : List ℕ) where
  -- n counts the references of l
  pub record Tally (l : List Node) (n : Counts) : Type 0 where
    pub directories : n.directories ≡ count (is_directory s) (map (bare d) l)
    pub files : n.files ≡ count (is_file s) (map (bare d) l)
    pub lists : n.lists ≡ count is_list (map (bare d) l)
    pub blocks : n.blocks ≡ count is_data (map (bare d) l)
    pub total : n.directories + n.files + n.lists + n.blocks + (count is_root (map (bare d) l) + count is_bitmap
        (map (bare d) l)) ≡ length (map (bare d) l)

  tally_entry : (k t i p : ℕ) (l : List Node) (n : Counts) → Tally l n → (b : Bool) → directory s k ≡ b
      → Tally (entry k t i p ∷ l) (with_entry b n)
  unfolding count pick
  tally_entry k t i p l n h true e =
      record {
        directories = rw e (omega arith);
        files = rw e (omega arith);
        lists = omega arith;
        blocks = omega arith;
        total = omega arith;
      }
  tally_entry k t i p l n h false e =
      record {
        directories = rw e (omega arith);
        files = rw e (omega arith);
        lists = omega arith;
        blocks = omega arith;
        total = omega arith;
      }

  pub noted_counts : (l : List Node) → Tally l (foldr (noted s) nothing l)
  unfolding noted count pick
  noted_counts [] = omega arith
  noted_counts (root ∷ l) = let h = noted_counts l in omega arith
  noted_counts (bitmap k ∷ l) = let h = noted_counts l in omega arith
  noted_counts (entry k t i p ∷ l) =
      tally_entry k t i p l (foldr (noted s) nothing l) (noted_counts l) (directory s k) refl
  noted_counts (list k h m c ∷ l) = let h = noted_counts l in omega arith
  noted_counts (datum k h m c ∷ l) = let h = noted_counts l in omega arith

-- ---- what has one key is counted once

module _ (f : Ref → Bool) where
  count_yes : (r : Ref) (l : List Ref) → f r ≡ true → count f (r ∷ l) ≡ suc (count f l)
  unfolding count pick
  count_yes r l e = rw e

  count_not : (r : Ref) (l : List Ref) → f r ≡ false → count f (r ∷ l) ≡ count f l
  unfolding count pick
  count_not r l e = rw e

  fails : (r : Ref) → f r ≢ true → f r ≡ false
  fails r h = go (f r) refl
    where
      go : (b : Bool) → f r ≡ b → f r ≡ false
      go true e = absurd (h e)
      go false e = e

  module _ (k : ℕ) where
    abbrev keys : List Ref → List ℕ
    keys l = map (λ r. r.key) l

    -- of what passes, the key is k
    abbrev Keyed : List Ref → Type 0
    Keyed l = (r : Ref) → r ∈ l → f r ≡ true → r.key ≡ k

    count_none : (l : List Ref) → Keyed l → (¬ (k ∈ keys l)) → count f l ≡ 0
    unfolding count
    count_none [] h n = refl
    count_none (r ∷ l) h n =
        count_not r l (fails r (λ e. n (inl (sym (h r (inl refl) e)))))
        ∙ count_none l (λ x a. h x (inr a)) (λ a. n (inr a))

    pub count_one : (x : Ref) (l : List Ref) → x ∈ l → x.key ≡ k → f x ≡ true → Uniq (keys l) → Keyed l → count f l ≡ 1
    count_one x [] a e t u h = absurd a
    count_one x (r ∷ l) (inl a) e t u h =
        count_yes r l (ap f (sym a) ∙ t)
        ∙ ap suc (count_none l (λ y b. h y (inr b))
        (λ b. u.0 (subst (λ z. z ∈ keys l) (sym e ∙ ap (λ r. r.key) a) b)))
    count_one x (r ∷ l) (inr a) e t u h =
        count_not r l (fails r (λ q. u.0
        (subst (λ z. z ∈ keys l) (e ∙ sym (h r (inl refl) q)) (in_map (λ r. r.key) x l a))))
        ∙ count_one x l a e t u.1 (λ y b. h y (inr b))
