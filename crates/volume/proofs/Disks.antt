-- Laws of the disk that a call takes an image for. Assumes nothing.
use Prim.Native.Nat.{ℕ, ◌*◌, ◌≤◌}
use mathlib.Core.Path.{◌≡◌, refl, ap, sym, ◌∙◌, subst}
use mathlib.Core.Logic.{◌≢◌, ◌⊎◌, ◌↔◌, inl, inr}
use mathlib.Core.Bool.{Bool, true, false}
use mathlib.Core.List.{List, [], ◌∷◌}
use native.Mathlib.Omega.{arith}
use lib.Dec.{eqb}
use lib.ListN.{length}
use borrow.Author.Tests.{eq-eqb, ne_eqb}
use Rattle.answers.specs.Members.{◌∈◌, has}
use Rattle.answers.specs.Tests.{pick}
use Rattle.answers.proofs.Members.{listed, found, each_in}
use Rattle.words.specs.Word.{word_at}
use Rattle.volume.specs.declared.disk.Disk.{Disk}
use Rattle.volume.specs.Blocks.{block_bytes}
use Rattle.volume.specs.Disks.{double_density, high_density, sizes, Exists, Sized, most_blocks, image_bytes, tag_of}
use Rattle.volume.specs.Disks.{any_size, size_in, other_size, size_for, disk_of, Names, Fits, Unfit, NoTag}
use Rattle.volume.specs.Law.{Volume, IsVolume}
use Rattle.volume.proofs.Tags.{true_is, kind_known, tag_kind}

-- every disk that exists is of a size that the code is proved for
pub exists_sized : (d : Disk) → Exists d → Sized d
exists_sized d h =
    record {
      least = each_in (λ b. 8 ≤ b) sizes (omega arith, (omega arith, tt)) d.blocks h.size;
      most = each_in (λ b. b ≤ most_blocks) sizes (omega arith, (omega arith, tt)) d.blocks h.size;
    }

-- ---- sizes

module _ (b : ℕ) where
  pub other_of_double : b ≡ double_density → high_density ≡ other_size b
  unfolding other_size pick
  other_of_double e = rw (eq-eqb b double_density e) refl

  pub other_of_high : b ≢ double_density → double_density ≡ other_size b
  unfolding other_size pick
  other_of_high n = rw (ne_eqb b double_density n) refl

other_known : (b : ℕ) → b ∈ sizes → other_size b ∈ sizes
unfolding other_size pick
other_known = each_in (λ b. other_size b ∈ sizes) sizes (inr (inl refl), (inl refl, tt))

other_differs : (b : ℕ) → b ∈ sizes → b ≢ other_size b
unfolding other_size pick
other_differs = each_in (λ b. b ≢ other_size b) sizes (λ e. omega arith, (λ e. omega arith, tt))

module _ (s : List ℕ) where
  pub size_high : length s ≡ high_density * block_bytes → high_density ≡ size_in s
  unfolding size_in pick
  size_high e = rw (eq-eqb (length s) (high_density * block_bytes) e) refl

  pub size_double : length s ≢ high_density * block_bytes → double_density ≡ size_in s
  unfolding size_in pick
  size_double n = rw (ne_eqb (length s) (high_density * block_bytes) n) refl

  own_known : size_in s ∈ sizes
  unfolding size_in pick
  own_known = go (eqb (length s) (high_density * block_bytes))
    where
      go : (t : Bool) → pick t high_density double_density ∈ sizes
      go true = inr (inl refl)
      go false = inl refl

  -- an image with the length of a size has that size
  own_fits : (b : ℕ) → b ∈ sizes → length s ≡ b * block_bytes → size_in s ≡ b
  own_fits =
      each_in (λ b. length s ≡ b * block_bytes → size_in s ≡ b) sizes
      (λ e. sym (size_double (λ q. omega arith)), (λ e. sym (size_high e), tt))

module _ (n : ℕ) (s : List ℕ) where
  -- ---- the size, as code tests it

  size_named : n ∈ (any_size ∷ size_in s ∷ []) → size_in s ≡ size_for n s
  unfolding size_for pick
  size_named m =
      let l = any_size ∷ size_in s ∷ [] in rw (true_is (has l n) (found l n m)) refl

  module _ (o : ℕ) (e : o ≡ size_in s) where
    pub size_any : n ≡ any_size → o ≡ size_for n s
    size_any q = e ∙ size_named (inl q)

    pub size_own : n ≡ o → n ≡ size_for n s
    size_own q = q ∙ e ∙ size_named (inr (inl (q ∙ e)))

    pub size_other : (r : ℕ) → (n ≡ any_size → ⊥) → (n ≡ o → ⊥) → r ≡ other_size o → r ≡ size_for n s
    unfolding size_for pick
    size_other r z q h = h ∙ rw (e, ne_eqb n any_size z, ne_eqb n (size_in s) (λ f. q (f ∙ sym e))) refl

  -- ---- the size of a disk that fits

  -- what holds of the image's own size, if it is named or none is, and of the other size, holds of the size taken
  by_own : (P : ℕ → Type 0) → (n ∈ (any_size ∷ size_in s ∷ []) → P (size_in s)) → P (other_size (size_in s))
      → P (size_for n s)
  unfolding size_for pick
  by_own P own other = go (has (any_size ∷ size_in s ∷ []) n) refl
    where
      go : (t : Bool) → has (any_size ∷ size_in s ∷ []) n ≡ t → P (pick t (size_in s) (other_size (size_in s)))
      go true e = own (listed (any_size ∷ size_in s ∷ []) n (rw e tt))
      go false e = other

  size_known : size_for n s ∈ sizes
  size_known = by_own (λ b. b ∈ sizes) (λ h. own_known s) (other_known (size_in s) (own_known s))

  pub disk_size : (d : Disk) → Fits n s d → (disk_of n s).blocks ≡ d.blocks
  disk_size d f = sym (size_named (named f.named)) ∙ own
    where
      own : size_in s ≡ d.blocks
      own = own_fits s d.blocks f.exists.size f.long

      named : Names n d → n ∈ (any_size ∷ size_in s ∷ [])
      named (inl e) = inl e
      named (inr e) = inr (inl (e ∙ sym own))

  -- ---- the disk

  pub disk_exists : Exists (disk_of n s)
  disk_exists = record { size = size_known; kind = kind_known s }

  pub disk_sized : (d : Disk) → d ≡ disk_of n s → Sized d
  disk_sized d e = rw e (exists_sized (disk_of n s) disk_exists)

  -- an image as long as the disk that it is taken for is of a size that the call names
  long_named : length s ≡ image_bytes (disk_of n s) → Names n (disk_of n s)
  long_named = by_own (λ b. length s ≡ b * block_bytes → (n ≡ any_size) ⊎ (n ≡ b)) one other
    where
      one : n ∈ (any_size ∷ size_in s ∷ []) → length s ≡ size_in s * block_bytes → (n ≡ any_size) ⊎ (n ≡ size_in s)
      one (inl e) l = inl e
      one (inr (inl e)) l = inr e
      one (inr (inr e)) l = absurd e

      other : length s ≡ other_size (size_in s) * block_bytes → (n ≡ any_size) ⊎ (n ≡ other_size (size_in s))
      other l =
          let k = own_known s in
          absurd (other_differs (size_in s) k (own_fits s (other_size (size_in s)) (other_known (size_in s) k) l))

  pub long_fits : length s ≡ image_bytes (disk_of n s) → Fits n s (disk_of n s)
  long_fits l = record { exists = disk_exists; named = long_named l; long = l }

  -- it is not as long as the disk that it is taken for if and only if no disk fits: 1
  pub unfit : (length s ≢ image_bytes (disk_of n s)) ↔ Unfit n s
  unfit = (
    (λ h d f. h (f.long ∙ ap (λ (b : ℕ). b * block_bytes) (sym (disk_size d f)))),
    λ u l. u (disk_of n s) (long_fits l),
  )

  -- it has not the tag of the disk that it is taken for if and only if it has that of no disk: 3
  pub no_tag : (word_at s 0 ≢ tag_of (disk_of n s)) ↔ NoTag s
  no_tag = (
    (λ h d x t. h (rw (tag_kind s d x.kind t) t)),
    λ h t. h (disk_of n s) disk_exists t,
  )

  -- an image of a disk that fits, with that disk's boot tag, is taken for it
  pub disk_is : (d : Disk) → Fits n s d → word_at s 0 ≡ tag_of d → disk_of n s ≡ d
  disk_is d f t = rw (disk_size d f, tag_kind s d f.exists.kind t) refl

  pub volume_is : Volume (disk_of n s) s ↔ IsVolume n s
  volume_is = (
    (λ v. (disk_of n s, disk_exists, long_named v.tree.long, v)),
    λ (d, x, m, v).
        let f : Fits n s d = record { exists = x; named = m; long = v.tree.long } in
        subst (λ e. Volume e s) (sym (disk_is d f v.tree.tag)) v,
  )
