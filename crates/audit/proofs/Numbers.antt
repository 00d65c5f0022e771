-- The numbers of refusals: the walk's are `walk_refusals` (`walk_number`), and each test knows its own (`numbered`,
-- `by_walk`). Assumes nothing.
use Prim.Native.Nat.{ℕ}
use mathlib.Core.Path.{◌≡◌, refl}
use mathlib.Core.Bool.{Bool, true, false}
use mathlib.Core.List.{List}
use lib.Dec.{eqb}
use borrow.Author.Tests.{eqb-true, ne_eqb}
use Rattle.answers.specs.Numbers as fault
use Rattle.answers.specs.Tests.{pick}
use Rattle.answers.specs.Members.{◌∈◌}
use Rattle.answers.proofs.Members.{listed, unlisted}
use Rattle.volume.specs.declared.disk.Disk.{Disk}
use Rattle.walk.specs.Refusals.{Cause, number_4, number_5, number_6, number_7, number_8, number_9, number_10}
use Rattle.walk.specs.Refusals.{number_10_list, number_11, number_12, number_13, number_14, number_14_list, number_15}
use Rattle.walk.specs.Refusals.{number_16}
use Rattle.audit.specs.Audits.{walk_refusals}
use Rattle.audit.specs.Verdicts.{Test, size, area, tag, walk, bits, test_of}

-- ---- the walk's

pub walk_number : (d : Disk) (s : List ℕ) (v k : ℕ) → Cause d s v k → v ∈ walk_refusals
walk_number d s v k (number_4 a b e) = rw e (listed walk_refusals fault.root_words tt)
walk_number d s v k (number_5 a b c e) = rw e (listed walk_refusals fault.bad_key tt)
walk_number d s v k (number_6 a e) = rw e (listed walk_refusals fault.claimed_twice tt)
walk_number d s v k (number_7 a b o c e) = rw e (listed walk_refusals fault.block_sum tt)
walk_number d s v k (number_8 a b c e) = rw e (listed walk_refusals fault.block_type tt)
walk_number d s v k (number_9 a b e) = rw e (listed walk_refusals fault.link tt)
walk_number d s v k (number_10 t i a b c e) = rw e (listed walk_refusals fault.wrong_ties tt)
walk_number d s v k (number_10_list h i a b c f e) = rw e (listed walk_refusals fault.wrong_ties tt)
walk_number d s v k (number_11 a b e) = rw e (listed walk_refusals fault.bad_name tt)
walk_number d s v k (number_12 t i a b e) = rw e (listed walk_refusals fault.wrong_slot tt)
walk_number d s v k (number_13 t i l a b c g f e) = rw e (listed walk_refusals fault.double_name tt)
walk_number d s v k (number_14 a b e) = rw e (listed walk_refusals fault.file_layout tt)
walk_number d s v k (number_14_list h i a b c e) = rw e (listed walk_refusals fault.file_layout tt)
walk_number d s v k (number_15 h i c o a b g e) = rw e (listed walk_refusals fault.data_layout tt)
walk_number d s v k (number_16 a b e) = rw e (listed walk_refusals fault.bitmap_words tt)

-- ---- a test's number

-- what the test tells of the number
abbrev pub Numbered : ℕ → Test → Type 0
Numbered v size = v ≡ fault.image_length
Numbered v area = v ≡ fault.claim_area
Numbered v tag = v ≡ fault.boot_tag
Numbered v walk = Unit {0}
Numbered v bits = v ≡ fault.wrong_bit

module _ (v : ℕ) where
  pub numbered : Numbered v (test_of v)
  unfolding pick
  numbered =
      go (eqb v fault.image_length) refl (eqb v fault.claim_area) refl (eqb v fault.boot_tag) refl
      (eqb v fault.wrong_bit)
      refl
    where
      go : (a : Bool) → eqb v fault.image_length ≡ a → (b : Bool) → eqb v fault.claim_area ≡ b → (c : Bool)
          → eqb v fault.boot_tag ≡ c → (e : Bool) → eqb v fault.wrong_bit ≡ e
          → Numbered v (pick a size (pick b area (pick c tag (pick e bits walk))))
      go true p b q c r e w = eqb-true v fault.image_length p
      go false p true q c r e w = eqb-true v fault.claim_area q
      go false p false q true r e w = eqb-true v fault.boot_tag r
      go false p false q false r true w = eqb-true v fault.wrong_bit w
      go false p false q false r false w = tt

  pub by_walk : v ∈ walk_refusals → test_of v ≡ walk
  unfolding pick
  by_walk m =
      rw (
        ne_eqb v fault.image_length (unlisted walk_refusals v fault.image_length tt m),
        ne_eqb v fault.claim_area (unlisted walk_refusals v fault.claim_area tt m),
        ne_eqb v fault.boot_tag (unlisted walk_refusals v fault.boot_tag tt m),
        ne_eqb v fault.wrong_bit (unlisted walk_refusals v fault.wrong_bit tt m),
      )
