-- Laws of boot tags: the kind that an image's tag names. Assumes nothing.
use Prim.Native.Nat.{ℕ, zero, suc, ◌%◌, ◌≤◌, ◌<◌}
use mathlib.Core.Path.{◌≡◌, refl, ap, sym}
use mathlib.Core.Logic.{inl}
use mathlib.Core.Bool.{Bool, true, false}
use mathlib.Core.List.{List}
use native.Mathlib.Omega.{arith}
use lib.Dec.{T}
use lib.ListN.{length, get_or-eq_default}
use Rattle.answers.specs.Members.{◌∈◌, has}
use Rattle.answers.proofs.Members.{listed, found, each_in}
use Rattle.answers.specs.Tests.{pick}
use Rattle.words.specs.Word.{word_at}
use Rattle.volume.specs.declared.disk.Disk.{Disk}
use Rattle.volume.specs.Disks.{old, fast_international, kinds, tag_of, tag_byte, kind_in}

pub true_is : (b : Bool) → T b → b ≡ true
true_is true h = refl
true_is false h = absurd h

-- the kinds are 0 to 3
kind_small : (k : ℕ) → k ∈ kinds → k ≤ fast_international
kind_small =
    each_in (λ k. k ≤ fast_international) kinds (omega arith, (omega arith, (omega arith, (omega arith, tt))))

kind_listed : (k : ℕ) → k ≤ fast_international → T (has kinds k)
kind_listed zero h = tt
kind_listed (suc zero) h = tt
kind_listed (suc (suc zero)) h = tt
kind_listed (suc (suc (suc zero))) h = tt
kind_listed (suc (suc (suc (suc k)))) h = absurd (omega arith)

module _ (s : List ℕ) where
  -- ---- from the word that code reads

  named : {w : ℕ} → tag_byte s ≡ w → T (has kinds w) → w ≡ kind_in s
  unfolding kind_in pick
  named {w} e h = rw (e, true_is (has kinds w) h) refl

  pub kind_short : length s < 4 → old ≡ kind_in s
  unfolding word_at
  kind_short h = let z = get_or-eq_default s 0 {n = 3} (omega arith) in named (omega (arith, z)) tt

  pub kind_named : (w : ℕ) → w ≡ word_at s 0 → w % 256 ≤ fast_international → w % 256 ≡ kind_in s
  kind_named w q h = named (ap (λ (x : ℕ). x % 256) (sym q)) (kind_listed (w % 256) h)

  pub kind_old : (w : ℕ) → w ≡ word_at s 0 → fast_international < w % 256 → old ≡ kind_in s
  unfolding kind_in pick
  kind_old w q h = go (has kinds (tag_byte s)) refl
    where
      go : (b : Bool) → has kinds (tag_byte s) ≡ b → old ≡ pick b (tag_byte s) old
      go false e = refl
      go true e = absurd (omega (arith, kind_small (tag_byte s) (listed kinds (tag_byte s) (rw e tt)), q))

  -- ---- the kind of an image

  pub kind_known : kind_in s ∈ kinds
  unfolding kind_in pick
  kind_known = go (has kinds (tag_byte s)) refl
    where
      go : (b : Bool) → has kinds (tag_byte s) ≡ b → pick b (tag_byte s) old ∈ kinds
      go true e = listed kinds (tag_byte s) (rw e tt)
      go false e = inl refl

  -- an image with the boot tag of a disk has that disk's kind
  pub tag_kind : (d : Disk) → d.kind ∈ kinds → word_at s 0 ≡ tag_of d → kind_in s ≡ d.kind
  tag_kind d m t = sym (named (omega (arith, t, kind_small d.kind m)) (found kinds d.kind m))
