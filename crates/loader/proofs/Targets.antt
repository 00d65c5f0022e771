-- An accepted load leaves at each target the stored word and the base of its hunk, and an accepted move what stood
-- there and new minus old base, modulo 2^32; a move changes no other byte. Assumes nothing.
use Rattle.std.proofs.Common.{◌≡◌, ℕ, ◌+◌, ◌*◌, ◌%◌, ◌^◌, ◌≤◌, List, [], ◌∷◌, ◌++◌, map, length, get_or, sym, refl, ap}
use Rattle.std.proofs.Common.{◌∙◌, subst, arith}
use lib.ListN.{get_or-append}
use Rattle.words.specs.Word.{word_at}
use Rattle.words.specs.Shift.{shift_all}
use Rattle.words.proofs.Words.{word_at_same_bytes}
use Rattle.words.proofs.Shifts.{OffAll, Added, length_shift_all, shift_all_off, shift_all_added}
use Rattle.program.specs.Check.{accepted}
use Rattle.program.specs.Page.{Hunk, Each, Holds, total}
use Rattle.loader.specs.Memory.{targets_of, amount_of, bodies_of, moved}
use Rattle.loader.specs.Calls.{records_in, Loads, Moves}
use Rattle.loader.specs.Pages.{PageTarget, image_of, file_targets, bare, Adds, Outside, with_hunks}
use Rattle.loader.proofs.Inside.{within_targets, within_more, length_bodies}
use Rattle.loader.proofs.Answering.{load_facts, move_facts}
use Rattle.loader.proofs.Moving.{apart}
use Rattle.loader.proofs.PageLoads.{length_image, page_bodies, page_targets}
use Rattle.loader.proofs.OneHunk.{page_within}

-- ---- targets of the page

adds_bare : (m m' : List ℕ) (ts : List PageTarget) (f : ℕ → ℕ) → Added m m' (map bare ts) f → Adds m m' ts f
adds_bare m m' [] f a = tt
adds_bare m m' (t ∷ ts) f a = (a.0, adds_bare m m' ts f a.1)

off_bare : (k : ℕ) (ts : List PageTarget) → Outside k ts → OffAll k (map bare ts)
off_bare k [] o = tt
off_bare k (t ∷ ts) o = (o.0, off_bare k ts o.1)

-- words in the first part of memory
word_first : (a b : List ℕ) (p : ℕ) → p + 4 ≤ length a → word_at (a ++ b) p ≡ word_at a p
word_first a b p h = word_at_same_bytes (a ++ b) a p (λ k l u. get_or-append a b 0 k (omega arith))

adds_first : (a b m' : List ℕ) (ts : List PageTarget) (f : ℕ → ℕ) (n : ℕ) → n ≡ length a
    → Each (λ t. t.loaded_at + 4 ≤ n) ts → Adds (a ++ b) m' ts f → Adds a m' ts f
adds_first a b m' [] f n e w h = tt
adds_first a b m' (t ∷ ts) f n e w h = (
  h.0 ∙ ap (λ (z : ℕ). (z + f t.named) % 2 ^ 32) (word_first a b t.loaded_at (omega (arith, w.0))),
  adds_first a b m' ts f n e w.1 h.1,
)

-- ---- of a file that holds hunks

module _ (file : List ℕ) (hs : List Hunk) (held : Holds file hs) where
  theirs : targets_of file ≡ map bare (file_targets hs)
  theirs = page_targets file hs held.fits held.whole held.words

  -- bytes outside all targets stay
  others_stay : (m : List ℕ) (f : ℕ → ℕ) (k : ℕ) → Outside k (file_targets hs)
      → get_or (shift_all m (targets_of file) f) k 0 ≡ get_or m k 0
  others_stay m f k o =
      shift_all_off m (targets_of file) f k (subst (OffAll k) (sym theirs) (off_bare k (file_targets hs) o))

  module _ (m t w : List ℕ) (x n : ℕ) (m' t' w' : List ℕ) where
    module _ (bases : List ℕ) (l : Loads file bases m t w (accepted x n) m' t' w') where
      -- at each target: the stored word and the base of its hunk
      pub load_words : Adds (image_of hs) m' (file_targets hs) (amount_of bases)
      load_words =
          let c = load_facts file bases (length m) (records_in t) (length w) x n _ l.answer refl in
          let s = c.file_accepted.header in
          let fits =
          within_more _ (length (bodies_of file m)) (targets_of file)
          (omega (arith, c.fits, length_bodies file m c.fits)) (within_targets file s) in
          let a =
          shift_all_added (bodies_of file m) (targets_of file) (amount_of bases)
          (apart [] (targets_of file) c.apart) fits in
          let b : Adds (with_hunks hs m) m' (file_targets hs) (amount_of bases) =
          adds_bare _ m' (file_targets hs) (amount_of bases)
          (rw (l.loaded, ← page_bodies file hs held.fits held.whole held.words m, ← theirs) a) in
          adds_first (image_of hs) _ m' (file_targets hs) (amount_of bases) (4 * total hs)
          (omega (arith, length_image (length hs) hs held.fits.hunks)) (page_within file hs held) b

      -- every other byte: the hunks', and after them what stood there
      pub load_others : (k : ℕ) → Outside k (file_targets hs) → get_or m' k 0 ≡ get_or (with_hunks hs m) k 0
      load_others k o =
          ap (λ (u : List ℕ). get_or u k 0) l.loaded
          ∙ others_stay (bodies_of file m) (amount_of bases) k o
          ∙ ap (λ (u : List ℕ). get_or u k 0) (page_bodies file hs held.fits held.whole held.words m)

    module _ (old new : List ℕ) (l : Moves file old new m t w (accepted x n) m' t' w') where
      -- at each target: what stood there, and new minus old base
      pub move_words : Adds m m' (file_targets hs) (moved old new)
      move_words =
          let c = (move_facts file old new (length m) (records_in t) (length w) x n _ l.answer refl).load in
          let s = c.file_accepted.header in
          let fits = within_more _ (length m) (targets_of file) c.fits (within_targets file s) in
          let a = shift_all_added m (targets_of file) (moved old new) (apart [] (targets_of file) c.apart) fits in
          adds_bare m m' (file_targets hs) (moved old new) (rw (l.shifted, ← theirs) a)

      -- every other byte is as it was
      pub move_others_stay : (length m' ≡ length m)
          × ((k : ℕ) → Outside k (file_targets hs) → get_or m' k 0 ≡ get_or m k 0)
      move_others_stay = (
        ap length l.shifted ∙ length_shift_all m (targets_of file) (moved old new),
        λ k o. ap (λ (u : List ℕ). get_or u k 0) l.shifted ∙ others_stay m (moved old new) k o,
      )
