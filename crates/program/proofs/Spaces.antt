-- A space and its word determine each other, and a space has no fault if and only if it is within the limits. Assumes
-- nothing.
use Prim.Native.Nat.{ℕ, zero, suc, ◌+◌, ◌*◌, ◌%◌, ◌^◌, ◌<◌, ◌≤◌}
use mathlib.Core.Path.{◌≡◌, refl, sym, ap, ◌∙◌}
use mathlib.Core.Logic.{inl, inr, ◌↔◌}
use native.Mathlib.Omega.{arith}
use mathlib.Core.Bool.{Bool, true, false}
use lib.Dec.{ltb, leb}
use borrow.Author.Tests.{lt-ltb, le-ltb, ltb-true, ltb-false, le-leb, leb-true}
use Rattle.answers.specs.Numbers as fault
use Rattle.answers.specs.Tests.{pick, must}
use Rattle.answers.proofs.Tests.{must_passed}
use Rattle.program.specs.Types as type
use Rattle.program.specs.Spaces.{Space, space_word, space_in, MemoryKind, SpaceFits, space_fault, bit}

-- ---- words

-- the word that a space is read from
pub word_back : (w : ℕ) → space_word (space_in w) ≡ w
word_back w = omega arith

space_is : (a b m n : ℕ) → a ≡ b → m ≡ n
    → ◌≡◌ {A = Space} (record { size = a; memory = m }) (record { size = b; memory = n })
space_is a b m n e f = cc

-- the space that a word is written from
pub space_back : (s : Space) → SpaceFits s → space_in (space_word s) ≡ s
space_back s f = space_is _ s.size _ s.memory (omega (arith, f.size)) (omega (arith, f.size))

pub space_same : (s r : Space) → SpaceFits s → SpaceFits r → space_word s ≡ space_word r → s ≡ r
space_same s r f g e = sym (space_back s f) ∙ ap space_in e ∙ space_back r g

-- equal spaces have equal sizes, and ask for one kind of memory
pub size_same : {s r : Space} → s ≡ r → s.size ≡ r.size
size_same e = ap (λ (s : Space). s.size) e

-- ---- the tests

kind_low : (m : ℕ) → MemoryKind m → m ≤ type.fast_memory
kind_low m (inl e) = omega arith
kind_low m (inr (inl e)) = omega arith
kind_low m (inr (inr e)) = omega arith

low_kind : (m : ℕ) → m ≤ type.fast_memory → MemoryKind m
low_kind zero l = inl refl
low_kind (suc zero) l = inr (inl refl)
low_kind (suc (suc zero)) l = inr (inr refl)
low_kind (suc (suc (suc m))) l = absurd (omega arith)

pub fits_passes : (s : Space) → SpaceFits s → space_fault s ≡ 0
unfolding pick must
fits_passes s f =
    rw (
      le-ltb type.fast_memory s.memory (kind_low s.memory f.memory),
      le-leb s.size type.largest_hunk f.size,
    )

pub passed_fits : (s : Space) → space_fault s ≡ 0 → SpaceFits s
unfolding pick
passed_fits s e = go (ltb type.fast_memory s.memory) refl e
  where
    go : (b : Bool) → ltb type.fast_memory s.memory ≡ b
        → pick b fault.both_memories (must (leb s.size type.largest_hunk) fault.hunk_size) ≡ 0 → SpaceFits s
    go true q x = absurd (omega arith)
    go false q x =
        record {
          memory = low_kind s.memory (ltb-false type.fast_memory s.memory q);
          size = leb-true s.size type.largest_hunk (must_passed _ _ x tt);
        }

-- ---- the faults, bit by bit

-- bit 30 counts 1, which is chip memory, and bit 31 counts 2, which is fast memory
pub memory_bits : (w : ℕ) → w < 2 ^ 32 → (space_in w).memory ≡ bit 30 w + 2 * bit 31 w
memory_bits w l = omega arith

-- the test of 43 is that both bits are set
both_bits : (w : ℕ) → w < 2 ^ 32 → (type.fast_memory < (space_in w).memory) ↔ ((bit 30 w ≡ 1) × (bit 31 w ≡ 1))
both_bits w l = (λ h. (omega arith, omega arith), λ h. omega (arith, h.0, h.1))

-- 43 is given where both bits are set, and there alone
pub both_refused : (w : ℕ) → w < 2 ^ 32
    → (space_fault (space_in w) ≡ fault.both_memories) ↔ ((bit 30 w ≡ 1) × (bit 31 w ≡ 1))
unfolding pick must
both_refused w l = (
  λ e. (both_bits w l).0 (there (ltb type.fast_memory (space_in w).memory) (leb (w % 2 ^ 30) type.largest_hunk) refl e),
  λ h. rw (lt-ltb type.fast_memory (space_in w).memory ((both_bits w l).1 h)),
)
  where
    there : (b c : Bool) → ltb type.fast_memory (space_in w).memory ≡ b
        → pick b fault.both_memories (must c fault.hunk_size) ≡ fault.both_memories
        → type.fast_memory < (space_in w).memory
    there true c q x = ltb-true type.fast_memory (space_in w).memory q
    there false true q x = absurd (omega arith)
    there false false q x = absurd (omega arith)
