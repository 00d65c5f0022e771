-- Laws of relocation: what becomes of each byte and of each target; twice is once by the sums, and by nothing is
-- nothing. Assumes nothing.
use Rattle.std.proofs.Common.{◌≡◌, ℕ, ◌+◌, ◌%◌, ◌^◌, ◌<◌, ◌≤◌, List, [], ◌∷◌, length, get_or, sym, refl, ap, ◌∙◌, inl}
use Rattle.std.proofs.Common.{inr, ⊎_elim, arith}
use Rattle.words.specs.Word.{Bytes, word_at, add_at}
use Rattle.words.specs.Shift.{Target, shift_all}
use Rattle.words.proofs.Words.{Far, Off, length_add_at, add_at_off, add_at_apart, add_at_comm, add_at_same}
use Rattle.words.proofs.Words.{add_at_twice, add_at_mod, add_at_zero}

-- t shares no byte with any target
abbrev pub FarAll : ℕ → List Target → Type 0
FarAll t [] = Unit
FarAll t (u ∷ us) = Far t u.loaded_at × FarAll t us

-- no two targets share a byte
abbrev pub Apart : List Target → Type 0
Apart [] = Unit
Apart (t ∷ ts) = FarAll t.loaded_at ts × Apart ts

-- every target lies within n bytes
abbrev pub Within : ℕ → List Target → Type 0
Within n [] = Unit
Within n (t ∷ ts) = (t.loaded_at + 4 ≤ n) × Within n ts

-- byte k is no byte of any target
abbrev pub OffAll : ℕ → List Target → Type 0
OffAll k [] = Unit
OffAll k (t ∷ ts) = Off k t.loaded_at × OffAll k ts

pub length_shift_all : (m : List ℕ) (ts : List Target) (f : ℕ → ℕ) → length (shift_all m ts f) ≡ length m
unfolding shift_all
length_shift_all m [] f = refl
length_shift_all m (t ∷ ts) f = length_shift_all (add_at m t.loaded_at (f t.key)) ts f ∙ length_add_at m _ _

-- bytes outside all targets stay
pub shift_all_off : (m : List ℕ) (ts : List Target) (f : ℕ → ℕ) (k : ℕ) → OffAll k ts
    → get_or (shift_all m ts f) k 0 ≡ get_or m k 0
unfolding shift_all
shift_all_off m [] f k o = refl
shift_all_off m (t ∷ ts) f k o = shift_all_off (add_at m t.loaded_at (f t.key)) ts f k o.1 ∙ add_at_off m _ _ k o.0

-- a target far from all others may go first or last
shift_all_past : (m : List ℕ) (ts : List Target) (f : ℕ → ℕ) (t d : ℕ) → FarAll t ts
    → add_at (shift_all m ts f) t d ≡ shift_all (add_at m t d) ts f
unfolding shift_all
shift_all_past m [] f t d a = refl
shift_all_past m (u ∷ us) f t d a =
    shift_all_past (add_at m u.loaded_at (f u.key)) us f t d a.1
    ∙ ap (λ n. shift_all n us f) (sym (add_at_comm m t d u.loaded_at (f u.key) a.0))

-- two shifts are one by the sums
pub shift_all_twice : (m : List ℕ) (ts : List Target) (f g : ℕ → ℕ) → Apart ts → Within (length m) ts
    → shift_all (shift_all m ts f) ts g ≡ shift_all m ts (λ k. (f k + g k) % 2 ^ 32)
unfolding shift_all
shift_all_twice m [] f g a w = refl
shift_all_twice m (t ∷ ts) f g a w =
    rw (
      shift_all_past (add_at m t.loaded_at (f t.key)) ts f t.loaded_at (g t.key) a.0,
      add_at_twice m t.loaded_at (f t.key) w.0 (g t.key),
    )
    (shift_all_twice (add_at m t.loaded_at ((f t.key + g t.key) % 2 ^ 32)) ts f g a.1 (rw length_add_at w.1))

-- a shift by nothing changes nothing
pub shift_all_zero : (m : List ℕ) (ts : List Target) → Bytes m → shift_all m ts (λ k. 0) ≡ m
unfolding shift_all
shift_all_zero m [] b = refl
shift_all_zero m (t ∷ ts) b = rw (add_at_zero m t.loaded_at b) (shift_all_zero m ts b)

-- amounts count modulo 2^32
pub shift_all_mod : (m : List ℕ) (ts : List Target) (f g : ℕ → ℕ) → ((k : ℕ) → f k % 2 ^ 32 ≡ g k % 2 ^ 32)
    → shift_all m ts f ≡ shift_all m ts g
unfolding shift_all
shift_all_mod m [] f g h = refl
shift_all_mod m (t ∷ ts) f g h =
    rw (add_at_mod m t.loaded_at (f t.key) (g t.key) (h t.key))
    (shift_all_mod (add_at m t.loaded_at (g t.key)) ts f g h)

-- a load at the old bases and a move by the differences is a load at the new ones
pub shift_all_moved : (m : List ℕ) (ts : List Target) (old d new : ℕ → ℕ)
    → ((k : ℕ) → (old k + d k) % 2 ^ 32 ≡ new k % 2 ^ 32) → Apart ts → Within (length m) ts
    → shift_all (shift_all m ts old) ts d ≡ shift_all m ts new
shift_all_moved m ts old d new h a w =
    shift_all_twice m ts old d a w ∙ shift_all_mod m ts (λ k. (old k + d k) % 2 ^ 32) new (λ k. omega (arith, h k))

-- each target's word of n is that of m with its amount
abbrev pub Added : List ℕ → List ℕ → List Target → (ℕ → ℕ) → Type 0
Added m n [] f = Unit
Added m n (t ∷ ts) f = (word_at n t.loaded_at ≡ (word_at m t.loaded_at + f t.key) % 2 ^ 32) × Added m n ts f

shift_all_far : (m : List ℕ) (ts : List Target) (f : ℕ → ℕ) (t : ℕ) → FarAll t ts
    → word_at (shift_all m ts f) t ≡ word_at m t
unfolding shift_all
shift_all_far m [] f t a = refl
shift_all_far m (u ∷ us) f t a =
    shift_all_far (add_at m u.loaded_at (f u.key)) us f t a.1
    ∙ add_at_apart m u.loaded_at (f u.key) t (⊎_elim inr inl a.0)

added_from : (m n : List ℕ) (ts : List Target) (f : ℕ → ℕ) (t d : ℕ) → FarAll t ts → Added (add_at m t d) n ts f
    → Added m n ts f
added_from m n [] f t d a h = tt
added_from m n (u ∷ us) f t d a h =
    (rw (add_at_apart m t d u.loaded_at a.0) at h.0, added_from m n us f t d a.1 h.1)

pub shift_all_added : (m : List ℕ) (ts : List Target) (f : ℕ → ℕ) → Apart ts → Within (length m) ts
    → Added m (shift_all m ts f) ts f
unfolding shift_all
shift_all_added m [] f a w = tt
shift_all_added m (t ∷ ts) f a w = (
  shift_all_far _ ts f t.loaded_at a.0 ∙ add_at_same m t.loaded_at (f t.key) w.0,
  added_from m _ ts f t.loaded_at (f t.key) a.0
      (shift_all_added (add_at m t.loaded_at (f t.key)) ts f a.1 (rw length_add_at w.1)),
)

-- ---- amounts that agree where they are used

-- every target's amount has a number below t
abbrev pub Keyed : ℕ → List Target → Type 0
Keyed t [] = Unit
Keyed t (u ∷ us) = (u.key < t) × Keyed t us

pub shift_all_agree : (m : List ℕ) (t : ℕ) (ts : List Target) (f g : ℕ → ℕ) → ((k : ℕ) → k < t → f k ≡ g k)
    → Keyed t ts → shift_all m ts f ≡ shift_all m ts g
unfolding shift_all
shift_all_agree m t [] f g h k = refl
shift_all_agree m t (u ∷ us) f g h k =
    rw (h u.key k.0) (shift_all_agree (add_at m u.loaded_at (g u.key)) t us f g h k.1)
