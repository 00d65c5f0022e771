-- A load in the terms of the page: records, memory and targets of a list of hunks that stand end to end
-- (docs/FORMAT.md, "The program file").
use Rattle.std.specs.Prelude.{◌≡◌, ℕ, zero, suc, ◌+◌, ◌-◌, ◌*◌, ◌/◌, ◌%◌, ◌^◌, ◌<◌, ◌≤◌, ◌⊎◌, List, [], ◌∷◌, ◌++◌, map}
use Rattle.std.specs.Prelude.{length, take, drop, replicate}
use Rattle.program.specs.Types as type
use Rattle.words.specs.Word.{word_at}
use Rattle.words.specs.Shift.{Target, shift_all}
use Rattle.program.specs.Page.{Body, Group, Part, Hunk, code, stores, bss, relocation, symbols, debug, joined}
use Rattle.program.specs.Page.{name_words, body_words, group_words, part_words, hunk_words, Each, stored_words, total}
use Rattle.loader.specs.Memory.{amount_of, moved}
use Rattle.loader.specs.Table.{record_of}

-- ---- records

abbrev pub kind_of : Body → ℕ
kind_of (code ws) = type.code
kind_of (stores ws) = type.stores
kind_of (bss n) = type.bss

-- the numbers of the records of hunks, one record after the other; the first hunk stands at byte p and has number i
abbrev pub record_numbers : ℕ → ℕ → List Hunk → List ℕ → List ℕ
record_numbers p i [] bases = []
record_numbers p i (h ∷ hs) bases =
    record_of (kind_of h.body) p h.space (amount_of bases i)
    ++ record_numbers (p + 4 * h.space.size) (i + 1) hs bases

-- ---- memory, with no amount added yet

-- the highest byte first
abbrev pub word_bytes : ℕ → List ℕ
word_bytes w = w / 16777216 % 256 ∷ w / 65536 % 256 ∷ w / 256 % 256 ∷ w % 256 ∷ []

-- the stored words, and zeros up to the size
abbrev pub hunk_bytes : Hunk → List ℕ
hunk_bytes h =
    joined word_bytes (stored_words h.body)
    ++ replicate (4 * (h.space.size - length (stored_words h.body))) 0

abbrev pub image_of : List Hunk → List ℕ
image_of hs = joined hunk_bytes hs

-- ---- targets

-- a target: the hunk that it stands in, its first byte in memory, the hunk whose base it gets, and the byte in the
-- file of the offset that names it
pub record PageTarget : Type 0 where
  pub hunk : ℕ
  pub loaded_at : ℕ
  pub named : ℕ
  pub byte : ℕ

-- of hunk i, which stands at byte p of memory: the targets of offsets that get the base of hunk k; the first offset
-- stands at byte `at` of the file
abbrev pub offsets_at : ℕ → ℕ → ℕ → ℕ → List ℕ → List PageTarget
offsets_at i p k at [] = []
offsets_at i p k at (o ∷ os) =
    record { hunk = i; loaded_at = p + o; named = k; byte = at } ∷ offsets_at i p k (at + 4) os

-- of groups from byte `at` on: in each, the offsets follow two words
abbrev pub groups_at : ℕ → ℕ → ℕ → List Group → List PageTarget
groups_at i p at [] = []
groups_at i p at (g ∷ gs) =
    offsets_at i p g.hunk (at + 8) g.offsets ++ groups_at i p (at + 4 * length (group_words g)) gs

-- of parts from byte `at` on: in a relocation the groups follow one word
abbrev pub parts_at : ℕ → ℕ → ℕ → List Part → List PageTarget
parts_at i p at [] = []
parts_at i p at (relocation gs ∷ ps) =
    groups_at i p (at + 4) gs ++ parts_at i p (at + 4 * length (part_words (relocation gs))) ps
parts_at i p at (symbols us ∷ ps) = parts_at i p (at + 4 * length (part_words (symbols us))) ps
parts_at i p at (debug ws ∷ ps) = parts_at i p (at + 4 * length (part_words (debug ws))) ps

-- of hunk i, from byte `at` of the file on: its parts follow its name and its body
abbrev pub hunk_at : ℕ → ℕ → ℕ → Hunk → List PageTarget
hunk_at i p at h = parts_at i p (at + 4 * length (name_words h.name ++ body_words h.body)) h.parts

-- of hunks from number i on, the first at byte p of memory and at byte `at` of the file
abbrev pub hunks_at : ℕ → ℕ → ℕ → List Hunk → List PageTarget
hunks_at i p at [] = []
hunks_at i p at (h ∷ hs) =
    hunk_at i p at h ++ hunks_at (i + 1) (p + 4 * h.space.size) (at + 4 * length (hunk_words h)) hs

-- all targets in file order: the hunks follow five words and a size word for each
abbrev pub file_targets : List Hunk → List PageTarget
file_targets hs = hunks_at 0 0 (20 + 4 * length hs) hs

-- the same as three numbers, without the hunk that it stands in
abbrev pub bare : PageTarget → Target
bare t = record { loaded_at = t.loaded_at; key = t.named; byte = t.byte }

-- hunk i's size in words
abbrev pub size_at : List Hunk → ℕ → ℕ
size_at [] i = 0
size_at (h ∷ hs) zero = h.space.size
size_at (h ∷ hs) (suc i) = size_at hs i

-- hunk i's first byte in memory: the hunks before it stand end to end
abbrev pub hunk_place : List Hunk → ℕ → ℕ
hunk_place hs i = 4 * total (take i hs)

-- the file's word at the target's byte is its offset: it is counted from the hunk's first byte, and four bytes from
-- there on lie in the hunk
pub record Named (file : List ℕ) (hs : List Hunk) (x : PageTarget) : Type 0 where
  pub loaded_at : x.loaded_at ≡ hunk_place hs x.hunk + word_at file x.byte
  pub within : word_at file x.byte + 4 ≤ 4 * size_at hs x.hunk

-- each target gets its amount, one after the other
abbrev pub relocated : List ℕ → List PageTarget → (ℕ → ℕ) → List ℕ
relocated m ts f = shift_all m (map bare ts) f

-- the word at each target in m' is that in m and the target's amount, modulo 2^32
abbrev pub Adds : List ℕ → List ℕ → List PageTarget → (ℕ → ℕ) → Type 0
Adds m m' ts f = Each (λ t. word_at m' t.loaded_at ≡ (word_at m t.loaded_at + f t.named) % 2 ^ 32) ts

-- byte k is no byte of a target
abbrev pub Outside : ℕ → List PageTarget → Type 0
Outside k ts = Each (λ t. (k < t.loaded_at) ⊎ (t.loaded_at + 4 ≤ k)) ts

-- ---- an accepted call: x hunks, n bytes

-- memory with no amount added yet: the hunks, then what stood there
abbrev pub with_hunks : List Hunk → List ℕ → List ℕ
with_hunks hs m = image_of hs ++ drop (4 * total hs) m

-- What a call leaves, m' and t'. A table holds its records as numbers (`record_numbers 0 0`) or as structs
-- (`page_records 0 0` of `hunks`): `held` says which those of the hunks are. They come first, then what stood there.

-- A load: memory is the hunks, then what stood there, with its base added at each target.
pub record LoadedPage {R : Type 0} (held : List Hunk → List ℕ → List R)
    (hs : List Hunk) (bases m : List ℕ) (t : List R) (x n : ℕ) (m' : List ℕ) (t' : List R) : Type 0 where
  pub hunks : x ≡ length hs
  pub bytes : n ≡ 4 * total hs
  pub memory : m' ≡ relocated (with_hunks hs m) (file_targets hs) (amount_of bases)
  pub table : t' ≡ held hs bases ++ drop (length (held hs bases)) t

-- A move: new minus old base is added at each target.
pub record MovedPage {R : Type 0} (held : List Hunk → List ℕ → List R)
    (hs : List Hunk) (old new m : List ℕ) (t : List R) (x n : ℕ) (m' : List ℕ) (t' : List R) : Type 0 where
  pub hunks : x ≡ length hs
  pub bytes : n ≡ 4 * total hs
  pub memory : m' ≡ relocated m (file_targets hs) (moved old new)
  pub table : t' ≡ held hs new ++ drop (length (held hs new)) t
