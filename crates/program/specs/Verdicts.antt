-- What a refusal of the check says of the file: `Says` (docs/FORMAT.md, "Numbers").
use Rattle.std.specs.Prelude.{ℕ, ◌+◌, ◌*◌, ◌%◌, ◌<◌, ◌≤◌, ◌≡◌, ◌≢◌, ◌⊎◌, List, [], ◌∷◌, ◌++◌, length}
use Rattle.words.specs.Word.{word_at, words_at}
use Rattle.answers.specs.Numbers as fault
use Rattle.answers.specs.Refusals.{refusal}
use Rattle.answers.specs.declared.Refusal.{Refusal}
use Rattle.program.specs.Page.{Hunk, joined, hunk_words, HunkFits}
use Rattle.program.specs.Begun.{Begun, so_far, BegunFits, Wrong}
use Rattle.program.specs.Spaces.{Space, bit}
use Rattle.program.specs.Header.{total_of, space_of, size_of, start_at, head_fault}

-- ---- 30: a length of 0, or one that is no multiple of 4

abbrev pub BadLength : List ℕ → Type 0
BadLength file = (length file ≡ 0) ⊎ (length file % 4 ≢ 0)

abbrev pub GoodLength : List ℕ → Type 0
GoodLength file = (length file ≢ 0) × (length file % 4 ≡ 0)

-- ---- 31 to 34, and 43, in the header: word j is the first that is missing or wrong

-- one of the five words, or the size word of one of the hunks
abbrev pub OfHeader : List ℕ → ℕ → Type 0
OfHeader file j = j < 5 + total_of file

-- the fault of word j, or 0
abbrev pub fault_at : List ℕ → ℕ → ℕ
fault_at file j = head_fault (total_of file) j (word_at file (4 * j))

-- word j is there, and has no fault
abbrev pub HeadPasses : List ℕ → ℕ → Type 0
HeadPasses file j = (4 * j + 4 ≤ length file) × (fault_at file j ≡ 0)

-- word j is missing, or it is there and has a fault
abbrev pub HeadFails : List ℕ → ℕ → Refusal → Type 0
HeadFails file j f =
    ((length file < 4 * j + 4) × (f ≡ refusal fault.early_end (length file)))
    ⊎ ((4 * j + 4 ≤ length file) × (fault_at file j ≢ 0) × (f ≡ refusal (fault_at file j) (4 * j)))

pub record HeadWord (file : List ℕ) (f : Refusal) : Type 0 where
  pub word : ℕ
  pub within : OfHeader file word
  pub before : (i : ℕ) → i < word → HeadPasses file i
  pub cause : HeadFails file word f

-- 43 in bits: the first word of the header that is missing or wrong is the size word of a hunk, at byte p, and asks
-- for chip and for fast memory
pub record BothMemories (file : List ℕ) (p : ℕ) : Type 0 where
  pub sound : GoodLength file
  pub hunk : ℕ
  pub within : hunk < total_of file
  pub before : (i : ℕ) → i < 5 + hunk → HeadPasses file i
  pub place : p ≡ 20 + 4 * hunk
  pub there : p + 4 ≤ length file
  pub chip : bit 30 (word_at file p) ≡ 1
  pub fast : bit 31 (word_at file p) ≡ 1

-- no word of the header is missing or wrong
abbrev pub Headed : List ℕ → Type 0
Headed file = (j : ℕ) → OfHeader file j → HeadPasses file j

-- ---- 35 to 39, and 31 after the header: what stands before a byte of the file

-- the words from the end of the header to byte `at` are these
pub record Stand (file ws : List ℕ) (at : ℕ) : Type 0 where
  pub reaches : at ≡ start_at file + 4 * length ws
  pub within : at ≤ length file
  pub words : words_at file (start_at file) (length ws) ≡ ws

-- hunks from number i on, of t: each is within the limits, and has the space that the header gives
abbrev pub OfSpaces : ℕ → (ℕ → Space) → ℕ → List Hunk → Type 0
OfSpaces t space i [] = Unit {0}
OfSpaces t space i (h ∷ hs) = (h.space ≡ space i) × HunkFits t h × OfSpaces t space (i + 1) hs

-- before byte `at` stand whole hunks, and what is begun of the next
pub record Before (file : List ℕ) (hs : List Hunk) (b : Begun) (at : ℕ) : Type 0 where
  pub next : length hs < total_of file
  pub hunks : OfSpaces (total_of file) (space_of file) 0 hs
  pub begun : BegunFits (total_of file) (size_of file (length hs)) b
  pub stand : Stand file (joined hunk_words hs ++ so_far b) at

-- before byte `at` stand all hunks
pub record AllHunks (file : List ℕ) (hs : List Hunk) (at : ℕ) : Type 0 where
  pub all : length hs ≡ total_of file
  pub hunks : OfSpaces (total_of file) (space_of file) 0 hs
  pub stand : Stand file (joined hunk_words hs) at

-- 35 to 38: the word at `at` may not come there
pub record WrongWord (file : List ℕ) (f : Refusal) : Type 0 where
  pub hunks : List Hunk
  pub begun : Begun
  pub at : ℕ
  pub before : Before file hunks begun at
  pub there : at < length file
  pub number : ℕ
  pub wrong : Wrong (total_of file) (size_of file (length hunks)) (word_at file at) number begun
  pub said : f ≡ refusal number at

-- 39: there is a word after all hunks
pub record MoreWords (file : List ℕ) (f : Refusal) : Type 0 where
  pub hunks : List Hunk
  pub at : ℕ
  pub whole : AllHunks file hunks at
  pub there : at < length file
  pub said : f ≡ refusal fault.trailing_words at

-- 31: the file ends before the last hunk does
pub record MissingWord (file : List ℕ) (f : Refusal) : Type 0 where
  pub hunks : List Hunk
  pub begun : Begun
  pub before : Before file hunks begun (length file)
  pub said : f ≡ refusal fault.early_end (length file)

-- ---- any refusal: one of these, in this order

abbrev pub Says : List ℕ → Refusal → Type 0
Says file f =
    (BadLength file × (f ≡ refusal fault.file_length 0))
    ⊎ (GoodLength file × HeadWord file f)
    ⊎ (GoodLength file × Headed file × (WrongWord file f ⊎ MoreWords file f ⊎ MissingWord file f))
