-- What the answers of a load and a move say, in the terms of the page: when a call is accepted, and when 40, 41 and
-- 42 are given (docs/FORMAT.md, "The program file" and "Numbers").
use Rattle.std.specs.Prelude.{Err, ◌≡◌, ℕ, ◌+◌, ◌*◌, ◌%◌, ◌^◌, ◌<◌, ◌≤◌, ◌≢◌, ◌⊎◌, List, [], ◌∷◌, ◌++◌, length}
use Rattle.answers.specs.Numbers as fault
use Rattle.answers.specs.Refusals.{refusal}
use Rattle.answers.specs.Members.{◌∈◌}
use Rattle.answers.specs.declared.Refusal.{Refusal}
use Rattle.program.specs.Page.{Hunk, Each, Holds, total}
use Rattle.program.specs.Check.{Answer, accepted, check_of}
use Rattle.loader.specs.Memory.{amount_of}
use Rattle.loader.specs.Pages.{PageTarget, file_targets, size_at}

-- an answer that accepts
abbrev pub Accepts : Answer → Type 0
Accepts a = (t : ℕ) × (n : ℕ) × (a ≡ accepted t n)

-- ---- 40: bases, where hunk k takes `size k` words

-- address a is one of hunk i's
abbrev pub Owns : (ℕ → ℕ) → List ℕ → ℕ → ℕ → Type 0
Owns size bases i a = (amount_of bases i ≤ a) × (a < amount_of bases i + 4 * size i)

-- hunks i and j share an address
abbrev pub Shared : (ℕ → ℕ) → List ℕ → ℕ → ℕ → Type 0
Shared size bases i j = (a : ℕ) × Owns size bases i a × Owns size bases j a

-- entry i is as it must be: a multiple of 4, base plus size in bytes at most 2^32, no address shared with an earlier
-- entry
pub record GoodEntry (size : ℕ → ℕ) (bases : List ℕ) (i : ℕ) : Type 0 where
  pub multiple : amount_of bases i % 4 ≡ 0
  pub below : amount_of bases i + 4 * size i ≤ 2 ^ 32
  pub alone : (j : ℕ) → j < i → Shared size bases i j → ⊥

-- what is wrong with entry i
abbrev pub BadEntry : (ℕ → ℕ) → List ℕ → ℕ → Type 0
BadEntry size bases i =
    (amount_of bases i % 4 ≢ 0) ⊎ (2 ^ 32 < amount_of bases i + 4 * size i)
    ⊎ ((j : ℕ) × (j < i) × Shared size bases i j)

-- exactly a base for each hunk, and every entry is good
pub record GoodBases (hs : List Hunk) (bases : List ℕ) : Type 0 where
  pub count : length bases ≡ length hs
  pub entries : (i : ℕ) → i < length hs → GoodEntry (size_at hs) bases i

-- 40 at place p, of a list whose entries count from `from`: the count is wrong, at the list's entry 0; or the first
-- bad entry
abbrev pub BadBases : List Hunk → List ℕ → ℕ → ℕ → Type 0
BadBases hs bases from p =
    ((length bases ≢ length hs) × (p ≡ from))
    ⊎ ((length bases ≡ length hs)
    × ((i : ℕ) × (i < length hs) × BadEntry (size_at hs) bases i
    × ((j : ℕ) → j < i → GoodEntry (size_at hs) bases j) × (p ≡ from + i)))

-- of the lists that a call is lent, in order: the first that is bad; each counts on from the one before
abbrev pub FirstBad : List Hunk → ℕ → List (List ℕ) → ℕ → Type 0
FirstBad hs from [] p = ⊥
FirstBad hs from (l ∷ ls) p = BadBases hs l from p ⊎ (GoodBases hs l × FirstBad hs (from + length hs) ls p)

-- ---- 41: room, where t hunks take n bytes

-- memory and work area for every byte, and a record for each hunk
pub record Room (t n memory records work : ℕ) : Type 0 where
  pub memory_fits : n ≤ memory
  pub records_fit : t ≤ records
  pub work_fits : n ≤ work

-- memory, records or work area is short
abbrev pub Short : ℕ → ℕ → ℕ → ℕ → ℕ → Type 0
Short t n memory records work = (memory < n) ⊎ (records < t) ⊎ (work < n)

-- ---- 42: near targets

-- two targets of one hunk, less than 4 bytes apart
abbrev pub Near : PageTarget → PageTarget → Type 0
Near x y = (x.hunk ≡ y.hunk) × (x.loaded_at < y.loaded_at + 4) × (y.loaded_at < x.loaded_at + 4)

-- no target is near another of the list
abbrev pub Spaced : List PageTarget → Type 0
Spaced [] = Unit {0}
Spaced (x ∷ xs) = Each (λ y. Near x y → ⊥) xs × Spaced xs

-- the first target in file order that is near an earlier one: the file names it at byte p
pub record FirstNear (hs : List Hunk) (p : ℕ) : Type 0 where
  pub before : List PageTarget
  pub target : PageTarget
  pub after : List PageTarget
  pub split : file_targets hs ≡ before ++ (target ∷ after)
  pub spaced : Spaced before
  pub other : PageTarget
  pub earlier : (other ∈ before)
  pub near : Near target other
  pub place : p ≡ target.byte

-- ---- a call

-- a call that is lent these lists of bases (a load one, a move the old and the new) is accepted, with t hunks and n
-- bytes
pub record Takes (hs : List Hunk) (lists : List (List ℕ)) (memory records work t n : ℕ) : Type 0 where
  pub hunks : t ≡ length hs
  pub bytes : n ≡ 4 * total hs
  pub bases : Each (GoodBases hs) lists
  pub room : Room (length hs) (4 * total hs) memory records work
  pub spaced : Spaced (file_targets hs)

-- 40, 41 and 42 at place p, each where the tests before it pass
abbrev pub Refuses40 : List Hunk → List (List ℕ) → ℕ → Type 0
Refuses40 hs lists p = FirstBad hs 0 lists p

abbrev pub Refuses41 : List Hunk → List (List ℕ) → ℕ → ℕ → ℕ → ℕ → Type 0
Refuses41 hs lists memory records work p =
    Each (GoodBases hs) lists × Short (length hs) (4 * total hs) memory records work × (p ≡ 0)

abbrev pub Refuses42 : List Hunk → List (List ℕ) → ℕ → ℕ → ℕ → ℕ → Type 0
Refuses42 hs lists memory records work p =
    Each (GoodBases hs) lists × Room (length hs) (4 * total hs) memory records work × FirstNear hs p

abbrev pub RefusesCall : List Hunk → List (List ℕ) → ℕ → ℕ → ℕ → ℕ → Refusal → Type 0
RefusesCall hs lists memory records work p f =
    ((f ≡ refusal fault.bad_base p) × Refuses40 hs lists p)
    ⊎ ((f ≡ refusal fault.short_room p) × Refuses41 hs lists memory records work p)
    ⊎ ((f ≡ refusal fault.near_targets p) × Refuses42 hs lists memory records work p)

-- any refusal: of the file; else, of the hunks that it holds, 40, 41 or 42 at a place
abbrev pub CallWhy : List ℕ → List (List ℕ) → ℕ → ℕ → ℕ → Refusal → Type 0
CallWhy file lists memory records work f =
    (check_of file ≡ Err f)
    ⊎ ((hs : List Hunk) × Holds file hs × (p : ℕ) × RefusesCall hs lists memory records work p f)
