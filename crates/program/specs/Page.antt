-- A program file as the page shows it: hunks as data, and how they are written out to words (docs/FORMAT.md, "The
-- program file").
use Rattle.std.specs.Prelude.{ℕ, ◌+◌, ◌-◌, ◌*◌, ◌/◌, ◌%◌, ◌^◌, ◌≤◌, ◌<◌, ◌≡◌, ◌≢◌, List, [], ◌∷◌, ◌++◌, map, length}
use Rattle.program.specs.Types as type
use Rattle.words.specs.Word.{words_at}
use Rattle.program.specs.Spaces.{Space, space_word, SpaceFits}

-- ---- the parts of a hunk

-- an optional name block
pub data Name : Type 0 where
  none : Name
  named : List ℕ → Name

-- stored words of code or data; or a number of words of which none is stored
pub data Body : Type 0 where
  code stores : List ℕ → Body
  bss : ℕ → Body

-- offsets of words that get the base of one hunk
pub record Group : Type 0 where
  pub hunk : ℕ
  pub offsets : List ℕ

pub record Symbol : Type 0 where
  pub name : List ℕ
  pub value : ℕ

pub data Part : Type 0 where
  relocation : List Group → Part
  symbols : List Symbol → Part
  debug : List ℕ → Part

pub record Hunk : Type 0 where
  pub space : Space
  pub name : Name
  pub body : Body
  pub parts : List Part

-- ---- written out

-- one after the other
abbrev pub joined : {A : Type 0} → (A → List ℕ) → List A → List ℕ
joined f [] = []
joined f (x ∷ xs) = f x ++ joined f xs

-- a list of words after their number
abbrev pub counted : List ℕ → List ℕ
counted ws = length ws ∷ ws

abbrev pub name_words : Name → List ℕ
name_words none = []
name_words (named ws) = type.name ∷ counted ws

abbrev pub body_words : Body → List ℕ
body_words (code ws) = type.code ∷ counted ws
body_words (stores ws) = type.stores ∷ counted ws
body_words (bss n) = type.bss ∷ n ∷ []

abbrev pub group_words : Group → List ℕ
group_words g = length g.offsets ∷ g.hunk ∷ g.offsets

abbrev pub symbol_words : Symbol → List ℕ
symbol_words u = counted u.name ++ (u.value ∷ [])

-- groups and symbols end with a 0
abbrev pub part_words : Part → List ℕ
part_words (relocation gs) = type.relocation ∷ joined group_words gs ++ (0 ∷ [])
part_words (symbols us) = type.symbols ∷ joined symbol_words us ++ (0 ∷ [])
part_words (debug ws) = type.debug ∷ counted ws

abbrev pub hunk_words : Hunk → List ℕ
hunk_words h = name_words h.name ++ body_words h.body ++ joined part_words h.parts ++ (type.end ∷ [])

abbrev pub space_words : List Hunk → List ℕ
space_words hs = map (λ h. space_word h.space) hs

abbrev pub head_words : List Hunk → List ℕ
head_words hs = type.header ∷ 0 ∷ length hs ∷ 0 ∷ (length hs - 1) ∷ space_words hs

abbrev pub written : List Hunk → List ℕ
written hs = head_words hs ++ joined hunk_words hs

-- ---- within the limits

abbrev pub Each : {A : Type 0} → (A → Type 0) → List A → Type 0
Each P [] = Unit {0}
Each P (x ∷ xs) = P x × Each P xs

-- the words of a body, and those that are stored
abbrev pub body_count : Body → ℕ
body_count (code ws) = length ws
body_count (stores ws) = length ws
body_count (bss n) = n

abbrev pub stored_words : Body → List ℕ
stored_words (code ws) = ws
stored_words (stores ws) = ws
stored_words (bss n) = []

-- the words that all hunks take
abbrev pub total : List Hunk → ℕ
total [] = 0
total (h ∷ hs) = h.space.size + total hs

-- an offset is even, and four bytes from it on are stored: n words are
abbrev pub OffsetFits : ℕ → ℕ → Type 0
OffsetFits n o = (o % 2 ≡ 0) × (o + 4 ≤ 4 * n)

-- of t hunks
pub record GroupFits (t n : ℕ) (g : Group) : Type 0 where
  pub some : g.offsets ≢ []
  pub number : g.hunk < t
  pub offsets : Each (OffsetFits n) g.offsets

-- a symbol's name has a word, and its length fits 24 bits
abbrev pub SymbolFits : Symbol → Type 0
SymbolFits u = (1 ≤ length u.name) × (length u.name < 2 ^ 24)

abbrev pub PartFits : ℕ → ℕ → Part → Type 0
PartFits t n (relocation gs) = Each (GroupFits t n) gs
PartFits t n (symbols us) = Each SymbolFits us
PartFits t n (debug ws) = Unit {0}

pub record HunkFits (t : ℕ) (h : Hunk) : Type 0 where
  pub space : SpaceFits h.space
  pub body : body_count h.body ≤ h.space.size
  pub parts : Each (PartFits t (length (stored_words h.body))) h.parts

pub record Program (hs : List Hunk) : Type 0 where
  pub least : 1 ≤ length hs
  pub most : length hs ≤ type.most_hunks
  pub hunks : Each (HunkFits (length hs)) hs

-- a file holds hunks: they are within the limits, and its words are theirs, written out
pub record Holds (file : List ℕ) (hs : List Hunk) : Type 0 where
  pub fits : Program hs
  pub whole : length file % 4 ≡ 0
  pub words : words_at file 0 (length file / 4) ≡ written hs
