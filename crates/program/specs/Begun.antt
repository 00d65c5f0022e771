-- A hunk that is begun: what of it stands before a word of the file, and which word may not come next
-- (docs/FORMAT.md, "The program file", and "Numbers", 35 to 38). A case is named after the word that comes next.
use Rattle.std.specs.Prelude.{ℕ, ◌+◌, ◌^◌, ◌<◌, ◌≤◌, ◌≡◌, ◌≢◌, ◌⊎◌, List, [], ◌∷◌, ◌++◌, length}
use Rattle.program.specs.Types as type
use Rattle.answers.specs.Numbers as fault
use Rattle.program.specs.Page.{Name, Body, Group, Symbol, Part, joined, counted, name_words, body_words}
use Rattle.program.specs.Page.{group_words, symbol_words, part_words, Each, body_count, stored_words, OffsetFits}
use Rattle.program.specs.Page.{GroupFits, SymbolFits, PartFits}

-- ---- what stands there

-- of a part that comes after whole parts
pub data PartBegun : Type 0 where
  -- nothing yet: the type of a part comes next, or the hunk's end
  a_part : PartBegun
  -- 3EC and whole groups: the count of a further group comes next, or 0
  a_count : List Group → PartBegun
  -- also that count
  a_number : List Group → ℕ → PartBegun
  -- also the group's hunk number, and its offsets so far
  an_offset : List Group → ℕ → ℕ → List ℕ → PartBegun
  -- 3F0 and whole symbols: the length of a further name comes next, or 0
  a_symbol : List Symbol → PartBegun
  -- also that length, and the words of the name and the value so far
  symbol_word : List Symbol → ℕ → List ℕ → PartBegun
  -- 3F1
  debug_length : PartBegun
  -- 3F1, the number of debug words, and these words so far
  debug_word : ℕ → List ℕ → PartBegun

-- of a hunk
pub data Begun : Type 0 where
  -- nothing yet: a name block comes next, or the body
  first : Begun
  -- 3E8
  name_length : Begun
  -- 3E8, the length of the name, and its words so far
  name_word : ℕ → List ℕ → Begun
  -- a whole name block
  a_body : List ℕ → Begun
  -- a name block or none, and the type of the body
  body_length : Name → ℕ → Begun
  -- also the number of the body's words, and the stored words so far
  body_word : Name → ℕ → ℕ → List ℕ → Begun
  -- a name block or none, a whole body, whole parts, and what there is of a further part
  after_body : Name → Body → List Part → PartBegun → Begun

-- ---- written out

abbrev pub part_so_far : PartBegun → List ℕ
part_so_far a_part = []
part_so_far (a_count gs) = type.relocation ∷ joined group_words gs
part_so_far (a_number gs n) = type.relocation ∷ joined group_words gs ++ (n ∷ [])
part_so_far (an_offset gs n k os) = type.relocation ∷ joined group_words gs ++ (n ∷ k ∷ os)
part_so_far (a_symbol us) = type.symbols ∷ joined symbol_words us
part_so_far (symbol_word us n ws) = type.symbols ∷ joined symbol_words us ++ (n ∷ ws)
part_so_far debug_length = type.debug ∷ []
part_so_far (debug_word n ws) = type.debug ∷ n ∷ ws

abbrev pub so_far : Begun → List ℕ
so_far first = []
so_far name_length = type.name ∷ []
so_far (name_word n ws) = type.name ∷ n ∷ ws
so_far (a_body ws) = type.name ∷ counted ws
so_far (body_length x k) = name_words x ++ (k ∷ [])
so_far (body_word x k n ws) = name_words x ++ (k ∷ n ∷ ws)
so_far (after_body x b ps p) = name_words x ++ body_words b ++ joined part_words ps ++ part_so_far p

-- ---- within the limits; and a list of words that is begun has fewer than its number says

-- in one of t hunks, which stores m words: where it stores none a group may still be begun, but no offset of it fits
abbrev pub PartBegunFits : ℕ → ℕ → PartBegun → Type 0
PartBegunFits t m a_part = Unit {0}
PartBegunFits t m (a_count gs) = Each (GroupFits t m) gs
PartBegunFits t m (a_number gs n) = Each (GroupFits t m) gs × (1 ≤ n)
PartBegunFits t m (an_offset gs n k os) = Each (GroupFits t m) gs × (k < t) × Each (OffsetFits m) os × (length os < n)
PartBegunFits t m (a_symbol us) = Each SymbolFits us
PartBegunFits t m (symbol_word us n ws) = Each SymbolFits us × (1 ≤ n) × (n < 2 ^ 24) × (length ws < n + 1)
PartBegunFits t m debug_length = Unit {0}
PartBegunFits t m (debug_word n ws) = length ws < n

-- in one of t hunks, of this size
abbrev pub BegunFits : ℕ → ℕ → Begun → Type 0
BegunFits t size first = Unit {0}
BegunFits t size name_length = Unit {0}
BegunFits t size (name_word n ws) = length ws < n
BegunFits t size (a_body ws) = Unit {0}
BegunFits t size (body_length x k) = (k ≡ type.code) ⊎ (k ≡ type.stores) ⊎ (k ≡ type.bss)
BegunFits t size (body_word x k n ws) = ((k ≡ type.code) ⊎ (k ≡ type.stores)) × (n ≤ size) × (length ws < n)
BegunFits t size (after_body x b ps p) =
    (body_count b ≤ size) × Each (PartFits t (length (stored_words b))) ps × PartBegunFits t (length (stored_words b)) p

-- ---- the word w may not come next: v is the number

-- in one of t hunks, which stores m words
abbrev pub PartWrong : ℕ → ℕ → ℕ → ℕ → PartBegun → Type 0
PartWrong t m w v a_part =
    (v ≡ fault.misplaced_block) × (w ≢ type.relocation) × (w ≢ type.symbols) × (w ≢ type.debug) × (w ≢ type.end)
PartWrong t m w v (a_number gs n) = (v ≡ fault.bad_target) × (t ≤ w)
PartWrong t m w v (an_offset gs n k os) = (v ≡ fault.bad_target) × (OffsetFits m w → ⊥)
PartWrong t m w v (a_symbol us) = (v ≡ fault.symbol_type) × (2 ^ 24 ≤ w)
PartWrong t m w v (a_count gs) = ⊥
PartWrong t m w v (symbol_word us n ws) = ⊥
PartWrong t m w v debug_length = ⊥
PartWrong t m w v (debug_word n ws) = ⊥

-- in one of t hunks, of this size
abbrev pub Wrong : ℕ → ℕ → ℕ → ℕ → Begun → Type 0
Wrong t size w v first =
    (v ≡ fault.misplaced_block) × (w ≢ type.name) × (w ≢ type.code) × (w ≢ type.stores) × (w ≢ type.bss)
Wrong t size w v (a_body ws) = (v ≡ fault.misplaced_block) × (w ≢ type.code) × (w ≢ type.stores) × (w ≢ type.bss)
Wrong t size w v (body_length x k) = (v ≡ fault.body_length) × (size < w)
Wrong t size w v (after_body x b ps p) = PartWrong t (length (stored_words b)) w v p
Wrong t size w v name_length = ⊥
Wrong t size w v (name_word n ws) = ⊥
Wrong t size w v (body_word x k n ws) = ⊥
