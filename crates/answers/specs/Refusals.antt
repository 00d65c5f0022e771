-- A fault has a number, and a refusal is a number and a place (docs/FORMAT.md, "Numbers").
use Rattle.std.specs.Prelude.{ℕ, Result, Ok, Err}
use Rattle.answers.specs.declared.Refusal.{Refusal}
use Rattle.answers.specs.declared.Fault.{Fault}
use Rattle.answers.specs.declared.Fault.TheVariants as of
use Rattle.answers.specs.Numbers as fault

abbrev pub refusal : ℕ → ℕ → Refusal
refusal n p = record { number = n; place = p }

-- ---- a fault of the code

abbrev pub number_of : Fault → ℕ
number_of of.ImageLength = fault.image_length
number_of of.ClaimArea = fault.claim_area
number_of of.BootTag = fault.boot_tag
number_of of.RootWords = fault.root_words
number_of of.BadKey = fault.bad_key
number_of of.ClaimedTwice = fault.claimed_twice
number_of of.BlockSum = fault.block_sum
number_of of.BlockType = fault.block_type
number_of of.Link = fault.link
number_of of.WrongTies = fault.wrong_ties
number_of of.BadName = fault.bad_name
number_of of.WrongSlot = fault.wrong_slot
number_of of.DoubleName = fault.double_name
number_of of.FileLayout = fault.file_layout
number_of of.DataLayout = fault.data_layout
number_of of.BitmapWords = fault.bitmap_words
number_of of.WrongBit = fault.wrong_bit
number_of of.PathForm = fault.path_form
number_of of.NotFound = fault.not_found
number_of of.WrongKind = fault.wrong_kind
number_of of.FileLength = fault.file_length
number_of of.EarlyEnd = fault.early_end
number_of of.HeaderWord = fault.header_word
number_of of.Library = fault.library
number_of of.HunkSize = fault.hunk_size
number_of of.MisplacedBlock = fault.misplaced_block
number_of of.BodyLength = fault.body_length
number_of of.SymbolType = fault.symbol_type
number_of of.BadTarget = fault.bad_target
number_of of.TrailingWords = fault.trailing_words
number_of of.BadBase = fault.bad_base
number_of of.ShortRoom = fault.short_room
number_of of.NearTargets = fault.near_targets
number_of of.BothMemories = fault.both_memories

abbrev pub refused_at : Fault → ℕ → Refusal
refused_at f p = refusal (number_of f) p

-- what tests come to, as a number: 0 where they pass
abbrev pub told : Result Unit Fault → ℕ
told (Ok u) = 0
told (Err f) = number_of f
