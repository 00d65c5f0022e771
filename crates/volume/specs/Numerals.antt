-- The numbers of each disk that exists, as docs/FORMAT.md writes them.
use Rattle.std.specs.Prelude.{ℕ, ◌≡◌, List, [], ◌∷◌, ◌++◌, map}
use Rattle.answers.specs.Tests.{pick}
use Rattle.volume.specs.declared.disk.Disk.{Disk}
use Rattle.volume.specs.Disks.{kinds, sizes, folds_accents, image_bytes, claim_bytes, tag_of, root_of, bit_span}
use Rattle.volume.specs.Disks.{chain_limit, data_bytes, data_start, file_limit}

-- blocks and kind; bytes of the image and of the claim area; the boot tag; the root's key; used and free blocks
-- together; entries on a chain; 1 if letters with accents are folded; bytes of a file in a data block, the byte at
-- which they begin, and bytes of the largest file
unfoldable pub numerals : Disk → List ℕ
numerals d =
    d.blocks ∷ d.kind ∷ image_bytes d ∷ claim_bytes d ∷ tag_of d ∷ root_of d ∷ bit_span d ∷ chain_limit d
    ∷ pick (folds_accents d) 1 0 ∷ data_bytes d ∷ data_start d ∷ file_limit d ∷ []

-- the disks of the sizes bs, of each kind
abbrev pub of_sizes : List ℕ → List Disk
of_sizes [] = []
of_sizes (b ∷ bs) = map (λ k. record { blocks = b; kind = k }) kinds ++ of_sizes bs

abbrev pub rows : List (List ℕ)
rows =
    (1760 ∷ 0 ∷ 901120 ∷ 1760 ∷ 0x444F5300 ∷ 880 ∷ 1758 ∷ 1756 ∷ 0 ∷ 488 ∷ 24 ∷ 856440 ∷ [])
    ∷ (1760 ∷ 1 ∷ 901120 ∷ 1760 ∷ 0x444F5301 ∷ 880 ∷ 1758 ∷ 1756 ∷ 0 ∷ 512 ∷ 0 ∷ 898560 ∷ [])
    ∷ (1760 ∷ 2 ∷ 901120 ∷ 1760 ∷ 0x444F5302 ∷ 880 ∷ 1758 ∷ 1756 ∷ 1 ∷ 488 ∷ 24 ∷ 856440 ∷ [])
    ∷ (1760 ∷ 3 ∷ 901120 ∷ 1760 ∷ 0x444F5303 ∷ 880 ∷ 1758 ∷ 1756 ∷ 1 ∷ 512 ∷ 0 ∷ 898560 ∷ [])
    ∷ (3520 ∷ 0 ∷ 1802240 ∷ 3520 ∷ 0x444F5300 ∷ 1760 ∷ 3518 ∷ 3516 ∷ 0 ∷ 488 ∷ 24 ∷ 1715320 ∷ [])
    ∷ (3520 ∷ 1 ∷ 1802240 ∷ 3520 ∷ 0x444F5301 ∷ 1760 ∷ 3518 ∷ 3516 ∷ 0 ∷ 512 ∷ 0 ∷ 1799680 ∷ [])
    ∷ (3520 ∷ 2 ∷ 1802240 ∷ 3520 ∷ 0x444F5302 ∷ 1760 ∷ 3518 ∷ 3516 ∷ 1 ∷ 488 ∷ 24 ∷ 1715320 ∷ [])
    ∷ (3520 ∷ 3 ∷ 1802240 ∷ 3520 ∷ 0x444F5303 ∷ 1760 ∷ 3518 ∷ 3516 ∷ 1 ∷ 512 ∷ 0 ∷ 1799680 ∷ [])
    ∷ []

-- all disks that exist have these numbers
abbrev pub NumeralsHold : Type 0
NumeralsHold = map numerals (of_sizes sizes) ≡ rows
