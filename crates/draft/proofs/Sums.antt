-- A block's sum is mended by what is missing to 2^32. Assumes nothing.
use Rattle.std.proofs.Common.{◌≡◌, ℕ, ◌+◌, ◌-◌, ◌*◌, ◌%◌, ◌^◌, ◌<◌, List, ◌∙◌, arith}
use Rattle.words.specs.Word.{add_at}
use Rattle.words.specs.Sum.{sum_at}
use Rattle.words.proofs.Words.{add_at_mod}
use Rattle.words.proofs.Sums.{sum_at_lt}
use Rattle.writes.specs.Writes.{mended}

pub is_mended : (b r : List ℕ) (j sum m : ℕ) → sum ≡ sum_at b 0 → (m + sum) % 2 ^ 32 ≡ 0 → m < 2 ^ 32
    → r ≡ add_at b (4 * j) m → r ≡ mended j b
unfolding mended
is_mended b r j sum m e f l q =
    q ∙ add_at_mod b (4 * j) m (2 ^ 32 - sum_at b 0) (omega (arith, e, f, l, sum_at_lt b 0))
