-- The sum of what a function gives for places 4 bytes apart: in parts, bounded, and by eight places in a turn, as
-- `block_sum` takes them. Assumes nothing.
use Rattle.std.proofs.Common.{◌≡◌, ℕ, zero, suc, ◌+◌, ◌*◌, ◌≤◌, refl, add-zero, add-one, arith}
use Rattle.words.specs.Sum.{block_words}
use Rattle.words.specs.Lanes.{eight}

-- how many turns a block has
abbrev pub block_turns : ℕ
block_turns = 16

-- the sum of what f gives for n places from `at` on
unfoldable pub run : (ℕ → ℕ) → ℕ → ℕ → ℕ
run f at zero = 0
run f at (suc n) = run f at n + f (at + 4 * n)

-- what n turns of eight places have added up
unfoldable pub turns : (ℕ → ℕ) → ℕ → ℕ → ℕ
turns f at zero = 0
turns f at (suc n) = turns f at n + eight f (at + 4 * n)

module _ (f : ℕ → ℕ) where
  run_split : (at m n : ℕ) → run f at (m + n) ≡ run f at m + run f (at + 4 * m) n
  unfolding run
  run_split at m zero = rw (add-zero, add-zero)
  run_split at m (suc n) =
      let e : m + suc n ≡ suc (m + n) = omega arith in
      let a : at + 4 * (m + n) ≡ at + 4 * m + 4 * n = omega arith in
      rw (e, run_split at m n, a) (omega arith)

  pub run_below : {most : ℕ} → ((p : ℕ) → f p ≤ most) → (at n : ℕ) → run f at n ≤ n * most
  unfolding run
  run_below h at zero = omega arith
  run_below h at (suc n) = omega (arith, run_below h at n, h (at + 4 * n))

  -- ---- by eight

  pub turns_none : (at : ℕ) → turns f at 0 ≡ 0
  unfolding turns
  turns_none at = refl

  turns_more : (at n : ℕ) → turns f at (n + 1) ≡ turns f at n + eight f (at + 4 * n)
  unfolding turns
  turns_more at n = rw add-one

  -- one turn more
  pub turns_on : (at n : ℕ) {sum r : ℕ} → sum ≡ turns f at n → r ≡ eight f (at + 4 * n)
      → sum + r ≡ turns f at (n + 1)
  turns_on at n p q = rw (turns_more at n, p, q)

  -- n turns have come to n places from each of the eight
  turns_runs : (at n : ℕ)
      → turns f at n ≡ run f at n + run f (at + 64) n + run f (at + 128) n + run f (at + 192) n + run f (at + 256) n
      + run f (at + 320) n + run f (at + 384) n + run f (at + 448) n
  unfolding turns run eight
  turns_runs at zero = refl
  turns_runs at (suc n) =
      let past : (k : ℕ) → at + 4 * n + k ≡ at + k + 4 * n = λ k. omega arith in
      rw (past 64, past 128, past 192, past 256, past 320, past 384, past 448, turns_runs at n) (omega arith)

  -- 16 places, and those after them
  part : (at next n k : ℕ) → next ≡ at + 64 → k ≡ 16 + n → run f at k ≡ run f at 16 + run f next n
  part at next n k p q = rw (p, q) (run_split at 16 n)

  -- the turns of a block take all its places
  pub turns_all : (at : ℕ) → turns f at block_turns ≡ run f at block_words
  turns_all at =
      omega (
        arith,
        turns_runs at block_turns,
        part at (at + 64) 112 128 refl refl,
        part (at + 64) (at + 128) 96 112 (omega arith) refl,
        part (at + 128) (at + 192) 80 96 (omega arith) refl,
        part (at + 192) (at + 256) 64 80 (omega arith) refl,
        part (at + 256) (at + 320) 48 64 (omega arith) refl,
        part (at + 320) (at + 384) 32 48 (omega arith) refl,
        part (at + 384) (at + 448) 16 32 (omega arith) refl,
      )
