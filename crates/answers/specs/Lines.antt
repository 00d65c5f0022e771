-- The lines of a text of bytes, counted from 0, and a line copied to an output.
use Rattle.std.specs.Prelude.{ℕ, zero, suc, ◌+◌, ◌≤◌, ◌≡◌, List, [], ◌∷◌, ◌++◌, eqb, length, take, drop}
use Rattle.answers.specs.Tests.{pick}

abbrev pub newline : ℕ
newline = 10

-- the first line: what comes before the first newline
unfoldable pub line : List ℕ → List ℕ
line [] = []
line (b ∷ text) = pick (eqb b newline) [] (b ∷ line text)

-- the text after it
unfoldable pub rest : List ℕ → List ℕ
rest [] = []
rest (b ∷ text) = pick (eqb b newline) text (rest text)

-- the text from line n on
unfoldable pub after : ℕ → List ℕ → List ℕ
after zero text = text
after (suc n) text = after n (rest text)

-- line n, which is empty where there is none
abbrev pub line_of : ℕ → List ℕ → List ℕ
line_of n text = line (after n text)

-- line n begins at byte `at`; there is none if that is the end of the text
pub record BeginsLine (text : List ℕ) (n at : ℕ) : Type 0 where
  pub within : at ≤ length text
  pub same : drop at text ≡ after n text

-- the line that begins at byte `at` ends at byte `end`
pub record EndsLine (text : List ℕ) (at end : ℕ) : Type 0 where
  pub within : end ≤ length text
  pub place : end ≡ at + length (line (drop at text))

-- the output once s is copied to it: the bytes of s that fit, and then what stood there
abbrev pub copied : List ℕ → List ℕ → List ℕ
copied s output = take (length output) s ++ drop (length s) output

-- the promise: the length of line n, and the line copied
pub record PutsLine (text : List ℕ) (n : ℕ) (output : List ℕ) (r : ℕ) (output' : List ℕ) : Type 0 where
  pub answer : r ≡ length (line_of n text)
  pub left : output' ≡ copied (line_of n text) output
