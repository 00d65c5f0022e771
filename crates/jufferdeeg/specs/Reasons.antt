-- The sentence of a refusal's number as C meets it: a line of the constant `SENTENCES` of `answers::sentences`.
use Rattle.std.specs.Prelude.{ℕ, List}
use Rattle.answers.specs.Lines.{line_of, PutsLine}
use Rattle.answers.specs.declared.sentences.TheConstants.{SENTENCES}

-- the bytes of the constant
unfoldable pub sentences : List ℕ
sentences = SENTENCES

-- the sentence of number n, which is empty where there is none
abbrev pub sentence_of : ℕ → List ℕ
sentence_of n = line_of n sentences

-- ---- the promise: the sentence's length, and the sentence copied as far as it fits

abbrev pub Reasons : ℕ → List ℕ → ℕ → List ℕ → Type 0
Reasons n output r output' = PutsLine sentences n output r output'
