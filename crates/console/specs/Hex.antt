-- Digits in hex, as ASCII.
use Rattle.std.specs.Prelude.{ℕ, ◌+◌, ◌/◌, ◌%◌, cond, List, [], ◌∷◌, ltb}

-- a digit below 16: `0` to `9`, then `A` to `F`
abbrev pub glyph : ℕ → ℕ
glyph d = cond (ltb d 10) (48 + d) (55 + d)

-- the lowest digit of w
abbrev pub lowest : ℕ → ℕ
lowest w = glyph (w % 16)

-- the eight digits of a word, and the end of the line
abbrev pub line_of : ℕ → List ℕ
line_of w =
    lowest (w / 268435456)
    ∷ lowest (w / 16777216)
    ∷ lowest (w / 1048576)
    ∷ lowest (w / 65536)
    ∷ lowest (w / 4096)
    ∷ lowest (w / 256)
    ∷ lowest (w / 16)
    ∷ lowest w
    ∷ 10
    ∷ []
