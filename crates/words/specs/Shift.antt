-- Relocation: amounts are added, modulo 2^32, to words of a list of bytes (docs/FORMAT.md, "The program file").
use Rattle.std.specs.Prelude.{ℕ, List, [], ◌∷◌}
use Rattle.words.specs.Word.{add_at}

-- a word to add to: its first byte, the number of the amount that it gets, and the byte of the file that names it
pub record Target : Type 0 where
  pub loaded_at : ℕ
  pub key : ℕ
  pub byte : ℕ

-- each target gets its amount, one after the other
unfoldable pub shift_all : List ℕ → List Target → (ℕ → ℕ) → List ℕ
shift_all m [] f = m
shift_all m (t ∷ ts) f = shift_all (add_at m t.loaded_at (f t.key)) ts f
