-- The sentences of refusals: which numbers have one, how long they are, and what a C program gets of one.
-- Assumes nothing.
use Prim.Native.Nat.{ℕ, ◌≤◌, ◌<◌}
use mathlib.Core.Path.{◌≡◌, refl, sym, ◌∙◌}
use mathlib.Core.Bool.{Bool, true, false, ◌&&◌}
use mathlib.Core.Logic.{inl, inr}
use mathlib.Core.List.{List, [], ◌∷◌, ◌++◌}
use native.Mathlib.Omega.{arith}
use lib.Dec.{T, ltb}
use lib.ListN.{length, take, drop}
use lib.Seq.{take_all, take_at, drop_at}
use borrow.Author.Tests.{ltb-true}
use Rattle.answers.specs.Tests.{pick}
use Rattle.answers.specs.Members.{◌∈◌}
use Rattle.answers.specs.Lines.{line, rest, after}
use Rattle.answers.proofs.Lines.{line_most}
use Rattle.audit.specs.Audits.{audit_refusals}
use Rattle.lookup.specs.Lookup.{find_refusals}
use Rattle.reading.specs.Reads.{read_refusals}
use Rattle.program.specs.Check.{check_refusals}
use Rattle.loader.specs.Calls.{call_refusals}
use Rattle.jufferdeeg.specs.Reasons.{sentences, sentence_of, Reasons}

-- ---- numbers that have a sentence, by computing

abbrev spoken : List ℕ → Bool
spoken [] = true
spoken (n ∷ ns) = ltb 0 (length (sentence_of n)) && spoken ns

has_sentence : (ns : List ℕ) (v : ℕ) → T (spoken ns) → v ∈ ns → 0 < length (sentence_of v)
has_sentence [] v t m = absurd m
has_sentence (n ∷ ns) v t m = go (ltb 0 (length (sentence_of n))) refl t m (has_sentence ns v)
  where
    go : (b : Bool) → ltb 0 (length (sentence_of n)) ≡ b → T (b && spoken ns) → v ∈ (n ∷ ns)
        → (T (spoken ns) → v ∈ ns → 0 < length (sentence_of v)) → 0 < length (sentence_of v)
    go true e t (inl q) more = rw q (ltb-true 0 (length (sentence_of n)) e)
    go true e t (inr q) more = more t q
    go false e t m more = absurd t

-- each refusal of an audit, a lookup, a read, a check, and a load or a move
module _ (v : ℕ) where
  pub audit_spoken : v ∈ audit_refusals → 0 < length (sentence_of v)
  unfolding sentences line rest after pick
  audit_spoken m = has_sentence audit_refusals v tt m

  pub find_spoken : v ∈ find_refusals → 0 < length (sentence_of v)
  unfolding sentences line rest after pick
  find_spoken m = has_sentence find_refusals v tt m

  pub read_spoken : v ∈ read_refusals → 0 < length (sentence_of v)
  unfolding sentences line rest after pick
  read_spoken m = has_sentence read_refusals v tt m

  pub check_spoken : v ∈ check_refusals → 0 < length (sentence_of v)
  unfolding sentences line rest after pick
  check_spoken m = has_sentence check_refusals v tt m

  pub call_spoken : v ∈ call_refusals → 0 < length (sentence_of v)
  unfolding sentences line rest after pick
  call_spoken m = has_sentence call_refusals v tt m

-- ---- how long they are

pub sentence_most : (n : ℕ) → length (sentence_of n) ≤ 128
unfolding sentences pick
sentence_most n = line_most 128 n sentences tt

-- ---- what a call leaves

module _ (n : ℕ) (output : List ℕ) (r : ℕ) (output' : List ℕ) (a : Reasons n output r output') where
  -- where the sentence fits, it stands there whole, and what follows it stays
  pub reason_whole : r ≤ length output → (take r output' ≡ sentence_of n) × (drop r output' ≡ drop r output)
  reason_whole h =
      (rw so (take_at (sentence_of n) _ r (sym a.answer)), rw so (drop_at (sentence_of n) _ r (sym a.answer)))
    where
      fits : take (length output) (sentence_of n) ≡ sentence_of n
      fits = take_all (length output) (sentence_of n) (omega (arith, a.answer))

      so : output' ≡ sentence_of n ++ drop r output
      so = a.left ∙ rw (fits, a.answer)
