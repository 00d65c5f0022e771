-- The answer of a check as numbers: which numbers a refusal has, and that 0 is no refusal. Assumes nothing.
use Prim.Native.Nat.{ℕ, zero, suc, ◌+◌, ◌*◌}
use mathlib.Core.Path.{◌≡◌, refl, sym, ap, subst, ◌∙◌}
use mathlib.Core.List.{List, [], ◌∷◌}
use mathlib.Core.Bool.{Bool, true, false, not}
use mathlib.Core.Logic.{◌↔◌}
use native.Mathlib.Omega.{arith}
use lib.Dec.{T}
use Rattle.std.specs.Prelude.{Result, Ok, Err}
use Rattle.answers.specs.Numbers as fault
use Rattle.words.specs.Word.{word_at}
use Rattle.answers.specs.Tests.{pick}
use Rattle.answers.specs.Members.{◌∈◌, has}
use Rattle.answers.specs.declared.Refusal.{Refusal}
use Rattle.answers.proofs.Members.{listed, unlisted}
use Rattle.answers.proofs.Given.{Given, given}
use Rattle.answers.proofs.Clashes.{impossible}
use Rattle.program.specs.Spaces.{Space}
use Rattle.program.specs.declared.reader.Cursor.{Cursor}
use Rattle.program.specs.declared.reader.Mode.{Mode}
use Rattle.program.specs.declared.reader.Mode.TheVariants as mode
use Rattle.program.specs.Header.{total_of, head_fault, judge, heads}
use Rattle.program.specs.Reader.{Next, body_of, turn, step_of}
use Rattle.program.specs.Check.{Answer, accepted, numbers_of, check_refusals, ended_of, next, walk, and, check_of}
use Rattle.program.specs.Check.{Checks}

-- ---- a promise is an answer

pub checks : (file : List ℕ) (r : Answer) → r ≡ check_of file → Checks file r
checks file r e = record { answer = e; numbers = ap numbers_of e }

-- ---- the numbers of a list of tests, of an answer, and of a step

-- an answer accepts, or has a number of ns
abbrev pub Refuses : List ℕ → Answer → Type 0
Refuses ns (Ok v) = Unit
Refuses ns (Err r) = r.number ∈ ns

-- tests pass, or fail with one
abbrev pub Fails : List ℕ → Result Unit Refusal → Type 0
Fails ns (Ok u) = Unit
Fails ns (Err r) = r.number ∈ ns

abbrev Steps : Next → Type 0
Steps (Ok d) = Unit
Steps (Err v) = v ∈ check_refusals

abbrev Answers : Answer → Type 0
Answers a = Refuses check_refusals a

abbrev Tests : Result Unit Refusal → Type 0
Tests h = Fails check_refusals h

one : (v : ℕ) → T (has check_refusals v) → v ∈ check_refusals
one v h = listed check_refusals v h

either : {X : Type 0} (P : X → Type 0) (b : Bool) (x y : X) → P x → P y → P (pick b x y)
unfolding pick
either P true x y p q = p
either P false x y p q = q

body_steps : (c : Cursor) (w : ℕ) → Steps (body_of c w)
body_steps c w = either Steps _ _ _ tt (either Steps _ _ _ tt (either Steps _ _ _ tt (one fault.misplaced_block tt)))

module _ (t : ℕ) (space : ℕ → Space) where
  turn_steps : (c : Cursor) (w : ℕ) (m : Mode) → Steps (turn t space c w m)
  turn_steps c w mode.Begin = either Steps _ _ _ tt (body_steps c w)
  turn_steps c w mode.NameLength = either Steps _ _ _ tt tt
  turn_steps c w mode.Body = body_steps c w
  turn_steps c w (mode.Length kind) = either Steps _ _ _ (one fault.body_length tt) (either Steps _ _ _ tt tt)
  turn_steps c w (mode.Stored i) = either Steps _ _ _ tt tt
  turn_steps c w mode.Part =
      either Steps _ _ _ tt (either Steps _ _ _ tt
      (either Steps _ _ _ tt (either Steps _ _ _ tt (one fault.misplaced_block tt))))
  turn_steps c w mode.Count = either Steps _ _ _ tt tt
  turn_steps c w (mode.Number n) = either Steps _ _ _ tt (one fault.bad_target tt)
  turn_steps c w (mode.Offset n k) =
      either Steps _ _ _ (either Steps _ _ _ (one fault.bad_target tt) (either Steps _ _ _ tt tt))
      (one fault.bad_target tt)
  turn_steps c w mode.Symbol = either Steps _ _ _ tt (either Steps _ _ _ (one fault.symbol_type tt) tt)
  turn_steps c w mode.DebugLength = either Steps _ _ _ tt tt
  turn_steps c w (mode.Skip n a) = either Steps _ _ _ tt tt
  turn_steps c w mode.End = one fault.trailing_words tt

  ended_answers : (end : ℕ) (c : Cursor) (m : Mode) → Answers (ended_of end c m)
  ended_answers end c mode.Begin = one fault.early_end tt
  ended_answers end c mode.NameLength = one fault.early_end tt
  ended_answers end c mode.Body = one fault.early_end tt
  ended_answers end c (mode.Length k) = one fault.early_end tt
  ended_answers end c (mode.Stored i) = one fault.early_end tt
  ended_answers end c mode.Part = one fault.early_end tt
  ended_answers end c mode.Count = one fault.early_end tt
  ended_answers end c (mode.Number n) = one fault.early_end tt
  ended_answers end c (mode.Offset n k) = one fault.early_end tt
  ended_answers end c mode.Symbol = one fault.early_end tt
  ended_answers end c mode.DebugLength = one fault.early_end tt
  ended_answers end c (mode.Skip n a) = one fault.early_end tt
  ended_answers end c mode.End = tt

  next_answers : (r : Next) (at : ℕ) (f : Cursor → Answer) → Steps r → ((d : Cursor) → Answers (f d))
      → Answers (next r at f)
  next_answers (Ok d) at f h g = g d
  next_answers (Err v) at f h g = h

  walk_answers : (end at : ℕ) (c : Cursor) (ws : List ℕ) → Answers (walk t space end at c ws)
  unfolding walk step_of
  walk_answers end at c [] = ended_answers end c c.mode
  walk_answers end at c (w ∷ ws) =
      next_answers (step_of t space c w) at _ (turn_steps c w c.mode) (λ d. walk_answers end (at + 4) d ws)

-- ---- the header

head_given : (t i w : ℕ) → Given check_refusals (head_fault t i w)
head_given t i w = search given depth 16

judge_tests : (e at : ℕ) (h : Result Unit Refusal) → Given check_refusals e → Tests h → Tests (judge e at h)
judge_tests zero at h p q = q
judge_tests (suc e) at h p q = p.member (λ z. omega arith)

heads_tests : (file : List ℕ) (i n : ℕ) → Tests (heads file i n)
unfolding heads
heads_tests file i zero = tt
heads_tests file i (suc n) =
    either Tests _ _ _ (one fault.early_end tt)
    (judge_tests (head_fault (total_of file) i (word_at file (4 * i))) (4 * i) _
    (head_given (total_of file) i (word_at file (4 * i))) (heads_tests file (i + 1) n))

and_answers : (h : Result Unit Refusal) (a : Answer) → Tests h → Answers a → Answers (and h a)
and_answers (Ok u) a p q = q
and_answers (Err r) a p q = p

-- ---- the whole check

-- it accepts, or refuses with one of these
pub check_refuses : (file : List ℕ) → Refuses check_refusals (check_of file)
unfolding check_of
check_refuses file =
    either Answers _ _ _ (one fault.file_length tt)
    (either Answers _ _ _
    (and_answers (heads file 0 5) _ (heads_tests file 0 5)
    (and_answers (heads file 5 (total_of file)) _ (heads_tests file 5 (total_of file)) (walk_answers _ _ _ _ _ _)))
    (one fault.file_length tt))

pub check_number : (file : List ℕ) (f : Refusal) → check_of file ≡ Err f → f.number ∈ check_refusals
check_number file f e = subst Answers e (check_refuses file)

-- an answer with a number of ns, where 0 is none of them: it is 0 if and only if the answer accepts
pub zero_accepts : (ns : List ℕ) → T (not (has ns 0)) → (r : Answer) → Refuses ns r
    → ((numbers_of r).number ≡ 0) ↔ ((t : ℕ) × (n : ℕ) × (r ≡ accepted t n))
zero_accepts ns z (Ok v) h = (λ _. (v.hunks, v.bytes, refl), λ _. refl)
zero_accepts ns z (Err x) h = (λ e. unlisted ns x.number 0 z h e, λ q. impossible cc)

module _ (file : List ℕ) (r : Answer) (a : Checks file r) where
  -- a refusal's number is one of these
  pub number_listed : (x : Refusal) → r ≡ Err x → (numbers_of r).number ∈ check_refusals
  number_listed x e = rw e (check_number file x (sym a.answer ∙ e))

  -- the number is 0 if and only if the check accepts
  pub zero_exactly : ((numbers_of r).number ≡ 0) ↔ ((t : ℕ) × (n : ℕ) × (r ≡ accepted t n))
  zero_exactly = zero_accepts check_refusals tt r (subst Answers (sym a.answer) (check_refuses file))
