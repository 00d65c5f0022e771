-- The steps of a pass over a program file: stored words come in runs, and words that ask for nothing may be left out.
use Rattle.std.specs.Prelude.{◌≡◌, ℕ, ◌+◌, ◌*◌, ◌≤◌, List, [], ◌∷◌, ◌++◌, length, Option, MatchOption}
use Rattle.words.specs.Word.{words_at}
use Rattle.program.specs.declared.act.Act.{Act}
use Rattle.program.specs.declared.act.Act.TheVariants as act
use Rattle.program.specs.declared.reader.Cursor.{Cursor}
use Rattle.program.specs.Header.{total_of}
use Rattle.program.specs.Acts.{acts_from}
use Rattle.program.specs.Runs.{Reads}
use Rattle.loader.specs.declared.steps.Step.{Step}
use Rattle.loader.specs.declared.steps.Step.TheVariants as step
use Rattle.loader.specs.declared.steps.Pass.{Pass}
use Rattle.loader.specs.Memory.{loaded_of}
use Rattle.loader.specs.Parts.{ActFits}

-- words to store one after the other, the first at p
abbrev pub stores : ℕ → List ℕ → List Act
stores p [] = []
stores p (w ∷ ws) = act.Store p w ∷ stores (p + 4) ws

-- the acts of a step
abbrev pub spelled : List ℕ → Step → List Act
spelled file (step.Act a) = a ∷ []
spelled file (step.Words p at n) = stores p (words_at file at n)

-- the acts that ask for something
abbrev pub asked : List Act → List Act
asked [] = []
asked (act.Quiet ∷ us) = asked us
asked (act.Body h p k ∷ us) = act.Body h p k ∷ asked us
asked (act.Store p w ∷ us) = act.Store p w ∷ asked us
asked (act.Add p k b ∷ us) = act.Add p k b ∷ asked us

-- those that are left
abbrev pub left : Pass → List Act
left s = asked (acts_from s.file.now s.at s.cursor)

-- from the cursor c at byte `at` to the cursor d at byte `to` nothing is asked for
pub record Quietly (file : List ℕ) (c : Cursor) (at : ℕ) (d : Cursor) (to : ℕ) : Type 0 where
  pub reads : Reads file d to
  pub far : at ≤ to
  pub same : asked (acts_from file at c) ≡ asked (acts_from file to d)

-- an act that stores nothing
abbrev pub Unstored : Act → Type 0
Unstored act.Quiet = Unit
Unstored (act.Body h p k) = Unit
Unstored (act.Store p w) = ⊥
Unstored (act.Add p k b) = Unit

-- what a step asks lies in the file, and in the bytes that its hunks take
abbrev pub StepFits : List ℕ → Step → Type 0
StepFits file (step.Act a) = ActFits (loaded_of file) (total_of file) a × Unstored a
StepFits file (step.Words p at n) = (p + 4 * n ≤ loaded_of file) × (at + 4 * n ≤ length file)

-- one step from s to t; or there is no more
pub record Gives (s : Pass) (r : Option Step) (t : Pass) : Type 0 where
  pub same : t.file.now ≡ s.file.now
  pub steps : MatchOption r (left s ≡ [])
      (λ x. (left s ≡ asked (spelled s.file.now x) ++ left t) × StepFits s.file.now x)
