-- An answer as numbers (docs/FORMAT.md, "Numbers"): a number, a place, and the values of the call.
use Rattle.std.specs.Prelude.{ℕ}
use Rattle.answers.specs.declared.Refusal.{Refusal}

pub record AnswerNumbers (A : Type 0) : Type 0 where
  pub number : ℕ
  pub place : ℕ
  pub values : A

-- accepted: 0, 0 and the values
abbrev pub accepted_as : {A : Type 0} → A → AnswerNumbers A
accepted_as v = record { number = 0; place = 0; values = v }

-- refused: the refusal's number and place, and values that are all 0
abbrev pub refused_as : {A : Type 0} → A → Refusal → AnswerNumbers A
refused_as zeros r = record { number = r.number; place = r.place; values = zeros }
