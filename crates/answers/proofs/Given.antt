-- Which numbers a list of tests gives: 0, or one of a list (`search given`). Assumes nothing.
use Prim.Native.Nat.{ℕ, zero, suc}
use mathlib.Core.Path.{refl}
use mathlib.Core.Logic.{◌≢◌, inl, inr}
use mathlib.Core.Bool.{Bool, true, false}
use mathlib.Core.List.{List, [], ◌∷◌}
use lib.Dec.{T}
use Rattle.answers.specs.Tests.{pick, must, never, first, tests}
use Rattle.answers.specs.Members.{◌∈◌, has}
use Rattle.answers.proofs.Members.{part, listed, in_part}

pub record Given (ns : List ℕ) (v : ℕ) : Type 0 where
  pub member : v ≢ 0 → v ∈ ns

module _ {ns : List ℕ} where
  pub none : Given ns 0
  none = record { member = λ h. absurd (h refl) }

  pub some : (v : ℕ) → T (has ns v) → Given ns v
  some v p = record { member = λ h. listed ns v p }

  pub must_given : (v : ℕ) → T (has ns v) → (t : Bool) → Given ns (must t v)
  unfolding must
  must_given v p true = none
  must_given v p false = some v p

  pub never_given : (v : ℕ) → T (has ns v) → (t : Bool) → Given ns (never t v)
  unfolding never
  never_given v p true = some v p
  never_given v p false = none

  pub pick_given : (t : Bool) (x y : ℕ) → Given ns x → Given ns y → Given ns (pick t x y)
  unfolding pick
  pick_given true x y p q = p
  pick_given false x y p q = q

  pub first_given : (x y : ℕ) → Given ns x → Given ns y → Given ns (first x y)
  unfolding first
  first_given zero y p q = q
  first_given (suc x) y p q = p

  pub tests_given : (xs : List ℕ) → ((x : ℕ) → x ∈ xs → Given ns x) → Given ns (tests xs)
  tests_given [] h = none
  tests_given (x ∷ xs) h = first_given x (tests xs) (h x (inl refl)) (tests_given xs (λ y m. h y (inr m)))

  -- what is given of some is given of more
  pub more_given : (ms : List ℕ) (v : ℕ) → T (part ms ns) → Given ms v → Given ns v
  more_given ms v p g = record { member = λ h. in_part ms ns v p (g.member h) }

pub ruleset given = (tt, none, some, must_given, never_given, pick_given, first_given)
