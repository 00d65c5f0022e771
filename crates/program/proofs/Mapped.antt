-- A test whose fault `map_err` turns into another value: what its exits say of the test. Assumes nothing.
use mathlib.Core.Path.{◌≡◌, refl, sym, ap, subst, ◌∙◌}
use Rattle.std.specs.Prelude.{Result, Ok, Err, IsErrAnd, MatchResult}
use Rattle.std.proofs.lemmas.Result.{err_from_is_err_and}
use Rattle.answers.proofs.Clashes.{impossible}

-- s is the test, and m what is made of it
module _ {X E D : Type 0} (Q : E → D → Type 0) (m : Result X D) where
  pub mapped_ok : (s : Result X E) {x : X} → MatchResult s (λ y. m ≡ Ok y) (λ e. IsErrAnd m (Q e)) → m ≡ Ok x
      → s ≡ Ok x
  mapped_ok (Ok y) {x} h e = let p : y ≡ x = cc in ap Ok p
  mapped_ok (Err f) h e = let p = err_from_is_err_and m h in let q = sym p.1 ∙ e in impossible cc

  pub mapped_err : (s : Result X E) {r : D} → MatchResult s (λ y. m ≡ Ok y) (λ e. IsErrAnd m (Q e)) → m ≡ Err r
      → (f : E) × (s ≡ Err f) × Q f r
  mapped_err (Ok y) h e = let q = sym h ∙ e in impossible cc
  mapped_err (Err f) {r} h e =
      let p = err_from_is_err_and m h in
      let q : p.0 ≡ r = cc in
      (f, refl, subst (Q f) q p.2)
