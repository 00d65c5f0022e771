-- What a choice between a fault and the next test says, and the other way. Assumes nothing.
use Rattle.std.specs.Prelude.{Result, Err}
use Rattle.std.proofs.Common.{◌≡◌, Bool, true, false, ◌⊎◌, refl, inl, inr}
use Rattle.answers.specs.Tests.{pick}
use Rattle.answers.specs.declared.Refusal.{Refusal}
use Rattle.loader.proofs.Marking.{no_bool}

pub pick_failed : (b : Bool) (g : Refusal) (h : Result Unit Refusal) (f : Refusal) → pick b (Err g) h ≡ Err f
    → ((b ≡ true) × (f ≡ g)) ⊎ ((b ≡ false) × (h ≡ Err f))
unfolding pick
pick_failed true g h f e = let q : f ≡ g = cc in inl (refl, q)
pick_failed false g h f e = inr (refl, e)

pub pick_fails : (b : Bool) (f : Refusal) (h : Result Unit Refusal) → b ≡ true → pick b (Err f) h ≡ Err f
unfolding pick
pick_fails b f h e = rw e

pub pick_goes : (b : Bool) (g : Refusal) (h k : Result Unit Refusal) → b ≡ false → h ≡ k → pick b (Err g) h ≡ k
unfolding pick
pick_goes b g h k e q = rw e q

pub pick_or : (b c : Bool) → pick b true c ≡ true → (b ≡ true) ⊎ (c ≡ true)
unfolding pick
pick_or true c h = inl refl
pick_or false c h = inr h

pub or_left : (b c : Bool) → b ≡ true → pick b true c ≡ true
unfolding pick
or_left b c h = rw h

pub or_right : (b c : Bool) → c ≡ true → pick b true c ≡ true
unfolding pick
or_right true c h = refl
or_right false c h = h

pub pick_and : (b c : Bool) → pick b c false ≡ true → (b ≡ true) × (c ≡ true)
unfolding pick
pick_and true c h = (refl, h)
pick_and false c h = no_bool h

pub pick_any : (b : Bool) (f : Refusal) (h : Result Unit Refusal) → h ≡ Err f → pick b (Err f) h ≡ Err f
unfolding pick
pick_any true f h e = refl
pick_any false f h e = e

pub pick_else : (b : Bool) (h : Result Unit Refusal) (g f : Refusal) → pick b h (Err g) ≡ Err f
    → ((b ≡ true) × (h ≡ Err f)) ⊎ ((b ≡ false) × (f ≡ g))
unfolding pick
pick_else true h g f e = inl (refl, e)
pick_else false h g f e = let q : f ≡ g = cc in inr (refl, q)
