-- Tests that come one after the other: which of them refuses. Assumes nothing.
use Rattle.std.specs.Prelude.{Result, Ok, Err}
use Rattle.std.proofs.Common.{◌≡◌, ℕ, ◌⊎◌, List, refl, ap, inl, inr}
use Rattle.answers.specs.declared.Refusal.{Refusal}
use Rattle.program.specs.Check.{Answer, accepted}
use Rattle.program.specs.Header.{total_of}
use Rattle.program.proofs.Answers.{not_refused}
use Rattle.loader.specs.Memory.{loaded_of}
use Rattle.loader.specs.Near.{clash_of}
use Rattle.loader.specs.Calls.{room_fault, also, last_tests}
use Rattle.loader.specs.Verdicts.{Accepts}
use Rattle.loader.proofs.Answering.{also_so, also_both}

pub also_refused : (a : Answer) (h : Result Unit Refusal) (f : Refusal) → also a h ≡ Err f
    → (a ≡ Err f) ⊎ (((t : ℕ) × (n : ℕ) × (a ≡ accepted t n)) × (h ≡ Err f))
also_refused (Ok v) (Ok u) f e = not_refused e
also_refused (Ok v) (Err r) f e = let q : r ≡ f = cc in inr ((v.hunks, v.bytes, refl), ap Err q)
also_refused (Err r) h f e = inl e

pub also_stays : (a : Answer) (h : Result Unit Refusal) (f : Refusal) → a ≡ Err f → also a h ≡ Err f
also_stays a h f e = rw e

pub also_fails : (a : Answer) (h : Result Unit Refusal) (t n : ℕ) (f : Refusal) → a ≡ accepted t n → h ≡ Err f
    → also a h ≡ Err f
also_fails a h t n f x y = rw (x, y)

pub accepts_both : (a : Answer) (h : Result Unit Refusal) → Accepts a → h ≡ Ok tt → Accepts (also a h)
accepts_both a h x y = (x.0, x.1, also_both a h x.0 x.1 x.2 y)

-- room and near targets
abbrev pub LastWhy : List ℕ → Answer → ℕ → ℕ → ℕ → Refusal → Type 0
LastWhy file a m r w f =
    (a ≡ Err f)
    ⊎ (Accepts a × (room_fault (total_of file) (loaded_of file) m r w ≡ Err f))
    ⊎ (Accepts a × (room_fault (total_of file) (loaded_of file) m r w ≡ Ok tt) × (clash_of file ≡ Err f))

module _ (file : List ℕ) (m r w : ℕ) (f : Refusal) where
  pub last_why : (a : Answer) → last_tests file a m r w ≡ Err f → LastWhy file a m r w f
  last_why a h = go (also_refused (also a (room_fault (total_of file) (loaded_of file) m r w)) (clash_of file) f h)
    where
      two : (a ≡ Err f) ⊎ (Accepts a × (room_fault (total_of file) (loaded_of file) m r w ≡ Err f))
          → LastWhy file a m r w f
      two (inl x) = inl x
      two (inr y) = inr (inl y)

      go : (also a (room_fault (total_of file) (loaded_of file) m r w) ≡ Err f)
          ⊎ (Accepts (also a (room_fault (total_of file) (loaded_of file) m r w)) × (clash_of file ≡ Err f))
          → LastWhy file a m r w f
      go (inl x) = two (also_refused a (room_fault (total_of file) (loaded_of file) m r w) f x)
      go (inr y) =
          let s = also_so a (room_fault (total_of file) (loaded_of file) m r w) y.0.0 y.0.1 y.0.2 in
          inr (inr ((y.0.0, y.0.1, s.0), s.1, y.1))

  pub last_then : (a : Answer) → LastWhy file a m r w f → last_tests file a m r w ≡ Err f
  last_then a (inl x) = also_stays _ (clash_of file) f (also_stays a _ f x)
  last_then a (inr (inl y)) = also_stays _ (clash_of file) f (also_fails a _ y.0.0 y.0.1 f y.0.2 y.1)
  last_then a (inr (inr y)) =
      let s = accepts_both a (room_fault (total_of file) (loaded_of file) m r w) y.0 y.1 in
      also_fails _ (clash_of file) s.0 s.1 f s.2 y.2

-- what accepts so far, with one more list of bases
pub accepts_so : (a : Answer) (h : Result Unit Refusal) → Accepts (also a h) → Accepts a × (h ≡ Ok tt)
accepts_so a h x = let s = also_so a h x.0 x.1 x.2 in ((x.0, x.1, s.0), s.1)
