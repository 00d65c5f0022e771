-- The answer of a load and of a move as numbers: which numbers a refusal has, and that 0 is no refusal. Assumes
-- nothing.
use Rattle.std.specs.Prelude.{Ok, Err}
use Rattle.std.proofs.Common.{◌≡◌, ℕ, ◌↔◌, List, [], ◌∷◌, length, sym, ◌∙◌, inl, inr}
use Rattle.answers.specs.Numbers as fault
use Rattle.answers.specs.Members.{◌∈◌}
use Rattle.answers.specs.declared.Refusal.{Refusal}
use Rattle.answers.proofs.Members.{listed, in_part}
use Rattle.program.specs.Check.{Answer, numbers_of, check_refusals}
use Rattle.program.proofs.AsNumbers.{Refuses, check_number, zero_accepts}
use Rattle.loader.specs.Calls.{call_refusals, load_answer, move_answer, records_in, Loads, Moves}
use Rattle.loader.specs.Verdicts.{Accepts, CallWhy}
use Rattle.loader.proofs.PageVerdicts.{load_refused, move_refused}

-- the number of a refused call is one of these
call_number : (file : List ℕ) (lists : List (List ℕ)) (m r w : ℕ) (f : Refusal) → CallWhy file lists m r w f
    → f.number ∈ call_refusals
call_number file lists m r w f (inl x) = in_part check_refusals call_refusals f.number tt (check_number file f x)
call_number file lists m r w f (inr (hs, h, p, inl (e, y))) = rw e (listed call_refusals fault.bad_base tt)
call_number file lists m r w f (inr (hs, h, p, inr (inl (e, y)))) = rw e (listed call_refusals fault.short_room tt)
call_number file lists m r w f (inr (hs, h, p, inr (inr (e, y)))) = rw e (listed call_refusals fault.near_targets tt)

module _ (file : List ℕ) (m r w : ℕ) (f : Refusal) where
  pub load_number : (bases : List ℕ) → load_answer file bases m r w ≡ Err f → f.number ∈ call_refusals
  load_number bases h = call_number file (bases ∷ []) m r w f ((load_refused file bases m r w f).0 h)

  pub move_number : (old new : List ℕ) → move_answer file old new m r w ≡ Err f → f.number ∈ call_refusals
  move_number old new h = call_number file (old ∷ new ∷ []) m r w f ((move_refused file old new m r w f).0 h)

-- an answer whose refusals are listed
refuses : (a r : Answer) → r ≡ a → ((f : Refusal) → a ≡ Err f → f.number ∈ call_refusals) → Refuses call_refusals r
refuses a (Ok v) e h = tt
refuses a (Err f) e h = h f (sym e)

module _ (file m : List ℕ) (k : ℕ) (w : List ℕ) (r : Answer) where
  -- of tables of k records
  pub load_zero : (bases : List ℕ) → r ≡ load_answer file bases (length m) k (length w)
      → ((numbers_of r).number ≡ 0) ↔ Accepts r
  load_zero bases e =
      zero_accepts call_refusals tt r (refuses _ r e (λ f. load_number file (length m) k (length w) f bases))

  pub move_zero : (old new : List ℕ) → r ≡ move_answer file old new (length m) k (length w)
      → ((numbers_of r).number ≡ 0) ↔ Accepts r
  move_zero old new e =
      zero_accepts call_refusals tt r (refuses _ r e (λ f. move_number file (length m) k (length w) f old new))

module _ (file m t w : List ℕ) (r : Answer) (m1 t1 w1 : List ℕ) where
  pub load_listed : (bases : List ℕ) → Loads file bases m t w r m1 t1 w1 → (f : Refusal) → r ≡ Err f
      → (numbers_of r).number ∈ call_refusals
  load_listed bases l f e = rw e (load_number file (length m) (records_in t) (length w) f bases (sym l.answer ∙ e))

  -- the number is 0 if and only if the load is accepted
  pub load_zero_exactly : (bases : List ℕ) → Loads file bases m t w r m1 t1 w1 → ((numbers_of r).number ≡ 0) ↔ Accepts r
  load_zero_exactly bases l = load_zero file m (records_in t) w r bases l.answer

  pub move_listed : (old new : List ℕ) → Moves file old new m t w r m1 t1 w1 → (f : Refusal) → r ≡ Err f
      → (numbers_of r).number ∈ call_refusals
  move_listed old new l f e =
      rw e (move_number file (length m) (records_in t) (length w) f old new (sym l.answer ∙ e))

  -- and so of a move
  pub move_zero_exactly : (old new : List ℕ) → Moves file old new m t w r m1 t1 w1
      → ((numbers_of r).number ≡ 0) ↔ Accepts r
  move_zero_exactly old new l = move_zero file m (records_in t) w r old new l.answer
