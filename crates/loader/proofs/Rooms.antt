-- 41 is given if and only if memory, table or work area is too small. Assumes nothing.
use Rattle.std.specs.Prelude.{Result, Ok, Err}
use Rattle.std.proofs.Common.{◌≡◌, ℕ, ◌<◌, true, false, ltb, ◌⊎◌, ◌↔◌, sym, ap, ◌∙◌, inl, inr, ltb-true, lt-ltb}
use Rattle.answers.specs.Numbers as fault
use Rattle.answers.specs.Tests.{pick}
use Rattle.answers.specs.Refusals.{refusal}
use Rattle.answers.specs.declared.Refusal.{Refusal}
use Rattle.program.proofs.Answers.{not_failed}
use Rattle.loader.specs.Calls.{room_fault}
use Rattle.loader.proofs.Picks.{pick_any, pick_failed, pick_fails}

module _ (t n m r w : ℕ) (f : Refusal) where
  room_there : room_fault t n m r w ≡ Err f → (f ≡ refusal fault.short_room 0) × ((m < n) ⊎ (r < t) ⊎ (w < n))
  room_there h = one (pick_failed (ltb m n) (refusal fault.short_room 0) _ f h)
    where
      three : ((ltb w n ≡ true) × (f ≡ refusal fault.short_room 0))
          ⊎ ((ltb w n ≡ false) × (◌≡◌ {A = Result Unit Refusal} (Ok tt) (Err f)))
          → (f ≡ refusal fault.short_room 0) × ((m < n) ⊎ (r < t) ⊎ (w < n))
      three (inl x) = (x.1, inr (inr (ltb-true w n x.0)))
      three (inr x) = not_failed x.1

      two : ((ltb r t ≡ true) × (f ≡ refusal fault.short_room 0))
          ⊎ ((ltb r t ≡ false)
          × (pick {X = Result Unit Refusal} (ltb w n) (Err (refusal fault.short_room 0)) (Ok tt) ≡ Err f))
          → (f ≡ refusal fault.short_room 0) × ((m < n) ⊎ (r < t) ⊎ (w < n))
      two (inl x) = (x.1, inr (inl (ltb-true r t x.0)))
      two (inr x) = three (pick_failed (ltb w n) (refusal fault.short_room 0) (Ok tt) f x.1)

      one : ((ltb m n ≡ true) × (f ≡ refusal fault.short_room 0))
          ⊎ ((ltb m n ≡ false) × (pick {X = Result Unit Refusal} (ltb r t) (Err (refusal fault.short_room 0))
          (pick (ltb w n) (Err (refusal fault.short_room 0)) (Ok tt)) ≡ Err f))
          → (f ≡ refusal fault.short_room 0) × ((m < n) ⊎ (r < t) ⊎ (w < n))
      one (inl x) = (x.1, inl (ltb-true m n x.0))
      one (inr x) = two (pick_failed (ltb r t) (refusal fault.short_room 0) _ f x.1)

  room_back : (f ≡ refusal fault.short_room 0) × ((m < n) ⊎ (r < t) ⊎ (w < n)) → room_fault t n m r w ≡ Err f
  room_back h = go h.1 ∙ ap Err (sym h.0)
    where
      go : (m < n) ⊎ (r < t) ⊎ (w < n) → room_fault t n m r w ≡ Err (refusal fault.short_room 0)
      go (inl x) = pick_fails _ _ _ (lt-ltb m n x)
      go (inr (inl x)) = pick_any (ltb m n) _ _ (pick_fails _ _ _ (lt-ltb r t x))
      go (inr (inr x)) = pick_any (ltb m n) _ _ (pick_any (ltb r t) _ _ (pick_fails _ _ _ (lt-ltb w n x)))

  pub room_why : (room_fault t n m r w ≡ Err f) ↔ ((f ≡ refusal fault.short_room 0) × ((m < n) ⊎ (r < t) ⊎ (w < n)))
  room_why = (room_there, room_back)
