-- A call that is lent lists of bases, a load one and a move two: its tests in their order, said once for any number
-- of lists. Assumes nothing.
use Rattle.std.specs.Prelude.{Ok, Err}
use Rattle.std.proofs.Common.{◌≡◌, ℕ, ◌+◌, ◌⊎◌, ◌↔◌, List, [], ◌∷◌, refl, ap, inl, inr, arith}
use Rattle.answers.specs.declared.Refusal.{Refusal}
use Rattle.program.specs.Header.{total_of}
use Rattle.program.specs.Check.{Answer, accepted, check_of}
use Rattle.loader.specs.Memory.{loaded_of}
use Rattle.loader.specs.Bases.{bases_fault}
use Rattle.loader.specs.Near.{clash_of}
use Rattle.loader.specs.Calls.{room_fault, also, last_tests, load_answer, move_answer}
use Rattle.loader.specs.Verdicts.{Accepts}
use Rattle.loader.proofs.Answering.{also_so, also_both}
use Rattle.loader.proofs.Refusing.{LastWhy, also_refused, also_stays, also_fails, accepts_so, accepts_both}
use Rattle.loader.proofs.Refusing.{last_why, last_then}

module _ (file : List ℕ) where
  -- what is accepted so far, and the lists, the first of which counts from `from`
  abbrev pub lists_answer : Answer → ℕ → List (List ℕ) → Answer
  lists_answer a from [] = a
  lists_answer a from (l ∷ ls) = lists_answer (also a (bases_fault file l from)) (from + total_of file) ls

  -- all lists pass
  abbrev pub AllPass : ℕ → List (List ℕ) → Type 0
  AllPass from [] = Unit {0}
  AllPass from (l ∷ ls) = (bases_fault file l from ≡ Ok tt) × AllPass (from + total_of file) ls

  -- one fails, and those before it pass
  abbrev pub FirstFails : ℕ → List (List ℕ) → Refusal → Type 0
  FirstFails from [] f = ⊥
  FirstFails from (l ∷ ls) f =
      (bases_fault file l from ≡ Err f)
      ⊎ ((bases_fault file l from ≡ Ok tt) × FirstFails (from + total_of file) ls f)

  lists_pass : (t n : ℕ) (a : Answer) (from : ℕ) (ls : List (List ℕ)) → lists_answer a from ls ≡ accepted t n
      → (a ≡ accepted t n) × AllPass from ls
  lists_pass t n a from [] h = (h, tt)
  lists_pass t n a from (l ∷ ls) h =
      let x = lists_pass t n (also a (bases_fault file l from)) (from + total_of file) ls h in
      let y = also_so a (bases_fault file l from) t n x.0 in
      (y.0, (y.1, x.1))

  pass_lists : (t n : ℕ) (a : Answer) (from : ℕ) (ls : List (List ℕ)) → a ≡ accepted t n → AllPass from ls
      → lists_answer a from ls ≡ accepted t n
  pass_lists t n a from [] h g = h
  pass_lists t n a from (l ∷ ls) h g =
      pass_lists t n (also a (bases_fault file l from)) (from + total_of file) ls
      (also_both a (bases_fault file l from) t n h g.0) g.1

  lists_why : (f : Refusal) (a : Answer) (from : ℕ) (ls : List (List ℕ)) → lists_answer a from ls ≡ Err f
      → (a ≡ Err f) ⊎ (Accepts a × FirstFails from ls f)
  lists_why f a from [] h = inl h
  lists_why f a from (l ∷ ls) h = go (lists_why f (also a (bases_fault file l from)) (from + total_of file) ls h)
    where
      one : (a ≡ Err f) ⊎ (Accepts a × (bases_fault file l from ≡ Err f))
          → (a ≡ Err f) ⊎ (Accepts a × FirstFails from (l ∷ ls) f)
      one (inl x) = inl x
      one (inr x) = inr (x.0, inl x.1)

      go : (also a (bases_fault file l from) ≡ Err f)
          ⊎ (Accepts (also a (bases_fault file l from)) × FirstFails (from + total_of file) ls f)
          → (a ≡ Err f) ⊎ (Accepts a × FirstFails from (l ∷ ls) f)
      go (inl x) = one (also_refused a (bases_fault file l from) f x)
      go (inr x) = let y = accepts_so a (bases_fault file l from) x.0 in inr (y.0, inr (y.1, x.1))

  refused_lists : (f : Refusal) (a : Answer) (from : ℕ) (ls : List (List ℕ)) → a ≡ Err f
      → lists_answer a from ls ≡ Err f
  refused_lists f a from [] h = h
  refused_lists f a from (l ∷ ls) h =
      refused_lists f (also a (bases_fault file l from)) (from + total_of file) ls
      (also_stays a (bases_fault file l from) f h)

  fails_lists : (f : Refusal) (a : Answer) (from : ℕ) (ls : List (List ℕ)) → Accepts a → FirstFails from ls f
      → lists_answer a from ls ≡ Err f
  fails_lists f a from [] h g = absurd g
  fails_lists f a from (l ∷ ls) h (inl g) =
      refused_lists f (also a (bases_fault file l from)) (from + total_of file) ls
      (also_fails a (bases_fault file l from) h.0 h.1 f h.2 g)
  fails_lists f a from (l ∷ ls) h (inr g) =
      fails_lists f (also a (bases_fault file l from)) (from + total_of file) ls
      (accepts_both a (bases_fault file l from) h g.0) g.1

  -- ---- the whole call

  module _ (lists : List (List ℕ)) (m r w : ℕ) where
    abbrev pub call_answer : Answer
    call_answer = last_tests file (lists_answer (check_of file) 0 lists) m r w

    -- accepted: every test passes
    pub call_passes : (t n : ℕ)
        → (call_answer ≡ accepted t n)
        ↔ ((check_of file ≡ accepted t n) × AllPass 0 lists
        × (room_fault (total_of file) (loaded_of file) m r w ≡ Ok tt) × (clash_of file ≡ Ok tt))
    call_passes t n = (there, back)
      where
        there : call_answer ≡ accepted t n
            → (check_of file ≡ accepted t n) × AllPass 0 lists
            × (room_fault (total_of file) (loaded_of file) m r w ≡ Ok tt) × (clash_of file ≡ Ok tt)
        there h =
            let x = also_so _ (clash_of file) t n h in
            let y = also_so _ (room_fault (total_of file) (loaded_of file) m r w) t n x.0 in
            let z = lists_pass t n (check_of file) 0 lists y.0 in
            (z.0, z.1, y.1, x.1)

        back : (check_of file ≡ accepted t n) × AllPass 0 lists
            × (room_fault (total_of file) (loaded_of file) m r w ≡ Ok tt) × (clash_of file ≡ Ok tt)
            → call_answer ≡ accepted t n
        back h =
            also_both _ _ t n (also_both _ _ t n (pass_lists t n (check_of file) 0 lists h.0 h.1) h.2) h.3

    -- refused: the first test that fails says why
    abbrev pub TestWhy : Refusal → Type 0
    TestWhy f =
        (check_of file ≡ Err f)
        ⊎ (Accepts (check_of file) × FirstFails 0 lists f)
        ⊎ (Accepts (check_of file) × AllPass 0 lists × (room_fault (total_of file) (loaded_of file) m r w ≡ Err f))
        ⊎ (Accepts (check_of file) × AllPass 0 lists × (room_fault (total_of file) (loaded_of file) m r w ≡ Ok tt)
        × (clash_of file ≡ Err f))

    pub call_fails : (f : Refusal) → (call_answer ≡ Err f) ↔ TestWhy f
    call_fails f = (
      λ h. there (last_why file m r w f (lists_answer (check_of file) 0 lists) h),
      λ h. last_then file m r w f (lists_answer (check_of file) 0 lists) (back h),
    )
      where
        passes : Accepts (lists_answer (check_of file) 0 lists) → Accepts (check_of file) × AllPass 0 lists
        passes a = let x = lists_pass a.0 a.1 (check_of file) 0 lists a.2 in ((a.0, a.1, x.0), x.1)

        accepted : Accepts (check_of file) → AllPass 0 lists → Accepts (lists_answer (check_of file) 0 lists)
        accepted a g = (a.0, a.1, pass_lists a.0 a.1 (check_of file) 0 lists a.2 g)

        first : (check_of file ≡ Err f) ⊎ (Accepts (check_of file) × FirstFails 0 lists f) → TestWhy f
        first (inl x) = inl x
        first (inr x) = inr (inl x)

        there : LastWhy file (lists_answer (check_of file) 0 lists) m r w f → TestWhy f
        there (inl x) = first (lists_why f (check_of file) 0 lists x)
        there (inr (inl x)) = let y = passes x.0 in inr (inr (inl (y.0, y.1, x.1)))
        there (inr (inr x)) = let y = passes x.0 in inr (inr (inr (y.0, y.1, x.1, x.2)))

        back : TestWhy f → LastWhy file (lists_answer (check_of file) 0 lists) m r w f
        back (inl x) = inl (refused_lists f (check_of file) 0 lists x)
        back (inr (inl x)) = inl (fails_lists f (check_of file) 0 lists x.0 x.1)
        back (inr (inr (inl x))) = inr (inl (accepted x.0 x.1, x.2))
        back (inr (inr (inr x))) = inr (inr (accepted x.0 x.1, x.2, x.3))

  -- ---- a load is lent one list, a move the old and the new

  pub load_call : (bases : List ℕ) (m r w : ℕ) → load_answer file bases m r w ≡ call_answer (bases ∷ []) m r w
  unfolding load_answer
  load_call bases m r w = refl

  pub move_call : (old new : List ℕ) (m r w : ℕ) → move_answer file old new m r w ≡ call_answer (old ∷ new ∷ []) m r w
  unfolding move_answer
  move_call old new m r w =
      let z : total_of file ≡ 0 + total_of file = omega arith in
      ap (λ (k : ℕ). last_tests file (also (also (check_of file) (bases_fault file old 0)) (bases_fault file new k)) m r
      w) z
