-- The contracts decide: two outcomes for one input coincide, a refused call changes nothing, and a call is accepted
-- if and only if the file, the bases, the room and the targets are as they must be. Assumes nothing.
use Rattle.std.specs.Prelude.{Ok, Err}
use Rattle.std.proofs.Common.{◌≡◌, ℕ, ◌↔◌, List, length, replicate, sym, refl, ap, ◌∙◌, le-ltb}
use Rattle.answers.specs.Tests.{pick}
use Rattle.answers.specs.declared.Refusal.{Refusal}
use Rattle.program.specs.Header.{total_of}
use Rattle.program.specs.Check.{Answer, accepted, numbers_of, check_of}
use Rattle.loader.specs.Memory.{loaded_of, load_of, move_of}
use Rattle.loader.specs.Table.{table_of}
use Rattle.loader.specs.Bases.{bases_fault}
use Rattle.loader.specs.Near.{clash_of}
use Rattle.loader.specs.Calls.{room_fault, also, last_tests, load_answer, move_answer, effect, Loads, Moves}
use Rattle.loader.specs.Verdicts.{Room}
use Rattle.loader.proofs.Answering.{also_so, also_both, load_facts}

-- ---- any two outcomes allowed for one input coincide

pub load_determined : (file bases m t w : List ℕ) (r r' : Answer) (m1 t1 w1 m2 t2 w2 : List ℕ)
    → Loads file bases m t w r m1 t1 w1 → Loads file bases m t w r' m2 t2 w2
    → (numbers_of r ≡ numbers_of r') × (m1 ≡ m2) × (t1 ≡ t2) × (w1 ≡ w2)
load_determined file bases m t w r r' m1 t1 w1 m2 t2 w2 a b =
    let e : r ≡ r' = a.answer ∙ sym b.answer in (
      ap numbers_of e,
      a.loaded ∙ ap (λ x. effect x (load_of file bases m) m) e ∙ sym b.loaded,
      a.recorded ∙ ap (λ x. effect x (table_of file bases t) t) e ∙ sym b.recorded,
      a.clean ∙ sym b.clean,
    )

pub move_determined : (file old new m t w : List ℕ) (r r' : Answer) (m1 t1 w1 m2 t2 w2 : List ℕ)
    → Moves file old new m t w r m1 t1 w1 → Moves file old new m t w r' m2 t2 w2
    → (numbers_of r ≡ numbers_of r') × (m1 ≡ m2) × (t1 ≡ t2) × (w1 ≡ w2)
move_determined file old new m t w r r' m1 t1 w1 m2 t2 w2 a b =
    let e : r ≡ r' = a.answer ∙ sym b.answer in (
      ap numbers_of e,
      a.shifted ∙ ap (λ x. effect x (move_of file old new m) m) e ∙ sym b.shifted,
      a.recorded ∙ ap (λ x. effect x (table_of file new t) t) e ∙ sym b.recorded,
      a.clean ∙ sym b.clean,
    )

-- ---- a refused call changes no byte of memory and no record, and its work area comes back cleared

pub load_keeps : (file bases m t w : List ℕ) (f : Refusal) (m1 t1 w1 : List ℕ)
    → Loads file bases m t w (Err f) m1 t1 w1 → (m1 ≡ m) × (t1 ≡ t) × (w1 ≡ replicate (length w) 0)
load_keeps file bases m t w f m1 t1 w1 l = (l.loaded, l.recorded, l.clean)

pub move_keeps : (file old new m t w : List ℕ) (f : Refusal) (m1 t1 w1 : List ℕ)
    → Moves file old new m t w (Err f) m1 t1 w1 → (m1 ≡ m) × (t1 ≡ t) × (w1 ≡ replicate (length w) 0)
move_keeps file old new m t w f m1 t1 w1 l = (l.shifted, l.recorded, l.clean)

-- ---- accepted if and only if

pub room_good : (t n m r w : ℕ) → Room t n m r w → room_fault t n m r w ≡ Ok tt
unfolding pick
room_good t n m r w h = rw (le-ltb m n h.memory_fits, le-ltb r t h.records_fit, le-ltb w n h.work_fits)

module _ (file : List ℕ) (m r w t n : ℕ) where
  pub load_exactly : (bases : List ℕ)
      → (load_answer file bases m r w ≡ accepted t n)
      ↔ ((check_of file ≡ accepted t n) × (bases_fault file bases 0 ≡ Ok tt)
      × Room (total_of file) (loaded_of file) m r w × (clash_of file ≡ Ok tt))
  unfolding load_answer
  load_exactly bases = (there, back)
    where
      there : last_tests file (also (check_of file) (bases_fault file bases 0)) m r w ≡ accepted t n
          → (check_of file ≡ accepted t n) × (bases_fault file bases 0 ≡ Ok tt)
          × Room (total_of file) (loaded_of file) m r w × (clash_of file ≡ Ok tt)
      there h =
          let f = load_facts file bases m r w t n _ refl h in
          let a = also_so _ (clash_of file) t n h in
          let b = also_so _ (room_fault (total_of file) (loaded_of file) m r w) t n a.0 in
          let c = also_so (check_of file) (bases_fault file bases 0) t n b.0 in
          (c.0, c.1, record { memory_fits = f.fits; records_fit = f.records; work_fits = f.works }, a.1)

      back : (check_of file ≡ accepted t n) × (bases_fault file bases 0 ≡ Ok tt)
          × Room (total_of file) (loaded_of file) m r w × (clash_of file ≡ Ok tt)
          → last_tests file (also (check_of file) (bases_fault file bases 0)) m r w ≡ accepted t n
      back h =
          also_both _ _ t n (also_both _ _ t n (also_both _ _ t n h.0 h.1) (room_good _ _ m r w h.2)) h.3

  pub move_exactly : (old new : List ℕ)
      → (move_answer file old new m r w ≡ accepted t n)
      ↔ ((load_answer file old m r w ≡ accepted t n) × (bases_fault file new (total_of file) ≡ Ok tt))
  unfolding move_answer load_answer
  move_exactly old new = (there, back)
    where
      there : last_tests file
          (also (also (check_of file) (bases_fault file old 0)) (bases_fault file new (total_of file)))
          m r w ≡ accepted t n
          → (last_tests file (also (check_of file) (bases_fault file old 0)) m r w ≡ accepted t n)
          × (bases_fault file new (total_of file) ≡ Ok tt)
      there h =
          let a = also_so _ (clash_of file) t n h in
          let b = also_so _ (room_fault (total_of file) (loaded_of file) m r w) t n a.0 in
          let c =
          also_so (also (check_of file) (bases_fault file old 0)) (bases_fault file new (total_of file)) t n b.0 in
          (also_both _ _ t n (also_both _ _ t n c.0 b.1) a.1, c.1)

      back : (last_tests file (also (check_of file) (bases_fault file old 0)) m r w ≡ accepted t n)
          × (bases_fault file new (total_of file) ≡ Ok tt)
          → last_tests file (also (also (check_of file) (bases_fault file old 0))
          (bases_fault file new (total_of file))) m
          r w ≡ accepted t n
      back h =
          let a =
          also_so (also (also (check_of file) (bases_fault file old 0))
          (room_fault (total_of file) (loaded_of file) m r w)) (clash_of file) t n h.0 in
          let b =
          also_so (also (check_of file) (bases_fault file old 0)) (room_fault (total_of file) (loaded_of file) m r w) t
          n a.0 in
          also_both _ _ t n (also_both _ _ t n (also_both _ _ t n b.0 h.1) b.1) a.1
