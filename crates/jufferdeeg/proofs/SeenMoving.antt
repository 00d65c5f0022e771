-- The laws of moving as a C program sees them: over what the exported load and move promise, with accepted said as
-- number 0. Assumes nothing.
use Prim.Native.Nat.{ℕ}
use mathlib.Core.Path.{◌≡◌, refl, sym, ap, subst, ◌∙◌}
use mathlib.Core.Logic.{◌↔◌}
use mathlib.Core.List.{List}
use lib.ListN.{length}
use Rattle.std.specs.Prelude.{Result, Ok, Err}
use Rattle.words.specs.Word.{Bytes}
use Rattle.program.specs.Check.{Answer, accepted}
use Rattle.program.specs.Header.{total_of}
use Rattle.loader.specs.Verdicts.{Accepts}
use Rattle.loader.proofs.BadBases.{fault_passed}
use Rattle.loader.proofs.Deciding.{load_exactly, move_exactly}
use Rattle.hunks.specs.declared.Hunk.{Hunk}
use Rattle.hunks.specs.Calls.{Loads}
use Rattle.loader.specs.Moving.{SameRoom}
use Rattle.hunks.proofs.Moving as moving
use Rattle.jufferdeeg.specs.declared.programs.ProgramNumbers.{ProgramNumbers}
use Rattle.jufferdeeg.specs.Programs.{program_numbers, loads_as, moves_as, LoadsNumbers, MovesNumbers}
use Rattle.jufferdeeg.proofs.Seen.{load_accepts, move_accepts}

-- an accepted answer's number
zero_of : (a : Answer) (r : ProgramNumbers) (x n : ℕ) → r ≡ program_numbers a → a ≡ accepted x n → r.number ≡ 0
zero_of a r x n e q = ap (λ (v : ProgramNumbers). v.number) (e ∙ ap program_numbers q)

module _ (file m : List ℕ) (t : List Hunk) (w : List ℕ) where
  -- a load at A gives number 0
  module _ (A : List ℕ) (rA : ProgramNumbers) (mA : List ℕ) (tA : List Hunk) (wA : List ℕ)
      (a : LoadsNumbers file A m t w rA mA tA wA) (za : rA.number ≡ 0) where
    abbrev there : Accepts (loads_as file m t w A)
    there = (load_accepts file m t w rA mA tA wA A a).0 za

    loads : Loads file A m t w (accepted there.0 there.1) mA tA wA
    loads = subst (λ x. Loads file A m t w x mA tA wA) there.2 a.call

    -- A load at A, moved to B, is a load at B: numbers, memory, table and work area.
    pub load_move : (B : List ℕ) (rB : ProgramNumbers) (mB : List ℕ) (tB : List Hunk) (wB : List ℕ)
        → LoadsNumbers file B m t w rB mB tB wB → rB.number ≡ 0
        → (w' : List ℕ) (r : ProgramNumbers) (m2 : List ℕ) (t2 : List Hunk) (w2 : List ℕ) → length w' ≡ length w
        → MovesNumbers file A B mA tA w' r m2 t2 w2 → (r.number ≡ 0) × (r ≡ rB) × (m2 ≡ mB) × (t2 ≡ tB) × (w2 ≡ wB)
    load_move B rB mB tB wB b zb w' r m2 t2 w2 lw v =
        let y = (load_accepts file m t w rB mB tB wB B b).0 zb in
        let lb = subst (λ x. Loads file B m t w x mB tB wB) y.2 b.call in
        let q =
        moving.load_move file m t w there.0 there.1 A B y.0 y.1 mA tA wA mB tB wB loads lb w' m2 t2 w2
        _ lw v.call in (
          zero_of _ r _ _ v.answer q.0,
          v.answer ∙ ap program_numbers (q.0 ∙ sym y.2) ∙ sym b.answer,
          q.1,
          q.2,
          q.3,
        )

    -- A to A changes no byte of memory.
    pub move_stays : (m' : List ℕ) (t' : List Hunk) (w' : List ℕ) (r : ProgramNumbers) (m1 : List ℕ) (t1 : List Hunk)
        (w1 : List ℕ)
        → Bytes m' → SameRoom m t w m' t' w' → MovesNumbers file A A m' t' w' r m1 t1 w1 → (r.number ≡ 0) × (m1 ≡ m')
    move_stays m' t' w' r m1 t1 w1 bytes s v =
        let q = moving.move_stays file m t w there.0 there.1 A there.2 m' t' w' m1 t1 w1 _ bytes s v.call in
        (zero_of _ r _ _ v.answer q.0, q.1)

    -- and a load at B does
    module _ (B : List ℕ) (rB : ProgramNumbers) (mB : List ℕ) (tB : List Hunk) (wB : List ℕ)
        (b : LoadsNumbers file B m t w rB mB tB wB) (zb : rB.number ≡ 0) where
      abbrev to : Accepts (loads_as file m t w B)
      to = (load_accepts file m t w rB mB tB wB B b).0 zb

      -- A to B and back to A brings every byte of memory back.
      pub move_back : (m' : List ℕ) (t' : List Hunk) (w' w'' : List ℕ) (r1 r2 : ProgramNumbers) (m1 : List ℕ)
          (t1 : List Hunk) (w1 m2 : List ℕ) (t2 : List Hunk) (w2 : List ℕ)
          → Bytes m' → SameRoom m t w m' t' w' → length w'' ≡ length w → MovesNumbers file A B m' t' w' r1 m1 t1 w1
          → MovesNumbers file B A m1 t1 w'' r2 m2 t2 w2 → (r1.number ≡ 0) × (r2.number ≡ 0) × (m2 ≡ m')
      move_back m' t' w' w'' r1 r2 m1 t1 w1 m2 t2 w2 bytes s lw v1 v2 =
          let q =
          moving.move_back file m t w there.0 there.1 A there.2 B to.0 to.1 to.2 m' t' w' w'' m1
          t1 w1 m2 t2 w2 _ _ bytes s lw v1.call v2.call in
          (zero_of _ r1 _ _ v1.answer q.0, zero_of _ r2 _ _ v2.answer q.1, q.2)

      -- On memory with any contents, A to B and then B to C is A to C: numbers, memory, table and work area.
      pub move_move : (C : List ℕ) (rC : ProgramNumbers) (mC : List ℕ) (tC : List Hunk) (wC : List ℕ)
          → LoadsNumbers file C m t w rC mC tC wC → rC.number ≡ 0
          → (m' : List ℕ) (t' : List Hunk) (w' w'' w''' : List ℕ) (r1 r2 r3 : ProgramNumbers) (m1 : List ℕ)
          (t1 : List Hunk) (w1 m2 : List ℕ) (t2 : List Hunk) (w2 m3 : List ℕ) (t3 : List Hunk) (w3 : List ℕ)
          → SameRoom m t w m' t' w' → length w'' ≡ length w → length w''' ≡ length w
          → MovesNumbers file A B m' t' w' r1 m1 t1 w1 → MovesNumbers file B C m1 t1 w'' r2 m2 t2 w2
          → MovesNumbers file A C m' t' w''' r3 m3 t3 w3
          → (r1.number ≡ 0) × (r2.number ≡ 0) × (r2 ≡ r3) × (m2 ≡ m3) × (t2 ≡ t3) × (w2 ≡ w3)
      move_move C rC mC tC wC c zc m' t' w' w'' w''' r1 r2 r3 m1 t1 w1 m2 t2 w2 m3 t3 w3 s lw lw' v1 v2 v3 =
          let y = (load_accepts file m t w rC mC tC wC C c).0 zc in
          let q =
          moving.move_move file m t w there.0 there.1 A there.2 B C to.0 to.1 y.0 y.1 to.2
          y.2 m' t' w' w'' w''' m1 t1 w1 m2 t2 w2 m3 t3 w3 _ _ _ s lw lw' v1.call v2.call v3.call in (
            zero_of _ r1 _ _ v1.answer q.0,
            zero_of _ r2 _ _ v2.answer q.1,
            v2.answer
                ∙ ap program_numbers (q.1 ∙ sym q.2) ∙ sym v3.answer,
            q.3,
            q.4,
            q.5,
          )

  -- A move is accepted, in any room of that size, if and only if a load is at each of its two lists of bases.
  pub move_loads : (A B : List ℕ) (rA rB r : ProgramNumbers) (mA : List ℕ) (tA : List Hunk) (wA mB : List ℕ)
      (tB : List Hunk) (wB m' : List ℕ) (t' : List Hunk) (w' m1 : List ℕ) (t1 : List Hunk) (w1 : List ℕ)
      → SameRoom m t w m' t' w' → LoadsNumbers file A m t w rA mA tA wA → LoadsNumbers file B m t w rB mB tB wB
      → MovesNumbers file A B m' t' w' r m1 t1 w1 → (r.number ≡ 0) ↔ ((rA.number ≡ 0) × (rB.number ≡ 0))
  move_loads A B rA rB r mA tA wA mB tB wB m' t' w' m1 t1 w1 s a b v = (there, back)
    where
      like : moves_as file m' t' w' A B ≡ moves_as file m t w A B
      like = rw (s.memory, s.table, s.work) refl

      there : r.number ≡ 0 → (rA.number ≡ 0) × (rB.number ≡ 0)
      there z =
          let x = (move_accepts file m' t' w' r m1 t1 w1 A B v).0 z in
          let y = (move_exactly file (length m) (length t) (length w) x.0 x.1 A B).0 (sym like ∙ x.2) in
          let l = (load_exactly file (length m) (length t) (length w) x.0 x.1 A).0 y.0 in
          let k =
          (load_exactly file (length m) (length t) (length w) x.0 x.1 B).1
          (l.0, fault_passed file B (total_of file) 0 y.1, l.2, l.3) in (
            (load_accepts file m t w rA mA tA wA A a).1 (x.0, x.1, y.0),
            (load_accepts file m t w rB mB tB wB B b).1 (x.0, x.1, k),
          )

      back : (rA.number ≡ 0) × (rB.number ≡ 0) → r.number ≡ 0
      back (za, zb) =
          let x = (load_accepts file m t w rA mA tA wA A a).0 za in
          let y = (load_accepts file m t w rB mB tB wB B b).0 zb in
          let l = (load_exactly file (length m) (length t) (length w) y.0 y.1 B).0 y.2 in
          (move_accepts file m' t' w' r m1 t1 w1 A B v).1 (
            x.0,
            x.1,
            like ∙ (move_exactly file (length m) (length t) (length w) x.0 x.1 A B).1
                (x.2, fault_passed file B 0 (total_of file) l.1),
          )
