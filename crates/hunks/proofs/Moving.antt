-- The laws of moving, with tables of structs: a load at A moved to B is a load at B; A to B to C is A to C; A to A
-- changes nothing; A to B to A restores. From accepted loads it follows that these moves are accepted. Each is the
-- loader's law over the numbers of the tables. Assumes nothing.
use Prim.Native.Nat.{ℕ, ◌*◌}
use mathlib.Core.Path.{◌≡◌, sym, ap, ◌∙◌}
use mathlib.Core.List.{List}
use lib.ListN.{length}
use Rattle.words.specs.Word.{Bytes}
use Rattle.program.specs.Check.{Answer, accepted}
use Rattle.loader.specs.Table.{record_length}
use Rattle.loader.specs.Calls.{load_answer, records_in}
use Rattle.loader.specs.Moving.{SameRoom, LoadsAt}
use Rattle.loader.proofs.Moving as numbers
use Rattle.hunks.specs.declared.Hunk.{Hunk}
use Rattle.hunks.specs.Records.{numbers_in}
use Rattle.hunks.specs.Calls.{Loads, Moves}
use Rattle.hunks.proofs.Numbering.{length_numbers, records_counted, same_table, load_numbers, move_numbers}

module _ (file m : List ℕ) (t : List Hunk) (w : List ℕ) (x n : ℕ) where
  at_numbers : (bases : List ℕ) (y k : ℕ) → LoadsAt file bases m (length t) w y k
      → LoadsAt file bases m (records_in (numbers_in t)) w y k
  at_numbers bases y k a = ap (λ j. load_answer file bases (length m) j (length w)) (records_counted t) ∙ a

  room_numbers : (m' : List ℕ) (t' : List Hunk) (w' : List ℕ) → SameRoom m t w m' t' w'
      → SameRoom m (numbers_in t) w m' (numbers_in t') w'
  room_numbers m' t' w' s =
      record {
        memory = s.memory;
        table = length_numbers t' ∙ ap (λ j. record_length * j) s.table ∙ sym (length_numbers t);
        work = s.work;
      }

  module _ (A : List ℕ) where
    -- A load at A, moved to B, is a load at B: answer, memory, table and work area.
    pub load_move : (B : List ℕ) (y k : ℕ)
        → (m1 : List ℕ) (t1 : List Hunk) (w1 mB : List ℕ) (tB : List Hunk) (wB : List ℕ)
        → Loads file A m t w (accepted x n) m1 t1 w1 → Loads file B m t w (accepted y k) mB tB wB
        → (w' m2 : List ℕ) (t2 : List Hunk) (w2 : List ℕ) (r : Answer) → length w' ≡ length w
        → Moves file A B m1 t1 w' r m2 t2 w2 → (r ≡ accepted y k) × (m2 ≡ mB) × (t2 ≡ tB) × (w2 ≡ wB)
    load_move B y k m1 t1 w1 mB tB wB l lb w' m2 t2 w2 r lw v =
        let q =
        numbers.load_move file m (numbers_in t) w x n A (at_numbers A x n (sym l.answer)) B y k m1
        (numbers_in t1) w1 mB (numbers_in tB) wB (load_numbers file A m t w _ m1 t1 w1 l)
        (load_numbers file B m t w _ mB tB wB lb) w' m2 (numbers_in t2) w2 r lw
        (move_numbers file A B m1 t1 w' r m2 t2 w2 v) in
        (q.0, q.1, same_table t2 tB q.2, q.3)

    module _ (a : LoadsAt file A m (length t) w x n) where
      -- On memory with any contents, A to B and then B to C is A to C.
      pub move_move : (B C : List ℕ) (y k z j : ℕ) → LoadsAt file B m (length t) w y k
          → LoadsAt file C m (length t) w z j
          → (m' : List ℕ) (t' : List Hunk) (w' w'' w''' m1 : List ℕ) (t1 : List Hunk) (w1 m2 : List ℕ) (t2 : List Hunk)
          (w2 m3 : List ℕ) (t3 : List Hunk) (w3 : List ℕ) (r1 r2 r3 : Answer)
          → SameRoom m t w m' t' w' → length w'' ≡ length w → length w''' ≡ length w
          → Moves file A B m' t' w' r1 m1 t1 w1 → Moves file B C m1 t1 w'' r2 m2 t2 w2
          → Moves file A C m' t' w''' r3 m3 t3 w3
          → (r1 ≡ accepted x n) × (r2 ≡ accepted x n) × (r3 ≡ accepted x n) × (m2 ≡ m3) × (t2 ≡ t3) × (w2 ≡ w3)
      move_move B C y k z j b c m' t' w' w'' w''' m1 t1 w1 m2 t2 w2 m3 t3 w3 r1 r2 r3 s lw lw' v1 v2 v3 =
          let q =
          numbers.move_move file m (numbers_in t) w x n A (at_numbers A x n a) B C y k z j (at_numbers B y k b)
          (at_numbers C z j c) m' (numbers_in t') w' w'' w''' m1 (numbers_in t1) w1 m2 (numbers_in t2) w2 m3
          (numbers_in t3) w3 r1 r2 r3 (room_numbers m' t' w' s) lw lw'
          (move_numbers file A B m' t' w' r1 m1 t1 w1 v1) (move_numbers file B C m1 t1 w'' r2 m2 t2 w2 v2)
          (move_numbers file A C m' t' w''' r3 m3 t3 w3 v3) in
          (q.0, q.1, q.2, q.3, same_table t2 t3 q.4, q.5)

      -- A to A changes no byte of memory.
      pub move_stays : (m' : List ℕ) (t' : List Hunk) (w' m1 : List ℕ) (t1 : List Hunk) (w1 : List ℕ) (r : Answer)
          → Bytes m' → SameRoom m t w m' t' w' → Moves file A A m' t' w' r m1 t1 w1 → (r ≡ accepted x n) × (m1 ≡ m')
      move_stays m' t' w' m1 t1 w1 r bytes s v =
          numbers.move_stays file m (numbers_in t) w x n A (at_numbers A x n a) m' (numbers_in t') w' m1 (numbers_in t1)
          w1 r bytes (room_numbers m' t' w' s) (move_numbers file A A m' t' w' r m1 t1 w1 v)

      -- A to B and back to A brings every byte of memory back.
      pub move_back : (B : List ℕ) (y k : ℕ) → LoadsAt file B m (length t) w y k
          → (m' : List ℕ) (t' : List Hunk) (w' w'' m1 : List ℕ) (t1 : List Hunk) (w1 m2 : List ℕ) (t2 : List Hunk)
          (w2 : List ℕ) (r1 r2 : Answer)
          → Bytes m' → SameRoom m t w m' t' w' → length w'' ≡ length w → Moves file A B m' t' w' r1 m1 t1 w1
          → Moves file B A m1 t1 w'' r2 m2 t2 w2 → (r1 ≡ accepted x n) × (r2 ≡ accepted x n) × (m2 ≡ m')
      move_back B y k b m' t' w' w'' m1 t1 w1 m2 t2 w2 r1 r2 bytes s lw v1 v2 =
          numbers.move_back file m (numbers_in t) w x n A (at_numbers A x n a) B y k (at_numbers B y k b) m'
          (numbers_in t') w' w'' m1 (numbers_in t1) w1 m2 (numbers_in t2) w2 r1 r2 bytes (room_numbers m' t' w' s) lw
          (move_numbers file A B m' t' w' r1 m1 t1 w1 v1) (move_numbers file B A m1 t1 w'' r2 m2 t2 w2 v2)
