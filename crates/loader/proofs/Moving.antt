-- The laws of moving: a load at A moved to B is a load at B; A to B to C is A to C; A to A changes nothing; A to B to
-- A restores. From accepted loads it follows that these moves are accepted. Assumes nothing.
use Rattle.std.specs.Prelude.{Ok}
use Rattle.std.proofs.Common.{◌≡◌, ℕ, ◌+◌, ◌-◌, ◌*◌, ◌%◌, ◌^◌, ◌≤◌, Bool, true, false, ◌⊎◌, List, [], ◌∷◌, ◌++◌, length}
use Rattle.std.proofs.Common.{drop, replicate, sym, refl, ap, ◌∙◌, ap₂, inl, inr, ⊎_elim, arith, length-append}
use Rattle.std.proofs.Common.{length-drop, length-take-le, drop_at}
use lib.ListN.{length-replicate}
use Rattle.answers.specs.Numbers as fault
use Rattle.words.specs.Shift.{Target}
use Rattle.words.specs.Word.{Bytes}
use Rattle.words.proofs.Words.{Far}
use Rattle.words.proofs.Shifts.{FarAll, Apart, Within, length_shift_all, shift_all_twice, shift_all_zero, shift_all_mod}
use Rattle.words.proofs.Shifts.{shift_all_moved}
use Rattle.answers.specs.Tests.{pick}
use Rattle.answers.proofs.Tests.{pick_passed}
use Rattle.answers.specs.Refusals.{refusal}
use Rattle.program.specs.Header.{total_of}
use Rattle.program.specs.Check.{Answer, accepted, check_of}
use Rattle.program.specs.Acts.{acts_of}
use Rattle.program.specs.Cursors.{HeaderFits}
use Rattle.loader.specs.Memory.{loaded_of, targets_of, amount_of, bodies_of, load_of, moved, move_of}
use Rattle.loader.specs.Table.{record_length, table_room, records_of, table_of}
use Rattle.loader.specs.Bases.{bases_fault}
use Rattle.loader.specs.Near.{near, near_any, clash, clash_of}
use Rattle.loader.specs.Calls.{room_fault, load_answer, move_answer, records_in, Loads, Moves}
use Rattle.loader.specs.Moving.{SameRoom, LoadsAt}
use Rattle.loader.proofs.Marking.{near_false, no_bool}
use Rattle.loader.proofs.Inside.{within_targets, within_more, length_with_records, length_bodies}
use Rattle.loader.proofs.BadBases.{low_bases, fault_passed}
use Rattle.loader.proofs.Answering.{also_so, also_both, LoadFacts, load_facts}

-- ---- accepted targets are apart

abbrev pub Among : ℕ → List ℕ → Type 0
Among q [] = ⊥
Among q (x ∷ xs) = (q ≡ x) ⊎ Among q xs

far_one : (p q : ℕ) (seen : List ℕ) → near_any p seen ≡ false → Among q seen → Far q p
unfolding near_any pick
far_one p q [] h a = absurd a
far_one p q (x ∷ xs) h a = go (near p x) (near_false p x) h a (λ e. far_one p q xs e)
  where
    go : (b : Bool) → (b ≡ false → (x + 4 ≤ p) ⊎ (p + 4 ≤ x)) → pick b true (near_any p xs) ≡ false → Among q (x ∷ xs)
        → (near_any p xs ≡ false → Among q xs → Far q p) → Far q p
    go true g e a f = no_bool (sym e)
    go false g e (inl s) f = ⊎_elim (λ l. inl (omega arith)) (λ l. inr (omega arith)) (g refl)
    go false g e (inr s) f = f e s

far_all : (q : ℕ) (seen : List ℕ) (ts : List Target) → clash seen ts ≡ Ok tt → Among q seen → FarAll q ts
unfolding clash
far_all q seen [] h a = tt
far_all q seen (t ∷ ts) h a =
    let p = pick_passed (near_any t.loaded_at seen) (refusal fault.near_targets t.byte) _ h in
    (far_one t.loaded_at q seen p.0 a, far_all q (t.loaded_at ∷ seen) ts p.1 (inr a))

pub apart : (seen : List ℕ) (ts : List Target) → clash seen ts ≡ Ok tt → Apart ts
unfolding clash
apart seen [] h = tt
apart seen (t ∷ ts) h =
    let p = pick_passed (near_any t.loaded_at seen) (refusal fault.near_targets t.byte) _ h in
    (far_all t.loaded_at (t.loaded_at ∷ seen) ts p.1 (inl refl), apart (t.loaded_at ∷ seen) ts p.1)

-- ---- a move between bases at which loads are accepted is accepted

module _ (file A B : List ℕ) (m r w t n u k : ℕ) (a : load_answer file A m r w ≡ accepted t n)
    (b : load_answer file B m r w ≡ accepted u k) where
  pub move_accepted : move_answer file A B m r w ≡ accepted t n
  unfolding load_answer move_answer
  move_accepted =
      let x = also_so _ (clash_of file) t n a in
      let y = also_so _ (room_fault (total_of file) (loaded_of file) m r w) t n x.0 in
      let z = also_so (check_of file) (bases_fault file A 0) t n y.0 in
      let f = load_facts file B m r w u k _ refl b in
      also_both _ _ t n (also_both _ _ t n
      (also_both _ _ t n y.0 (fault_passed file B 0 (total_of file) f.bases_good)) y.1) x.1

-- the answers of two accepted loads of one file are one
pub one_answer : (file A B : List ℕ) (m r w t n u k : ℕ) → load_answer file A m r w ≡ accepted t n
    → load_answer file B m r w ≡ accepted u k → accepted t n ≡ accepted u k
one_answer file A B m r w t n u k a b =
    let f = (load_facts file A m r w t n _ refl a).file_accepted in
    let g = (load_facts file B m r w u k _ refl b).file_accepted in
    ap₂ accepted (f.hunks ∙ sym g.hunks) (f.bytes ∙ sym g.bytes)

-- ---- memory

sum_mod : (x y : ℕ) → (x % 2 ^ 32 + y % 2 ^ 32) % 2 ^ 32 ≡ (x + y) % 2 ^ 32
sum_mod x y = omega arith

around : (z : ℕ) → (2 ^ 32 + z) % 2 ^ 32 ≡ z % 2 ^ 32
around z = omega arith

-- from a to b and from b to c is from a to c
two_steps : (a b c : ℕ) → a ≤ 2 ^ 32 → b ≤ 2 ^ 32
    → ((b + (2 ^ 32 - a)) % 2 ^ 32 + (c + (2 ^ 32 - b)) % 2 ^ 32) % 2 ^ 32 ≡ (c + (2 ^ 32 - a)) % 2 ^ 32
two_steps a b c h k =
    let e : b + (2 ^ 32 - a) + (c + (2 ^ 32 - b)) ≡ 2 ^ 32 + (c + (2 ^ 32 - a)) = omega arith in
    sum_mod (b + (2 ^ 32 - a)) (c + (2 ^ 32 - b)) ∙ ap (λ n. n % 2 ^ 32) e ∙ around (c + (2 ^ 32 - a))

-- no entry is above 2^32
abbrev Low : List ℕ → Type 0
Low l = (k : ℕ) → amount_of l k ≤ 2 ^ 32

module _ (file : List ℕ) (s : HeaderFits file) (c : clash_of file ≡ Ok tt) (m : List ℕ) (h : loaded_of file ≤ length m)
  where
    fits : Within (length m) (targets_of file)
    fits = within_more (loaded_of file) (length m) (targets_of file) h (within_targets file s)

    memory_load_move : (A B : List ℕ) → Low A → move_of file A B (load_of file A m) ≡ load_of file B m
    memory_load_move A B a =
        shift_all_moved (bodies_of file m) (targets_of file) (amount_of A) (moved A B) (amount_of B)
        (λ k. let l = a k in omega arith) (apart [] (targets_of file) c)
        (within_more (loaded_of file) _ (targets_of file) (omega (arith, length_bodies file m h))
        (within_targets file s))

    memory_move_move : (A B C : List ℕ) → Low A → Low B → move_of file B C (move_of file A B m) ≡ move_of file A C m
    memory_move_move A B C a b =
        shift_all_twice m (targets_of file) (moved A B) (moved B C) (apart [] (targets_of file) c) fits
        ∙ shift_all_mod m (targets_of file) (λ k. (moved A B k + moved B C k) % 2 ^ 32) (moved A C)
        (λ k. ap (λ n. n % 2 ^ 32) (two_steps (amount_of A k) (amount_of B k) (amount_of C k) (a k) (b k)))

memory_stays : (file A m : List ℕ) → Low A → Bytes m → move_of file A A m ≡ m
memory_stays file A m a b =
    shift_all_mod m (targets_of file) (moved A A) (λ k. 0) (λ k. let l = a k in omega arith)
    ∙ shift_all_zero m (targets_of file) b

-- ---- tables

pub length_records : (file bases : List ℕ) → HeaderFits file
    → length (records_of file bases) ≡ record_length * total_of file
unfolding records_of
length_records file bases s =
    length-take-le (record_length * total_of file) _
    (omega (
      arith,
      s.few,
      length_with_records file bases (replicate table_room 0) (acts_of file)
          ∙ length-replicate {A = ℕ} table_room 0,
    ))

-- the last list of bases decides
pub table_table : (file A B t : List ℕ) → HeaderFits file → table_of file B (table_of file A t) ≡ table_of file B t
table_table file A B t s =
    ap (λ l. records_of file B ++ l)
    (drop_at (records_of file A) (drop (record_length * total_of file) t) (record_length * total_of file)
    (length_records file A s))

length_table : (file bases t : List ℕ) → HeaderFits file → record_length * total_of file ≤ length t
    → length (table_of file bases t) ≡ length t
length_table file bases t s h =
    length-append (records_of file bases) (drop (record_length * total_of file) t)
    ∙ omega (arith, length_records file bases s, length-drop (record_length * total_of file) t)

-- ---- the laws, over what the contracts of load and move say

module _ (file m t w : List ℕ) (x n : ℕ) where
  -- what an accepted move leaves
  moved_to : (A B : List ℕ) (y k : ℕ) → LoadsAt file A m (records_in t) w x n → LoadsAt file B m (records_in t) w y k
      → (m' t' w' m1 t1 w1 : List ℕ) (r : Answer) → SameRoom m t w m' t' w' → Moves file A B m' t' w' r m1 t1 w1
      → (r ≡ accepted x n) × (m1 ≡ move_of file A B m') × (t1 ≡ table_of file B t') × (w1 ≡ replicate (length w) 0)
  moved_to A B y k a b m' t' w' m1 t1 w1 r s v =
      let e : r ≡ accepted x n =
      v.answer ∙ rw (s.memory, s.table, s.work)
      (move_accepted file A B (length m) (records_in t) (length w) x n y k a b) in
      (e, v.shifted ∙ rw e, v.recorded ∙ rw e, v.clean ∙ ap (λ j. replicate j 0) s.work)

  low_of : (A : List ℕ) (y k : ℕ) → LoadsAt file A m (records_in t) w y k → Low A
  low_of A y k a = low_bases file A 0 (load_facts file A (length m) (records_in t) (length w) y k _ refl a).bases_good

  module _ (A : List ℕ) (a : LoadsAt file A m (records_in t) w x n) where
    facts : LoadFacts file A (length m) (records_in t) (length w) x n
    facts = load_facts file A (length m) (records_in t) (length w) x n _ refl a

    header : HeaderFits file
    header = facts.file_accepted.header

    low : Low A
    low = low_of A x n a

    -- lengths stay, so that the next move is lent equal room
    pub move_room : (B m' t' w' w1 : List ℕ) → SameRoom m t w m' t' w' → w1 ≡ replicate (length w) 0 → (C : List ℕ)
        → SameRoom m t w (move_of file A B m') (table_of file C t') w1
    move_room B m' t' w' w1 s e C =
        record {
          memory = length_shift_all m' (targets_of file) (moved A B) ∙ s.memory;
          table = length_table file C t' header (omega (arith, facts.records, s.table)) ∙ s.table;
          work = ap length e ∙ length-replicate (length w) 0;
        }

    pub load_room : (m1 t1 w1 : List ℕ) → Loads file A m t w (accepted x n) m1 t1 w1 → SameRoom m t w m1 t1 w1
    load_room m1 t1 w1 l =
        record {
          memory =
              ap length l.loaded ∙ length_shift_all (bodies_of file m) (targets_of file) (amount_of A)
              ∙ length_bodies file m facts.fits;
          table = ap length l.recorded ∙ length_table file A t header (omega (arith, facts.records));
          work = ap length l.clean ∙ length-replicate (length w) 0;
        }

    -- A load at A, moved to B, is a load at B: answer, memory, table and work area.
    pub load_move : (B : List ℕ) (y k : ℕ) → (m1 t1 w1 mB tB wB : List ℕ) → Loads file A m t w (accepted x n) m1 t1 w1
        → Loads file B m t w (accepted y k) mB tB wB → (w' m2 t2 w2 : List ℕ) (r : Answer) → length w' ≡ length w
        → Moves file A B m1 t1 w' r m2 t2 w2 → (r ≡ accepted y k) × (m2 ≡ mB) × (t2 ≡ tB) × (w2 ≡ wB)
    load_move B y k m1 t1 w1 mB tB wB l lb w' m2 t2 w2 r lw v =
        let room = load_room m1 t1 w1 l in
        let b : LoadsAt file B m (records_in t) w y k = sym lb.answer in
        let q =
        moved_to A B y k a b m1 t1 w' m2 t2 w2 r
        (record { memory = room.memory; table = room.table; work = lw }) v in (
          q.0 ∙ one_answer file A B (length m) (records_in t) (length w) x n y k a b,
          q.1 ∙ ap (move_of file A B) l.loaded ∙ memory_load_move file header facts.apart m facts.fits A B
              low ∙ sym lb.loaded,
          q.2 ∙ ap (table_of file B) l.recorded ∙ table_table file A B t header ∙ sym lb.recorded,
          q.3 ∙ sym lb.clean,
        )

    -- On memory with any contents, A to B and then B to C is A to C.
    pub move_move : (B C : List ℕ) (y k z j : ℕ) → LoadsAt file B m (records_in t) w y k
        → LoadsAt file C m (records_in t) w z j
        → (m' t' w' w'' w''' m1 t1 w1 m2 t2 w2 m3 t3 w3 : List ℕ) (r1 r2 r3 : Answer) → SameRoom m t w m' t' w'
        → length w'' ≡ length w → length w''' ≡ length w → Moves file A B m' t' w' r1 m1 t1 w1
        → Moves file B C m1 t1 w'' r2 m2 t2 w2 → Moves file A C m' t' w''' r3 m3 t3 w3
        → (r1 ≡ accepted x n) × (r2 ≡ accepted x n) × (r3 ≡ accepted x n) × (m2 ≡ m3) × (t2 ≡ t3) × (w2 ≡ w3)
    move_move B C y k z j b c m' t' w' w'' w''' m1 t1 w1 m2 t2 w2 m3 t3 w3 r1 r2 r3 s lw lw' v1 v2 v3 =
        let p = moved_to A B y k a b m' t' w' m1 t1 w1 r1 s v1 in
        let same : accepted x n ≡ accepted y k = one_answer file A B (length m) (records_in t) (length w) x n y k a b in
        let b' : LoadsAt file B m (records_in t) w x n = b ∙ sym same in
        let room = move_room B m' t' w' w1 s p.3 B in
        let q =
        moved_to B C z j b' c m1 t1 w'' m2 t2 w2 r2
        (record {
          memory = ap length p.1 ∙ room.memory;
          table = ap length p.2 ∙ room.table;
          work = lw;
        }) v2 in
        let o =
        moved_to A C z j a c m' t' w''' m3 t3 w3 r3 (record { memory = s.memory; table = s.table; work = lw' }) v3
        in (
          p.0,
          q.0,
          o.0,
          q.1 ∙ ap (move_of file B C) p.1 ∙ memory_move_move file header facts.apart m'
              (omega (arith, facts.fits, s.memory)) A B C low (low_of B y k b) ∙ sym o.1,
          q.2 ∙ ap (table_of file C) p.2 ∙ table_table file B C t' header ∙ sym o.2,
          q.3 ∙ sym o.3,
        )

    -- A to A changes no byte of memory.
    pub move_stays : (m' t' w' m1 t1 w1 : List ℕ) (r : Answer) → Bytes m' → SameRoom m t w m' t' w'
        → Moves file A A m' t' w' r m1 t1 w1 → (r ≡ accepted x n) × (m1 ≡ m')
    move_stays m' t' w' m1 t1 w1 r bytes s v =
        let p = moved_to A A x n a a m' t' w' m1 t1 w1 r s v in
        (p.0, p.1 ∙ memory_stays file A m' low bytes)

    -- A to B and back to A brings every byte of memory back.
    pub move_back : (B : List ℕ) (y k : ℕ) → LoadsAt file B m (records_in t) w y k
        → (m' t' w' w'' m1 t1 w1 m2 t2 w2 : List ℕ) (r1 r2 : Answer) → Bytes m' → SameRoom m t w m' t' w'
        → length w'' ≡ length w → Moves file A B m' t' w' r1 m1 t1 w1 → Moves file B A m1 t1 w'' r2 m2 t2 w2
        → (r1 ≡ accepted x n) × (r2 ≡ accepted x n) × (m2 ≡ m')
    move_back B y k b m' t' w' w'' m1 t1 w1 m2 t2 w2 r1 r2 bytes s lw v1 v2 =
        let p = moved_to A B y k a b m' t' w' m1 t1 w1 r1 s v1 in
        let same : accepted x n ≡ accepted y k = one_answer file A B (length m) (records_in t) (length w) x n y k a b in
        let b' : LoadsAt file B m (records_in t) w x n = b ∙ sym same in
        let room = move_room B m' t' w' w1 s p.3 B in
        let q =
        moved_to B A x n b' a m1 t1 w'' m2 t2 w2 r2
        (record {
          memory = ap length p.1 ∙ room.memory;
          table = ap length p.2 ∙ room.table;
          work = lw;
        }) v2 in (
          p.0,
          q.0,
          q.1 ∙ ap (move_of file B A) p.1 ∙ memory_move_move file header facts.apart m'
              (omega (arith, facts.fits, s.memory)) A B A low (low_of B y k b) ∙ memory_stays file A m' low bytes,
        )
