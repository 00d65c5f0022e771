-- A table of structs as its numbers: a load or a move of the one is that of the other. Assumes nothing.
use Prim.Native.Nat.{ℕ, zero, suc, ◌+◌, ◌*◌, ◌<◌, ◌≤◌}
use mathlib.Core.Path.{◌≡◌, refl, sym, ap, ap₂, ◌∙◌}
use mathlib.Core.List.{List, [], ◌∷◌, ◌++◌}
use native.Mathlib.Omega.{arith}
use lib.ListN.{length, get_or, take, drop}
use lib.Seq.{drop-cons, drop-nil, take_all}
use Rattle.std.specs.Prelude.{Ok, Err}
use Rattle.program.specs.Header.{total_of}
use Rattle.program.specs.Check.{Answer, accepted, numbers_of}
use Rattle.program.specs.Cursors.{HeaderFits}
use Rattle.loader.specs.Table.{record_length, records_of, table_of}
use Rattle.loader.specs.Calls.{load_answer, move_answer, effect, records_in}
use Rattle.loader.specs.Calls as numbers
use Rattle.loader.proofs.Answering.{load_facts, move_facts}
use Rattle.loader.proofs.Moving.{length_records}
use Rattle.hunks.specs.declared.Hunk.{Hunk}
use Rattle.hunks.specs.Records.{record_at, records_from, hunks_of, hunk_numbers, numbers_in}
use Rattle.hunks.specs.Calls.{kept, Loads, Moves}

-- ---- numbers of tables

pub length_numbers : (t : List Hunk) → length (numbers_in t) ≡ record_length * length t
unfolding numbers_in
length_numbers [] = refl
length_numbers (h ∷ t) = let e = length_numbers t in omega (arith, e)

pub records_counted : (t : List Hunk) → records_in (numbers_in t) ≡ length t
records_counted t = let e = length_numbers t in omega (arith, e)

numbers_append : (s t : List Hunk) → numbers_in (s ++ t) ≡ numbers_in s ++ numbers_in t
unfolding numbers_in
numbers_append [] t = refl
numbers_append (h ∷ s) t = ap (λ l. hunk_numbers h ++ l) (numbers_append s t)

record_more : (n : ℕ) → record_length * suc n ≡ suc (suc (suc (suc (suc (record_length * n)))))
record_more n = omega arith

numbers_drop : (n : ℕ) (t : List Hunk) → numbers_in (drop n t) ≡ drop (record_length * n) (numbers_in t)
unfolding numbers_in
numbers_drop zero t = refl
numbers_drop (suc n) [] = sym (drop-nil (record_length * suc n))
numbers_drop (suc n) (h ∷ t) = numbers_drop n t ∙ ap (λ k. drop k (numbers_in (h ∷ t))) (sym (record_more n))

-- one number after the other
drop_next : (l : List ℕ) (j k : ℕ) → k ≡ suc j → j < length l → drop j l ≡ get_or l j 0 ∷ drop k l
drop_next l j k e h = drop-cons l j 0 h ∙ ap (λ q. get_or l j 0 ∷ drop q l) (sym e)

pub numbers_from : (ns : List ℕ) (i n : ℕ) → record_length * (i + n) ≤ length ns
    → numbers_in (records_from ns i n) ≡ take (record_length * n) (drop (record_length * i) ns)
unfolding numbers_in records_from
numbers_from ns i zero h = refl
numbers_from ns i (suc n) h =
    let k : ℕ = record_length * i in
    let a = drop_next ns k (k + 1) (omega arith) (omega arith) in
    let b = drop_next ns (k + 1) (k + 2) (omega arith) (omega arith) in
    let c = drop_next ns (k + 2) (k + 3) (omega arith) (omega arith) in
    let d = drop_next ns (k + 3) (k + 4) (omega arith) (omega arith) in
    let e = drop_next ns (k + 4) (record_length * (i + 1)) (omega arith) (omega arith) in
    ap (λ l. hunk_numbers (record_at ns i) ++ l) (numbers_from ns (i + 1) n (omega arith))
    ∙ ap (λ l. take (suc (suc (suc (suc (suc (record_length * n)))))) l)
    (sym (a ∙ ap (λ l. get_or ns k 0 ∷ l)
    (b ∙ ap (λ l. get_or ns (k + 1) 0 ∷ l)
    (c ∙ ap (λ l. get_or ns (k + 2) 0 ∷ l) (d ∙ ap (λ l. get_or ns (k + 3) 0 ∷ l) e)))))
    ∙ ap (λ m. take m (drop k ns)) (sym (record_more n))

-- Filled with a file's records, a table's numbers are the loader's.
pub numbers_table : (file bases : List ℕ) (t : List Hunk) → HeaderFits file
    → numbers_in (hunks_of file bases t) ≡ table_of file bases (numbers_in t)
numbers_table file bases t s =
    let l = length_records file bases s in
    numbers_append (records_from (records_of file bases) 0 (total_of file)) (drop (total_of file) t)
    ∙ ap₂ ◌++◌ (numbers_from (records_of file bases) 0 (total_of file) (omega (arith, l))
    ∙ take_all (record_length * total_of file) (records_of file bases) (omega (arith, l)))
    (numbers_drop (total_of file) t)

-- ---- equal numbers, equal tables

same_hunk : (k l p q s r b c m n : ℕ) → k ≡ l → p ≡ q → s ≡ r → b ≡ c → m ≡ n
    → ◌≡◌ {A = Hunk} (record { kind = k; place = p; size = s; base = b; memory = m })
    (record { kind = l; place = q; size = r; base = c; memory = n })
same_hunk k l p q s r b c m n e f g h i = cc

pub same_table : (s t : List Hunk) → numbers_in s ≡ numbers_in t → s ≡ t
unfolding numbers_in
same_table [] [] e = refl
same_table [] (h ∷ t) e = absurd (omega (arith, ap length e))
same_table (g ∷ s) [] e = absurd (omega (arith, ap length e))
same_table (g ∷ s) (h ∷ t) e =
    let at : (i : ℕ) → get_or (numbers_in (g ∷ s)) i 0
    ≡ get_or (numbers_in (h ∷ t)) i 0 = λ i. ap (λ l. get_or l i 0) e in
    ap₂ ◌∷◌ (same_hunk _ _ _ _ _ _ _ _ _ _ (at 0) (at 1) (at 2) (at 3) (at 4))
    (same_table s t (ap (drop record_length) e))

-- ---- a load and a move, over the numbers of their tables

as_numbers : (a : Answer) (file bases : List ℕ) (t t1 : List Hunk) → t1 ≡ kept a (hunks_of file bases t) t
    → ((x n : ℕ) → a ≡ accepted x n → HeaderFits file)
    → numbers_in t1 ≡ effect a (table_of file bases (numbers_in t)) (numbers_in t)
as_numbers (Ok v) file bases t t1 e f = ap numbers_in e ∙ numbers_table file bases t (f v.hunks v.bytes refl)
as_numbers (Err r) file bases t t1 e f = ap numbers_in e

pub load_numbers : (file bases m : List ℕ) (t : List Hunk) (w : List ℕ) (r : Answer) (m1 : List ℕ) (t1 : List Hunk)
    (w1 : List ℕ)
    → Loads file bases m t w r m1 t1 w1 → numbers.Loads file bases m (numbers_in t) w r m1 (numbers_in t1) w1
load_numbers file bases m t w r m1 t1 w1 l =
    let e : r ≡ load_answer file bases (length m) (records_in (numbers_in t)) (length w) =
    l.answer ∙ ap (λ k. load_answer file bases (length m) k (length w)) (sym (records_counted t)) in
    record {
      answer = e;
      numbers = ap numbers_of e;
      loaded = l.loaded;
      recorded =
          as_numbers r file bases t t1 l.recorded
          (λ x n e. (load_facts file bases (length m) (length t) (length w) x n r l.answer
          e).file_accepted.header);
      clean = l.clean;
    }

pub move_numbers : (file old new m : List ℕ) (t : List Hunk) (w : List ℕ) (r : Answer) (m1 : List ℕ) (t1 : List Hunk)
    (w1 : List ℕ)
    → Moves file old new m t w r m1 t1 w1 → numbers.Moves file old new m (numbers_in t) w r m1 (numbers_in t1) w1
move_numbers file old new m t w r m1 t1 w1 l =
    let e : r ≡ move_answer file old new (length m) (records_in (numbers_in t)) (length w) =
    l.answer ∙ ap (λ k. move_answer file old new (length m) k (length w)) (sym (records_counted t)) in
    record {
      answer = e;
      numbers = ap numbers_of e;
      shifted = l.shifted;
      recorded =
          as_numbers r file new t t1 l.recorded
          (λ x n e. (move_facts file old new (length m) (length t) (length w) x n r l.answer
          e).load.file_accepted.header);
      clean = l.clean;
    }
