-- A table that is filled record by record. Assumes nothing.
use Prim.Native.Nat.{ℕ, zero, suc, ◌+◌, ◌*◌, ◌-◌, ◌<◌, ◌≤◌}
use mathlib.Core.Path.{◌≡◌, refl, sym, ap, ap₂, ◌∙◌}
use mathlib.Core.List.{List, [], ◌∷◌, ◌++◌, append_assoc}
use native.Mathlib.Nat.{not-suc-le-zero, le_of_suc-le-suc}
use native.Mathlib.Omega.{arith}
use lib.ListN.{length, get_or, take, drop, set, length-append, length-drop}
use lib.Seq.{drop-cons, set_at, get_or-append-add, get_or-take, get_or-drop}
use Rattle.loader.specs.Table.{record_length}
use Rattle.hunks.specs.declared.Hunk.{Hunk}
use Rattle.hunks.specs.Records.{record_at, records_from, filled}

pub length_from : (ns : List ℕ) (i n : ℕ) → length (records_from ns i n) ≡ n
unfolding records_from
length_from ns i zero = refl
length_from ns i (suc n) = ap suc (length_from ns (i + 1) n)

-- one more record, at the end
from_more : (ns : List ℕ) (i n : ℕ) → records_from ns i (suc n) ≡ records_from ns i n ++ record_at ns (i + n) ∷ []
unfolding records_from
from_more ns i zero = let e : i ≡ i + 0 = omega arith in ap (λ k. record_at ns k ∷ []) e
from_more ns i (suc n) =
    let e : i + 1 + n ≡ i + suc n = omega arith in
    ap (λ l. record_at ns i ∷ l) (from_more ns (i + 1) n ∙ ap (λ k. records_from ns (i + 1) n ++ record_at ns k ∷ []) e)

-- numbers after the records do not matter
pub from_take : (ns : List ℕ) (k i n : ℕ) → record_length * (i + n) ≤ k
    → records_from (take k ns) i n ≡ records_from ns i n
unfolding records_from
from_take ns k i zero h = refl
from_take ns k i (suc n) h =
    ap₂ ◌∷◌ (rw (
      get_or-take k ns (record_length * i) 0 (omega arith),
      get_or-take k ns (record_length * i + 1) 0 (omega arith),
      get_or-take k ns (record_length * i + 2) 0 (omega arith),
      get_or-take k ns (record_length * i + 3) 0 (omega arith),
      get_or-take k ns (record_length * i + 4) 0 (omega arith),
    ))
    (from_take ns k (i + 1) n (omega arith))

pub filled_zero : (ns : List ℕ) (t : List Hunk) → filled ns 0 t ≡ t
unfolding records_from
filled_zero ns t = refl

pub filled_more : (ns : List ℕ) (i : ℕ) (t : List Hunk) (h r : Hunk) → r ≡ record_at ns i → i < length t
    → set (filled ns i t) i r ≡ filled ns (i + 1) t
filled_more ns i t h r e l =
    let z : i ≡ 0 + i = omega arith in
    let s : suc i ≡ i + 1 = omega arith in
    ap (λ d. set (records_from ns 0 i ++ d) i r) (drop-cons t i h l)
    ∙ set_at (records_from ns 0 i) (get_or t i h) (drop (suc i) t) r i (length_from ns 0 i)
    ∙ sym (append_assoc (records_from ns 0 i) (r ∷ []) (drop (suc i) t))
    ∙ ap (λ q. (records_from ns 0 i ++ q ∷ []) ++ drop (suc i) t) (e ∙ ap (record_at ns) z)
    ∙ ap (λ d. d ++ drop (suc i) t) (sym (from_more ns 0 i))
    ∙ ap (λ k. filled ns k t) s

pub length_filled : (ns : List ℕ) (n : ℕ) (t : List Hunk) → n ≤ length t → length (filled ns n t) ≡ length t
length_filled ns n t h =
    length-append (records_from ns 0 n) (drop n t) ∙ omega (arith, length_from ns 0 n, length-drop n t)

-- ---- what stands at each number

from_at : (ns : List ℕ) (k n i : ℕ) (s : List Hunk) (d : Hunk) → i < n
    → get_or (records_from ns k n ++ s) i d ≡ record_at ns (k + i)
unfolding records_from
from_at ns k zero i s d h = absurd (not-suc-le-zero h)
from_at ns k (suc n) zero s d h = let e : k ≡ k + 0 = omega arith in ap (record_at ns) e
from_at ns k (suc n) (suc i) s d h =
    let e : k + 1 + i ≡ k + suc i = omega arith in
    from_at ns (k + 1) n i s d (le_of_suc-le-suc h) ∙ ap (record_at ns) e

pub record_of_lem : (ns : List ℕ) (n : ℕ) (t : List Hunk) (i : ℕ) (d : Hunk) → i < n
    → get_or (filled ns n t) i d ≡ record_at ns i
record_of_lem ns n t i d h = let e : 0 + i ≡ i = omega arith in from_at ns 0 n i (drop n t) d h ∙ ap (record_at ns) e

pub record_stays : (ns : List ℕ) (n : ℕ) (t : List Hunk) (i : ℕ) (d : Hunk) → n ≤ i
    → get_or (filled ns n t) i d ≡ get_or t i d
record_stays ns n t i d h =
    let l = length_from ns 0 n in
    let e : i ≡ length (records_from ns 0 n) + (i - n) = omega (arith, l) in
    let z : n + (i - n) ≡ i = omega arith in
    ap (λ k. get_or (filled ns n t) k d) e
    ∙ get_or-append-add (records_from ns 0 n) (drop n t) (i - n) d
    ∙ get_or-drop n t (i - n) d
    ∙ ap (λ k. get_or t k d) z
