-- Loops that write numbers one after the other. Assumes nothing.
use Rattle.std.proofs.Common.{◌≡◌, ℕ, ◌+◌, ◌<◌, ◌≤◌, List, [], ◌∷◌, ◌++◌, length, take, drop}
use Rattle.std.proofs.Common.{set, sym, refl, ap, ◌∙◌, append_assoc, arith, length-append, length-set}
use Rattle.std.proofs.Common.{take-append-drop, length-take-le}
use lib.Seq.{set_at}
use borrow.Rule.Slice.PartMut.{put_mid}
use Rattle.std.proofs.Common.{◌-◌, length-drop}
use Rattle.loader.specs.Memory.{amount_of, moved}
use Rattle.loader.specs.Table.{with_numbers}

-- ---- numbers put in place of others

pub length_with : (t : List ℕ) (n : ℕ) (xs : List ℕ) → length (with_numbers t n xs) ≡ length t
unfolding with_numbers
length_with t n [] = refl
length_with t n (x ∷ xs) = length_with (set t n x) (n + 1) xs ∙ length-set t n x

-- numbers take the place of as many others
pub over : (done olds more xs : List ℕ) (n : ℕ) → length olds ≡ length xs → length done ≡ n
    → with_numbers (done ++ (olds ++ more)) n xs ≡ done ++ (xs ++ more)
unfolding with_numbers
over done [] more [] n l e = refl
over done [] more (x ∷ xs) n l e = absurd (omega arith)
over done (o ∷ olds) more [] n l e = absurd (omega arith)
over done (o ∷ olds) more (x ∷ xs) n l e =
    ap (λ (u : List ℕ). with_numbers u (n + 1) xs)
    (set_at done o (olds ++ more) x n e ∙ sym (append_assoc done (x ∷ []) (olds ++ more)))
    ∙ over (done ++ (x ∷ [])) olds more xs (n + 1) (omega arith) (omega (arith, length-append done (x ∷ [])))
    ∙ append_assoc done (x ∷ []) (xs ++ more)

-- at the front
pub over_front : (t xs : List ℕ) → length xs ≤ length t → with_numbers t 0 xs ≡ xs ++ drop (length xs) t
over_front t xs l =
    let n : ℕ = length xs in
    ap (λ (u : List ℕ). with_numbers u 0 xs) (sym (take-append-drop n t))
    ∙ over [] (take n t) (drop n t) xs 0 (length-take-le n t l) refl

-- in the middle, as a write to a part of a slice leaves it
pub put_there : (t xs ys : List ℕ) (n : ℕ) → n + length xs ≤ length t → ys ≡ xs
    → put_mid n (n + length xs - n) t ys ≡ with_numbers t n xs
put_there t xs ys n l e =
    let k : ℕ = n + length xs - n in
    let half = length-take-le k (drop n t) (omega (arith, length-drop n t)) in
    ap (λ z. take n t ++ (z ++ drop k (drop n t))) e
    ∙ sym (over (take n t) (take k (drop n t)) (drop k (drop n t)) xs n (half ∙ omega arith)
    (length-take-le n t (omega arith)))
    ∙ ap (λ u. with_numbers u n xs)
    (ap (λ u. take n t ++ u) (take-append-drop k (drop n t)) ∙ take-append-drop n t)

-- ---- differences

-- the differences below i are there; the length stays
pub record Differs (old new m₀ m : List ℕ) (i : ℕ) : Type 0 where
  pub within : i ≤ length new
  pub long : length m ≡ length m₀
  pub done : (k : ℕ) → k < i → amount_of m k ≡ moved old new k
