-- Facts on parts of lists. Assumes nothing.
use Prim.Native.Nat.{ℕ, zero, suc, ◌+◌, ◌-◌, ◌≤◌, min}
use mathlib.Core.Path.{◌≡◌, refl, sym, ap, ◌∙◌}
use mathlib.Core.List.{List, [], ◌∷◌, ◌++◌}
use native.Mathlib.Nat.{sub-zero}
use native.Mathlib.Omega.{arith}
use native.Mathlib.Decide.{dec_le}
use lib.ListN.{length, take, drop, length-take, length-drop}
use lib.Seq.{paste, take-nil, take_all, take-take, take-add, take_at, drop_at, drop-drop, length-take-le}
use lib.Seq.{drop-append-le, take-append-le}
use Rattle.reach.specs.References.{At}

module _ {A : Type 0} where
  pub drop_take : (o n : ℕ) (l : List A) → drop o (take n l) ≡ take (n - o) (drop o l)
  drop_take zero n l = rw (sub-zero n) refl
  drop_take (suc o) zero l = let e : 0 - suc o ≡ 0 = omega arith in rw e refl
  drop_take (suc o) (suc n) [] = sym (take-nil (suc n - suc o))
  drop_take (suc o) (suc n) (x ∷ l) = let e : suc n - suc o ≡ n - o = omega arith in rw e (drop_take o n l)

  pub take_least : (m n : ℕ) (l : List A) → take m (take n l) ≡ take (min m n) l
  take_least m n l = go (dec_le m n)
    where
      go : Dec (m ≤ n) → take m (take n l) ≡ take (min m n) l
      go (yes h) = let e : min m n ≡ m = omega arith in rw e (take-take m n l h)
      go (no h) = let e : min m n ≡ n = omega arith in rw e (take_all m (take n l) (omega (arith, length-take n l)))

  pub drop_from : (l : List A) (i : ℕ) (a : A) → At i a l → drop i l ≡ a ∷ drop (suc i) l
  drop_from [] i a h = absurd h
  drop_from (x ∷ l) zero a h = ap (λ y. y ∷ l) (sym h)
  drop_from (x ∷ l) (suc i) a h = drop_from l i a h

-- ---- a list filled from its front on

-- the part p is longer by n in the output: what was copied is what p has there
module _ (p before output more : List ℕ) (done n : ℕ) (e : output ≡ take done p ++ drop done before)
    (m : take n more ≡ take n (drop done p)) (h : done + n ≤ length p) where
  pub filled_more : paste output done more n ≡ take (done + n) p ++ drop (done + n) before
  filled_more =
      let l : length (take done p) ≡ done = length-take-le done p (omega arith) in
      let a : take done output ≡ take done p = rw e (take_at (take done p) (drop done before) done l) in
      let b : drop (done + n) output ≡ drop (done + n) before =
      sym (drop-drop n done output)
      ∙ rw e (rw (drop_at (take done p) (drop done before) done l) (drop-drop n done before)) in
      rw (a, b, m, take-add done n p) refl

-- ---- c elements of y ++ x from position i on: the first n of them end with y, or they are all

module _ (l y x : List ℕ) (i c n : ℕ) (e : l ≡ take c (drop i (y ++ x))) (h : i ≤ length y)
    (m : n ≡ min (length y - i) c) where
  pub turn_front : take n l ≡ take n (drop i y)
  turn_front =
      let a : n ≤ length (drop i y) = rw (length-drop i y) (omega arith) in
      let b : n ≤ c = omega arith in
      rw (e, take-take n c (drop i (y ++ x)) b, drop-append-le i y x h, take-append-le n (drop i y) x a) refl

  pub turn_rest : drop n l ≡ take (c - n) x
  turn_rest = rw (e, drop_take n c (drop i (y ++ x)), drop-drop n i (y ++ x)) (go (dec_le (length y - i) c))
    where
      go : Dec (length y - i ≤ c) → take (c - n) (drop (i + n) (y ++ x)) ≡ take (c - n) x
      go (yes p) = ap (take (c - n)) (drop_at y x (i + n) (omega arith))
      go (no p) = let z : c - n ≡ 0 = omega arith in rw z refl
