-- A file as the walk meets it: each block that lists keys, then its data blocks, then the list block after it
-- (`Spread`). A file is as the law says if and only if it is so spread (`file_spreads`). Assumes nothing.
use Prim.Native.Nat.{ℕ, zero, suc, ◌+◌, ◌-◌, ◌*◌, ◌≤◌}
use mathlib.Core.Path.{◌≡◌, refl, sym, ap, ap₂, ◌∙◌}
use mathlib.Core.Logic.{inl, inr, ◌↔◌}
use mathlib.Core.Bool.{true}
use mathlib.Core.List.{List, [], ◌∷◌, ◌++◌, map, head-eq_of_cons-eq, tail-eq_of_cons-eq}
use native.Mathlib.Nat.{zero-add, sub-zero}
use native.Mathlib.Omega.{arith}
use lib.ListN.{length}
use Rattle.reach.specs.References.{At, ◌∈◌}
use Rattle.volume.specs.declared.disk.Disk.{Disk}
use Rattle.volume.specs.Disks.{is_old, file_limit}
use Rattle.volume.specs.Blocks.{slots, word_of}
use Rattle.volume.specs.Files.{keys_here, list_blocks, keys_down, lists_from, keys_from, size_of, blocks_of}
use Rattle.volume.specs.Law.{KeyCount, ListBlock, DataBlock, File}
use Rattle.volume.specs.Breaks.{HeaderSound, DataTies}
use Rattle.volume.proofs.Keys.{down_long, keys_long}
use Rattle.walk.specs.Nodes.{before}

-- ---- keys in a row

-- the last of the keys, or c
abbrev pub last_of : ℕ → List ℕ → ℕ
last_of c [] = c
last_of c (k ∷ ks) = last_of k ks

module _ (s : List ℕ) (b : ℕ) where
  keys_last : (c i n : ℕ) → last_of (before s b c i) (keys_down s b i n) ≡ before s b c (i + n)
  unfolding keys_down
  keys_last c i zero = let e : i ≡ i + 0 = omega arith in ap (before s b c) e
  keys_last c i (suc n) = let e : suc i + n ≡ i + suc n = omega arith in keys_last c (suc i) n ∙ ap (before s b c) e

module _ (d : Disk) (s : List ℕ) (h : ℕ) where
  abbrev N : ℕ
  N = blocks_of d s h

  -- data block n, which follows c: of the Fast File System nothing is asked
  abbrev pub Follows : ℕ → ℕ → ℕ → Type 0
  Follows n c k = is_old d ≡ true → DataTies d s k h n (word_of s c 4)

  -- m data blocks, the last of them c (or the header), and then these
  abbrev pub Run : ℕ → ℕ → List ℕ → Type 0
  Run m c [] = Unit {0}
  Run m c (k ∷ ks) = Follows (suc m) c k × Run (suc m) k ks

  run_append : (m c n : ℕ) (xs ys : List ℕ) → m + length xs ≡ n
      → Run m c (xs ++ ys) ↔ (Run m c xs × Run n (last_of c xs) ys)
  run_append m c n [] ys e = let f : m ≡ n = omega arith in ((λ r. (tt, rw f at r)), (λ r. rw f r.1))
  run_append m c n (x ∷ xs) ys e =
      let w = run_append (suc m) x n xs ys (omega arith) in
      ((λ r. let t = w.0 r.1 in ((r.0, t.0), t.1)), (λ r. (r.0.0, w.1 (r.0.1, r.1))))

  -- the law's two rules of data blocks, for those after the first m, of which c is the last
  abbrev Numbered : ℕ → List ℕ → Type 0
  Numbered m ks = is_old d ≡ true → (i k n : ℕ) → n ≡ suc (m + i) → At i k ks → DataBlock d s h n k

  abbrev Linked : ℕ → List ℕ → Type 0
  Linked c ks = is_old d ≡ true → map (λ k. word_of s k 4) (c ∷ ks) ≡ ks ++ (0 ∷ [])

  linked_end : (c : ℕ) (ks : List ℕ) → length ks ≡ 0 → Linked c ks → is_old d ≡ true → word_of s c 4 ≡ 0
  linked_end c [] e l o = head-eq_of_cons-eq (l o)
  linked_end c (x ∷ ks) e l o = absurd (omega (arith, e))

  law_run : (m c : ℕ) (ks : List ℕ) → m + length ks ≡ N → Numbered m ks → Linked c ks → Run m c ks
  law_run m c [] e b l = tt
  law_run m c (k ∷ ks) e b l = (
    (λ o. record {
      block = b o 0 k (suc m) (omega arith) refl;
      here = head-eq_of_cons-eq (l o);
      last = λ z. linked_end k ks (omega arith) (λ o. tail-eq_of_cons-eq (l o)) o;
    }),
    law_run (suc m) k ks (omega arith) (λ o i x n z a. b o (suc i) x n (omega arith) a) (λ o. tail-eq_of_cons-eq (l o)),
  )

  run_law : (m c : ℕ) (ks : List ℕ) → m + length ks ≡ N → (is_old d ≡ true → m ≡ N → word_of s c 4 ≡ 0) → Run m c ks
      → Numbered m ks × Linked c ks
  run_law m c [] e z r = ((λ o i k n q a. absurd a), λ o. ap (λ x. x ∷ []) (z o (omega arith)))
  run_law m c (k ∷ ks) e z r =
      let t = run_law (suc m) k ks (omega arith) (λ o. (r.0 o).last) r.1 in
      (blocks t.0, λ o. ap₂ (λ x l. x ∷ l) (r.0 o).here (t.1 o))
    where
      blocks : Numbered (suc m) ks → Numbered m (k ∷ ks)
      blocks b o zero x n q a = let f : n ≡ suc m = omega arith in rw (f, a) (r.0 o).block
      blocks b o (suc i) x n q a = b o i x n (omega arith) a

  -- ---- a block that lists keys, and the q list blocks after it

  -- how many keys a block lists that comes after m data blocks
  abbrev pub here : ℕ → ℕ
  here m = keys_here (blocks_of d s h - m)

  abbrev pub Spread : ℕ → ℕ → ℕ → ℕ → Type 0
  Spread zero b m c = KeyCount s b (blocks_of d s h - m) × Run m c (keys_down s b 0 (here m))
  Spread (suc q) b m c =
      KeyCount s b (blocks_of d s h - m) × Run m c (keys_down s b 0 (here m)) × ListBlock s h (word_of s b 126)
      × Spread q (word_of s b 126) (m + here m) (before s b c (here m))

  -- of b itself
  pub spread_first : (q b m c : ℕ) → Spread q b m c
      → KeyCount s b (blocks_of d s h - m) × Run m c (keys_down s b 0 (here m))
  spread_first zero b m c p = p
  spread_first (suc q) b m c p = (p.0, p.1)

  -- the law's rules of the same blocks, r keys still to come
  abbrev Counted : ℕ → ℕ → ℕ → Type 0
  Counted q b r = (i x n : ℕ) → n ≡ r - slots * i → At i x (b ∷ lists_from s b q) → KeyCount s x n

  abbrev Later : ℕ → ℕ → Type 0
  Later q b = (x : ℕ) → x ∈ lists_from s b q → ListBlock s h x

  abbrev keys : ℕ → ℕ → ℕ → List ℕ
  keys q b r = keys_from s r (b ∷ lists_from s b q)

  -- the keys of one block, and those after
  run_here : (m c b r : ℕ) (ys : List ℕ) → r ≡ N - m
      → Run m c (keys_down s b 0 (keys_here r) ++ ys)
      ↔ (Run m c (keys_down s b 0 (here m)) × Run (m + here m) (before s b c (here m)) ys)
  run_here m c b r ys e =
      let f : keys_here r ≡ here m = ap keys_here e in
      let g = keys_last s b c 0 (here m) ∙ ap (before s b c) (zero-add (here m)) in
      rw (f, ← g) (run_append m c (m + here m) (keys_down s b 0 (here m)) ys (ap (m +◌) (down_long s b 0 (here m))))

  law_spread : (q b m c r : ℕ) → r ≡ N - m → Counted q b r → Later q b → Run m c (keys q b r) → Spread q b m c
  unfolding keys_from lists_from
  law_spread zero b m c r e l f k = (l 0 b (N - m) (omega arith) refl, ((run_here m c b r [] e).0 k).0)
  law_spread (suc q) b m c r e l f k =
      let w = (run_here m c b r (keys q (word_of s b 126) (r - slots)) e).0 k in
      let g : r - slots ≡ N - (m + here m) = omega arith in (
        l 0 b (N - m) (omega arith) refl,
        w.0,
        f (word_of s b 126) (inl refl),
        law_spread q (word_of s b 126) (m + here m) (before s b c (here m)) (r - slots) g
            (λ i x n z a. l (suc i) x n (omega arith) a) (λ x a. f x (inr a)) w.1,
      )

  spread_law : (q b m c r : ℕ) → r ≡ N - m → Spread q b m c → Counted q b r × Later q b × Run m c (keys q b r)
  unfolding keys_from lists_from
  spread_law zero b m c r e p = (counted, (λ x a. absurd a), (run_here m c b r [] e).1 (p.1, tt))
    where
      counted : Counted zero b r
      counted zero x n z a = let f : n ≡ N - m = omega arith in rw (f, a) p.0
      counted (suc i) x n z a = absurd a
  spread_law (suc q) b m c r e p =
      let g : r - slots ≡ N - (m + here m) = omega arith in
      let w = spread_law q (word_of s b 126) (m + here m) (before s b c (here m)) (r - slots) g p.3 in
      (counted w.0, later w.1, (run_here m c b r (keys q (word_of s b 126) (r - slots)) e).1 (p.1, w.2))
    where
      counted : Counted q (word_of s b 126) (r - slots) → Counted (suc q) b r
      counted l zero x n z a = let f : n ≡ N - m = omega arith in rw (f, a) p.0
      counted l (suc i) x n z a = l i x n (omega arith) a

      later : Later q (word_of s b 126) → Later (suc q) b
      later f x (inl a) = rw a p.2
      later f x (inr a) = f x a

  -- ---- the whole file

  whole : 0 + length (keys (list_blocks N) h N) ≡ N
  whole = zero-add (length (keys (list_blocks N) h N)) ∙ keys_long d s h

  -- the header's own rules, and the rest
  abbrev pub Spreads : Type 0
  Spreads =
      (size_of s h ≤ file_limit d) × (is_old d ≡ true → blocks_of d s h ≡ 0 → word_of s h 4 ≡ 0)
      × Spread (list_blocks (blocks_of d s h)) h 0 h

  pub file_spreads : File d s h ↔ Spreads
  file_spreads = (spread, file)
    where
      spread : File d s h → Spreads
      spread f = (
        f.size,
        (λ o e. linked_end h (keys (list_blocks N) h N) (omega (arith, whole)) f.following o),
        law_spread (list_blocks N) h 0 h N (omega arith) (λ i x n e a. rw e (f.counts i x a)) f.lists
            (law_run 0 h (keys (list_blocks N) h N) whole
            (λ o i k n e a. let g : n ≡ suc i = omega arith in rw g (f.blocks o i k a)) f.following),
      )

      file : Spreads → File d s h
      file p =
          let w = spread_law (list_blocks N) h 0 h N (omega arith) p.2 in
          let u = run_law 0 h (keys (list_blocks N) h N) whole (λ o q. p.1 o (sym q)) w.2 in
          record {
            size = p.0;
            counts = λ i b a. w.0 i b (N - slots * i) refl a;
            lists = w.1;
            blocks = λ o i k a. u.0 o i k (suc i) (omega arith) a;
            following = u.1;
          }

  -- the header's own rules
  pub file_header : File d s h → HeaderSound d s h
  file_header f =
      let p = file_spreads.0 f in
      record {
        size = p.0;
        lists = rw sub-zero at (spread_first (list_blocks N) h 0 h p.2).0;
        empty = p.1;
      }
