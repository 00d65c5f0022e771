-- Laws of names: folding, slots, and the loops over a name's bytes. Assumes nothing.
use Prim.Native.Nat.{ℕ, zero, suc, ◌+◌, ◌-◌, ◌*◌, ◌%◌, ◌<◌, ◌≤◌}
use mathlib.Core.Path.{◌≡◌, refl, ap, sym, ◌∙◌}
use mathlib.Core.Logic.{◌⊎◌, inl, inr}
use mathlib.Core.Bool.{Bool, true, false}
use mathlib.Core.List.{List, [], ◌∷◌, map}
use native.Mathlib.Omega.{arith}
use native.Mathlib.Numerals.{add-one}
use native.Mathlib.Decide.{dec_le, dec_lt}
use lib.Dec.{eqb, leb}
use lib.ListN.{length, get_or, drop, drop_of_length-le}
use lib.Seq.{drop-cons}
use borrow.Author.Tests.{eqb-true, eq-eqb, ne_eqb, le-leb, lt-leb, leb-true}
use Rattle.std.specs.Char.{to_ascii_uppercase}
use Rattle.volume.specs.declared.disk.Disk.{Disk}
use Rattle.answers.specs.Tests.{pick}
use Rattle.answers.proofs.Clashes.{impossible}
use Rattle.volume.specs.Blocks.{slots}
use Rattle.volume.specs.Disks.{folds_accents}
use Rattle.volume.specs.Names.{fold_plain, accented, fold_international, fold_of, folded, hash_from, slot_of, allowed}
use Rattle.volume.specs.Names.{same, longest, name_length, name_of, name_good}

-- ---- the bytes that each folding moves

module _ (b : ℕ) where
  fold_low : b < 97 → fold_plain b ≡ b
  unfolding fold_plain pick
  fold_low h = rw (lt-leb 97 b h)

  fold_high : 122 < b → fold_plain b ≡ b
  unfolding fold_plain pick
  fold_high h = let g : 97 ≤ b = omega arith in rw (le-leb 97 b g, lt-leb b 122 h)

  fold_mid : 97 ≤ b → b ≤ 122 → fold_plain b ≡ b - 32
  unfolding fold_plain pick
  fold_mid g h = rw (le-leb 97 b g, le-leb b 122 h)

pub capital : (b : ℕ) → to_ascii_uppercase b ≡ fold_plain b
unfolding fold_plain pick
capital b = grind arith

module _ (b : ℕ) where
  accented_not : b < 0xE0 → accented b ≡ false
  unfolding accented pick
  accented_not h = rw (lt-leb 0xE0 b h)

  accented_is : accented b ≡ true → (0xE0 ≤ b) × (b ≤ 0xFE)
  unfolding accented pick
  accented_is = go (leb 0xE0 b) refl (leb b 0xFE) refl _
    where
      go : (t : Bool) → leb 0xE0 b ≡ t → (u : Bool) → leb b 0xFE ≡ u → (i : Bool)
          → pick t (pick u i false) false ≡ true → (0xE0 ≤ b) × (b ≤ 0xFE)
      go true p true q i e = (leb-true _ _ p, leb-true _ _ q)
      go true p false q i e = impossible cc
      go false p u q i e = impossible cc

-- ---- a byte's folding, from what code knows of the byte and the disk

module _ (d : Disk) (b r : ℕ) where
  -- below the letters with accents the two foldings are one
  fold_below : b < 0xE0 → r ≡ fold_plain b → r ≡ fold_of d b
  unfolding fold_of fold_international pick
  fold_below h e = e ∙ go (folds_accents d)
    where
      go : (t : Bool) → fold_plain b ≡ pick t (pick (accented b) (b - 0x20) (fold_plain b)) (fold_plain b)
      go true = rw (accented_not b h) refl
      go false = refl

  pub fold_ascii : b < 0x80 → r ≡ fold_plain b → r ≡ fold_of d b
  fold_ascii h e = fold_below (omega arith) e

  module _ (t : Bool) (q : t ≡ folds_accents d) where
    pub fold_accents : t ≡ true → r ≡ fold_international b → r ≡ fold_of d b
    unfolding fold_of pick
    fold_accents h e = e ∙ rw (← q, h) refl

    pub fold_other : t ≡ false → r ≡ fold_plain b → r ≡ fold_of d b
    unfolding fold_of pick
    fold_other h e = e ∙ rw (← q, h) refl

-- ---- what holds of either folding: a byte folds to itself, or to the byte 20 hex lower, which folds to itself

record Capital (d : Disk) (b : ℕ) : Type 0 where
  least : 0x20 ≤ b
  is : fold_of d b ≡ b - 0x20
  stays : fold_of d (b - 0x20) ≡ b - 0x20

folds : (d : Disk) (b : ℕ) → (fold_of d b ≡ b) ⊎ Capital d b
unfolding fold_of fold_international pick
folds d b = low (dec_lt b 97)
  where
    -- what plain folding makes of a byte below the letters with accents
    below : (x y : ℕ) → x < 0xE0 → fold_plain x ≡ y → fold_of d x ≡ y
    below x y h e = sym (fold_below d x y h (sym e))

    far : 122 < b → (t : Bool) → folds_accents d ≡ t → (a : Bool) → accented b ≡ a
        → (fold_of d b ≡ b) ⊎ Capital d b
    far h false p a q = inl (rw p (fold_high b h))
    far h true p false q = inl (rw (p, q) (fold_high b h))
    far h true p true q =
        let l = accented_is b q in
        let x : b - 0x20 < 0xE0 = omega (arith, l.1) in
        let y : 122 < b - 0x20 = omega (arith, l.0) in
        inr (record {
          least = omega arith;
          is = rw (p, q) refl;
          stays = below (b - 0x20) (b - 0x20) x (fold_high (b - 0x20) y);
        })

    high : 97 ≤ b → Dec (b ≤ 122) → (fold_of d b ≡ b) ⊎ Capital d b
    high g (no h) = far (omega arith) (folds_accents d) refl (accented b) refl
    high g (yes h) =
        let x : b < 0xE0 = omega arith in
        let y : b - 0x20 < 0xE0 = omega arith in
        let z : b - 0x20 < 97 = omega arith in
        inr (record {
          least = omega arith;
          is = below b (b - 0x20) x (fold_mid b g h);
          stays = below (b - 0x20) (b - 0x20) y (fold_low (b - 0x20) z);
        })

    low : Dec (b < 97) → (fold_of d b ≡ b) ⊎ Capital d b
    low (yes h) = let x : b < 0xE0 = omega arith in inl (below b b x (fold_low b h))
    low (no h) = high (omega arith) (dec_le b 122)

pub fold_twice : (d : Disk) (b : ℕ) → fold_of d (fold_of d b) ≡ fold_of d b
fold_twice d b = go (folds d b)
  where
    go : (fold_of d b ≡ b) ⊎ Capital d b → fold_of d (fold_of d b) ≡ fold_of d b
    go (inl e) = ap (fold_of d) e
    go (inr c) = rw c.is c.stays

fold_rest : (d : Disk) (b : ℕ) → fold_of d b % 0x20 ≡ b % 0x20
fold_rest d b = go (folds d b)
  where
    go : (fold_of d b ≡ b) ⊎ Capital d b → fold_of d b % 0x20 ≡ b % 0x20
    go (inl e) = ap (λ (x : ℕ). x % 0x20) e
    go (inr c) = let l = c.least in rw c.is (omega arith)

-- two bytes, compared without folding
pub together : (d : Disk) (x y : ℕ) → x ≡ y → true ≡ eqb (fold_of d x) (fold_of d y)
together d x y e = sym (eq-eqb _ _ (ap (fold_of d) e))

pub apart : (d : Disk) (x y : ℕ) → (x % 0x20 ≡ y % 0x20 → ⊥) → false ≡ eqb (fold_of d x) (fold_of d y)
apart d x y n =
    sym (ne_eqb _ _ (λ e. n (sym (fold_rest d x) ∙ ap (λ (z : ℕ). z % 0x20) e ∙ fold_rest d y)))

-- ---- equal folded names have equal slots: a fact of any folding
hash_same : (d : Disk) (h : ℕ) (xs ys : List ℕ) → folded d xs ≡ folded d ys → hash_from d h xs ≡ hash_from d h ys
unfolding hash_from
hash_same d h [] [] e = refl
hash_same d h [] (y ∷ ys) e = cc
hash_same d h (x ∷ xs) [] e = cc
hash_same d h (x ∷ xs) (y ∷ ys) e =
    let p : fold_of d x ≡ fold_of d y = cc in
    let q : folded d xs ≡ folded d ys = cc in
    rw p (hash_same d ((13 * h + fold_of d y) % 2048) xs ys q)

long_same : (f : ℕ → ℕ) (xs ys : List ℕ) → map f xs ≡ map f ys → length xs ≡ length ys
long_same f [] [] e = refl
long_same f [] (y ∷ ys) e = cc
long_same f (x ∷ xs) [] e = cc
long_same f (x ∷ xs) (y ∷ ys) e = let q : map f xs ≡ map f ys = cc in ap suc (long_same f xs ys q)

pub slot_same : (d : Disk) (xs ys : List ℕ) → folded d xs ≡ folded d ys → slot_of d xs ≡ slot_of d ys
unfolding slot_of
slot_same d xs ys e = rw (long_same (fold_of d) xs ys e, hash_same d (length ys) xs ys e)

-- the test of two names says that they fold to one list
pub same_map : (d : Disk) (xs ys : List ℕ) → same d xs ys ≡ true → folded d xs ≡ folded d ys
unfolding same pick
same_map d [] [] e = refl
same_map d [] (y ∷ ys) e = cc
same_map d (x ∷ xs) [] e = cc
same_map d (x ∷ xs) (y ∷ ys) e = go (eqb (fold_of d x) (fold_of d y)) refl e (same_map d xs ys)
  where
    go : (t : Bool) → eqb (fold_of d x) (fold_of d y) ≡ t → pick t (same d xs ys) false ≡ true
        → (same d xs ys ≡ true → folded d xs ≡ folded d ys) → folded d (x ∷ xs) ≡ folded d (y ∷ ys)
    go true p q ih = let f = eqb-true (fold_of d x) (fold_of d y) p in let g = ih q in cc
    go false p q ih = cc

pub map_same : (d : Disk) (xs ys : List ℕ) → folded d xs ≡ folded d ys → same d xs ys ≡ true
unfolding same pick
map_same d [] [] e = refl
map_same d [] (y ∷ ys) e = cc
map_same d (x ∷ xs) [] e = cc
map_same d (x ∷ xs) (y ∷ ys) e =
    let p : fold_of d x ≡ fold_of d y = cc in
    let q : folded d xs ≡ folded d ys = cc in
    rw (eq-eqb _ _ p) (map_same d xs ys q)

-- ---- what is left of a name, the first byte of which is taken off

module _ (s : List ℕ) (i : ℕ) (p : i < length s) where
  pub hash_step : (d : Disk) (h : ℕ)
      → hash_from d ((13 * h + fold_of d (get_or s i 0)) % 2048) (drop (i + 1) s) ≡ hash_from d h (drop i s)
  unfolding hash_from
  hash_step d h = rw (add-one, drop-cons s i 0 p)

  pub allowed_step : (get_or s i 0 ≡ 47 → ⊥) → (get_or s i 0 ≡ 58 → ⊥) → allowed (drop (i + 1) s) ≡ allowed (drop i s)
  unfolding allowed pick
  allowed_step m n = rw (add-one, drop-cons s i 0 p, ne_eqb _ _ m, ne_eqb _ _ n)

  pub allowed_slash : get_or s i 0 ≡ 47 → false ≡ allowed (drop i s)
  unfolding allowed pick
  allowed_slash m = rw (drop-cons s i 0 p, eq-eqb _ _ m)

  pub allowed_colon : (get_or s i 0 ≡ 47 → ⊥) → get_or s i 0 ≡ 58 → false ≡ allowed (drop i s)
  unfolding allowed pick
  allowed_colon m n = rw (drop-cons s i 0 p, ne_eqb _ _ m, eq-eqb _ _ n)

module _ (s : List ℕ) (i : ℕ) (p : length s ≤ i) where
  pub hash_done : (d : Disk) (h : ℕ) → hash_from d h (drop i s) ≡ h
  unfolding hash_from
  hash_done d h = rw (drop_of_length-le s p)

  pub allowed_done : true ≡ allowed (drop i s)
  unfolding allowed
  allowed_done = rw (drop_of_length-le s p)

-- a byte of a name that is looked at
pub ruleset allowing = (allowed_step, allowed_slash, allowed_colon)

-- names of different lengths differ
pub same_long : (d : Disk) (xs ys : List ℕ) → (length xs ≡ length ys → ⊥) → false ≡ same d xs ys
unfolding same pick
same_long d [] [] h = absurd (h refl)
same_long d [] (y ∷ ys) h = refl
same_long d (x ∷ xs) [] h = refl
same_long d (x ∷ xs) (y ∷ ys) h = both (eqb (fold_of d x) (fold_of d y)) (same_long d xs ys (λ e. h (ap suc e)))
  where
    both : {r : Bool} (t : Bool) → false ≡ r → false ≡ pick t r false
    both true e = e
    both false e = refl

module _ (s : List ℕ) (k n : ℕ) (h : n ≡ name_length s k) where
  pub name_not : (n < 1) ⊎ ((1 ≤ n) × (longest < n)) → false ≡ name_good s k
  unfolding name_good pick
  name_not (inl q) = rw (← h, lt-leb 1 n q)
  name_not (inr q) = rw (← h, le-leb 1 n q.0, lt-leb n longest q.1)

  pub name_is : (r : Bool) → 1 ≤ n → n ≤ longest → r ≡ allowed (name_of s k) → r ≡ name_good s k
  unfolding name_good pick
  name_is r p q e = rw (le-leb 1 _ (rw h at p), le-leb _ longest (rw h at q)) e

pub name_short : (s : List ℕ) (k : ℕ) (r : Bool) → r ≡ name_good s k → r ≡ true → name_length s k ≤ longest
unfolding name_good pick
name_short s k r e q = go (leb 1 n) (leb n longest) (allowed (name_of s k)) refl (sym e ∙ q)
  where
    n : ℕ
    n = name_length s k

    go : (a b c : Bool) → leb n longest ≡ b → pick a (pick b c false) false ≡ true → n ≤ longest
    go true true c p q = leb-true n longest p
    go true false c p q = impossible cc
    go false b c p q = impossible cc

-- the slot, from the hash that the loop over a name ends with
pub slot_is : (d : Disk) (s : List ℕ) (i h : ℕ) → length s ≤ i → hash_from d h (drop i s) ≡ hash_from d (length s) s
    → h % slots ≡ slot_of d s
unfolding slot_of
slot_is d s i h p e = rw (sym (hash_done s i p d h) ∙ e)

-- ---- two names of one length, compared byte by byte

module _ (d : Disk) where
  pub same_pairs : (xs ys : List ℕ) → length xs ≡ length ys
      → ((k : ℕ) → k < length xs → fold_of d (get_or xs k 0) ≡ fold_of d (get_or ys k 0)) → true ≡ same d xs ys
  unfolding same pick
  same_pairs [] [] e h = refl
  same_pairs [] (y ∷ ys) e h = impossible cc
  same_pairs (x ∷ xs) [] e h = impossible cc
  same_pairs (x ∷ xs) (y ∷ ys) e h =
      rw (eq-eqb _ _ (h 0 (omega arith))) (same_pairs xs ys (omega arith) (λ k p. h (suc k) (omega arith)))

  pub same_but : (xs ys : List ℕ) (k : ℕ) → k < length xs → k < length ys
      → (fold_of d (get_or xs k 0) ≡ fold_of d (get_or ys k 0) → ⊥) → false ≡ same d xs ys
  unfolding same pick
  same_but [] ys k p q h = absurd (omega arith)
  same_but (x ∷ xs) [] k p q h = absurd (omega arith)
  same_but (x ∷ xs) (y ∷ ys) zero p q h = rw (ne_eqb _ _ h)
  same_but (x ∷ xs) (y ∷ ys) (suc k) p q h =
      both (eqb (fold_of d x) (fold_of d y)) (same_but xs ys k (omega arith) (omega arith) h)
    where
      both : {r : Bool} (t : Bool) → false ≡ r → false ≡ pick t r false
      both true e = e
      both false e = refl
