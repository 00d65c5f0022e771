-- Laws of a changed bit: it is what it was changed to, and every other bit is what it was. Assumes nothing.
use Prim.Native.Nat.{ℕ, zero, suc, ◌+◌, ◌*◌, ◌/◌, ◌%◌, ◌^◌, ◌≤◌, ◌<◌}
use mathlib.Core.Path.{◌≡◌, refl, sym, ap, ◌∙◌, subst}
use mathlib.Core.Logic.{◌≢◌, ◌⊎◌, inl, inr, ⊎_elim}
use mathlib.Core.List.{List, [], ◌∷◌}
use native.Mathlib.Nat.{pow-succ', div-div-eq-div-mul}
use native.Mathlib.Omega.{arith}
use native.Mathlib.Decide.{dec_lt, ℕ_discrete}
use lib.Dec.{eqb}
use lib.ListN.{length, get_or, set, get_or-eq_default}
use lib.Seq.{get_or-set_same, get_or-set_other, set_out}
use Rattle.reach.specs.References.{◌∈◌}
use Rattle.words.specs.Word.{Bytes, word_at, set_word}
use Rattle.words.proofs.Words.{Far, word_at_lt, length_set_word, word_at_same, word_at_apart}
use Rattle.volume.specs.Blocks.{block_bytes, Holds}
use Rattle.volume.specs.Disks.{first_key, most_blocks}
use Rattle.volume.specs.Bitmap.{bit_word, bit_number, is_free}
use Rattle.writes.specs.Writes.{block_of, mended}
use Rattle.writes.specs.Bits.{free_in, with_bit, set_bit, set_bits, map_bits}
use Rattle.writes.proofs.Mending.{word_mended}
use Rattle.writes.proofs.Edits.{length_block, block_byte, block_word}

-- ---- a bit of a number

-- bit p + 1 is bit p of the half
halves : (w p : ℕ) → w / 2 ^ suc p ≡ w / 2 / 2 ^ p
halves w p = ap (λ x. w / x) (pow-succ' 2 p) ∙ sym (div-div-eq-div-mul w 2 (2 ^ p))

bit_same : (w p v : ℕ) → v < 2 → with_bit w p v / 2 ^ p % 2 ≡ v
unfolding with_bit
bit_same w zero v l = omega arith
bit_same w (suc p) v l =
    let e : (w % 2 + 2 * with_bit (w / 2) p v) / 2 ≡ with_bit (w / 2) p v = omega arith in
    ap (λ x. x % 2) (halves (w % 2 + 2 * with_bit (w / 2) p v) p ∙ ap (λ x. x / 2 ^ p) e) ∙ bit_same (w / 2) p v l

bit_other : (w p q v : ℕ) → v < 2 → p ≢ q → with_bit w p v / 2 ^ q % 2 ≡ w / 2 ^ q % 2
unfolding with_bit
bit_other w zero zero v l n = absurd (n refl)
bit_other w zero (suc q) v l n =
    let e : (2 * (w / 2) + v) / 2 ≡ w / 2 = omega arith in
    ap (λ x. x % 2) (halves (2 * (w / 2) + v) q ∙ ap (λ x. x / 2 ^ q) e ∙ sym (halves w q))
bit_other w (suc p) zero v l n = omega arith
bit_other w (suc p) (suc q) v l n =
    let e : (w % 2 + 2 * with_bit (w / 2) p v) / 2 ≡ with_bit (w / 2) p v = omega arith in
    ap (λ x. x % 2) (halves (w % 2 + 2 * with_bit (w / 2) p v) q ∙ ap (λ x. x / 2 ^ q) e) ∙ bit_other
    (w / 2) p q v l (λ z. n (ap suc z)) ∙ ap (λ x. x % 2) (sym (halves w q))

pub bit_small : (n w p v : ℕ) → v < 2 → p < n → w < 2 ^ n → with_bit w p v < 2 ^ n
unfolding with_bit
bit_small zero w p v l a b = absurd (omega arith)
bit_small (suc n) w zero v l a b = let e = pow-succ' 2 n in omega (arith, e)
bit_small (suc n) w (suc p) v l a b =
    let e = pow-succ' 2 n in
    let h = bit_small n (w / 2) p v l (omega arith) (omega (arith, e)) in
    omega (arith, e, h)

-- as code makes it: the old bit out, the new one in
pub bit_adds : (w p v : ℕ) → with_bit w p v + w / 2 ^ p % 2 * 2 ^ p ≡ w + v * 2 ^ p
unfolding with_bit
bit_adds w zero v = omega arith
bit_adds w (suc p) v =
    let h = bit_adds (w / 2) p v in
    let e = pow-succ' 2 p in
    let a : w / 2 / 2 ^ p % 2 * (2 * 2 ^ p) ≡ 2 * (w / 2 / 2 ^ p % 2 * 2 ^ p) = omega arith in
    let b : v * (2 * 2 ^ p) ≡ 2 * (v * 2 ^ p) = omega arith in
    rw (halves w p, e, a, b) (omega (arith, h))

-- ---- a bit of a page

module _ (page : List ℕ) (k v : ℕ) (whole : length page ≡ block_bytes) (bytes : Bytes page)
    (high : k < most_blocks) (bit : v < 2) where
  fits : with_bit (word_at page (4 * bit_word k)) (bit_number k) v < 2 ^ 32
  fits =
      bit_small 32 (word_at page (4 * bit_word k)) (bit_number k) v bit (omega arith)
      (word_at_lt page (4 * bit_word k) bytes)

  word_changed : word_at (set_bit page k v) (4 * bit_word k) ≡ with_bit (word_at page (4 * bit_word k)) (bit_number k) v
  unfolding set_bit
  word_changed = word_at_same page (4 * bit_word k) _ (omega (arith, whole)) fits

  pub length_set_bit : length (set_bit page k v) ≡ block_bytes
  unfolding set_bit
  length_set_bit = length_set_word page (4 * bit_word k) _ ∙ whole

  pub set_bit_same : free_in (set_bit page k v) k ≡ eqb v 1
  unfolding free_in
  set_bit_same =
      ap (λ x. eqb x 1) (ap (λ x. x / 2 ^ bit_number k % 2) word_changed ∙ bit_same (word_at page (4 * bit_word k))
      (bit_number k) v bit)

  pub set_bit_other : (j : ℕ) → first_key ≤ j → first_key ≤ k → j ≢ k → free_in (set_bit page k v) j ≡ free_in page j
  unfolding free_in set_bit
  set_bit_other j a b n = go (ℕ_discrete (bit_word j) (bit_word k))
    where
      apart : bit_word j ≢ bit_word k → Far (4 * bit_word k) (4 * bit_word j)
      apart m = side (dec_lt (bit_word k) (bit_word j))
        where
          side : Dec (bit_word k < bit_word j) → Far (4 * bit_word k) (4 * bit_word j)
          side (yes l) = inl (omega arith)
          side (no l) = let g : bit_word j < bit_word k = omega arith in inr (omega arith)

      go : Dec (bit_word j ≡ bit_word k)
          → eqb
          (word_at (set_word page (4 * bit_word k) (with_bit (word_at page (4 * bit_word k)) (bit_number k) v))
          (4 * bit_word j)
          / 2 ^ bit_number j % 2) 1
          ≡ eqb (word_at page (4 * bit_word j) / 2 ^ bit_number j % 2) 1
      go (yes e) =
          let q : bit_number k ≢ bit_number j = λ z. n (omega (arith, e, z, a, b)) in
          rw (e, word_changed)
          (ap (λ x. eqb x 1) (bit_other (word_at page (4 * bit_word k)) (bit_number k) (bit_number j) v bit q))
      go (no e) =
          rw (word_at_apart page (4 * bit_word k) (with_bit (word_at page (4 * bit_word k)) (bit_number k) v)
          (4 * bit_word j) (apart e)) refl

-- ---- many bits

bytes_set : (s : List ℕ) (i x : ℕ) → x < 256 → Bytes s → Bytes (set s i x)
bytes_set s i x l b j = go (ℕ_discrete j i) (dec_lt i (length s))
  where
    go : Dec (j ≡ i) → Dec (i < length s) → get_or (set s i x) j 0 < 256
    go (yes e) (yes h) = rw (e, get_or-set_same s i x 0 h) l
    go (yes e) (no h) = let g : length s ≤ i = omega arith in rw (set_out s i x g) (b j)
    go (no e) h = rw (get_or-set_other s i j x 0 e) (b j)

low_byte : (w : ℕ) → w % 256 < 256
low_byte w = omega arith

pub bytes_set_word : (s : List ℕ) (at w : ℕ) → Bytes s → Bytes (set_word s at w)
unfolding set_word
bytes_set_word s at w b =
    let s₁ : List ℕ = set s at (w / 16777216 % 256) in
    let s₂ : List ℕ = set s₁ (at + 1) (w / 65536 % 256) in
    let s₃ : List ℕ = set s₂ (at + 2) (w / 256 % 256) in
    bytes_set s₃ (at + 3) (w % 256) (low_byte w)
    (bytes_set s₂ (at + 2) (w / 256 % 256) (low_byte (w / 256))
    (bytes_set s₁ (at + 1) (w / 65536 % 256) (low_byte (w / 65536))
    (bytes_set s at (w / 16777216 % 256) (low_byte (w / 16777216)) b)))

pub bytes_set_bit : (page : List ℕ) (k v : ℕ) → Bytes page → Bytes (set_bit page k v)
unfolding set_bit
bytes_set_bit page k v b =
    bytes_set_word page (4 * bit_word k) (with_bit (word_at page (4 * bit_word k)) (bit_number k) v) b

-- blocks that have a bit
abbrev pub Ranged : List ℕ → Type 0
Ranged ks = (k : ℕ) → k ∈ ks → (first_key ≤ k) × (k < most_blocks)

module _ (v : ℕ) (bit : v < 2) where
  pub length_set_bits : (page ks : List ℕ) → length page ≡ block_bytes → Bytes page → Ranged ks
      → length (set_bits page ks v) ≡ block_bytes
  length_set_bits page [] w b r = w
  length_set_bits page (k ∷ ks) w b r =
      length_set_bits (set_bit page k v) ks (length_set_bit page k v w b (r k (inl refl)).1 bit)
      (bytes_set_bit page k v b) (λ x m. r x (inr m))

  module _ (j : ℕ) (low : first_key ≤ j) where
    -- a bit that is so stays so
    stays : (page ks : List ℕ) → length page ≡ block_bytes → Bytes page → Ranged ks → free_in page j ≡ eqb v 1
        → free_in (set_bits page ks v) j ≡ eqb v 1
    stays page [] w b r e = e
    stays page (k ∷ ks) w b r e =
        stays (set_bit page k v) ks (length_set_bit page k v w b (r k (inl refl)).1 bit)
        (bytes_set_bit page k v b) (λ x m. r x (inr m)) (go (ℕ_discrete j k))
      where
        go : Dec (j ≡ k) → free_in (set_bit page k v) j ≡ eqb v 1
        go (yes q) = rw q (set_bit_same page k v w b (r k (inl refl)).1 bit)
        go (no q) = set_bit_other page k v w b (r k (inl refl)).1 bit j low (r k (inl refl)).0 q ∙ e

    pub set_bits_in : (page ks : List ℕ) → length page ≡ block_bytes → Bytes page → Ranged ks → j ∈ ks
        → free_in (set_bits page ks v) j ≡ eqb v 1
    set_bits_in page [] w b r m = absurd m
    set_bits_in page (k ∷ ks) w b r (inl q) =
        stays (set_bit page k v) ks (length_set_bit page k v w b (r k (inl refl)).1 bit)
        (bytes_set_bit page k v b) (λ x m. r x (inr m))
        (subst (λ x. free_in (set_bit page k v) x ≡ eqb v 1) (sym q)
        (set_bit_same page k v w b (r k (inl refl)).1 bit))
    set_bits_in page (k ∷ ks) w b r (inr m) =
        set_bits_in (set_bit page k v) ks (length_set_bit page k v w b (r k (inl refl)).1 bit)
        (bytes_set_bit page k v b) (λ x m. r x (inr m)) m

    pub set_bits_out : (page ks : List ℕ) → length page ≡ block_bytes → Bytes page → Ranged ks → ¬ (j ∈ ks)
        → free_in (set_bits page ks v) j ≡ free_in page j
    set_bits_out page [] w b r n = refl
    set_bits_out page (k ∷ ks) w b r n =
        set_bits_out (set_bit page k v) ks (length_set_bit page k v w b (r k (inl refl)).1 bit)
        (bytes_set_bit page k v b) (λ x m. r x (inr m)) (λ m. n (inr m))
        ∙ set_bit_other page k v w b (r k (inl refl)).1 bit j low (r k (inl refl)).0 (λ q. n (inl q))

-- the sum of a page is mended in w0, which has no bit
pub mended_bit : (page : List ℕ) → length page ≡ block_bytes → (j : ℕ) → free_in (mended 0 page) j ≡ free_in page j
unfolding free_in
mended_bit page whole j = rw (word_mended 0 page (omega arith) whole (bit_word j) (omega arith)) refl

-- the bitmap block as it stands in an image
pub block_bit : (s : List ℕ) (m : ℕ) → Holds s m → (j : ℕ) → j < most_blocks → free_in (block_of s m) j ≡ is_free s m j
unfolding free_in is_free
block_bit s m h j l = rw (block_word s m h (bit_word j) (omega arith)) refl

pub block_bytes_lem : (s : List ℕ) (m : ℕ) → Holds s m → Bytes s → Bytes (block_of s m)
block_bytes_lem s m h b i = go (dec_lt i block_bytes)
  where
    go : Dec (i < block_bytes) → get_or (block_of s m) i 0 < 256
    go (yes l) = rw (block_byte s m h i l) (b (m * block_bytes + i))
    go (no l) =
        let g : length (block_of s m) ≤ i = omega (arith, length_block s m h, l) in rw
        (get_or-eq_default (block_of s m) 0 g) (omega arith)

-- ---- all bits from a block on

module _ (f : ℕ → ℕ) (bits : (j : ℕ) → f j < 2) where
  pub length_map_bits : (page : List ℕ) (k n : ℕ) → length page ≡ block_bytes → Bytes page → k + n ≤ most_blocks
      → length (map_bits page f k n) ≡ block_bytes
  length_map_bits page k zero w b l = w
  length_map_bits page k (suc n) w b l =
      length_map_bits (set_bit page k (f k)) (suc k) n (length_set_bit page k (f k) w b (omega arith) (bits k))
      (bytes_set_bit page k (f k) b) (omega arith)

  module _ (j : ℕ) (low : first_key ≤ j) where
    -- those before and behind stay
    pub map_bits_out : (page : List ℕ) (k n : ℕ) → length page ≡ block_bytes → Bytes page → first_key ≤ k
        → k + n ≤ most_blocks → (j < k) ⊎ (k + n ≤ j) → free_in (map_bits page f k n) j ≡ free_in page j
    map_bits_out page k zero w b g l o = refl
    map_bits_out page k (suc n) w b g l o =
        map_bits_out (set_bit page k (f k)) (suc k) n (length_set_bit page k (f k) w b (omega arith) (bits k))
        (bytes_set_bit page k (f k) b) (omega arith) (omega arith)
        (⊎_elim (λ h. inl (omega arith)) (λ h. inr (omega arith)) o)
        ∙ set_bit_other page k (f k) w b (omega arith) (bits k) j low g
        (⊎_elim (λ h e. omega (arith, h, e)) (λ h e. omega (arith, h, e)) o)

    pub map_bits_in : (page : List ℕ) (k n : ℕ) → length page ≡ block_bytes → Bytes page → first_key ≤ k
        → k + n ≤ most_blocks → k ≤ j → j < k + n → free_in (map_bits page f k n) j ≡ eqb (f j) 1
    map_bits_in page k zero w b g l p q = absurd (omega arith)
    map_bits_in page k (suc n) w b g l p q =
        go (ℕ_discrete j k)
        (map_bits_in (set_bit page k (f k)) (suc k) n (length_set_bit page k (f k) w b (omega arith) (bits k))
        (bytes_set_bit page k (f k) b) (omega arith) (omega arith))
      where
        go : Dec (j ≡ k) → (suc k ≤ j → j < suc k + n
            → free_in (map_bits (set_bit page k (f k)) f (suc k) n) j ≡ eqb (f j) 1)
            → free_in (map_bits (set_bit page k (f k)) f (suc k) n) j ≡ eqb (f j) 1
        go (yes e) later =
            map_bits_out (set_bit page k (f k)) (suc k) n (length_set_bit page k (f k) w b (omega arith) (bits k))
            (bytes_set_bit page k (f k) b) (omega arith) (omega arith) (inl (omega (arith, e)))
            ∙ subst (λ x. free_in (set_bit page k (f k)) x ≡ eqb (f x) 1) (sym e)
            (set_bit_same page k (f k) w b (omega arith) (bits k))
        go (no e) later = later (omega (arith, e, p)) (omega arith)
