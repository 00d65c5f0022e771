-- Laws of words: read, stored and added to. Assumes nothing.
use Rattle.std.proofs.Common.{◌≡◌, ℕ, zero, suc, ◌+◌, ◌-◌, ◌/◌, ◌%◌, ◌^◌, ◌<◌, ◌≤◌, ◌≢◌, ◌⊎◌, List, length, get_or, set}
use Rattle.std.proofs.Common.{sym, refl, ap, ◌∙◌, inl, inr, ⊎_elim, add-zero, mod-eq_of_lt, div-add-mod', arith}
use Rattle.std.proofs.Common.{length-set, get_or-set_other, get_or-set_same, ext_get_or}
use native.Mathlib.Decide.{dec_lt}
use lib.Seq.{set-get_or, set_comm}
use Rattle.words.specs.Word.{Bytes, four, word_at, set_word, add_at}

-- the words at a and b share no byte
abbrev pub Far : ℕ → ℕ → Type 0
Far a b = (a + 4 ≤ b) ⊎ (b + 4 ≤ a)

pub word_at_lt : (s : List ℕ) (at : ℕ) → Bytes s → word_at s at < 2 ^ 32
unfolding word_at
word_at_lt s at h = omega (arith, h at, h (at + 1), h (at + 2), h (at + 3))

pub length_set_word : (s : List ℕ) (at w : ℕ) → length (set_word s at w) ≡ length s
unfolding set_word
length_set_word s at w = simp length-set

module _ (a b c d : ℕ) (hb : b < 256) (hc : c < 256) (hd : d < 256) where
  four_1 : four a b c d / 16777216 ≡ a
  four_1 = omega arith

  four_2 : four a b c d / 65536 % 256 ≡ b
  four_2 = omega arith

  four_3 : four a b c d / 256 % 256 ≡ c
  four_3 = omega arith

  four_4 : four a b c d % 256 ≡ d
  four_4 = omega arith

four_of : (w : ℕ) → w < 2 ^ 32 → four (w / 16777216 % 256) (w / 65536 % 256) (w / 256 % 256) (w % 256) ≡ w
four_of w h =
    let p : w / 256 / 256 ≡ w / 65536 = omega arith in
    let q : w / 65536 / 256 ≡ w / 16777216 = omega arith in
    let r : w / 16777216 % 256 ≡ w / 16777216 = omega arith in
    omega (arith, div-add-mod' w 256, div-add-mod' (w / 256) 256, div-add-mod' (w / 65536) 256)

-- every byte stands before the word at `at`, after it, or is one of its four
pub split : (P : ℕ → Type 0) (at : ℕ) → P at → P (at + 1) → P (at + 2) → P (at + 3) → ((k : ℕ) → k < at → P k)
    → ((k : ℕ) → at + 4 ≤ k → P k) → (k : ℕ) → P k
split P at p0 p1 p2 p3 lo hi k = go (dec_lt k at)
  where
    on : (j : ℕ) → P (at + j)
    on zero = rw add-zero p0
    on (suc zero) = p1
    on (suc (suc zero)) = p2
    on (suc (suc (suc zero))) = p3
    on (suc (suc (suc (suc j)))) = hi (at + suc (suc (suc (suc j)))) (omega arith)

    go : Dec (k < at) → P k
    go (yes h) = lo k h
    go (no h) = let e : at + (k - at) ≡ k = omega arith in rw e at (on (k - at))

module _ (s : List ℕ) (at w : ℕ) where
  set_word_other : (k : ℕ) → k ≢ at → k ≢ at + 1 → k ≢ at + 2 → k ≢ at + 3 → get_or (set_word s at w) k 0 ≡ get_or s k 0
  unfolding set_word
  set_word_other k h0 h1 h2 h3 = simp get_or-set_other

  -- bytes outside the word stay
  pub set_word_below : (k : ℕ) → k < at → get_or (set_word s at w) k 0 ≡ get_or s k 0
  set_word_below k h = set_word_other k (omega arith) (omega arith) (omega arith) (omega arith)

  pub set_word_above : (k : ℕ) → at + 4 ≤ k → get_or (set_word s at w) k 0 ≡ get_or s k 0
  set_word_above k h = set_word_other k (omega arith) (omega arith) (omega arith) (omega arith)

  module _ (fits : at + 4 ≤ length s) where
    pub set_word_0 : get_or (set_word s at w) at 0 ≡ w / 16777216 % 256
    unfolding set_word
    set_word_0 =
        let n1 : at ≢ at + 1 = omega arith in
        let n2 : at ≢ at + 2 = omega arith in
        let n3 : at ≢ at + 3 = omega arith in
        let h : at < length s = omega arith in
        simp (get_or-set_other, get_or-set_same)

    pub set_word_1 : get_or (set_word s at w) (at + 1) 0 ≡ w / 65536 % 256
    unfolding set_word
    set_word_1 =
        let n2 : at + 1 ≢ at + 2 = omega arith in
        let n3 : at + 1 ≢ at + 3 = omega arith in
        let h : at + 1 < length (set s at (w / 16777216 % 256)) = simp length-set (omega arith) in
        simp (get_or-set_other, get_or-set_same)

    pub set_word_2 : get_or (set_word s at w) (at + 2) 0 ≡ w / 256 % 256
    unfolding set_word
    set_word_2 =
        let n3 : at + 2 ≢ at + 3 = omega arith in
        let h : at + 2 < length (set (set s at (w / 16777216 % 256)) (at + 1) (w / 65536 % 256)) =
        simp length-set (omega arith) in
        simp (get_or-set_other, get_or-set_same)

    pub set_word_3 : get_or (set_word s at w) (at + 3) 0 ≡ w % 256
    unfolding set_word
    set_word_3 =
        let h : at + 3 < length (set (set (set s at (w / 16777216 % 256)) (at + 1) (w / 65536 % 256)) (at + 2)
        (w / 256 % 256)) = simp length-set (omega arith) in
        simp get_or-set_same

    pub word_at_same : w < 2 ^ 32 → word_at (set_word s at w) at ≡ w
    unfolding word_at
    word_at_same h = simp (set_word_0, set_word_1, set_word_2, set_word_3) (four_of w h)

  pub word_at_apart : (b : ℕ) → Far at b → word_at (set_word s at w) b ≡ word_at s b
  unfolding word_at
  word_at_apart b f =
      ⊎_elim
      (λ h. rw (
        set_word_above b h,
        set_word_above (b + 1) (omega arith),
        set_word_above (b + 2) (omega arith),
        set_word_above (b + 3) (omega arith),
      ))
      (λ h. rw (
        set_word_below b (omega arith),
        set_word_below (b + 1) (omega arith),
        set_word_below (b + 2) (omega arith),
        set_word_below (b + 3) (omega arith),
      ))
      f

-- the word that stands there, stored again
pub set_word_self : (s : List ℕ) (at : ℕ) → Bytes s → set_word s at (word_at s at) ≡ s
unfolding set_word word_at
set_word_self s at h =
    rw (
      four_1 _ _ _ _ (h (at + 1)) (h (at + 2)) (h (at + 3)),
      mod-eq_of_lt (h at),
      four_2 _ _ _ _ (h (at + 1)) (h (at + 2)) (h (at + 3)),
      four_3 _ _ _ _ (h (at + 1)) (h (at + 2)) (h (at + 3)),
      four_4 _ _ _ _ (h (at + 1)) (h (at + 2)) (h (at + 3)),
      set-get_or,
    )
    (simp set-get_or)

pub set_word_twice : (s : List ℕ) (at v w : ℕ) → at + 4 ≤ length s → set_word (set_word s at v) at w ≡ set_word s at w
set_word_twice s at v w fits =
    let t : List ℕ = set_word s at v in
    let e : length t ≡ length s = length_set_word s at v in
    let f : at + 4 ≤ length t = omega arith in
    ext_get_or 0 (set_word t at w) (set_word s at w) (rw (length_set_word, length_set_word, length_set_word))
    (λ i _. split (λ k. get_or (set_word t at w) k 0 ≡ get_or (set_word s at w) k 0) at
    (set_word_0 t at w f ∙ sym (set_word_0 s at w fits))
    (set_word_1 t at w f ∙ sym (set_word_1 s at w fits))
    (set_word_2 t at w f ∙ sym (set_word_2 s at w fits))
    (set_word_3 t at w f ∙ sym (set_word_3 s at w fits))
    (λ k l. set_word_below t at w k l ∙ set_word_below s at v k l ∙ sym (set_word_below s at w k l))
    (λ k l. set_word_above t at w k l ∙ set_word_above s at v k l ∙ sym (set_word_above s at w k l))
    i)

-- a byte outside the word may be stored before or after
past : (l : List ℕ) (i x at w : ℕ) → i ≢ at → i ≢ at + 1 → i ≢ at + 2 → i ≢ at + 3
    → set_word (set l i x) at w ≡ set (set_word l at w) i x
unfolding set_word
past l i x at w h0 h1 h2 h3 =
    rw (
      set_comm _ i at _ _ h0,
      set_comm _ i (at + 1) _ _ h1,
      set_comm _ i (at + 2) _ _ h2,
      set_comm _ i (at + 3) _ _ h3,
    )

past_off : (l : List ℕ) (i x at w : ℕ) → (i < at) ⊎ (at + 4 ≤ i) → set_word (set l i x) at w ≡ set (set_word l at w) i x
past_off l i x at w f =
    ⊎_elim (λ h. past l i x at w (omega arith) (omega arith) (omega arith) (omega arith))
    (λ h. past l i x at w (omega arith) (omega arith) (omega arith) (omega arith)) f

open4 : (s : List ℕ) (at w : ℕ)
    → set_word s at w ≡ set (set (set (set s at (w / 16777216 % 256)) (at + 1) (w / 65536 % 256)) (at + 2)
    (w / 256 % 256)) (at + 3) (w % 256)
unfolding set_word
open4 s at w = refl

unfold4 : (s : List ℕ) (a v b w : ℕ) → (a < b) ⊎ (b + 4 ≤ a) → (a + 1 < b) ⊎ (b + 4 ≤ a + 1)
    → (a + 2 < b) ⊎ (b + 4 ≤ a + 2) → (a + 3 < b) ⊎ (b + 4 ≤ a + 3)
    → set_word (set_word s a v) b w ≡ set_word (set_word s b w) a v
unfold4 s a v b w o0 o1 o2 o3 =
    ap (λ (l : List ℕ). set_word l b w) (open4 s a v) ∙ (simp past_off) ∙ sym (open4 (set_word s b w) a v)

pub set_word_comm : (s : List ℕ) (a b v w : ℕ) → Far a b → set_word (set_word s a v) b w ≡ set_word (set_word s b w) a v
set_word_comm s a b v w f =
    let o : (i : ℕ) → a ≤ i → i < a + 4 → (i < b) ⊎ (b + 4 ≤ i) =
    λ i p q. ⊎_elim (λ h. inl (omega arith)) (λ h. inr (omega arith)) f in
    let o0 = o a (omega arith) (omega arith) in
    let o1 = o (a + 1) (omega arith) (omega arith) in
    let o2 = o (a + 2) (omega arith) (omega arith) in
    let o3 = o (a + 3) (omega arith) (omega arith) in
    unfold4 s a v b w o0 o1 o2 o3

-- a word depends on its own bytes alone
pub word_at_same_bytes : (s t : List ℕ) (at : ℕ) → ((k : ℕ) → at ≤ k → k < at + 4 → get_or s k 0 ≡ get_or t k 0)
    → word_at s at ≡ word_at t at
unfolding word_at
word_at_same_bytes s t at h =
    rw (
      h at (omega arith) (omega arith),
      h (at + 1) (omega arith) (omega arith),
      h (at + 2) (omega arith) (omega arith),
      h (at + 3) (omega arith) (omega arith),
    )

-- ---- adding

-- byte k is no byte of the word at t
abbrev pub Off : ℕ → ℕ → Type 0
Off k t = (k < t) ⊎ (t + 4 ≤ k)

module _ (s : List ℕ) (at d : ℕ) where
  pub length_add_at : length (add_at s at d) ≡ length s
  unfolding add_at
  length_add_at = length_set_word s at _

  pub add_at_off : (k : ℕ) → Off k at → get_or (add_at s at d) k 0 ≡ get_or s k 0
  unfolding add_at
  add_at_off k o = ⊎_elim (set_word_below s at _ k) (set_word_above s at _ k) o

  pub add_at_apart : (b : ℕ) → Far at b → word_at (add_at s at d) b ≡ word_at s b
  unfolding add_at
  add_at_apart b f = word_at_apart s at _ b f

  pub add_at_comm : (b e : ℕ) → Far at b → add_at (add_at s at d) b e ≡ add_at (add_at s b e) at d
  unfolding add_at
  add_at_comm b e f =
      let g : Far b at = ⊎_elim inr inl f in
      rw (
        word_at_apart s at ((word_at s at + d) % 2 ^ 32) b f,
        word_at_apart s b ((word_at s b + e) % 2 ^ 32) at g,
        set_word_comm s at b _ _ f,
      )

  module _ (fits : at + 4 ≤ length s) where
    pub add_at_same : word_at (add_at s at d) at ≡ (word_at s at + d) % 2 ^ 32
    unfolding add_at
    add_at_same = word_at_same s at _ fits (omega arith)

    pub add_at_twice : (e : ℕ) → add_at (add_at s at d) at e ≡ add_at s at ((d + e) % 2 ^ 32)
    unfolding add_at
    add_at_twice e =
        let w : word_at (set_word s at ((word_at s at + d) % 2 ^ 32)) at ≡ (word_at s at + d) % 2 ^ 32 =
        word_at_same s at _ fits (omega arith) in
        let r : ((word_at s at + d) % 2 ^ 32 + e) % 2 ^ 32 ≡ (word_at s at + (d + e) % 2 ^ 32) % 2 ^ 32 = omega arith in
        rw (w, set_word_twice s at _ _ fits, r)

  -- amounts count modulo 2^32
  pub add_at_mod : (e : ℕ) → d % 2 ^ 32 ≡ e % 2 ^ 32 → add_at s at d ≡ add_at s at e
  unfolding add_at
  add_at_mod e h = ap (λ w. set_word s at w) (omega arith)

pub add_at_zero : (s : List ℕ) (at : ℕ) → Bytes s → add_at s at 0 ≡ s
unfolding add_at
add_at_zero s at b = rw (add-zero, mod-eq_of_lt (word_at_lt s at b), set_word_self s at b)
