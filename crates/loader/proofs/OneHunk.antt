-- Each target of a page stands in its hunk, at the offset that the file's word at its byte says; so targets that are
-- near are of one hunk. Assumes nothing.
use Rattle.std.proofs.Common.{◌≡◌, ℕ, zero, suc, ◌+◌, ◌-◌, ◌*◌, ◌/◌, ◌<◌, ◌≤◌, ◌⊎◌, List, [], ◌∷◌, ◌++◌, length, sym}
use Rattle.std.proofs.Common.{refl, ap, ◌∙◌, subst, inl, inr, ⊎_elim, append_assoc, arith}
use native.Mathlib.Decide.{dec_lt}
use Rattle.program.specs.Types as type
use Rattle.words.specs.Word.{word_at, words_at}
use Rattle.answers.proofs.Clashes.{impossible}
use Rattle.program.specs.Page.{Group, Part, Hunk, relocation, symbols, debug, joined, name_words, body_words}
use Rattle.program.specs.Page.{group_words, part_words, hunk_words, Each, stored_words, OffsetFits, GroupFits, PartFits}
use Rattle.program.specs.Page.{HunkFits, Holds, total}
use Rattle.program.specs.Header.{start_at}
use Rattle.program.proofs.Heading.{split}
use Rattle.program.proofs.Pages.{is_total, rest_words}
use Rattle.loader.specs.Pages.{PageTarget, Named, offsets_at, groups_at, parts_at, hunk_at, hunks_at, file_targets}
use Rattle.loader.specs.Pages.{size_at, hunk_place}
use Rattle.answers.specs.Members.{◌∈◌}
use Rattle.loader.proofs.PageLoads.{stored_fit}

-- ---- lists

pub each_append : {A : Type 0} (P : A → Type 0) (xs ys : List A) → Each P xs → Each P ys → Each P (xs ++ ys)
each_append P [] ys p q = q
each_append P (x ∷ xs) ys p q = (p.0, each_append P xs ys p.1 q)

pub each_more : {A : Type 0} (P Q : A → Type 0) (xs : List A) → ((x : A) → P x → Q x) → Each P xs → Each Q xs
each_more P Q [] f p = tt
each_more P Q (x ∷ xs) f p = (f x p.0, each_more P Q xs f p.1)

pub each_member : {A : Type 0} (P : A → Type 0) (x : A) (xs : List A) → Each P xs → (x ∈ xs) → P x
each_member P x [] p m = absurd m
each_member P x (y ∷ ys) p (inl e) = subst P (sym e) p.0
each_member P x (y ∷ ys) p (inr m) = each_member P x ys p.1 m

pub member_append : {A : Type 0} (x : A) (xs ys : List A) → (x ∈ (xs ++ ys)) → (x ∈ xs) ⊎ (x ∈ ys)
member_append x [] ys m = inr m
member_append x (z ∷ xs) ys (inl e) = inl (inl e)
member_append x (z ∷ xs) ys (inr m) = ⊎_elim (λ l. inl (inr l)) (λ r. inr r) (member_append x xs ys m)

pub member_left : {A : Type 0} (x : A) (xs ys : List A) → (x ∈ xs) → (x ∈ (xs ++ ys))
member_left x [] ys m = absurd m
member_left x (z ∷ xs) ys (inl e) = inl e
member_left x (z ∷ xs) ys (inr m) = inr (member_left x xs ys m)

pub member_here : {A : Type 0} (x : A) (xs ys : List A) → (x ∈ (xs ++ (x ∷ ys)))
member_here x [] ys = inl refl
member_here x (z ∷ xs) ys = inr (member_here x xs ys)

-- ---- places of hunks

place_none : (i : ℕ) → hunk_place [] i ≡ 0
place_none zero = refl
place_none (suc i) = refl

pub place_next : (hs : List Hunk) (i : ℕ) → hunk_place hs (suc i) ≡ hunk_place hs i + 4 * size_at hs i
place_next [] i = omega (arith, place_none i)
place_next (h ∷ hs) zero = omega arith
place_next (h ∷ hs) (suc i) = omega (arith, place_next hs i)

place_up : (hs : List Hunk) (i j : ℕ) → i ≤ j → hunk_place hs i ≤ hunk_place hs j
place_up [] i j l = omega (arith, place_none i)
place_up (h ∷ hs) zero j l = omega arith
place_up (h ∷ hs) (suc i) zero l = absurd (omega arith)
place_up (h ∷ hs) (suc i) (suc j) l = omega (arith, place_up hs i j (omega arith))

place_most : (hs : List Hunk) (i : ℕ) → hunk_place hs i ≤ 4 * total hs
place_most [] i = omega (arith, place_none i)
place_most (h ∷ hs) zero = omega arith
place_most (h ∷ hs) (suc i) = omega (arith, place_most hs i)

-- ---- each target at its offset, over any places and sizes of the hunks

module _ (file : List ℕ) (places sizes : ℕ → ℕ) where
  abbrev Stands : PageTarget → Type 0
  Stands x =
      (x.loaded_at ≡ places x.hunk + word_at file x.byte) × (word_at file x.byte + 4 ≤ 4 * sizes x.hunk)

  module _ (t n i p : ℕ) (ep : places i ≡ p) (en : n ≤ sizes i) where
    offsets_stand : (k : ℕ) (os rest : List ℕ) (at m : ℕ) → Each (OffsetFits n) os → words_at file at m ≡ os ++ rest
        → Each Stands (offsets_at i p k at os)
    unfolding words_at
    offsets_stand k [] rest at m f e = tt
    offsets_stand k (o ∷ os) rest at zero f e = impossible cc
    offsets_stand k (o ∷ os) rest at (suc m) f e =
        let a : word_at file at ≡ o = cc in
        let b : words_at file (at + 4) m ≡ os ++ rest = cc in
        ((omega (arith, a, ep), omega (arith, a, f.0.1, en)), offsets_stand k os rest (at + 4) m f.1 b)

    groups_stand : (gs : List Group) (rest : List ℕ) (at m : ℕ) → Each (GroupFits t n) gs
        → words_at file at m ≡ joined group_words gs ++ rest → Each Stands (groups_at i p at gs)
    groups_stand [] rest at m f e = tt
    groups_stand (g ∷ gs) rest at m f e =
        let q = e ∙ append_assoc (group_words g) (joined group_words gs) rest in
        let s = split file (group_words g) (joined group_words gs ++ rest) at m q in
        let u = split file (length g.offsets ∷ g.hunk ∷ []) (g.offsets ++ (joined group_words gs ++ rest)) at m q in
        each_append Stands (offsets_at i p g.hunk (at + 8) g.offsets)
        (groups_at i p (at + 4 * length (group_words g)) gs)
        (offsets_stand g.hunk g.offsets _ (at + 8) (m - 2) f.0.offsets u.others)
        (groups_stand gs rest _ _ f.1 s.others)

    parts_stand : (ps : List Part) (rest : List ℕ) (at m : ℕ) → Each (PartFits t n) ps
        → words_at file at m ≡ joined part_words ps ++ rest → Each Stands (parts_at i p at ps)
    parts_stand [] rest at m f e = tt
    parts_stand (relocation gs ∷ ps) rest at m f e =
        let q = e ∙ append_assoc (part_words (relocation gs)) (joined part_words ps) rest in
        let s = split file (part_words (relocation gs)) (joined part_words ps ++ rest) at m q in
        let u =
        split file (type.relocation ∷ []) (joined group_words gs ++ (0 ∷ (joined part_words ps ++ rest))) at m
        (q ∙ ap (λ (l : List ℕ). type.relocation ∷ l)
        (append_assoc (joined group_words gs) (0 ∷ []) (joined part_words ps ++ rest))) in
        each_append Stands (groups_at i p (at + 4) gs) (parts_at i p (at + 4 * length (part_words (relocation gs))) ps)
        (groups_stand gs _ (at + 4) (m - 1) f.0 u.others)
        (parts_stand ps rest _ _ f.1 s.others)
    parts_stand (symbols us ∷ ps) rest at m f e =
        parts_stand ps rest _ _ f.1
        (split file (part_words (symbols us)) (joined part_words ps ++ rest) at m
        (e ∙ append_assoc (part_words (symbols us)) (joined part_words ps) rest)).others
    parts_stand (debug ws ∷ ps) rest at m f e =
        parts_stand ps rest _ _ f.1
        (split file (part_words (debug ws)) (joined part_words ps ++ rest) at m
        (e ∙ append_assoc (part_words (debug ws)) (joined part_words ps) rest)).others

  hunks_stand : (t : ℕ) (hs : List Hunk) (i p at m : ℕ) → Each (HunkFits t) hs
      → ((k : ℕ) → places (i + k) ≡ p + hunk_place hs k) → ((k : ℕ) → sizes (i + k) ≡ size_at hs k)
      → words_at file at m ≡ joined hunk_words hs → Each Stands (hunks_at i p at hs)
  hunks_stand t [] i p at m f g z e = tt
  hunks_stand t (h ∷ hs) i p at m f g z e =
      let n : ℕ = length (stored_words h.body) in
      let front : List ℕ = name_words h.name ++ body_words h.body in
      let parts : List ℕ = joined part_words h.parts in
      let rest : List ℕ = joined hunk_words hs in
      let o : i + 0 ≡ i = omega arith in
      let ep : places i ≡ p = omega (arith, rw o at (g 0)) in
      let es : sizes i ≡ h.space.size = rw o at (z 0) in
      let en : n ≤ sizes i = omega (arith, es, stored_fit h.body, f.0.body) in
      let q : hunk_words h ++ rest ≡ front ++ (parts ++ (type.end ∷ rest)) = simp append_assoc in
      let s = split file (hunk_words h) rest at m e in
      let u = split file front (parts ++ (type.end ∷ rest)) at m (e ∙ q) in
      each_append Stands (hunk_at i p at h)
      (hunks_at (i + 1) (p + 4 * h.space.size) (at + 4 * length (hunk_words h)) hs)
      (parts_stand t n i p ep en h.parts (type.end ∷ rest) _ _ f.0.parts u.others)
      (hunks_stand t hs (i + 1) (p + 4 * h.space.size) _ _ f.1
      (λ k. let y : i + suc k ≡ i + 1 + k = omega arith in omega (arith, rw y at (g (suc k))))
      (λ k. let y : i + suc k ≡ i + 1 + k = omega arith in rw y at (z (suc k)))
      s.others)

-- ---- of a file that holds hunks

module _ (file : List ℕ) (hs : List Hunk) (held : Holds file hs) where
  -- The file's word at a target's byte is its offset in its hunk.
  pub targets_named : Each (Named file hs) (file_targets hs)
  targets_named =
      let q : start_at file ≡ 20 + 4 * length hs =
      omega (arith, is_total file hs held.fits held.whole held.words) in
      let e = rest_words file hs held.fits held.whole held.words in
      each_more (Stands file (hunk_place hs) (size_at hs)) (Named file hs) (file_targets hs)
      (λ x a. record { loaded_at = a.0; within = a.1 })
      (hunks_stand file (hunk_place hs) (size_at hs) (length hs) hs 0 0 (20 + 4 * length hs)
      ((length file - start_at file) / 4) held.fits.hunks
      (λ k. let y : 0 + k ≡ k = omega arith in rw y (omega arith)) (λ k. let y : 0 + k ≡ k = omega arith in rw y)
      (rw (← q) e))

  module _ (x y : PageTarget) (a : Named file hs x) (b : Named file hs y) where
    -- a target of an earlier hunk stands before one of a later hunk
    in_order : x.hunk < y.hunk → x.loaded_at + 4 ≤ y.loaded_at
    in_order l =
        omega (
          arith,
          a.loaded_at,
          a.within,
          b.loaded_at,
          place_next hs x.hunk,
          place_up hs (suc x.hunk) y.hunk (omega arith),
        )

  -- Targets that are near are of one hunk.
  pub near_one_hunk : (x y : PageTarget) → Named file hs x → Named file hs y → x.loaded_at < y.loaded_at + 4
      → y.loaded_at < x.loaded_at + 4 → x.hunk ≡ y.hunk
  near_one_hunk x y a b u v = go (dec_lt x.hunk y.hunk) (dec_lt y.hunk x.hunk)
    where
      go : Dec (x.hunk < y.hunk) → Dec (y.hunk < x.hunk) → x.hunk ≡ y.hunk
      go (yes l) k = absurd (omega (arith, in_order x y a b l))
      go (no l) (yes k) = absurd (omega (arith, in_order y x b a k))
      go (no l) (no k) = omega (arith, l, k)

  -- all targets lie in the hunks
  pub page_within : Each (λ x. x.loaded_at + 4 ≤ 4 * total hs) (file_targets hs)
  page_within =
      each_more (Named file hs) (λ x. x.loaded_at + 4 ≤ 4 * total hs) (file_targets hs)
      (λ x a. omega (arith, a.loaded_at, a.within, place_next hs x.hunk, place_most hs (suc x.hunk)))
      targets_named
