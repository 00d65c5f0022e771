-- Words determine the hunks that are written out to them, so a file holds one list of hunks at most. Assumes nothing.
use Prim.Native.Nat.{ℕ}
use mathlib.Core.Path.{◌≡◌, refl, sym, subst, ◌∙◌}
use mathlib.Core.List.{List, [], ◌∷◌, ◌++◌, append_assoc}
use native.Mathlib.Omega.{arith}
use lib.ListN.{length, length-map}
use Rattle.program.specs.Types as type
use Rattle.answers.proofs.Clashes.{impossible}
use Rattle.program.specs.Page.{Name, Body, Group, Symbol, Part, Hunk, none, named, code, stores, bss}
use Rattle.program.specs.Page.{relocation, symbols, debug, joined, name_words, body_words, group_words}
use Rattle.program.specs.Page.{symbol_words, part_words, hunk_words, space_words, written, Each, stored_words}
use Rattle.program.specs.Spaces.{Space, space_word}
use Rattle.program.specs.Page.{GroupFits, SymbolFits, PartFits, HunkFits, Program, Holds}
use Rattle.program.proofs.Spaces.{space_same}
use Rattle.program.proofs.Standing.{cons}

-- ---- lists of words

-- words before others, as many here as there
cut : (a b r s : List ℕ) → length a ≡ length b → a ++ r ≡ b ++ s → (a ≡ b) × (r ≡ s)
cut [] [] r s l e = (refl, e)
cut [] (y ∷ b) r s l e = absurd (omega arith)
cut (x ∷ a) [] r s l e = absurd (omega arith)
cut (x ∷ a) (y ∷ b) r s l e =
    let q : x ≡ y = cc in
    let p = cut a b r s (omega arith) (cc) in
    (cons q p.0, p.1)

-- words after their number
counted_same : (a b r s : List ℕ) → length a ∷ a ++ r ≡ length b ∷ b ++ s → (a ≡ b) × (r ≡ s)
counted_same a b r s e = cut a b r s (cc) (cc)

-- lists whose first words differ
differ : {X : Type 0} (a b : ℕ) (r s : List ℕ) → (a ≡ b → ⊥) → a ∷ r ≡ b ∷ s → X
differ a b r s h e = let q : a ≡ b = cc in absurd (h q)

-- pieces one after the other, up to a word with which no piece begins
module _ {A : Type 0} (f : A → List ℕ) (Fits : A → Type 0) (end : ℕ) (one : (x y : A) (r s : List ℕ) → Fits x → Fits y
    → f x ++ r ≡ f y ++ s → (x ≡ y) × (r ≡ s)) (other : (x : A) (r s : List ℕ) → Fits x → f x ++ r ≡ end ∷ s → ⊥)
  where
    joined_same : (xs ys : List A) (r s : List ℕ) → Each Fits xs → Each Fits ys
        → joined f xs ++ (end ∷ r) ≡ joined f ys ++ (end ∷ s) → (xs ≡ ys) × (r ≡ s)
    joined_same [] [] r s p q e = (refl, cc)
    joined_same [] (y ∷ ys) r s p q e =
        let g = e ∙ append_assoc (f y) (joined f ys) (end ∷ s) in absurd (other y _ r q.0 (sym g))
    joined_same (x ∷ xs) [] r s p q e =
        let g = append_assoc (f x) (joined f xs) (end ∷ r) in absurd (other x _ s p.0 (sym g ∙ e))
    joined_same (x ∷ xs) (y ∷ ys) r s p q e =
        let h =
        one x y _ _ p.0 q.0 (sym (append_assoc (f x) (joined f xs) (end ∷ r)) ∙ e
        ∙ append_assoc (f y) (joined f ys) (end ∷ s)) in
        let t = joined_same xs ys r s p.1 q.1 h.1 in
        let a = h.0 in
        let b = t.0 in
        (cc, t.1)

-- ---- the parts of a hunk

group_same : (x y : Group) (r s : List ℕ) → group_words x ++ r ≡ group_words y ++ s → (x ≡ y) × (r ≡ s)
group_same x y r s e =
    let p = cut x.offsets y.offsets r s (cc) (cc) in
    let k : x.hunk ≡ y.hunk = cc in
    (go x.hunk y.hunk x.offsets y.offsets k p.0, p.1)
  where
    go : (k l : ℕ) (a b : List ℕ) → k ≡ l → a ≡ b
        → ◌≡◌ {A = Group} (record { hunk = k; offsets = a }) (record { hunk = l; offsets = b })
    go k l a b p q = cc

symbol_same : (x y : Symbol) (r s : List ℕ) → symbol_words x ++ r ≡ symbol_words y ++ s → (x ≡ y) × (r ≡ s)
symbol_same x y r s e =
    let p =
    counted_same x.name y.name (x.value ∷ r) (y.value ∷ s)
    (flat x.name x.value r y.name y.value s e) in
    let t = p.1 in
    let v : x.value ≡ y.value = cc in
    (go x.value y.value x.name y.name v p.0, cc)
  where
    flat : (a : List ℕ) (v : ℕ) (r b : List ℕ) (w : ℕ) (s : List ℕ)
        → length a ∷ (a ++ (v ∷ [])) ++ r ≡ length b ∷ (b ++ (w ∷ [])) ++ s
        → length a ∷ a ++ (v ∷ r) ≡ length b ∷ b ++ (w ∷ s)
    flat a v r b w s e = rw (append_assoc a (v ∷ []) r, append_assoc b (w ∷ []) s) at e

    go : (v w : ℕ) (a b : List ℕ) → v ≡ w → a ≡ b
        → ◌≡◌ {A = Symbol} (record { name = a; value = v }) (record { name = b; value = w })
    go v w a b p q = cc

module _ (t n : ℕ) where
  groups_same : (x y : List Group) (r s : List ℕ) → Each (GroupFits t n) x → Each (GroupFits t n) y
      → (joined group_words x ++ (0 ∷ [])) ++ r ≡ (joined group_words y ++ (0 ∷ [])) ++ s → (x ≡ y) × (r ≡ s)
  groups_same x y r s p q e =
      joined_same group_words (GroupFits t n) 0 (λ a b u v _ _. group_same a b u v) ends x y r s p q
      (rw (append_assoc (joined group_words x) (0 ∷ []) r, append_assoc (joined group_words y) (0 ∷ []) s) at e)
    where
      none_left : (os : List ℕ) → length os ≡ 0 → os ≡ []
      none_left [] l = refl
      none_left (o ∷ os) l = absurd (omega arith)

      ends : (x : Group) (r s : List ℕ) → GroupFits t n x → group_words x ++ r ≡ 0 ∷ s → ⊥
      ends x r s f e = f.some (none_left x.offsets (cc))

  symbols_same : (x y : List Symbol) (r s : List ℕ) → Each SymbolFits x → Each SymbolFits y
      → (joined symbol_words x ++ (0 ∷ [])) ++ r ≡ (joined symbol_words y ++ (0 ∷ [])) ++ s → (x ≡ y) × (r ≡ s)
  symbols_same x y r s p q e =
      joined_same symbol_words SymbolFits 0 (λ a b u v _ _. symbol_same a b u v) ends x y r s p q
      (rw (append_assoc (joined symbol_words x) (0 ∷ []) r, append_assoc (joined symbol_words y) (0 ∷ []) s) at e)
    where
      ends : (x : Symbol) (r s : List ℕ) → SymbolFits x → symbol_words x ++ r ≡ 0 ∷ s → ⊥
      ends x r s f e = let z : length x.name ≡ 0 = cc in omega (arith, f.0)

  part_same : (x y : Part) (r s : List ℕ) → PartFits t n x → PartFits t n y → part_words x ++ r ≡ part_words y ++ s
      → (x ≡ y) × (r ≡ s)
  part_same (relocation a) (relocation b) r s p q e = let h = groups_same a b r s p q (cc) in let g = h.0 in (cc, h.1)
  part_same (relocation a) (symbols b) r s p q e = differ type.relocation type.symbols _ _ (omega arith) e
  part_same (relocation a) (debug b) r s p q e = differ type.relocation type.debug _ _ (omega arith) e
  part_same (symbols a) (relocation b) r s p q e = differ type.symbols type.relocation _ _ (omega arith) e
  part_same (symbols a) (symbols b) r s p q e = let h = symbols_same a b r s p q (cc) in let g = h.0 in (cc, h.1)
  part_same (symbols a) (debug b) r s p q e = differ type.symbols type.debug _ _ (omega arith) e
  part_same (debug a) (relocation b) r s p q e = differ type.debug type.relocation _ _ (omega arith) e
  part_same (debug a) (symbols b) r s p q e = differ type.debug type.symbols _ _ (omega arith) e
  part_same (debug a) (debug b) r s p q e = let h = counted_same a b r s (cc) in let g = h.0 in (cc, h.1)

  part_ends : (x : Part) (r s : List ℕ) → PartFits t n x → part_words x ++ r ≡ type.end ∷ s → ⊥
  part_ends (relocation a) r s f e = differ type.relocation type.end _ _ (omega arith) e
  part_ends (symbols a) r s f e = differ type.symbols type.end _ _ (omega arith) e
  part_ends (debug a) r s f e = differ type.debug type.end _ _ (omega arith) e

body_same : (x y : Body) (r s : List ℕ) → body_words x ++ r ≡ body_words y ++ s → (x ≡ y) × (r ≡ s)
body_same (code a) (code b) r s e = let h = counted_same a b r s (cc) in let g = h.0 in (cc, h.1)
body_same (code a) (stores b) r s e = differ type.code type.stores _ _ (omega arith) e
body_same (code a) (bss b) r s e = differ type.code type.bss _ _ (omega arith) e
body_same (stores a) (code b) r s e = differ type.stores type.code _ _ (omega arith) e
body_same (stores a) (stores b) r s e = let h = counted_same a b r s (cc) in let g = h.0 in (cc, h.1)
body_same (stores a) (bss b) r s e = differ type.stores type.bss _ _ (omega arith) e
body_same (bss a) (code b) r s e = differ type.bss type.code _ _ (omega arith) e
body_same (bss a) (stores b) r s e = differ type.bss type.stores _ _ (omega arith) e
body_same (bss a) (bss b) r s e = (cc, cc)

-- a body does not begin as a name does
unnamed : {X : Type 0} (b : Body) (r s : List ℕ) → body_words b ++ r ≡ type.name ∷ s → X
unnamed (code a) r s e = differ type.code type.name _ _ (omega arith) e
unnamed (stores a) r s e = differ type.stores type.name _ _ (omega arith) e
unnamed (bss a) r s e = differ type.bss type.name _ _ (omega arith) e

name_same : (x y : Name) (b d : Body) (r s : List ℕ)
    → name_words x ++ (body_words b ++ r) ≡ name_words y ++ (body_words d ++ s)
    → (x ≡ y) × (body_words b ++ r ≡ body_words d ++ s)
name_same none none b d r s e = (refl, e)
name_same none (named y) b d r s e = unnamed b r _ e
name_same (named x) none b d r s e = unnamed d s _ (sym e)
name_same (named x) (named y) b d r s e =
    let h = counted_same x y (body_words b ++ r) (body_words d ++ s) (cc) in let g = h.0 in (cc, h.1)

-- ---- hunks

-- a hunk's words and others, piece by piece
grouped : (x : Hunk) (rest : List ℕ)
    → hunk_words x ++ rest ≡ name_words x.name
    ++ (body_words x.body ++ (joined part_words x.parts ++ (type.end ∷ rest)))
grouped x rest = simp append_assoc

hunk_same : (t : ℕ) (x y : Hunk) (r s : List ℕ) → x.space ≡ y.space → HunkFits t x → HunkFits t y
    → hunk_words x ++ r ≡ hunk_words y ++ s → (x ≡ y) × (r ≡ s)
hunk_same t x y r s z p q e =
    let a = name_same x.name y.name x.body y.body _ _ (sym (grouped x r) ∙ e ∙ grouped y s) in
    let b = body_same x.body y.body _ _ a.1 in
    let n = length (stored_words x.body) in
    let f : Each (PartFits t n) y.parts =
    subst (λ (d : Body). Each (PartFits t (length (stored_words d))) y.parts) (sym b.0) q.parts in
    let d =
    joined_same part_words (PartFits t n) type.end (part_same t n) (part_ends t n) x.parts y.parts r s
    p.parts f b.1 in
    (go _ _ _ _ _ _ _ _ z a.0 b.0 d.0, d.1)
  where
    go : (k l : Space) (u v : Name) (b c : Body) (m n : List Part) → k ≡ l → u ≡ v → b ≡ c → m ≡ n
        → ◌≡◌ {A = Hunk} (record { space = k; name = u; body = b; parts = m })
        (record { space = l; name = v; body = c; parts = n })
    go k l u v b c m n e f g h = cc

hunks_same : (t : ℕ) (xs ys : List Hunk) → space_words xs ≡ space_words ys → Each (HunkFits t) xs
    → Each (HunkFits t) ys
    → joined hunk_words xs ≡ joined hunk_words ys → xs ≡ ys
hunks_same t [] [] z p q e = refl
hunks_same t [] (y ∷ ys) z p q e = impossible cc
hunks_same t (x ∷ xs) [] z p q e = impossible cc
hunks_same t (x ∷ xs) (y ∷ ys) z p q e =
    let s = space_same x.space y.space p.0.space q.0.space (cc) in
    let h = hunk_same t x y _ _ s p.0 q.0 e in
    let a = h.0 in
    let b = hunks_same t xs ys (cc) p.1 q.1 h.1 in
    cc

-- hunks that are written out to the same words are the same hunks
pub written_same : (hs hs' : List Hunk) → Program hs → Program hs' → written hs ≡ written hs' → hs ≡ hs'
written_same hs hs' p q e =
    let n : length hs ≡ length hs' = cc in
    let c =
    cut (space_words hs) (space_words hs') (joined hunk_words hs) (joined hunk_words hs')
    (omega (arith, length-map hs (λ h. space_word h.space), length-map hs' (λ h. space_word h.space))) (cc) in
    hunks_same (length hs) hs hs' c.0 p.hunks (rw n q.hunks) c.1

-- a file holds one list of hunks at most
pub holds_same : (file : List ℕ) (hs hs' : List Hunk) → Holds file hs → Holds file hs' → hs ≡ hs'
holds_same file hs hs' a b = written_same hs hs' a.fits b.fits (sym a.words ∙ b.words)
