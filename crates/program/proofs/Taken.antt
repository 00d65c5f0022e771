-- What holds of a reader after hunks that are written out holds before them (`fronts_on`); so it accepts them
-- (`hunks_on`). Assumes nothing.
use Prim.Native.Nat.{ℕ, suc, ◌+◌, ◌*◌, ◌-◌, ◌%◌, ◌<◌, ◌≤◌}
use mathlib.Core.Path.{◌≡◌, refl}
use mathlib.Core.Logic.{◌≢◌, ◌⊎◌, inl, inr}
use mathlib.Core.List.{List, [], ◌∷◌, ◌++◌, append_assoc, append-nil}
use mathlib.Core.Bool.{false}
use native.Mathlib.Omega.{arith}
use lib.ListN.{length, length-append}
use lib.Dec.{eqb}
use borrow.Author.Tests.{lt-ltb, le-ltb, lt-leb, eq-eqb, ne_eqb}
use Rattle.std.specs.Prelude.{Ok, Err}
use Rattle.program.specs.Types as type
use Rattle.answers.specs.Tests.{pick}
use Rattle.program.specs.declared.reader.After.{After}
use Rattle.program.specs.declared.reader.After.TheVariants as after
use Rattle.program.specs.declared.reader.Cursor.{Cursor}
use Rattle.program.specs.declared.reader.Mode.{Mode}
use Rattle.program.specs.declared.reader.Mode.TheVariants as mode
use Rattle.program.specs.Page.{Name, Body, Group, Symbol, Part, Hunk, none, named, code, stores, bss}
use Rattle.program.specs.Page.{relocation, symbols, debug, joined, name_words, body_words, group_words}
use Rattle.program.specs.Page.{symbol_words, part_words, hunk_words, Each, body_count, stored_words, OffsetFits}
use Rattle.program.specs.Page.{GroupFits, SymbolFits, PartFits, HunkFits, total}
use Rattle.program.specs.Spaces.{Space}
use Rattle.program.specs.Reader.{Next, resume, skip, body_of, stored_from, turn, step_of}
use Rattle.program.specs.Check.{accepted, next, walk}
use Rattle.program.specs.Verdicts.{OfSpaces}
use Rattle.program.proofs.Spaces.{size_same}

abbrev pub cursor : Mode → ℕ → ℕ → ℕ → Cursor
cursor m h p s = record { mode = m; hunk = h; place = p; stored = s }

-- of t hunks, those from h on, with their spaces
abbrev pub AllSpaces : ℕ → (ℕ → Space) → ℕ → List Hunk → Type 0
AllSpaces t space h [] = h ≡ t
AllSpaces t space h (x ∷ xs) = (x.space ≡ space h) × HunkFits t x × AllSpaces t space (h + 1) xs

pub spaces_le : (t : ℕ) (space : ℕ → Space) (h : ℕ) (hs : List Hunk) → AllSpaces t space h hs → h ≤ t
spaces_le t space h [] e = omega arith
spaces_le t space h (x ∷ xs) f = let l = spaces_le t space (h + 1) xs f.2 in omega arith

pub spaces_all : (t : ℕ) (space : ℕ → Space) (h : ℕ) (hs : List Hunk) → AllSpaces t space h hs
    → OfSpaces t space h hs × (h + length hs ≡ t)
spaces_all t space h [] e = (tt, omega arith)
spaces_all t space h (x ∷ xs) f =
    let r = spaces_all t space (h + 1) xs f.2 in ((f.0, f.1, r.0), omega (arith, r.1))

-- a statement on a cursor and the words from it on
abbrev pub Goes : (Cursor → List ℕ → Type 0) → Next → List ℕ → Type 0
Goes Taken (Ok d) ws = Taken d ws
Goes Taken (Err v) ws = ⊥

-- ... where hunk h of t begins, or at the end
abbrev pub Front : (Cursor → List ℕ → Type 0) → ℕ → ℕ → ℕ → List ℕ → Type 0
Front Taken t h p ws = Taken (cursor (pick (eqb h t) mode.End mode.Begin) h p 0) ws

-- one that holds before a word if it holds after it
module _ (t : ℕ) (space : ℕ → Space) (Taken : Cursor → List ℕ → Type 0)
    (step : (c : Cursor) (w : ℕ) (ws : List ℕ) → Goes Taken (turn t space c w c.mode) ws → Taken c (w ∷ ws)) where
  module _ (h p s : ℕ) where
    abbrev Here : Mode → List ℕ → Type 0
    Here m ws = Taken (cursor m h p s) ws

    -- words that are passed over: all, and the first of n
    passed : (a : After) (rest us : List ℕ) (u : ℕ) → Here (resume a) rest
        → Here (mode.Skip (length us) a) (u ∷ us ++ rest)
    unfolding pick
    passed a rest [] u g = step _ u _ g
    passed a rest (v ∷ us) u g =
        let z : suc (length us) - 1 ≡ length us = omega arith in
        step _ u _ (rw (ne_eqb (suc (length us)) 0 (omega arith), z) (passed a rest us v g))

    pub skipped : (m : Mode) (a : After) (rest us : List ℕ) → Here (resume a) rest
        → Goes Taken (skip (cursor m h p s) (length us) a) (us ++ rest)
    unfolding pick
    skipped m a rest [] g = g
    skipped m a rest (u ∷ us) g =
        let z : suc (length us) - 1 ≡ length us = omega arith in
        rw (ne_eqb (suc (length us)) 0 (omega arith), z) (passed a rest us u g)

    pub passing : (a : After) (rest us : List ℕ) (n : ℕ) → length us < n → Here (mode.Skip (n - suc (length us)) a) rest
        → Here (mode.Skip (n - 1) a) (us ++ rest)
    unfolding pick
    passing a rest [] n l g = g
    passing a rest (u ∷ us) n l g =
        let z : n - suc (suc (length us)) ≡ n - 1 - suc (length us) = omega arith in
        step _ u _ (rw (ne_eqb (n - 1) 0 (omega arith)) (passing a rest us (n - 1) (omega arith) (rw z at g)))

    pub skipping : (m : Mode) (a : After) (rest us : List ℕ) (n : ℕ) → length us < n
        → Here (mode.Skip (n - suc (length us)) a) rest
        → Goes Taken (skip (cursor m h p s) n a) (us ++ rest)
    unfolding pick
    skipping m a rest us n l g = rw (ne_eqb n 0 (omega arith)) (passing a rest us n l g)

    -- relocations
    offsets_on : (k : ℕ) (rest os : List ℕ) (o : ℕ) → Each (OffsetFits s) (o ∷ os) → Here mode.Count rest
        → Here (mode.Offset (length os) k) (o ∷ os ++ rest)
    unfolding pick
    offsets_on k rest [] o f g = step _ o _ (rw (eq-eqb (o % 2) 0 f.0.0, le-ltb (4 * s) (o + 4) f.0.1) g)
    offsets_on k rest (q ∷ os) o f g =
        let z : suc (length os) - 1 ≡ length os = omega arith in
        step _ o _ (rw (
          eq-eqb (o % 2) 0 f.0.0,
          le-ltb (4 * s) (o + 4) f.0.1,
          ne_eqb (suc (length os)) 0 (omega arith),
          z,
        ) (offsets_on k rest os q f.1 g))

    -- the first of n offsets
    pub offsetting : (k : ℕ) (rest os : List ℕ) (n : ℕ) → length os < n → Each (OffsetFits s) os
        → Here (mode.Offset (n - suc (length os)) k) rest
        → Here (mode.Offset (n - 1) k) (os ++ rest)
    unfolding pick
    offsetting k rest [] n l f g = g
    offsetting k rest (o ∷ os) n l f g =
        let z : n - suc (suc (length os)) ≡ n - 1 - suc (length os) = omega arith in
        step _ o _ (rw (eq-eqb (o % 2) 0 f.0.0, le-ltb (4 * s) (o + 4) f.0.1, ne_eqb (n - 1) 0 (omega arith))
        (offsetting k rest os (n - 1) (omega arith) f.1 (rw z at g)))

    group_on : (k : ℕ) (rest os : List ℕ) → os ≢ [] → k < t → Each (OffsetFits s) os → Here mode.Count rest
        → Here mode.Count (length os ∷ k ∷ os ++ rest)
    unfolding pick
    group_on k rest [] e l f g = absurd (e refl)
    group_on k rest (o ∷ os) e l f g =
        let z : suc (length os) - 1 ≡ length os = omega arith in
        step _ _ _ (rw (ne_eqb (suc (length os)) 0 (omega arith), z)
        (step _ k _ (rw (lt-ltb k t l) (offsets_on k rest os o f g))))

    pub groups_on : (gs : List Group) (rest : List ℕ) → Each (GroupFits t s) gs → Here mode.Count rest
        → Here mode.Count (joined group_words gs ++ rest)
    groups_on [] rest f g = g
    groups_on (x ∷ gs) rest f g =
        rw (append_assoc x.offsets (joined group_words gs) rest)
        (group_on x.hunk _ x.offsets f.0.some f.0.number f.0.offsets (groups_on gs rest f.1 g))

    -- symbols
    symbol_on : (v : ℕ) (rest us : List ℕ) → 1 ≤ length us → length us < 16777216 → Here mode.Symbol rest
        → Here mode.Symbol (length us ∷ us ++ (v ∷ rest))
    unfolding pick
    symbol_on v rest [] l k g = absurd (omega arith)
    symbol_on v rest (u ∷ us) l k g =
        let e : length (us ++ (v ∷ [])) ≡ suc (length us) = simp length-append (omega arith) in
        let x = passed after.Symbol rest (us ++ (v ∷ [])) u g in
        step _ _ _ (rw (ne_eqb (suc (length us)) 0 (omega arith), lt-leb 16777216 (suc (length us)) k)
        (rw (e, append_assoc us (v ∷ []) rest) at x))

    pub symbols_on : (us : List Symbol) (rest : List ℕ) → Each SymbolFits us → Here mode.Symbol rest
        → Here mode.Symbol (joined symbol_words us ++ rest)
    symbols_on [] rest f g = g
    symbols_on (x ∷ us) rest f g =
        rw (
          append_assoc (x.name ++ (x.value ∷ [])) (joined symbol_words us) rest,
          append_assoc x.name (x.value ∷ []) (joined symbol_words us ++ rest),
        )
        (symbol_on x.value _ x.name f.0.0 f.0.1 (symbols_on us rest f.1 g))

    -- what may follow the stored words
    part_on : (x : Part) (rest : List ℕ) → PartFits t s x → Here mode.Part rest → Here mode.Part (part_words x ++ rest)
    unfolding pick
    part_on (relocation gs) rest f g =
        step _ _ _ (rw (append_assoc (joined group_words gs) (0 ∷ []) rest) (groups_on gs (0 ∷ rest) f (step _ 0 _ g)))
    part_on (symbols us) rest f g =
        step _ _ _ (rw (append_assoc (joined symbol_words us) (0 ∷ []) rest)
        (symbols_on us (0 ∷ rest) f (step _ 0 _ g)))
    part_on (debug ws) rest f g = step _ _ _ (step _ _ _ (skipped mode.DebugLength after.Part rest ws g))

    pub parts_on : (ps : List Part) (rest : List ℕ) → Each (PartFits t s) ps → Here mode.Part rest
        → Here mode.Part (joined part_words ps ++ rest)
    parts_on [] rest f g = g
    parts_on (x ∷ ps) rest f g =
        rw (append_assoc (part_words x) (joined part_words ps) rest) (part_on x _ f.0 (parts_on ps rest f.1 g))

    -- stored words: all, and some
    stored_on : (rest us : List ℕ) (u i : ℕ) → i + suc (length us) ≡ s → Here mode.Part rest
        → Here (mode.Stored i) (u ∷ us ++ rest)
    unfolding pick
    stored_on rest [] u i e g = step _ u _ (rw (eq-eqb (i + 1) s e) g)
    stored_on rest (v ∷ us) u i e g =
        step _ u _ (rw (ne_eqb (i + 1) s (omega arith)) (stored_on rest us v (i + 1) (omega arith) g))

    pub storing : (rest us : List ℕ) (i j : ℕ) → i + length us ≡ j → j < s → Here (mode.Stored j) rest
        → Here (mode.Stored i) (us ++ rest)
    unfolding pick
    storing rest [] i j e l g = let z : i ≡ j = omega arith in rw z g
    storing rest (u ∷ us) i j e l g =
        step _ u _ (rw (ne_eqb (i + 1) s (omega arith)) (storing rest us (i + 1) j (omega arith) l g))

  module _ (h p : ℕ) where
    -- stored words, from the first
    all_stored : (m : Mode) (rest us : List ℕ) → Taken (cursor mode.Part h p (length us)) rest
        → Goes Taken (stored_from (cursor m h p (length us)) 0) (us ++ rest)
    unfolding pick
    all_stored m rest [] g = g
    all_stored m rest (u ∷ us) g =
        rw (ne_eqb 0 (suc (length us)) (omega arith)) (stored_on h p (suc (length us)) rest us u 0 (omega arith) g)

    full_on : (k : ℕ) (ws : List ℕ) (s : ℕ) (rest : List ℕ) → eqb k type.bss ≡ false → length ws ≤ (space h).size
        → Taken (cursor mode.Part h p (length ws)) rest
        → Taken (cursor (mode.Length k) h p s) (length ws ∷ ws ++ rest)
    unfolding pick
    full_on k ws s rest e l g =
        step _ _ _ (rw (le-ltb (space h).size (length ws) l, e) (all_stored mode.Part rest ws g))

    -- a body's type, after a name or none
    kind_goes : (m : Mode) (k s : ℕ) (rest : List ℕ) → (k ≡ type.code) ⊎ (k ≡ type.stores) ⊎ (k ≡ type.bss)
        → Taken (cursor (mode.Length k) h p s) rest
        → Goes Taken (body_of (cursor m h p s) k) rest
    unfolding pick
    kind_goes m k s rest (inl e) g = rw (eq-eqb k type.code e) g
    kind_goes m k s rest (inr (inl e)) g = rw (ne_eqb k type.code (omega arith), eq-eqb k type.stores e) g
    kind_goes m k s rest (inr (inr e)) g =
        rw (ne_eqb k type.code (omega arith), ne_eqb k type.stores (omega arith), eq-eqb k type.bss e) g

    no_name : (k : ℕ) → (k ≡ type.code) ⊎ (k ≡ type.stores) ⊎ (k ≡ type.bss) → k ≡ type.name → ⊥
    no_name k (inl e) = omega arith
    no_name k (inr (inl e)) = omega arith
    no_name k (inr (inr e)) = omega arith

    pub type_on : (x : Name) (k s : ℕ) (rest : List ℕ) → (k ≡ type.code) ⊎ (k ≡ type.stores) ⊎ (k ≡ type.bss)
        → Taken (cursor (mode.Length k) h p s) rest
        → Taken (cursor mode.Begin h p s) (name_words x ++ (k ∷ rest))
    unfolding pick
    type_on none k s rest f g = step _ k _ (rw (ne_eqb k type.name (no_name k f)) (kind_goes mode.Begin k s rest f g))
    type_on (named us) k s rest f g =
        step _ _ _ (step _ _ _ (skipped h p s mode.NameLength after.Body (k ∷ rest) us
        (step _ k _ (kind_goes mode.Body k s rest f g))))

    pub begin_on : (x : Name) (b : Body) (s : ℕ) (rest : List ℕ) → body_count b ≤ (space h).size
        → Taken (cursor mode.Part h p (length (stored_words b))) rest
        → Taken (cursor mode.Begin h p s) (name_words x ++ (body_words b ++ rest))
    unfolding pick
    begin_on x (code ws) s rest l g = type_on x type.code s _ (inl refl) (full_on type.code ws s rest refl l g)
    begin_on x (stores ws) s rest l g =
        type_on x type.stores s _ (inr (inl refl)) (full_on type.stores ws s rest refl l g)
    begin_on x (bss m) s rest l g =
        type_on x type.bss s _ (inr (inr refl)) (step _ _ _ (rw (le-ltb (space h).size m l) g))

  hunk_on : (h p : ℕ) (x : Hunk) (rest : List ℕ) → x.space ≡ space h → HunkFits t x
      → Front Taken t (h + 1) (p + 4 * (space h).size) rest
      → Taken (cursor mode.Begin h p 0) (hunk_words x ++ rest)
  unfolding pick
  hunk_on h p x rest e f g =
      let n : ℕ = length (stored_words x.body) in
      let l : body_count x.body ≤ (space h).size = omega (arith, size_same e, f.body) in
      let y = parts_on h p n x.parts (type.end ∷ rest) f.parts (step _ _ _ g) in
      simp append_assoc (begin_on h p x.name x.body 0 (joined part_words x.parts ++ (type.end ∷ rest)) l y)

  pub fronts_on : (hs : List Hunk) (h p i q : ℕ) (rest : List ℕ) → OfSpaces t space h hs → h + length hs ≡ i → i ≤ t
      → p + 4 * total hs ≡ q
      → Front Taken t i q rest → Front Taken t h p (joined hunk_words hs ++ rest)
  unfolding pick
  fronts_on [] h p i q rest f a l b g =
      let c : h ≡ i = omega arith in
      let d : p ≡ q = omega arith in
      rw (c, d) g
  fronts_on (x ∷ xs) h p i q rest f a l b g =
      rw (ne_eqb h t (omega arith), append_assoc (hunk_words x) (joined hunk_words xs) rest)
      (hunk_on h p x _ f.0 f.1
      (fronts_on xs (h + 1) (p + 4 * (space h).size) i q rest f.2 (omega arith) l
      (omega (arith, size_same f.0)) g))

-- the walk accepts what is written, with n bytes
module _ (t : ℕ) (space : ℕ → Space) (end n : ℕ) where
  abbrev pub Accepts : Cursor → List ℕ → Type 0
  Accepts c ws = (at : ℕ) → walk t space end at c ws ≡ accepted t n

  goes : (r : Next) (ws : List ℕ) (at : ℕ) → Goes Accepts r ws
      → next r at (λ d. walk t space end (at + 4) d ws) ≡ accepted t n
  goes (Ok d) ws at g = g (at + 4)
  goes (Err v) ws at g = absurd g

  step : (c : Cursor) (w : ℕ) (ws : List ℕ) → Goes Accepts (turn t space c w c.mode) ws → Accepts c (w ∷ ws)
  unfolding walk step_of
  step c w ws g at = goes (step_of t space c w) ws at g

  pub hunks_on : (hs : List Hunk) (h p : ℕ) → AllSpaces t space h hs → p + 4 * total hs ≡ n
      → Front Accepts t h p (joined hunk_words hs)
  unfolding pick walk
  hunks_on hs h p f e =
      let z = spaces_all t space h hs f in
      rw append-nil at (fronts_on t space Accepts step hs h p t n [] z.0 z.1 (omega arith) e
      (λ at. rw (eq-eqb t t refl)))
