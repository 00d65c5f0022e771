-- What hunks, written out, ask for: each its record, its stored words and its targets with their bytes in the file,
-- in order. Assumes nothing.
use Rattle.std.specs.Prelude.{Ok, Err}
use Rattle.std.proofs.Common.{◌≡◌, ℕ, suc, ◌+◌, ◌-◌, ◌*◌, ◌/◌, ◌%◌, ◌<◌, ◌≤◌, false, eqb, ◌≢◌, List, [], ◌∷◌, ◌++◌}
use Rattle.std.proofs.Common.{length, refl, ap, ◌∙◌, append_assoc, arith, length-append, le-ltb, lt-ltb, eq-eqb, ne_eqb}
use borrow.Author.Tests.{lt-leb}
use Rattle.program.specs.Types as type
use Rattle.words.specs.Word.{words_at}
use Rattle.answers.specs.Tests.{pick}
use Rattle.program.specs.declared.act.Act.{Act}
use Rattle.program.specs.declared.act.Act.TheVariants as act
use Rattle.program.specs.declared.reader.After.{After}
use Rattle.program.specs.declared.reader.After.TheVariants as after
use Rattle.program.specs.declared.reader.Cursor.{Cursor}
use Rattle.program.specs.declared.reader.Mode.{Mode}
use Rattle.program.specs.declared.reader.Mode.TheVariants as mode
use Rattle.program.specs.Page.{Name, Body, Group, Symbol, Part, Hunk, none, named, code, stores, bss, relocation}
use Rattle.program.specs.Page.{symbols, debug, joined, name_words, body_words, group_words, symbol_words, part_words}
use Rattle.program.specs.Page.{hunk_words, written, Each, body_count, stored_words, OffsetFits, GroupFits, SymbolFits}
use Rattle.program.specs.Page.{PartFits, HunkFits, Program}
use Rattle.program.specs.Spaces.{Space}
use Rattle.program.specs.Header.{total_of, space_of, start_at}
use Rattle.program.specs.Reader.{Next, resume, skip, stored_from, turn, step_of}
use Rattle.program.specs.Acts.{asks, act_of, then, acts, acts_of}
use Rattle.program.proofs.Spaces.{size_same}
use Rattle.program.proofs.Taken.{cursor, AllSpaces, spaces_le}
use Rattle.program.proofs.Pages.{is_total, all_spaces, rest_words}
use Rattle.loader.specs.Pages.{PageTarget, kind_of, offsets_at, groups_at, parts_at, hunk_at}

-- ---- acts without the quiet ones

abbrev pub plain1 : Act → List Act → List Act
plain1 act.Quiet l = l
plain1 (act.Body h p k) l = act.Body h p k ∷ l
plain1 (act.Store p w) l = act.Store p w ∷ l
plain1 (act.Add p k b) l = act.Add p k b ∷ l

unfoldable pub plain : List Act → List Act
plain [] = []
plain (a ∷ us) = plain1 a (plain us)

-- ---- those of hunks

-- words stored from word i of the hunk at byte p on, then l
abbrev pub storing : ℕ → ℕ → List ℕ → List Act → List Act
storing p i [] l = l
storing p i (w ∷ ws) l = act.Store (p + 4 * i) w ∷ storing p (i + 1) ws l

-- targets, then l
abbrev pub adding : List PageTarget → List Act → List Act
adding [] l = l
adding (x ∷ xs) l = act.Add x.loaded_at x.named x.byte ∷ adding xs l

-- hunk h at byte p, from byte `at` of the file on, then l
abbrev pub hunk_acts : ℕ → ℕ → ℕ → Hunk → List Act → List Act
hunk_acts h p at x l = act.Body h p (kind_of x.body) ∷ storing p 0 (stored_words x.body) (adding (hunk_at h p at x) l)

-- hunks from number h on, the first of them at byte p, from byte `at` of the file on
abbrev pub page_acts : ℕ → ℕ → ℕ → List Hunk → List Act
page_acts h p at [] = []
page_acts h p at (x ∷ xs) =
    hunk_acts h p at x (page_acts (h + 1) (p + 4 * x.space.size) (at + 4 * length (hunk_words x)) xs)

adding_append : (xs ys : List PageTarget) (l : List Act) → adding (xs ++ ys) l ≡ adding xs (adding ys l)
adding_append [] ys l = refl
adding_append (x ∷ xs) ys l =
    ap (λ (k : List Act). act.Add x.loaded_at x.named x.byte ∷ k) (adding_append xs ys l)

-- ---- the reader, piece by piece: a piece stands at byte `at`, and what follows it at byte `to`

module _ (t : ℕ) (space : ℕ → Space) where
  abbrev Gives : Cursor → ℕ → List ℕ → List Act → Type 0
  Gives c at ws l = plain (acts t space at c ws) ≡ l

  abbrev Goes : Next → ℕ → List ℕ → List Act → Type 0
  Goes (Ok d) at ws l = Gives d at ws l
  Goes (Err v) at ws l = ⊥

  goes : (r : Next) (at : ℕ) (ws : List ℕ) (a : Act) (l : List Act) → Goes r (at + 4) ws l
      → plain (then r a (λ d. acts t space (at + 4) d ws)) ≡ plain1 a l
  unfolding plain
  goes (Ok d) at ws a l g = ap (plain1 a) g
  goes (Err v) at ws a l g = absurd g

  step : (c : Cursor) (w at : ℕ) (ws : List ℕ) (l : List Act) → Goes (turn t space c w c.mode) (at + 4) ws l
      → plain (acts t space at c (w ∷ ws)) ≡ plain1 (asks c at w c.mode) l
  unfolding acts step_of act_of
  step c w at ws l g = goes (step_of t space c w) at ws (act_of c at w) l g

  module _ (h p s : ℕ) where
    abbrev Here : Mode → ℕ → List ℕ → List Act → Type 0
    Here m at ws l = Gives (cursor m h p s) at ws l

    -- words that are passed over
    passed : (a : After) (rest us : List ℕ) (u at to : ℕ) (l : List Act) → at + 4 * suc (length us) ≡ to
        → Here (resume a) to rest l → Here (mode.Skip (length us) a) at (u ∷ us ++ rest) l
    unfolding pick
    passed a rest [] u at to l e g = let q : at + 4 ≡ to = omega arith in step _ u at _ l (rw q g)
    passed a rest (v ∷ us) u at to l e g =
        let z : suc (length us) - 1 ≡ length us = omega arith in
        step _ u at _ l (rw (ne_eqb (suc (length us)) 0 (omega arith), z)
        (passed a rest us v (at + 4) to l (omega arith) g))

    skipped : (m : Mode) (a : After) (rest us : List ℕ) (at to : ℕ) (l : List Act) → at + 4 * length us ≡ to
        → Here (resume a) to rest l → Goes (skip (cursor m h p s) (length us) a) at (us ++ rest) l
    unfolding pick
    skipped m a rest [] at to l e g = let q : at ≡ to = omega arith in rw q g
    skipped m a rest (u ∷ us) at to l e g =
        let z : suc (length us) - 1 ≡ length us = omega arith in
        rw (ne_eqb (suc (length us)) 0 (omega arith), z) (passed a rest us u at to l e g)

    -- relocations
    offsets_on : (k : ℕ) (rest os : List ℕ) (o at to : ℕ) (l : List Act) → at + 4 * suc (length os) ≡ to
        → Each (OffsetFits s) (o ∷ os) → Here mode.Count to rest l
        → Here (mode.Offset (length os) k) at (o ∷ os ++ rest) (adding (offsets_at h p k at (o ∷ os)) l)
    unfolding pick
    offsets_on k rest [] o at to l e f g =
        let q : at + 4 ≡ to = omega arith in
        step _ o at _ l (rw (eq-eqb (o % 2) 0 f.0.0, le-ltb (4 * s) (o + 4) f.0.1, q) g)
    offsets_on k rest (u ∷ os) o at to l e f g =
        let z : suc (length os) - 1 ≡ length os = omega arith in
        step _ o at _ _ (rw (
          eq-eqb (o % 2) 0 f.0.0,
          le-ltb (4 * s) (o + 4) f.0.1,
          ne_eqb (suc (length os)) 0 (omega arith),
          z,
        )
        (offsets_on k rest os u (at + 4) to l (omega arith) f.1 g))

    group_on : (k : ℕ) (rest os : List ℕ) (at to : ℕ) (l : List Act) → at + 4 * suc (suc (length os)) ≡ to → os ≢ []
        → k < t → Each (OffsetFits s) os → Here mode.Count to rest l
        → Here mode.Count at (length os ∷ k ∷ os ++ rest) (adding (offsets_at h p k (at + 8) os) l)
    unfolding pick
    group_on k rest [] at to l q e lt f g = absurd (e refl)
    group_on k rest (o ∷ os) at to l q e lt f g =
        let z : suc (length os) - 1 ≡ length os = omega arith in
        let y : at + 4 + 4 ≡ at + 8 = omega arith in
        step _ _ at _ _ (rw (ne_eqb (suc (length os)) 0 (omega arith), z)
        (step _ k (at + 4) _ _ (rw (lt-ltb k t lt, y) (offsets_on k rest os o (at + 8) to l (omega arith) f g))))

    groups_on : (gs : List Group) (rest : List ℕ) (at to : ℕ) (l : List Act)
        → at + 4 * suc (length (joined group_words gs)) ≡ to → Each (GroupFits t s) gs → Here mode.Part to rest l
        → Here mode.Count at (joined group_words gs ++ (0 ∷ rest)) (adding (groups_at h p at gs) l)
    unfolding pick
    groups_on [] rest at to l e f g = let q : at + 4 ≡ to = omega arith in step _ 0 at _ l (rw q g)
    groups_on (x ∷ gs) rest at to l e f g =
        let mid : ℕ = at + 4 * length (group_words x) in
        let q : mid + 4 * suc (length (joined group_words gs)) ≡ to =
        omega (arith, length-append x.offsets (joined group_words gs)) in
        rw (
          append_assoc x.offsets (joined group_words gs) (0 ∷ rest),
          adding_append (offsets_at h p x.hunk (at + 8) x.offsets) (groups_at h p mid gs) l,
        )
        (group_on x.hunk _ x.offsets at mid _ refl f.0.some f.0.number f.0.offsets
        (groups_on gs rest mid to l q f.1 g))

    -- symbols
    symbol_on : (v : ℕ) (rest us : List ℕ) (at to : ℕ) (l : List Act) → at + 4 * suc (suc (length us)) ≡ to
        → 1 ≤ length us → length us < 16777216 → Here mode.Symbol to rest l
        → Here mode.Symbol at (length us ∷ us ++ (v ∷ rest)) l
    unfolding pick
    symbol_on v rest [] at to l q m k g = absurd (omega arith)
    symbol_on v rest (u ∷ us) at to l q m k g =
        let e : length (us ++ (v ∷ [])) ≡ suc (length us) = simp length-append (omega arith) in
        let x = passed after.Symbol rest (us ++ (v ∷ [])) u (at + 4) to l (omega (arith, e)) g in
        step _ _ at _ l (rw (ne_eqb (suc (length us)) 0 (omega arith), lt-leb 16777216 (suc (length us)) k)
        (rw (e, append_assoc us (v ∷ []) rest) at x))

    symbols_on : (us : List Symbol) (rest : List ℕ) (at to : ℕ) (l : List Act)
        → at + 4 * suc (length (joined symbol_words us)) ≡ to → Each SymbolFits us → Here mode.Part to rest l
        → Here mode.Symbol at (joined symbol_words us ++ (0 ∷ rest)) l
    unfolding pick
    symbols_on [] rest at to l e f g = let q : at + 4 ≡ to = omega arith in step _ 0 at _ l (rw q g)
    symbols_on (x ∷ us) rest at to l e f g =
        let mid : ℕ = at + 4 * suc (suc (length x.name)) in
        let q : mid + 4 * suc (length (joined symbol_words us)) ≡ to =
        omega (
          arith,
          length-append (x.name ++ (x.value ∷ [])) (joined symbol_words us),
          length-append x.name (x.value ∷ []),
        ) in
        rw (
          append_assoc (x.name ++ (x.value ∷ [])) (joined symbol_words us) (0 ∷ rest),
          append_assoc x.name (x.value ∷ []) (joined symbol_words us ++ (0 ∷ rest)),
        )
        (symbol_on x.value _ x.name at mid l refl f.0.0 f.0.1 (symbols_on us rest mid to l q f.1 g))

    -- what may follow the stored words
    parts_on : (ps : List Part) (rest : List ℕ) (at to : ℕ) (l : List Act)
        → at + 4 * length (joined part_words ps) ≡ to → Each (PartFits t s) ps → Here mode.Part to rest l
        → Here mode.Part at (joined part_words ps ++ rest) (adding (parts_at h p at ps) l)
    unfolding pick
    parts_on [] rest at to l e f g = let q : at ≡ to = omega arith in rw q g
    parts_on (relocation gs ∷ ps) rest at to l e f g =
        let mid : ℕ = at + 4 * length (part_words (relocation gs)) in
        let q : mid + 4 * length (joined part_words ps) ≡ to =
        omega (arith, length-append (part_words (relocation gs)) (joined part_words ps)) in
        let r : at + 4 + 4 * suc (length (joined group_words gs)) ≡ mid =
        omega (arith, length-append (joined group_words gs) (0 ∷ [])) in
        rw (
          append_assoc (part_words (relocation gs)) (joined part_words ps) rest,
          adding_append (groups_at h p (at + 4) gs) (parts_at h p mid ps) l,
        )
        (step _ _ at _ _ (rw (append_assoc (joined group_words gs) (0 ∷ []) (joined part_words ps ++ rest))
        (groups_on gs _ (at + 4) mid _ r f.0 (parts_on ps rest mid to l q f.1 g))))
    parts_on (symbols us ∷ ps) rest at to l e f g =
        let mid : ℕ = at + 4 * length (part_words (symbols us)) in
        let q : mid + 4 * length (joined part_words ps) ≡ to =
        omega (arith, length-append (part_words (symbols us)) (joined part_words ps)) in
        let r : at + 4 + 4 * suc (length (joined symbol_words us)) ≡ mid =
        omega (arith, length-append (joined symbol_words us) (0 ∷ [])) in
        rw (append_assoc (part_words (symbols us)) (joined part_words ps) rest)
        (step _ _ at _ _ (rw (append_assoc (joined symbol_words us) (0 ∷ []) (joined part_words ps ++ rest))
        (symbols_on us _ (at + 4) mid _ r f.0 (parts_on ps rest mid to l q f.1 g))))
    parts_on (debug ws ∷ ps) rest at to l e f g =
        let mid : ℕ = at + 4 * length (part_words (debug ws)) in
        let q : mid + 4 * length (joined part_words ps) ≡ to =
        omega (arith, length-append (part_words (debug ws)) (joined part_words ps)) in
        rw (append_assoc (part_words (debug ws)) (joined part_words ps) rest)
        (step _ _ at _ _ (step _ _ (at + 4) _ _
        (skipped mode.DebugLength after.Part _ ws (at + 4 + 4) mid _ (omega arith)
        (parts_on ps rest mid to l q f.1 g))))

    stored_on : (rest us : List ℕ) (u i at to : ℕ) (l : List Act) → at + 4 * suc (length us) ≡ to
        → i + suc (length us) ≡ s → Here mode.Part to rest l
        → Here (mode.Stored i) at (u ∷ us ++ rest) (storing p i (u ∷ us) l)
    unfolding pick
    stored_on rest [] u i at to l z e g =
        let q : at + 4 ≡ to = omega arith in step _ u at _ l (rw (eq-eqb (i + 1) s e, q) g)
    stored_on rest (v ∷ us) u i at to l z e g =
        step _ u at _ _ (rw (ne_eqb (i + 1) s (omega arith))
        (stored_on rest us v (i + 1) (at + 4) to l (omega arith) (omega arith) g))

  module _ (h p : ℕ) where
    -- stored words, from the first
    all_stored : (m : Mode) (rest us : List ℕ) (at to : ℕ) (l : List Act) → at + 4 * length us ≡ to
        → Gives (cursor mode.Part h p (length us)) to rest l
        → Goes (stored_from (cursor m h p (length us)) 0) at (us ++ rest) (storing p 0 us l)
    unfolding pick
    all_stored m rest [] at to l e g = let q : at ≡ to = omega arith in rw q g
    all_stored m rest (u ∷ us) at to l e g =
        rw (ne_eqb 0 (suc (length us)) (omega arith))
        (stored_on h p (suc (length us)) rest us u 0 at to l e (omega arith) g)

    body_on : (b : Body) (s : ℕ) (rest : List ℕ) (at to : ℕ) (l : List Act) → at + 4 * length (body_words b) ≡ to
        → body_count b ≤ (space h).size → Gives (cursor mode.Part h p (length (stored_words b))) to rest l
        → Gives (cursor mode.Body h p s) at (body_words b ++ rest)
        (act.Body h p (kind_of b) ∷ storing p 0 (stored_words b) l)
    unfolding pick
    body_on (code ws) s rest at to l e k g =
        step _ _ at _ _ (step _ _ (at + 4) _ _
        (rw (le-ltb (space h).size (length ws) k) (all_stored mode.Part rest ws (at + 4 + 4) to l (omega arith) g)))
    body_on (stores ws) s rest at to l e k g =
        step _ _ at _ _ (step _ _ (at + 4) _ _
        (rw (le-ltb (space h).size (length ws) k) (all_stored mode.Part rest ws (at + 4 + 4) to l (omega arith) g)))
    body_on (bss m) s rest at to l e k g =
        let q : at + 4 + 4 ≡ to = omega arith in
        step _ _ at _ _ (step _ _ (at + 4) _ _ (rw (le-ltb (space h).size m k, q) g))

    -- no name
    begin_body : (s w at : ℕ) (ws : List ℕ) (l : List Act) → eqb w type.name ≡ false
        → Gives (cursor mode.Body h p s) at (w ∷ ws) l → Gives (cursor mode.Begin h p s) at (w ∷ ws) l
    unfolding pick acts step_of act_of
    begin_body s w at ws l e g = rw e g

    begin_on : (x : Name) (b : Body) (s : ℕ) (rest : List ℕ) (at to : ℕ) (l : List Act)
        → at + 4 * length (name_words x ++ body_words b) ≡ to → body_count b ≤ (space h).size
        → Gives (cursor mode.Part h p (length (stored_words b))) to rest l
        → Gives (cursor mode.Begin h p s) at (name_words x ++ (body_words b ++ rest))
        (act.Body h p (kind_of b) ∷ storing p 0 (stored_words b) l)
    unfolding pick
    begin_on none (code ws) s rest at to l e k g =
        begin_body s type.code at _ _ refl (body_on (code ws) s rest at to l e k g)
    begin_on none (stores ws) s rest at to l e k g =
        begin_body s type.stores at _ _ refl (body_on (stores ws) s rest at to l e k g)
    begin_on none (bss m) s rest at to l e k g =
        begin_body s type.bss at _ _ refl (body_on (bss m) s rest at to l e k g)
    begin_on (named us) b s rest at to l e k g =
        let mid : ℕ = at + 4 * suc (suc (length us)) in
        let q : mid + 4 * length (body_words b) ≡ to = omega (arith, length-append us (body_words b)) in
        step _ _ at _ _ (step _ _ (at + 4) _ _
        (skipped h p s mode.NameLength after.Body _ us (at + 4 + 4) mid _ (omega arith)
        (body_on b s rest mid to l q k g)))

    -- where hunk h begins, or the end
    abbrev Front : ℕ → List ℕ → List Act → Type 0
    Front at ws l = Gives (cursor (pick (eqb h t) mode.End mode.Begin) h p 0) at ws l

  hunk_length : (x : Hunk)
      → length (hunk_words x) ≡ length (name_words x.name ++ body_words x.body) + length
      (joined part_words x.parts) + 1
  hunk_length x = simp length-append (omega arith)

  hunk_on : (h p : ℕ) (x : Hunk) (rest : List ℕ) (at : ℕ) (l : List Act) → x.space ≡ space h → HunkFits t x
      → Front (h + 1) (p + 4 * (space h).size) (at + 4 * length (hunk_words x)) rest l
      → Gives (cursor mode.Begin h p 0) at (hunk_words x ++ rest) (hunk_acts h p at x l)
  unfolding pick
  hunk_on h p x rest at l e f g =
      let n : ℕ = length (stored_words x.body) in
      let k : body_count x.body ≤ (space h).size = omega (arith, size_same e, f.body) in
      let mid : ℕ = at + 4 * length (name_words x.name ++ body_words x.body) in
      let end : ℕ = mid + 4 * length (joined part_words x.parts) in
      let q : end + 4 ≡ at + 4 * length (hunk_words x) = omega (arith, hunk_length x) in
      let y = parts_on h p n x.parts (type.end ∷ rest) mid end l refl f.parts (step _ _ end _ l (rw q g)) in
      simp append_assoc (begin_on h p x.name x.body 0 (joined part_words x.parts ++ (type.end ∷ rest)) at mid
      _ refl k y)

  hunks_on : (hs : List Hunk) (h p at : ℕ) → AllSpaces t space h hs
      → Front h p at (joined hunk_words hs) (page_acts h p at hs)
  unfolding pick acts plain
  hunks_on [] h p at f = refl
  hunks_on (x ∷ xs) h p at f =
      let k = spaces_le t space (h + 1) xs f.2 in
      rw (ne_eqb h t (omega arith), f.0)
      (hunk_on h p x (joined hunk_words xs) at _ f.0 f.1
      (hunks_on xs (h + 1) (p + 4 * (space h).size) (at + 4 * length (hunk_words x)) f.2))

-- what such a file asks for
pub page_acts_lem : (file : List ℕ) (hs : List Hunk) → Program hs → length file % 4 ≡ 0
    → words_at file 0 (length file / 4) ≡ written hs → plain (acts_of file) ≡ page_acts 0 0 (20 + 4 * length hs) hs
unfolding pick
page_acts_lem file hs p whole e =
    let l : 0 ≡ total_of file → ⊥ = λ z. omega (arith, is_total file hs p whole e, p.least) in
    let g = hunks_on (total_of file) (space_of file) hs 0 0 (start_at file) (all_spaces file hs p whole e) in
    let q : start_at file ≡ 20 + 4 * length hs = omega (arith, is_total file hs p whole e) in
    rw (rest_words file hs p whole e) (rw (ne_eqb 0 (total_of file) l) at g) ∙ ap (λ (k : ℕ). page_acts 0 0 k hs) q
