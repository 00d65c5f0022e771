-- Where whole hunks and a begun one stand before a byte, there the reader comes, and expects what comes next. Assumes
-- nothing.
use Prim.Native.Nat.{ℕ, suc, ◌+◌, ◌*◌, ◌-◌, ◌≤◌}
use mathlib.Core.Path.{◌≡◌, refl, sym, ap, subst, ◌∙◌}
use mathlib.Core.Logic.{◌≢◌, ◌⊎◌, inl, inr}
use mathlib.Core.List.{List, [], ◌∷◌, ◌++◌, append_assoc, append-nil}
use native.Mathlib.Omega.{arith}
use lib.ListN.{length}
use borrow.Author.Tests.{lt-ltb, le-ltb, lt-leb, eq-eqb, ne_eqb}
use Rattle.std.specs.Prelude.{Ok, Err}
use Rattle.program.specs.Spaces.{Space}
use Rattle.program.specs.Types as type
use Rattle.words.specs.Word.{word_at, words_at}
use Rattle.answers.specs.Tests.{pick}
use Rattle.answers.proofs.Clashes.{impossible}
use Rattle.program.specs.declared.reader.After.TheVariants as after
use Rattle.program.specs.declared.reader.Cursor.{Cursor}
use Rattle.program.specs.declared.reader.Mode.{Mode}
use Rattle.program.specs.declared.reader.Mode.TheVariants as mode
use Rattle.program.specs.Page.{Hunk, joined, group_words, symbol_words, part_words, hunk_words, stored_words, total}
use Rattle.program.specs.Begun.{PartBegun, Begun, a_part, a_count, a_number, an_offset, a_symbol, symbol_word}
use Rattle.program.specs.Begun.{debug_length, debug_word, first, name_length, name_word, a_body, body_length}
use Rattle.program.specs.Begun.{body_word, after_body, part_so_far, so_far, PartBegunFits, BegunFits}
use Rattle.program.specs.Header.{total_of, space_of, start_at}
use Rattle.program.specs.Reader.{Next, turn, step_of}
use Rattle.program.specs.Verdicts.{Stand, OfSpaces, Before, AllHunks}
use Rattle.program.proofs.Coming.{Comes, begins, takes}
use Rattle.program.proofs.Taken.{cursor, Goes, Front, skipped, passing, skipping, offsetting, groups_on}
use Rattle.program.proofs.Taken.{symbols_on, parts_on, storing, type_on, begin_on, fronts_on}

-- ---- what the reader expects, and how many words the hunk stores as far as that is known

abbrev pub part_mode : PartBegun → Mode
part_mode a_part = mode.Part
part_mode (a_count gs) = mode.Count
part_mode (a_number gs n) = mode.Number (n - 1)
part_mode (an_offset gs n k os) = mode.Offset (n - suc (length os)) k
part_mode (a_symbol us) = mode.Symbol
part_mode (symbol_word us n ws) = mode.Skip (n + 1 - suc (length ws)) after.Symbol
part_mode debug_length = mode.DebugLength
part_mode (debug_word n ws) = mode.Skip (n - suc (length ws)) after.Part

abbrev pub mode_of : Begun → Mode
mode_of first = mode.Begin
mode_of name_length = mode.NameLength
mode_of (name_word n ws) = mode.Skip (n - suc (length ws)) after.Body
mode_of (a_body ws) = mode.Body
mode_of (body_length x k) = mode.Length k
mode_of (body_word x k n ws) = mode.Stored (length ws)
mode_of (after_body x b ps p) = part_mode p

abbrev pub stored_of : Begun → ℕ
stored_of first = 0
stored_of name_length = 0
stored_of (name_word n ws) = 0
stored_of (a_body ws) = 0
stored_of (body_length x k) = 0
stored_of (body_word x k n ws) = n
stored_of (after_body x b ps p) = length (stored_words b)

-- in hunk h, whose first byte in memory is p
abbrev pub cursor_in : Begun → ℕ → ℕ → Cursor
cursor_in b h p = cursor (mode_of b) h p (stored_of b)

-- after whole hunks: before a word of a begun one, and after the last
abbrev pub cursor_of : List Hunk → Begun → Cursor
cursor_of hs b = cursor_in b (length hs) (4 * total hs)

abbrev pub cursor_past : List Hunk → Cursor
cursor_past hs = cursor mode.End (length hs) (4 * total hs) 0

-- where a hunk is begun, the last has not ended
pub unended : (b : Begun) → mode_of b ≢ mode.End
unended first e = impossible cc
unended name_length e = impossible cc
unended (name_word n ws) e = impossible cc
unended (a_body ws) e = impossible cc
unended (body_length x k) e = impossible cc
unended (body_word x k n ws) e = impossible cc
unended (after_body x b ps q) e = go q e
  where
    go : (q : PartBegun) → part_mode q ≡ mode.End → ⊥
    go a_part e = impossible cc
    go (a_count gs) e = impossible cc
    go (a_number gs n) e = impossible cc
    go (an_offset gs n k os) e = impossible cc
    go (a_symbol us) e = impossible cc
    go (symbol_word us n ws) e = impossible cc
    go debug_length e = impossible cc
    go (debug_word n ws) e = impossible cc

-- ---- a begun hunk's words are taken

module _ (t : ℕ) (space : ℕ → Space) (Taken : Cursor → List ℕ → Type 0)
    (step : (c : Cursor) (w : ℕ) (ws : List ℕ) → Goes Taken (turn t space c w c.mode) ws → Taken c (w ∷ ws))
    (h p : ℕ) where
  part_begun : (s : ℕ) (q : PartBegun) (rest : List ℕ) → PartBegunFits t s q → Taken (cursor (part_mode q) h p s) rest
      → Taken (cursor mode.Part h p s) (part_so_far q ++ rest)
  unfolding pick
  part_begun s a_part rest f g = g
  part_begun s (a_count gs) rest f g = step _ _ _ (groups_on t space Taken step h p s gs rest f g)
  part_begun s (a_number gs n) rest f g =
      step _ _ _ (rw (append_assoc (joined group_words gs) (n ∷ []) rest)
      (groups_on t space Taken step h p s gs (n ∷ rest) f.0
      (step _ n _ (rw (ne_eqb n 0 (omega (arith, f.1))) g))))
  part_begun s (an_offset gs n k os) rest f g =
      let y : Taken (cursor (mode.Number (n - 1)) h p s) (k ∷ os ++ rest) =
      step _ k _ (rw (lt-ltb k t f.1) (offsetting t space Taken step h p s k rest os n f.3 f.2 g)) in
      step _ _ _ (rw (append_assoc (joined group_words gs) (n ∷ k ∷ os) rest)
      (groups_on t space Taken step h p s gs (n ∷ k ∷ os ++ rest) f.0
      (step _ n _ (rw (ne_eqb n 0 (omega (arith, f.3))) y))))
  part_begun s (a_symbol us) rest f g = step _ _ _ (symbols_on t space Taken step h p s us rest f g)
  part_begun s (symbol_word us n ws) rest f g =
      let z : n + 1 - 1 ≡ n = omega arith in
      let y = passing t space Taken step h p s after.Symbol rest ws (n + 1) f.3 g in
      step _ _ _ (rw (append_assoc (joined symbol_words us) (n ∷ ws) rest)
      (symbols_on t space Taken step h p s us (n ∷ ws ++ rest) f.0
      (step _ n _ (rw (ne_eqb n 0 (omega (arith, f.1)), lt-leb 16777216 n f.2) (rw z at y)))))
  part_begun s debug_length rest f g = step _ _ _ g
  part_begun s (debug_word n ws) rest f g =
      step _ _ _ (step _ _ _ (skipping t space Taken step h p s mode.DebugLength after.Part rest ws n f g))

  begun_on : (b : Begun) (rest : List ℕ) → BegunFits t (space h).size b → Taken (cursor_in b h p) rest
      → Taken (cursor mode.Begin h p 0) (so_far b ++ rest)
  unfolding pick
  begun_on first rest f g = g
  begun_on name_length rest f g = step _ _ _ g
  begun_on (name_word n ws) rest f g =
      step _ _ _ (step _ _ _ (skipping t space Taken step h p 0 mode.NameLength after.Body rest ws n f g))
  begun_on (a_body ws) rest f g =
      step _ _ _ (step _ _ _ (skipped t space Taken step h p 0 mode.NameLength after.Body rest ws g))
  begun_on (body_length x k) rest f g = simp append_assoc (type_on t space Taken step h p x k 0 rest f g)
  begun_on (body_word x k n ws) rest f g =
      let y = storing t space Taken step h p n rest ws 0 (length ws) (omega arith) f.2 g in
      simp append_assoc (type_on t space Taken step h p x k 0 (n ∷ ws ++ rest) (stored f.0)
      (step _ n _ (rw (
        le-ltb (space h).size n f.1,
        ne_eqb k type.bss (kept f.0),
        ne_eqb 0 n (omega (arith, f.2)),
      ) y)))
    where
      stored : (k ≡ type.code) ⊎ (k ≡ type.stores) → (k ≡ type.code) ⊎ (k ≡ type.stores) ⊎ (k ≡ type.bss)
      stored (inl e) = inl e
      stored (inr e) = inr (inl e)

      kept : (k ≡ type.code) ⊎ (k ≡ type.stores) → k ≡ type.bss → ⊥
      kept (inl e) = omega arith
      kept (inr e) = omega arith
  begun_on (after_body x b ps q) rest f g =
      let n = length (stored_words b) in
      simp append_assoc (begin_on t space Taken step h p x b 0 (joined part_words ps ++ (part_so_far q ++ rest)) f.0
      (parts_on t space Taken step h p n ps (part_so_far q ++ rest) f.1 (part_begun n q rest f.2 g)))

-- ---- so the reader comes there

-- G follows, from this cursor and these words on, if the reader comes to the byte `end` after them
abbrev Leads : List ℕ → ℕ → Type 0 → Cursor → List ℕ → Type 0
Leads file end G c ws = (at : ℕ) → Comes file c at → at + 4 * length ws ≡ end → words_at file at (length ws) ≡ ws → G

module _ (file : List ℕ) (end : ℕ) (within : end ≤ length file) (G : Type 0) where
  lead : (r : Next) (c : Cursor) (w : ℕ) (ws : List ℕ) → step_of (total_of file) (space_of file) c w ≡ r
      → Goes (Leads file end G) r ws
      → Leads file end G c (w ∷ ws)
  unfolding words_at
  lead (Ok d) c w ws e g at r l x =
      let v : word_at file at ≡ w = cc in
      g (at + 4) (takes r (omega arith) (ap (step_of (total_of file) (space_of file) c) v ∙ e)) (omega arith) (cc)
  lead (Err n) c w ws e g at r l x = absurd g

  along : (c : Cursor) (w : ℕ) (ws : List ℕ)
      → Goes (Leads file end G) (turn (total_of file) (space_of file) c w c.mode) ws → Leads file end G c (w ∷ ws)
  unfolding step_of
  along c w ws g = lead (turn (total_of file) (space_of file) c w c.mode) c w ws refl g

  -- after whole hunks
  hunks_lead : 1 ≤ total_of file → (hs : List Hunk) (rest : List ℕ) → length hs ≤ total_of file
      → OfSpaces (total_of file) (space_of file) 0 hs
      → Stand file (joined hunk_words hs ++ rest) end
      → Front (Leads file end G) (total_of file) (length hs) (4 * total hs) rest → G
  unfolding pick
  hunks_lead some hs rest l z s g =
      let y =
      fronts_on (total_of file) (space_of file) (Leads file end G) along hs 0 0 (length hs) (4 * total hs) rest z
      (omega arith) l (omega arith) g in
      (rw (ne_eqb 0 (total_of file) (omega arith)) at y) (start_at file) begins (sym s.reaches) s.words

  here : (c : Cursor) → (Comes file c end → G) → Leads file end G c []
  here c k at r e x = let z : at ≡ end = omega arith in k (subst (Comes file c) z r)

module _ (file : List ℕ) (some : 1 ≤ total_of file) (hs : List Hunk) (at : ℕ) where
  pub before_comes : (b : Begun) → Before file hs b at → Comes file (cursor_of hs b) at
  unfolding pick
  before_comes b s =
      let G : Type 0 = Comes file (cursor_of hs b) at in
      let y =
      begun_on (total_of file) (space_of file) (Leads file at G) (along file at s.stand.within G) (length hs)
      (4 * total hs) b [] s.begun (here file at s.stand.within G (cursor_of hs b) (λ r. r)) in
      hunks_lead file at s.stand.within G some hs (so_far b) (omega (arith, s.next)) s.hunks s.stand
      (rw (ne_eqb (length hs) (total_of file) (omega (arith, s.next))) (rw append-nil at y))

  pub whole_comes : AllHunks file hs at → Comes file (cursor_past hs) at
  unfolding pick
  whole_comes s =
      let G : Type 0 = Comes file (cursor_past hs) at in
      hunks_lead file at s.stand.within G some hs [] (omega (arith, s.all)) s.hunks (rw append-nil s.stand)
      (rw (eq-eqb (length hs) (total_of file) s.all) (here file at s.stand.within G (cursor_past hs) (λ r. r)))
