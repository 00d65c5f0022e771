-- What each refusal of the check says of the file, and that it is given exactly then: `refused_exactly`. Before that
-- the same by the reader's cursor (`check_why`, `why_check`). Assumes nothing.
use Prim.Native.Nat.{ℕ, zero, suc, ◌+◌, ◌*◌, ◌-◌, ◌%◌, ◌<◌, ◌≤◌}
use mathlib.Core.Path.{◌≡◌, refl, sym, ap, ap₂, subst, ◌∙◌}
use mathlib.Core.Logic.Iff
use mathlib.Core.Logic.{◌≢◌, ◌⊎◌, inl, inr, ◌↔◌}
use mathlib.Core.List.{List}
use mathlib.Core.Bool.{Bool, true, false}
use native.Mathlib.Omega.{arith}
use native.Mathlib.Decide.{dec_lt}
use lib.Dec.{ltb, leb, eqb}
use lib.ListN.{length}
use borrow.Author.Tests.{eqb-true, eqb-false, ltb-true, ltb-false, leb-true, lt-ltb, le-ltb, le-leb, eq-eqb, ne_eqb}
use Rattle.std.specs.Prelude.{Result, Ok, Err}
use Rattle.program.specs.Spaces.{Space, space_in, space_fault}
use Rattle.program.specs.Types as type
use Rattle.answers.specs.Numbers as fault
use Rattle.words.specs.Word.{Bytes, word_at}
use Rattle.words.proofs.Words.{word_at_lt}
use Rattle.answers.specs.Tests.{pick}
use Rattle.answers.specs.Refusals.{refusal}
use Rattle.answers.specs.declared.Refusal.{Refusal}
use Rattle.answers.proofs.Clashes.{impossible}
use Rattle.program.specs.declared.reader.Cursor.{Cursor}
use Rattle.program.specs.declared.reader.Mode.{Mode}
use Rattle.program.specs.declared.reader.Mode.TheVariants.{Begin, NameLength, Body, Length, Stored, Part}
use Rattle.program.specs.declared.reader.Mode.TheVariants.{Count, Number, Offset, Symbol, DebugLength, Skip}
use Rattle.program.specs.declared.reader.Mode.TheVariants.{End}
use Rattle.program.specs.Header.{total_of, space_of, head_fault, judge, heads}
use Rattle.program.specs.Reader.{Next, on, body_of, end_of, turn, step_of}
use Rattle.program.specs.Check.{Answer, refuse, ended_of, walk_of, and, check_of}
use Rattle.program.specs.Cursors.{HeaderFits}
use Rattle.program.specs.Page.{Hunk, stored_words, OffsetFits, Holds, total}
use Rattle.program.specs.Begun.{PartBegun, Begun, a_part, a_count, a_number, an_offset, a_symbol, symbol_word}
use Rattle.program.specs.Begun.{debug_length, debug_word, first, name_length, name_word, a_body, body_length}
use Rattle.program.specs.Begun.{body_word, after_body, PartWrong, Wrong}
use Rattle.program.specs.Verdicts.{WrongWord, MoreWords, MissingWord, Says, BadLength, GoodLength, OfHeader}
use Rattle.program.specs.Verdicts.{HeadPasses, fault_at, HeadFails, HeadWord, BothMemories, Headed}
use Rattle.program.proofs.Coming.{HunkWord, Missing, Refuses, Because}
use Rattle.program.proofs.Answers.{not_refused, not_failed}
use Rattle.program.proofs.Spaces.{both_refused}
use Rattle.program.proofs.Heading.{each_passes, heads_pass, space_test, both_late}
use Rattle.program.proofs.Heads.{header_fits}
use Rattle.program.proofs.Pages.{accepted_page, page_accepted}
use Rattle.program.proofs.CursorsFit.{pick_on}
use Rattle.program.proofs.Taken.{cursor}
use Rattle.program.proofs.Beginnings.{part_mode, mode_of, unended, cursor_in, cursor_of, cursor_past, before_comes}
use Rattle.program.proofs.Beginnings.{whole_comes}
use Rattle.program.proofs.Standing.{Within, Past, comes_stands}
use Rattle.program.proofs.Stops.{Ends, ended, Stops, walk_stops, comes_reads}
use Rattle.program.proofs.Walks.{walk_bad, walk_end}

-- ---- the header

failed_same : (r f : Refusal) → ◌≡◌ {A = Result Unit Refusal} (Err r) (Err f) → f ≡ r
failed_same r f e = cc

passes_more : (file : List ℕ) (i : ℕ) → ((j : ℕ) → j < i → HeadPasses file j) → HeadPasses file i → (j : ℕ)
    → j < i + 1 → HeadPasses file j
passes_more file i b x j h = go (dec_lt j i)
  where
    go : Dec (j < i) → HeadPasses file j
    go (yes q) = b j q
    go (no q) = let e : i ≡ j = omega arith in subst (HeadPasses file) e x

heads_why : (file : List ℕ) (f : Refusal) (n i : ℕ) → ((j : ℕ) → i ≤ j → j < i + n → OfHeader file j)
    → ((j : ℕ) → j < i → HeadPasses file j)
    → heads file i n ≡ Err f → HeadWord file f
unfolding heads pick
heads_why file f zero i w b e = not_failed e
heads_why file f (suc n) i w b e =
    long (ltb (length file) (4 * i + 4)) refl e
    (heads_why file f n (i + 1) (λ j l h. w j (omega arith) (omega arith)))
  where
    wrong : (v : ℕ) → fault_at file i ≡ v → 4 * i + 4 ≤ length file → judge v (4 * i) (heads file (i + 1) n) ≡ Err f
        → (((j : ℕ) → j < i + 1 → HeadPasses file j) → heads file (i + 1) n ≡ Err f → HeadWord file f)
        → HeadWord file f
    wrong zero q l x k = k (passes_more file i b (l, q)) x
    wrong (suc v) q l x k =
        record {
          word = i;
          within = w i (omega arith) (omega arith);
          before = b;
          cause = inr (l, (λ z. omega (arith, q, z)), failed_same _ f x ∙ ap (λ u. refusal u (4 * i)) (sym q));
        }

    long : (t : Bool) → ltb (length file) (4 * i + 4) ≡ t
        → pick t (Err (refusal fault.early_end (length file)))
        (judge (fault_at file i) (4 * i) (heads file (i + 1) n)) ≡ Err f
        → (((j : ℕ) → j < i + 1 → HeadPasses file j) → heads file (i + 1) n ≡ Err f → HeadWord file f)
        → HeadWord file f
    long true q x k =
        record {
          word = i;
          within = w i (omega arith) (omega arith);
          before = b;
          cause = inl (ltb-true _ _ q, failed_same _ f x);
        }
    long false q x k = wrong _ refl (ltb-false _ _ q) x k

-- ---- the hunks

refused_same : (r f : Refusal) → ◌≡◌ {A = Answer} (Err r) (Err f) → f ≡ r
refused_same r f e = cc

on_bad : {X : Type 0} (d : Cursor) (v : ℕ) → ◌≡◌ {A = Next} (Ok d) (Err v) → X
on_bad d v e = impossible cc

walk_why : (file : List ℕ) (f : Refusal) (a : Answer) → Stops file a → a ≡ Err f → HunkWord file f ⊎ Missing file f
walk_why file f a (inr k) e = inl (rw (refused_same _ f (sym k.2 ∙ e)) k.1)
walk_why file f a (inl k) e = go (ended (length file) k.0 k.0.mode)
  where
    go : Ends (length file) k.0 k.0.mode → HunkWord file f ⊎ Missing file f
    go (inl x) = not_refused (sym x.1 ∙ sym k.2 ∙ e)
    go (inr x) =
        inr (record {
          cursor = k.0;
          comes = k.1;
          unended = x.0;
          said = refused_same _ f (sym x.1 ∙ sym k.2 ∙ e);
        })

-- ---- the whole check

all_pass : (file : List ℕ) → heads file 0 5 ≡ Ok tt → heads file 5 (total_of file) ≡ Ok tt → Headed file
all_pass file p q j h = go (dec_lt j 5)
  where
    go : Dec (j < 5) → HeadPasses file j
    go (yes l) = each_passes file 5 0 p j (omega arith) l
    go (no l) = each_passes file (total_of file) 5 q j (omega arith) h

module _ (file : List ℕ) (f : Refusal) where
  all_why : GoodLength file → (a b : Result Unit Refusal) → heads file 0 5 ≡ a → heads file 5 (total_of file) ≡ b
      → and a (and b (walk_of file)) ≡ Err f → Because file f
  all_why w (Err r) b p q e =
      inr (inl (
        w,
        heads_why file f 5 0 (λ j l h. omega arith) (λ j h. absurd (omega arith))
            (p ∙ ap Err (sym (refused_same r f e))),
      ))
  all_why w (Ok u) (Err r) p q e =
      inr (inl (
        w,
        heads_why file f (total_of file) 5 (λ j l h. h) (λ j h. each_passes file 5 0 p j (omega arith) h)
            (q ∙ ap Err (sym (refused_same r f e))),
      ))
  all_why w (Ok u) (Ok x) p q e =
      inr (inr (w, all_pass file p q, walk_why file f (walk_of file) (walk_stops file w.1 (header_fits file p q)) e))

  -- the check refuses for one of these reasons
  pub check_why : check_of file ≡ Err f → Because file f
  unfolding check_of pick
  check_why e = empty (eqb (length file) 0) refl (eqb (length file % 4) 0) refl e
    where
      empty : (x : Bool) → eqb (length file) 0 ≡ x → (y : Bool) → eqb (length file % 4) 0 ≡ y
          → pick x (refuse fault.file_length 0)
          (pick y (and (heads file 0 5) (and (heads file 5 (total_of file)) (walk_of file)))
          (refuse fault.file_length 0)) ≡ Err f
          → Because file f
      empty true p y q e = inl (inl (eqb-true _ _ p), refused_same _ f e)
      empty false p false q e = inl (inr (eqb-false _ _ q), refused_same _ f e)
      empty false p true q e =
          all_why (eqb-false _ _ p, eqb-true _ _ q) (heads file 0 5) (heads file 5 (total_of file)) refl refl e

-- ---- and each of these reasons gives that refusal

-- the five words, then the size words
module _ (file : List ℕ) where
  pass_five : ((j : ℕ) → j < 5 → HeadPasses file j) → heads file 0 5 ≡ Ok tt
  pass_five g = heads_pass file 5 0 (omega (arith, (g 4 (omega arith)).0)) (λ j l q. (g j q).1)

  pass_size_words : Headed file → heads file 5 (total_of file) ≡ Ok tt
  pass_size_words g =
      heads_pass file (total_of file) 5 (omega (arith, (g (4 + total_of file) (omega arith)).0)) (λ j l q. (g j q).1)

  headed_fits : Headed file → HeaderFits file
  headed_fits g = header_fits file (pass_five (λ j q. g j (omega arith))) (pass_size_words g)

module _ (file : List ℕ) (f : Refusal) where
  heads_fail : (w : HeadWord file f) (n i : ℕ) → i ≤ w.word → w.word < i + n → heads file i n ≡ Err f
  unfolding heads pick
  heads_fail w zero i l h = absurd (omega arith)
  heads_fail w (suc n) i l h = go (dec_lt i w.word) (heads_fail w n (i + 1))
    where
      here : i ≡ w.word → HeadFails file w.word f → heads file i (suc n) ≡ Err f
      here e (inl c) = rw (e, lt-ltb _ _ c.0, c.1)
      here e (inr c) = rw (e, le-ltb _ _ c.0, c.2) (judged (fault_at file w.word) c.1)
        where
          judged : (v : ℕ) → v ≢ 0
              → judge v (4 * w.word) (heads file (w.word + 1) n) ≡ Err (refusal v (4 * w.word))
          judged zero z = absurd (z refl)
          judged (suc v) z = refl

      go : Dec (i < w.word) → (i + 1 ≤ w.word → w.word < i + 1 + n → heads file (i + 1) n ≡ Err f)
          → heads file i (suc n) ≡ Err f
      go (yes q) k = let x = w.before i q in rw (le-ltb _ _ x.0, x.1) (k (omega arith) (omega arith))
      go (no q) k = here (omega arith) w.cause

  -- a reader that comes there refuses there
  walk_refuses : GoodLength file → HeaderFits file → HunkWord file f ⊎ Missing file f → walk_of file ≡ Err f
  walk_refuses w s (inl c) =
      let r = comes_reads file w.1 s c.comes in
      r.rest ∙ walk_bad file c.at c.cursor (word_at file c.at) _ w.1 r.aligned c.there refl refl
      c.number c.refuses ∙ ap Err (sym c.said)
  walk_refuses w s (inr c) =
      let r = comes_reads file w.1 s c.comes in
      r.rest ∙ walk_end file (length file) c.cursor (omega arith)
      ∙ go (ended (length file) c.cursor c.cursor.mode) ∙ ap Err (sym c.said)
    where
      go : Ends (length file) c.cursor c.cursor.mode
          → ended_of (length file) c.cursor c.cursor.mode ≡ refuse fault.early_end (length file)
      go (inl x) = absurd (c.unended x.0)
      go (inr x) = x.1

  whole_check : GoodLength file
      → check_of file ≡ and (heads file 0 5) (and (heads file 5 (total_of file)) (walk_of file))
  unfolding check_of pick
  whole_check w = rw (ne_eqb _ _ w.0, eq-eqb _ _ w.1)

  head_refuses : HeadWord file f → and (heads file 0 5) (and (heads file 5 (total_of file)) (walk_of file)) ≡ Err f
  head_refuses w = go (dec_lt w.word 5)
    where
      go : Dec (w.word < 5) → and (heads file 0 5) (and (heads file 5 (total_of file)) (walk_of file)) ≡ Err f
      go (yes h) = rw (heads_fail w 5 0 (omega arith) (omega arith))
      go (no h) =
          rw (
            pass_five file (λ j q. w.before j (omega arith)),
            heads_fail w (total_of file) 5 (omega arith) w.within,
          )

  -- each is given exactly then
  pub why_check : Because file f → check_of file ≡ Err f
  unfolding check_of pick
  why_check (inl u) = short u.0 ∙ ap Err (sym u.1)
    where
      short : BadLength file → check_of file ≡ refuse fault.file_length 0
      short (inl h) = rw (eq-eqb _ _ h)
      short (inr h) = go (eqb (length file) 0)
        where
          go : (b : Bool)
              → pick b (refuse fault.file_length 0)
              (pick (eqb (length file % 4) 0)
              (and (heads file 0 5) (and (heads file 5 (total_of file)) (walk_of file)))
              (refuse fault.file_length 0)) ≡ refuse fault.file_length 0
          go true = refl
          go false = rw (ne_eqb _ _ h)
  why_check (inr (inl c)) = whole_check c.0 ∙ head_refuses c.1
  why_check (inr (inr c)) =
      whole_check c.0 ∙ rw (pass_five file (λ j q. c.1 j (omega arith)), pass_size_words file c.1)
      (walk_refuses c.0 (headed_fits file c.1) c.2)

-- ---- which word is not taken, by what the reader expects: both ways

bad_same : (a v : ℕ) → ◌≡◌ {A = Next} (Err a) (Err v) → v ≡ a
bad_same a v e = cc

module _ (t : ℕ) (space : ℕ → Space) (c : Cursor) (w v : ℕ) where
  -- either way the reader goes on
  both_on : {Q : Type 0} (b : Bool) (x y : Cursor) → pick {X = Next} b (Ok x) (Ok y) ≡ Err v → Q
  unfolding pick
  both_on true x y e = on_bad x v e
  both_on false x y e = on_bad y v e

  body_why : body_of c w ≡ Err v → (v ≡ fault.misplaced_block) × (w ≢ type.code) × (w ≢ type.stores) × (w ≢ type.bss)
  body_why =
      pick_on (eqb w type.code) (on c (Length w)) _ (Err v) (λ _. on_bad _ v)
      (λ p. pick_on (eqb w type.stores) (on c (Length w)) _ (Err v) (λ _. on_bad _ v)
      (λ q. pick_on (eqb w type.bss) (on c (Length w)) (Err fault.misplaced_block) (Err v) (λ _. on_bad _ v)
      (λ r e. (bad_same fault.misplaced_block v e, eqb-false _ _ p, eqb-false _ _ q, eqb-false _ _ r))))

  turn_why : (m : Mode) → turn t space c w m ≡ Err v → Refuses t space c w v m
  turn_why Begin =
      pick_on (eqb w type.name) (on c NameLength) (body_of c w) (Err v) (λ _. on_bad _ v)
      (λ p e. let b = body_why e in (b.0, eqb-false _ _ p, b.1, b.2, b.3))
  turn_why NameLength = λ e. both_on (eqb w 0) _ _ e
  turn_why Body = λ e. body_why e
  turn_why (Length k) =
      pick_on (ltb (space c.hunk).size w) (Err fault.body_length) _ (Err v)
      (λ p e. (bad_same fault.body_length v e, ltb-true _ _ p)) (λ p e. both_on _ _ _ e)
  turn_why (Stored i) = λ e. both_on _ _ _ e
  turn_why Part =
      pick_on (eqb w type.relocation) (on c Count) _ (Err v) (λ _. on_bad _ v)
      (λ p. pick_on (eqb w type.symbols) (on c Symbol) _ (Err v) (λ _. on_bad _ v)
      (λ q. pick_on (eqb w type.debug) (on c DebugLength) _ (Err v) (λ _. on_bad _ v)
      (λ r. pick_on (eqb w type.end) (end_of t space c) (Err fault.misplaced_block) (Err v) (λ _. on_bad _ v)
      (λ s e. (
        bad_same fault.misplaced_block v e,
        eqb-false _ _ p,
        eqb-false _ _ q,
        eqb-false _ _ r,
        eqb-false _ _ s,
      )))))
  turn_why Count = λ e. both_on _ _ _ e
  turn_why (Number n) =
      pick_on (ltb w t) (on c (Offset n w)) (Err fault.bad_target) (Err v) (λ _. on_bad _ v)
      (λ p e. (bad_same fault.bad_target v e, ltb-false _ _ p))
  turn_why (Offset n k) =
      pick_on (eqb (w % 2) 0) _ (Err fault.bad_target) (Err v)
      (λ _. pick_on (ltb (4 * c.stored) (w + 4)) (Err fault.bad_target) _ (Err v)
      (λ p e. (bad_same fault.bad_target v e, inr (ltb-true _ _ p))) (λ p e. both_on _ _ _ e))
      (λ p e. (bad_same fault.bad_target v e, inl (eqb-false _ _ p)))
  turn_why Symbol =
      pick_on (eqb w 0) (on c Part) _ (Err v) (λ _. on_bad _ v)
      (λ _. pick_on (leb 0x1000000 w) (Err fault.symbol_type) _ (Err v)
      (λ p e. (bad_same fault.symbol_type v e, leb-true _ _ p)) (λ _. on_bad _ v))
  turn_why DebugLength = λ e. both_on _ _ _ e
  turn_why (Skip n a) = λ e. both_on _ _ _ e
  turn_why End = λ e. bad_same fault.trailing_words v e

  body_refused : v ≡ fault.misplaced_block → w ≢ type.code → w ≢ type.stores → w ≢ type.bss → body_of c w ≡ Err v
  unfolding pick
  body_refused e p q r = rw (ne_eqb w type.code p, ne_eqb w type.stores q, ne_eqb w type.bss r, e)

  -- the same from right to left
  why_turn : (m : Mode) → Refuses t space c w v m → turn t space c w m ≡ Err v
  unfolding pick
  why_turn Begin h = rw (ne_eqb w type.name h.1) (body_refused h.0 h.2 h.3 h.4)
  why_turn Body h = body_refused h.0 h.1 h.2 h.3
  why_turn (Length k) h = rw (lt-ltb _ _ h.1, h.0)
  why_turn Part h =
      rw (
        ne_eqb w type.relocation h.1,
        ne_eqb w type.symbols h.2,
        ne_eqb w type.debug h.3,
        ne_eqb w type.end h.4,
        h.0,
      )
  why_turn (Number n) h = rw (le-ltb _ _ h.1, h.0)
  why_turn (Offset n k) h = go (eqb (w % 2) 0) refl h.1
    where
      go : (b : Bool) → eqb (w % 2) 0 ≡ b → (w % 2 ≢ 0) ⊎ (4 * c.stored < w + 4)
          → pick b (pick (ltb (4 * c.stored) (w + 4)) (Err fault.bad_target)
          (pick (eqb n 0) (on c Count) (on c (Offset (n - 1) k)))) (Err fault.bad_target) ≡ Err v
      go false q x = ap Err (sym h.0)
      go true q (inl x) = absurd (x (eqb-true _ _ q))
      go true q (inr x) = rw (lt-ltb _ _ x, h.0)
  why_turn Symbol h = rw (ne_eqb w 0 (omega (arith, h.1)), le-leb _ _ h.1, h.0)
  why_turn End h = ap Err (sym h)
  why_turn NameLength h = absurd h
  why_turn (Stored i) h = absurd h
  why_turn Count h = absurd h
  why_turn DebugLength h = absurd h
  why_turn (Skip n a) h = absurd h

  -- a word is not taken, with the number v, if and only if it may not stand there
  pub step_why : (step_of t space c w ≡ Err v) ↔ Refuses t space c w v c.mode
  unfolding step_of
  step_why = (turn_why c.mode, why_turn c.mode)

-- ---- the same in the terms of the page

offset_wrong : (n w : ℕ) → (OffsetFits n w → ⊥) ↔ ((w % 2 ≢ 0) ⊎ (4 * n < w + 4))
offset_wrong n w = (there (dec_lt (4 * n) (w + 4)), back)
  where
    there : Dec (4 * n < w + 4) → (OffsetFits n w → ⊥) → (w % 2 ≢ 0) ⊎ (4 * n < w + 4)
    there (yes q) h = inr q
    there (no q) h = inl (λ e. h (e, omega arith))

    back : (w % 2 ≢ 0) ⊎ (4 * n < w + 4) → OffsetFits n w → ⊥
    back (inl e) h = e h.0
    back (inr l) h = omega (arith, h.1)

module _ (t : ℕ) (space : ℕ → Space) (h p w v : ℕ) where
  part_wrong : (n : ℕ) (q : PartBegun)
      → PartWrong t n w v q ↔ Refuses t space (cursor (part_mode q) h p n) w v (part_mode q)
  part_wrong n a_part = Iff.rfl
  part_wrong n (a_count gs) = Iff.rfl
  part_wrong n (a_number gs k) = Iff.rfl
  part_wrong n (an_offset gs k l os) =
      let o = offset_wrong n w in
      (λ x. (x.0, o.0 x.1), λ x. (x.0, o.1 x.1))
  part_wrong n (a_symbol us) = Iff.rfl
  part_wrong n (symbol_word us k ws) = Iff.rfl
  part_wrong n debug_length = Iff.rfl
  part_wrong n (debug_word k ws) = Iff.rfl

  -- a word may not come next if and only if the reader does not take it
  begun_wrong : (b : Begun) → Wrong t (space h).size w v b ↔ Refuses t space (cursor_in b h p) w v (mode_of b)
  begun_wrong first = Iff.rfl
  begun_wrong name_length = Iff.rfl
  begun_wrong (name_word n ws) = Iff.rfl
  begun_wrong (a_body ws) = Iff.rfl
  begun_wrong (body_length x k) = Iff.rfl
  begun_wrong (body_word x k n ws) = Iff.rfl
  begun_wrong (after_body x b ps q) = part_wrong (length (stored_words b)) q

module _ (file : List ℕ) (whole : length file % 4 ≡ 0) (s : HeaderFits file) where
  module _ (f : Refusal) where
    word_says : HunkWord file f → WrongWord file f ⊎ MoreWords file f
    word_says r = go (comes_stands file whole s r.cursor r.at r.comes)
      where
        why : Refuses (total_of file) (space_of file) r.cursor (word_at file r.at) r.number r.cursor.mode
        why = (step_why (total_of file) (space_of file) r.cursor (word_at file r.at) r.number).0 r.refuses

        go : Within file r.cursor r.at ⊎ Past file r.cursor r.at → WrongWord file f ⊎ MoreWords file f
        go (inl k) =
            let x =
            subst (λ (c : Cursor). Refuses (total_of file) (space_of file) c (word_at file r.at) r.number
            c.mode) (sym k.is) why in
            inl (record {
              hunks = k.hunks;
              begun = k.begun;
              at = r.at;
              before = k.before;
              there = r.there;
              number = r.number;
              wrong =
                  (begun_wrong (total_of file) (space_of file) (length k.hunks) (4 * total k.hunks)
                  (word_at file r.at) r.number k.begun).1 x;
              said = r.said;
            })
        go (inr k) =
            let x : r.number ≡ fault.trailing_words =
            subst (λ (c : Cursor). Refuses (total_of file) (space_of file) c (word_at file r.at) r.number
            c.mode) (sym k.is) why in
            inr (record {
              hunks = k.hunks;
              at = r.at;
              whole = k.whole;
              there = r.there;
              said = r.said ∙ ap (λ (n : ℕ). refusal n r.at) x;
            })

    says_word : WrongWord file f ⊎ MoreWords file f → HunkWord file f
    says_word (inl r) =
        let c = cursor_of r.hunks r.begun in
        let w = word_at file r.at in
        let x =
        (begun_wrong (total_of file) (space_of file) (length r.hunks) (4 * total r.hunks) w r.number
        r.begun).0 r.wrong in
        record {
          cursor = c;
          at = r.at;
          comes = before_comes file s.some r.hunks r.at r.begun r.before;
          there = r.there;
          number = r.number;
          refuses = (step_why (total_of file) (space_of file) c w r.number).1 x;
          said = r.said;
        }
    says_word (inr r) =
        let c = cursor_past r.hunks in
        record {
          cursor = c;
          at = r.at;
          comes = whole_comes file s.some r.hunks r.at r.whole;
          there = r.there;
          number = fault.trailing_words;
          refuses = (step_why (total_of file) (space_of file) c (word_at file r.at) fault.trailing_words).1 refl;
          said = r.said;
        }

    missing_says : Missing file f → MissingWord file f
    missing_says r = go (comes_stands file whole s r.cursor (length file) r.comes)
      where
        go : Within file r.cursor (length file) ⊎ Past file r.cursor (length file) → MissingWord file f
        go (inl k) = record { hunks = k.hunks; begun = k.begun; before = k.before; said = r.said }
        go (inr k) = absurd (r.unended (ap (λ (c : Cursor). c.mode) (sym k.is)))

    says_missing : MissingWord file f → Missing file f
    says_missing r =
        record {
          cursor = cursor_of r.hunks r.begun;
          comes = before_comes file s.some r.hunks (length file) r.begun r.before;
          unended = unended r.begun;
          said = r.said;
        }

module _ (file : List ℕ) (f : Refusal) where
  because_says : Because file f → Says file f
  because_says (inl r) = inl r
  because_says (inr (inl r)) = inr (inl r)
  because_says (inr (inr r)) = inr (inr (r.0, r.1, go (headed_fits file r.1) r.2))
    where
      go : HeaderFits file → HunkWord file f ⊎ Missing file f → WrongWord file f ⊎ MoreWords file f ⊎ MissingWord file f
      go s (inl k) = found (word_says file r.0.1 s f k)
        where
          found : WrongWord file f ⊎ MoreWords file f → WrongWord file f ⊎ MoreWords file f ⊎ MissingWord file f
          found (inl x) = inl x
          found (inr x) = inr (inl x)
      go s (inr k) = inr (inr (missing_says file r.0.1 s f k))

  says_because : Says file f → Because file f
  says_because (inl r) = inl r
  says_because (inr (inl r)) = inr (inl r)
  says_because (inr (inr r)) = inr (inr (r.0, r.1, go (headed_fits file r.1) r.2))
    where
      go : HeaderFits file → WrongWord file f ⊎ MoreWords file f ⊎ MissingWord file f → HunkWord file f ⊎ Missing file f
      go s (inl k) = inl (says_word file r.0.1 s f (inl k))
      go s (inr (inl k)) = inl (says_word file r.0.1 s f (inr k))
      go s (inr (inr k)) = inr (says_missing file r.0.1 s f k)

  -- the check refuses a file, with a number and a place, if and only if `Says` says so
  pub refused_exactly : (check_of file ≡ Err f) ↔ Says file f
  refused_exactly = (λ e. because_says (check_why file f e), λ r. why_check file f (says_because r))

-- a file holds hunks or has a refusal; never both, and no two refusals
module _ (file : List ℕ) where
  pub held_or_said : ((hs : List Hunk) × Holds file hs) ⊎ ((f : Refusal) × Says file f)
  held_or_said = go (check_of file) refl
    where
      go : (a : Answer) → check_of file ≡ a → ((hs : List Hunk) × Holds file hs) ⊎ ((f : Refusal) × Says file f)
      go (Ok v) e = inl (accepted_page file v.hunks v.bytes e)
      go (Err f) e = inr (f, (refused_exactly file f).0 e)

  pub held_not_said : (hs : List Hunk) (f : Refusal) → Holds file hs → Says file f → ⊥
  held_not_said hs f h r = not_refused (sym (page_accepted file hs h) ∙ (refused_exactly file f).1 r)

  pub said_once : (f g : Refusal) → Says file f → Says file g → f ≡ g
  said_once f g a b = refused_same g f (sym ((refused_exactly file g).1 b) ∙ (refused_exactly file f).1 a)

-- ---- 43 in bits

-- the reader of the hunks does not give it
hunks_not_both : (t : ℕ) (space : ℕ → Space) (c : Cursor) (w v : ℕ) (m : Mode) → Refuses t space c w v m
    → v ≡ fault.both_memories → ⊥
hunks_not_both t space c w v Begin r e = omega (arith, r.0)
hunks_not_both t space c w v Body r e = omega (arith, r.0)
hunks_not_both t space c w v (Length k) r e = omega (arith, r.0)
hunks_not_both t space c w v Part r e = omega (arith, r.0)
hunks_not_both t space c w v (Number n) r e = omega (arith, r.0)
hunks_not_both t space c w v (Offset n k) r e = omega (arith, r.0)
hunks_not_both t space c w v Symbol r e = omega (arith, r.0)
hunks_not_both t space c w v End r e = omega arith
hunks_not_both t space c w v NameLength r e = r
hunks_not_both t space c w v (Stored i) r e = r
hunks_not_both t space c w v Count r e = r
hunks_not_both t space c w v DebugLength r e = r
hunks_not_both t space c w v (Skip n a) r e = r

module _ (file : List ℕ) (bytes : Bytes file) (p : ℕ) where
  both_given : BothMemories file p → check_of file ≡ Err (refusal fault.both_memories p)
  both_given b =
      (refused_exactly file (refusal fault.both_memories p)).1
      (inr (inl (
        b.sound,
        record {
          word = 5 + b.hunk;
          within = omega (arith, b.within);
          before = b.before;
          cause = inr (omega (arith, b.there, b.place), λ z. omega (arith, number), said);
        },
      )))
    where
      at : 4 * (5 + b.hunk) ≡ p
      at = omega (arith, b.place)

      number : fault_at file (5 + b.hunk) ≡ fault.both_memories
      number =
          space_test (total_of file) (word_at file (4 * (5 + b.hunk))) b.hunk
          ∙ ap (λ (q : ℕ). space_fault (space_in (word_at file q))) at
          ∙ (both_refused (word_at file p) (word_at_lt file p bytes)).1 (b.chip, b.fast)

      said : refusal fault.both_memories p ≡ refusal (fault_at file (5 + b.hunk)) (4 * (5 + b.hunk))
      said = ap₂ refusal (sym number) (sym at)

  number_same : {f : Refusal} → refusal fault.both_memories p ≡ f → fault.both_memories ≡ f.number
  number_same e = ap (λ (f : Refusal). f.number) e

  both_found : Because file (refusal fault.both_memories p) → BothMemories file p
  both_found (inl r) = absurd (omega (arith, number_same r.1))
  both_found (inr (inl r)) = go r.1.cause
    where
      j : ℕ
      j = r.1.word

      go : HeadFails file j (refusal fault.both_memories p) → BothMemories file p
      go (inl x) = absurd (omega (arith, number_same x.1))
      go (inr x) =
          let w : ℕ = word_at file (4 * j) in
          let n : head_fault (total_of file) j w ≡ fault.both_memories = sym (number_same x.2) in
          let q : p ≡ 4 * j = ap (λ (f : Refusal). f.place) x.2 in
          let l : 5 ≤ j = both_late (total_of file) w j n in
          let i : j ≡ 5 + (j - 5) = omega arith in
          let e : space_fault (space_in w) ≡ fault.both_memories =
          sym (space_test (total_of file) w (j - 5)) ∙ ap (λ (k : ℕ). head_fault (total_of file) k w) (sym i) ∙ n in
          let bits =
          (both_refused (word_at file p) (word_at_lt file p bytes)).0
          (ap (λ (k : ℕ). space_fault (space_in (word_at file k))) q ∙ e) in
          record {
            sound = r.0;
            hunk = j - 5;
            within = omega (arith, r.1.within);
            before = λ k h. r.1.before k (omega arith);
            place = omega arith;
            there = omega (arith, x.0);
            chip = bits.0;
            fast = bits.1;
          }
  both_found (inr (inr r)) = go r.2
    where
      go : HunkWord file (refusal fault.both_memories p) ⊎ Missing file (refusal fault.both_memories p)
          → BothMemories file p
      go (inl x) =
          absurd (hunks_not_both (total_of file) (space_of file) x.cursor (word_at file x.at) x.number x.cursor.mode
          ((step_why (total_of file) (space_of file) x.cursor (word_at file x.at) x.number).0 x.refuses)
          (sym (number_same x.said)))
      go (inr x) = absurd (omega (arith, number_same x.said))

  -- 43 is given at byte p if and only if the first word of the header that is missing or wrong stands there, is a
  -- size word, and sets bits 30 and 31
  pub both_exactly : (check_of file ≡ Err (refusal fault.both_memories p)) ↔ BothMemories file p
  both_exactly = (λ e. both_found (check_why file _ e), both_given)
