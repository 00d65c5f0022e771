-- The steps of a pass: what the code takes in one of them, and what a pass makes of them all. Assumes nothing.
use Rattle.std.specs.Prelude.{Result, Ok, Err, None, Some}
use Rattle.std.proofs.Common.{◌≡◌, ℕ, zero, suc, ◌+◌, ◌-◌, ◌*◌, ◌/◌, ◌<◌, ◌≤◌, Bool, true, false, eqb, List, [], ◌∷◌}
use Rattle.std.specs.Iterator.{MakesProgress, at_most}
use Rattle.std.specs.Result.{result_ok}
use Rattle.std.proofs.Common.{◌++◌, length, sym, refl, ap, ◌∙◌, subst, arith}
use native.Mathlib.Decide.{dec_lt}
use Rattle.words.specs.Word.{word_at, words_at, set_word}
use Rattle.answers.specs.Tests.{pick}
use Rattle.answers.specs.declared.Fault.{Fault}
use Rattle.answers.proofs.Clashes.{impossible}
use Rattle.program.specs.declared.act.Act.{Act}
use Rattle.program.specs.declared.act.Act.TheVariants.{Quiet, Body, Store, Add}
use Rattle.program.specs.declared.reader.After.{After}
use Rattle.program.specs.declared.reader.Cursor.{Cursor}
use Rattle.program.specs.declared.reader.Mode.{Mode}
use Rattle.program.specs.declared.reader.Mode.TheVariants as mode
use Rattle.program.specs.declared.reader.Mode.TheVariants.{Stored, Skip, Part}
use Rattle.program.specs.Types as type
use Rattle.program.specs.Header.{total_of, space_of}
use Rattle.program.specs.Reader.{numbered, step_of}
use Rattle.program.specs.Acts.{asks, act_of, acts_from, acts_of, pass}
use Rattle.program.specs.Runs.{Reads, moded_of, skip_at, stored_at, Leads}
use Rattle.program.specs.Runs as runs
use Rattle.program.proofs.Walks.{reads_on}
use Rattle.program.proofs.Passes.{acts_on, acts_bad, acts_end}
use Rattle.program.proofs.Runs.{stored_open, stored_shut, stored_some, stored_step, stored_act, passed_step, passed_act}
use Rattle.program.proofs.Runs.{leads_far, leads_reads, unstored}
use Rattle.loader.specs.declared.steps.Step.{Step}
use Rattle.loader.specs.declared.steps.Step.TheVariants as step
use Rattle.loader.specs.declared.steps.Pass.{Pass}
use Rattle.loader.specs.Memory.{loaded_of, store_one}
use Rattle.loader.specs.Parts.{ActFits, with_words}
use Rattle.loader.specs.Steps.{stores, spelled, asked, left, Quietly, Unstored, Gives}
use Rattle.loader.proofs.Acts.{hunk_inside, reads_fits, more_room}

-- ---- acts that ask for nothing are left out

pub asked_append : (us vs : List Act) → asked (us ++ vs) ≡ asked us ++ asked vs
asked_append [] vs = refl
asked_append (Quiet ∷ us) vs = asked_append us vs
asked_append (Body h p k ∷ us) vs = ap (λ l. Body h p k ∷ l) (asked_append us vs)
asked_append (Store p w ∷ us) vs = ap (λ l. Store p w ∷ l) (asked_append us vs)
asked_append (Add p k b ∷ us) vs = ap (λ l. Add p k b ∷ l) (asked_append us vs)

-- ---- runs of words

module _ (file : List ℕ) where
  -- after the last stored word there is no run
  leads_part : {c d : Cursor} {at to : ℕ} → Leads file c at d to → c.mode ≡ Part → to ≡ at
  leads_part runs.here e = refl
  leads_part (runs.stores l m k) e = let z = sym m ∙ e in impossible cc
  leads_part (runs.passes l m k) e = let z = sym m ∙ e in impossible cc

  stays : {c d : Cursor} {at to : ℕ} → Leads file c at d to → to ≤ at → acts_from file at c ≡ acts_from file to d
  stays runs.here h = refl
  stays (runs.stores l m k) h = let f = leads_far file k in absurd (omega arith)
  stays (runs.passes l m k) h = let f = leads_far file k in absurd (omega arith)

  pub leads_words : {c d : Cursor} {at to : ℕ} → Leads file c at d to → (k : ℕ) × (to ≡ at + 4 * k)
  leads_words runs.here = (0, omega arith)
  leads_words (runs.stores l m k) = let f = leads_words k in (f.0 + 1, omega (arith, f.1))
  leads_words (runs.passes l m k) = let f = leads_words k in (f.0 + 1, omega (arith, f.1))

  -- k stored words from the word i on
  run_acts : (k : ℕ) (c d : Cursor) (at to i : ℕ) → Leads file c at d to → to ≡ at + 4 * k → Reads file c at
      → c.mode ≡ Stored i
      → (acts_from file at c ≡ stores (c.place + 4 * i) (words_at file at k) ++ acts_from file to d)
      × (i + k ≤ c.stored)
  unfolding words_at
  run_acts zero c d at to i l e r m = (stays l (omega arith), omega (arith, stored_some file c i r.fits m))
  run_acts (suc k) c d at to i runs.here e r m = absurd (omega arith)
  run_acts (suc k) c d at to i (runs.passes l n lead) e r m = let z = sym n ∙ m in impossible cc
  run_acts (suc k) c d at to i (runs.stores {i = j} l n lead) e r m =
      let same : j ≡ i = let z = sym n ∙ m in cc in
      let s = stored_step c i (word_at file at) m (total_of file) (space_of file) in
      let first = acts_on file at c _ _ r l refl refl _ _ s (sym (stored_act c i _ m at)) in
      let next : Reads file (stored_at c (i + 1)) (at + 4) = reads_on file c at _ _ _ r l refl refl s in
      let on : Leads file (stored_at c (i + 1)) (at + 4) d to =
      subst (λ (x : ℕ). Leads file (stored_at c (x + 1)) (at + 4) d to) same lead in
      let f = rest k (dec_lt (i + 1) c.stored) (λ b e a z. run_acts k b e a z (i + 1)) (omega (arith, e)) on next in
      (first ∙ ap (λ us. Store (c.place + 4 * i) (word_at file at) ∷ us) f.0, f.1)
    where
      rest : (k : ℕ) → Dec (i + 1 < c.stored)
          → ((b e : Cursor) (at' to' : ℕ) → Leads file b at' e to' → to' ≡ at' + 4 * k → Reads file b at'
          → b.mode ≡ Stored (i + 1)
          → (acts_from file at' b ≡ stores (b.place + 4 * (i + 1)) (words_at file at' k) ++ acts_from file to' e)
          × (i + 1 + k ≤ b.stored))
          → to ≡ at + 4 + 4 * k → Leads file (stored_at c (i + 1)) (at + 4) d to
          → Reads file (stored_at c (i + 1)) (at + 4)
          → (acts_from file (at + 4) (stored_at c (i + 1))
          ≡ stores (c.place + 4 * i + 4) (words_at file (at + 4) k) ++ acts_from file to d)
          × (i + suc k ≤ c.stored)
      rest k (yes q) more h on next =
          let o = stored_open c (i + 1) q in
          let p : c.place + 4 * (i + 1) ≡ c.place + 4 * i + 4 = omega arith in
          let f = more _ d (at + 4) to (rw o at on) h (rw o at next) refl in
          let moved = ap (λ (p : ℕ). stores p (words_at file (at + 4) k) ++ acts_from file to d) p in
          (rw o (f.0 ∙ moved), omega (arith, f.1))
      rest k (no q) more h on next =
          let some = stored_some file c i r.fits m in
          let o = stored_shut c (i + 1) (omega (arith, some)) in
          let z = leads_part (rw o at on) refl in
          let none : k ≡ 0 = omega (arith, z) in
          (rw none (stays on (omega (arith, z))), omega (arith, some))

  -- words that are passed over ask for nothing
  pub skip_acts : {c d : Cursor} {at to : ℕ} → Leads file c at d to → Reads file c at
      → ((i : ℕ) → c.mode ≡ Stored i → ⊥)
      → asked (acts_from file at c) ≡ asked (acts_from file to d)
  skip_acts runs.here r f = refl
  skip_acts (runs.stores {i = i} l e k) r f = absurd (f i e)
  skip_acts (runs.passes {c = c} {n = n} {a = a} {at = at} l e k) r f =
      let s = passed_step c n a (word_at file at) e (total_of file) (space_of file) in
      ap asked (acts_on file at c _ _ r l refl refl _ _ s (sym (passed_act c n a _ e at)))
      ∙ skip_acts k (reads_on file c at _ _ _ r l refl refl s) (unstored c n a)

-- ---- a call of `next`

-- where no stored word comes next, nothing is stored
act_unstored : (c : Cursor) (at w : ℕ) → ((i : ℕ) → c.mode ≡ Stored i → ⊥) → Unstored (act_of c at w)
unfolding act_of pick
act_unstored c at w = go c.mode
  where
    go : (m : Mode) → ((i : ℕ) → m ≡ Stored i → ⊥) → Unstored (asks c at w m)
    go mode.Begin f = name (eqb w type.name)
      where
        name : (b : Bool) → Unstored (pick b Quiet (Body c.hunk c.place w))
        name true = tt
        name false = tt
    go mode.NameLength f = tt
    go mode.Body f = tt
    go (mode.Length k) f = tt
    go (mode.Stored i) f = absurd (f i refl)
    go mode.Part f = tt
    go mode.Count f = tt
    go (mode.Number n) f = tt
    go (mode.Offset n k) f = tt
    go mode.Symbol f = tt
    go mode.DebugLength f = tt
    go (mode.Skip n a) f = tt
    go mode.End f = tt

-- where no word is stored or passed over, none is stored next
pub none_next : (file : List ℕ) (c d : Cursor) (at to : ℕ) → Leads file c at d to → to ≤ at → at < length file
    → ((i : ℕ) → d.mode ≡ Stored i → length file ≤ to) → (i : ℕ) → c.mode ≡ Stored i → ⊥
none_next file c d at to runs.here h l f i e = let q = f i e in omega arith
none_next file c d at to (runs.stores l' m k) h l f i e = let q = leads_far file k in omega arith
none_next file c d at to (runs.passes l' m k) h l f i e = let q = leads_far file k in omega arith

-- so a run of stored words is not empty
pub run_far : (file : List ℕ) (c d : Cursor) (at to i : ℕ) → Leads file c at d to → at < length file
    → ((j : ℕ) → d.mode ≡ Stored j → length file ≤ to) → c.mode ≡ Stored i → at < to
run_far file c d at to i l h f e = go (dec_lt at to)
  where
    go : Dec (at < to) → at < to
    go (yes p) = p
    go (no p) = absurd (none_next file c d at to l (omega arith) h f i e)

-- where the reader comes to by words that are passed over
pub quietly_past : (file : List ℕ) (c d : Cursor) (at to n : ℕ) (a : After) → Reads file c at → c.mode ≡ Skip n a
    → Leads file c at d to → Quietly file c at d to
quietly_past file c d at to n a r e l =
    record {
      reads = leads_reads file l r;
      far = leads_far file l;
      same = skip_acts file l r (λ i m. let z = sym e ∙ m in impossible cc);
    }

module _ {X E : Type 0} (v : Result X E) where
  pub ok_some : {x : X} → result_ok v ≡ Some x → v ≡ Ok x
  ok_some = go v
    where
      go : (v : Result X E) {x : X} → result_ok v ≡ Some x → v ≡ Ok x
      go (Ok y) {x} e = let p : y ≡ x = cc in ap Ok p
      go (Err f) e = impossible cc

  pub ok_none : result_ok v ≡ None → (f : E) × (v ≡ Err f)
  ok_none = go v
    where
      go : (v : Result X E) → result_ok v ≡ None → (f : E) × (v ≡ Err f)
      go (Ok y) e = impossible cc
      go (Err f) e = (f, refl)

abbrev moved_to : Pass → Cursor → ℕ → Pass
moved_to s c at = record { file = s.file; cursor = c; at = at }

-- a step leads on, to a byte that is nearer the end
pub makes_progress : (s : Pass) (x : Step) (c : Cursor) (at : ℕ) → Reads s.file.now c at → s.at < at
    → MakesProgress (λ (t : Pass). Reads t.file.now t.cursor t.at) (λ (t : Pass). at_most (length t.file.now - t.at)) s
    (Some x) (moved_to s c at)
makes_progress s x c at r l =
    record { on = λ _. (r, tt, omega (arith, r.within)); keeps = r; rests = λ _. tt }

pub gives_end : (s : Pass) → length s.file.now ≤ s.at → Gives s None s
gives_end s h = record { same = refl; steps = ap asked (acts_end s.file.now s.at s.cursor h) }

module _ (s : Pass) (r : Reads s.file.now s.cursor s.at) where
  pub gives_words : (c : Cursor) (to i : ℕ) → Leads s.file.now s.cursor s.at c to → s.cursor.mode ≡ Stored i
      → Gives s (Some (step.Words (s.cursor.place + 4 * i) s.at ((to - s.at) / 4))) (moved_to s c to)
  gives_words c to i l m =
      let k = leads_words s.file.now l in
      let n : (to - s.at) / 4 ≡ k.0 = omega (arith, k.1) in
      let f = run_acts s.file.now k.0 s.cursor c s.at to i l k.1 r m in
      let in_hunk = hunk_inside s.file.now s.cursor r.fits (rw m at r.fits.mode).0 in
      record {
        same = refl;
        steps = rw n (
          ap asked f.0 ∙ asked_append (stores (s.cursor.place + 4 * i) (words_at s.file.now s.at k.0)) _,
          (omega (arith, f.1, r.fits.fits, in_hunk), omega (arith, k.1, (leads_reads s.file.now l r).within)),
        );
      }

  module _ (w : ℕ) (v : Result Cursor Fault) (l : s.at < length s.file.now) (p : w ≡ word_at s.file.now s.at)
      (q : numbered v ≡ step_of (total_of s.file.now) (space_of s.file.now) s.cursor w) where
    pub gives_bad : {f : Fault} → v ≡ Err f → Gives s None s
    gives_bad e =
        record {
          same = refl;
          steps = ap asked (acts_bad s.file.now s.at s.cursor w (numbered v) r l p q _ (ap numbered e));
        }

    pub reads_word : (c : Cursor) → v ≡ Ok c → Reads s.file.now c (s.at + 4)
    reads_word c e = reads_on s.file.now s.cursor s.at w (numbered v) c r l p q (ap numbered e)

    pub gives_act : (c : Cursor) (a : Act) → v ≡ Ok c → a ≡ act_of s.cursor s.at w
        → ((i : ℕ) → s.cursor.mode ≡ Stored i → ⊥) → Gives s (Some (step.Act a)) (moved_to s c (s.at + 4))
    gives_act c a e x f =
        let first = acts_on s.file.now s.at s.cursor w (numbered v) r l p q c a (ap numbered e) x in
        record {
          same = refl;
          steps = (
            ap asked first ∙ asked_append (a ∷ []) _,
            (
              reads_fits s.file.now s.cursor s.at w (numbered v) c a r q (ap numbered e) x (loaded_of s.file.now)
                  (total_of s.file.now) (omega arith) (omega arith),
              rw x (act_unstored s.cursor s.at w f),
            ),
          );
        }

    -- and on past words that ask for nothing
    pub gives_past : (c d : Cursor) (to : ℕ) (a : Act) → v ≡ Ok c → a ≡ act_of s.cursor s.at w
        → ((i : ℕ) → s.cursor.mode ≡ Stored i → ⊥) → Quietly s.file.now c (s.at + 4) d to
        → Gives s (Some (step.Act a)) (moved_to s d to)
    gives_past c d to a e x f k =
        let g = gives_act c a e x f in
        record { same = refl; steps = (g.steps.0 ∙ ap (λ us. asked (a ∷ []) ++ us) k.same, g.steps.1) }

-- ---- the loop of a pass over lists

pass_append : (g : List ℕ → Act → List ℕ) (x : List ℕ) (us vs : List Act)
    → pass g x (us ++ vs) ≡ pass g (pass g x us) vs
unfolding pass
pass_append g x [] vs = refl
pass_append g x (a ∷ us) vs = pass_append g (g x a) us vs

-- x₀ is at first, x is now, and the acts that are left make the same of both; the length stays
pub record Passing (g : List ℕ → Act → List ℕ) (file x₀ x : List ℕ) (s : Pass) : Type 0 where
  pub same : s.file.now ≡ file
  pub left : pass g x₀ (asked (acts_of file)) ≡ pass g x (left s)
  pub long : length x ≡ length x₀

module _ (g : List ℕ → Act → List ℕ) (quiet : (x : List ℕ) → g x Quiet ≡ x)
    (long : (x : List ℕ) (a : Act) → length (g x a) ≡ length x) where
  pass_asked : (x : List ℕ) (us : List Act) → pass g x (asked us) ≡ pass g x us
  unfolding pass
  pass_asked x [] = refl
  pass_asked x (Quiet ∷ us) = pass_asked x us ∙ ap (λ y. pass g y us) (sym (quiet x))
  pass_asked x (Body h p k ∷ us) = pass_asked (g x (Body h p k)) us
  pass_asked x (Store p w ∷ us) = pass_asked (g x (Store p w)) us
  pass_asked x (Add p k b ∷ us) = pass_asked (g x (Add p k b)) us

  pass_long : (x : List ℕ) (us : List Act) → length (pass g x us) ≡ length x
  unfolding pass
  pass_long x [] = refl
  pass_long x (a ∷ us) = pass_long (g x a) us ∙ long x a

  module _ (file x₀ : List ℕ) where
    module _ (x : List ℕ) (s : Pass) (i : Passing g file x₀ x s) where
      -- the acts of a step make y of x
      pub passing_step : (a : Step) (t : Pass) (y : List ℕ) → Gives s (Some a) t → y ≡ pass g x (spelled file a)
          → Passing g file x₀ y t
      passing_step a t y k e =
          let e' : y ≡ pass g x (spelled s.file.now a) = rw i.same e in
          record {
            same = k.same ∙ i.same;
            left =
                i.left ∙ ap (pass g x) k.steps.0 ∙ pass_append g x (asked (spelled s.file.now a)) (left t)
                ∙ ap (λ z. pass g z (left t)) (pass_asked x (spelled s.file.now a) ∙ sym e');
            long = ap length e ∙ pass_long x (spelled file a) ∙ i.long;
          }

      pub passing_end : (t : Pass) → Gives s None t → x ≡ pass g x₀ (acts_of file)
      unfolding pass
      passing_end t k = sym (sym (pass_asked x₀ (acts_of file)) ∙ i.left ∙ ap (pass g x) k.steps)

-- what a step asks lies inside, as the code lends it
pub step_room : (file : List ℕ) (s t : Pass) (x : Step) (a : Act) (n m : ℕ) → Gives s (Some x) t → x ≡ step.Act a
    → s.file.now ≡ file → loaded_of file ≤ n → total_of file ≤ m → ActFits n m a
step_room file s t x a n m k e same h l =
    more_room (loaded_of file) n (total_of file) m a h l (rw (e, same) at k.steps.1).0

pub step_unstored : (s t : Pass) (x : Step) (p w : ℕ) {X : Type 0} → Gives s (Some x) t → x ≡ step.Act (Store p w) → X
step_unstored s t x p w k e = absurd (rw e at k.steps.1).1

-- words that are stored make nothing of a list that stores do not touch
pub pass_stores : (g : List ℕ → Act → List ℕ) → ((x : List ℕ) (p w : ℕ) → g x (Store p w) ≡ x) → (x : List ℕ) (p : ℕ)
    (ws : List ℕ) → x ≡ pass g x (stores p ws)
unfolding pass
pass_stores g still x p [] = refl
pass_stores g still x p (w ∷ ws) =
    pass_stores g still x (p + 4) ws ∙ ap (λ y. pass g y (stores (p + 4) ws)) (sym (still x p w))

-- so a step that is no act makes nothing of it
pub pass_rest : (g : List ℕ → Act → List ℕ) → ((x : List ℕ) (p w : ℕ) → g x (Store p w) ≡ x) → (file x : List ℕ)
    (a : Step) → ((b : Act) → a ≡ step.Act b → ⊥) → x ≡ pass g x (spelled file a)
pass_rest g still file x (step.Act b) f = absurd (f b refl)
pass_rest g still file x (step.Words p at n) f = pass_stores g still x p (words_at file at n)

-- an act makes of it what it asks
pub pass_one : (g : List ℕ → Act → List ℕ) (file x y : List ℕ) (a : Step) (b : Act) → a ≡ step.Act b → y ≡ g x b
    → y ≡ pass g x (spelled file a)
unfolding pass
pass_one g file x y a b e h = rw e h

-- a run of them is stored
pub pass_words : (m : List ℕ) (p : ℕ) (ws : List ℕ) → with_words m p ws ≡ pass store_one m (stores p ws)
unfolding pass with_words
pass_words m p [] = refl
pass_words m p (w ∷ ws) = pass_words (set_word m p w) (p + 4) ws

pub pass_run : (file m m' : List ℕ) (a : Step) (p at n : ℕ) → a ≡ step.Words p at n
    → m' ≡ with_words m p (words_at file at n) → m' ≡ pass store_one m (spelled file a)
pass_run file m m' a p at n e h =
    h ∙ pass_words m p (words_at file at n) ∙ sym (ap (λ x. pass store_one m (spelled file x)) e)

-- a step without stored words stores nothing
pub pass_unstored : (file m : List ℕ) (a : Step) → ((p at n : ℕ) → a ≡ step.Words p at n → ⊥)
    → ((p w : ℕ) → a ≡ step.Act (Store p w) → ⊥) → m ≡ pass store_one m (spelled file a)
unfolding pass
pass_unstored file m (step.Words p at n) f g = absurd (f p at n refl)
pass_unstored file m (step.Act Quiet) f g = refl
pass_unstored file m (step.Act (Body h p k)) f g = refl
pass_unstored file m (step.Act (Store p w)) f g = absurd (g p w refl)
pass_unstored file m (step.Act (Add p k b)) f g = refl

pub same_act : {a b : Act} → step.Act a ≡ step.Act b → a ≡ b
same_act e = cc
