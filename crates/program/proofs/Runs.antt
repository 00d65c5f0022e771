-- Words that are stored or passed over lead on (`past_stored`, `past_skipped`), and what a reader, or a pass that does
-- not store, makes of the rest stays (`leads_reads`, `passing_turn`). Assumes nothing.
use Prim.Native.Nat.{ℕ, zero, suc, ◌+◌, ◌-◌, ◌*◌, ◌/◌, ◌%◌, ◌<◌, ◌≤◌, min}
use mathlib.Core.Path.{◌≡◌, refl, sym, ap, subst, ◌∙◌}
use mathlib.Core.List.{List, ◌∷◌}
use mathlib.Core.Bool.{Bool, true, false}
use native.Mathlib.Omega.{arith}
use lib.Dec.{eqb}
use lib.ListN.{length}
use borrow.Author.Tests.{eq-eqb, ne_eqb}
use Rattle.answers.specs.Tests.{pick}
use Rattle.answers.specs.declared.Fault.{Fault}
use Rattle.std.specs.Prelude.{Ok, Result}
use native.Mathlib.Decide.{dec_lt}
use Rattle.answers.proofs.Clashes.{impossible}
use Rattle.program.specs.declared.reader.After.TheVariants as after
use Rattle.program.specs.declared.act.Act.{Act}
use Rattle.program.specs.declared.act.Act.TheVariants.{Quiet, Body, Store, Add}
use Rattle.program.specs.declared.reader.After.{After}
use Rattle.program.specs.declared.reader.Cursor.{Cursor}
use Rattle.program.specs.declared.reader.Mode.TheVariants.{Stored, Part, Skip}
use Rattle.words.specs.Word.{word_at}
use Rattle.program.specs.Spaces.{Space}
use Rattle.program.specs.Header.{total_of, space_of}
use Rattle.program.specs.Reader.{Next, numbered, on, resume, skip, stored_from, turn, step_of}
use Rattle.program.specs.Acts.{asks, act_of, acts_from, pass}
use Rattle.program.specs.Cursors.{CursorFits}
use Rattle.program.specs.Runs.{Reads, moded_of, skip_at, stored_at, Leads, here, stores, passes}
use Rattle.program.proofs.Walks.{reads_on}
use Rattle.program.proofs.Passes.{acts_on, Passing, passing_on}

-- ---- where a step takes the cursor

on_skip : (c : Cursor) (n : ℕ) (a : After) → Ok (skip_at c n a) ≡ skip c n a
unfolding pick
on_skip c n a = go (eqb n 0)
  where
    go : (t : Bool)
        → Ok (pick t (moded_of c (resume a)) (moded_of c (Skip (n - 1) a))) ≡ pick t (on c (resume a))
        (on c (Skip (n - 1) a))
    go true = refl
    go false = refl

on_stored : (c : Cursor) (i : ℕ) → Ok (stored_at c i) ≡ stored_from c i
unfolding pick
on_stored c i = go (eqb i c.stored)
  where
    go : (t : Bool) → Ok (pick t (moded_of c Part) (moded_of c (Stored i))) ≡ pick t (on c Part) (on c (Stored i))
    go true = refl
    go false = refl

pub stored_open : (c : Cursor) (i : ℕ) → i < c.stored → stored_at c i ≡ moded_of c (Stored i)
unfolding pick
stored_open c i h = rw (ne_eqb i c.stored (λ e. omega arith))

pub stored_shut : (c : Cursor) (i : ℕ) → i ≡ c.stored → stored_at c i ≡ moded_of c Part
unfolding pick
stored_shut c i h = rw (eq-eqb i c.stored h)

skip_open : (c : Cursor) (n : ℕ) (a : After) → skip_at c (n + 1) a ≡ moded_of c (Skip n a)
unfolding pick
skip_open c n a = let e : n + 1 - 1 ≡ n = omega arith in rw (ne_eqb (n + 1) 0 (λ z. omega arith), e)

-- a word that is stored or passed over: where it leads, and what it asks for
module _ (c : Cursor) (i w : ℕ) (e : c.mode ≡ Stored i) where
  pub stored_step : (t : ℕ) (space : ℕ → Space) → step_of t space c w ≡ Ok (stored_at c (i + 1))
  unfolding step_of
  stored_step t space = ap (turn t space c w) e ∙ sym (on_stored c (i + 1))

  pub stored_act : (at : ℕ) → act_of c at w ≡ Store (c.place + 4 * i) w
  unfolding act_of
  stored_act at = ap (asks c at w) e

module _ (c : Cursor) (n : ℕ) (a : After) (w : ℕ) (e : c.mode ≡ Skip n a) where
  pub passed_step : (t : ℕ) (space : ℕ → Space) → step_of t space c w ≡ Ok (skip_at c n a)
  unfolding step_of
  passed_step t space = ap (turn t space c w) e ∙ sym (on_skip c n a)

  pub passed_act : (at : ℕ) → act_of c at w ≡ Quiet
  unfolding act_of
  passed_act at = ap (asks c at w) e

-- after words that are passed over none is stored
pub unstored : (c : Cursor) (n : ℕ) (a : After) (i : ℕ) → (skip_at c n a).mode ≡ Stored i → ⊥
unfolding pick
unstored c n a i = go (eqb n 0) a
  where
    go : (t : Bool) (x : After) → (pick t (moded_of c (resume x)) (moded_of c (Skip (n - 1) x))).mode ≡ Stored i → ⊥
    go true after.Body e = impossible cc
    go true after.Symbol e = impossible cc
    go true after.Part e = impossible cc
    go false x e = impossible cc

-- ---- runs

module _ (file : List ℕ) where
  stored_on : (c : Cursor) (k j at n to : ℕ) → n ≡ j + k → to ≡ at + 4 * k → n ≤ c.stored → to ≤ length file
      → Leads file (stored_at c j) at (stored_at c n) to
  stored_on c zero j at n to e f h l = let p : n ≡ j = omega arith in let q : to ≡ at = omega arith in rw (p, q) here
  stored_on c (suc k) j at n to e f h l =
      rw (stored_open c j (omega arith))
      (stores {at = at} (omega arith) refl (stored_on c k (j + 1) (at + 4) n to (omega arith) (omega arith) h l))

  skip_on : (c : Cursor) (a : After) (k n at m to : ℕ) → n ≡ m + k → to ≡ at + 4 * k → to ≤ length file
      → Leads file (skip_at c n a) at (skip_at c m a) to
  skip_on c a zero n at m to e f l = let p : n ≡ m = omega arith in let q : to ≡ at = omega arith in rw (p, q) here
  skip_on c a (suc k) n at m to e f l =
      let p : n ≡ m + k + 1 = omega arith in
      rw (p, skip_open c (m + k) a)
      (passes {at = at} (omega arith) refl (skip_on c a k (m + k) (at + 4) m to refl (omega arith) l))

  stored_leads : (c : Cursor) (i k at n to : ℕ) → c.mode ≡ Stored i → i < c.stored → n ≡ i + k → to ≡ at + 4 * k
      → n ≤ c.stored → to ≤ length file → Leads file c at (stored_at c n) to
  stored_leads c i k at n to m s e f h l =
      subst (λ d. Leads file d at (stored_at c n) to) (stored_open c i s ∙ ap (moded_of c) (sym m))
      (stored_on c k i at n to e f h l)

  skip_leads : (c : Cursor) (i : ℕ) (a : After) (k at n to : ℕ) → c.mode ≡ Skip i a → i + 1 ≡ n + k → to ≡ at + 4 * k
      → to ≤ length file → Leads file c at (skip_at c n a) to
  skip_leads c i a k at n to m e f l =
      subst (λ d. Leads file d at (skip_at c n a) to) (skip_open c i a ∙ ap (moded_of c) (sym m))
      (skip_on c a k (i + 1) at n to e f l)

  -- ---- as the code counts them

  pub stored_some : (c : Cursor) (i : ℕ) → CursorFits file c → c.mode ≡ Stored i → i < c.stored
  stored_some c i s e = (rw e at s.mode).1

  module _ (c : Cursor) (i at left n : ℕ) (d : Cursor) (there : at < length file)
      (words : left ≡ (length file - at) / 4) where
    pub past_stored : CursorFits file c → c.mode ≡ Stored i → n ≡ min left (c.stored - i) → d ≡ stored_at c (i + n)
        → Leads file c at d (at + 4 * n)
    past_stored s m e f =
        let l = stored_some c i s m in
        rw f (stored_leads c i n at (i + n) (at + 4 * n) m l refl refl (omega arith) (omega arith))

    pub past_skipped : (a : After) → c.mode ≡ Skip i a → n ≡ min left (i + 1) → d ≡ skip_at c (i + 1 - n) a
        → Leads file c at d (at + 4 * n)
    past_skipped a m e f = rw f (skip_leads c i a n at (i + 1 - n) (at + 4 * n) m (omega arith) refl (omega arith))

    -- no stored word follows
    pub past_stored_all : CursorFits file c → c.mode ≡ Stored i → n ≡ min left (c.stored - i) → d ≡ stored_at c (i + n)
        → length file % 4 ≡ 0 → at % 4 ≡ 0 → (j : ℕ) → d.mode ≡ Stored j → length file ≤ at + 4 * n
    past_stored_all s m e f w a j y = go (dec_lt (i + n) c.stored) (sym (ap (λ (b : Cursor). b.mode) f) ∙ y)
      where
        go : Dec (i + n < c.stored) → (stored_at c (i + n)).mode ≡ Stored j → length file ≤ at + 4 * n
        go (yes h) z = omega arith
        go (no h) z =
            let l = stored_some c i s m in
            let g = stored_shut c (i + n) (omega arith) in
            let q = sym (ap (λ (b : Cursor). b.mode) g) ∙ z in
            impossible cc

  pub past_skipped_all : (c d : Cursor) (a : After) (n : ℕ) {X : Type 0} → d ≡ skip_at c n a → (j : ℕ)
      → d.mode ≡ Stored j → X
  past_skipped_all c d a n e j y = absurd (unstored c n a j (sym (ap (λ (b : Cursor). b.mode) e) ∙ y))

  -- ---- what stays

  pub leads_far : {c d : Cursor} {at to : ℕ} → Leads file c at d to → at ≤ to
  leads_far here = omega arith
  leads_far (stores l e k) = let h = leads_far k in omega arith
  leads_far (passes l e k) = let h = leads_far k in omega arith

  pub leads_reads : {c d : Cursor} {at to : ℕ} → Leads file c at d to → Reads file c at → Reads file d to
  leads_reads here r = r
  leads_reads (stores {c = c} {i = i} {at = at} l e k) r =
      leads_reads k (reads_on file c at _ _ _ r l refl refl (stored_step c i _ e _ _))
  leads_reads (passes {c = c} {n = n} {a = a} {at = at} l e k) r =
      leads_reads k (reads_on file c at _ _ _ r l refl refl (passed_step c n a _ e _ _))

-- an act that asks for nothing, or for a store only
abbrev pub QuietOrStore : Act → Type 0
QuietOrStore Quiet = Unit
QuietOrStore (Store p w) = Unit
QuietOrStore (Body h p k) = ⊥
QuietOrStore (Add p k b) = ⊥

-- what makes nothing of such acts makes the same of the acts from here and from there
pub leads_acts : {Y : Type 0} (f : List Act → Y) (file : List ℕ)
    → ((a : Act) (us : List Act) → QuietOrStore a → f (a ∷ us) ≡ f us) → {c d : Cursor} {at to : ℕ}
    → Leads file c at d to → Reads file c at → f (acts_from file at c) ≡ f (acts_from file to d)
leads_acts f file quiet here r = refl
leads_acts f file quiet (stores {c = c} {i = i} {at = at} l e k) r =
    let s = stored_step c i (word_at file at) e (total_of file) (space_of file) in
    ap f (acts_on file at c _ _ r l refl refl _ _ s (sym (stored_act c i _ e at)))
    ∙ quiet (Store _ _) _ tt
    ∙ leads_acts f file quiet k (reads_on file c at _ _ _ r l refl refl s)
leads_acts f file quiet (passes {c = c} {n = n} {a = a} {at = at} l e k) r =
    let s = passed_step c n a (word_at file at) e (total_of file) (space_of file) in
    ap f (acts_on file at c _ _ r l refl refl _ _ s (sym (passed_act c n a _ e at)))
    ∙ quiet Quiet _ tt
    ∙ leads_acts f file quiet k (reads_on file c at _ _ _ r l refl refl s)

-- ---- a turn of a loop that goes on past such words

pub turn_less : (file : List ℕ) (d e : Cursor) (at to : ℕ) → at < length file → Leads file d (at + 4) e to
    → length file - to < length file - at
turn_less file d e at to h k = omega (arith, leads_far file k)

module _ (file : List ℕ) (c : Cursor) (at : ℕ) (i : Reads file c at) where
  pub turn_aligned : (at + 4) % 4 ≡ 0
  turn_aligned = omega (arith, i.aligned)

  module _ (w : ℕ) (r : Result Cursor Fault) (d : Cursor) (l : at < length file) (p : w ≡ word_at file at)
      (q : numbered r ≡ step_of (total_of file) (space_of file) c w) (n : r ≡ Ok d) where
    turn_reads : Reads file d (at + 4)
    turn_reads = reads_on file c at w (numbered r) d i l p q (ap numbered n)

    pub turn_fits : CursorFits file d
    turn_fits = turn_reads.fits

    pub reads_turn : (e : Cursor) (to : ℕ) → Leads file d (at + 4) e to → Reads file e to
    reads_turn e to k = leads_reads file k turn_reads

pub passing_turn : (g : List ℕ → Act → List ℕ) (file x₀ x : List ℕ) (c d e : Cursor) (at w : ℕ) (r : Next) (a : Act)
    (y : List ℕ) (to : ℕ)
    → Passing g file x₀ x c at → at < length file → w ≡ word_at file at
    → r ≡ step_of (total_of file) (space_of file) c w
    → r ≡ Ok d → a ≡ act_of c at w → y ≡ g x a → Leads file d (at + 4) e to
    → ((z : List ℕ) (b : Act) → length (g z b) ≡ length z) → ((z : List ℕ) (b : Act) → QuietOrStore b → g z b ≡ z)
    → Passing g file x₀ y e to
unfolding pass
passing_turn g file x₀ x c d e at w r a y to i l p q n z k f long quiet =
    let j = passing_on g file x₀ x c at i w r l p q d a y n z k long in
    record {
      reads = leads_reads file f j.reads;
      left = j.left ∙ leads_acts (pass g y) file (λ b us m. ap (λ u. pass g u us) (quiet y b m)) f j.reads;
      long = j.long;
    }
