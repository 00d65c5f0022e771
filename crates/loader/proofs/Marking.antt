-- The marks in the work area say which targets are too near. Assumes nothing.
use Rattle.std.specs.Prelude.{Ok, Err, None}
use Rattle.std.specs.Prelude as std
use lib.ListN.{length-replicate, replicate-append-replicate}
use Rattle.std.proofs.Common.{◌-◌, take, drop, replicate, length-take-le, take_at, drop_at}
use Rattle.std.proofs.Common.{◌≡◌, ℕ, ◌+◌, ◌<◌, ◌≤◌, Bool, true, false, ltb, ◌⊎◌, List, [], ◌∷◌, ◌++◌, length}
use Rattle.std.proofs.Common.{get_or, sym, refl, ap, ◌∙◌, inl, inr, ⊎_elim, arith, ltb-false, ltb-true}
use native.Mathlib.Decide.{dec_lt}
use Rattle.answers.specs.Numbers as fault
use Rattle.words.specs.Word.{word_at, words_at, set_word}
use Rattle.words.proofs.Words.{length_set_word, split, set_word_0, set_word_1, set_word_2, set_word_3, set_word_below}
use Rattle.words.proofs.Words.{set_word_above}
use Rattle.answers.specs.Tests.{pick}
use Rattle.answers.specs.Refusals.{refusal}
use Rattle.program.specs.declared.act.Act.{Act}
use Rattle.program.specs.declared.act.Act.TheVariants.{Quiet, Body, Store, Add}
use Rattle.program.specs.Acts.{acts_of}
use Rattle.loader.specs.declared.steps.Step.{Step}
use Rattle.loader.specs.declared.steps.Step.TheVariants as step
use Rattle.loader.specs.declared.steps.Pass.{Pass}
use Rattle.loader.specs.Memory.{loaded_of, targets}
use Rattle.loader.specs.Near.{near, near_any, clash, clash_of}
use Rattle.loader.specs.Steps.{stores, spelled, asked, left, Gives}

-- k is a byte of the word at q
abbrev In : ℕ → ℕ → Type 0
In k q = (q ≤ k) × (k < q + 4)

-- some word of the list has the byte k
abbrev Within : ℕ → List ℕ → Type 0
Within k [] = ⊥
Within k (q ∷ qs) = In k q ⊎ Within k qs

-- the marks are 1 at the bytes of the words seen, and 0 elsewhere
pub record Marked (work seen : List ℕ) : Type 0 where
  pub set1 : (k : ℕ) → k < length work → Within k seen → get_or work k 0 ≡ 1
  pub set0 : (k : ℕ) → (Within k seen → ⊥) → get_or work k 0 ≡ 0

pub no_bool : {A : Type 0} → false ≡ true → A
unfolding pick
no_bool e = let z : ◌≡◌ {A = ℕ} 0 1 = ap (λ (b : Bool). pick {X = ℕ} b 1 0) e in absurd (omega arith)

both : {A B : Type 0} (x y : Bool) → (x ≡ true → A) → (y ≡ true → B) → pick x y false ≡ true → A × B
unfolding pick
both true y f g h = (f refl, g h)
both false y f g h = no_bool h

either : {A B : Type 0} (x y : Bool) → (x ≡ false → A) → (y ≡ false → B) → pick x y false ≡ false → A ⊎ B
unfolding pick
either true y f g h = inr (g h)
either false y f g h = inl (f refl)

near_true : (p q : ℕ) → near p q ≡ true → (p < q + 4) × (q < p + 4)
near_true p q h = both (ltb p (q + 4)) (ltb q (p + 4)) (ltb-true p (q + 4)) (ltb-true q (p + 4)) h

pub near_false : (p q : ℕ) → near p q ≡ false → (q + 4 ≤ p) ⊎ (p + 4 ≤ q)
near_false p q h = either (ltb p (q + 4)) (ltb q (p + 4)) (ltb-false p (q + 4)) (ltb-false q (p + 4)) h

-- near words share a byte
shared : {Q : Type 0} (p q : ℕ) → p < q + 4 → q < p + 4 → ((k : ℕ) → In k p → In k q → Q) → Q
shared {Q} p q h l f = go (dec_lt p q)
  where
    go : Dec (p < q) → Q
    go (yes x) = f q (omega arith, omega arith) (omega arith, omega arith)
    go (no x) = f p (omega arith, omega arith) (omega arith, omega arith)

near_some : {Q : Type 0} (p : ℕ) (seen : List ℕ) → near_any p seen ≡ true → ((k : ℕ) → In k p → Within k seen → Q) → Q
unfolding near_any pick
near_some {Q} p [] h f = no_bool h
near_some {Q} p (q ∷ qs) h f = go (near p q) (near_true p q) h (λ e. near_some p qs e (λ k x y. f k x (inr y)))
  where
    go : (b : Bool) → (b ≡ true → (p < q + 4) × (q < p + 4)) → pick b true (near_any p qs) ≡ true
        → (near_any p qs ≡ true → Q) → Q
    go true g e r = shared p q (g refl).0 (g refl).1 (λ k x y. f k x (inl y))
    go false g e r = r e

near_none : (p : ℕ) (seen : List ℕ) → near_any p seen ≡ false → (k : ℕ) → In k p → Within k seen → ⊥
unfolding near_any pick
near_none p [] h k i s = s
near_none p (q ∷ qs) h k i s = go (near p q) (near_false p q) h s (λ e. near_none p qs e k i)
  where
    go : (b : Bool) → (b ≡ false → (q + 4 ≤ p) ⊎ (p + 4 ≤ q)) → pick b true (near_any p qs) ≡ false → Within k (q ∷ qs)
        → (near_any p qs ≡ false → Within k qs → ⊥) → ⊥
    go true g e s r = no_bool (sym e)
    go false g e (inl x) r =
        ⊎_elim (λ y. omega (arith, x.0, x.1, i.0, i.1)) (λ y. omega (arith, x.0, x.1, i.0, i.1)) (g refl)
    go false g e (inr x) r = r e x

zero_byte : (work : List ℕ) (p k : ℕ) → word_at work p ≡ 0 → In k p → get_or work k 0 ≡ 0
unfolding word_at
zero_byte work p k h i =
    split (λ j. In j p → get_or work j 0 ≡ 0) p (λ _. omega arith) (λ _. omega arith) (λ _. omega arith)
    (λ _. omega arith) (λ j l x. absurd (omega (arith, x.0))) (λ j l x. absurd (omega (arith, x.1))) k i

zero_word : (work : List ℕ) (p : ℕ) → ((k : ℕ) → In k p → get_or work k 0 ≡ 0) → word_at work p ≡ 0
unfolding word_at
zero_word work p h =
    let a = h p (omega arith, omega arith) in
    let b = h (p + 1) (omega arith, omega arith) in
    let c = h (p + 2) (omega arith, omega arith) in
    let d = h (p + 3) (omega arith, omega arith) in
    omega arith

-- a word of marks is 0 if and only if no word seen is near
module _ (work seen : List ℕ) (m : Marked work seen) (p : ℕ) (fits : p + 4 ≤ length work) where
  far_word : word_at work p ≡ 0 → near_any p seen ≡ false
  far_word z = go (near_any p seen) refl
    where
      go : (b : Bool) → near_any p seen ≡ b → b ≡ false
      go false e = refl
      go true e =
          near_some p seen e (λ k i s. let x = m.set1 k (omega (arith, i.1)) s in let y = zero_byte work p k z
          i in absurd (omega arith))

  near_word : (word_at work p ≡ 0 → ⊥) → near_any p seen ≡ true
  near_word z = go (near_any p seen) refl
    where
      go : (b : Bool) → near_any p seen ≡ b → b ≡ true
      go true e = refl
      go false e = absurd (z (zero_word work p (λ k i. m.set0 k (near_none p seen e k i))))

  mark_in : (k : ℕ) → In k p → get_or (set_word work p 0x01010101) k 0 ≡ 1
  mark_in k i =
      split (λ j. In j p → get_or (set_word work p 0x01010101) j 0 ≡ 1) p
      (λ _. set_word_0 work p 0x01010101 fits) (λ _. set_word_1 work p 0x01010101 fits)
      (λ _. set_word_2 work p 0x01010101 fits) (λ _. set_word_3 work p 0x01010101 fits)
      (λ j l x. absurd (omega (arith, x.0))) (λ j l x. absurd (omega (arith, x.1))) k i

  mark_out : (k : ℕ) → (In k p → ⊥) → get_or (set_word work p 0x01010101) k 0 ≡ get_or work k 0
  mark_out k o = go (dec_lt k p) (dec_lt k (p + 4))
    where
      go : Dec (k < p) → Dec (k < p + 4) → get_or (set_word work p 0x01010101) k 0 ≡ get_or work k 0
      go (yes x) y = set_word_below work p 0x01010101 k x
      go (no x) (no y) = set_word_above work p 0x01010101 k (omega arith)
      go (no x) (yes y) = absurd (o (omega arith, omega arith))

  marked_on : Marked (set_word work p 0x01010101) (p ∷ seen)
  marked_on =
      record {
        set1 = λ k l s. go k (rw length_set_word at l) (dec_lt k p) (dec_lt k (p + 4)) s;
        set0 = λ k o. mark_out k (λ i. o (inl i)) ∙ m.set0 k (λ s. o (inr s));
      }
    where
      go : (k : ℕ) → k < length work → Dec (k < p) → Dec (k < p + 4) → Within k (p ∷ seen)
          → get_or (set_word work p 0x01010101) k 0 ≡ 1
      go k l x y (inl i) = mark_in k i
      go k l (yes x) y (inr s) = mark_out k (λ i. omega (arith, i.0)) ∙ m.set1 k l s
      go k l (no x) (no y) (inr s) = mark_out k (λ i. omega (arith, i.1)) ∙ m.set1 k l s
      go k l (no x) (yes y) (inr s) = mark_in k (omega arith, omega arith)

-- ---- the loop

targets_asked : (us : List Act) → targets (asked us) ≡ targets us
unfolding targets
targets_asked [] = refl
targets_asked (Quiet ∷ us) = targets_asked us
targets_asked (Body h p k ∷ us) = targets_asked us
targets_asked (Store p w ∷ us) = targets_asked us
targets_asked (Add p k b ∷ us) = ap (λ ts. record { loaded_at = p; key = k; byte = b } ∷ ts) (targets_asked us)

targets_stores : (p : ℕ) (ws : List ℕ) (us : List Act) → targets (asked (stores p ws) ++ us) ≡ targets us
unfolding targets
targets_stores p [] us = refl
targets_stores p (w ∷ ws) us = targets_stores (p + 4) ws us

-- a step that adds nothing names no target
targets_rest : (file : List ℕ) (x : Step) (us : List Act) → ((p k b : ℕ) → x ≡ step.Act (Add p k b) → ⊥)
    → targets (asked (spelled file x) ++ us) ≡ targets us
unfolding targets
targets_rest file (step.Words p at n) us f = targets_stores p (words_at file at n) us
targets_rest file (step.Act Quiet) us f = refl
targets_rest file (step.Act (Body h p k)) us f = refl
targets_rest file (step.Act (Store p w)) us f = refl
targets_rest file (step.Act (Add p k b)) us f = absurd (f p k b refl)

-- the targets seen are marked, and those that are left decide
pub record Clashes (file work₀ work : List ℕ) (s : Pass) : Type 0 where
  pub same : s.file.now ≡ file
  pub seen : List ℕ
  pub marked : Marked work seen
  pub left : clash_of file ≡ clash seen (targets (left s))
  pub long : length work ≡ length work₀
  pub room : loaded_of file ≤ length work₀

pub clash_start : (file work : List ℕ) (s : Pass) → s.file.now ≡ file → left s ≡ asked (acts_of file)
    → loaded_of file ≤ length work → ((k : ℕ) → get_or work k 0 ≡ 0)
    → Clashes file work work s
clash_start file work s e h m z =
    record {
      same = e;
      seen = [];
      marked = record { set1 = λ k l s. absurd s; set0 = λ k o. z k };
      left = ap (clash []) (sym (ap targets h ∙ targets_asked (acts_of file)));
      long = refl;
      room = m;
    }

module _ (file work₀ work : List ℕ) (s : Pass) (i : Clashes file work₀ work s) where
  pub clash_end : (t : Pass) → Gives s None t → Ok tt ≡ clash_of file
  unfolding clash targets
  clash_end t k = sym (i.left ∙ ap (λ us. clash i.seen (targets us)) k.steps)

  module _ (t : Pass) (x : Step) (k : Gives s (std.Some x) t) where
    pub clash_rest : ((p n b : ℕ) → x ≡ step.Act (Add p n b) → ⊥) → Clashes file work₀ work t
    clash_rest f =
        record {
          same = k.same ∙ i.same;
          seen = i.seen;
          marked = i.marked;
          left =
              i.left ∙ ap (λ us. clash i.seen (targets us)) k.steps.0
              ∙ ap (clash i.seen) (targets_rest s.file.now x (left t) f);
          long = i.long;
          room = i.room;
        }

    module _ (p n b : ℕ) (e : x ≡ step.Act (Add p n b)) where
      pub mark_room : p + 4 ≤ length work
      mark_room = let f = rw (e, i.same) at k.steps.1 in omega (arith, f.0.0, i.long, i.room)

      -- the target is next
      next : clash_of file ≡ clash i.seen (record { loaded_at = p; key = n; byte = b } ∷ targets (left t))
      unfolding targets
      next =
          i.left ∙ ap (λ us. clash i.seen (targets us)) (k.steps.0 ∙ ap (λ y. asked (spelled s.file.now y) ++ left t) e)

      module _ (w : ℕ) (q : w ≡ word_at work p) where
        pub clash_met : (w ≡ 0 → ⊥) → Err (refusal fault.near_targets b) ≡ clash_of file
        unfolding clash pick
        clash_met z = sym (next ∙ rw (near_word work i.seen i.marked p mark_room (λ y. z (q ∙ y))))

        pub clash_new : w ≡ 0 → (work' : List ℕ) → work' ≡ set_word work p 0x01010101 → Clashes file work₀ work' t
        unfolding clash pick
        clash_new z work' y =
            record {
              same = k.same ∙ i.same;
              seen = p ∷ i.seen;
              marked = rw y (marked_on work i.seen i.marked p mark_room);
              left = next ∙ rw (far_word work i.seen i.marked p mark_room (sym q ∙ z));
              long = ap length y ∙ length_set_word work p 0x01010101 ∙ i.long;
              room = i.room;
            }

-- ---- what is marked is cleared

-- of a work area of zeros the front was marked, as m, and then filled with zeros
pub cleared : (w m r : List ℕ) (n : ℕ) → w ≡ replicate (length w) 0 → n ≤ length w → length m ≡ length (take n w)
    → r ≡ replicate (length (take n (m ++ drop n w))) 0
    → r ++ drop n (m ++ drop n w) ≡ replicate (length w) 0
cleared w m r n z h l e =
    let long : length m ≡ n = l ∙ length-take-le n w h in
    let all : n + (length w - n) ≡ length w = omega arith in
    let halves : w ≡ replicate n 0 ++ replicate (length w - n) 0 =
    z ∙ sym (replicate-append-replicate n (length w - n) 0 ∙ ap (λ (j : ℕ). replicate j 0) all)
    in
    let front : r ≡ replicate n 0 =
    e ∙ ap (λ (l : List ℕ). replicate (length l) 0) (take_at m (drop n w) n long) ∙ ap (λ (j : ℕ). replicate j 0) long
    in
    let back : drop n (m ++ drop n w) ≡ replicate (length w - n) 0 =
    drop_at m (drop n w) n long ∙ ap (drop n) halves ∙ drop_at (replicate n 0) _ n (length-replicate n 0)
    in
    ap (λ (l : List ℕ). l ++ drop n (m ++ drop n w)) front
    ∙ ap (λ (l : List ℕ). replicate n 0 ++ l) back ∙ sym halves ∙ z
