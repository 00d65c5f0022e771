-- Laws of the header: word by word, and what a header without fault says. Assumes nothing.
use Prim.Native.Nat.{ℕ, zero, suc, ◌+◌, ◌*◌, ◌-◌, ◌<◌, ◌≤◌}
use mathlib.Core.Path.{◌≡◌, refl, ap, subst, ◌∙◌}
use mathlib.Core.List.{List}
use native.Mathlib.Omega.{arith}
use lib.ListN.{length}
use borrow.Author.Tests.{lt-ltb, le-ltb}
use Rattle.std.specs.Prelude.{Result, Ok, Err}
use Rattle.answers.specs.Numbers as fault
use Rattle.words.specs.Word.{word_at}
use Rattle.answers.specs.Tests.{pick}
use Rattle.answers.specs.Refusals.{refusal, number_of, refused_at, told}
use Rattle.answers.specs.declared.Fault.{Fault}
use Rattle.answers.proofs.Tests.{told_err}
use Rattle.program.specs.Header.{total_of, space_of, head_fault, judge, heads}
use Rattle.program.specs.Cursors.{HeaderFits}
use Rattle.program.proofs.Heading.{each_passes, is_2, is_space}

module _ (file : List ℕ) (i n : ℕ) where
  pub heads_short : 0 < n → length file < 4 * i + 4 → heads file i n ≡ Err (refusal fault.early_end (length file))
  unfolding heads pick
  heads_short p h = let e : n ≡ suc (n - 1) = omega arith in rw (e, lt-ltb _ _ h)

  module _ (s : Result Unit Fault) (w : ℕ) (p : 0 < n) (h : 4 * i + 4 ≤ length file) (x : w ≡ word_at file (4 * i))
      (e : told s ≡ head_fault (total_of file) i w) where
    -- the word decides
    heads_word : heads file i n ≡ judge (told s) (4 * i) (heads file (i + 1) (n - 1))
    unfolding heads pick
    heads_word = let q : n ≡ suc (n - 1) = omega arith in ap (heads file i) q ∙ rw (le-ltb _ _ h, ← x, ← e)

    pub heads_bad : {f : Fault} → s ≡ Err f → heads file i n ≡ Err (refused_at f (4 * i))
    heads_bad {f} z = heads_word ∙ rw z (go (number_of f) (told_err (Err f) refl))
      where
        go : (v : ℕ) → (v ≡ 0 → ⊥) → judge v (4 * i) (heads file (i + 1) (n - 1)) ≡ Err (refusal v (4 * i))
        go zero y = absurd (y refl)
        go (suc v) y = refl

    pub heads_on : {u : Unit} → s ≡ Ok u → heads file i n ≡ heads file (i + 1) (n - 1)
    heads_on z = heads_word ∙ rw z

pub heads_none : (file : List ℕ) (i n : ℕ) → n ≤ 0 → heads file i n ≡ Ok tt
unfolding heads
heads_none file i n h = let e : n ≡ 0 = omega arith in rw e

-- ---- a header that passed

pub few_hunks : (file : List ℕ) → heads file 0 5 ≡ Ok tt
    → (20 ≤ length file) × (1 ≤ total_of file) × (total_of file ≤ 64)
few_hunks file e =
    let f = is_2 (total_of file) (total_of file) (each_passes file 5 0 e 2 (omega arith) (omega arith)).1 in
    (omega (arith, (each_passes file 5 0 e 4 (omega arith) (omega arith)).0), f.0, f.1)

pub header_fits : (file : List ℕ) → heads file 0 5 ≡ Ok tt → heads file 5 (total_of file) ≡ Ok tt → HeaderFits file
unfolding space_of
header_fits file e g =
    let f = few_hunks file e in
    let last = each_passes file (total_of file) 5 g (4 + total_of file) (omega (arith, f.1)) (omega arith) in
    record {
      few = f.2;
      some = f.1;
      long = omega (arith, last.0);
      spaces =
          λ i h. is_space (total_of file) (word_at file (20 + 4 * i)) i
          (subst (λ (p : ℕ). head_fault (total_of file) (5 + i) (word_at file p) ≡ 0) (omega arith)
          (each_passes file (total_of file) 5 g (5 + i) (omega arith) (omega arith)).1);
    }
