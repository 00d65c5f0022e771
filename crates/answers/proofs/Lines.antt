-- Laws of the lines of a text, and of a copy. Assumes nothing.
use Prim.Native.Nat.{ℕ, zero, suc, ◌+◌, ◌-◌, ◌≤◌, ◌<◌}
use mathlib.Core.Path.{◌≡◌, refl, sym, ap, ◌∙◌}
use mathlib.Core.Bool.{Bool, true, false, ◌&&◌}
use mathlib.Core.List.{List, [], ◌∷◌}
use native.Mathlib.Numerals.{add-one}
use native.Mathlib.Omega.{arith}
use lib.Dec.{T, eqb, leb}
use lib.ListN.{length, get_or, take, drop, length-drop, drop_of_length-le}
use lib.Seq.{drop-cons, drop-drop}
use borrow.Author.Tests.{eq-eqb, ne_eqb, leb-true, le-leb}
use Rattle.answers.specs.Tests.{pick}
use Rattle.answers.specs.Lines.{newline, line, rest, after, line_of, BeginsLine, EndsLine, copied, PutsLine}

-- ---- where the line ends that begins at byte `at`, looked for from byte i on

-- the line from byte i on ends where the one from `at` on does
pub record Ending (text : List ℕ) (at i : ℕ) : Type 0 where
  pub within : i ≤ length text
  pub same : i + length (line (drop i text)) ≡ at + length (line (drop at text))

pub ending_start : (text : List ℕ) (at : ℕ) → at ≤ length text → Ending text at at
ending_start text at h = record { within = h; same = refl }

module _ (text : List ℕ) (at i : ℕ) (e : Ending text at i) where
  pub ending_here : i < length text → get_or text i 0 ≡ newline → EndsLine text at i
  unfolding line pick
  ending_here h n = record { within = omega arith; place = omega (arith, none) }
    where
      none : length (line (drop i text)) ≡ 0
      none = rw (drop-cons text i 0 h, eq-eqb (get_or text i 0) newline n)

  pub ending_later : i < length text → (get_or text i 0 ≡ newline → ⊥) → Ending text at (i + 1)
  unfolding line pick
  ending_later h n = record { within = omega arith; same = omega (arith, one) }
    where
      one : length (line (drop i text)) ≡ suc (length (line (drop (i + 1) text)))
      one = rw (add-one i, drop-cons text i 0 h, ne_eqb (get_or text i 0) newline n)

  pub ending_last : length text ≤ i → EndsLine text at (length text)
  unfolding line
  ending_last h = record { within = omega arith; place = omega (arith, none, e.within, e.same) }
    where
      none : length (line (drop i text)) ≡ 0
      none = rw (drop_of_length-le text {i = i} h)

-- ---- the first line

pub take_line : (text : List ℕ) → take (length (line text)) text ≡ line text
unfolding line pick
take_line [] = refl
take_line (b ∷ text) = go (eqb b newline) (take_line text)
  where
    go : (t : Bool) → take (length (line text)) text ≡ line text
        → take (length (pick t [] (b ∷ line text))) (b ∷ text) ≡ pick t [] (b ∷ line text)
    go true h = refl
    go false h = ap (λ (l : List ℕ). b ∷ l) h

-- what follows its newline
pub rest_drop : (text : List ℕ) → length (line text) < length text
    → rest text ≡ drop (suc (length (line text))) text
unfolding line rest pick
rest_drop [] h = absurd (omega arith)
rest_drop (b ∷ text) h = go (eqb b newline) h (rest_drop text)
  where
    go : (t : Bool) → length (pick t [] (b ∷ line text)) < suc (length text)
        → (length (line text) < length text → rest text ≡ drop (suc (length (line text))) text)
        → pick t text (rest text) ≡ drop (length (pick t [] (b ∷ line text))) text
    go true h more = refl
    go false h more = more (omega arith)

-- nothing, where it has none
pub rest_none : (text : List ℕ) → length (line text) ≡ length text → rest text ≡ []
unfolding line rest pick
rest_none [] h = refl
rest_none (b ∷ text) h = go (eqb b newline) h (rest_none text)
  where
    go : (t : Bool) → length (pick t [] (b ∷ line text)) ≡ suc (length text)
        → (length (line text) ≡ length text → rest text ≡ []) → pick t text (rest text) ≡ []
    go true h more = absurd (omega arith)
    go false h more = more (omega arith)

pub after_none : (n : ℕ) → after n [] ≡ []
unfolding after rest
after_none zero = refl
after_none (suc n) = after_none n

-- ---- where a line begins, a line at a time

-- after k lines: what is line n of the text is line n - k of what comes from byte `at` on
pub record Counted (text : List ℕ) (n at k : ℕ) : Type 0 where
  pub within : at ≤ length text
  pub same : after (n - k) (drop at text) ≡ after n text

pub counted_start : (text : List ℕ) (n : ℕ) → Counted text n 0 0
counted_start text n = let e : n - 0 ≡ n = omega arith in record { within = omega arith; same = rw e }

module _ (text : List ℕ) (n at k : ℕ) (c : Counted text n at k) where
  pub counted_all : n ≤ k → BeginsLine text n at
  unfolding after
  counted_all h = let e : n - k ≡ 0 = omega arith in record { within = c.within; same = rw e at c.same }

  -- the line there ends at byte `end`
  module _ (end : ℕ) (some : k < n) (e : EndsLine text at end) where
    abbrev here : List ℕ
    here = drop at text

    length_here : length here ≡ length text - at
    length_here = length-drop at text

    one_less : after (n - k) here ≡ after (n - (k + 1)) (rest here)
    unfolding after
    one_less = let e : n - k ≡ suc (n - (k + 1)) = omega arith in ap (λ (j : ℕ). after j here) e

    -- at a newline: the next begins after it
    pub counted_on : (end ≡ length text → ⊥) → Counted text n (end + 1) (k + 1)
    counted_on h =
        record { within = omega (arith, h); same = ap (after (n - (k + 1))) (sym next) ∙ sym one_less ∙ c.same }
      where
        less : length (line here) < length here
        less = omega (arith, length_here, h)

        place : at + suc (length (line here)) ≡ end + 1
        place = omega arith

        next : rest here ≡ drop (end + 1) text
        next = rest_drop here less ∙ drop-drop (suc (length (line here))) at text ∙ ap (λ (j : ℕ). drop j text) place

    -- at the end of the text: there is no other
    pub counted_out : end ≡ length text → BeginsLine text n end
    counted_out h = record { within = e.within; same = drop_of_length-le text {i = end} (omega arith) ∙ sym none }
      where
        over : rest here ≡ []
        over = rest_none here (omega (arith, length_here))

        none : after n text ≡ []
        none = sym c.same ∙ one_less ∙ ap (after (n - (k + 1))) over ∙ after_none (n - (k + 1))

-- ---- a line found and copied

module _ (text : List ℕ) (n at end : ℕ) (b : BeginsLine text n at) (e : EndsLine text at end) where
  line_is : line (drop at text) ≡ line (after n text)
  line_is = ap line b.same

  long : end - at ≡ length (line (drop at text))
  long = omega arith

  part_is : take (end - at) (drop at text) ≡ line (after n text)
  part_is = rw long (take_line (drop at text) ∙ line_is)

  pub puts_line : (output output' : List ℕ) → output' ≡ copied (take (end - at) (drop at text)) output
      → PutsLine text n output (end - at) output'
  puts_line output output' c = record { answer = long ∙ ap length line_is; left = rw part_is at c }

-- ---- no line of a text is longer than k bytes, by computing; c bytes of its first line stand before it

abbrev pub short : ℕ → ℕ → List ℕ → Bool
short k c [] = leb c k
short k c (b ∷ text) = leb c k && pick (eqb b newline) (short k 0 text) (short k (suc c) text)

-- so it is of the first line, and of the others
Short : ℕ → ℕ → List ℕ → Type 0
Short k c text = (c + length (line text) ≤ k) × T (short k 0 (rest text))

short_so : (k : ℕ) (text : List ℕ) (c : ℕ) → T (short k c text) → Short k c text
unfolding Short line rest pick
short_so k [] c t = go (leb c k) refl t
  where
    go : (b : Bool) → leb c k ≡ b → T b → (c + 0 ≤ k) × T (leb 0 k)
    go true e t = let h : c ≤ k = leb-true c k e in (omega arith, rw (le-leb 0 k (omega arith)) tt)
    go false e t = absurd t
short_so k (b ∷ text) c t = go (leb c k) refl (eqb b newline) t (short_so k text (suc c))
  where
    go : (a : Bool) → leb c k ≡ a → (n : Bool) → T (a && pick n (short k 0 text) (short k (suc c) text))
        → (T (short k (suc c) text) → (suc c + length (line text) ≤ k) × T (short k 0 (rest text)))
        → (c + length (pick n [] (b ∷ line text)) ≤ k) × T (short k 0 (pick n text (rest text)))
    go true e true t more = let h : c ≤ k = leb-true c k e in (omega arith, t)
    go true e false t more = let m = more t in (omega (arith, m.0), m.1)
    go false e n t more = absurd t

pub line_most : (k n : ℕ) (text : List ℕ) → T (short k 0 text) → length (line_of n text) ≤ k
unfolding after Short
line_most k zero text t = omega (arith, (short_so k text 0 t).0)
line_most k (suc n) text t = line_most k n (rest text) (short_so k text 0 t).1
