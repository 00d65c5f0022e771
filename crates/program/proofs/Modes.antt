-- What a `match` on the reader's mode leaves, said as laws. Assumes nothing.
use Prim.Native.Nat.{ℕ, ◌+◌, ◌*◌, ◌<◌, ◌≤◌}
use mathlib.Core.Path.{◌≡◌, refl, sym, ap, subst, ◌∙◌}
use mathlib.Core.Logic.{inl, inr}
use mathlib.Core.Bool.{Bool, true, false}
use mathlib.Core.List.{List, [], ◌∷◌}
use native.Mathlib.Omega.{arith}
use lib.Dec.{T, eqb}
use lib.ListN.{length}
use types.Run.{OneOf}
use denote.Enum.Declared.{tag_of}
use borrow.Author.Tests.{eq-eqb}
use Rattle.answers.specs.Numbers as fault
use Rattle.answers.specs.Tests.{pick}
use Rattle.program.specs.contracts.reader.Mode.{the_type}
use Rattle.program.specs.Spaces.{Space}
use Rattle.program.specs.declared.act.Act.{Act}
use Rattle.program.specs.declared.act.Act.TheVariants as act
use Rattle.program.specs.declared.reader.Cursor.{Cursor}
use Rattle.program.specs.declared.reader.Mode.{Mode}
use Rattle.program.specs.declared.reader.Mode.TheVariants.{Begin, NameLength, Body, Length, Stored, Part}
use Rattle.program.specs.declared.reader.Mode.TheVariants.{Count, Number, Offset, Symbol, DebugLength, Skip}
use Rattle.program.specs.declared.reader.Mode.TheVariants.{End}
use Rattle.program.specs.Header.{total_of}
use Rattle.program.specs.Reader.{Next, turn, step_of}
use Rattle.program.specs.Check.{Answer, refuse, ended_of}
use Rattle.program.specs.Acts.{asks, act_of}
use Rattle.program.specs.Cursors.{ModeFits, CursorFits}

abbrev absent : List ℕ → ℕ → Bool
absent [] x = true
absent (k ∷ ks) x = pick (eqb x k) false (absent ks x)

later : (b r : Bool) → T (pick b false r) → T r
unfolding pick
later true r t = absurd t
later false r t = t

-- a number is none of the keys
pub none : (ks : List ℕ) (x : ℕ) → T (unfold pick in absent ks x) → OneOf ks x → ⊥
unfolding pick
none [] x t h = h
none (k ∷ []) x t e = rw (eq-eqb x k e) at t
none (k ∷ j ∷ ks) x t (inl e) = rw (eq-eqb x k e) at t
none (k ∷ j ∷ ks) x t (inr h) = none (j ∷ ks) x (later (eqb x k) _ t) h

-- all modes but these four ask for nothing
pub rest_quiet : (c : Cursor) (at w : ℕ) → (c.mode ≡ Begin → ⊥) → (c.mode ≡ Body → ⊥)
    → ((n : ℕ) → c.mode ≡ Stored n → ⊥)
    → ((n k : ℕ) → c.mode ≡ Offset n k → ⊥)
    → act.Quiet ≡ act_of c at w
unfolding act_of
rest_quiet c at w = go c.mode
  where
    go : (m : Mode) → (m ≡ Begin → ⊥) → (m ≡ Body → ⊥) → ((n : ℕ) → m ≡ Stored n → ⊥)
        → ((n k : ℕ) → m ≡ Offset n k → ⊥)
        → act.Quiet ≡ asks c at w m
    go Begin f g h i = absurd (f refl)
    go Body f g h i = absurd (g refl)
    go (Stored n) f g h i = absurd (h n refl)
    go (Offset n k) f g h i = absurd (i n k refl)
    go NameLength f g h i = refl
    go (Length k) f g h i = refl
    go Part f g h i = refl
    go Count f g h i = refl
    go (Number n) f g h i = refl
    go Symbol f g h i = refl
    go DebugLength f g h i = refl
    go (Skip n a) f g h i = refl
    go End f g h i = refl

-- all modes but `End` miss a word
abbrev missing : List ℕ
missing = 0 ∷ 1 ∷ 2 ∷ 3 ∷ 4 ∷ 5 ∷ 6 ∷ 7 ∷ 8 ∷ 9 ∷ 10 ∷ 11 ∷ []

pub rest_open : (end : ℕ) (c : Cursor) (m : Mode) → OneOf missing (tag_of the_type m)
    → refuse fault.early_end end ≡ ended_of end c m
unfolding pick
rest_open end c End h = absurd (none missing 12 tt h)
rest_open end c Begin h = refl
rest_open end c NameLength h = refl
rest_open end c Body h = refl
rest_open end c (Length k) h = refl
rest_open end c (Stored n) h = refl
rest_open end c Part h = refl
rest_open end c Count h = refl
rest_open end c (Number n) h = refl
rest_open end c (Offset n k) h = refl
rest_open end c Symbol h = refl
rest_open end c DebugLength h = refl
rest_open end c (Skip n a) h = refl

-- ---- by the mode that a branch knows

pub by_mode : (t : ℕ) (space : ℕ → Space) (c : Cursor) (w : ℕ) (m : Mode) (r : Next) → c.mode ≡ m
    → r ≡ turn t space c w m
    → r ≡ step_of t space c w
unfolding step_of
by_mode t space c w m r e h = h ∙ sym (ap (turn t space c w) e)

pub by_act : (c : Cursor) (at w : ℕ) (m : Mode) (r : Act) → c.mode ≡ m → r ≡ asks c at w m → r ≡ act_of c at w
unfolding act_of
by_act c at w m r e h = h ∙ sym (ap (asks c at w) e)

pub by_end : (end : ℕ) (c : Cursor) (m : Mode) (r : Answer) → c.mode ≡ m → r ≡ ended_of end c m
    → r ≡ ended_of end c c.mode
by_end end c m r e h = h ∙ sym (ap (ended_of end c) e)

-- the header's words are there while a hunk is read
pub in_header : (file : List ℕ) (c : Cursor) (m : Mode) → CursorFits file c → c.mode ≡ m
    → (ModeFits (total_of file) c.hunk c.stored m → c.hunk < total_of file)
    → (24 + 4 * c.hunk ≤ length file) × (c.hunk < 64) × (c.place ≤ 4294967296)
in_header file c m s e f =
    let h : c.hunk < total_of file = f (subst (ModeFits (total_of file) c.hunk c.stored) e s.mode) in
    (omega (arith, s.header.long), omega (arith, s.header.few), omega (arith, s.low, s.header.few))

pub stored_fits : (file : List ℕ) (c : Cursor) (i : ℕ) → CursorFits file c → c.mode ≡ Stored i → i + 1 < 4294967296
stored_fits file c i s e =
    let h : (c.hunk < total_of file) × (i < c.stored) =
    subst (ModeFits (total_of file) c.hunk c.stored) e s.mode in
    omega (arith, h.1, s.fits, (s.header.spaces c.hunk h.0).size)
