-- Laws of the search of one chain. Assumes nothing.
use Prim.Native.Nat.{ℕ, zero, suc, ◌+◌, ◌-◌, ◌≤◌, ◌<◌}
use mathlib.Core.Path.{◌≡◌, refl, sym, ap, ◌∙◌}
use mathlib.Core.Logic.{◌≢◌}
use mathlib.Core.Bool.{Bool, true, false}
use mathlib.Core.List.{List}
use native.Mathlib.Omega.{arith}
use native.Mathlib.Numerals.{add-one}
use lib.Dec.{ltb}
use lib.ListN.{length}
use borrow.Author.Tests.{eq-eqb, ne_eqb, lt-ltb, le-ltb, ltb-true}
use Rattle.std.specs.Prelude.{Ok, Err, Some, None}
use Rattle.answers.specs.Numbers as fault
use Rattle.answers.specs.Tests.{pick, first}
use Rattle.answers.specs.Refusals.{refusal}
use Rattle.answers.proofs.Tests.{go, stop, must_true, must_false, must_passed, first_zero}
use Rattle.volume.specs.declared.disk.Disk.{Disk}
use Rattle.volume.specs.Disks.{image_bytes, in_range, chain_limit}
use Rattle.volume.specs.Blocks.{Holds, slots, word_of}
use Rattle.volume.specs.Names.{longest, slot_of, same, name_length, name_of}
use Rattle.volume.specs.Rules.{entry_fault}
use Rattle.volume.specs.Law.{after, chain_key}
use Rattle.volume.proofs.Sizes.{range_is}
use Rattle.volume.proofs.Names.{name_short}
use Rattle.volume.proofs.Passes.{entry_passed}
use Rattle.volume.proofs.Breaks.{key_inside, entry_sound}
use Rattle.lookup.specs.Search.{position_key, position_fault, visit, search_from, search_of, Step, hit}
use Rattle.lookup.specs.Trails.{Tests}

-- ---- the tests of a key: t is whether it is in range, l the chain limit

-- a key in range lies in an image that is long enough
pub range_holds : (d : Disk) (s : List ℕ) (k : ℕ) (t : Bool) → length s ≡ image_bytes d → t ≡ in_range d k → t ≡ true
    → Holds s k
range_holds d s k t w e q = let h : k < d.blocks = (range_is d k (sym e ∙ q)).1 in omega arith

module _ (d : Disk) (s : List ℕ) (dir i p k : ℕ) (t : Bool) (e : t ≡ in_range d k) where
  pub key_out : t ≡ false → 5 ≡ position_fault d s dir i p k
  unfolding position_fault
  key_out q = stop 5 _ _ tt (must_false 5 t (in_range d k) e q)

  module _ (q : t ≡ true) (l : ℕ) (f : l ≡ chain_limit d) where
    pub key_far : l ≤ p → 6 ≡ position_fault d s dir i p k
    unfolding position_fault
    key_far h =
        go 6 _ _ (must_true 5 t (in_range d k) e q)
        (stop 6 _ _ tt (must_false 6 false (ltb p (chain_limit d))
        (sym (le-ltb p (chain_limit d) (omega (arith, f)))) refl))

    pub key_own : p < l → (r : ℕ) → r ≡ entry_fault d s k dir i → r ≡ position_fault d s dir i p k
    unfolding position_fault first
    key_own h r g =
        go r _ _ (must_true 5 t (in_range d k) e q)
        (go r _ _ (must_true 6 true (ltb p (chain_limit d)) (sym (lt-ltb p (chain_limit d) (omega (arith, f))))
        refl) (go' r (entry_fault d s k dir i) g))
      where
        go' : (r x : ℕ) → r ≡ x → r ≡ first x 0
        go' r zero h = h
        go' r (suc x) h = h

-- what a key that passes is
pub record Passing (d : Disk) (s : List ℕ) (t i p k : ℕ) : Type 0 where
  pub ranged : in_range d k ≡ true
  pub near : p < chain_limit d
  pub fine : entry_fault d s k t i ≡ 0

pub key_passed : (d : Disk) (s : List ℕ) (t i p k : ℕ) → position_fault d s t i p k ≡ 0 → Passing d s t i p k
unfolding position_fault
key_passed d s t i p k e =
    let a = first_zero _ _ e in
    let b = first_zero _ _ a.1 in
    record {
      ranged = must_passed _ fault.bad_key a.0 tt;
      near = ltb-true _ _ (must_passed _ fault.claimed_twice b.0 tt);
      fine = (first_zero _ _ b.1).0;
    }

-- ---- position by position

-- what the tests of position p say
abbrev pub fault_at : Disk → List ℕ → ℕ → List ℕ → ℕ → ℕ
fault_at d s t name p = position_fault d s t (slot_of d name) p (position_key d s t name p)

-- they pass if and only if it has an entry as the law asks
module _ (d : Disk) (s : List ℕ) (t : ℕ) (name : List ℕ) (p : ℕ) where
  pub tests_pass : Tests d s t name p → fault_at d s t name p ≡ 0
  tests_pass h =
      let k = position_key d s t name p in
      sym (key_own d s t (slot_of d name) p k true (sym ((key_inside d k).1 h.inside)) refl (chain_limit d) refl
      h.near 0 (sym ((entry_sound d s k t (slot_of d name)).1 h.sound)))

  pub pass_tests : position_key d s t name p ≢ 0 → fault_at d s t name p ≡ 0 → Tests d s t name p
  pass_tests z e =
      let k = position_key d s t name p in
      let h = key_passed d s t (slot_of d name) p k e in
      record {
        some = z;
        inside = (key_inside d k).0 h.ranged;
        near = h.near;
        sound = (entry_sound d s k t (slot_of d name)).0 h.fine;
      }

pub slot_below : (d : Disk) (xs : List ℕ) (i : ℕ) → i ≡ slot_of d xs → i < slots
unfolding slot_of
slot_below d xs i e = omega (arith, e)

pub position_next : (d : Disk) (s : List ℕ) (t : ℕ) (name : List ℕ) (p : ℕ) → (position_key d s t name p ≡ 0 → ⊥)
    → position_key d s t name (p + 1) ≡ word_of s (position_key d s t name p) 124
unfolding chain_key after
position_next d s t name p h = rw add-one (go (position_key d s t name p) h)
  where
    go : (k : ℕ) → (k ≡ 0 → ⊥) → after s k ≡ word_of s k 124
    go zero h = absurd (h refl)
    go (suc k) h = refl

-- p entries are compared, and key k is next
pub record Going (d : Disk) (s : List ℕ) (t : ℕ) (name : List ℕ) (p k : ℕ) : Type 0 where
  pub few : p ≤ chain_limit d
  pub key : k ≡ position_key d s t name p
  pub rest : search_from d s t name (chain_limit d + 1 - p) p ≡ search_of d s t name

-- i is the slot of the name, and k the key in it
pub starts : (d : Disk) (s : List ℕ) (t : ℕ) (name : List ℕ) (i k : ℕ) → i ≡ slot_of d name → k ≡ word_of s t (6 + i)
    → Going d s t name 0 k
unfolding search_of chain_key
starts d s t name i k e f =
    let n : chain_limit d + 1 - 0 ≡ chain_limit d + 1 = omega arith in
    record { few = omega arith; key = f ∙ ap (λ j. word_of s t (6 + j)) e; rest = rw n }

module _ (d : Disk) (s : List ℕ) (t : ℕ) (name : List ℕ) (p k : ℕ) (g : Going d s t name p k) where
  abbrev on : Step
  on = search_from d s t name (chain_limit d - p) (p + 1)

  step : visit d s name p k (position_fault d s t (slot_of d name) p k) on ≡ search_of d s t name
  unfolding search_from
  step =
      let few = g.few in
      let n : chain_limit d + 1 - p ≡ suc (chain_limit d - p) = omega arith in
      rw g.key (rw n at g.rest)

  pub ends : k ≡ 0 → Ok None ≡ search_of d s t name
  unfolding pick
  ends z = rw (eq-eqb k 0 z) at step

  -- v is what the tests of k say
  module _ (z : k ≡ 0 → ⊥) (i v : ℕ) (e : i ≡ slot_of d name)
      (f : v ≡ position_fault d s t i p k) where
    tested : visit d s name p k v on ≡ search_of d s t name
    tested = rw (f, e) step

    pub faulty : (v ≡ 0 → ⊥) → Err (refusal v k) ≡ search_of d s t name
    unfolding pick
    faulty q = rw (ne_eqb k 0 z, ne_eqb v 0 q) at tested

    module _ (q : v ≡ 0) where
      passing : Passing d s t i p k
      passing = key_passed d s t i p k (sym f ∙ q)

      pub more : p + 1 ≤ chain_limit d
      more = let h = passing.near in omega arith

      pub falls : chain_limit d - (p + 1) < chain_limit d - p
      falls = let h = passing.near in omega arith

      pub held : length s ≡ image_bytes d → Holds s k
      held w = range_holds d s k true w (sym passing.ranged) refl

      pub named : name_length s k ≤ longest
      named = name_short s k true (sym (entry_passed d s k t i passing.fine).entry.name) refl

      -- r is whether it has the name
      module _ (r : Bool) (u : r ≡ same d (name_of s k) name) where
        compared : pick r (Ok (Some (hit k (p + 1)))) on ≡ search_of d s t name
        unfolding pick
        compared = rw u (rw (ne_eqb k 0 z, eq-eqb v 0 q) at tested)

        pub hits : r ≡ true → Ok (Some (hit k (p + 1))) ≡ search_of d s t name
        unfolding pick
        hits y = rw y at compared

        pub goes : (k' : ℕ) → r ≡ false → k' ≡ word_of s k 124 → Going d s t name (p + 1) k'
        unfolding pick
        goes k' y w =
            let n : chain_limit d + 1 - (p + 1) ≡ chain_limit d - p = omega arith in
            record {
              few = more;
              key = w ∙ ap (λ j. word_of s j 124) g.key ∙ sym (position_next d s t name p (λ h. z (g.key ∙ h)));
              rest = rw n (rw y at compared);
            }
