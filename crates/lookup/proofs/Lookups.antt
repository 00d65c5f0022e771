-- Laws of a lookup, component by component. Assumes nothing.
use Prim.Native.Nat.{ℕ, ◌+◌, ◌-◌, ◌≤◌, ◌<◌}
use mathlib.Core.Path.{◌≡◌, refl, sym, ap, ◌∙◌}
use mathlib.Core.Bool.{Bool, true, false}
use mathlib.Core.List.{List, [], ◌∷◌}
use native.Mathlib.Omega.{arith}
use lib.Dec.{eqb, ltb}
use lib.ListN.{length, take, drop, length-take, length-drop}
use lib.Seq.{length-take-le}
use borrow.Author.Tests.{eq-eqb, ne_eqb, ltb-true, ltb-false}
use Rattle.std.specs.Prelude.{Result, Ok, Err, Some, None}
use Rattle.answers.specs.Numbers as fault
use Rattle.answers.specs.Tests.{pick}
use Rattle.answers.specs.declared.Refusal.{Refusal}
use Rattle.words.specs.Word.{word_at}
use Rattle.volume.specs.declared.disk.Disk.{Disk}
use Rattle.volume.specs.Disks.{Sized, image_bytes, tag_of, root_of, chain_limit, disk_of}
use Rattle.volume.specs.Blocks.{Holds, directory}
use Rattle.volume.specs.Files.{size_of}
use Rattle.volume.specs.Rules.{root_fault}
use Rattle.volume.proofs.Breaks.{key_inside}
use Rattle.lookup.specs.declared.find.Found.{Found}
use Rattle.lookup.specs.declared.find.Found.TheVariants.{Directory, File}
use Rattle.lookup.specs.Paths.{longest_path, split, onto, components, path_fault}
use Rattle.lookup.specs.Parts.{FirstSlash, Searches, Looks, found_at}
use Rattle.lookup.specs.declared.chain.Hit.{Hit}
use Rattle.lookup.specs.Search.{search_of, Step}
use Rattle.lookup.specs.Lookup.{numbers_of, refuse, file_at, stepped, lookup_from, from_root, and, find_of, Finds}
use Rattle.lookup.proofs.Splits.{split_more, split_end, path_components}
use Rattle.lookup.proofs.Chains.{range_holds}
use Rattle.lookup.proofs.Positions.{first_equal_name, compared_most}

-- ---- an entry that a search came to

pub record Came (d : Disk) (s : List ℕ) (k m : ℕ) : Type 0 where
  pub few : m ≤ chain_limit d
  pub holds : length s ≡ image_bytes d → Holds s k

pub came : (d : Disk) (s : List ℕ) (t : ℕ) (name : List ℕ) (step : Step) (h : Hit) → step ≡ search_of d s t name
    → step ≡ Ok (Some h) → Came d s h.key h.compared
came d s t name step h e f =
    let w = (first_equal_name d s t name h.key h.compared).0 (sym e ∙ f) in
    record {
      few = compared_most d s t name h.key h.compared (sym e ∙ f);
      holds = λ l. rw w.2 (range_holds d s _ true l (sym ((key_inside d _).1 w.1.tests.inside)) refl);
    }

-- ---- the first component of xs ends at k, and `step` is what its search came to

-- there is a component in whatever is split
split_some : (s : List ℕ) (i n : ℕ) (ys : List ℕ) (k : ℕ) → file_at s i n (split ys) k ≡ refuse fault.wrong_kind i
unfolding split pick
split_some s i n [] k = refl
split_some s i n (y ∷ ys) k = go (eqb y 47) (split ys)
  where
    go : (b : Bool) (cs : List (List ℕ)) → file_at s i n (pick b ([] ∷ cs) (onto y cs)) k ≡ refuse fault.wrong_kind i
    go true cs = refl
    go false [] = refl
    go false (c ∷ cs) = refl

module _ (d : Disk) (s xs : List ℕ) (t i n k : ℕ) (at : FirstSlash xs k) (step : Step)
    (e : step ≡ search_of d s t (take k xs)) where
  abbrev rest : List (List ℕ)
  rest = split (take (length xs - (k + 1)) (drop (k + 1) xs))

  abbrev looked : Result Found Refusal
  looked = lookup_from d s t i n (split xs)

  abbrev below : List (List ℕ) → ℕ → ℕ → Result Found Refusal
  below cs key m = lookup_from d s key (i + 1) m cs

  on_more : k < length xs → stepped s i n rest (below rest) step ≡ looked
  unfolding lookup_from
  on_more l = rw (split_more xs k at l, ← e)

  on_end : length xs ≤ k → stepped s i n [] (below []) step ≡ looked
  unfolding lookup_from
  on_end l = rw (split_end xs k at l, ← e)

  either : (x : Result Found Refusal) → (k < length xs → x ≡ looked) → (length xs ≤ k → x ≡ looked) → x ≡ looked
  either x a b = go (ltb k (length xs)) refl
    where
      go : (c : Bool) → ltb k (length xs) ≡ c → x ≡ looked
      go true h = a (ltb-true _ _ h)
      go false h = b (ltb-false _ _ h)

  pub to_ended : step ≡ Ok None → refuse fault.not_found i ≡ looked
  to_ended f = either (refuse fault.not_found i) (λ l. rw f at (on_more l)) (λ l. rw f at (on_end l))

  pub to_fault : (r : Refusal) → step ≡ Err r → Err r ≡ looked
  to_fault r f = either (Err r) (λ l. rw f at (on_more l)) (λ l. rw f at (on_end l))

  -- it came to an entry
  module _ (h : Hit) (f : step ≡ Ok (Some h)) where
    at_more : k < length xs
        → pick (directory s h.key) (below rest h.key (n + h.compared)) (refuse fault.wrong_kind i) ≡ looked
    at_more l =
        rw (← split_some s i (n + h.compared) (take (length xs - (k + 1)) (drop (k + 1) xs)) h.key)
        (rw f at (on_more l))

    -- it is the last component
    pub to_entry : (r : Found) → length xs ≤ k → r ≡ found_at s h.key (n + h.compared) → Ok r ≡ looked
    unfolding lookup_from pick
    to_entry r l q = rw q (go (directory s h.key) refl)
      where
        go : (b : Bool) → directory s h.key ≡ b
            → Ok (pick b (Directory h.key (n + h.compared)) (File h.key (size_of s h.key) (n + h.compared))) ≡ looked
        go true u = rw u at (rw f at (on_end l))
        go false u = rw u at (rw f at (on_end l))

    -- others come after it; b is whether it is a directory
    module _ (l : k < length xs) (b : Bool) (g : b ≡ directory s h.key) where
      pub to_used : b ≡ false → refuse fault.wrong_kind i ≡ looked
      unfolding pick
      to_used u = rw (sym g ∙ u) at (at_more l)

      pub to_more : (r : Result Found Refusal) → b ≡ true → r ≡ below rest h.key (n + h.compared) → r ≡ looked
      unfolding pick
      to_more r u q = q ∙ (rw (sym g ∙ u) at (at_more l))

-- ---- what the calls on the way ask

module _ (d : Disk) (s xs : List ℕ) (t i n k : ℕ) (l : Looks d s xs t i n) (at : FirstSlash xs k) where
  pub searches : Searches d s t (take k xs)
  searches =
      let w = at.within in
      let h = l.short in
      record { sized = l.sized; long = l.long; holds = l.holds; short = rw (length-take-le k xs w) (omega arith) }

  module _ (step : Step) (h : Hit) (e : step ≡ search_of d s t (take k xs)) (f : step ≡ Ok (Some h)) where
    few : h.compared ≤ chain_limit d
    few = (came d s t (take k xs) step h e f).few

    pub counts : n + h.compared < 4294967296
    counts = omega (arith, l.counted, l.short, few, l.sized.most)

    pub lies : Holds s h.key
    lies = (came d s t (take k xs) step h e f).holds l.long

    pub looks : k < length xs → Looks d s (take (length xs - (k + 1)) (drop (k + 1) xs)) h.key (i + 1) (n + h.compared)
    looks m =
        record {
          sized = l.sized;
          long = l.long;
          holds = lies;
          short = simp (length-take, length-drop) (omega (arith, l.short));
          counted = omega (arith, l.counted, few, l.sized.most);
        }

pub starts : (d : Disk) (s path : List ℕ) (r : ℕ) → Sized d → length s ≡ image_bytes d → length path ≤ longest_path
    → r ≡ root_of d → Looks d s path r 0 0
starts d s path r y l h e =
    record {
      sized = y;
      long = l;
      holds = rw e (omega (arith, y.least, y.most));
      short = omega (arith, h);
      counted = omega arith;
    }

-- ---- the root: `number` is what its tests say

module _ (d : Disk) (s path : List ℕ) (number : ℕ) (e : number ≡ root_fault d s) (root : ℕ) (f : root ≡ root_of d) where
  pub root_refused : (number ≡ 0 → ⊥) → refuse number root ≡ from_root d s path
  unfolding from_root pick
  root_refused q = rw (← e, ne_eqb number 0 q, f)

  pub root_empty : number ≡ 0 → length path ≡ 0 → Ok (Directory root 0) ≡ from_root d s path
  unfolding from_root pick lookup_from
  root_empty q z = rw (← e, eq-eqb number 0 q, f) (go path z)
    where
      go : (xs : List ℕ) → length xs ≡ 0
          → Ok (Directory (root_of d) 0) ≡ lookup_from d s (root_of d) 0 0 (components xs)
      go [] z = refl
      go (x ∷ xs) z = absurd (omega arith)

  pub root_looks : (r : Result Found Refusal) → number ≡ 0 → (length path ≡ 0 → ⊥)
      → r ≡ lookup_from d s root 0 0 (split path) → r ≡ from_root d s path
  unfolding from_root pick
  root_looks r q z p = rw (← e, eq-eqb number 0 q, ← path_components path z, ← f) p

-- ---- the tests before: n bytes are asked, `form` is what the path's form says, and b whether the tag is there

module _ (d : Disk) (s path : List ℕ) (n : ℕ) (e : n ≡ image_bytes d) where
  pub find_long : (length s ≡ n → ⊥) → refuse fault.image_length 0 ≡ find_of d s path
  unfolding find_of pick
  find_long q = rw (← e, ne_eqb (length s) n q)

  module _ (l : length s ≡ n) (form : Result Unit Refusal) (f : form ≡ path_fault path) where
    tested : and form (pick (eqb (word_at s 0) (tag_of d)) (from_root d s path) (refuse fault.boot_tag 0))
        ≡ find_of d s path
    unfolding find_of pick
    tested = rw (← f, eq-eqb (length s) (image_bytes d) (l ∙ e))

    pub find_form : (r : Refusal) → form ≡ Err r → Err r ≡ find_of d s path
    find_form r q = rw q at tested

    module _ (p : form ≡ Ok tt) (b : Bool) (g : b ≡ eqb (word_at s 0) (tag_of d)) where
      tagged : pick b (from_root d s path) (refuse fault.boot_tag 0) ≡ find_of d s path
      tagged = rw g (rw p at tested)

      pub find_tag : b ≡ false → refuse fault.boot_tag 0 ≡ find_of d s path
      unfolding pick
      find_tag q = rw q at tagged

      pub find_root : (r : Result Found Refusal) → b ≡ true → r ≡ from_root d s path → r ≡ find_of d s path
      unfolding pick
      find_root r q h = h ∙ (rw q at tagged)

-- ---- the disk that the image is taken for

pub on_disk : (b : ℕ) (d : Disk) (s path : List ℕ) (r : Result Found Refusal) → d ≡ disk_of b s
    → r ≡ find_of d s path → Finds (disk_of b s) s path r
on_disk b d s path r e f = let g = rw e at f in record { answer = g; numbers = ap numbers_of g }
