-- The tests of a block are made part by part: each law says what a part's answer makes of the whole. Assumes nothing.
use Prim.Native.Nat.{ℕ, suc, ◌+◌, ◌-◌, ◌≤◌, ◌<◌}
use mathlib.Core.Path.{◌≡◌, refl, sym, ◌∙◌}
use mathlib.Core.Bool.{Bool, true, false}
use mathlib.Core.List.{List, [], ◌∷◌, ◌++◌}
use native.Mathlib.Omega.{arith}
use borrow.Author.Tests.{eq-eqb, ne_eqb}
use Rattle.volume.specs.declared.disk.Disk.{Disk}
use Rattle.answers.specs.Numbers as fault
use Rattle.answers.specs.Tests.{tests, must, pick}
use Rattle.volume.specs.Disks.{is_old, root_of, file_limit}
use Rattle.volume.specs.Blocks.{word_of, sum_of}
use Rattle.volume.specs.Names.{name_of, name_good, slot_of}
use Rattle.volume.specs.Files.{data_blocks}
use Rattle.volume.specs.Rules.{root_types, root_words, root_fault, all_zero, map_fault, bitmap_fault, entry_types}
use Rattle.volume.specs.Rules.{entry_words, entry_name, entry_fault, count_rules, empty_rules, file_fault, list_words}
use Rattle.volume.specs.Rules.{list_fault, data_words, data_links, data_rules, data_fault}
use Rattle.answers.proofs.Tests.{go, stop, must_le, must_gt, must_true, must_false, must_eq, must_ne, then_go}
use Rattle.answers.proofs.Tests.{then_stop}

-- ---- the root: r is its key, f and g answer the first two parts

module _ (d : Disk) (s : List ℕ) (r f : ℕ) (e : r ≡ root_of d) (p : f ≡ tests (root_types s r)) where
  pub root_types_lem : (f ≡ 0 → ⊥) → f ≡ root_fault d s
  unfolding root_fault
  root_types_lem q = rw (← e)
      (then_stop f (root_types s r) (root_words s r ++ (must (name_good s r) fault.bad_name ∷ [])) p q)

  module _ (z : f ≡ 0) (g : ℕ) (h : g ≡ tests (root_words s r)) where
    pub root_words_lem : (g ≡ 0 → ⊥) → g ≡ root_fault d s
    unfolding root_fault
    root_words_lem q =
        rw (← e) (then_go g f (root_types s r) (root_words s r ++ (must (name_good s r) fault.bad_name ∷ [])) p z
        (then_stop g (root_words s r) (must (name_good s r) fault.bad_name ∷ []) h q))

    pub root_name : (v : ℕ) → g ≡ 0 → v ≡ tests (must (name_good s r) fault.bad_name ∷ []) → v ≡ root_fault d s
    unfolding root_fault
    root_name v q n =
        rw (← e) (then_go v f (root_types s r) (root_words s r ++ (must (name_good s r) fault.bad_name ∷ [])) p z
        (then_go v g (root_words s r) (must (name_good s r) fault.bad_name ∷ []) h q n))

-- a name alone
module _ (s : List ℕ) (k : ℕ) (t : Bool) (h : t ≡ name_good s k) where
  pub name_passes : t ≡ true → 0 ≡ tests (must (name_good s k) fault.bad_name ∷ [])
  name_passes q = go 0 _ _ (must_true fault.bad_name t (name_good s k) h q) refl

  pub name_fails : t ≡ false → fault.bad_name ≡ tests (must (name_good s k) fault.bad_name ∷ [])
  name_fails q = stop fault.bad_name _ _ tt (must_false fault.bad_name t (name_good s k) h q)

-- ---- n words from w(f) on are 0; i of them are done, and w is the next

module _ (s : List ℕ) (k f n i : ℕ) (h : i < n) (w : ℕ) (e : w ≡ word_of s k (f + i)) where
  left : n - i ≡ suc (n - (i + 1))
  left = omega arith

  pub zero_step : w ≡ 0 → all_zero s k (f + (i + 1)) (n - (i + 1)) ≡ all_zero s k (f + i) (n - i)
  unfolding all_zero pick
  zero_step q = let g : f + (i + 1) ≡ suc (f + i) = omega arith in rw (left, g, eq-eqb _ _ (sym e ∙ q))

  pub zero_bad : (w ≡ 0 → ⊥) → false ≡ all_zero s k (f + i) (n - i)
  unfolding all_zero pick
  zero_bad q = rw (left, ne_eqb _ _ (λ z. q (e ∙ z)))

pub zero_done : (s : List ℕ) (k f n i : ℕ) → n ≤ i → true ≡ all_zero s k (f + i) (n - i)
unfolding all_zero
zero_done s k f n i h = let e : n - i ≡ 0 = omega arith in rw e

-- ---- the root's bitmap words: w is w78, t whether the rest is 0

module _ (d : Disk) (s : List ℕ) (r w : ℕ) (e : r ≡ root_of d) (h : w ≡ word_of s r 78) where
  pub map_invalid : (w ≡ 0xFFFFFFFF → ⊥) → fault.bitmap_words ≡ map_fault d s
  unfolding map_fault
  map_invalid q = rw (← e)
      (stop fault.bitmap_words _ _ tt (must_ne fault.bitmap_words w (word_of s r 78) 0xFFFFFFFF h q))

  module _ (v : w ≡ 0xFFFFFFFF) (t : Bool) (u : t ≡ all_zero s r 80 25) where
    pub map_good : t ≡ true → 0 ≡ map_fault d s
    unfolding map_fault
    map_good q =
        rw (← e) (go 0 _ _ (must_eq fault.bitmap_words w (word_of s r 78) 0xFFFFFFFF h v)
        (go 0 _ _ (must_true fault.bitmap_words t (all_zero s r 80 25) u q) refl))

    pub map_rest : t ≡ false → fault.bitmap_words ≡ map_fault d s
    unfolding map_fault
    map_rest q =
        rw (← e) (go fault.bitmap_words _ _ (must_eq fault.bitmap_words w (word_of s r 78) 0xFFFFFFFF h v)
        (stop fault.bitmap_words _ _ tt (must_false fault.bitmap_words t (all_zero s r 80 25) u q)))

-- ---- the bitmap block

module _ (s : List ℕ) (k w : ℕ) (h : w ≡ sum_of s k) where
  pub bitmap_bad : (w ≡ 0 → ⊥) → fault.block_sum ≡ bitmap_fault s k
  unfolding bitmap_fault
  bitmap_bad q = sym (must_ne fault.block_sum w (sum_of s k) 0 h q)

  pub bitmap_good : w ≡ 0 → 0 ≡ bitmap_fault s k
  unfolding bitmap_fault
  bitmap_good q = sym (must_eq fault.block_sum w (sum_of s k) 0 h q)

-- ---- an entry: f, g and v answer its three parts

module _ (d : Disk) (s : List ℕ) (k t slot f : ℕ) (p : f ≡ tests (entry_types s k)) where
  pub entry_types_lem : (f ≡ 0 → ⊥) → f ≡ entry_fault d s k t slot
  unfolding entry_fault
  entry_types_lem q = then_stop f (entry_types s k) (entry_words s k t ++ entry_name d s k slot) p q

  module _ (z : f ≡ 0) (g : ℕ) (e : g ≡ tests (entry_words s k t)) where
    pub entry_words_lem : (g ≡ 0 → ⊥) → g ≡ entry_fault d s k t slot
    unfolding entry_fault
    entry_words_lem q =
        then_go g f (entry_types s k) (entry_words s k t ++ entry_name d s k slot) p z
        (then_stop g (entry_words s k t) (entry_name d s k slot) e q)

    pub entry_name_lem : (v : ℕ) → g ≡ 0 → v ≡ tests (entry_name d s k slot) → v ≡ entry_fault d s k t slot
    unfolding entry_fault
    entry_name_lem v q n =
        then_go v f (entry_types s k) (entry_words s k t ++ entry_name d s k slot) p z
        (then_go v g (entry_words s k t) (entry_name d s k slot) e q n)

-- its name and slot: t whether the name is good, w its slot
module _ (d : Disk) (s : List ℕ) (k slot : ℕ) (t : Bool) (h : t ≡ name_good s k) where
  pub entry_unnamed : t ≡ false → fault.bad_name ≡ tests (entry_name d s k slot)
  entry_unnamed q = stop fault.bad_name _ _ tt (must_false fault.bad_name t (name_good s k) h q)

  module _ (v : t ≡ true) (w : ℕ) (e : w ≡ slot_of d (name_of s k)) where
    pub entry_strays : (w ≡ slot → ⊥) → fault.wrong_slot ≡ tests (entry_name d s k slot)
    entry_strays q =
        go fault.wrong_slot _ _ (must_true fault.bad_name t (name_good s k) h v)
        (stop fault.wrong_slot _ _ tt (must_ne fault.wrong_slot w (slot_of d (name_of s k)) slot e q))

    pub entry_hangs : w ≡ slot → 0 ≡ tests (entry_name d s k slot)
    entry_hangs q =
        go 0 _ _ (must_true fault.bad_name t (name_good s k) h v)
        (go 0 _ _ (must_eq fault.wrong_slot w (slot_of d (name_of s k)) slot e q) refl)

-- ---- a file: its size z, its number of data blocks n, f the answer of its count and link

module _ (d : Disk) (s : List ℕ) (k z limit : ℕ) (h : z ≡ word_of s k 81) (l : limit ≡ file_limit d) where
  pub file_big : limit < z → fault.file_layout ≡ file_fault d s k
  unfolding file_fault
  file_big q = stop fault.file_layout _ _ tt (must_gt fault.file_layout z limit (word_of s k 81) (file_limit d) h l q)

  module _ (q : z ≤ limit) (n f : ℕ) (e : n ≡ data_blocks d z) (p : f ≡ tests (count_rules s k n)) where
    pub file_count : (f ≡ 0 → ⊥) → f ≡ file_fault d s k
    unfolding file_fault
    file_count u =
        rw (← h, ← e) (go f _ _ (rw h (must_le fault.file_layout z limit (word_of s k 81) (file_limit d) h l q))
        (then_stop f (count_rules s k n) (empty_rules d s k n) p u))

    pub file_empty : (v : ℕ) → f ≡ 0 → v ≡ tests (empty_rules d s k n) → v ≡ file_fault d s k
    unfolding file_fault
    file_empty v u g =
        rw (← h, ← e) (go v _ _ (rw h (must_le fault.file_layout z limit (word_of s k 81) (file_limit d) h l q))
        (then_go v f (count_rules s k n) (empty_rules d s k n) p u g))

-- ---- a list block: f and v answer its two parts

module _ (s : List ℕ) (k h n f : ℕ) (p : f ≡ tests (list_words s k h)) where
  pub list_words_lem : (f ≡ 0 → ⊥) → f ≡ list_fault s k h n
  unfolding list_fault
  list_words_lem q = then_stop f (list_words s k h) (count_rules s k n) p q

  pub list_count : (v : ℕ) → f ≡ 0 → v ≡ tests (count_rules s k n) → v ≡ list_fault s k h n
  unfolding list_fault
  list_count v z e = then_go v f (list_words s k h) (count_rules s k n) p z e

-- ---- a data block: f and v answer its two parts, which are asked on the old file system alone

module _ (d : Disk) (s : List ℕ) (k h z n named f : ℕ) (p : f ≡ tests (data_words d s k h z n)) where
  pub data_words_lem : (f ≡ 0 → ⊥) → f ≡ tests (data_rules d s k h z n named)
  data_words_lem q = then_stop f (data_words d s k h z n) (data_links d s k z n named) p q

  pub data_links_lem : (v : ℕ) → f ≡ 0 → v ≡ tests (data_links d s k z n named)
      → v ≡ tests (data_rules d s k h z n named)
  data_links_lem v q e = then_go v f (data_words d s k h z n) (data_links d s k z n named) p q e

module _ (d : Disk) (s : List ℕ) (k h z n last : ℕ) (t : Bool) (q : t ≡ is_old d) where
  pub data_asked : (named f : ℕ) → t ≡ true → named ≡ word_of s last 4 → f ≡ tests (data_rules d s k h z n named)
      → f ≡ data_fault d s k h z n (word_of s last 4)
  unfolding data_fault pick
  data_asked named f o e g = rw (← q, o, ← e) g

  pub data_unasked : t ≡ false → 0 ≡ data_fault d s k h z n (word_of s last 4)
  unfolding data_fault pick
  data_unasked o = rw (← q, o) refl
