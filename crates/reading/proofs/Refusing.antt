-- Each refusal of a read is given exactly then, with that number and place (`refused_exactly`). Assumes nothing.
use Rattle.answers.specs.declared.Refusal.{Refusal}
use Rattle.std.specs.Prelude.{Result, Ok, Err}
use Prim.Native.Nat.{ℕ, zero, suc, ◌+◌, ◌-◌, ◌*◌, ◌/◌, ◌<◌}
use mathlib.Core.Path.{◌≡◌, refl, sym, ap, ◌∙◌}
use mathlib.Core.Logic.Iff
use mathlib.Core.Logic.{◌≢◌, ◌⊎◌, ◌↔◌, inl, inr, ⊎_elim}
use mathlib.Core.Bool.{Bool, true, false, not}
use mathlib.Core.List.{List, [], ◌∷◌, ◌++◌}
use native.Mathlib.Omega.{arith}
use lib.Dec.{T, eqb}
use borrow.Author.Tests.{eq-eqb, ne_eqb, eqb-true, eqb-false}
use Rattle.answers.specs.Numbers as fault
use Rattle.answers.specs.Tests.{pick, must, first}
use Rattle.answers.specs.Refusals.{refusal}
use Rattle.answers.proofs.Tests.{first_zero}
use Rattle.answers.proofs.Clashes.{impossible}
use Rattle.answers.specs.Members.{◌∈◌, has}
use Rattle.answers.proofs.Members.{unlisted, in_part}
use Rattle.reach.specs.References.{At}
use Rattle.volume.specs.declared.disk.Disk.{Disk}
use Rattle.volume.specs.Disks.{in_range, disk_of, Fits, Unfit, NoTag}
use Rattle.volume.specs.Blocks.{slots, word_of}
use Rattle.volume.specs.Files.{size_of, blocks_of}
use Rattle.volume.specs.Rules.{file_fault, list_fault, data_fault}
use Rattle.volume.specs.Breaks.{Inside}
use Rattle.volume.proofs.Passes.{◌&◌}
use Rattle.volume.proofs.Breaks.{header_breaks, header_sound, list_breaks, list_sound, data_breaks, data_sound}
use Rattle.volume.proofs.Breaks.{key_inside, key_outside}
use Rattle.volume.proofs.Given.{header_refusals, list_refusals, data_refusals, header_number, list_number, data_number}
use Rattle.walk.specs.Nodes.{Node, list, datum, key_of, key_fault, fault_of}
use Rattle.walk.proofs.Passes.{key_passed, key_passes}
use Rattle.lookup.specs.declared.find.Found.{Found}
use Rattle.lookup.specs.declared.find.Found.TheVariants as found
use Rattle.lookup.specs.Lookup.{find_of}
use Rattle.lookup.specs.Verdicts.{GoodForm}
use Rattle.lookup.proofs.Deciding.{number_is, place_is}
use Rattle.lookup.proofs.Refusing as lookup
use Rattle.reading.specs.FileTests.{node_fault, first_fault, file_nodes, blocks_fault}
use Rattle.reading.specs.Reads.{refuse, last_component, tested, reads, read_of}
use Rattle.reading.specs.Outcomes.{GoodData, BadData, data_key, data_itself, GoodList, BadList, list_key}
use Rattle.reading.specs.Outcomes.{list_itself, BlocksGood, Fails, at_data, at_list, Refuses, of_lookup}
use Rattle.reading.specs.Outcomes.{of_directory, of_header, of_block}
use Rattle.reading.proofs.Order.{data_position, list_position, Stands, is_data_lem, is_list_lem, stands}

-- ---- a block's tests begin with its key's

data KeyFirst (d : Disk) (k f v : ℕ) : Type 0 where
  out : (Inside d k → ⊥) → v ≡ fault.bad_key → KeyFirst d k f v
  own : Inside d k → f ≡ v → v ≢ 0 → KeyFirst d k f v

module _ (d : Disk) (k f v : ℕ) where
  key_first : v ≢ 0 → first (key_fault d k) f ≡ v → KeyFirst d k f v
  unfolding first must
  key_first z e = go (in_range d k) refl e
    where
      go : (b : Bool) → in_range d k ≡ b → first (must b fault.bad_key) f ≡ v → KeyFirst d k f v
      go true q e = own ((key_inside d k).0 q) e z
      go false q e = out ((key_outside d k).0 q) (sym e)

  first_key_lem : KeyFirst d k f v → first (key_fault d k) f ≡ v
  unfolding first must
  first_key_lem (out p e) = rw ((key_outside d k).1 p, e) refl
  first_key_lem (own p e z) = rw ((key_inside d k).1 p) e

-- ---- what a block's tests say

module _ (d : Disk) (s : List ℕ) (h : ℕ) where
  module _ (i k c : ℕ) where
    data_good : (node_fault d s (datum k h (suc i) c) ≡ 0) ↔ GoodData d s h i k c
    unfolding fault_of
    data_good = (
      to,
      λ g. key_passes d k (g.inside.low, g.inside.high) & (data_sound d s k h (suc i) (word_of s c 4)).1
          g.sound,
    )
      where
        to : node_fault d s (datum k h (suc i) c) ≡ 0 → GoodData d s h i k c
        to e =
            let f = first_zero _ _ e in
            let r = key_passed d k f.0 in
            let p = (data_sound d s k h (suc i) (word_of s c 4)).0 f.1 in
            record { inside = record { low = r.0; high = r.1 }; sound = p }

    data_bad : (v : ℕ) → ((node_fault d s (datum k h (suc i) c) ≡ v) × (v ≢ 0)) ↔ BadData d s h i k c v
    unfolding fault_of
    data_bad v = (λ e. to (key_first d k _ v e.1 e.0), from)
      where
        to : KeyFirst d k (data_fault d s k h (size_of s h) (suc i) (word_of s c 4)) v → BadData d s h i k c v
        to (out p e) = data_key p e
        to (own p e z) = let b = (data_breaks d s k h (suc i) (word_of s c 4) v).0 (e, z) in data_itself p b.0 b.1

        from : BadData d s h i k c v → (node_fault d s (datum k h (suc i) c) ≡ v) × (v ≢ 0)
        from (data_key p e) = (first_key_lem d k _ v (out p e), λ z. omega arith)
        from (data_itself p o b) =
            let e = (data_breaks d s k h (suc i) (word_of s c 4) v).1 (o, b) in
            (first_key_lem d k _ v (own p e.0 e.1), e.1)

  module _ (j k c : ℕ) where
    abbrev left : ℕ
    left = blocks_of d s h - slots * suc j

    list_good : (node_fault d s (list k h (slots * suc j) c) ≡ 0) ↔ GoodList d s h j k
    unfolding fault_of
    list_good = (to, λ g. key_passes d k (g.inside.low, g.inside.high) & (list_sound s k h left).1 g.sound)
      where
        to : node_fault d s (list k h (slots * suc j) c) ≡ 0 → GoodList d s h j k
        to e =
            let f = first_zero _ _ e in
            let r = key_passed d k f.0 in
            record { inside = record { low = r.0; high = r.1 }; sound = (list_sound s k h left).0 f.1 }

    list_bad : (v : ℕ) → ((node_fault d s (list k h (slots * suc j) c) ≡ v) × (v ≢ 0)) ↔ BadList d s h j k v
    unfolding fault_of
    list_bad v = (λ e. to (key_first d k _ v e.1 e.0), from)
      where
        to : KeyFirst d k (list_fault s k h left) v → BadList d s h j k v
        to (out p e) = list_key p e
        to (own p e z) = list_itself p ((list_breaks s k h left v).0 (e, z))

        from : BadList d s h j k v → (node_fault d s (list k h (slots * suc j) c) ≡ v) × (v ≢ 0)
        from (list_key p e) = (first_key_lem d k _ v (out p e), λ z. omega arith)
        from (list_itself p b) =
            let e = (list_breaks s k h left v).1 b in (first_key_lem d k _ v (own p e.0 e.1), e.1)

-- ---- blocks in order: the first that fails, by its position

record FailsAt (d : Disk) (s : List ℕ) (blocks : List Node) (v k : ℕ) : Type 0 where
  position : ℕ
  node : Node
  there : At position node blocks
  before : (u : ℕ) (x : Node) → u < position → At u x blocks → node_fault d s x ≡ 0
  fault : (node_fault d s node ≡ v) × (v ≢ 0)
  key : key_of d node ≡ k

module _ (d : Disk) (s : List ℕ) (v k : ℕ) where
  fails_there : (ns : List Node) → first_fault d s ns ≡ Err (refusal v k) → FailsAt d s ns v k
  unfolding first_fault pick
  fails_there [] e = impossible cc
  fails_there (n ∷ ns) e = go (eqb (node_fault d s n) 0) refl e (fails_there ns)
    where
      go : (b : Bool) → eqb (node_fault d s n) 0 ≡ b
          → pick b (first_fault d s ns) (Err (refusal (node_fault d s n) (key_of d n))) ≡ Err (refusal v k)
          → (first_fault d s ns ≡ Err (refusal v k) → FailsAt d s ns v k) → FailsAt d s (n ∷ ns) v k
      go true q e later = further (later e)
        where
          further : FailsAt d s ns v k → FailsAt d s (n ∷ ns) v k
          further w =
              record {
                position = suc w.position;
                node = w.node;
                there = w.there;
                before = before';
                fault = w.fault;
                key = w.key;
              }
            where
              before' : (u : ℕ) (x : Node) → u < suc w.position → At u x (n ∷ ns) → node_fault d s x ≡ 0
              before' zero x l a = rw a (eqb-true _ 0 q)
              before' (suc u) x l a = w.before u x (omega arith) a
      go false q e later =
          let x : refusal (node_fault d s n) (key_of d n) ≡ refusal v k = cc in
          record {
            position = 0;
            node = n;
            there = refl;
            before = λ u x l a. absurd (omega arith);
            fault = (number_is x, λ z. eqb-false _ 0 q (number_is x ∙ z));
            key = place_is x;
          }

  fails_back : (ns : List Node) (t : ℕ) (x : Node) → At t x ns
      → ((u : ℕ) (y : Node) → u < t → At u y ns → node_fault d s y ≡ 0) → node_fault d s x ≡ v → v ≢ 0 → key_of d x ≡ k
      → first_fault d s ns ≡ Err (refusal v k)
  unfolding first_fault pick
  fails_back [] t x a b f z e = absurd a
  fails_back (n ∷ ns) zero x a b f z e =
      let y : node_fault d s n ≡ v = sym (ap (node_fault d s) a) ∙ f in
      let w : key_of d n ≡ k = sym (ap (key_of d) a) ∙ e in
      rw (y, ne_eqb v 0 z, w) refl
  fails_back (n ∷ ns) (suc t) x a b f z e =
      rw (eq-eqb _ 0 (b 0 n (omega arith) refl)) (fails_back ns t x a (λ u y l p. b (suc u) y (omega arith) p) f z e)

  -- of a file's blocks
  module _ (h : ℕ) where
    to_fails : FailsAt d s (file_nodes d s h) v k → Fails d s h v k
    to_fails w = go (stands d s h w.position w.node w.there)
      where
        good : (n m : ℕ) → ((i : ℕ) → i < n → i + i / slots < w.position)
            → ((j : ℕ) → j < m → slots * suc j + j < w.position) → BlocksGood d s h n m
        good n m f g =
            record {
              keys = λ i b c l p. (data_good d s h i b c).0 (w.before _ _ (f i l) (data_position d s h i b c p));
              lists =
                  λ j b l p. let q = list_position d s h j b p in (list_good d s h j b q.0).0
                  (w.before _ _ (g j l) q.1);
            }

        go : Stands d s h w.position w.node → Fails d s h v k
        go (is_data_lem i b c p e x) =
            let y : b ≡ k = sym (ap (key_of d) x) ∙ w.key in
            let f = (data_bad d s h i b c v).0 (sym (ap (node_fault d s) x) ∙ w.fault.0, w.fault.1) in
            rw y at (at_data i c p (good i (i / slots) (λ u l. omega (arith, e)) (λ u l. omega (arith, e))) f)
        go (is_list_lem j b c p e x) =
            let y : b ≡ k = sym (ap (key_of d) x) ∙ w.key in
            let f = (list_bad d s h j b c v).0 (sym (ap (node_fault d s) x) ∙ w.fault.0, w.fault.1) in
            rw y at (at_list j p (good (slots * suc j) j (λ u l. omega (arith, e)) (λ u l. omega (arith, e))) f)

    -- what stands before a position is good
    passes : (n m t : ℕ) → BlocksGood d s h n m → ((i : ℕ) → i + i / slots < t → i < n)
        → ((j : ℕ) → slots * suc j + j < t → j < m) → (u : ℕ) (y : Node) → u < t → At u y (file_nodes d s h)
        → node_fault d s y ≡ 0
    passes n m t g f f' u y l a = go (stands d s h u y a)
      where
        go : Stands d s h u y → node_fault d s y ≡ 0
        go (is_data_lem i b c p e x) = rw x ((data_good d s h i b c).1 (g.keys i b c (f i (omega (arith, e))) p))
        go (is_list_lem j b c p e x) = rw x ((list_good d s h j b c).1 (g.lists j b (f' j (omega (arith, e))) p))

    from_fails : Fails d s h v k → first_fault d s (file_nodes d s h) ≡ Err (refusal v k)
    from_fails (at_data i c p g b) =
        let e = (data_bad d s h i k c v).1 b in
        fails_back (file_nodes d s h) (i + i / slots) _ (data_position d s h i k c p)
        (passes i (i / slots) (i + i / slots) g (λ u l. omega arith) (λ u l. omega arith)) e.0 e.1 refl
    from_fails (at_list j p g b) =
        let q = list_position d s h j k p in
        let e = (list_bad d s h j k q.0 v).1 b in
        fails_back (file_nodes d s h) (slots * suc j + j) _ q.1
        (passes (slots * suc j) j (slots * suc j + j) g (λ u l. omega arith) (λ u l. omega arith)) e.0 e.1
        refl

    -- A refusal is that of the first block that fails.
    pub first_exactly : (first_fault d s (file_nodes d s h) ≡ Err (refusal v k)) ↔ Fails d s h v k
    first_exactly = (λ e. to_fails (fails_there (file_nodes d s h) e), from_fails)

-- ---- the whole call

module _ (d : Disk) (s path : List ℕ) (o n v k : ℕ) where
  -- of the file that was found
  blocks_why : (h z c : ℕ) → find_of d s path ≡ Ok (found.File h z c) → blocks_fault d s h ≡ Err (refusal v k)
      → Refuses d s path v k
  unfolding blocks_fault pick
  blocks_why h z c e q = go (eqb (file_fault d s h) 0) refl q
    where
      go : (b : Bool) → eqb (file_fault d s h) 0 ≡ b
          → pick b (first_fault d s (file_nodes d s h)) (Err (refusal (file_fault d s h) h)) ≡ Err (refusal v k)
          → Refuses d s path v k
      go true p q = of_block h z c e ((header_sound d s h).0 (eqb-true _ 0 p)) ((first_exactly d s v k h).0 q)
      go false p q =
          let x : refusal (file_fault d s h) h ≡ refusal v k = cc in
          let y : h ≡ k = place_is x in
          of_header z c (rw y at e) ((header_breaks d s k v).0
          (rw y at (number_is x), λ u. eqb-false _ 0 p (number_is x ∙ u)))

  read_why : (f : Result Found Refusal) → find_of d s path ≡ f → reads d s path o n f ≡ refuse v k
      → Refuses d s path v k
  read_why (Ok (found.Directory t c)) e q =
      let x : refusal fault.wrong_kind (last_component path) ≡ refusal v k = cc in
      of_directory t c e (sym (number_is x)) (sym (place_is x))
  read_why (Err r) e q = let x : r ≡ refusal v k = cc in of_lookup (e ∙ ap Err x)
  read_why (Ok (found.File h z c)) e q = go (blocks_fault d s h) refl q
    where
      go : (t : Result Unit Refusal) → blocks_fault d s h ≡ t → tested d s h o n t ≡ refuse v k → Refuses d s path v k
      go (Ok _) p q = impossible cc
      go (Err r) p q = let x : r ≡ refusal v k = cc in blocks_why h z c e (p ∙ ap Err x)

  why_read : Refuses d s path v k → read_of d s path o n ≡ refuse v k
  unfolding read_of blocks_fault pick
  why_read (of_lookup e) = rw e refl
  why_read (of_directory t c e a b) = rw (e, a, b) refl
  why_read (of_header z c e b) = let f = (header_breaks d s k v).1 b in rw (e, f.0, ne_eqb v 0 f.1) refl
  why_read (of_block h z c e f w) = rw (e, (header_sound d s h).1 f, (first_exactly d s v k h).1 w) refl

  -- Every number is given exactly then, at that place.
  pub refused_exactly : (read_of d s path o n ≡ refuse v k) ↔ Refuses d s path v k
  unfolding read_of
  refused_exactly = (read_why (find_of d s path) refl, why_read)

-- ---- the lookup's numbers, and those after it

abbrev pub after_lookup : List ℕ
after_lookup = fault.wrong_kind ∷ fault.bad_key ∷ (header_refusals ++ data_refusals ++ list_refusals)

module _ (d : Disk) (s path : List ℕ) (v k : ℕ) where
  pub after_lookup_lem : Refuses d s path v k → (find_of d s path ≡ Err (refusal v k)) ⊎ (v ∈ after_lookup)
  after_lookup_lem (of_lookup e) = inl e
  after_lookup_lem (of_directory t c e a b) = inr (inl a)
  after_lookup_lem (of_header z c e b) = inr (in_part header_refusals after_lookup v tt (header_number b))
  after_lookup_lem (of_block h z c e f (at_data i x p y (data_key q w))) = inr (inr (inl w))
  after_lookup_lem (of_block h z c e f (at_data i x p y (data_itself q o b))) =
      inr (in_part data_refusals after_lookup v tt (data_number b))
  after_lookup_lem (of_block h z c e f (at_list j p y (list_key q w))) = inr (inr (inl w))
  after_lookup_lem (of_block h z c e f (at_list j p y (list_itself q b))) =
      inr (in_part list_refusals after_lookup v tt (list_number b))

  -- a number that is given only before the tests of the file is given exactly when the lookup gives it
  as_lookup : T (not (has after_lookup v)) → (o n : ℕ)
      → (read_of d s path o n ≡ refuse v k) ↔ (find_of d s path ≡ Err (refusal v k))
  as_lookup t o n = (
    (λ e.
        let w = after_lookup_lem ((refused_exactly d s path o n v k).0 e) in
        ⊎_elim (λ q. q) (λ m. unlisted after_lookup v v t m refl) w),
    (λ e. (refused_exactly d s path o n v k).1 (of_lookup e)),
  )

-- Of a call that names b: 1 if and only if no disk fits, and 3 if and only if the image has the boot tag of none.
module _ (b : ℕ) (s path : List ℕ) (o n k : ℕ) where
  abbrev d : Disk
  d = disk_of b s

  pub refused_unfit : (read_of d s path o n ≡ refuse fault.image_length k) ↔ ((k ≡ 0) × Unfit b s)
  refused_unfit = Iff.trans (as_lookup d s path fault.image_length k tt o n) (lookup.refused_unfit b s path k)

  pub refused_tag : (read_of d s path o n ≡ refuse fault.boot_tag k)
      ↔ ((k ≡ 0) × Fits b s d × GoodForm path × NoTag s)
  refused_tag = Iff.trans (as_lookup d s path fault.boot_tag k tt o n) (lookup.refused_tag b s path k)
