-- Which number is given exactly when, and at which place; and which entry is found exactly when. Assumes nothing.
use Prim.Native.Nat.{ℕ, zero, suc, ◌+◌, ◌≤◌, ◌<◌}
use mathlib.Core.Path.{◌≡◌, refl, sym, ap, ◌∙◌}
use mathlib.Core.Logic.{◌≢◌, ◌↔◌}
use mathlib.Core.Bool.{Bool, true, false}
use mathlib.Core.List.{List}
use native.Mathlib.Omega.{arith}
use lib.Dec.{ltb}
use lib.ListN.{length}
use borrow.Author.Tests.{lt-ltb, le-ltb, ltb-true, ltb-false}
use Rattle.std.specs.Prelude.{Ok, Err}
use Rattle.answers.specs.Numbers as fault
use Rattle.answers.specs.Tests.{must, first}
use Rattle.answers.specs.Refusals.{refusal}
use Rattle.answers.proofs.Clashes.{impossible}
use Rattle.answers.proofs.Members.{unlisted}
use Rattle.words.specs.Word.{word_at}
use Rattle.volume.specs.declared.disk.Disk.{Disk}
use Rattle.volume.specs.Disks.{image_bytes, tag_of, root_of, in_range, chain_limit, disk_of, Fits, Unfit, NoTag}
use Rattle.volume.specs.Names.{slot_of}
use Rattle.volume.specs.Rules.{root_fault, entry_fault}
use Rattle.volume.proofs.Disks.{long_fits, unfit, no_tag}
use Rattle.volume.proofs.Breaks.{root_breaks, entry_breaks, key_inside, key_outside}
use Rattle.volume.proofs.Given.{root_refusals, entry_refusals, root_number, entry_number}
use Rattle.lookup.specs.declared.find.Found.TheVariants.{Directory, File}
use Rattle.lookup.specs.Paths.{components}
use Rattle.lookup.specs.Search.{position_fault}
use Rattle.lookup.specs.Lookup.{refuse, find_of}
use Rattle.lookup.specs.Trails.{Trail}
use Rattle.lookup.specs.Verdicts.{GoodForm, Opened, key_in, IsFile, Stands, Missing, AsDirectory, Refuses}
use Rattle.lookup.specs.Verdicts.{number_1, number_18, number_3, of_root, number_5, number_6, of_entry}
use Rattle.lookup.specs.Verdicts.{number_19, number_20}
use Rattle.lookup.proofs.Chains.{fault_at}
use Rattle.lookup.proofs.Positions.{positions_few}
use Rattle.lookup.proofs.Trails.{holds, file, used, missing, failing}
use Rattle.lookup.proofs.Deciding.{form_exactly, form_good, number_is, place_is, Why, image, form, tag, root}
use Rattle.lookup.proofs.Deciding.{leads_to_lem, find_why, why_find}

-- ---- what a key's tests say: v is not 0

pub data Says (d : Disk) (s : List ℕ) (t i p k v : ℕ) : Type 0 where
  outside : in_range d k ≡ false → v ≡ 5 → Says d s t i p k v
  beyond : in_range d k ≡ true → chain_limit d ≤ p → v ≡ 6 → Says d s t i p k v
  itself : in_range d k ≡ true → p < chain_limit d → entry_fault d s k t i ≡ v → Says d s t i p k v

module _ (d : Disk) (s : List ℕ) (t i p k : ℕ) where
  pub key_says : position_fault d s t i p k ≢ 0 → Says d s t i p k (position_fault d s t i p k)
  unfolding position_fault first must
  key_says z = go (in_range d k) refl (ltb p (chain_limit d)) refl (entry_fault d s k t i) refl z
    where
      go : (a : Bool) → in_range d k ≡ a → (b : Bool) → ltb p (chain_limit d) ≡ b → (e : ℕ) → entry_fault d s k t i ≡ e
          → first (must a 5) (first (must b 6) (first e 0)) ≢ 0
          → Says d s t i p k (first (must a 5) (first (must b 6) (first e 0)))
      go false q b u e f h = outside q refl
      go true q false u e f h = beyond q (ltb-false _ _ u) refl
      go true q true u zero f h = absurd (h refl)
      go true q true u (suc e) f h = itself q (ltb-true _ _ u) f

  pub says_key : (v : ℕ) → v ≢ 0 → Says d s t i p k v → position_fault d s t i p k ≡ v
  unfolding position_fault first must
  says_key v z (outside q e) = rw (q, e)
  says_key v z (beyond q l e) = rw (q, le-ltb p (chain_limit d) l, e)
  says_key v z (itself q l e) = rw (q, lt-ltb p (chain_limit d) l, e) (go v z)
    where
      go : (v : ℕ) → v ≢ 0 → first v 0 ≡ v
      go zero h = absurd (h refl)
      go (suc v) h = refl

-- ---- each number

module _ (d : Disk) (s path : List ℕ) where
  zero_plus : (n : ℕ) → 0 + n ≡ n
  zero_plus n = omega arith

  module _ (v k : ℕ) where
    -- v and k of a refusal that is the answer
    same : (a b : ℕ) → find_of d s path ≡ refuse a b → find_of d s path ≡ refuse v k → (v ≡ a) × (k ≡ b)
    same a b p q = let x : refusal a b ≡ refusal v k = cc in (sym (number_is x), sym (place_is x))

    refused_why : Why d s path (find_of d s path) → find_of d s path ≡ refuse v k → Refuses d s path v k
    refused_why (image h q) e = let x = same 1 0 q e in number_1 h x.0 x.1
    refused_why (form h f p q) e =
        let x : f ≡ refusal v k = cc in
        let y = (form_exactly path v k).0 (p ∙ ap Err x) in number_18 h y.1 y.0
    refused_why (tag h p u q) e = let x = same 3 0 q e in number_3 h ((form_good path).0 p) u x.0 x.1
    refused_why (root h p u z q) e =
        let x = same (root_fault d s) (root_of d) q e in
        of_root h ((form_good path).0 p) u ((root_breaks d s v).0 (sym x.0, λ y. z (sym x.0 ∙ y))) x.1
    refused_why (leads_to_lem o (holds k' m h q)) e = impossible cc
    refused_why (leads_to_lem o (file w p f u b q)) e = impossible cc
    refused_why (leads_to_lem o (used w p f u b q)) e =
        let x = same 20 (0 + length w.front) q e in
        number_20 (record {
          opened = o;
          comes = w;
          position = p;
          found = f;
          kind = u;
          more = b;
          component = x.1 ∙ zero_plus _;
        }) x.0
    refused_why (leads_to_lem o (missing w p f q)) e =
        let x = same 19 (0 + length w.front) q e in
        number_19 (record { opened = o; comes = w; position = p; over = f; component = x.1 ∙ zero_plus _ }) x.0
    refused_why (leads_to_lem o (failing w p f q)) e =
        go (key_says d s w.parent (slot_of d w.name) p (key_in d s path w p) f.fault)
      where
        x : (v ≡ fault_at d s w.parent w.name p) × (k ≡ key_in d s path w p)
        x = same (fault_at d s w.parent w.name p) (key_in d s path w p) q e

        stands : Stands d s path k
        stands =
            record {
              opened = o;
              comes = w;
              position = p;
              others = f.others;
              key = sym x.1;
              some = λ y. f.some (sym x.1 ∙ y);
            }

        ranged : (b : Bool) → in_range d (key_in d s path w p) ≡ b → in_range d k ≡ b
        ranged b y = rw x.1 y

        go : Says d s w.parent (slot_of d w.name) p (key_in d s path w p) (fault_at d s w.parent w.name p)
            → Refuses d s path v k
        go (outside y z) = number_5 stands ((key_outside d k).0 (ranged false y)) (x.0 ∙ z)
        go (beyond y l z) =
            let n = positions_few d s w.parent w.name p f.others in
            number_6 stands ((key_inside d k).0 (ranged true y)) (omega arith) (x.0 ∙ z)
        go (itself y l z) =
            of_entry stands ((key_inside d k).0 (ranged true y)) l
            ((entry_breaks d s k w.parent (slot_of d w.name) v).0
            (rw x.1 (z ∙ sym x.0), λ g. f.fault (sym x.0 ∙ g)))

    why_refused : Refuses d s path v k → find_of d s path ≡ refuse v k
    why_refused h = sym (why_find d s path (refuse v k) (why h))
      where
        fails : (h : Stands d s path k) → v ≢ 0
            → Says d s h.comes.parent (slot_of d h.comes.name) h.position k v → Why d s path (refuse v k)
        fails h z y =
            leads_to_lem h.opened (failing h.comes h.position
            (record { some = λ g. h.some (sym h.key ∙ g); fault = λ g. z (sym at ∙ g); others = h.others })
            (rw (at, h.key)))
          where
            at : fault_at d s h.comes.parent h.comes.name h.position ≡ v
            at = says_key d s _ _ h.position _ v z (rw h.key y)

        why : Refuses d s path v k → Why d s path (refuse v k)
        why (number_1 h a b) = image h (rw (a, b))
        why (number_18 h f a) = form h (refusal v k) ((form_exactly path v k).1 (a, f)) refl
        why (number_3 h p u a b) = tag h ((form_good path).1 p) u (rw (a, b))
        why (of_root h p u z b) =
            let a = (root_breaks d s v).1 z in
            root h ((form_good path).1 p) u (λ g. a.1 (sym a.0 ∙ g)) (rw (a.0, b))
        why (number_5 h y a) = fails h (λ g. omega arith) (outside ((key_outside d k).1 y) a)
        why (number_6 h y l a) = fails h (λ g. omega arith) (beyond ((key_inside d k).1 y) (omega arith) a)
        why (of_entry h y l z) =
            let a = (entry_breaks d s k h.comes.parent (slot_of d h.comes.name) v).1 z in
            fails h a.1 (itself ((key_inside d k).1 y) l a.0)
        why (number_19 h a) =
            leads_to_lem h.opened (missing h.comes h.position h.over
            (rw (a, h.component, zero_plus (length h.comes.front))))
        why (number_20 h a) =
            leads_to_lem h.opened (used h.comes h.position h.found h.kind h.more
            (rw (a, h.component, zero_plus (length h.comes.front))))

    -- Every number is given exactly then, at that place.
    pub refused_exactly : (find_of d s path ≡ refuse v k) ↔ Refuses d s path v k
    refused_exactly = (refused_why (find_why d s path), why_refused)

  -- 19 at component i if and only if its chain has ended, every entry on it passes its tests, and none has its folded
  -- name.
  pub missing_exactly : (i : ℕ) → (find_of d s path ≡ refuse fault.not_found i) ↔ Missing d s path i
  missing_exactly i = ((λ e. go ((refused_exactly 19 i).0 e)), (λ h. (refused_exactly 19 i).1 (number_19 h refl)))
    where
      go : Refuses d s path 19 i → Missing d s path i
      go (number_1 h a b) = absurd (omega arith)
      go (number_18 h f a) = absurd (omega arith)
      go (number_3 h p u a b) = absurd (omega arith)
      go (of_root h p u z b) = unlisted root_refusals 19 19 tt (root_number z) refl
      go (number_5 h y a) = absurd (omega arith)
      go (number_6 h y l a) = absurd (omega arith)
      go (of_entry h y l z) = unlisted entry_refusals 19 19 tt (entry_number z) refl
      go (number_19 h a) = h
      go (number_20 h a) = absurd (omega arith)

  -- 20 at component i if and only if it is a file with components after it.
  pub used_exactly : (i : ℕ) → (find_of d s path ≡ refuse fault.wrong_kind i) ↔ AsDirectory d s path i
  used_exactly i = ((λ e. go ((refused_exactly 20 i).0 e)), (λ h. (refused_exactly 20 i).1 (number_20 h refl)))
    where
      go : Refuses d s path 20 i → AsDirectory d s path i
      go (number_1 h a b) = absurd (omega arith)
      go (number_18 h f a) = absurd (omega arith)
      go (number_3 h p u a b) = absurd (omega arith)
      go (of_root h p u z b) = unlisted root_refusals 20 20 tt (root_number z) refl
      go (number_5 h y a) = absurd (omega arith)
      go (number_6 h y l a) = absurd (omega arith)
      go (of_entry h y l z) = unlisted entry_refusals 20 20 tt (entry_number z) refl
      go (number_19 h a) = absurd (omega arith)
      go (number_20 h a) = h

  -- 1 if and only if the image has another length.
  pub length_exactly : (k : ℕ) → (find_of d s path ≡ refuse fault.image_length k)
      ↔ ((k ≡ 0) × (length s ≢ image_bytes d))
  length_exactly k = ((λ e. go ((refused_exactly 1 k).0 e)), (λ (q, h). (refused_exactly 1 k).1 (number_1 h refl q)))
    where
      go : Refuses d s path 1 k → (k ≡ 0) × (length s ≢ image_bytes d)
      go (number_1 h a b) = (b, h)
      go (number_18 h f a) = absurd (omega arith)
      go (number_3 h p u a b) = absurd (omega arith)
      go (of_root h p u z b) = unlisted root_refusals 1 1 tt (root_number z) refl
      go (number_5 h y a) = absurd (omega arith)
      go (number_6 h y l a) = absurd (omega arith)
      go (of_entry h y l z) = unlisted entry_refusals 1 1 tt (entry_number z) refl
      go (number_19 h a) = absurd (omega arith)
      go (number_20 h a) = absurd (omega arith)

  -- 3 if and only if length and path are right, and the image has not the disk's tag.
  pub untagged_exactly : (k : ℕ)
      → (find_of d s path ≡ refuse fault.boot_tag k)
      ↔ ((k ≡ 0) × (length s ≡ image_bytes d) × GoodForm path × (word_at s 0 ≢ tag_of d))
  untagged_exactly k = (
    (λ e. go ((refused_exactly 3 k).0 e)),
    (λ (q, h, p, u). (refused_exactly 3 k).1 (number_3 h p u refl q)),
  )
    where
      go : Refuses d s path 3 k → (k ≡ 0) × (length s ≡ image_bytes d) × GoodForm path × (word_at s 0 ≢ tag_of d)
      go (number_1 h a b) = absurd (omega arith)
      go (number_18 h f a) = absurd (omega arith)
      go (number_3 h p u a b) = (b, h, p, u)
      go (of_root h p u z b) = unlisted root_refusals 3 3 tt (root_number z) refl
      go (number_5 h y a) = absurd (omega arith)
      go (number_6 h y l a) = absurd (omega arith)
      go (of_entry h y l z) = unlisted entry_refusals 3 3 tt (entry_number z) refl
      go (number_19 h a) = absurd (omega arith)
      go (number_20 h a) = absurd (omega arith)

  -- ---- what is found

  -- A directory is found if and only if every component leads to one.
  pub directory_exactly : (k n : ℕ)
      → (find_of d s path ≡ Ok (Directory k n)) ↔ (Opened d s path × Trail d s (root_of d) (components path) k n)
  directory_exactly k n = (
    (λ e. go (find_why d s path) e),
    (λ h. sym (why_find d s path (Ok (Directory k n)) (leads_to_lem h.0 (holds k n h.1 (rw (zero_plus n)))))),
  )
    where
      go : Why d s path (find_of d s path) → find_of d s path ≡ Ok (Directory k n)
          → Opened d s path × Trail d s (root_of d) (components path) k n
      go (image h q) e = impossible cc
      go (form h f p q) e = impossible cc
      go (tag h p u q) e = impossible cc
      go (root h p u z q) e = impossible cc
      go (leads_to_lem o (holds k' m h q)) e =
          let x : k' ≡ k = cc in
          let y : 0 + m ≡ n = cc in
          let y' : m ≡ n = omega arith in
          (o, rw x at (rw y' at h))
      go (leads_to_lem o (file w p f u b q)) e = impossible cc
      go (leads_to_lem o (used w p f u b q)) e = impossible cc
      go (leads_to_lem o (missing w p f q)) e = impossible cc
      go (leads_to_lem o (failing w p f q)) e = impossible cc

  -- A file is found if and only if it is what the last component leads to.
  pub file_exactly : (k z n : ℕ) → (find_of d s path ≡ Ok (File k z n)) ↔ IsFile d s path k z n
  file_exactly k z n = (
    (λ e. go (find_why d s path) e),
    (λ h. sym (why_find d s path (Ok (File k z n))
        (leads_to_lem h.opened (file h.comes h.position h.found h.kind h.last
        (rw (h.count, h.size, h.key, zero_plus n)))))),
  )
    where
      go : Why d s path (find_of d s path) → find_of d s path ≡ Ok (File k z n) → IsFile d s path k z n
      go (image h q) e = impossible cc
      go (form h f p q) e = impossible cc
      go (tag h p u q) e = impossible cc
      go (root h p u z q) e = impossible cc
      go (leads_to_lem o (holds k' m h q)) e = impossible cc
      go (leads_to_lem o (file w p f u b q)) e =
          let y : 0 + (w.compared + (p + 1)) ≡ n = cc in
          record {
            opened = o;
            comes = w;
            position = p;
            found = f;
            kind = u;
            last = b;
            key = cc;
            size = cc;
            count = omega arith;
          }
      go (leads_to_lem o (used w p f u b q)) e = impossible cc
      go (leads_to_lem o (missing w p f q)) e = impossible cc
      go (leads_to_lem o (failing w p f q)) e = impossible cc

-- Of a call that names b: 1 if and only if no disk fits, and 3 if and only if the image has the boot tag of none.
module _ (b : ℕ) (s path : List ℕ) (k : ℕ) where
  pub refused_unfit : (find_of (disk_of b s) s path ≡ refuse fault.image_length k) ↔ ((k ≡ 0) × Unfit b s)
  refused_unfit =
      let r = length_exactly (disk_of b s) s path k in
      let u = unfit b s in
      (λ e. let (q, l) = r.0 e in (q, u.0 l), λ (q, l). r.1 (q, u.1 l))

  pub refused_tag : (find_of (disk_of b s) s path ≡ refuse fault.boot_tag k)
      ↔ ((k ≡ 0) × Fits b s (disk_of b s) × GoodForm path × NoTag s)
  refused_tag =
      let r = untagged_exactly (disk_of b s) s path k in
      let t = no_tag b s in
      (λ e. let (q, l, p, u) = r.0 e in (q, long_fits b s l, p, t.0 u), λ (q, f, p, u). r.1 (q, f.long, p, t.1 u))
