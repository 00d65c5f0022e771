-- The tests of a block give a number if and only if the block breaks the law as `specs/Breaks.antt` says, and pass if
-- and only if it does not. Assumes nothing.
use Prim.Native.Nat.{ℕ, ◌≤◌}
use mathlib.Core.Path.{◌≡◌, refl, sym, ap, ◌∙◌}
use mathlib.Core.Logic.{◌≢◌, ◌⊎◌, inl, inr, ◌↔◌}
use mathlib.Core.Bool.{Bool, true, false}
use mathlib.Core.List.{List, [], ◌∷◌, ◌++◌}
use native.Mathlib.Omega.{arith}
use lib.Dec.{leb, eqb}
use borrow.Author.Tests.{eq-eqb, ne_eqb, eqb-true, eqb-false, le-leb, leb-true, leb-false, lt-ltb, le-ltb}
use Rattle.answers.specs.Numbers as fault
use Rattle.answers.specs.Tests.{pick, must, never, first, tests}
use Rattle.answers.proofs.Tests.{first_zero, tests_append, must_passed, must_passes, pick_true, pick_false}
use Rattle.answers.proofs.Given.{given}
use Rattle.answers.proofs.Clashes.{impossible}
use Rattle.reach.specs.References.{◌∈◌}
use Rattle.volume.specs.declared.disk.Disk.{Disk}
use Rattle.volume.specs.Disks.{is_old, root_of, file_limit, in_range, first_key}
use Rattle.volume.specs.Blocks.{slots, word_of, sum_of, directory, header_type, list_type, data_type}
use Rattle.volume.specs.Blocks.{root_kind, directory_kind, file_kind, soft_link, directory_link, file_link}
use Rattle.volume.specs.Names.{name_of, name_good, slot_of}
use Rattle.volume.specs.Files.{held_of, size_of, blocks_of}
use Rattle.volume.specs.Law.{RootKind, RootFixed, OneBitmap, Valid, EntryKind, KeyCount, ListKind}
use Rattle.volume.specs.Rules.{root_words, root_fault, all_zero, map_fault, bitmap_fault, entry_words, entry_name}
use Rattle.volume.specs.Rules.{entry_fault, count_rules, empty_rule, empty_rules, file_fault, list_fault, data_links}
use Rattle.volume.specs.Rules.{data_rules, data_fault}
use Rattle.volume.specs.Breaks.{Inside, RootSound, RootBreaks, root_7, root_8, root_4, root_11, MapBreaks}
use Rattle.volume.specs.Breaks.{map_16, BitmapBreaks, bitmap_7, EntryTies, EntrySound, EntryBreaks, entry_7}
use Rattle.volume.specs.Breaks.{entry_8, entry_9, entry_10, entry_11, entry_12, HeaderSound, HeaderBreaks}
use Rattle.volume.specs.Breaks.{header_14, ListSound, ListBreaks, list_7, list_8, list_10, list_14, DataTies}
use Rattle.volume.specs.Breaks.{DataSound, DataBreaks, data_7, data_8, data_15}
use Rattle.volume.proofs.Sizes.{range_is}
use Rattle.volume.proofs.Checks.{word_in, word_not_in, member, is, be, is_not, be_not, test_at, ◌&◌}
use Rattle.volume.proofs.Checks.{zeros_there, zeros_found, Test, broken, asked}
use Rattle.volume.proofs.Checks.{breaks, down, fall, on, last, word_test, sum_test, name_test, bad_name_lem}
use Rattle.volume.proofs.Checks.{not_good, some, among}

-- ---- the root

module _ (s : List ℕ) (r : ℕ) where
  abbrev kinds : List ℕ
  kinds =
      must (eqb (word_of s r 0) header_type) fault.block_type ∷ must (eqb (word_of s r 127) root_kind) fault.block_type
      ∷ []

  kind_test : Test fault.block_type (tests kinds) (RootKind s r)
  kind_test =
      record {
        gives = search given depth 8;
        passed =
            λ e. record {
              type = word_in _ _ fault.block_type kinds e (search member depth 9) tt;
              kind = word_in _ _ fault.block_type kinds e (search member depth 9) tt;
            };
        passes = λ h. be _ _ fault.block_type h.type & be _ _ fault.block_type h.kind & refl;
      }

  fixed_test : Test fault.root_words (tests (root_words s r)) (RootFixed s r)
  fixed_test =
      record {
        gives = search given depth 16;
        passed =
            λ e. record {
              zeros = zeros' e;
              table = word_in _ _ fault.root_words (root_words s r) e (search member depth 9) tt;
            };
        passes = passes';
      }
    where
      zeros' : tests (root_words s r) ≡ 0 → (i : ℕ) → i ∈ (1 ∷ 2 ∷ 4 ∷ 124 ∷ 125 ∷ 126 ∷ []) → word_of s r i ≡ 0
      zeros' e i (inl q) = rw q (word_in _ _ fault.root_words (root_words s r) e (search member depth 9) tt)
      zeros' e i (inr (inl q)) = rw q (word_in _ _ fault.root_words (root_words s r) e (search member depth 9) tt)
      zeros' e i (inr (inr (inl q))) = rw q (word_in _ _ fault.root_words (root_words s r) e (search member depth 9) tt)
      zeros' e i (inr (inr (inr (inl q)))) =
          rw q (word_in _ _ fault.root_words (root_words s r) e (search member depth 9) tt)
      zeros' e i (inr (inr (inr (inr (inl q))))) =
          rw q (word_in _ _ fault.root_words (root_words s r) e (search member depth 9) tt)
      zeros' e i (inr (inr (inr (inr (inr (inl q)))))) =
          rw q (word_in _ _ fault.root_words (root_words s r) e (search member depth 9) tt)
      zeros' e i (inr (inr (inr (inr (inr (inr q)))))) = absurd q

      passes' : RootFixed s r → tests (root_words s r) ≡ 0
      passes' h =
          fixed 1 (inl refl) & fixed 2 (inr (inl refl)) & be _ _ fault.root_words h.table & fixed 4
          (inr (inr (inl refl))) & fixed
          124 (inr (inr (inr (inl refl)))) & fixed 125 (inr (inr (inr (inr (inl refl))))) & fixed 126
          (inr (inr (inr (inr (inr (inl refl)))))) & refl
        where
          fixed : (i : ℕ) → i ∈ (1 ∷ 2 ∷ 4 ∷ 124 ∷ 125 ∷ 126 ∷ []) → must (eqb (word_of s r i) 0) fault.root_words ≡ 0
          fixed i m = be _ _ fault.root_words (h.zeros i m)

module _ (d : Disk) (s : List ℕ) where
  abbrev r : ℕ
  r = root_of d

  root_order : root_fault d s ≡ first (must (eqb (sum_of s r) 0) fault.block_sum)
      (first (tests (kinds s r)) (first (tests (root_words s r)) (must (name_good s r) fault.bad_name)))
  unfolding root_fault
  root_order =
      ap (first (must (eqb (sum_of s r) 0) fault.block_sum))
      (tests_append (kinds s r) (root_words s r ++ (must (name_good s r) fault.bad_name ∷ []))
      ∙ ap (first (tests (kinds s r))) (tests_append (root_words s r) (must (name_good s r) fault.bad_name ∷ [])
      ∙ ap (first (tests (root_words s r))) (last _)))

  root_broken : (v : ℕ) → v ≢ 0 → root_fault d s ≡ v → RootBreaks s r v
  root_broken v z e =
      down (sum_test s r) _ z root_7
      (λ a. down (kind_test s r) _ z (root_8 a)
      (λ b. down (fixed_test s r) _ z (root_4 a b)
      (λ c q. let w = broken (name_test s r) z q in root_11 a b c (bad_name_lem s r w.0) w.1)))
      (sym root_order ∙ e)

  root_fault_lem : (v : ℕ) → RootBreaks s r v → (root_fault d s ≡ v) × (v ≢ 0)
  root_fault_lem v (root_7 a e) = (root_order ∙ fall (sum_test s r) _ (some e tt) a e, some e tt)
  root_fault_lem v (root_8 a b e) =
      (root_order ∙ on (sum_test s r) _ a (fall (kind_test s r) _ (some e tt) b e), some e tt)
  root_fault_lem v (root_4 a b c e) =
      (root_order ∙ on (sum_test s r) _ a (on (kind_test s r) _ b (fall (fixed_test s r) _ (some e tt) c e)), some e tt)
  root_fault_lem v (root_11 a b c n e) = (
    root_order ∙ on (sum_test s r) _ a
        (on (kind_test s r) _ b (on (fixed_test s r) _ c (breaks (name_test s r) (not_good s r n) e))),
    some e tt,
  )

  -- the root up to its name: 7, 8, 4 and 11
  pub root_breaks : (v : ℕ) → ((root_fault d s ≡ v) × (v ≢ 0)) ↔ RootBreaks s r v
  root_breaks v = ((λ h. root_broken v h.1 h.0), root_fault_lem v)

  -- and it passes if and only if it is as the law says
  pub root_sound : (root_fault d s ≡ 0) ↔ RootSound s r
  root_sound = (
    passed',
    λ h. root_order ∙ on (sum_test s r) _ h.sum
        (on (kind_test s r) _ h.kind
        (on (fixed_test s r) _ h.fixed (must_passes (name_good s r) fault.bad_name h.name))),
  )
    where
      passed' : root_fault d s ≡ 0 → RootSound s r
      passed' e =
          let a = first_zero _ _ (sym root_order ∙ e) in
          let b = first_zero _ _ a.1 in
          let c = first_zero _ _ b.1 in
          record {
            sum = (sum_test s r).passed a.0;
            kind = (kind_test s r).passed b.0;
            fixed = (fixed_test s r).passed c.0;
            name = (name_test s r).passed c.1;
          }

  -- ---- the root's words beside the bitmap key

  abbrev zeros : ℕ
  zeros = must (all_zero s r 80 25) fault.bitmap_words

  zeros_test : Test fault.bitmap_words zeros (OneBitmap s r)
  zeros_test =
      record {
        gives = search given depth 8;
        passed = λ e i l h. zeros_there s r 80 25 (must_passed _ fault.bitmap_words e tt) i l (omega arith);
        passes = λ f. must_passes _ fault.bitmap_words (zeros_found s r 80 25 (λ j l u. f j l (omega arith)));
      }

  valid_test : Test fault.bitmap_words (must (eqb (word_of s r 78) 0xFFFFFFFF) fault.bitmap_words) (Valid d s)
  valid_test = word_test _ _ fault.bitmap_words (search given depth 8) tt

  map_order : map_fault d s ≡ first (must (eqb (word_of s r 78) 0xFFFFFFFF) fault.bitmap_words) zeros
  unfolding map_fault
  map_order = ap (first (must (eqb (word_of s r 78) 0xFFFFFFFF) fault.bitmap_words)) (last zeros)

  -- 16
  pub map_breaks : (v : ℕ) → ((map_fault d s ≡ v) × (v ≢ 0)) ↔ MapBreaks d s v
  map_breaks v = (to, from)
    where
      to : (map_fault d s ≡ v) × (v ≢ 0) → MapBreaks d s v
      to h =
          down valid_test _ h.1 (λ a. map_16 (inl a))
          (λ a q. let w = broken zeros_test h.1 q in map_16 (inr w.0) w.1) (sym map_order ∙ h.0)

      rest : (OneBitmap s r → ⊥) → v ≡ fault.bitmap_words → (t : Bool) → eqb (word_of s r 78) 0xFFFFFFFF ≡ t
          → map_fault d s ≡ v
      rest b e true q = map_order ∙ on valid_test _ (eqb-true _ _ q) (breaks zeros_test b e)
      rest b e false q = map_order ∙ fall valid_test _ (some e tt) (eqb-false _ _ q) e

      from : MapBreaks d s v → (map_fault d s ≡ v) × (v ≢ 0)
      from (map_16 (inl a) e) = (map_order ∙ fall valid_test _ (some e tt) a e, some e tt)
      from (map_16 (inr b) e) = (rest b e (eqb (word_of s r 78) 0xFFFFFFFF) refl, some e tt)

  pub map_sound : (map_fault d s ≡ 0) ↔ (Valid d s × OneBitmap s r)
  map_sound = (passed', λ h. map_order ∙ on valid_test _ h.0 (zeros_test.passes h.1))
    where
      passed' : map_fault d s ≡ 0 → Valid d s × OneBitmap s r
      passed' e = let a = first_zero _ _ (sym map_order ∙ e) in (valid_test.passed a.0, zeros_test.passed a.1)

-- ---- the bitmap block

module _ (s : List ℕ) (k : ℕ) where
  -- 7
  pub bitmap_breaks : (v : ℕ) → ((bitmap_fault s k ≡ v) × (v ≢ 0)) ↔ BitmapBreaks s k v
  unfolding bitmap_fault
  bitmap_breaks v = ((λ h. let w = broken (sum_test s k) h.1 h.0 in bitmap_7 w.0 w.1), from)
    where
      from : BitmapBreaks s k v → (bitmap_fault s k ≡ v) × (v ≢ 0)
      from (bitmap_7 a e) = (breaks (sum_test s k) a e, some e tt)

-- ---- an entry

module _ (d : Disk) (s : List ℕ) (k t i : ℕ) where
  abbrev w127 : ℕ
  w127 = word_of s k 127

  abbrev links : List ℕ
  links =
      never (eqb w127 soft_link) fault.link ∷ never (eqb w127 directory_link) fault.link
      ∷ never (eqb w127 file_link) fault.link ∷ []

  abbrev Linked : Type 0
  Linked = w127 ∈ (soft_link ∷ directory_link ∷ file_link ∷ [])

  type_test : Test fault.block_type (must (eqb (word_of s k 0) header_type) fault.block_type)
      (word_of s k 0 ≡ header_type)
  type_test = word_test _ _ fault.block_type (search given depth 8) tt

  link_test : Test fault.link (tests links) (Linked → ⊥)
  link_test =
      record {
        gives = search given depth 8;
        passed = passed';
        passes = λ h. be_not _ _ fault.link (λ e. h (inl e)) & be_not _
            _ fault.link (λ e. h (inr (inl e))) & be_not _ _ fault.link (λ e. h (inr (inr (inl e)))) & refl;
      }
    where
      passed' : tests links ≡ 0 → Linked → ⊥
      passed' e (inl q) = word_not_in _ _ fault.link links e (search member depth 9) tt q
      passed' e (inr (inl q)) = word_not_in _ _ fault.link links e (search member depth 9) tt q
      passed' e (inr (inr (inl q))) = word_not_in _ _ fault.link links e (search member depth 9) tt q
      passed' e (inr (inr (inr q))) = absurd q

  linked : ((Linked → ⊥) → ⊥) → Linked
  linked h = go (among w127 (soft_link ∷ directory_link ∷ file_link ∷ []))
    where
      go : Dec Linked → Linked
      go (yes q) = q
      go (no q) = absurd (h q)

  abbrev Known : Type 0
  Known = (w127 ≡ directory_kind) ⊎ (w127 ≡ file_kind)

  abbrev known : ℕ
  known = pick (directory s k) 0 (must (eqb w127 file_kind) fault.block_type)

  known_test : Test fault.block_type known Known
  known_test = record { gives = search given depth 8; passed = passed' (directory s k) refl; passes = passes' }
    where
      passed' : (b : Bool) → directory s k ≡ b → known ≡ 0 → Known
      passed' true h e = inl (eqb-true _ _ h)
      passed' false h e = inr (is _ _ fault.block_type (sym (pick_false (directory s k) _ _ _ h refl) ∙ e) tt)

      passes' : Known → known ≡ 0
      passes' (inl e) = pick_true (directory s k) _ _ _ (eq-eqb _ _ e) refl
      passes' (inr e) =
          pick_false (directory s k) _ _ _ (ne_eqb w127 directory_kind (λ f. omega (arith, e, f))) refl
          ∙ be _ _ fault.block_type e

  ties_test : Test fault.wrong_ties (tests (entry_words s k t)) (EntryTies s k t)
  ties_test =
      record {
        gives = search given depth 8;
        passed =
            λ e. record {
              own = word_in _ _ fault.wrong_ties (entry_words s k t) e (search member depth 9) tt;
              parent = word_in _ _ fault.wrong_ties (entry_words s k t) e (search member depth 9) tt;
              link = λ h. is _ _ fault.wrong_ties (sym (pick_true (directory s k) _ _ _ h refl)
                  ∙ test_at 2 (entry_words s k t) e refl) tt;
            };
        passes =
            λ h. be _ _ fault.wrong_ties h.own & be _ _ fault.wrong_ties h.parent & link' h (directory s k) refl &
            refl;
      }
    where
      link' : EntryTies s k t → (b : Bool) → directory s k ≡ b
          → pick (directory s k) (must (eqb (word_of s k 126) 0) fault.wrong_ties) 0 ≡ 0
      link' h true e = pick_true (directory s k) _ _ _ e refl ∙ be _ _ fault.wrong_ties (h.link e)
      link' h false e = pick_false (directory s k) _ _ _ e refl

  slot_test : Test fault.wrong_slot (must (eqb (slot_of d (name_of s k)) i) fault.wrong_slot)
      (slot_of d (name_of s k) ≡ i)
  slot_test = word_test _ _ fault.wrong_slot (search given depth 8) tt

  entry_order : entry_fault d s k t i ≡ first (must (eqb (sum_of s k) 0) fault.block_sum)
      (first (must (eqb (word_of s k 0) header_type) fault.block_type)
      (first (tests links) (first known
      (first (tests (entry_words s k t))
      (first (must (name_good s k) fault.bad_name) (must (eqb (slot_of d (name_of s k)) i) fault.wrong_slot))))))
  unfolding entry_fault
  entry_order =
      ap (λ x. first (must (eqb (sum_of s k) 0) fault.block_sum)
      (first (must (eqb (word_of s k 0) header_type) fault.block_type) x))
      (tests_append links (known ∷ (entry_words s k t ++ entry_name d s k i))
      ∙ ap (λ x. first (tests links) (first known x)) (tests_append (entry_words s k t) (entry_name d s k i)
      ∙ ap (λ x. first (tests (entry_words s k t)) (first (must (name_good s k) fault.bad_name) x)) (last _)))

  -- a directory's or a file's w127 is no link's
  apart : Known → Linked → ⊥
  apart (inl a) (inl b) = omega arith
  apart (inl a) (inr (inl b)) = omega arith
  apart (inl a) (inr (inr (inl b))) = omega arith
  apart (inl a) (inr (inr (inr b))) = b
  apart (inr a) (inl b) = omega arith
  apart (inr a) (inr (inl b)) = omega arith
  apart (inr a) (inr (inr (inl b))) = omega arith
  apart (inr a) (inr (inr (inr b))) = b

  entry_broken : (v : ℕ) → v ≢ 0 → entry_fault d s k t i ≡ v → EntryBreaks d s k t i v
  entry_broken v z e =
      down (sum_test s k) _ z entry_7
      (λ a. down type_test _ z (λ b. entry_8 a (λ x. b x.type) (λ x. b x.type))
      (λ b. down link_test _ z (λ c. entry_9 a (record { type = b; kind = linked c }))
      (λ c. down known_test _ z (λ n. entry_8 a (λ x. n x.kind) (λ x. c x.kind))
      (λ n. down ties_test _ z (entry_10 a (record { type = b; kind = n }))
      (λ o. down (name_test s k) _ z (λ g. entry_11 a (record { type = b; kind = n }) o (bad_name_lem s k g))
      (λ g q. let w = broken slot_test z q in entry_12 a
      (record { kind = record { type = b; kind = n }; own = o.own; name = g }) o w.0 w.1))))))
      (sym entry_order ∙ e)

  -- past the sum and the types
  past : {v : ℕ} → sum_of s k ≡ 0 → EntryKind s k
      → first (tests (entry_words s k t))
      (first (must (name_good s k) fault.bad_name) (must (eqb (slot_of d (name_of s k)) i) fault.wrong_slot))
      ≡ v
      → entry_fault d s k t i ≡ v
  past a b q =
      entry_order ∙ on (sum_test s k) _ a
      (on type_test _ b.type (on link_test _ (apart b.kind) (on known_test _ b.kind q)))

  entry_fault_lem : (v : ℕ) → EntryBreaks d s k t i v → (entry_fault d s k t i ≡ v) × (v ≢ 0)
  entry_fault_lem v (entry_7 a e) = (entry_order ∙ fall (sum_test s k) _ (some e tt) a e, some e tt)
  entry_fault_lem v (entry_8 a b c e) =
      (entry_order ∙ on (sum_test s k) _ a (go (eqb (word_of s k 0) header_type) refl), some e tt)
    where
      go : (u : Bool) → eqb (word_of s k 0) header_type ≡ u
          → first (must (eqb (word_of s k 0) header_type) fault.block_type)
          (first (tests links) (first known
          (first (tests (entry_words s k t))
          (first (must (name_good s k) fault.bad_name) (must (eqb (slot_of d (name_of s k)) i) fault.wrong_slot))))) ≡ v
      go true q =
          let y : word_of s k 0 ≡ header_type = eqb-true _ _ q in
          on type_test _ y (on link_test _ (λ x. c (record { type = y; kind = x }))
          (fall known_test _ (some e tt) (λ x. b (record { type = y; kind = x })) e))
      go false q = fall type_test _ (some e tt) (eqb-false _ _ q) e
  entry_fault_lem v (entry_9 a b e) = (
    entry_order ∙ on (sum_test s k) _ a
        (on type_test _ b.type (fall link_test _ (some e tt) (λ h. h b.kind) e)),
    some e tt,
  )
  entry_fault_lem v (entry_10 a b c e) = (past a b (fall ties_test _ (some e tt) c e), some e tt)
  entry_fault_lem v (entry_11 a b c n e) =
      (past a b (on ties_test _ c (fall (name_test s k) _ (some e tt) (not_good s k n) e)), some e tt)
  entry_fault_lem v (entry_12 a b c n e) =
      (past a b.kind (on ties_test _ c (on (name_test s k) _ b.name (breaks slot_test n e))), some e tt)

  -- 7 to 12
  pub entry_breaks : (v : ℕ) → ((entry_fault d s k t i ≡ v) × (v ≢ 0)) ↔ EntryBreaks d s k t i v
  entry_breaks v = ((λ h. entry_broken v h.1 h.0), entry_fault_lem v)

  -- and it passes if and only if it is as the law says
  pub entry_sound : (entry_fault d s k t i ≡ 0) ↔ EntrySound d s k t i
  entry_sound = (
    passed',
    λ h. past h.sum h.entry.kind
        (on ties_test _ (record { own = h.entry.own; parent = h.parent; link = h.link })
        (on (name_test s k) _ h.entry.name (slot_test.passes h.slot))),
  )
    where
      passed' : entry_fault d s k t i ≡ 0 → EntrySound d s k t i
      passed' e =
          let a = first_zero _ _ (sym entry_order ∙ e) in
          let b = first_zero _ _ a.1 in
          let c = first_zero _ _ (first_zero _ _ b.1).1 in
          let f = first_zero _ _ c.1 in
          let g = first_zero _ _ f.1 in
          let o = ties_test.passed f.0 in
          record {
            sum = (sum_test s k).passed a.0;
            entry =
                record {
                  kind = record { type = type_test.passed b.0; kind = known_test.passed c.0 };
                  own = o.own;
                  name = (name_test s k).passed g.0;
                };
            parent = o.parent;
            link = o.link;
            slot = slot_test.passed g.1;
          }

-- ---- a block that lists keys, n of them still to come

module _ (s : List ℕ) (k n : ℕ) where
  abbrev more : ℕ
  more =
      pick (leb n slots) (must (eqb (word_of s k 126) 0) fault.file_layout)
      (never (eqb (word_of s k 126) 0) fault.file_layout)

  more_passed : more ≡ 0 → (word_of s k 126 ≡ 0) ↔ (n ≤ slots)
  more_passed e = go (leb n slots) refl
    where
      go : (b : Bool) → leb n slots ≡ b → (word_of s k 126 ≡ 0) ↔ (n ≤ slots)
      go true h = (
        (λ _. leb-true n slots h),
        (λ _. is _ _ fault.file_layout (sym (pick_true (leb n slots) _ _ _ h refl) ∙ e) tt),
      )
      go false h = (
        (λ z. absurd (is_not _ _ fault.file_layout (sym (pick_false (leb n slots) _ _ _ h refl) ∙ e) tt z)),
        (λ l. absurd (omega (arith, leb-false n slots h))),
      )

  more_passes : (word_of s k 126 ≡ 0) ↔ (n ≤ slots) → more ≡ 0
  more_passes f = go (leb n slots) refl
    where
      go : (b : Bool) → leb n slots ≡ b → more ≡ 0
      go true h = pick_true (leb n slots) _ _ _ h refl ∙ be _ _ fault.file_layout (f.1 (leb-true n slots h))
      go false h =
          pick_false (leb n slots) _ _ _ h refl
          ∙ be_not _ _ fault.file_layout (λ z. omega (arith, leb-false n slots h, f.0 z))

  lists_test : Test fault.file_layout (tests (count_rules s k n)) (KeyCount s k n)
  lists_test =
      record {
        gives = search given depth 8;
        passed =
            λ e. record {
              count = word_in _ _ fault.file_layout (count_rules s k n) e (search member depth 9) tt;
              more = more_passed (test_at 1 (count_rules s k n) e refl);
            };
        passes = λ p. be _ _ fault.file_layout p.count & more_passes p.more & refl;
      }

-- ---- a file's header

module _ (d : Disk) (s : List ℕ) (h : ℕ) where
  abbrev n : ℕ
  n = blocks_of d s h

  header_order : file_fault d s h ≡ first (must (leb (size_of s h) (file_limit d)) fault.file_layout)
      (first (tests (count_rules s h n)) (tests (empty_rules d s h n)))
  unfolding file_fault
  header_order =
      ap (first (must (leb (size_of s h) (file_limit d)) fault.file_layout))
      (tests_append (count_rules s h n) (empty_rules d s h n))

  size_test : Test fault.file_layout (must (leb (size_of s h) (file_limit d)) fault.file_layout)
      (size_of s h ≤ file_limit d)
  size_test =
      record {
        gives = search given depth 8;
        passed = λ e. leb-true _ _ (must_passed _ fault.file_layout e tt);
        passes = λ p. must_passes _ fault.file_layout (le-leb _ _ p);
      }

  first_test : Test fault.file_layout (must (eqb (word_of s h 4) 0) fault.file_layout) (word_of s h 4 ≡ 0)
  first_test = word_test _ _ fault.file_layout (search given depth 8) tt

  empty_test : Test fault.file_layout (tests (empty_rules d s h n)) (is_old d ≡ true → n ≡ 0 → word_of s h 4 ≡ 0)
  empty_test =
      record {
        gives = search given depth 8;
        passed = λ e o z. w.passed (sym (last _) ∙ e) o (eq-eqb n 0 z);
        passes = λ p. last _ ∙ w.passes (λ o z. p o (eqb-true n 0 z));
      }
    where
      w : Test fault.file_layout (empty_rule d s h n) (is_old d ≡ true → eqb n 0 ≡ true → word_of s h 4 ≡ 0)
      w = asked (is_old d) (asked (eqb n 0) first_test)

  -- it passes if and only if it is as the law says
  pub header_sound : (file_fault d s h ≡ 0) ↔ HeaderSound d s h
  header_sound = (
    passed',
    λ p. header_order ∙ on size_test _ p.size
        (on (lists_test s h n) _ p.lists (empty_test.passes p.empty)),
  )
    where
      passed' : file_fault d s h ≡ 0 → HeaderSound d s h
      passed' e =
          let a = first_zero _ _ (sym header_order ∙ e) in
          let b = first_zero _ _ a.1 in
          record {
            size = size_test.passed a.0;
            lists = (lists_test s h n).passed b.0;
            empty = empty_test.passed b.1;
          }

  header_test : Test fault.file_layout (file_fault d s h) (HeaderSound d s h)
  unfolding file_fault
  header_test = record { gives = search given depth 16; passed = header_sound.0; passes = header_sound.1 }

  -- 14
  pub header_breaks : (v : ℕ) → ((file_fault d s h ≡ v) × (v ≢ 0)) ↔ HeaderBreaks d s h v
  header_breaks v = ((λ e. let w = broken header_test e.1 e.0 in header_14 w.0 w.1), from)
    where
      from : HeaderBreaks d s h v → (file_fault d s h ≡ v) × (v ≢ 0)
      from (header_14 a e) = (breaks header_test a e, some e tt)

-- ---- a list block

module _ (s : List ℕ) (k h n : ℕ) where
  abbrev types : List ℕ
  types = must (eqb (word_of s k 0) list_type) fault.block_type
      ∷ must (eqb (word_of s k 127) file_kind) fault.block_type ∷ []

  abbrev owns : List ℕ
  owns = must (eqb (word_of s k 1) k) fault.wrong_ties ∷ must (eqb (word_of s k 125) h) fault.wrong_ties ∷ []

  types_test : Test fault.block_type (tests types) (ListKind s k)
  types_test =
      record {
        gives = search given depth 8;
        passed =
            λ e. record {
              type = word_in _ _ fault.block_type types e (search member depth 9) tt;
              kind = word_in _ _ fault.block_type types e (search member depth 9) tt;
            };
        passes = λ p. be _ _ fault.block_type p.type & be _ _ fault.block_type p.kind & refl;
      }

  owns_test : Test fault.wrong_ties (tests owns) ((word_of s k 1 ≡ k) × (word_of s k 125 ≡ h))
  owns_test =
      record {
        gives = search given depth 8;
        passed =
            λ e. (
              word_in _ _ fault.wrong_ties owns e (search member depth 9) tt,
              word_in _ _ fault.wrong_ties owns e (search member depth 9) tt,
            );
        passes = λ p. be _ _ fault.wrong_ties p.0 & be _ _ fault.wrong_ties p.1 & refl;
      }

  list_order : list_fault s k h n ≡ first (must (eqb (sum_of s k) 0) fault.block_sum)
      (first (tests types) (first (tests owns) (tests (count_rules s k n))))
  unfolding list_fault
  list_order =
      ap (first (must (eqb (sum_of s k) 0) fault.block_sum)) (tests_append types (owns ++ count_rules s k n)
      ∙ ap (first (tests types)) (tests_append owns (count_rules s k n)))

  list_broken : (v : ℕ) → v ≢ 0 → list_fault s k h n ≡ v → ListBreaks s k h n v
  list_broken v z e =
      down (sum_test s k) _ z list_7
      (λ a. down types_test _ z (list_8 a)
      (λ b. down owns_test _ z (λ c. list_10 a b (λ x. c (x.own, x.parent)))
      (λ c q. let w = broken (lists_test s k n) z q in list_14 a (record { kind = b; own = c.0; parent = c.1 })
      w.0 w.1)))
      (sym list_order ∙ e)

  list_fault_lem : (v : ℕ) → ListBreaks s k h n v → (list_fault s k h n ≡ v) × (v ≢ 0)
  list_fault_lem v (list_7 a e) = (list_order ∙ fall (sum_test s k) _ (some e tt) a e, some e tt)
  list_fault_lem v (list_8 a b e) = (list_order ∙ on (sum_test s k) _ a (fall types_test _ (some e tt) b e), some e tt)
  list_fault_lem v (list_10 a b c e) = (
    list_order ∙ on (sum_test s k) _ a
        (on types_test _ b (fall owns_test _ (some e tt) (λ x. c (record { kind = b; own = x.0; parent = x.1 }))
        e)),
    some e tt,
  )
  list_fault_lem v (list_14 a b c e) = (
    list_order ∙ on (sum_test s k) _ a
        (on types_test _ b.kind (on owns_test _ (b.own, b.parent) (breaks (lists_test s k n) c e))),
    some e tt,
  )

  -- 7, 8, 10 and 14
  pub list_breaks : (v : ℕ) → ((list_fault s k h n ≡ v) × (v ≢ 0)) ↔ ListBreaks s k h n v
  list_breaks v = ((λ e. list_broken v e.1 e.0), list_fault_lem v)

  -- and it passes if and only if it is as the law says
  pub list_sound : (list_fault s k h n ≡ 0) ↔ ListSound s k h n
  list_sound = (
    passed',
    λ p. list_order ∙ on (sum_test s k) _ p.sum
        (on types_test _ p.block.kind
        (on owns_test _ (p.block.own, p.block.parent) ((lists_test s k n).passes p.lists))),
  )
    where
      passed' : list_fault s k h n ≡ 0 → ListSound s k h n
      passed' e =
          let a = first_zero _ _ (sym list_order ∙ e) in
          let b = first_zero _ _ a.1 in
          let c = first_zero _ _ b.1 in
          let y = types_test.passed b.0 in
          let o = owns_test.passed c.0 in
          record {
            sum = (sum_test s k).passed a.0;
            block = record { kind = y; own = o.0; parent = o.1 };
            lists = (lists_test s k n).passed c.1;
          }

-- ---- a data block

module _ (d : Disk) (s : List ℕ) (k h n named : ℕ) where
  abbrev z : ℕ
  z = size_of s h

  abbrev rest : List ℕ
  rest =
      must (eqb (word_of s k 1) h) fault.data_layout ∷ must (eqb (word_of s k 2) n) fault.data_layout
      ∷ must (eqb (word_of s k 3) (held_of d z n)) fault.data_layout
      ∷ data_links d s k z n named

  data_type_test : Test fault.block_type (must (eqb (word_of s k 0) data_type) fault.block_type)
      (word_of s k 0 ≡ data_type)
  data_type_test = word_test _ _ fault.block_type (search given depth 8) tt

  data_order : tests (data_rules d s k h z n named) ≡ first (must (eqb (sum_of s k) 0) fault.block_sum)
      (first (must (eqb (word_of s k 0) data_type) fault.block_type) (tests rest))
  data_order = refl

  -- past the type
  datum_test : word_of s k 0 ≡ data_type → Test fault.data_layout (tests rest) (DataTies d s k h n named)
  datum_test b =
      record {
        gives = search given depth 12;
        passed = passed';
        passes = λ p. be _ _ fault.data_layout p.block.parent & be _ _ 15
            p.block.number & be _ _ fault.data_layout p.block.held & be _ _ fault.data_layout p.here & end p
            (eqb n (blocks_of d s h)) refl
            & refl;
      }
    where
      passed' : tests rest ≡ 0 → DataTies d s k h n named
      passed' e =
          record {
            block =
                record {
                  type = b;
                  parent = word_in _ _ fault.data_layout rest e (search member depth 9) tt;
                  number = word_in _ _ fault.data_layout rest e (search member depth 9) tt;
                  held = word_in _ _ fault.data_layout rest e (search member depth 9) tt;
                };
            here = word_in _ _ fault.data_layout rest e (search member depth 9) tt;
            last =
                λ y. is _ _ fault.data_layout (sym (pick_true (eqb n (blocks_of d s h)) _ _ _ (eq-eqb _ _ y) refl)
                ∙ test_at 4 rest e refl) tt;
          }

      end : DataTies d s k h n named → (t : Bool) → eqb n (blocks_of d s h) ≡ t
          → pick (eqb n (blocks_of d s h)) (must (eqb (word_of s k 4) 0) fault.data_layout) 0 ≡ 0
      end p true e =
          pick_true (eqb n (blocks_of d s h)) _ _ _ e refl ∙ be _ _ fault.data_layout (p.last (eqb-true _ _ e))
      end p false e = pick_false (eqb n (blocks_of d s h)) _ _ _ e refl

  -- all tests are made on the old file system
  module _ (o : is_old d ≡ true) where
    old_order : data_fault d s k h z n named ≡ first (must (eqb (sum_of s k) 0) fault.block_sum)
        (first (must (eqb (word_of s k 0) data_type) fault.block_type) (tests rest))
    unfolding data_fault
    old_order = pick_true (is_old d) _ 0 _ o data_order

    old_broken : (v : ℕ) → v ≢ 0 → data_fault d s k h z n named ≡ v → DataBreaks d s k h n named v
    old_broken v y e =
        down (sum_test s k) _ y data_7
        (λ a. down data_type_test _ y (data_8 a)
        (λ b q. let w = broken (datum_test b) y q in data_15 a b w.0 w.1))
        (sym old_order ∙ e)

    old_fault : (v : ℕ) → DataBreaks d s k h n named v → (data_fault d s k h z n named ≡ v) × (v ≢ 0)
    old_fault v (data_7 a e) = (old_order ∙ fall (sum_test s k) _ (some e tt) a e, some e tt)
    old_fault v (data_8 a b e) =
        (old_order ∙ on (sum_test s k) _ a (fall data_type_test _ (some e tt) b e), some e tt)
    old_fault v (data_15 a b c e) =
        (old_order ∙ on (sum_test s k) _ a (on data_type_test _ b (breaks (datum_test b) c e)), some e tt)

    old_passed : data_fault d s k h z n named ≡ 0 → DataSound d s k h n named
    old_passed e =
        let a = first_zero _ _ (sym old_order ∙ e) in
        let b = first_zero _ _ a.1 in
        record {
          sum = (sum_test s k).passed a.0;
          ties = (datum_test (data_type_test.passed b.0)).passed b.1;
        }

    old_passes : DataSound d s k h n named → data_fault d s k h z n named ≡ 0
    old_passes p =
        let b = p.ties.block.type in
        old_order ∙ on (sum_test s k) _ p.sum (on data_type_test _ b ((datum_test b).passes p.ties))

  -- and none on the Fast File System
  fast_none : is_old d ≡ false → data_fault d s k h z n named ≡ 0
  unfolding data_fault
  fast_none o = pick_false (is_old d) _ 0 _ o refl

  -- 7, 8 and 15
  pub data_breaks : (v : ℕ)
      → ((data_fault d s k h (size_of s h) n named ≡ v) × (v ≢ 0)) ↔ ((is_old d ≡ true) × DataBreaks d s k h n named v)
  data_breaks v = ((λ e. go (is_old d) refl e.1 e.0), λ b. old_fault b.0 v b.1)
    where
      go : (t : Bool) → is_old d ≡ t → v ≢ 0 → data_fault d s k h z n named ≡ v
          → (is_old d ≡ true) × DataBreaks d s k h n named v
      go true o y e = (o, old_broken o v y e)
      go false o y e = absurd (y (sym e ∙ fast_none o))

  -- and it passes if and only if it is as the law says, if that asks for words
  pub data_sound : (data_fault d s k h (size_of s h) n named ≡ 0) ↔ (is_old d ≡ true → DataSound d s k h n named)
  data_sound = ((λ e o. old_passed o e), λ f. go (is_old d) refl f)
    where
      go : (t : Bool) → is_old d ≡ t → (is_old d ≡ true → DataSound d s k h n named) → data_fault d s k h z n named ≡ 0
      go true o f = old_passes o (f o)
      go false o f = fast_none o

-- ---- a key

module _ (d : Disk) (k : ℕ) where
  -- 5 is for every other key
  pub key_inside : (in_range d k ≡ true) ↔ Inside d k
  unfolding in_range pick
  key_inside = (
    (λ e. let h = range_is d k e in record { low = h.0; high = h.1 }),
    (λ h. rw (le-ltb k first_key h.low, lt-ltb k d.blocks h.high)),
  )

  pub key_outside : (in_range d k ≡ false) ↔ (Inside d k → ⊥)
  key_outside = ((λ e h. let q : in_range d k ≡ true = key_inside.1 h in impossible cc), λ h. go (in_range d k) refl h)
    where
      go : (b : Bool) → in_range d k ≡ b → (Inside d k → ⊥) → in_range d k ≡ false
      go true q h = absurd (h (key_inside.0 q))
      go false q h = q
