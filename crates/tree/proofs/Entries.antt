-- The root, an entry and a file carried over to an image in which their blocks are alike, but for links. Assumes
-- nothing.
use Prim.Native.Nat.{ℕ, zero, suc, ◌+◌, ◌-◌, ◌≤◌, ◌<◌}
use mathlib.Core.Path.{◌≡◌, refl, sym, ap, ◌∙◌, subst}
use mathlib.Core.Logic.{◌≢◌, ◌⊎◌, inl, inr, ◌↔◌}
use mathlib.Core.Bool.{false}
use mathlib.Core.List.{List, [], ◌∷◌, map}
use native.Mathlib.Omega.{arith}
use native.Mathlib.Decide.{dec_lt}
use Rattle.answers.specs.Tests.{pick}
use Rattle.answers.proofs.Clashes.{impossible}
use Rattle.reach.specs.References.{◌∈◌, Reached, ref}
use Rattle.reach.proofs.Lists.{in_left, in_right, in_at, in_map}
use Rattle.volume.specs.declared.disk.Disk.{Disk}
use Rattle.volume.specs.Blocks.{slots, Holds, word_of, key_word, directory, directory_kind, file_kind}
use Rattle.volume.specs.Names.{name_of}
use Rattle.volume.specs.Files.{data_blocks, keys_here, keys_down, list_blocks, size_of, blocks_of}
use Rattle.volume.specs.References.{Kind, Ref, to, link, key_refs, slot_refs, refers_to, references}
use Rattle.volume.specs.Law.{Entry, KeyCount, ListBlock, DataBlock, File, Root}
use Rattle.walk.specs.Nodes.{before}
use Rattle.walk.proofs.Spreads.{Run, Spread, file_spreads}
use Rattle.writes.specs.Alike.{Alike, SameBlock}
use Rattle.writes.proofs.Alike.{alike_word, alike_name, alike_good, good_short}
use Rattle.tree.specs.Links.{Slot, Links, RootLinks}
use Rattle.tree.proofs.Refers.{keys_alike, same_word}

-- ---- which words link

pub no_link : (s : List ℕ) (k j : ℕ) → j ≢ 5 → j ≢ 124 → (Slot j → ⊥) → ¬ (Links s k j)
no_link s k j a b c (inl e) = a e
no_link s k j a b c (inr (inl e)) = b e
no_link s k j a b c (inr (inr e)) = c e.1

-- in a file header no slot
pub no_file_link : (s : List ℕ) (k j : ℕ) → directory s k ≡ false → j ≢ 5 → j ≢ 124 → ¬ (Links s k j)
no_file_link s k j f a b (inl e) = a e
no_file_link s k j f a b (inr (inl e)) = b e
no_file_link s k j f a b (inr (inr e)) = let g = sym f ∙ e.0 in impossible cc

pub no_root_link : (j : ℕ) → j ≢ 5 → j ≢ 78 → (Slot j → ⊥) → ¬ (RootLinks j)
no_root_link j a b c (inl e) = a e
no_root_link j a b c (inr (inl e)) = b e
no_root_link j a b c (inr (inr e)) = c e

-- ---- the root

module _ (s t : List ℕ) (r : ℕ) (inside : Holds s r) (inside' : Holds t r) (a : Alike RootLinks s t r) where
  root_word : (j : ℕ) → j < 128 → j ≢ 5 → j ≢ 78 → (Slot j → ⊥) → word_of t r j ≡ word_of s r j
  root_word j l p q f = alike_word RootLinks s t r a j l (no_root_link j p q f)

  pub root_carried : Root s r → Root t r
  root_carried c =
      record {
        kind =
            record {
              type = low 0 (omega arith) ∙ c.kind.type;
              kind = high 127 (omega arith) (omega arith) ∙ c.kind.kind;
            };
        fixed = record { zeros = zeros'; table = low 3 (omega arith) ∙ c.fixed.table };
        name =
            alike_good RootLinks s t r a inside inside'
            (λ j p q. no_root_link j (omega arith) (omega arith) (λ z. omega (arith, z.1))) ∙ c.name;
        rest =
            λ i p q. root_word i (omega arith) (omega arith) (omega arith) (λ z. omega (arith, z.1)) ∙ c.rest i p q;
      }
    where
      low : (i : ℕ) → i < 5 → word_of t r i ≡ word_of s r i
      low i l = root_word i (omega arith) (omega arith) (omega arith) (λ z. omega (arith, z.0))

      high : (i : ℕ) → 78 < i → i < 128 → word_of t r i ≡ word_of s r i
      high i l m = root_word i m (omega arith) (omega arith) (λ z. omega (arith, z.1))

      same : (i : ℕ) → i ∈ (1 ∷ 2 ∷ 4 ∷ 124 ∷ 125 ∷ 126 ∷ []) → word_of t r i ≡ word_of s r i
      same i (inl e) = low i (omega arith)
      same i (inr (inl e)) = low i (omega arith)
      same i (inr (inr (inl e))) = low i (omega arith)
      same i (inr (inr (inr (inl e)))) = high i (omega arith) (omega arith)
      same i (inr (inr (inr (inr (inl e))))) = high i (omega arith) (omega arith)
      same i (inr (inr (inr (inr (inr (inl e)))))) = high i (omega arith) (omega arith)
      same i (inr (inr (inr (inr (inr (inr e)))))) = absurd e

      zeros' : (i : ℕ) → i ∈ (1 ∷ 2 ∷ 4 ∷ 124 ∷ 125 ∷ 126 ∷ []) → word_of t r i ≡ 0
      zeros' i m = same i m ∙ c.fixed.zeros i m

-- ---- an entry

module _ (s t : List ℕ) (k : ℕ) (a : Alike (Links s k) s t k) where
  pub entry_word : (j : ℕ) → j < 128 → j ≢ 5 → j ≢ 124 → (Slot j → ⊥) → word_of t k j ≡ word_of s k j
  entry_word j l p q f = alike_word (Links s k) s t k a j l (no_link s k j p q f)

  pub kind_carried : directory t k ≡ directory s k
  kind_carried = rw (entry_word 127 (omega arith) (omega arith) (omega arith) (λ z. omega (arith, z.1))) refl

  module _ (inside : Holds s k) (inside' : Holds t k) where
    name_free : (j : ℕ) → 108 ≤ j → j ≤ 115 → ¬ (Links s k j)
    name_free j p q = no_link s k j (omega arith) (omega arith) (λ z. omega (arith, z.1))

    pub entry_carried : Entry s k → Entry t k
    entry_carried e =
        record {
          kind =
              record {
                type =
                    entry_word 0 (omega arith) (omega arith) (omega arith) (λ z. omega (arith, z.0)) ∙ e.kind.type;
                kind =
                    subst (λ x. (x ≡ directory_kind) ⊎ (x ≡ file_kind))
                    (sym (entry_word 127 (omega arith) (omega arith) (omega arith) (λ z. omega (arith, z.1))))
                    e.kind.kind;
              };
          own = entry_word 1 (omega arith) (omega arith) (omega arith) (λ z. omega (arith, z.0)) ∙ e.own;
          name = alike_good (Links s k) s t k a inside inside' name_free ∙ e.name;
        }

    pub name_carried : Entry s k → name_of t k ≡ name_of s k
    name_carried e = alike_name (Links s k) s t k a inside inside' name_free (good_short s k e.name)

-- ---- a file

-- what a block that lists keys must have alike: all words but its sum and its chain link
abbrev pub SameList : List ℕ → List ℕ → ℕ → Type 0
SameList s t b = (j : ℕ) → j < 128 → j ≢ 5 → j ≢ 124 → word_of t b j ≡ word_of s b j

module _ (d : Disk) (s t : List ℕ)
    (lists : (k : ℕ) → Reached (references d t) (to Kind.list k) → SameBlock s t k)
    (datums : (k : ℕ) → Reached (references d t) (to Kind.datum k) → SameBlock s t k) where
  abbrev B : Ref → Type 0
  B r = Reached (references d t) r

  refers : (r y : Ref) → B r → y ∈ refers_to t r.kind r.key → B y
  refers r y h a = let w = in_at y (refers_to t r.kind r.key) a in ref w.0 h w.1

  abbrev Listed : ℕ → Type 0
  Listed b = (y : Ref) → y ∈ key_refs t b → B y

  link_in : (a : Kind) (k : ℕ) → k ≢ 0 → to a k ∈ link a k
  link_in a zero h = absurd (h refl)
  link_in a (suc k) h = inl refl

  list_listed : (k : ℕ) → B (to Kind.list k) → Listed k
  unfolding refers_to
  list_listed k h y a = refers (to Kind.list k) y h a

  module _ (h : ℕ) (z : size_of t h ≡ size_of s h) where
    lists_carried : (b n : ℕ) → SameList s t b → KeyCount s b n → KeyCount t b n
    lists_carried b n e l =
        record {
          count = e 2 (omega arith) (omega arith) (omega arith) ∙ l.count;
          more = subst (λ x. (x ≡ 0) ↔ (n ≤ slots)) (sym (e 126 (omega arith) (omega arith) (omega arith))) l.more;
        }

    list_carried : (b : ℕ) → SameBlock s t b → ListBlock s h b → ListBlock t h b
    list_carried b a l =
        record {
          kind =
              record {
                type = same_word s t b a 0 (omega arith) ∙ l.kind.type;
                kind = same_word s t b a 127 (omega arith) ∙ l.kind.kind;
              };
          own = same_word s t b a 1 (omega arith) ∙ l.own;
          parent = same_word s t b a 125 (omega arith) ∙ l.parent;
        }

    data_carried : (n k : ℕ) → SameBlock s t k → DataBlock d s h n k → DataBlock d t h n k
    data_carried n k a b =
        record {
          type = same_word s t k a 0 (omega arith) ∙ b.type;
          parent = same_word s t k a 1 (omega arith) ∙ b.parent;
          number = same_word s t k a 2 (omega arith) ∙ b.number;
          held = rw z (same_word s t k a 3 (omega arith) ∙ b.held);
        }

    run_carried : (m c : ℕ) (ks : List ℕ) → word_of t c 4 ≡ word_of s c 4 → ((k : ℕ) → k ∈ ks → SameBlock s t k)
        → Run d s h m c ks → Run d t h m c ks
    run_carried m c [] e f r = tt
    run_carried m c (k ∷ ks) e f r =
        let a = f k (inl refl) in
        let w = same_word s t k a 4 (omega arith) in (
          λ o. record {
            block = data_carried (suc m) k a (r.0 o).block;
            here = e ∙ (r.0 o).here;
            last = λ q. w ∙ (r.0 o).last (rw z at q);
          },
          run_carried (suc m) k ks w (λ x i. f x (inr i)) r.1,
        )

    -- the data blocks of one block that lists keys
    module _ (b n : ℕ) (e : SameList s t b) (l : KeyCount s b n) (f : Listed b) where
      few : keys_here n ≤ slots
      few = omega arith

      keys_carried : keys_down t b 0 (keys_here n) ≡ keys_down s b 0 (keys_here n)
      keys_carried =
          keys_alike s t b 0 (keys_here n) (λ j p q. e (77 - j) (omega arith) (omega (arith, few)) (omega arith))

      count_is : word_of t b 2 ≡ keys_here n
      count_is = (lists_carried b n e l).count

      key_reached : (k : ℕ) → k ∈ keys_down s b 0 (keys_here n) → B (to Kind.datum k)
      key_reached k a =
          f (to Kind.datum k) (in_left _ (map (to Kind.datum) (keys_down t b 0 (word_of t b 2)))
          (link Kind.list (word_of t b 126))
          (in_map (to Kind.datum) k (keys_down t b 0 (word_of t b 2)) (rw (count_is, keys_carried) a)))

      next_reached : word_of t b 126 ≢ 0 → B (to Kind.list (word_of t b 126))
      next_reached w =
          f _ (in_right _ (map (to Kind.datum) (keys_down t b 0 (word_of t b 2))) (link Kind.list (word_of t b 126))
          (link_in Kind.list _ w))

    -- the last data block before the next list block
    last_carried : (b c n : ℕ) → n ≤ slots → SameList s t b → ((k : ℕ) → k ∈ keys_down s b 0 n → SameBlock s t k)
        → word_of t c 4 ≡ word_of s c 4
        → (before t b c n ≡ before s b c n) × (word_of t (before s b c n) 4 ≡ word_of s (before s b c n) 4)
    unfolding keys_down
    last_carried b c zero l e f q = (refl, q)
    last_carried b c (suc n) l e f q = (
      e (77 - n) (omega arith) (omega arith) (omega arith),
      same_word s t (key_word s b n)
          (f (key_word s b n) (down 0 (suc n) n (omega arith) (omega arith))) 4 (omega arith),
    )
      where
        down : (i m j : ℕ) → i ≤ j → j < i + m → key_word s b j ∈ keys_down s b i m
        down i zero j p q = absurd (omega arith)
        down i (suc m) j p q = go (dec_lt i j) (down (suc i) m j)
          where
            go : Dec (i < j) → (suc i ≤ j → j < suc i + m → key_word s b j ∈ keys_down s b (suc i) m)
                → key_word s b j ∈ (key_word s b i ∷ keys_down s b (suc i) m)
            go (yes g) later = inr (later g (omega arith))
            go (no g) later = let x : j ≡ i = omega arith in inl (ap (key_word s b) x)

    spread_carried : (q b m c : ℕ) → q ≡ list_blocks (blocks_of d s h - m) → SameList s t b
        → word_of t c 4 ≡ word_of s c 4
        → Listed b → Spread d s h q b m c → Spread d t h q b m c
    spread_carried zero b m c e a w f p =
        let n = blocks_of d s h - m in
        let r =
        run_carried m c (keys_down s b 0 (keys_here n)) w (λ k i. datums k (key_reached b n a p.0 f k i)) p.1 in
        rw (z, keys_carried b n a p.0 f) (lists_carried b n a p.0, r)
    spread_carried (suc q) b m c e a w f p =
        let n = blocks_of d s h - m in
        let r =
        run_carried m c (keys_down s b 0 (keys_here n)) w (λ k i. datums k (key_reached b n a p.0 f k i)) p.1 in
        let x : word_of t b 126 ≡ word_of s b 126 = a 126 (omega arith) (omega arith) (omega arith) in
        let y = next_reached b n a p.0 f (λ g. omega (arith, e, p.0.more.0 (sym x ∙ g))) in
        let u = lists (word_of t b 126) y in
        let u' : SameBlock s t (word_of s b 126) = rw x at u in
        let v = last_carried b c (keys_here n) (omega arith) a (λ k i. datums k (key_reached b n a p.0 f k i)) w in
        let ih =
        spread_carried q (word_of s b 126) (m + keys_here n) (before s b c (keys_here n)) (omega (arith, e))
        (λ j l _ _. same_word s t (word_of s b 126) u' j l) v.1 (rw x at (list_listed (word_of t b 126) y)) p.3 in
        rw (z, keys_carried b n a p.0 f, x, v.0)
        (lists_carried b n a p.0, r, list_carried (word_of s b 126) u' p.2, ih)

    -- the whole file: its header is alike but for its links
    module _ (reached : B (to Kind.entry h)) (a : Alike (Links s h) s t h) (e : directory s h ≡ false) where
      header_word_lem : SameList s t h
      header_word_lem j l p q = alike_word (Links s h) s t h a j l (no_file_link s h j e p q)

      header_listed : Listed h
      unfolding refers_to pick
      header_listed y i =
          let k : directory t h ≡ false = kind_carried s t h a ∙ e in
          refers (to Kind.entry h) y reached
          (in_left y (pick (directory t h) (slot_refs t h 0 slots) (key_refs t h)) (link Kind.entry (word_of t h 124))
          (rw k i))

      pub file_carried : File d s h → File d t h
      file_carried f =
          let p = (file_spreads d s h).0 f in
          let w = header_word_lem 4 (omega arith) (omega arith) (omega arith) in
          let n : blocks_of d s h - 0 ≡ blocks_of d s h = omega arith in
          let g =
          spread_carried (list_blocks (blocks_of d s h)) h 0 h (ap list_blocks (sym n)) header_word_lem w header_listed
          p.2 in
          (file_spreads d t h).1 (
            rw z p.0,
            (λ o q. w ∙ p.1 o (rw z at q)),
            subst
                (λ x. Spread d t h (list_blocks (data_blocks d x)) h 0 h) (sym z) g,
          )
