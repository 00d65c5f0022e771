-- The tests of a file's blocks: what each turn and each return of the loops says. Assumes nothing.
use Rattle.std.specs.Prelude.{Result, Ok, Err}
use Prim.Native.Nat.{ℕ, zero, suc, ◌+◌, ◌-◌, ◌≤◌, ◌<◌}
use mathlib.Core.Path.{◌≡◌, refl, sym, ap, ◌∙◌}
use mathlib.Core.Bool.{Bool, true, false}
use mathlib.Core.List.{List, [], ◌∷◌, ◌++◌, append-nil}
use native.Mathlib.Omega.{arith}
use lib.Dec.{eqb}
use lib.ListN.{length}
use borrow.Author.Tests.{eq-eqb, ne_eqb}
use Rattle.answers.specs.Tests.{pick, first, must}
use Rattle.answers.specs.Refusals.{refusal}
use Rattle.answers.specs.declared.Refusal.{Refusal}
use Rattle.answers.proofs.Tests.{first_zero}
use Rattle.answers.proofs.Clashes.{impossible}
use Rattle.answers.specs.Numbers as fault
use Rattle.volume.specs.declared.disk.Disk.{Disk}
use Rattle.volume.specs.Disks.{Sized, in_range, image_bytes}
use Rattle.volume.specs.Blocks.{slots, key_word}
use Rattle.volume.specs.Files.{blocks_of, list_blocks}
use Rattle.volume.specs.Rules.{file_fault}
use Rattle.walk.specs.declared.file.KeyBlock.{KeyBlock}
use Rattle.walk.specs.Nodes.{Node, datum, key_nodes, key_of, key_fault, fault_of}
use Rattle.walk.specs.KeyBlocks.{header_of, next_of, list_node, data_nodes, InFile, KeysReady, NextReady}
use Rattle.walk.proofs.Passes.{key_passed}
use Rattle.walk.proofs.Loops.{nodes, next, Turn, turn_next, turn_again, turn_end, list_ready, ready_image}
use Rattle.reading.specs.FileTests.{node_fault, first_fault, blocks_from, file_nodes, blocks_fault}
use Rattle.reading.specs.Parts.{KeysTested, ListTested}

-- ---- one block

module _ (d : Disk) (s : List ℕ) (n : Node) (b : Bool) (e : b ≡ in_range d (key_of d n)) where
  pub node_out : b ≡ false → fault.bad_key ≡ node_fault d s n
  unfolding first must
  node_out h = rw (sym e ∙ h)

  pub node_in : (f : ℕ) → b ≡ true → f ≡ fault_of d s n → f ≡ node_fault d s n
  unfolding first must
  node_in f h q = rw (sym e ∙ h) q

node_inside : (d : Disk) (s : List ℕ) (n : Node) → node_fault d s n ≡ 0 → key_of d n < d.blocks
node_inside d s n e = (key_passed d (key_of d n) (first_zero (key_fault d (key_of d n)) _ e).0).1

-- ---- blocks one after the other

module _ (d : Disk) (s : List ℕ) (n : Node) (ns : List Node) (f : ℕ) (e : f ≡ node_fault d s n) where
  pub fault_stops : (f ≡ 0 → ⊥) → Err (refusal f (key_of d n)) ≡ first_fault d s (n ∷ ns)
  unfolding first_fault pick
  fault_stops t = rw (← e, ne_eqb f 0 t) refl

  pub fault_goes : f ≡ 0 → first_fault d s (n ∷ ns) ≡ first_fault d s ns
  unfolding first_fault pick
  fault_goes z = rw (← e, eq-eqb f 0 z) refl

-- the tests of two lists of blocks
abbrev pub and : Result Unit Refusal → Result Unit Refusal → Result Unit Refusal
and (Ok _) a = a
and (Err r) a = Err r

module _ (d : Disk) (s : List ℕ) where
  pub fault_append : (xs ys : List Node) → first_fault d s (xs ++ ys) ≡ and (first_fault d s xs) (first_fault d s ys)
  unfolding first_fault pick
  fault_append [] ys = refl
  fault_append (x ∷ xs) ys = go (eqb (node_fault d s x) 0) (fault_append xs ys)
    where
      go : (b : Bool) → first_fault d s (xs ++ ys) ≡ and (first_fault d s xs) (first_fault d s ys)
          → pick b (first_fault d s (xs ++ ys)) (Err (refusal (node_fault d s x) (key_of d x))) ≡ and
          (pick b (first_fault d s xs) (Err (refusal (node_fault d s x) (key_of d x)))) (first_fault d s ys)
      go true e = e
      go false e = refl

-- ---- the data blocks that one block lists

module _ (d : Disk) (s : List ℕ) (b : KeyBlock) where
  pub record KeysInv (count last i : ℕ) : Type 0 where
    pub turn : Turn d s b count last i
    pub tested : first_fault d s (nodes d s b 0 count) ≡ first_fault d s (nodes d s b i (count - i))

  module _ (count last i : ℕ) (v : KeysInv count last i) where
    module _ (k f : ℕ) (h : i < count) (e : k ≡ key_word s b.key i)
        (g : f ≡ node_fault d s (datum k b.header (b.done + i + 1) last)) where
      abbrev found : f ≡ node_fault d s (next d s b i last)
      found = rw e at g

      on : first_fault d s (nodes d s b 0 count) ≡ first_fault d s
          (next d s b i last ∷ nodes d s b (i + 1) (count - (i + 1)))
      on = v.tested ∙ ap (first_fault d s) (turn_next d s b count last i v.turn h)

      pub keys_out : (f ≡ 0 → ⊥) → KeysTested d s b (Err (refusal f k))
      keys_out t =
          record {
            told =
                rw e (fault_stops d s (next d s b i last) _ f found t) ∙ sym on
                ∙ ap (λ (j : ℕ). first_fault d s (nodes d s b 0 j)) v.turn.counted;
            next = λ p. impossible cc;
          }

      pub keys_step : f ≡ 0 → KeysInv count k (i + 1)
      keys_step z =
          record {
            turn =
                turn_again d s b count last i v.turn h k e
                (rw e (node_inside d s (next d s b i last) (sym found ∙ z)));
            tested = on ∙ fault_goes d s (next d s b i last) (nodes d s b (i + 1) (count - (i + 1))) f found z;
          }

    pub keys_end : count ≤ i → KeysTested d s b (Ok tt)
    unfolding key_nodes first_fault
    keys_end h =
        let e : count - i ≡ 0 = omega arith in
        record {
          told = sym (rw v.turn.counted at (rw e at v.tested));
          next = λ p. turn_end d s b count last i v.turn h;
        }

-- ---- a list block and its data blocks

module _ (d : Disk) (s : List ℕ) (b : KeyBlock) (f : ℕ) (g : f ≡ node_fault d s (list_node b)) where
  pub list_stops : (f ≡ 0 → ⊥) → ListTested d s b (Err (refusal f b.key))
  list_stops t =
      record { told = fault_stops d s _ _ f g t; image = λ p. impossible cc; next = λ p. impossible cc }

  module _ (z : f ≡ 0) (i : InFile d s b) where
    pub list_asks : KeysReady d s b
    list_asks =
        let p = sym g ∙ z in
        list_ready d s b i (node_inside d s (list_node b) p) (first_zero (key_fault d b.key) _ p).1

    pub list_goes : (r : Result Unit Refusal) → Sized d → length s ≡ image_bytes d → KeysTested d s b r
        → ListTested d s b r
    list_goes r y l k =
        record {
          told = k.told ∙ sym (fault_goes d s (list_node b) _ f g z);
          image = λ p. ready_image d s b list_asks y l;
          next = k.next;
        }

-- ---- a file

module _ (d : Disk) (s : List ℕ) where
  -- q list blocks from block b on, and what they list
  abbrev lists : KeyBlock → ℕ → List Node
  lists b zero = []
  lists b (suc q) = list_node b ∷ blocks_from d s b.header b.key b.done b.last q

  keys_then : (b : KeyBlock) (q : ℕ)
      → blocks_from d s b.header b.key b.done b.last q ≡ data_nodes d s b ++ lists (next_of s b) q
  unfolding blocks_from
  keys_then b zero = sym (append-nil _)
  keys_then b (suc q) = refl

  -- all of them: as many as the keys from there on need
  abbrev left : KeyBlock → List Node
  left b = lists b (list_blocks (blocks_of d s b.header - b.done + slots))

  module _ (b : KeyBlock) where
    abbrev blocks : ℕ
    blocks = blocks_of d s b.header

    -- a block's data blocks, and then the list blocks after it
    keys_part_lem : (t : Result Unit Refusal) → KeysTested d s b t
        → first_fault d s (blocks_from d s b.header b.key b.done b.last (list_blocks (blocks - b.done)))
        ≡ and t (first_fault d s (left (next_of s b)))
    keys_part_lem t k =
        let e : list_blocks (blocks - b.done) ≡ list_blocks (blocks - (b.done + slots) + slots) = omega arith in
        ap (first_fault d s) (keys_then b (list_blocks (blocks - b.done))) ∙ fault_append d s (data_nodes d s b) _
        ∙ ap (λ (x : Result Unit Refusal). and x
        (first_fault d s (lists (next_of s b) (list_blocks (blocks - b.done)))))
        (sym k.told)
        ∙ ap (λ (q : ℕ). and t (first_fault d s (lists (next_of s b) q))) e

    list_part : (t : Result Unit Refusal) → ListTested d s b t → b.done < blocks
        → first_fault d s (left b) ≡ and t (first_fault d s (left (next_of s b)))
    list_part t k l =
        let e : list_blocks (blocks - b.done + slots) ≡ suc (list_blocks (blocks - (b.done + slots) + slots)) =
        omega arith in
        ap (λ (q : ℕ). first_fault d s (lists b q)) e
        ∙ ap (λ (x : List Node). first_fault d s (list_node b ∷ x)) (keys_then b _)
        ∙ fault_append d s (list_node b ∷ data_nodes d s b) _
        ∙ ap (λ (x : Result Unit Refusal). and x (first_fault d s (left (next_of s b)))) (sym k.told)

  pub record BlocksInv (h : ℕ) (b : KeyBlock) : Type 0 where
    pub next : NextReady d s b
    pub tested : first_fault d s (file_nodes d s h) ≡ first_fault d s (left b)

  module _ (h : ℕ) where
    module _ (b : KeyBlock) (g : b ≡ header_of s h) (t : Result Unit Refusal) (k : KeysTested d s b t) where
      first_part : first_fault d s (file_nodes d s h) ≡ and t (first_fault d s (left (next_of s (header_of s h))))
      first_part =
          let n : blocks_of d s h ≡ blocks_of d s h - 0 = omega arith in
          ap (λ (j : ℕ). first_fault d s (blocks_from d s h h 0 h (list_blocks j))) n
          ∙ keys_part_lem (header_of s h) t (rw g at k)

      pub blocks_first : (x : Refusal) → t ≡ Err x → Err x ≡ first_fault d s (file_nodes d s h)
      blocks_first x q = sym (first_part ∙ rw q refl)

      pub blocks_start : (b₀ : KeyBlock) → t ≡ Ok tt → b₀ ≡ next_of s b → BlocksInv h b₀
      blocks_start b₀ q e = rw e record { next = k.next q; tested = rw g (first_part ∙ rw q refl) }

    module _ (b : KeyBlock) (v : BlocksInv h b) where
      pub blocks_end : b.key ≡ 0 → Ok tt ≡ first_fault d s (file_nodes d s h)
      unfolding first_fault
      blocks_end z =
          let l = v.next.ends z in
          let q : list_blocks (blocks_of d s b.header - b.done + slots) ≡ 0 = omega arith in
          sym (rw q at v.tested)

      module _ (t : b.key ≡ 0 → ⊥) where
        module _ (u : Result Unit Refusal) (w : ListTested d s b u) where
          next_part : first_fault d s (file_nodes d s h) ≡ and u (first_fault d s (left (next_of s b)))
          next_part = v.tested ∙ list_part b u w (v.next.left t)

          pub blocks_out : (x : Refusal) → u ≡ Err x → Err x ≡ first_fault d s (file_nodes d s h)
          blocks_out x q = sym (next_part ∙ rw q refl)

          pub blocks_again : (b' : KeyBlock) → u ≡ Ok tt → b' ≡ next_of s b → BlocksInv h b'
          blocks_again b' q e = rw e record { next = w.next q; tested = next_part ∙ rw q refl }

-- ---- the header's own tests first

module _ (d : Disk) (s : List ℕ) (h f : ℕ) (e : f ≡ file_fault d s h) where
  pub header_stops : (f ≡ 0 → ⊥) → Err (refusal f h) ≡ blocks_fault d s h
  unfolding blocks_fault pick
  header_stops t = rw (← e, ne_eqb f 0 t) refl

  pub header_goes : (r : Result Unit Refusal) → f ≡ 0 → r ≡ first_fault d s (file_nodes d s h) → r ≡ blocks_fault d s h
  unfolding blocks_fault pick
  header_goes r z q = q ∙ rw (← e, eq-eqb f 0 z) refl
