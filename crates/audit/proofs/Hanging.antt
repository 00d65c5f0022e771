-- The walk through a directory: entries, chains and slots. Assumes nothing.
use Rattle.std.specs.Prelude.{Option, Some, None, Result, Ok, Err}
use Rattle.answers.proofs.Clashes.{impossible}
use Prim.Native.Nat.{ℕ, zero, suc, ◌+◌, ◌-◌, ◌*◌, ◌≤◌, ◌<◌}
use mathlib.Core.Path.{◌≡◌, refl, sym, ◌∙◌}
use mathlib.Core.Bool.{Bool, true, false}
use mathlib.Core.List.{List, [], ◌∷◌, ◌++◌, append-nil}
use native.Mathlib.Omega.{arith}
use Rattle.std.specs.Option.{MatchOption}
use native.Mathlib.Nat.{le_refl}
use native.Mathlib.Numerals.{add-one}
use native.Mathlib.Decide.{dec_lt}
use lib.ListN.{length}
use Rattle.answers.specs.Numbers as fault
use Rattle.answers.specs.declared.Refusal.{Refusal}
use Rattle.answers.specs.Tests.{pick, never, first}
use Rattle.answers.proofs.Tests.{first_zero}
use Rattle.reach.specs.Walk.{free}
use Rattle.volume.specs.declared.disk.Disk.{Disk}
use Rattle.volume.specs.Disks.{first_key, most_blocks, image_bytes}
use Rattle.volume.specs.Blocks.{slots, Holds, word_of, slot_word, directory}
use Rattle.volume.specs.Names.{name_of, name_length, longest, same}
use Rattle.volume.specs.Law.{after, chain_key}
use Rattle.volume.specs.Rules.{entry_fault, file_fault}
use Rattle.volume.proofs.Names.{name_short}
use Rattle.volume.proofs.Passes.{entry_passed}
use Rattle.walk.specs.declared.Counts.{Counts}
use Rattle.walk.specs.Nodes.{Node, entry, chained, slot_nodes, contents, leads_to, noted, with_entry, twin, hangs_fault}
use Rattle.walk.specs.Nodes.{fault_of}
use Rattle.audit.specs.Walks.{Met, Walks, Ready, Known, Chain, EntryWalked, EmptyUpto, UsedSlot}
use Rattle.audit.proofs.Walking.{not_both, walks_none, walks_stopped, walks_then, walks_part, met_free}
use Rattle.audit.proofs.Walking.{met_range, met_passed, met_stops, met_goes, ready_met, ready_walked}

-- ---- names on a chain

pub known_holds : (d : Disk) (s : List ℕ) (k : ℕ) → length s ≡ image_bytes d → Known d s k → Holds s k
known_holds d s k l h = omega (arith, h.high)

-- the key after an entry
pub chain_next : (d : Disk) (s : List ℕ) (head i e : ℕ) → Known d s e → e ≡ chain_key s head i
    → word_of s e 124 ≡ chain_key s head (i + 1)
unfolding chain_key after
chain_next d s head i e k h = rw (add-one i, ← h) (go e k.low)
  where
    go : (e : ℕ) → first_key ≤ e → word_of s e 124 ≡ after s e
    go zero l = absurd (omega arith)
    go (suc e) l = refl

module _ (d : Disk) (s : List ℕ) (k head : ℕ) where
  pub twin_found : (i p : ℕ) → same d (name_of s (chain_key s head i)) (name_of s k) ≡ true → i < p
      → true ≡ twin d s k head p
  unfolding twin pick
  twin_found i zero e l = absurd (omega arith)
  twin_found i (suc p) e l = go (dec_lt i p) (twin_found i p e)
    where
      either : (b x : Bool) → true ≡ x → true ≡ pick b true x
      either true x h = refl
      either false x h = h

      go : Dec (i < p) → (i < p → true ≡ twin d s k head p)
          → true ≡ pick (same d (name_of s (chain_key s head p)) (name_of s k)) true (twin d s k head p)
      go (yes q) f = either (same d (name_of s (chain_key s head p)) (name_of s k)) (twin d s k head p) (f q)
      go (no q) f = let w : p ≡ i = omega arith in rw (w, e)

  pub twin_step : (i : ℕ) → same d (name_of s (chain_key s head i)) (name_of s k) ≡ false → twin d s k head i ≡ false
      → twin d s k head (i + 1) ≡ false
  unfolding twin pick
  twin_step i e t = rw (add-one i, e) t

  pub record TwinInv (position e i : ℕ) : Type 0 where
    pub upto : i ≤ position
    pub here : e ≡ chain_key s head i
    pub none : twin d s k head i ≡ false

  pub twin_start : (position : ℕ) → TwinInv position head 0
  unfolding twin chain_key
  twin_start position = record { upto = omega arith; here = refl; none = refl }

  module _ (position e i : ℕ) (v : TwinInv position e i) (l : i < position)
      (earlier : (q : ℕ) → q < position → Known d s (chain_key s head q)) where
    twin_known : Known d s e
    twin_known = rw v.here (earlier i l)

    pub twin_holds : length s ≡ image_bytes d → Holds s e
    twin_holds h = known_holds d s e h twin_known

    pub twin_short : name_length s e ≤ longest
    twin_short = twin_known.short

    pub twin_yes : (b : Bool) → b ≡ same d (name_of s e) (name_of s k) → b ≡ true → true ≡ twin d s k head position
    twin_yes b q t = twin_found i position (rw v.here at (sym q ∙ t)) l

    pub twin_again : (b : Bool) (e' : ℕ) → b ≡ same d (name_of s e) (name_of s k) → b ≡ false → e' ≡ word_of s e 124
        → TwinInv position e' (i + 1)
    twin_again b e' q t f =
        record {
          upto = omega arith;
          here = f ∙ chain_next d s head i e twin_known v.here;
          none = twin_step i (rw v.here at (sym q ∙ t)) v.none;
        }

  pub twin_no : (position e i : ℕ) → TwinInv position e i → position ≤ i → false ≡ twin d s k head position
  twin_no position e i v l = let w : position ≡ i = omega (arith, v.upto) in rw w (sym v.none)

-- the entries before a position, by the chain's head
pub earlier_known : (d : Disk) (s : List ℕ) (t i p head : ℕ) → Chain d s t i p → head ≡ slot_word s t i → (q : ℕ)
    → q < p → Known d s (chain_key s head q)
earlier_known d s t i p head h e q l = rw e (h.earlier q l)

-- ---- the tests of an entry

module _ (d : Disk) (s : List ℕ) (k t i p : ℕ) (f : ℕ) (e : f ≡ entry_fault d s k t i) where
  pub hangs_own : (f ≡ 0 → ⊥) → f ≡ hangs_fault d s k t i p
  unfolding hangs_fault first
  hangs_own h = go (entry_fault d s k t i) e
    where
      go : (a : ℕ) → f ≡ a
          → f ≡ first a (first (never (twin d s k (slot_word s t i) p) fault.double_name)
          (pick (directory s k) 0 (file_fault d s k)))
      go zero e = absurd (h e)
      go (suc a) e = e

  module _ (z : f ≡ 0) where
    pub entry_known : first_key ≤ k → k < d.blocks → Known d s k
    entry_known l h =
        record {
          low = l;
          high = h;
          short = name_short s k true (sym (entry_passed d s k t i (sym e ∙ z)).entry.name) refl;
        }

    module _ (head : ℕ) (w : head ≡ slot_word s t i) (b : Bool) (q : b ≡ twin d s k head p) where
      pub hangs_twin : b ≡ true → fault.double_name ≡ hangs_fault d s k t i p
      unfolding hangs_fault first never
      hangs_twin h = rw (sym e ∙ z, ← w, sym q ∙ h)

      module _ (y : b ≡ false) (c : Bool) (g : c ≡ directory s k) where
        pub hangs_directory : c ≡ true → 0 ≡ hangs_fault d s k t i p
        unfolding hangs_fault first never pick
        hangs_directory h = rw (sym e ∙ z, ← w, sym q ∙ y, sym g ∙ h)

        pub hangs_file : (r : ℕ) → c ≡ false → r ≡ file_fault d s k → r ≡ hangs_fault d s k t i p
        unfolding hangs_fault first never pick
        hangs_file r h x = rw (sym e ∙ z, ← w, sym q ∙ y, sym g ∙ h) x

-- ---- an entry

module _ (d : Disk) (s : List ℕ) (k t i p : ℕ) (cl cl₁ : List ℕ) (f : Result Unit Refusal)
    (m : Met d s (entry k t i p) cl f cl₁) where
  pub entry_stops : (n : Counts) (cl'' : List ℕ) (x : Refusal) → f ≡ Err x
      → EntryWalked d s k t i p n cl (Err x) cl''
  entry_stops n cl'' x h =
      record {
        walks = met_stops d s (entry k t i p) cl cl₁ f m _ n cl'' x h;
        known = λ c q. not_both x c q;
        holds = λ c q. not_both x c q;
        less = λ c q. not_both x c q;
      }

  module _ {u : Unit {0}} (z : f ≡ Ok u) where
    tested : hangs_fault d s k t i p ≡ 0
    unfolding fault_of
    tested = met_passed d s (entry k t i p) cl cl₁ f m z

    pub met_known : Known d s k
    unfolding hangs_fault
    met_known =
        let r = met_range d s (entry k t i p) cl cl₁ f m z in
        entry_known d s k t i p (entry_fault d s k t i) refl (first_zero (entry_fault d s k t i) _ tested).0 r.0
        r.1

    pub met_high : k < d.blocks
    met_high = met_known.high

    -- a file's own tests are passed
    pub met_file : (b : Bool) → b ≡ directory s k → b ≡ false → file_fault d s k ≡ 0
    unfolding hangs_fault pick
    met_file b g h =
        let r =
        (first_zero (never (twin d s k (slot_word s t i) p) fault.double_name) _
        (first_zero (entry_fault d s k t i) _ tested).1).1 in
        rw (sym g ∙ h) at r

    entry_claims : free cl ≡ suc (free cl₁)
    entry_claims = met_free d s (entry k t i p) cl cl₁ f m z

    -- the measure of the walk of what is in it lies below its own
    pub entry_falls : (a : ℕ) → 2 * free cl ≡ a → 2 * free cl₁ + 1 < a
    entry_falls a e = omega (arith, entry_claims)

    pub met_holds : (n : Counts) → Ready d s cl n → Holds s k
    met_holds n r = known_holds d s k r.image met_known

    module _ (n c : Counts) (x b : Bool) (g : x ≡ directory s k) (y : x ≡ b) (q : c ≡ with_entry b n) where
      abbrev kind : b ≡ directory s k
      kind = sym y ∙ g

      pub entry_ready : Ready d s cl n → length cl₁ ≡ length cl → Ready d s cl₁ c
      unfolding noted
      entry_ready r l = ready_met d s (entry k t i p) n cl cl₁ f r m z l c (q ∙ rw kind refl)

      pub entry_goes : (r : Result Counts Refusal) (cl₂ : List ℕ) → length s ≡ image_bytes d
          → Walks d s (contents d s k b) [] c cl₁ r cl₂ → EntryWalked d s k t i p n cl r cl₂
      unfolding noted leads_to
      entry_goes r cl₂ l w =
          record {
            walks =
                rw (add-one p) (met_goes d s (entry k t i p) cl cl₁ f m _ n cl₂ r z
                (rw (← kind, ← q) (walks_part d s _ [] (chained (word_of s k 124) t i (suc p)) c cl₁ cl₂ r w)));
            known = λ x e. met_known;
            holds = λ x e. known_holds d s k l met_known;
            less = λ x e. omega (arith, w.less x e, entry_claims);
          }

-- ---- a chain

module _ (d : Disk) (s : List ℕ) (t i : ℕ) where
  abbrev chain_from : ℕ → ℕ → List Node
  chain_from k p = chained k t i p

  pub record ChainInv (n₀ : Counts) (cl₀ cl : List ℕ) (n : Counts) (k p : ℕ) : Type 0 where
    pub ready : Ready d s cl n
    pub long : length cl ≡ length cl₀
    pub chain : Chain d s t i p
    pub here : k ≡ chain_key s (slot_word s t i) p
    -- the position on a chain stays small: each entry before it has claimed a block
    pub few : p + free cl ≤ free cl₀
    pub most : free cl₀ ≤ most_blocks
    pub walked : Walks d s (chain_from (slot_word s t i) 0) (chain_from k p) n₀ cl₀ (Ok n) cl

  pub chain_start : (cl : List ℕ) (n : Counts) (k : ℕ) → Ready d s cl n → t < d.blocks → i < slots
      → k ≡ slot_word s t i → ChainInv n cl cl n k 0
  unfolding chain_key
  chain_start cl n k r l h e =
      record {
        ready = r;
        long = refl;
        chain = record { inside = l; slot = h; earlier = λ q x. absurd (omega arith) };
        here = e;
        few = omega arith;
        most = omega (arith, r.room, r.sized.most);
        walked = rw e (walks_none d s (chain_from (slot_word s t i) 0) n cl);
      }

  module _ (n₀ : Counts) (cl₀ cl : List ℕ) (n : Counts) (k p : ℕ) (v : ChainInv n₀ cl₀ cl n k p) where
    module _ (w : Result Counts Refusal) (cl' : List ℕ) (h : k ≡ 0 → ⊥) (u : EntryWalked d s k t i p n cl w cl') where
      chain_on : Walks d s (chain_from (slot_word s t i) 0) (chain_from (word_of s k 124) (p + 1)) n₀ cl₀ w cl'
      chain_on =
          rw (append-nil _) at (walks_then d s _ _ (entry k t i p ∷ []) _ [] n₀ n cl₀ cl cl' (Ok n) w v.walked
          refl (is_link k h) u.walks)
        where
          is_link : (k : ℕ) → (k ≡ 0 → ⊥) → chain_from k p ≡ (entry k t i p ∷ []) ++ []
          is_link zero h = absurd (h refl)
          is_link (suc k) h = refl

      pub chain_out : (x : Refusal) → w ≡ Err x → Walks d s (chain_from (slot_word s t i) 0) [] n₀ cl₀ (Err x) cl'
      chain_out x e = rw e at (walks_stopped d s _ _ [] n₀ cl₀ cl' w x chain_on e)

      pub chain_again : (c : Counts) (k' : ℕ) → w ≡ Ok c → length cl' ≡ length cl → k' ≡ word_of s k 124
          → ChainInv n₀ cl₀ cl' c k' (p + 1)
      chain_again c k' e l f =
          record {
            ready = ready_walked d s _ _ n c cl cl' w v.ready u.walks e l;
            long = l ∙ v.long;
            chain = record { inside = v.chain.inside; slot = v.chain.slot; earlier = earlier };
            here = f ∙ chain_next d s (slot_word s t i) p k (u.known c e) v.here;
            few = omega (arith, v.few, u.less c e);
            most = v.most;
            walked = rw f (rw e at chain_on);
          }
        where
          earlier : (q : ℕ) → q < p + 1 → Known d s (chain_key s (slot_word s t i) q)
          earlier q x = go (dec_lt q p)
            where
              go : Dec (q < p) → Known d s (chain_key s (slot_word s t i) q)
              go (yes y) = v.chain.earlier q y
              go (no y) = let g : q ≡ p = omega arith in rw (g, ← v.here) (u.known c e)

    pub chain_end : k ≡ 0 → Walks d s (chain_from (slot_word s t i) 0) [] n₀ cl₀ (Ok n) cl
    chain_end z = rw z at v.walked

-- ---- the slots of a directory

-- empty ones
module _ (s : List ℕ) (t i : ℕ) where
  empty_none : i ≤ slots → EmptyUpto s t i i
  empty_none h = record { from = le_refl i; upto = h; empty = refl }

  empty_more : (j : ℕ) → EmptyUpto s t i j → j < slots → slot_word s t j ≡ 0 → EmptyUpto s t i (suc j)
  unfolding slot_nodes
  empty_more j u h z =
      record {
        from = omega (arith, u.from);
        upto = omega arith;
        empty = let g : slots - j ≡ suc (slots - suc j) = omega arith in u.empty ∙ rw (g, z) refl;
      }

  pub empty_upto : (j : ℕ) → i ≤ j → j ≤ slots → ((k : ℕ) → i ≤ k → k < j → slot_word s t k ≡ 0) → EmptyUpto s t i j
  empty_upto zero l h f = let e : i ≡ 0 = omega arith in rw (← e) (empty_none (omega arith))
  empty_upto (suc j) l h f =
      go (dec_lt j i) (λ q. empty_upto j q (omega arith) (λ k a b. f k a (omega arith)))
    where
      go : Dec (j < i) → (i ≤ j → EmptyUpto s t i j) → EmptyUpto s t i (suc j)
      go (yes q) g = let e : i ≡ suc j = omega arith in rw (← e) (empty_none (omega arith))
      go (no q) g = empty_more j (g (omega arith)) (omega arith) (f j (omega arith) (omega arith))

  -- as it is looked for
  pub used_found : (r : Option ℕ) → i ≤ slots
      → MatchOption r ((k : ℕ) → i ≤ k → k < slots → slot_word s t k ≡ 0)
      (λ j. (i ≤ j) × (j < slots) × Unit {0} × ((k : ℕ) → i ≤ k → k < j → slot_word s t k ≡ 0)) → UsedSlot s t i r
  used_found None l h =
      record { found = λ j e. impossible cc; none = λ e. empty_upto slots l (omega arith) h }
  used_found (Some j) l h =
      record {
        found =
            λ k e.
            let w : (j < slots) × EmptyUpto s t i j = (h.1, empty_upto j h.0 (omega (arith, h.1)) h.3) in
            let p : j ≡ k = cc in rw p at w;
        none = λ e. impossible cc;
      }

module _ (d : Disk) (s : List ℕ) (t : ℕ) where
  abbrev slots_from : ℕ → List Node
  slots_from i = slot_nodes s t i (slots - i)

  pub record SlotsInv (n₀ : Counts) (cl₀ cl : List ℕ) (n : Counts) (i : ℕ) : Type 0 where
    pub ready : Ready d s cl n
    pub long : length cl ≡ length cl₀
    pub inside : t < d.blocks
    pub upto : i ≤ slots
    pub fewer : free cl ≤ free cl₀
    pub walked : Walks d s (slot_nodes s t 0 slots) (slots_from i) n₀ cl₀ (Ok n) cl

  -- the same where the first slot that is not empty, from some slot on, is known, if there is one
  pub record SlotsAt (n₀ : Counts) (cl₀ cl : List ℕ) (n : Counts) (o : Option ℕ) : Type 0 where
    pub from : ℕ
    pub so_far : SlotsInv n₀ cl₀ cl n from
    pub used : UsedSlot s t from o

  pub slots_start : (cl : List ℕ) (n : Counts) → Ready d s cl n → t < d.blocks → SlotsInv n cl cl n 0
  slots_start cl n r l =
      record {
        ready = r;
        long = refl;
        inside = l;
        upto = omega arith;
        fewer = le_refl _;
        walked = walks_none d s (slot_nodes s t 0 slots) n cl;
      }

  module _ (n₀ : Counts) (cl₀ cl : List ℕ) (n : Counts) (i : ℕ) (v : SlotsInv n₀ cl₀ cl n i) where
    pub slots_inside : t < d.blocks
    slots_inside = v.inside

    module _ (o : Option ℕ) (u : UsedSlot s t i o) where
      module _ (j : ℕ) (e : o ≡ Some j) where
        pub slot_used : j < slots
        slot_used = (u.found j e).0

        pub slots_fewer : i ≤ j
        slots_fewer = (u.found j e).1.from

        one_more : slots_from j ≡ chained (slot_word s t j) t j 0 ++ slots_from (j + 1)
        unfolding slot_nodes
        one_more =
            let l = slot_used in
            let e : slots - j ≡ suc (slots - (j + 1)) = omega arith in
            rw (e, add-one j) refl

        slots_on : (r : Result Counts Refusal) (cl' : List ℕ)
            → Walks d s (chained (slot_word s t j) t j 0) [] n cl r cl'
            → Walks d s (slot_nodes s t 0 slots) (slots_from (j + 1)) n₀ cl₀ r cl'
        slots_on r cl' w =
            walks_then d s _ (slots_from j) (chained (slot_word s t j) t j 0) [] (slots_from (j + 1)) n₀ n cl₀ cl cl'
            (Ok n) r (rw (u.found j e).1.empty at v.walked) refl one_more w

        pub slots_out : (x : Refusal) (cl' : List ℕ) → Walks d s (chained (slot_word s t j) t j 0) [] n cl (Err x) cl'
            → Walks d s (slot_nodes s t 0 slots) [] n₀ cl₀ (Err x) cl'
        slots_out x cl' w = walks_stopped d s _ _ [] n₀ cl₀ cl' (Err x) x (slots_on (Err x) cl' w) refl

        pub slots_again : (cl' : List ℕ) (m : Counts) (k p : ℕ) → ChainInv d s t j n cl cl' m k p → k ≡ 0
            → SlotsInv n₀ cl₀ cl' m (j + 1)
        slots_again cl' m k p c z =
            let l = slot_used in
            record {
              ready = c.ready;
              long = c.long ∙ v.long;
              inside = v.inside;
              upto = omega arith;
              fewer = omega (arith, v.fewer, c.few);
              walked = slots_on (Ok m) cl' (chain_end d s t j n cl cl' m k p c z);
            }

      pub slots_end : o ≡ None → Walks d s (slot_nodes s t 0 slots) [] n₀ cl₀ (Ok n) cl
      unfolding slot_nodes
      slots_end e = rw (u.none e).empty at v.walked

-- how many slots are left from the one that is not empty
abbrev pub slots_left : Option ℕ → ℕ
slots_left None = 0
slots_left (Some j) = slots - j

pub slots_less : (s : List ℕ) (t j : ℕ) (o : Option ℕ) → j < slots → UsedSlot s t (j + 1) o
    → slots_left o < slots_left (Some j)
slots_less s t j None l u = omega arith
slots_less s t j (Some k) l u = let f = u.found k refl in omega (arith, f.0, f.1.from)
