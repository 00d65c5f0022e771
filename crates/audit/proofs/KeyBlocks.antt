-- The walk through a file: what each turn and each return of its loops says. Assumes nothing.
use Rattle.std.specs.Prelude.{Result, Ok, Err}
use Prim.Native.Nat.{ℕ, zero, suc, ◌+◌, ◌-◌, ◌≤◌, ◌<◌}
use mathlib.Core.Path.{◌≡◌, refl, sym, ◌∙◌}
use mathlib.Core.List.{List, [], ◌∷◌, ◌++◌, append-nil}
use native.Mathlib.Omega.{arith}
use lib.ListN.{length}
use Rattle.answers.specs.declared.Refusal.{Refusal}
use Rattle.volume.specs.declared.disk.Disk.{Disk}
use Rattle.volume.specs.Blocks.{Holds, key_word}
use Rattle.walk.specs.declared.Counts.{Counts}
use Rattle.walk.specs.declared.file.KeyBlock.{KeyBlock}
use Rattle.walk.specs.Nodes.{Node, list, datum, list_link, key_nodes, key_block_nodes, leads_to, noted, with_list}
use Rattle.walk.specs.Nodes.{with_block}
use Rattle.walk.specs.KeyBlocks.{header_of, next_of, list_node, link_to, InFile, KeysReady, NextReady}
use Rattle.walk.proofs.Links.{link_next}
use Rattle.walk.proofs.Loops.{in_image, ready_image, nodes, next, Turn, turn_next, turn_again, turn_end, list_ready}
use Rattle.audit.specs.Walks.{Met, Walks, Ready, KeysWalked, ListWalked}
use Rattle.audit.proofs.Walking.{not_both, walks_none, walks_stopped, walks_then, walks_part, met_free}
use Rattle.audit.proofs.Walking.{met_inside, met_passed, met_stops, met_goes, ready_met, ready_walked}

-- ---- what callees ask

pub ready_holds : (d : Disk) (s cl : List ℕ) (n : Counts) (k : ℕ) → Ready d s cl n → k < d.blocks → Holds s k
ready_holds d s cl n k h l = in_image d s k h.image l

-- ---- the data blocks that one block lists

module _ (d : Disk) (s : List ℕ) (b : KeyBlock) where
  pub record KeysInv (cl₀ : List ℕ) (c₀ : Counts) (count : ℕ) (cl : List ℕ) (c : Counts) (last i : ℕ) : Type 0 where
    pub turn : Turn d s b count last i
    pub ready : Ready d s cl c
    pub long : length cl ≡ length cl₀
    pub walked : Walks d s (nodes d s b 0 count) (nodes d s b i (count - i)) c₀ cl₀ (Ok c) cl

  pub keys_start : (cl : List ℕ) (c : Counts) (count : ℕ) → Ready d s cl c → Turn d s b count b.last 0
      → KeysInv cl c count cl c b.last 0
  keys_start cl c count r v =
      let y : count - 0 ≡ count = omega arith in
      record { turn = v; ready = r; long = refl; walked = rw y (walks_none d s (nodes d s b 0 count) c cl) }

  module _ (cl₀ : List ℕ) (c₀ : Counts) (count : ℕ) (cl : List ℕ) (c : Counts) (last i : ℕ)
      (v : KeysInv cl₀ c₀ count cl c last i) where
    keys_on : (cl' : List ℕ) (r : Result Counts Refusal) → i < count → Walks d s (next d s b i last ∷ []) [] c cl r cl'
        → Walks d s (nodes d s b 0 count) (nodes d s b (i + 1) (count - (i + 1))) c₀ cl₀ r cl'
    keys_on cl' r h w =
        walks_then d s (nodes d s b 0 count) _ (next d s b i last ∷ []) [] (nodes d s b (i + 1) (count - (i + 1))) c₀
        c cl₀ cl cl' (Ok c) r v.walked refl (turn_next d s b count last i v.turn h) w

    -- what was walked of the data blocks, and then the link
    keys_link : (rest : List Node) (r : Result Counts Refusal) (cl' : List ℕ)
        → Walks d s (nodes d s b 0 count) rest c₀ cl₀ r cl'
        → Walks d s (key_block_nodes d s b.header b.key b.done b.last) (rest ++ link_to (next_of s b)) c₀ cl₀
        r cl'
    keys_link rest r cl' w =
        rw (link_next d s b v.turn.ready, ← v.turn.counted)
        (walks_part d s (nodes d s b 0 count) rest (link_to (next_of s b)) c₀ cl₀ cl' r w)

    module _ (k : ℕ) (f : Result Unit Refusal) (cl' : List ℕ) (h : i < count) (e : k ≡ key_word s b.key i)
        (m : Met d s (datum k b.header (b.done + i + 1) last) cl f cl') where
      abbrev met : Met d s (next d s b i last) cl f cl'
      met = rw e at m

      pub keys_out : (x : Refusal) → f ≡ Err x → KeysWalked d s b c₀ cl₀ (Err x) cl'
      keys_out x t =
          record {
            walks =
                walks_stopped d s _ _ _ c₀ cl₀ cl' (Err x) x
                (keys_link _ (Err x) cl' (keys_on cl' (Err x) h
                (met_stops d s (next d s b i last) cl cl' f met [] c cl' x t))) refl;
            next = λ y p. not_both x y p;
          }

      pub keys_step : (c' : Counts) {u : Unit {0}} → f ≡ Ok u → length cl' ≡ length cl → c' ≡ with_block c
          → KeysInv cl₀ c₀ count cl' c' k (i + 1)
      unfolding noted leads_to
      keys_step c' z l q =
          record {
            turn =
                turn_again d s b count last i v.turn h k e
                (rw e (met_inside d s (next d s b i last) cl cl' f met z));
            ready = ready_met d s (next d s b i last) c cl cl' f v.ready met z l c' q;
            long = l ∙ v.long;
            walked =
                rw q (keys_on cl' (Ok (with_block c)) h
                (met_goes d s (next d s b i last) cl cl' f met [] c cl' (Ok (with_block c)) z
                (walks_none d s [] (with_block c) cl')));
          }

    pub keys_end : count ≤ i → KeysWalked d s b c₀ cl₀ (Ok c) cl
    unfolding key_nodes
    keys_end h =
        let e : count - i ≡ 0 = omega arith in
        record {
          walks = keys_link [] (Ok c) cl (rw e at v.walked);
          next = λ x p. turn_end d s b count last i v.turn h;
        }

-- ---- a list block

module _ (d : Disk) (s : List ℕ) (b : KeyBlock) (n : Counts) (cl cl₁ : List ℕ) (f : Result Unit Refusal) where
  pub list_stops : (cl'' : List ℕ) (x : Refusal) → Met d s (list_node b) cl f cl₁ → f ≡ Err x
      → ListWalked d s b n cl (Err x) cl''
  list_stops cl'' x m t =
      record {
        walks = met_stops d s (list_node b) cl cl₁ f m _ n cl'' x t;
        image = λ c p. not_both x c p;
        next = λ c p. not_both x c p;
        less = λ c p. not_both x c p;
      }

  module _ (m : Met d s (list_node b) cl f cl₁) {u : Unit {0}} (z : f ≡ Ok u) where
    pub list_counts : (c : Counts) → Ready d s cl n → length cl₁ ≡ length cl → c ≡ with_list n → Ready d s cl₁ c
    unfolding noted
    list_counts c r e q = ready_met d s (list_node b) n cl cl₁ f r m z e c q

    pub list_lists : InFile d s b → KeysReady d s b
    list_lists i =
        list_ready d s b i (met_inside d s (list_node b) cl cl₁ f m z) (met_passed d s (list_node b) cl cl₁ f m z)

    pub list_goes : (c : Counts) (r : Result Counts Refusal) (cl₂ : List ℕ) → Ready d s cl n → InFile d s b
        → c ≡ with_list n → KeysWalked d s b c cl₁ r cl₂ → ListWalked d s b n cl r cl₂
    unfolding noted leads_to
    list_goes c r cl₂ y i q w =
        record {
          walks = met_goes d s (list_node b) cl cl₁ f m _ n cl₂ r z (rw q at w.walks);
          image = λ x p. ready_image d s b (list_lists i) y.sized y.image;
          next = w.next;
          less = λ x p. omega (arith, w.walks.less x p, met_free d s (list_node b) cl cl₁ f m z);
        }

-- ---- a file: the header's data blocks, and then its list blocks from block b₀ on

module _ (d : Disk) (s : List ℕ) (h : ℕ) (b : KeyBlock) (g : b ≡ header_of s h) (cl : List ℕ) (n : Counts)
    (w : Result Counts Refusal) (cl₁ : List ℕ) (k : KeysWalked d s b n cl w cl₁) where
  header_walks : Walks d s (key_block_nodes d s h h 0 h) (link_to (next_of s (header_of s h))) n cl w cl₁
  header_walks = (rw g at k).walks

  pub file_stops : (x : Refusal) → w ≡ Err x → Walks d s (key_block_nodes d s h h 0 h) [] n cl (Err x) cl₁
  file_stops x e = rw e at (walks_stopped d s _ _ [] n cl cl₁ w x header_walks e)

  pub file_joins : (c : Counts) (b₀ : KeyBlock) (r : Result Counts Refusal) (cl₂ : List ℕ) → w ≡ Ok c → b₀ ≡ next_of s b
      → Walks d s (link_to b₀) [] c cl₁ r cl₂ → Walks d s (key_block_nodes d s h h 0 h) [] n cl r cl₂
  file_joins c b₀ r cl₂ q e v =
      walks_then d s _ _ (link_to (next_of s (header_of s h))) [] [] n c cl cl₁ cl₂ w r header_walks q
      (sym (append-nil _)) (rw (e, g) at v)

module _ (d : Disk) (s : List ℕ) (b₀ : KeyBlock) where
  pub record ListsInv (m₀ : Counts) (cl₀ cl : List ℕ) (m : Counts) (b : KeyBlock) : Type 0 where
    pub next : NextReady d s b
    pub ready : Ready d s cl m
    pub long : length cl ≡ length cl₀
    pub walked : Walks d s (link_to b₀) (link_to b) m₀ cl₀ (Ok m) cl

  pub lists_start : (b : KeyBlock) (cl : List ℕ) (n : Counts) (w : Result Counts Refusal) (c : Counts) (cl₁ : List ℕ)
      → KeysWalked d s b n cl w cl₁ → w ≡ Ok c → b₀ ≡ next_of s b → Ready d s cl n → length cl₁ ≡ length cl
      → ListsInv c cl₁ cl₁ c b₀
  lists_start b cl n w c cl₁ k q e r y =
      record {
        next = rw e (k.next c q);
        ready = ready_walked d s _ _ n c cl cl₁ w r k.walks q y;
        long = refl;
        walked = walks_none d s (link_to b₀) c cl₁;
      }

  module _ (m₀ : Counts) (cl₀ cl : List ℕ) (m : Counts) (b : KeyBlock) (i : ListsInv m₀ cl₀ cl m b) where
    pub lists_end : b.key ≡ 0 → Walks d s (link_to b₀) [] m₀ cl₀ (Ok m) cl
    lists_end z = rw z at i.walked

    module _ (t : b.key ≡ 0 → ⊥) (v : Result Counts Refusal) (cl' : List ℕ) (u : ListWalked d s b m cl v cl') where
      lists_on : Walks d s (link_to b₀) (link_to (next_of s b)) m₀ cl₀ v cl'
      lists_on =
          rw (append-nil _) at (walks_then d s _ _ (list_node b ∷ []) _ [] m₀ m cl₀ cl cl' (Ok m) v i.walked refl
          (is_there b.key t) u.walks)
        where
          is_there : (x : ℕ) → (x ≡ 0 → ⊥)
              → list_link x b.header b.done b.last ≡ list x b.header b.done b.last ∷ []
          is_there zero t = absurd (t refl)
          is_there (suc x) t = refl

      pub lists_out : (x : Refusal) → v ≡ Err x → Walks d s (link_to b₀) [] m₀ cl₀ (Err x) cl'
      lists_out x o = rw o at (walks_stopped d s _ _ [] m₀ cl₀ cl' v x lists_on o)

      pub lists_again : (m' : Counts) (b' : KeyBlock) → v ≡ Ok m' → length cl' ≡ length cl → b' ≡ next_of s b
          → ListsInv m₀ cl₀ cl' m' b'
      lists_again m' b' o e q =
          record {
            next = rw q (u.next m' o);
            ready = ready_walked d s _ _ m m' cl cl' v i.ready u.walks o e;
            long = e ∙ i.long;
            walked = rw q (rw o at lists_on);
          }
