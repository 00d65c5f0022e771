-- `refused_cause`: a refusal names the field of the law that its block breaks. What the walk comes to is met by way
-- of nodes that pass, and the keys before an entry on its chain are seen. Assumes nothing.
use Prim.Native.Nat.{ℕ, suc, ◌+◌, ◌-◌, ◌<◌}
use mathlib.Core.Path.{◌≡◌, refl, sym, ap, ◌∙◌, subst}
use mathlib.Core.Logic.{◌≢◌, ◌⊎◌, inl, inr}
use mathlib.Core.Bool.{Bool, true, false}
use mathlib.Core.List.{List, [], ◌∷◌, map}
use native.Mathlib.Omega.{arith}
use native.Mathlib.Decide.{dec_lt}
use Rattle.answers.proofs.Members.{unlisted}
use Rattle.reach.specs.References.{At, ◌∈◌, Reached, top, ref}
use Rattle.reach.specs.Walk.{refused}
use Rattle.reach.specs.Visits.{Judged, early, twice, late}
use Rattle.reach.specs.Law.{pruned, Referral, Twice}
use Rattle.reach.proofs.Lists.{at_map, in_at, in_either}
use Rattle.reach.proofs.Refuses.{why}
use Rattle.reach.proofs.Pruned.{pruned_refs, pruned_at, pruned_same}
use Rattle.volume.specs.declared.disk.Disk.{Disk}
use Rattle.volume.specs.Disks.{is_old, root_of}
use Rattle.volume.specs.Blocks.{slots, word_of, slot_word, directory}
use Rattle.volume.specs.Files.{keys_here, blocks_of, lists_of}
use Rattle.volume.specs.References.{Kind, to, references}
use Rattle.volume.specs.Law.{chain_key, Hangs, KeyCount, EntryKind}
use Rattle.volume.specs.Breaks.{Link, DataTies, root_7, root_8, root_4, root_11, map_16, bitmap_7, entry_7, entry_8}
use Rattle.volume.specs.Breaks.{entry_9, entry_10, entry_11, entry_12, header_14, ListBreaks, list_7, list_8, list_10}
use Rattle.volume.specs.Breaks.{list_14, DataBreaks, data_7, data_8, data_15}
use Rattle.volume.proofs.Given.{root_refusals, entry_refusals, header_refusals, list_refusals, data_refusals}
use Rattle.volume.proofs.Given.{root_number}
use Rattle.volume.proofs.Given.{entry_number, header_number, list_number, data_number}
use Rattle.walk.specs.Nodes.{Node, root, bitmap, entry, list, datum, key_of, bare, chained, slot_nodes, before}
use Rattle.walk.specs.Nodes.{key_nodes, list_link, key_block_nodes, contents, leads_to, key_fault, fault_of, nothing}
use Rattle.walk.specs.Nodes.{graph, walk_of}
use Rattle.walk.specs.Refusals.{NodeBreaks, Fails, outside, again, breaks, Visited, start, step, FirstRefusal}
use Rattle.walk.specs.Refusals.{Hung, Cause, number_4, number_5, number_6, number_7, number_8, number_9}
use Rattle.walk.specs.Refusals.{number_10, number_10_list, number_11, number_12, number_13, number_14}
use Rattle.walk.specs.Refusals.{number_14_list, number_15, number_16}
use Rattle.walk.proofs.Nodes.{in_linked, in_slots, in_keys}
use Rattle.walk.proofs.Passes.{file_kind_lem, in_tree}
use Rattle.walk.proofs.Accepts.{key_bare, refs_bare, room}
use Rattle.walk.proofs.Chains.{chain_some}
use Rattle.walk.proofs.Standing.{InFile, tail_at, Stood, Met, met}
use Rattle.walk.proofs.Refuses.{out_key, fault_says, not_passes, refused_first}

module _ (d : Disk) (s : List ℕ) where
  -- ---- what it says of the volume

  -- the positions before an entry on its chain have other keys
  abbrev Alone : Node → Type 0
  Alone root = Unit {0}
  Alone (bitmap k) = Unit {0}
  Alone (entry k t i p) = (q : ℕ) → q < p → chain_key s (slot_word s t i) q ≢ k
  Alone (list k h m c) = Unit {0}
  Alone (datum k h n c) = Unit {0}

  -- the node is met, and it breaks a rule of its kind
  node_says : (n : Node) (v : ℕ) → Reached (references d s) (bare d n) → Stood d s n → Alone n → NodeBreaks d s n v
      → Cause d s v (key_of d n)
  node_says root v r c o (inl (root_7 a e)) = number_7 Kind.root r refl a e
  node_says root v r c o (inl (root_8 a b e)) = number_8 Kind.root r b e
  node_says root v r c o (inl (root_4 a b f e)) = number_4 refl f e
  node_says root v r c o (inl (root_11 a b f g e)) = number_11 (inl refl) g e
  node_says root v r c o (inr (a, map_16 b e)) = number_16 refl b e
  node_says (bitmap k) v r c o (bitmap_7 a e) = number_7 Kind.bitmap r refl a e
  node_says (entry k t i p) v r c o b = go b
    where
      hangs : Hangs s t i k
      hangs = record { slot = c.1; position = p; there = c.2; some = c.3 }

      hung : Hung d s t i k
      hung = record { reached = r; holder = c.0; hangs = hangs }

      go : NodeBreaks d s (entry k t i p) v → Cause d s v k
      go (inl (entry_7 a e)) = number_7 Kind.entry r refl a e
      go (inl (entry_8 a x y e)) = number_8 Kind.entry r neither e
        where
          neither : EntryKind s k ⊎ Link s k → ⊥
          neither (inl h) = x h
          neither (inr h) = y h
      go (inl (entry_9 a x e)) = number_9 r x e
      go (inl (entry_10 a x y e)) = number_10 t i hung x y e
      go (inl (entry_11 a x y z e)) = number_11 (inr r) z e
      go (inl (entry_12 a x y z e)) = number_12 t i hung z e
      go (inr (inl (a, (q, l, f), e))) =
          number_13 t i (chain_key s (slot_word s t i) q) hung
          (record {
            slot = c.1;
            position = q;
            there = refl;
            some = chain_some s (slot_word s t i) p q (omega arith) (λ z. c.3 (sym c.2 ∙ z));
          }) l (o q l) f e
      go (inr (inr (a, w, q, header_14 x e))) =
          number_14 (record { reached = r; kind = file_kind_lem d s k a.entry q }) x e
  node_says (list k h m x) v r c o b = go b
    where
      n : ℕ
      n = c.1.0

      at : At n k (lists_of d s h)
      at = tail_at d s h k m x n c.1.1 c.2

      go : ListBreaks s k h (blocks_of d s h - m) v → Cause d s v k
      go (list_7 a e) = number_7 Kind.list r refl a e
      go (list_8 a y e) = number_8 Kind.list r y e
      go (list_10 a y z e) = number_10_list h n c.0 at y z e
      go (list_14 a y z e) =
          number_14_list h n c.0 at (subst (λ w. KeyCount s k (blocks_of d s h - w) → ⊥) c.1.1 z) e
  node_says (datum k h n x) v r c o b = go b
    where
      f : InFile d s h n k x
      f = c.1

      go : (is_old d ≡ true) × DataBreaks d s k h n (word_of s x 4) v → Cause d s v k
      go (o, data_7 a e) = number_7 Kind.datum r o a e
      go (o, data_8 a y e) = number_8 Kind.datum r (λ w. y (w o)) e
      go (o, data_15 a y z e) =
          number_15 h f.index x o c.0 f.is (subst (λ w. DataTies d s k h w (word_of s x 4) → ⊥) f.number z) e

  -- two references among nodes that pass are two references among blocks
  bare_referral : (k : ℕ) → Referral (pruned (graph d s)).references k → Referral (references d s) k
  bare_referral k p =
      let a = pruned_at (graph d s) p.nth p.from p.to p.stands in
      record {
        from = bare d p.from;
        to = bare d p.to;
        nth = p.nth;
        reached = (met d s p.reached).0;
        stands =
            subst (At p.nth (bare d p.to)) (refs_bare d s p.from (in_tree d s p.from a.1))
            (at_map (bare d) p.nth p.to (leads_to d s p.from) a.2);
        keyed = key_bare d s p.to ∙ p.keyed;
      }

  bare_twice : (k : ℕ) → Twice (pruned (graph d s)).references k → Twice (references d s) k
  unfolding bare_referral
  bare_twice k (p, inl e) = (bare_referral k p, inl e)
  bare_twice k (p, inr (q, w)) = (
    bare_referral k p,
    inr (
      bare_referral k q,
      λ h. w (sym (key_bare d s p.from) ∙ h.0 ∙ key_bare d s q.from, h.1),
    ),
  )

  -- ---- what the walk comes to is met, and stands alone

  -- of an entry to do, the keys before it on its chain are seen
  abbrev Earlier : List Node → Node → Type 0
  Earlier seen root = Unit {0}
  Earlier seen (bitmap k) = Unit {0}
  Earlier seen (entry k t i p) = (q : ℕ) → q < p → chain_key s (slot_word s t i) q ∈ map (key_of d) seen
  Earlier seen (list k h m c) = Unit {0}
  Earlier seen (datum k h n c) = Unit {0}

  record Todo (seen : List Node) (x : Node) : Type 0 where
    met_so : Met d s x
    earlier : Earlier seen x

  later : (seen : List Node) (n x : Node) → Earlier seen x → Earlier (n ∷ seen) x
  later seen n root h = tt
  later seen n (bitmap k) h = tt
  later seen n (entry k t i p) h = λ q l. inr (h q l)
  later seen n (list k b m c) h = tt
  later seen n (datum k b m c) h = tt

  slots_earlier : (seen : List Node) (t : ℕ) (x : Node) → x ∈ slot_nodes s t 0 slots → Earlier seen x
  slots_earlier seen t x a =
      let r = in_slots s t 0 slots x a in subst (Earlier seen) (sym r.2.1) (λ q l. absurd (omega arith))

  nodes_earlier : (seen : List Node) (h b m c : ℕ) (x : Node) → x ∈ key_block_nodes d s h b m c → Earlier seen x
  nodes_earlier seen h b m c x a =
      go (in_either x (key_nodes s h b m c 0 n) (list_link (word_of s b 126) h (m + n) (before s b c n)) a)
    where
      n : ℕ
      n = keys_here (blocks_of d s h - m)

      go : (x ∈ key_nodes s h b m c 0 n) ⊎ (x ∈ list_link (word_of s b 126) h (m + n) (before s b c n)) → Earlier seen x
      go (inl a) = subst (Earlier seen) (sym (in_keys s h b m c 0 n x a).3) tt
      go (inr a) =
          subst (Earlier seen) (sym (in_linked (word_of s b 126) (λ k. list k h (m + n) (before s b c n)) x a).1) tt

  contents_earlier : (seen : List Node) (k : ℕ) (b : Bool) (x : Node) → x ∈ contents d s k b → Earlier seen x
  contents_earlier seen k true x a = slots_earlier seen k x a
  contents_earlier seen k false x a = nodes_earlier seen k k 0 k x a

  -- what a node leads to
  led : (seen : List Node) (n : Node) → Stood d s n → Earlier seen n → (x : Node) → x ∈ leads_to d s n
      → Earlier (n ∷ seen) x
  unfolding leads_to
  led seen root c h x (inl e) = subst (Earlier (root ∷ seen)) (sym e) tt
  led seen root c h x (inr a) = slots_earlier (root ∷ seen) (root_of d) x a
  led seen (bitmap k) c h x a = absurd a
  led seen (entry k t i p) c h x a =
      go (in_either x (contents d s k (directory s k)) (chained (word_of s k 124) t i (suc p)) a)
    where
      upto : (q : ℕ) → q < suc p → Dec (q < p) → chain_key s (slot_word s t i) q ∈ (k ∷ map (key_of d) seen)
      upto q l (yes u) = inr (h q u)
      upto q l (no u) = let e : q ≡ p = omega arith in inl (ap (chain_key s (slot_word s t i)) e ∙ c.2)

      go : (x ∈ contents d s k (directory s k)) ⊎ (x ∈ chained (word_of s k 124) t i (suc p))
          → Earlier (entry k t i p ∷ seen) x
      go (inl a) = contents_earlier (entry k t i p ∷ seen) k (directory s k) x a
      go (inr a) =
          subst (Earlier (entry k t i p ∷ seen)) (sym (in_linked (word_of s k 124) (λ k. entry k t i (suc p)) x a).1)
          (λ q l. upto q l (dec_lt q p))
  led seen (list k b m c') c h x a = nodes_earlier (list k b m c' ∷ seen) b k m c' x a
  led seen (datum k b n c') c h x a = absurd a

  both_pass : (seen : List Node) (n : Node) → Judged (graph d s) seen n 0
      → (key_fault d (key_of d n) ≡ 0) × (fault_of d s n ≡ 0)
  both_pass seen n (early b h) = absurd (h refl)
  both_pass seen n (twice b m t) = absurd (omega arith)
  both_pass seen n (late b m a) = (b, a)

  todo : {seen rest : List Node} → Visited d s seen rest → (x : Node) → x ∈ rest → Todo seen x
  todo start x (inl e) = record { met_so = top e; earlier = subst (Earlier []) (sym e) tt }
  todo start x (inr a) = absurd a
  todo (step {seen = seen} {todo = rest} {n = n} w f) x a =
      go (todo w n (inl refl)) (λ b. todo w x b) (in_either x (leads_to d s n) rest a)
    where
      go : Todo seen n → (x ∈ (n ∷ rest) → Todo seen x) → (x ∈ leads_to d s n) ⊎ (x ∈ rest) → Todo (n ∷ seen) x
      go o more (inl b) =
          let p = both_pass seen n (not_passes d s seen n f) in
          let i = in_at x (leads_to d s n) b in
          record {
            met_so = ref i.0 o.met_so
                (subst (At i.0 x) (sym (pruned_refs (graph d s) n p.0 p.1)) i.1);
            earlier = led seen n (met d s o.met_so).1 o.earlier x b;
          }
      go o more (inr b) = let y = more (inr b) in record { met_so = y.met_so; earlier = later seen n x y.earlier }

  alone : (seen : List Node) (n : Node) → Earlier seen n → ¬ (key_of d n ∈ map (key_of d) seen) → Alone n
  alone seen root h m = tt
  alone seen (bitmap k) h m = tt
  alone seen (entry k t i p) h m = λ q l e. m (subst (λ x. x ∈ map (key_of d) seen) e (h q l))
  alone seen (list k b n c) h m = tt
  alone seen (datum k b n c) h m = tt

  -- no block gives 6
  not_six : (n : Node) → NodeBreaks d s n 6 → ⊥
  not_six root (inl b) = unlisted root_refusals 6 6 tt (root_number b) refl
  not_six root (inr (a, map_16 b e)) = omega arith
  not_six (bitmap k) (bitmap_7 a e) = omega arith
  not_six (entry k t i p) (inl b) = unlisted entry_refusals 6 6 tt (entry_number b) refl
  not_six (entry k t i p) (inr (inl (a, w, e))) = omega arith
  not_six (entry k t i p) (inr (inr (a, w, q, b))) = unlisted header_refusals 6 6 tt (header_number b) refl
  not_six (list k h m c) b = unlisted list_refusals 6 6 tt (list_number b) refl
  not_six (datum k h n c) b = unlisted data_refusals 6 6 tt (data_number b.1) refl

  taken_twice : (k : ℕ) → walk_of d s ≡ refused 6 k → Twice (references d s) k
  unfolding walk_of
  taken_twice k e =
      let w =
      why (pruned (graph d s)) d.blocks (room d s) nothing 6 k
      (pruned_same (graph d s) d.blocks nothing ∙ e) in
      go w.node w.cause
    where
      go : (n : Node)
          → (key_fault d (key_of d n) ≡ 6) ⊎ ((◌≡◌ {A = ℕ} 6 6) × Twice (pruned (graph d s)).references k)
          ⊎ (fault_of d s n ≡ 6)
          → Twice (references d s) k
      go n (inl f) = let q = (out_key d s (key_of d n) 6 (λ z. omega arith) f).1 in absurd (omega arith)
      go n (inr (inl t)) = bare_twice k t.1
      go n (inr (inr f)) = absurd (not_six n (fault_says d s n 6 (λ z. omega arith) f))

  pub refused_cause : (v k : ℕ) → walk_of d s ≡ refused v k → Cause d s v k
  refused_cause v k e =
      let w = (refused_first d s v k).0 e in
      subst (Cause d s v) w.keyed (go w (todo w.visited w.node (inl refl)) w.fails)
    where
      go : (w : FirstRefusal d s v k) → Todo w.seen w.node → Fails d s w.seen w.node v
          → Cause d s v (key_of d w.node)
      go w o (outside h q) =
          number_5 (bare d w.node).kind
          (subst (λ x. Reached (references d s) (to (bare d w.node).kind x)) (key_bare d s w.node)
          (met d s o.met_so).0) h q
      go w o (again h m q) =
          number_6 (subst (Twice (references d s)) (sym w.keyed)
          (taken_twice k (subst (λ x. walk_of d s ≡ refused x k) q e))) q
      go w o (breaks h m b) =
          let x = met d s o.met_so in
          node_says w.node v x.0 x.1 (alone w.seen w.node o.earlier m) b
