-- `refused_first`: a refusal is given at the first node that fails, and only there. Assumes nothing.
use Prim.Native.Nat.{ℕ, zero, suc, ◌-◌}
use mathlib.Core.Path.{◌≡◌, refl, sym, ◌∙◌}
use mathlib.Core.Logic.{◌≢◌, ◌⊎◌, inl, inr, ◌↔◌}
use mathlib.Core.Bool.{Bool, true, false}
use mathlib.Core.List.{List, map}
use native.Mathlib.Omega.{arith}
use Rattle.answers.specs.Tests.{pick, must, never, first}
use Rattle.answers.proofs.Clashes.{impossible}
use Rattle.reach.specs.References.{◌∈◌}
use Rattle.reach.specs.Walk.{refused}
use Rattle.reach.specs.Visits.{Judged, early, twice, late, Visits, start as begin, step as next, Stops}
use Rattle.reach.proofs.Firsts as firsts
use Rattle.volume.specs.declared.disk.Disk.{Disk}
use Rattle.volume.specs.Disks.{in_range}
use Rattle.volume.specs.Blocks.{word_of, slot_word, directory}
use Rattle.volume.specs.Names.{name_of, same}
use Rattle.volume.specs.Files.{blocks_of}
use Rattle.volume.specs.Law.{chain_key}
use Rattle.volume.specs.Rules.{root_fault, map_fault, entry_fault, file_fault}
use Rattle.volume.specs.Breaks.{Inside, EntrySound}
use Rattle.volume.proofs.Checks.{among}
use Rattle.volume.proofs.Names.{same_map, map_same}
use Rattle.volume.proofs.Breaks.{root_breaks, root_sound, map_breaks, bitmap_breaks, entry_breaks, entry_sound}
use Rattle.volume.proofs.Breaks.{header_breaks, list_breaks, data_breaks, key_outside}
use Rattle.walk.specs.Nodes.{Node, root, bitmap, entry, list, datum, key_of, twin, key_fault, hangs_fault, fault_of}
use Rattle.walk.specs.Nodes.{nothing, graph, walk_of}
use Rattle.walk.specs.Refusals.{Doubled, NodeBreaks, Fails, outside, again, breaks, Visited, start, step}
use Rattle.walk.specs.Refusals.{FirstRefusal}
use Rattle.walk.proofs.Passes.{key_passes, key_passed}
use Rattle.walk.proofs.Accepts.{room}
use Rattle.walk.proofs.Chains.{twin_there, twin_none}

-- ---- the first of two tests that fails

first_cases : (a b v : ℕ) → v ≢ 0 → first a b ≡ v → (a ≡ v) ⊎ ((a ≡ 0) × (b ≡ v))
unfolding first
first_cases zero b v z e = inr (refl, e)
first_cases (suc a) b v z e = inl e

first_left : (a b v : ℕ) → v ≢ 0 → a ≡ v → first a b ≡ v
unfolding first
first_left zero b v z e = absurd (z (sym e))
first_left (suc a) b v z e = e

first_right : (a b v : ℕ) → a ≡ 0 → b ≡ v → first a b ≡ v
unfolding first
first_right a b v e f = rw e f

module _ (d : Disk) (s : List ℕ) where
  -- ---- a key

  in_key : (k : ℕ) → key_fault d k ≡ 0 → Inside d k
  in_key k e = let p = key_passed d k e in record { low = p.0; high = p.1 }

  key_in_lem : (k : ℕ) → Inside d k → key_fault d k ≡ 0
  key_in_lem k h = key_passes d k (h.low, h.high)

  pub out_key : (k v : ℕ) → v ≢ 0 → key_fault d k ≡ v → (Inside d k → ⊥) × (v ≡ 5)
  unfolding must
  out_key k v z e = ((λ h. z (sym e ∙ key_in_lem k h)), go (in_range d k) e)
    where
      go : (b : Bool) → must b 5 ≡ v → v ≡ 5
      go true q = absurd (z (sym q))
      go false q = sym q

  key_out : (k v : ℕ) → (Inside d k → ⊥) → v ≡ 5 → key_fault d k ≡ v
  unfolding must
  key_out k v h e = rw ((key_outside d k).1 h) (sym e)

  -- ---- an entry's name stands earlier on its chain

  module _ (k head : ℕ) where
    doubled_twin : (p : ℕ) → Doubled d s k head p → twin d s k head p ≡ true
    doubled_twin p h = twin_there s d k head p h.0 h.1 (map_same d _ _ h.2)

    twin_doubled : (p : ℕ) → twin d s k head p ≡ true → Doubled d s k head p
    unfolding twin pick
    twin_doubled zero e = impossible cc
    twin_doubled (suc p) e = go (same d (name_of s (chain_key s head p)) (name_of s k)) refl e (twin_doubled p)
      where
        go : (b : Bool) → same d (name_of s (chain_key s head p)) (name_of s k) ≡ b
            → pick b true (twin d s k head p) ≡ true → (twin d s k head p ≡ true → Doubled d s k head p)
            → Doubled d s k head (suc p)
        go true q x f = (p, omega arith, same_map d _ _ q)
        go false q x f = let r = f x in let l = r.1 in (r.0, omega arith, r.2)

    alone_twin : (p : ℕ) → (Doubled d s k head p → ⊥) → twin d s k head p ≡ false
    alone_twin p h = twin_none s d k head p (λ q l e. h (q, l, same_map d _ _ e))

  -- ---- a node's tests give v if and only if it breaks a rule with that number

  entry_says : (k t i p v : ℕ) → v ≢ 0 → hangs_fault d s k t i p ≡ v → NodeBreaks d s (entry k t i p) v
  unfolding hangs_fault pick never
  entry_says k t i p v z e = go (first_cases _ _ v z e)
    where
      file : EntrySound d s k t i → twin d s k (slot_word s t i) p ≡ false → (b : Bool) → directory s k ≡ b
          → pick b 0 (file_fault d s k) ≡ v → NodeBreaks d s (entry k t i p) v
      file a n true q h = absurd (z (sym h))
      file a n false q h =
          inr (inr (
            a,
            (λ w. let y = doubled_twin k (slot_word s t i) p w in impossible cc),
            q,
            (header_breaks d s k v).0 (h, z),
          ))

      name : EntrySound d s k t i → (b : Bool) → twin d s k (slot_word s t i) p ≡ b
          → (never b 13 ≡ v) ⊎ ((never b 13 ≡ 0) × (pick (directory s k) 0 (file_fault d s k) ≡ v))
          → NodeBreaks d s (entry k t i p) v
      name a true q (inl h) = inr (inl (a, twin_doubled k (slot_word s t i) p q, sym h))
      name a true q (inr h) = absurd (omega (arith, h.0))
      name a false q (inl h) = absurd (z (sym h))
      name a false q (inr h) = file a q (directory s k) refl h.1

      go : (entry_fault d s k t i ≡ v)
          ⊎ ((entry_fault d s k t i ≡ 0)
          × (first (never (twin d s k (slot_word s t i) p) 13) (pick (directory s k) 0 (file_fault d s k)) ≡ v))
          → NodeBreaks d s (entry k t i p) v
      go (inl h) = inl ((entry_breaks d s k t i v).0 (h, z))
      go (inr h) =
          name ((entry_sound d s k t i).0 h.0) (twin d s k (slot_word s t i) p) refl (first_cases _ _ v z h.1)

  says_entry : (k t i p v : ℕ) → NodeBreaks d s (entry k t i p) v → (hangs_fault d s k t i p ≡ v) × (v ≢ 0)
  unfolding hangs_fault pick never
  says_entry k t i p v (inl b) = let h = (entry_breaks d s k t i v).1 b in (first_left _ _ v h.1 h.0, h.1)
  says_entry k t i p v (inr (inl (a, w, e))) = (
    first_right _ _ v ((entry_sound d s k t i).1 a)
        (first_left _ _ v (λ z. omega arith) (rw (doubled_twin k (slot_word s t i) p w) (sym e))),
    λ z. omega arith,
  )
  says_entry k t i p v (inr (inr (a, w, q, b))) =
      let h = (header_breaks d s k v).1 b in (
        first_right _ _ v ((entry_sound d s k t i).1 a)
            (first_right _ _ v (rw (alone_twin k (slot_word s t i) p w) refl) (rw q h.0)),
        h.1,
      )

  pub fault_says : (n : Node) (v : ℕ) → v ≢ 0 → fault_of d s n ≡ v → NodeBreaks d s n v
  unfolding fault_of
  fault_says root v z e = go (first_cases _ _ v z e)
    where
      go : (root_fault d s ≡ v) ⊎ ((root_fault d s ≡ 0) × (map_fault d s ≡ v)) → NodeBreaks d s root v
      go (inl h) = inl ((root_breaks d s v).0 (h, z))
      go (inr h) = inr ((root_sound d s).0 h.0, (map_breaks d s v).0 (h.1, z))
  fault_says (bitmap k) v z e = (bitmap_breaks s k v).0 (e, z)
  fault_says (entry k t i p) v z e = entry_says k t i p v z e
  fault_says (list k h m c) v z e = (list_breaks s k h (blocks_of d s h - m) v).0 (e, z)
  fault_says (datum k h n c) v z e = (data_breaks d s k h n (word_of s c 4) v).0 (e, z)

  says_fault : (n : Node) (v : ℕ) → NodeBreaks d s n v → (fault_of d s n ≡ v) × (v ≢ 0)
  unfolding fault_of
  says_fault root v (inl b) = let h = (root_breaks d s v).1 b in (first_left _ _ v h.1 h.0, h.1)
  says_fault root v (inr (a, b)) =
      let h = (map_breaks d s v).1 b in (first_right _ _ v ((root_sound d s).1 a) h.0, h.1)
  says_fault (bitmap k) v b = (bitmap_breaks s k v).1 b
  says_fault (entry k t i p) v b = says_entry k t i p v b
  says_fault (list k h m c) v b = (list_breaks s k h (blocks_of d s h - m) v).1 b
  says_fault (datum k h n c) v b = (data_breaks d s k h n (word_of s c 4) v).1 b

  -- ---- the first node that fails

  fails_says : (seen : List Node) (n : Node) (v : ℕ) → v ≢ 0 → Judged (graph d s) seen n v → Fails d s seen n v
  fails_says seen n v z (early b h) = let q = out_key _ v z b in outside q.0 q.1
  fails_says seen n v z (twice b m t) = again (in_key _ b) m (sym t)
  fails_says seen n v z (late b m a) = breaks (in_key _ b) m (fault_says n v z a)

  says_fails : (seen : List Node) (n : Node) (v : ℕ) → Fails d s seen n v → Judged (graph d s) seen n v × (v ≢ 0)
  says_fails seen n v (outside h e) = let z : v ≢ 0 = λ z. omega arith in (early (key_out _ v h e) z, z)
  says_fails seen n v (again h m e) = (twice (key_in_lem _ h) m (sym e), λ z. omega arith)
  says_fails seen n v (breaks h m b) = let f = says_fault n v b in (late (key_in_lem _ h) m f.0, f.1)

  -- a node that passes does not fail
  passes_not : (seen : List Node) (n : Node) → Judged (graph d s) seen n 0 → (v : ℕ) → Fails d s seen n v → ⊥
  passes_not seen n (early b h) v f = h refl
  passes_not seen n (twice b m t) v f = omega arith
  passes_not seen n (late b m a) v (outside h e) = h (in_key _ b)
  passes_not seen n (late b m a) v (again h m' e) = m m'
  passes_not seen n (late b m a) v (breaks h m' w) = let f = says_fault n v w in f.1 (sym f.0 ∙ a)

  -- and one that does not fail passes
  pub not_passes : (seen : List Node) (n : Node) → ((v : ℕ) → Fails d s seen n v → ⊥) → Judged (graph d s) seen n 0
  not_passes seen n f =
      key (key_fault d (key_of d n)) refl (among (key_of d n) (map (key_of d) seen)) (fault_of d s n) refl
    where
      key : (a : ℕ) → key_fault d (key_of d n) ≡ a → Dec (key_of d n ∈ map (key_of d) seen) → (b : ℕ)
          → fault_of d s n ≡ b
          → Judged (graph d s) seen n 0
      key (suc a) p m b q =
          let w = out_key (key_of d n) (suc a) (λ z. omega arith) p in absurd (f (suc a) (outside w.0 w.1))
      key zero p (yes m) b q = absurd (f 6 (again (in_key _ p) m refl))
      key zero p (no m) zero q = late p m q
      key zero p (no m) (suc b) q =
          absurd (f (suc b) (breaks (in_key _ p) m (fault_says n (suc b) (λ z. omega arith) q)))

  visits_visited : {seen todo : List Node} → Visits (graph d s) seen todo → Visited d s seen todo
  visits_visited begin = start
  visits_visited (next {seen = seen} {n = n} w p) = step (visits_visited w) (passes_not seen n p)

  visited_visits : {seen todo : List Node} → Visited d s seen todo → Visits (graph d s) seen todo
  visited_visits start = begin
  visited_visits (step {seen = seen} {n = n} w f) = next (visited_visits w) (not_passes seen n f)

  stops_first : (v k : ℕ) → Stops (graph d s) v k → FirstRefusal d s v k
  stops_first v k w =
      record {
        seen = w.seen;
        node = w.node;
        todo = w.todo;
        visited = visits_visited w.visits;
        fails = fails_says w.seen w.node v w.refuses w.fails;
        keyed = w.keyed;
      }

  first_stops : (v k : ℕ) → FirstRefusal d s v k → Stops (graph d s) v k
  first_stops v k w =
      let h = says_fails w.seen w.node v w.fails in
      record {
        seen = w.seen;
        node = w.node;
        todo = w.todo;
        visits = visited_visits w.visited;
        fails = h.0;
        refuses = h.1;
        keyed = w.keyed;
      }

  pub refused_first : (v k : ℕ) → (walk_of d s ≡ refused v k) ↔ FirstRefusal d s v k
  unfolding walk_of
  refused_first v k =
      let f = firsts.refused_first (graph d s) d.blocks (room d s) nothing v k in
      ((λ e. stops_first v k (f.0 e)), λ w. f.1 (first_stops v k w))
