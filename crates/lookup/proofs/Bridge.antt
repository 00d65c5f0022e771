-- Every reached entry of a tree has a path, and is found by it with its own key and kind (`reached_lies`,
-- `reached_found`). Assumes nothing.
use Prim.Native.Nat.{ℕ, suc, ◌+◌, ◌-◌, ◌≤◌, ◌<◌}
use mathlib.Core.Path.{◌≡◌, refl, sym, ap, ◌∙◌, subst}
use mathlib.Core.Logic.{◌≢◌, ◌⊎◌, inl, inr}
use mathlib.Core.Bool.{Bool, true, false}
use mathlib.Core.List.{List, [], ◌∷◌, ◌++◌}
use native.Mathlib.Omega.{arith}
use lib.ListN.{length}
use Rattle.std.specs.Prelude.{Ok}
use Rattle.answers.specs.Numbers as fault
use Rattle.answers.specs.Tests.{pick}
use Rattle.answers.proofs.Clashes.{impossible}
use Rattle.reach.specs.References.{◌∈◌, Reached, top, ref}
use Rattle.reach.proofs.Lists.{at_in, in_either}
use Rattle.volume.specs.declared.disk.Disk.{Disk}
use Rattle.volume.specs.Disks.{root_of}
use Rattle.volume.specs.Blocks.{slots, word_of, slot_word, directory}
use Rattle.volume.specs.Names.{folded, slot_of, name_of}
use Rattle.volume.specs.Files.{keys_here, size_of, blocks_of}
use Rattle.volume.specs.References.{Kind, Ref, to, references}
use Rattle.volume.specs.Law.{chain_key, Hangs, Tree}
use Rattle.volume.proofs.Passes.{root_passes}
use Rattle.volume.proofs.Breaks.{root_sound}
use Rattle.walk.specs.Nodes.{Node, root, bitmap, entry, list, datum, bare, chained, slot_nodes, before, key_nodes}
use Rattle.walk.specs.Nodes.{list_link, key_block_nodes, contents, leads_to, graph}
use Rattle.walk.proofs.Nodes.{in_linked, in_slots, in_keys}
use Rattle.walk.proofs.Accepts.{block_reached, node_reached}
use Rattle.walk.proofs.Chains.{chain_some}
use Rattle.walk.proofs.Positions.{Holder, chain_apart}
use Rattle.walk.proofs.Coherent.{Coherent, leads_coherent}
use Rattle.walk.proofs.Lawful.{held_by, tree_passes}
use Rattle.lookup.specs.declared.find.Found.TheVariants.{Directory, File}
use Rattle.lookup.specs.Paths.{longest_path, components, is_component}
use Rattle.lookup.specs.Search.{position_key}
use Rattle.lookup.specs.Lookup.{refuse, find_of}
use Rattle.lookup.specs.Trails.{Tests, Equal, First, Trail, stay, down, Names, none, into, Lies, path_of}
use Rattle.lookup.specs.Verdicts.{long, Opened, number_18}
use Rattle.lookup.proofs.Refusing.{refused_exactly, directory_exactly, file_exactly}
use Rattle.lookup.proofs.OnTrees.{position_tests, first_reached}
use Rattle.lookup.proofs.Joins.{Components, name_component, components_joined, joined_form}

-- ---- the path of an entry

names_end : (s : List ℕ) {t b : ℕ} {cs : List (List ℕ)} → Names s t cs b → (i k : ℕ) → Hangs s b i k
    → directory s k ≡ true → Names s t (cs ++ (name_of s k ∷ [])) k
names_end s none i k h e = into i h e none
names_end s (into j g f r) i k h e = into j g f (names_end s r i k h e)

module _ (d : Disk) (s : List ℕ) (v : Tree d s) where
  -- ---- every reached entry has one

  -- the directory on whose chain an entry hangs has its names
  abbrev Led : Node → Type 0
  Led root = Unit {0}
  Led (bitmap k) = Unit {0}
  Led (entry k t i p) = (cs : List (List ℕ)) × Names s (root_of d) cs t
  Led (list k h m c) = Unit {0}
  Led (datum k h n c) = Unit {0}

  slots_led : (t : ℕ) (cs : List (List ℕ)) → Names s (root_of d) cs t → (x : Node) → x ∈ slot_nodes s t 0 slots → Led x
  slots_led t cs n x a = let r = in_slots s t 0 slots x a in subst Led (sym r.2.1) (cs, n)

  nodes_led : (h b m c : ℕ) (x : Node) → x ∈ key_block_nodes d s h b m c → Led x
  nodes_led h b m c x a =
      go (in_either x (key_nodes s h b m c 0 n) (list_link (word_of s b 126) h (m + n) (before s b c n)) a)
    where
      n : ℕ
      n = keys_here (blocks_of d s h - m)

      go : (x ∈ key_nodes s h b m c 0 n) ⊎ (x ∈ list_link (word_of s b 126) h (m + n) (before s b c n)) → Led x
      go (inl a) = subst Led (sym (in_keys s h b m c 0 n x a).3) tt
      go (inr a) = subst Led (sym (in_linked (word_of s b 126) (λ k. list k h (m + n) (before s b c n)) x a).1) tt

  contents_led : (k t i p : ℕ) (b : Bool) → directory s k ≡ b → Coherent d s (entry k t i p) → Led (entry k t i p)
      → (x : Node) → x ∈ contents d s k b → Led x
  contents_led k t i p true e c h x a =
      slots_led k (h.0 ++ (name_of s k ∷ []))
      (names_end s h.1 i k (record { slot = c.1; position = p; there = c.2; some = c.3 }) e) x a
  contents_led k t i p false e c h x a = nodes_led k k 0 k x a

  leads_led : (m : Node) → Coherent d s m → Led m → (x : Node) → x ∈ leads_to d s m → Led x
  unfolding leads_to
  leads_led root c h x (inl e) = subst Led (sym e) tt
  leads_led root c h x (inr a) = slots_led (root_of d) [] none x a
  leads_led (bitmap k) c h x a = absurd a
  leads_led (entry k t i p) c h x a =
      go (in_either x (contents d s k (directory s k)) (chained (word_of s k 124) t i (suc p)) a)
    where
      go : (x ∈ contents d s k (directory s k)) ⊎ (x ∈ chained (word_of s k 124) t i (suc p)) → Led x
      go (inl a) = contents_led k t i p (directory s k) refl c h x a
      go (inr a) = subst Led (sym (in_linked (word_of s k 124) (λ k. entry k t i (suc p)) x a).1) h
  leads_led (list k h' m b) c h x a = nodes_led h' k m b x a
  leads_led (datum k h' n b) c h x a = absurd a

  led : {n : Node} → Reached (graph d s).references n → Coherent d s n × Led n
  led (top e) = (subst (Coherent d s) (sym e) tt, subst Led (sym e) tt)
  led (ref {m = m} {n = n} i r h) = go (led r)
    where
      go : Coherent d s m × Led m → Coherent d s n × Led n
      go w =
          let a = at_in n i (leads_to d s m) h in (
            leads_coherent d s m (block_reached d s (tree_passes d s v) r) v.files w.0 n a,
            leads_led m w.0 w.1 n a,
          )

  -- Every reached entry hangs below the root by the names of directories.
  pub reached_lies : (k : ℕ) → Reached (references d s) (to Kind.entry k) → Lies s (root_of d) k
  reached_lies k r = let w = node_reached d s (tree_passes d s v) r in go w.0 (led w.1) w.2
    where
      go : (n : Node) → Coherent d s n × Led n → to Kind.entry k ≡ bare d n → Lies s (root_of d) k
      go root w e = let f : Kind.entry ≡ Kind.root = ap (λ (r : Ref). r.kind) e in impossible cc
      go (bitmap b) w e = let f : Kind.entry ≡ Kind.bitmap = ap (λ (r : Ref). r.kind) e in impossible cc
      go (entry b t i p) w e =
          let x : k ≡ b = ap (λ (r : Ref). r.key) e in
          rw x (record {
            front = w.1.0;
            parent = t;
            above = w.1.1;
            slot = i;
            hangs = record { slot = w.0.1; position = p; there = w.0.2; some = w.0.3 };
          })
      go (list b h m c) w e = let f : Kind.entry ≡ Kind.list = ap (λ (r : Ref). r.kind) e in impossible cc
      go (datum b h n c) w e = let f : Kind.entry ≡ Kind.datum = ap (λ (r : Ref). r.kind) e in impossible cc

  -- ---- its path leads to it

  module _ (t i k : ℕ) (holder : Holder d s t) (h : Hangs s t i k) where
    abbrev name : List ℕ
    name = name_of s k

    slot_is : slot_of d name ≡ i
    slot_is = (held_by d s v t holder).slot i k h

    -- the chain of its name is the one on which it hangs
    position_is : (q : ℕ) → position_key d s t name q ≡ chain_key s (slot_word s t i) q
    position_is q = rw slot_is

    hang_key : position_key d s t (name_of s k) h.position ≡ k
    hang_key = position_is h.position ∙ h.there

    hang_some : (q : ℕ) → q ≤ h.position → chain_key s (slot_word s t i) q ≢ 0
    hang_some q l = chain_some s (slot_word s t i) h.position q l (λ z. h.some (sym h.there ∙ z))

    hang_tests : (q : ℕ) → q ≤ h.position → Tests d s t name q
    hang_tests q l = position_tests d s v t name holder q (λ z. hang_some q l (sym (position_is q) ∙ z))

    -- an earlier entry of the same name would be the same block
    hang_differs : (q : ℕ) → q < h.position → Equal d s t name q → ⊥
    hang_differs q l e =
        let b = chain_key s (slot_word s t i) q in
        let g : Hangs s t i b =
        record { slot = h.slot; position = q; there = refl; some = hang_some q (omega arith) } in
        let f = (held_by d s v t holder).names i i b k g h
        (ap (λ x. folded d (name_of s x)) (sym (position_is q)) ∙ e) in
        chain_apart d s t i holder h.slot v.owned q h.position l (hang_some h.position (omega arith))
        (f ∙ sym h.there)

    hang_first : First d s t (name_of s k) h.position
    hang_first =
        record {
          tests = hang_tests h.position (omega arith);
          named = ap (λ x. folded d (name_of s x)) hang_key;
          others = λ q a l. (hang_tests q (omega arith), hang_differs q l);
        }

    hang_reached : Reached (references d s) (to Kind.entry k)
    hang_reached = rw hang_key at (first_reached d s v t (name_of s k) holder h.position hang_first)

    hang_component : is_component (name_of s k) ≡ true
    hang_component =
        let r = (v.keys (to Kind.entry k) hang_reached).1 in
        let l = v.long in
        name_component s k (omega arith) (v.entries k hang_reached).name

  names_trail : {t k : ℕ} {cs : List (List ℕ)} → Holder d s t → Names s t cs k → (n : ℕ) × Trail d s t cs k n
  names_trail o none = (0, stay)
  names_trail {t} {k} o (into {b = b} {cs = cs} i h e r) =
      let w = names_trail (inr (hang_reached t i b o h, e)) r in
      let q = hang_key t i b o h in (
        h.position + 1 + w.0,
        down {k = k} {n = w.0} {cs = cs} h.position (hang_first t i b o h) (rw q e)
            (rw q w.1),
      )

  names_good : {t k : ℕ} {cs : List (List ℕ)} → Holder d s t → Names s t cs k → Components cs
  names_good o none c m = absurd m
  names_good {t} o (into {b = b} i h e r) c (inl y) = rw y (hang_component t i b o h)
  names_good {t} o (into {b = b} i h e r) c (inr m) = names_good (inr (hang_reached t i b o h, e)) r c m

  pub names_holder : {t k : ℕ} {cs : List (List ℕ)} → Holder d s t → Names s t cs k → Holder d s k
  names_holder o none = o
  names_holder {t} o (into {b = b} i h e r) = names_holder (inr (hang_reached t i b o h, e)) r

  module _ (k : ℕ) (h : Lies s (root_of d) k) where
    abbrev names : List (List ℕ)
    names = h.front ++ (name_of s k ∷ [])

    holder : Holder d s h.parent
    holder = names_holder (inl refl) h.above

    good : Components names
    good c m = go (in_either c h.front (name_of s k ∷ []) m)
      where
        go : (c ∈ h.front) ⊎ (c ∈ (name_of s k ∷ [])) → is_component c ≡ true
        go (inl a) = names_good (inl refl) h.above c a
        go (inr (inl e)) = rw e (hang_component h.parent h.slot k holder h.hangs)
        go (inr (inr a)) = absurd a

    opens : length (path_of s (root_of d) k h) ≤ longest_path → Opened d s (path_of s (root_of d) k h)
    opens l =
        record {
          long = v.long;
          form = joined_form names good l;
          tag = v.tag;
          root = (root_sound d s).0 (root_passes d s (v.sums (to Kind.root (root_of d)) (top refl) refl) v.top);
        }

    parts : components (path_of s (root_of d) k h) ≡ names
    parts = components_joined names good

    found : (b : Bool) → directory s k ≡ b → length (path_of s (root_of d) k h) ≤ longest_path
        → (n : ℕ) ×
        (find_of d s (path_of s (root_of d) k h) ≡ pick b (Ok (Directory k n)) (Ok (File k (size_of s k) n)))
    unfolding pick
    found true e l =
        let w = names_trail (inl refl) (names_end s h.above h.slot k h.hangs e) in
        (w.0, (directory_exactly d s (path_of s (root_of d) k h) k w.0).1 (opens l, rw parts w.1))
    found false e l =
        let w = names_trail (inl refl) h.above in
        let q = hang_key h.parent h.slot k holder h.hangs in
        let n = w.0 + (h.hangs.position + 1) in (
          n,
          (file_exactly d s (path_of s (root_of d) k h) k (size_of s k) n).1
              (record {
                opened = opens l;
                comes = record {
                  front = h.front;
                  name = name_of s k;
                  back = [];
                  parts = parts;
                  parent = h.parent;
                  compared = w.0;
                  trail = w.1;
                };
                position = h.hangs.position;
                found = hang_first h.parent h.slot k holder h.hangs;
                kind = rw q e;
                last = refl;
                key = q;
                size = rw q;
                count = refl;
              }),
        )

    -- It is found by its path, if that is not too long, with its own key and kind.
    pub reached_found : length (path_of s (root_of d) k h) ≤ longest_path
        → (n : ℕ) × (find_of d s (path_of s (root_of d) k h) ≡ pick (directory s k) (Ok (Directory k n))
        (Ok (File k (size_of s k) n)))
    reached_found l = found (directory s k) refl l

    -- A path that is too long is 18 at 0.
    pub reached_far : longest_path < length (path_of s (root_of d) k h)
        → find_of d s (path_of s (root_of d) k h) ≡ refuse fault.path_form 0
    reached_far l = (refused_exactly d s (path_of s (root_of d) k h) 18 0).1 (number_18 v.long (long l refl) refl)
