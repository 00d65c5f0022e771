-- The way to an entry of a tree is one: a find comes to it if and only if the folded names are those of its path. So
-- where the entry is gone, each path at its path or below it is 19 (`path_gone`), and each other answers alike, but for
-- how many entries were compared (`path_stays`). Assumes nothing.
use Rattle.std.specs.Prelude.{Ok, Some, None}
use Prim.Native.Nat.{ℕ, ◌+◌, ◌-◌}
use mathlib.Core.Path.{◌≡◌, refl, sym, ap, ap₂, ◌∙◌, subst}
use mathlib.Core.Logic.{◌≢◌, ◌⊎◌, inl, inr}
use mathlib.Core.Bool.{true}
use mathlib.Core.List.{List, [], ◌∷◌, ◌++◌, map, map-append, append-nil, append_assoc, head-eq_of_cons-eq}
use mathlib.Core.List.{tail-eq_of_cons-eq}
use native.Mathlib.Omega.{arith}
use lib.ListN.{length, length-append, length-map}
use Rattle.answers.specs.Numbers as fault
use Rattle.answers.specs.Tests.{pick}
use Rattle.answers.proofs.Clashes.{impossible}
use Rattle.reach.specs.References.{Reached}
use Rattle.volume.specs.declared.disk.Disk.{Disk}
use Rattle.volume.specs.Disks.{root_of}
use Rattle.volume.specs.Blocks.{word_of, directory}
use Rattle.volume.specs.Names.{name_of, folded, slot_of}
use Rattle.volume.specs.References.{Kind, to, references}
use Rattle.volume.specs.Law.{Tree}
use Rattle.walk.proofs.Positions.{Holder}
use Rattle.lookup.specs.Paths.{components, path_fault}
use Rattle.lookup.specs.declared.chain.Hit.{Hit}
use Rattle.lookup.specs.Search.{position_key, search_of, hit}
use Rattle.lookup.specs.Lookup.{refuse, lookup_from, and, find_of}
use Rattle.lookup.specs.Trails.{First, Trail, stay, down}
use Rattle.lookup.proofs.Chains.{slot_below}
use Rattle.lookup.proofs.OnTrees.{first_reached, trail_holder}
use Rattle.lookup.proofs.Refusing.{directory_exactly, file_exactly}
use Rattle.reading.specs.Reads.{last_component}
use Rattle.tree.proofs.SameTrees.{not_root}
use Rattle.finds.specs.Answers.{Like, LeadsTo, to_file, to_directory, Under}
use Rattle.finds.proofs.Holdings.{In, hangs_in, in_holder, Gives, one, no_one, gives}
use Rattle.finds.proofs.Likes.{Lacks, Misses, find_components, find_like, search_stays, search_gone}

-- ---- the last of a list

record Last {A B : Type 0} (f : A → B) (l : List A) (xs : List B) (b : B) : Type 0 where
  front : List A
  last : A
  split : l ≡ front ++ (last ∷ [])
  before : map f front ≡ xs
  here : f last ≡ b

map_none : {A B : Type 0} (f : A → B) (l : List A) → map f l ≡ [] → l ≡ []
map_none f [] e = refl
map_none f (y ∷ l) e = impossible cc

map_last : {A B : Type 0} (f : A → B) (l : List A) (xs : List B) (b : B) → map f l ≡ xs ++ (b ∷ []) → Last f l xs b
map_last f [] [] b e = impossible cc
map_last f [] (x ∷ xs) b e = impossible cc
map_last f (y ∷ l) [] b e =
    record {
      front = [];
      last = y;
      split = ap (λ m. y ∷ m) (map_none f l (tail-eq_of_cons-eq e));
      before = refl;
      here = head-eq_of_cons-eq e;
    }
map_last f (y ∷ l) (x ∷ xs) b e =
    let w = map_last f l xs b (tail-eq_of_cons-eq e) in
    record {
      front = y ∷ w.front;
      last = w.last;
      split = ap (λ m. y ∷ m) w.split;
      before = ap₂ (λ a m. a ∷ m) (head-eq_of_cons-eq e) w.before;
      here = w.here;
    }

-- ---- the way to an entry

-- the folded names fs lead from the root down to y
data Way (d : Disk) (s : List ℕ) : ℕ → List (List ℕ) → Type 0 where
  at_root : {y : ℕ} {fs : List (List ℕ)} → y ≡ root_of d → fs ≡ [] → Way d s y fs
  into : {y : ℕ} {fs : List (List ℕ)} (x : ℕ) (gs : List (List ℕ)) → Way d s x gs → In d s x y
      → fs ≡ gs ++ (folded d (name_of s y) ∷ []) → Way d s y fs

module _ (d : Disk) (s : List ℕ) (v : Tree d s) where
  in_not_root : (x y : ℕ) → In d s x y → y ≢ root_of d
  in_not_root x y h = not_root d s v (to Kind.entry y) h.reached tt

  way_one : {y z : ℕ} {fs gs : List (List ℕ)} → Way d s y fs → Way d s z gs → y ≡ z → fs ≡ gs
  way_one (at_root a b) (at_root a' b') e = b ∙ sym b'
  way_one (at_root a b) (into {y = z} x' gs' w' h' q') e = absurd (in_not_root x' z h' (sym e ∙ a))
  way_one (into {y = y} x gs w h q) (at_root a' b') e = absurd (in_not_root x y h (e ∙ a'))
  way_one (into x gs w h q) (into x' gs' w' h' q') e =
      let p = way_one w w' (sym h.parent ∙ ap (λ b. word_of s b 125) e ∙ h'.parent) in
      q ∙ ap₂ (λ l b. l ++ (folded d (name_of s b) ∷ [])) p e ∙ sym q'

  -- one component more
  way_step : (done : List (List ℕ)) (c : List ℕ) (x y : ℕ) → Way d s x (map (folded d) done) → In d s x y
      → folded d (name_of s y) ≡ folded d c → Way d s y (map (folded d) (done ++ (c ∷ [])))
  way_step done c x y w h e =
      into x (map (folded d) done) w h
      (map-append (folded d) done (c ∷ []) ∙ ap (λ z. map (folded d) done ++ (z ∷ [])) (sym e))

  first_in : (x : ℕ) (c : List ℕ) (p : ℕ) → Holder d s x → First d s x c p → In d s x (position_key d s x c p)
  first_in x c p o f =
      hangs_in d s v x (slot_of d c) (position_key d s x c p) o
      (record { slot = slot_below d c (slot_of d c) refl; position = p; there = refl; some = f.tests.some })

  trail_way : {x y n : ℕ} {cs : List (List ℕ)} → Trail d s x cs y n → Holder d s x → (done : List (List ℕ))
      → Way d s x (map (folded d) done) → Way d s y (map (folded d) (done ++ cs))
  trail_way {x} stay o done w = subst (λ l. Way d s x (map (folded d) l)) (sym (append-nil done)) w
  trail_way {x} {y} (down {c = c} {cs = cs} p f e r) o done w =
      let k = position_key d s x c p in
      let a =
      trail_way r (inr (first_reached d s v x c o p f, e)) (done ++ (c ∷ []))
      (way_step done c x k w (first_in x c p o f) f.named) in
      subst (λ l. Way d s y (map (folded d) l)) (append_assoc done (c ∷ []) cs) a

  from_root_lem : Way d s (root_of d) (map (folded d) [])
  from_root_lem = at_root refl refl

  -- a path that leads to an entry is the way to it
  path_way : (p : List ℕ) (k : ℕ) → LeadsTo d s p k → Way d s k (map (folded d) (components p))
  path_way p k (to_directory n e g) = trail_way ((directory_exactly d s p k n).0 e).1 (inl refl) [] from_root_lem
  path_way p k (to_file z n e) =
      let h = (file_exactly d s p k z n).0 e in
      let w = h.comes in
      let o = trail_holder d s v w.trail (inl refl) in
      let a = trail_way w.trail (inl refl) [] from_root_lem in
      let b =
      way_step w.front w.name w.parent _ a (first_in w.parent w.name h.position o h.found)
      h.found.named in
      let q : components p ≡ w.front ++ (w.name ∷ []) = w.parts ∙ ap (λ l. w.front ++ (w.name ∷ l)) h.last in
      subst (λ y. Way d s y (map (folded d) (components p))) h.key
      (subst (λ l. Way d s (position_key d s w.parent w.name h.position) (map (folded d) l)) (sym q) b)

  -- ---- a path that does not begin so does not come to it

  module _ (k : ℕ) (names : List (List ℕ)) (to-k : Way d s k names) where
    -- no components that these begin with have the names
    abbrev Else : List (List ℕ) → Type 0
    Else all = (front back : List (List ℕ)) → all ≡ front ++ back → map (folded d) front ≢ names

    -- what the components cs from directory x on ask, after those done
    abbrev Asked : List (List ℕ) → List (List ℕ) → ℕ → Type 0
    Asked cs done x = Holder d s x → Way d s x (map (folded d) done) → Else (done ++ cs) → Misses d s k x cs

    misses_next : (c : List ℕ) (cs done : List (List ℕ)) (x : ℕ) → ((y : ℕ) → Asked cs (done ++ (c ∷ [])) y)
        → Asked (c ∷ cs) done x
    misses_next c cs done x ih o w n y m e = go (gives d s v x c o)
      where
        parts : done ++ (c ∷ cs) ≡ (done ++ (c ∷ [])) ++ cs
        parts = sym (append_assoc done (c ∷ []) cs)

        there : (z : ℕ) → z ≡ y → In d s x z → folded d (name_of s z) ≡ folded d c
            → (y ≢ k) × (directory s y ≡ true → Misses d s k y cs)
        there z r h q =
            let a = subst (λ b. Way d s b (map (folded d) (done ++ (c ∷ [])))) r (way_step done c x z w h q) in (
              (λ f. n (done ++ (c ∷ [])) cs parts (way_one a to-k f)),
              (λ f. ih y (inr (subst (λ b. Reached (references d s) (to Kind.entry b)) r h.reached, f)) a
                  (λ front back b. n front back (parts ∙ b))),
            )

        go : Gives d s x c (search_of d s x c) → (y ≢ k) × (directory s y ≡ true → Misses d s k y cs)
        go (one z l f h q) =
            let a : hit z l ≡ hit y m = cc in there z (ap (λ (b : Hit). b.key) a) h q
        go (no_one f h) = impossible cc

    misses : (cs done : List (List ℕ)) (x : ℕ) → Asked cs done x
    misses [] done x o w n = tt
    misses (c ∷ cs) done x o w n = misses_next c cs done x (λ y. misses cs (done ++ (c ∷ [])) y) o w n

-- ---- a lookup, one component on

lookup_on : (d : Disk) (t : List ℕ) (x y i j n m : ℕ) (b : List ℕ) (cs : List (List ℕ)) → j ≡ i + 1
    → search_of d t x b ≡ Ok (Some (hit y m)) → directory t y ≡ true
    → lookup_from d t x i n (b ∷ cs) ≡ lookup_from d t y j (n + m) cs
unfolding lookup_from pick
lookup_on d t x y i j n m b cs l e f = rw (e, f, l) refl

lookup_ends : (d : Disk) (t : List ℕ) (x i n : ℕ) (b : List ℕ) (cs : List (List ℕ)) → search_of d t x b ≡ Ok None
    → lookup_from d t x i n (b ∷ cs) ≡ refuse fault.not_found i
unfolding lookup_from
lookup_ends d t x i n b cs e = rw e refl

-- ---- where the entry is gone

module _ (d : Disk) (s t : List ℕ) (v : Tree d s) (u : Tree d t) (k : ℕ) (c : Lacks d s t k) (p : List ℕ)
    (leads : LeadsTo d s p k) where
  way : Way d s k (map (folded d) (components p))
  way = path_way d s v p k leads

  -- Every path that is not at p or below it answers alike.
  pub path_stays : (q : List ℕ) → (Under d p q → ⊥) → Like (find_of d s q) (find_of d t q)
  path_stays q n =
      find_like d s t v u k c q (misses d s v k (map (folded d) (components p)) way (components q) [] (root_of d)
      (inl refl) (from_root_lem d s v)
      (λ front back e f. n (record { front = front; back = back; parts = e; same = f })))

  -- a directory that is left is found by its way
  record ComesTo (y : ℕ) (front back : List (List ℕ)) : Type 0 where
    holder : Holder d t y
    compared : ℕ
    comes : lookup_from d t (root_of d) 0 0 (front ++ back) ≡ lookup_from d t y (length front) compared back

  holder_stays : (y : ℕ) → y ≢ k → Holder d s y → Holder d t y
  holder_stays y n (inl e) = inl e
  holder_stays y n (inr w) = go (c.stays y w.0)
    where
      go : (y ≡ k) ⊎ Reached (references d t) (to Kind.entry y) → Holder d t y
      go (inl e) = absurd (n e)
      go (inr r) = inr (r, c.kind y r ∙ w.1)

  -- one component more
  comes_next : (x y : ℕ) (front back : List (List ℕ)) (b : List ℕ) → y ≢ k → Holder d s y → In d s x y
      → folded d (name_of s y) ≡ folded d b → ComesTo x front (b ∷ back) → ComesTo y (front ++ (b ∷ [])) back
  comes_next x y front back b n o h e w = go (search_stays d s t v u k c x b w.holder y n h e) (holder_stays y n o)
    where
      go : (m : ℕ) × (search_of d t x b ≡ Ok (Some (hit y m))) → Holder d t y → ComesTo y (front ++ (b ∷ [])) back
      go m (inl r) = absurd (in_not_root d s v x y h r)
      go m (inr r) =
          record {
            holder = inr r;
            compared = w.compared + m.0;
            comes =
                ap (lookup_from d t (root_of d) 0 0) (append_assoc front (b ∷ []) back) ∙ w.comes
                ∙ lookup_on d t x y (length front) (length (front ++ (b ∷ []))) w.compared m.0 b back
                (length-append front (b ∷ [])) m.1 r.1;
          }

  comes_to : {y : ℕ} {fs : List (List ℕ)} → Way d s y fs → y ≢ k → Holder d s y → (front back : List (List ℕ))
      → map (folded d) front ≡ fs → ComesTo y front back
  comes_to (at_root a b) n o front back e =
      let f = map_none (folded d) front (e ∙ b) in
      record { holder = inl a; compared = 0; comes = rw (f, a) refl }
  comes_to (into {y = y} x gs w h q) n o front back e =
      let l = map_last (folded d) front gs (folded d (name_of s y)) (e ∙ q) in
      let x-not : x ≢ k = λ z. c.empty y (subst (λ b. In d s b y) z h) in
      let ih = comes_to w x-not (in_holder d s v x y h) l.front (l.last ∷ back) l.before in
      subst (λ z. ComesTo y z back) (sym l.split)
      (comes_next x y l.front back l.last n o h (sym l.here) ih)

  gone : {fs : List (List ℕ)} → Way d s k fs → k ≢ root_of d → (front back : List (List ℕ)) → map (folded d) front ≡ fs
      → lookup_from d t (root_of d) 0 0 (front ++ back) ≡ refuse fault.not_found (length front - 1)
  gone (at_root a b) n front back e = absurd (n a)
  gone (into x gs w h q) n front back e =
      let l = map_last (folded d) front gs (folded d (name_of s k)) (e ∙ q) in
      let x-not : x ≢ k = λ z. c.empty k (subst (λ b. In d s b k) z h) in
      let a = comes_to w x-not (in_holder d s v x k h) l.front (l.last ∷ back) l.before in
      let g = search_gone d s t v u k c x l.last a.holder h (sym l.here) in
      let z : length front - 1 ≡ length l.front =
      omega (arith, ap length l.split, length-append l.front (l.last ∷ [])) in
      ap (λ y. lookup_from d t (root_of d) 0 0 (y ++ back)) l.split
      ∙ ap (lookup_from d t (root_of d) 0 0) (append_assoc l.front (l.last ∷ []) back)
      ∙ a.comes ∙ lookup_ends d t x (length l.front) a.compared l.last back g
      ∙ ap (refuse fault.not_found) (sym z)

  -- Every path at p or below it, of a good form, is 19 at the last component of p.
  pub path_gone : Reached (references d s) (to Kind.entry k) → (q : List ℕ) → Under d p q → path_fault q ≡ Ok tt
      → find_of d t q ≡ refuse fault.not_found (last_component p)
  path_gone r q w f =
      let l : length w.front ≡ length (components p) =
      sym (length-map w.front (folded d)) ∙ ap length w.same ∙ length-map (components p) (folded d) in
      find_components d t u q ∙ ap (λ x. and x (lookup_from d t (root_of d) 0 0 (components q))) f
      ∙ ap (lookup_from d t (root_of d) 0 0) w.parts
      ∙ gone way (not_root d s v (to Kind.entry k) r tt) w.front w.back w.same
      ∙ ap (λ n. refuse fault.not_found (n - 1)) l
