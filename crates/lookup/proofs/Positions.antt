-- What a search says, position by position: the first position that is not an entry with another name decides.
-- Assumes nothing.
use Prim.Native.Nat.{ℕ, zero, suc, ◌+◌, ◌≤◌, ◌<◌}
use mathlib.Core.Path.{◌≡◌, refl, sym, ap, ◌∙◌}
use mathlib.Core.Logic.{◌≢◌, ◌↔◌}
use mathlib.Core.Bool.{Bool, true, false}
use mathlib.Core.List.{List}
use native.Mathlib.Omega.{arith}
use native.Mathlib.Decide.{dec_lt}
use lib.Dec.{eqb}
use borrow.Author.Tests.{eq-eqb, ne_eqb, eqb-true, eqb-false}
use Rattle.std.specs.Prelude.{Ok, Err, Some, None}
use Rattle.answers.specs.Tests.{pick}
use Rattle.answers.specs.Refusals.{refusal}
use Rattle.answers.proofs.Clashes.{impossible}
use Rattle.volume.specs.declared.disk.Disk.{Disk}
use Rattle.volume.specs.Disks.{chain_limit}
use Rattle.volume.specs.Names.{same, name_of}
use Rattle.volume.proofs.Names.{same_map, map_same}
use Rattle.lookup.specs.Search.{position_key, visit, search_from, search_of, Step, hit}
use Rattle.lookup.specs.declared.chain.Hit.{Hit}
use Rattle.lookup.specs.Trails.{Tests, Equal, Others, First, Over}
use Rattle.lookup.proofs.Chains.{fault_at, tests_pass, pass_tests}

-- position p ends the search: it has the name, or none, or an entry that fails its tests
pub data Decides (d : Disk) (s : List ℕ) (t : ℕ) (name : List ℕ) (p : ℕ) (r : Step) : Type 0 where
  equal : Tests d s t name p → Equal d s t name p → r ≡ Ok (Some (hit (position_key d s t name p) (p + 1)))
      → Decides d s t name p r
  over : position_key d s t name p ≡ 0 → r ≡ Ok None → Decides d s t name p r
  fails : position_key d s t name p ≢ 0 → fault_at d s t name p ≢ 0
      → r ≡ Err (refusal (fault_at d s t name p) (position_key d s t name p)) → Decides d s t name p r

-- the search from position f on
pub record Searched (d : Disk) (s : List ℕ) (t : ℕ) (name : List ℕ) (f : ℕ) (r : Step) : Type 0 where
  pub position : ℕ
  pub from : f ≤ position
  pub others : Others d s t name f position
  pub decides : Decides d s t name position r

module _ (d : Disk) (s : List ℕ) (t : ℕ) (name : List ℕ) where
  abbrev key : ℕ → ℕ
  key p = position_key d s t name p

  -- one more position in front
  later : (f : ℕ) (r : Step) → Tests d s t name f → (Equal d s t name f → ⊥) → Searched d s t name (f + 1) r
      → Searched d s t name f r
  later f r a b h =
      let l : f + 1 ≤ h.position = h.from in
      record { position = h.position; from = omega arith; others = others'; decides = h.decides }
    where
      others' : Others d s t name f h.position
      others' q u v = go (dec_lt f q)
        where
          go : Dec (f < q) → Tests d s t name q × (Equal d s t name q → ⊥)
          go (yes w) = h.others q (omega arith) v
          go (no w) = let e : q ≡ f = omega arith in rw e (a, b)

  from_position : (n f : ℕ) → f + n ≡ chain_limit d + 1 → f ≤ chain_limit d
      → Searched d s t name f (search_from d s t name n f)
  unfolding search_from pick
  from_position zero f e l = absurd (omega arith)
  from_position (suc n) f e l =
      go (eqb (key f) 0) refl (eqb (fault_at d s t name f) 0) refl (same d (name_of s (key f)) name) refl
      (from_position n (f + 1))
    where
      on : Step
      on = search_from d s t name n (f + 1)

      none : Others d s t name f f
      none q u v = absurd (omega arith)

      go : (a : Bool) → eqb (key f) 0 ≡ a → (b : Bool) → eqb (fault_at d s t name f) 0 ≡ b → (c : Bool)
          → same d (name_of s (key f)) name ≡ c
          → (f + 1 + n ≡ chain_limit d + 1 → f + 1 ≤ chain_limit d
          → Searched d s t name (f + 1) (search_from d s t name n (f + 1)))
          → Searched d s t name f (pick a (Ok None)
          (pick b (pick c (Ok (Some (hit (key f) (f + 1)))) (search_from d s t name n (f + 1)))
          (Err (refusal (fault_at d s t name f) (key f)))))
      go true p b q c u ih =
          record { position = f; from = omega arith; others = none; decides = over (eqb-true _ _ p) refl }
      go false p false q c u ih =
          record {
            position = f;
            from = omega arith;
            others = none;
            decides = fails (eqb-false _ _ p) (eqb-false _ _ q) refl;
          }
      go false p true q true u ih =
          record {
            position = f;
            from = omega arith;
            others = none;
            decides = equal (pass_tests d s t name f (eqb-false _ _ p) (eqb-true _ _ q)) (same_map d _ _ u) refl;
          }
      go false p true q false u ih =
          let z = pass_tests d s t name f (eqb-false _ _ p) (eqb-true _ _ q) in
          let m = z.near in
          later f _ z differ (ih (omega arith) (omega arith))
        where
          differ : Equal d s t name f → ⊥
          differ h =
              let w : same d (name_of s (key f)) name ≡ true = map_same d _ _ h in
              let y : ◌≡◌ {A = ℕ} 0 1 = cc in omega arith

  -- a search is as its first deciding position says
  pub searched : Searched d s t name 0 (search_of d s t name)
  unfolding search_of
  searched = from_position (chain_limit d + 1) 0 (omega arith) (omega arith)

  only_from : (n f : ℕ) (r : Step) → f + n ≡ chain_limit d + 1 → f ≤ chain_limit d → Searched d s t name f r
      → r ≡ search_from d s t name n f
  unfolding search_from pick
  only_from zero f r e l h = absurd (omega arith)
  only_from (suc n) f r e l h = go (dec_lt f h.position) (only_from n (f + 1) r)
    where
      all : Step
      all = visit d s name f (key f) (fault_at d s t name f) (search_from d s t name n (f + 1))

      -- f is an entry with another name
      skip : Tests d s t name f → (Equal d s t name f → ⊥) → search_from d s t name n (f + 1) ≡ all
      skip a b =
          rw (
            ne_eqb _ 0 a.some,
            eq-eqb _ 0 (tests_pass d s t name f a),
            differs (same d (name_of s (key f)) name) refl,
          )
        where
          differs : (c : Bool) → same d (name_of s (key f)) name ≡ c → same d (name_of s (key f)) name ≡ false
          differs true q = absurd (b (same_map d _ _ q))
          differs false q = q

      -- or it decides
      here : Decides d s t name f r → r ≡ all
      here (equal a b q) = q ∙ (rw (ne_eqb _ 0 a.some, eq-eqb _ 0 (tests_pass d s t name f a), map_same d _ _ b))
      here (over a q) = q ∙ (rw (eq-eqb _ 0 a))
      here (fails a b q) = q ∙ (rw (ne_eqb _ 0 a, ne_eqb _ 0 b))

      go : Dec (f < h.position)
          → (f + 1 + n ≡ chain_limit d + 1 → f + 1 ≤ chain_limit d → Searched d s t name (f + 1) r
          → r ≡ search_from d s t name n (f + 1))
          → r ≡ all
      go (yes w) ih =
          let o = h.others f (omega arith) w in
          let m = o.0.near in
          ih (omega arith) (omega arith)
          (record {
            position = h.position;
            from = omega arith;
            others = λ q u v. h.others q (omega arith) v;
            decides = h.decides;
          }) ∙ skip o.0 o.1
      go (no w) ih = let l' = h.from in let x : h.position ≡ f = omega arith in here (rw x at h.decides)

  -- and of no other outcome is that so
  pub searched_only : (r : Step) → Searched d s t name 0 r → r ≡ search_of d s t name
  unfolding search_of
  searched_only r h = only_from (chain_limit d + 1) 0 r (omega arith) (omega arith) h

-- ---- each outcome exactly then

-- the entry at position p is the first that fails its tests, and every entry before it has another name
pub record Fails (d : Disk) (s : List ℕ) (t : ℕ) (name : List ℕ) (p : ℕ) : Type 0 where
  pub some : position_key d s t name p ≢ 0
  pub fault : fault_at d s t name p ≢ 0
  pub others : Others d s t name 0 p

module _ (d : Disk) (s : List ℕ) (t : ℕ) (name : List ℕ) where
  -- one of the three holds
  pub data Outcome (r : Step) : Type 0 where
    at : (p : ℕ) → First d s t name p → r ≡ Ok (Some (hit (position_key d s t name p) (p + 1))) → Outcome r
    ended : (p : ℕ) → Over d s t name p → r ≡ Ok None → Outcome r
    faulty : (p : ℕ) → Fails d s t name p → r ≡ Err (refusal (fault_at d s t name p) (position_key d s t name p))
        → Outcome r

  pub outcome : Outcome (search_of d s t name)
  outcome = let h = searched d s t name in go h.position h.others h.decides
    where
      go : (p : ℕ) → Others d s t name 0 p → Decides d s t name p (search_of d s t name)
          → Outcome (search_of d s t name)
      go p o (equal a b q) = at p (record { tests = a; named = b; others = o }) q
      go p o (over a q) = ended p (record { ended = a; others = o }) q
      go p o (fails a b q) = faulty p (record { some = a; fault = b; others = o }) q

  module _ (p : ℕ) where
    pub search_first : First d s t name p → search_of d s t name ≡ Ok (Some (hit (position_key d s t name p) (p + 1)))
    search_first h =
        sym (searched_only d s t name _
        (record {
          position = p;
          from = omega arith;
          others = h.others;
          decides = equal h.tests h.named refl;
        }))

    pub search_over : Over d s t name p → search_of d s t name ≡ Ok None
    search_over h =
        sym (searched_only d s t name _
        (record { position = p; from = omega arith; others = h.others; decides = over h.ended refl }))

    pub search_fails : Fails d s t name p
        → search_of d s t name ≡ Err (refusal (fault_at d s t name p) (position_key d s t name p))
    search_fails h =
        sym (searched_only d s t name _
        (record {
          position = p;
          from = omega arith;
          others = h.others;
          decides = fails h.some h.fault refl;
        }))

  -- what is found is the entry at the first position p of the chain that has the component's folded name, and p + 1
  -- entries were compared
  pub first_equal_name : (k m : ℕ)
      → (search_of d s t name ≡ Ok (Some (hit k m)))
      ↔ ((p : ℕ) × First d s t name p × (k ≡ position_key d s t name p) × (m ≡ p + 1))
  first_equal_name k m = (go outcome, λ h. search_first h.0 h.1 ∙ (rw (h.2, h.3)))
    where
      go : Outcome (search_of d s t name) → search_of d s t name ≡ Ok (Some (hit k m))
          → (p : ℕ) × First d s t name p × (k ≡ position_key d s t name p) × (m ≡ p + 1)
      go (at p h q) e =
          let x : hit k m ≡ hit (position_key d s t name p) (p + 1) = cc in
          (p, h, ap (λ (h : Hit). h.key) x, ap (λ (h : Hit). h.compared) x)
      go (ended p h q) e = impossible cc
      go (faulty p h q) e = impossible cc

  -- a component compares no more entries than a chain may have
  pub compared_most : (k m : ℕ) → search_of d s t name ≡ Ok (Some (hit k m)) → m ≤ chain_limit d
  compared_most k m e =
      let h = (first_equal_name k m).0 e in
      let n = h.1.tests.near in
      let c = h.3 in
      omega arith

  -- a chain that is searched through has no more entries than the limit
  pub positions_few : (p : ℕ) → Others d s t name 0 p → p ≤ chain_limit d
  positions_few zero o = omega arith
  positions_few (suc p) o = let h = (o p (omega arith) (omega arith)).0.near in omega arith
