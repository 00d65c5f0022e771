-- What a lookup says of a list of components: how far they lead, and what decides there. Assumes nothing.
use Prim.Native.Nat.{ℕ, suc, ◌+◌}
use mathlib.Core.Path.{◌≡◌, refl, sym, ap, ◌∙◌}
use mathlib.Core.Bool.{Bool, true, false}
use mathlib.Core.List.{List, [], ◌∷◌, ◌++◌, append-nil}
use native.Mathlib.Omega.{arith}
use lib.ListN.{length}
use Rattle.answers.specs.declared.Refusal.{Refusal}
use Rattle.std.specs.Prelude.{Result, Ok}
use Rattle.answers.specs.Numbers as fault
use Rattle.answers.specs.Tests.{pick}
use Rattle.answers.proofs.Clashes.{impossible}
use Rattle.volume.specs.declared.disk.Disk.{Disk}
use Rattle.volume.specs.Blocks.{directory}
use Rattle.volume.specs.Files.{size_of}
use Rattle.lookup.specs.declared.find.Found.{Found}
use Rattle.lookup.specs.declared.find.Found.TheVariants.{Directory, File}
use Rattle.lookup.specs.Search.{position_key, search_of}
use Rattle.lookup.specs.Lookup.{refuse, file_at, lookup_from}
use Rattle.lookup.specs.Trails.{First, Over, Trail, stay, down, Comes}
use Rattle.lookup.proofs.Chains.{fault_at}
use Rattle.lookup.proofs.Positions.{Fails, Outcome, at, ended, faulty, outcome, search_first, search_over}
use Rattle.lookup.proofs.Positions.{search_fails}

-- what decides a lookup of the components cs from directory t on, the first of which is number i, n entries compared
-- before
pub data Leads (d : Disk) (s : List ℕ) (t i n : ℕ) (cs : List (List ℕ)) (r : Result Found Refusal) : Type 0 where
  -- all lead to directories
  holds : (k m : ℕ) → Trail d s t cs k m → r ≡ Ok (Directory k (n + m)) → Leads d s t i n cs r
  -- the last leads to a file
  file : (w : Comes d s t cs) (p : ℕ) → First d s w.parent w.name p
      → directory s (position_key d s w.parent w.name p) ≡ false → w.back ≡ []
      → r ≡ Ok (File (position_key d s w.parent w.name p) (size_of s (position_key d s w.parent w.name p))
      (n + (w.compared + (p + 1))))
      → Leads d s t i n cs r
  -- one before the last does
  used : (w : Comes d s t cs) (p : ℕ) → First d s w.parent w.name p
      → directory s (position_key d s w.parent w.name p) ≡ false → (w.back ≡ [] → ⊥)
      → r ≡ refuse fault.wrong_kind (i + length w.front) → Leads d s t i n cs r
  -- a chain has ended
  missing : (w : Comes d s t cs) (p : ℕ) → Over d s w.parent w.name p
      → r ≡ refuse fault.not_found (i + length w.front)
      → Leads d s t i n cs r
  -- an entry fails its tests
  failing : (w : Comes d s t cs) (p : ℕ) → Fails d s w.parent w.name p
      → r ≡ refuse (fault_at d s w.parent w.name p) (position_key d s w.parent w.name p)
      → Leads d s t i n cs r

module _ (d : Disk) (s : List ℕ) where
  -- ---- a lookup goes along a trail

  below : (t i n : ℕ) (c : List ℕ) (cs : List (List ℕ)) (p : ℕ) → First d s t c p
      → directory s (position_key d s t c p) ≡ true
      → lookup_from d s t i n (c ∷ cs) ≡ lookup_from d s (position_key d s t c p) (i + 1) (n + (p + 1)) cs
  unfolding lookup_from pick
  below t i n c cs p f e = rw (search_first d s t c p f, e)

  pub along : {t k m : ℕ} {cs : List (List ℕ)} → Trail d s t cs k m → (i n : ℕ) (back : List (List ℕ))
      → lookup_from d s t i n (cs ++ back) ≡ lookup_from d s k (i + length cs) (n + m) back
  along {t} stay i n back =
      let a : i + 0 ≡ i = omega arith in
      let b : n + 0 ≡ n = omega arith in
      rw (a, b)
  along {t} {k} (down {n = m} {c = c} {cs = cs} p f e h) i n back =
      let a : i + 1 + length cs ≡ i + suc (length cs) = omega arith in
      let b : n + (p + 1) + m ≡ n + (p + 1 + m) = omega arith in
      below t i n c (cs ++ back) p f e ∙ along h (i + 1) (n + (p + 1)) back ∙ (rw (a, b))

  -- ---- every lookup is decided so

  module _ (t : ℕ) (c : List ℕ) (cs : List (List ℕ)) where
    -- the first component
    abbrev first : Comes d s t (c ∷ cs)
    first = record { front = []; name = c; back = cs; parts = refl; parent = t; compared = 0; trail = stay }

    module _ (p : ℕ) (f : First d s t c p) (e : directory s (position_key d s t c p) ≡ true) where
      -- one after it
      abbrev further : Comes d s (position_key d s t c p) cs → Comes d s t (c ∷ cs)
      further w =
          record {
            front = c ∷ w.front;
            name = w.name;
            back = w.back;
            parts = ap (λ l. c ∷ l) w.parts;
            parent = w.parent;
            compared = p + 1 + w.compared;
            trail = down p f e w.trail;
          }

      deeper : (i n : ℕ) (r : Result Found Refusal) → Leads d s (position_key d s t c p) (i + 1) (n + (p + 1)) cs r
          → Leads d s t i n (c ∷ cs) r
      deeper i n r (holds k m h q) =
          let x : n + (p + 1) + m ≡ n + (p + 1 + m) = omega arith in holds k (p + 1 + m) (down p f e h) (rw x at q)
      deeper i n r (file w p' g u v q) =
          let x : n + (p + 1) + (w.compared + (p' + 1)) ≡ n + (p + 1 + w.compared + (p' + 1)) = omega arith in
          file (further w) p' g u v (rw x at q)
      deeper i n r (used w p' g u v q) =
          let x : i + 1 + length w.front ≡ i + suc (length w.front) = omega arith in
          used (further w) p' g u v (rw x at q)
      deeper i n r (missing w p' g q) =
          let x : i + 1 + length w.front ≡ i + suc (length w.front) = omega arith in
          missing (further w) p' g (rw x at q)
      deeper i n r (failing w p' g q) = failing (further w) p' g q

  pub leads : (t i n : ℕ) (cs : List (List ℕ)) → Leads d s t i n cs (lookup_from d s t i n cs)
  unfolding lookup_from pick
  leads t i n [] = let x : n + 0 ≡ n = omega arith in holds t 0 stay (rw x)
  leads t i n (c ∷ cs) = go (outcome d s t c) (λ k m. leads k (i + 1) m cs)
    where
      here : i + 0 ≡ i
      here = omega arith

      is : (p : ℕ) → First d s t c p → directory s (position_key d s t c p) ≡ false
          → lookup_from d s t i n (c ∷ cs) ≡ file_at s i (n + (p + 1)) cs (position_key d s t c p)
      is p f e = rw (search_first d s t c p f, e)

      ends : (l : List (List ℕ)) → cs ≡ l → (p : ℕ) → First d s t c p → directory s (position_key d s t c p) ≡ false
          → Leads d s t i n (c ∷ cs) (lookup_from d s t i n (c ∷ cs))
      ends [] x p f e =
          let y : 0 + (p + 1) ≡ p + 1 = omega arith in
          file (first t c cs) p f e x
          (rw y (is p f e ∙ ap (λ l. file_at s i (n + (p + 1)) l (position_key d s t c p)) x))
      ends (b ∷ l) x p f e =
          used (first t c cs) p f e (λ y. impossible cc)
          (is p f e ∙ ap (λ l. file_at s i (n + (p + 1)) l (position_key d s t c p)) x ∙ (rw here))

      which : (b : Bool) (p : ℕ) → First d s t c p → directory s (position_key d s t c p) ≡ b
          → ((k m : ℕ) → Leads d s k (i + 1) m cs (lookup_from d s k (i + 1) m cs))
          → Leads d s t i n (c ∷ cs) (lookup_from d s t i n (c ∷ cs))
      which true p f e ih =
          deeper t c cs p f e i n _ (rw (below t i n c cs p f e) (ih (position_key d s t c p) (n + (p + 1))))
      which false p f e ih = ends cs refl p f e

      go : Outcome d s t c (search_of d s t c) → ((k m : ℕ) → Leads d s k (i + 1) m cs (lookup_from d s k (i + 1) m cs))
          → Leads d s t i n (c ∷ cs) (lookup_from d s t i n (c ∷ cs))
      go (at p f q) ih = which (directory s (position_key d s t c p)) p f refl ih
      go (ended p f q) ih = missing (first t c cs) p f (rw (q, here))
      go (faulty p f q) ih = failing (first t c cs) p f (rw q)

  -- ---- and what decides it determines it

  pub leads_only : (t i n : ℕ) (cs : List (List ℕ)) (r : Result Found Refusal) → Leads d s t i n cs r
      → r ≡ lookup_from d s t i n cs
  unfolding lookup_from pick
  leads_only t i n cs r h = go h
    where
      to : (w : Comes d s t cs)
          → lookup_from d s t i n cs ≡ lookup_from d s w.parent (i + length w.front) (n + w.compared)
          (w.name ∷ w.back)
      to w = ap (lookup_from d s t i n) w.parts ∙ along w.trail i n (w.name ∷ w.back)

      -- a file that the component of w leads to
      ends : (w : Comes d s t cs) (p : ℕ) → First d s w.parent w.name p
          → directory s (position_key d s w.parent w.name p) ≡ false
          → lookup_from d s t i n cs ≡ file_at s (i + length w.front) (n + w.compared + (p + 1)) w.back
          (position_key d s w.parent w.name p)
      ends w p f e = to w ∙ (rw (search_first d s w.parent w.name p f, e))

      used_is : (k j m : ℕ) (l : List (List ℕ)) → (l ≡ [] → ⊥) → file_at s j m l k ≡ refuse fault.wrong_kind j
      used_is k j m [] b = absurd (b refl)
      used_is k j m (x ∷ l) b = refl

      go : Leads d s t i n cs r → r ≡ lookup_from d s t i n cs
      go (holds k m h q) = q ∙ sym (ap (lookup_from d s t i n) (sym (append-nil cs)) ∙ along h i n [])
      go (file w p f e b q) =
          let x : n + (w.compared + (p + 1)) ≡ n + w.compared + (p + 1) = omega arith in
          q ∙ (rw x (sym (ends w p f e
          ∙ ap (λ l. file_at s (i + length w.front) (n + w.compared + (p + 1)) l
          (position_key d s w.parent w.name p)) b)))
      go (used w p f e b q) = q ∙ sym (ends w p f e ∙ used_is _ _ _ w.back b)
      go (missing w p f q) = q ∙ sym (to w ∙ (rw (search_over d s w.parent w.name p f)))
      go (failing w p f q) = q ∙ sym (to w ∙ (rw (search_fails d s w.parent w.name p f)))
