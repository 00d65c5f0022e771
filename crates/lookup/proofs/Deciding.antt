-- What every answer of a lookup says: which entry is found exactly then, and what each number and place means.
-- Assumes nothing.
use Prim.Native.Nat.{ℕ, suc, ◌+◌}
use mathlib.Core.Path.{◌≡◌, refl, sym, ap, ◌∙◌}
use mathlib.Core.Logic.{◌≢◌, inl, inr, ◌↔◌}
use mathlib.Core.Bool.{Bool, true, false}
use mathlib.Core.List.{List, [], ◌∷◌, ◌++◌}
use native.Mathlib.Omega.{arith}
use lib.Dec.{eqb, ltb}
use lib.ListN.{length}
use borrow.Author.Tests.{eq-eqb, ne_eqb, eqb-true, eqb-false, lt-ltb, le-ltb, ltb-true, ltb-false}
use Rattle.std.specs.Prelude.{Result, Ok, Err}
use Rattle.reach.specs.References.{◌∈◌}
use Rattle.answers.specs.Numbers as fault
use Rattle.answers.specs.Tests.{pick}
use Rattle.answers.specs.Refusals.{refusal}
use Rattle.answers.specs.declared.Refusal.{Refusal}
use Rattle.answers.proofs.Clashes.{impossible}
use Rattle.words.specs.Word.{word_at}
use Rattle.volume.specs.declared.disk.Disk.{Disk}
use Rattle.volume.specs.Disks.{image_bytes, tag_of, root_of}
use Rattle.volume.specs.Rules.{root_fault}
use Rattle.volume.proofs.Breaks.{root_sound}
use Rattle.lookup.specs.declared.find.Found.{Found}
use Rattle.lookup.specs.Paths.{longest_path, components, is_component, components_fault, path_fault}
use Rattle.lookup.specs.Lookup.{numbers_of, refuse, lookup_from, from_root, and, find_of, Finds}
use Rattle.lookup.specs.Verdicts.{GoodForm, BadComponent, BadForm, long, component, Opened}
use Rattle.lookup.proofs.Trails.{Leads, leads, leads_only}

-- ---- the form of a path

-- a refusal's number and place
pub number_is : {v w i j : ℕ} → refusal v i ≡ refusal w j → v ≡ w
number_is e = ap (λ (r : Refusal). r.number) e

pub place_is : {v w i j : ℕ} → refusal v i ≡ refusal w j → i ≡ j
place_is e = ap (λ (r : Refusal). r.place) e

bad_there : (n i v : ℕ) (cs : List (List ℕ)) → components_fault n cs ≡ Err (refusal v i)
    → (v ≡ 18) × BadComponent n i cs
unfolding components_fault pick
bad_there n i v [] e = impossible cc
bad_there n i v (c ∷ cs) e = go (is_component c) refl e (bad_there (n + 1) i v cs)
  where
    go : (b : Bool) → is_component c ≡ b
        → pick b (components_fault (n + 1) cs) (Err (refusal fault.path_form n)) ≡ Err (refusal v i)
        → (components_fault (n + 1) cs ≡ Err (refusal v i) → (v ≡ 18) × BadComponent (n + 1) i cs)
        → (v ≡ 18) × BadComponent n i (c ∷ cs)
    go true q e ih = ((ih e).0, further (ih e).1)
      where
        further : BadComponent (n + 1) i cs → BadComponent n i (c ∷ cs)
        further w =
            let x : n + 1 + length w.front ≡ n + suc (length w.front) = omega arith in
            record {
              front = c ∷ w.front;
              name = w.name;
              back = w.back;
              parts = ap (λ l. c ∷ l) w.parts;
              good = good';
              bad = w.bad;
              number = rw x at w.number;
            }
          where
            good' : (b : List ℕ) → b ∈ (c ∷ w.front) → is_component b ≡ true
            good' b (inl y) = rw y q
            good' b (inr y) = w.good b y
    go false q e ih =
        let x : refusal fault.path_form n ≡ refusal v i = cc in
        let y : n + 0 ≡ n = omega arith in (
          sym (number_is x),
          record {
            front = [];
            name = c;
            back = cs;
            parts = refl;
            good = λ b h. absurd h;
            bad = q;
            number = rw y (sym (place_is x));
          },
        )

bad_found : (n i : ℕ) (front : List (List ℕ)) (name : List ℕ) (back : List (List ℕ))
    → ((c : List ℕ) → c ∈ front → is_component c ≡ true) → is_component name ≡ false → i ≡ n + length front
    → components_fault n (front ++ (name ∷ back)) ≡ Err (refusal fault.path_form i)
unfolding components_fault pick
bad_found n i [] name back g b e = let x : n + 0 ≡ n = omega arith in rw (b, e, x)
bad_found n i (c ∷ front) name back g b e =
    rw (g c (inl refl)) (bad_found (n + 1) i front name back (λ x h. g x (inr h)) b (omega (arith, e)))

-- 18 is given exactly then, at that component
pub form_exactly : (path : List ℕ) (v i : ℕ) → (path_fault path ≡ Err (refusal v i)) ↔ ((v ≡ 18) × BadForm path i)
unfolding path_fault pick
form_exactly path v i = (there (ltb longest_path (length path)) refl, λ h. back h.0 h.1)
  where
    there : (b : Bool) → ltb longest_path (length path) ≡ b
        → pick b (Err (refusal fault.path_form 0)) (components_fault 0 (components path)) ≡ Err (refusal v i)
        → (v ≡ 18) × BadForm path i
    there true q e =
        let x : refusal fault.path_form 0 ≡ refusal v i = cc in
        (sym (number_is x), long (ltb-true _ _ q) (sym (place_is x)))
    there false q e = let h = bad_there 0 i v (components path) e in (h.0, component (ltb-false _ _ q) h.1)

    back : v ≡ 18 → BadForm path i
        → pick (ltb longest_path (length path)) (Err (refusal fault.path_form 0))
        (components_fault 0 (components path)) ≡ Err
        (refusal v i)
    back x (long l e) = rw (lt-ltb _ _ l, x, e)
    back x (component l w) =
        rw (le-ltb longest_path (length path) l, x)
        (ap (components_fault 0) w.parts ∙ bad_found 0 i w.front w.name w.back w.good w.bad
        w.number)

good_passed : (n : ℕ) (cs : List (List ℕ)) → components_fault n cs ≡ Ok tt → (c : List ℕ) → c ∈ cs
    → is_component c ≡ true
unfolding components_fault pick
good_passed n [] e c m = absurd m
good_passed n (b ∷ cs) e c m = go (is_component b) refl e m (good_passed (n + 1) cs)
  where
    go : (t : Bool) → is_component b ≡ t
        → pick t (components_fault (n + 1) cs) (Err (refusal fault.path_form n)) ≡ Ok tt
        → c ∈ (b ∷ cs) → (components_fault (n + 1) cs ≡ Ok tt → (c : List ℕ) → c ∈ cs → is_component c ≡ true)
        → is_component c ≡ true
    go true q e (inl y) ih = rw y q
    go true q e (inr y) ih = ih e c y
    go false q e m ih = impossible cc

good_passes : (n : ℕ) (cs : List (List ℕ)) → ((c : List ℕ) → c ∈ cs → is_component c ≡ true)
    → components_fault n cs ≡ Ok tt
unfolding components_fault pick
good_passes n [] h = refl
good_passes n (c ∷ cs) h = rw (h c (inl refl)) (good_passes (n + 1) cs (λ x m. h x (inr m)))

-- and the form passes if and only if it is good
pub form_good : (path : List ℕ) → (path_fault path ≡ Ok tt) ↔ GoodForm path
unfolding path_fault pick
form_good path = (
  there (ltb longest_path (length path)) refl,
  λ h. rw (le-ltb longest_path (length path) h.short)
      (good_passes 0 (components path) h.good),
)
  where
    there : (b : Bool) → ltb longest_path (length path) ≡ b
        → pick b (Err (refusal fault.path_form 0)) (components_fault 0 (components path)) ≡ Ok tt → GoodForm path
    there true q e = impossible cc
    there false q e = record { short = ltb-false _ _ q; good = good_passed 0 (components path) e }

-- ---- the whole call

-- what the answer r says
pub data Why (d : Disk) (s path : List ℕ) (r : Result Found Refusal) : Type 0 where
  image : length s ≢ image_bytes d → r ≡ refuse fault.image_length 0 → Why d s path r
  form : length s ≡ image_bytes d → (f : Refusal) → path_fault path ≡ Err f → r ≡ Err f → Why d s path r
  tag : length s ≡ image_bytes d → path_fault path ≡ Ok tt → word_at s 0 ≢ tag_of d → r ≡ refuse fault.boot_tag 0
      → Why d s path r
  root : length s ≡ image_bytes d → path_fault path ≡ Ok tt → word_at s 0 ≡ tag_of d → root_fault d s ≢ 0
      → r ≡ refuse (root_fault d s) (root_of d) → Why d s path r
  leads_to_lem : Opened d s path → Leads d s (root_of d) 0 0 (components path) r → Why d s path r

module _ (d : Disk) (s path : List ℕ) where
  abbrev looked : Result Found Refusal
  looked = lookup_from d s (root_of d) 0 0 (components path)

  opened : Opened d s path → find_of d s path ≡ looked
  unfolding find_of from_root pick
  opened h =
      rw (
        eq-eqb _ _ h.long,
        (form_good path).1 h.form,
        eq-eqb _ _ h.tag,
        eq-eqb _ 0 ((root_sound d s).1 h.root),
      )

  -- every answer has one of these reasons
  pub find_why : Why d s path (find_of d s path)
  unfolding find_of from_root pick
  find_why =
      go (eqb (length s) (image_bytes d)) refl (path_fault path) refl (eqb (word_at s 0) (tag_of d)) refl
      (eqb (root_fault d s) 0) refl
    where
      go : (a : Bool) → eqb (length s) (image_bytes d) ≡ a → (f : Result Unit Refusal) → path_fault path ≡ f
          → (b : Bool)
          → eqb (word_at s 0) (tag_of d) ≡ b → (c : Bool) → eqb (root_fault d s) 0 ≡ c
          → Why d s path (pick a (and f
          (pick b (pick c looked (refuse (root_fault d s) (root_of d))) (refuse fault.boot_tag 0)))
          (refuse fault.image_length 0))
      go false p f q b u c v = image (eqb-false _ _ p) refl
      go true p (Err f) q b u c v = form (eqb-true _ _ p) f q refl
      go true p (Ok _) q false u c v = tag (eqb-true _ _ p) q (eqb-false _ _ u) refl
      go true p (Ok _) q true u false v = root (eqb-true _ _ p) q (eqb-true _ _ u) (eqb-false _ _ v) refl
      go true p (Ok _) q true u true v =
          leads_to_lem (record {
            long = eqb-true _ _ p;
            form = (form_good path).0 q;
            tag = eqb-true _ _ u;
            root = (root_sound d s).0 (eqb-true _ _ v);
          }) (leads d s (root_of d) 0 0 (components path))

  -- and no answer but the call's own has any
  pub why_find : (r : Result Found Refusal) → Why d s path r → r ≡ find_of d s path
  unfolding find_of from_root pick
  why_find r (image h q) = q ∙ (rw (ne_eqb _ _ h))
  why_find r (form h f p q) = q ∙ (rw (eq-eqb _ _ h, p))
  why_find r (tag h p u q) = q ∙ (rw (eq-eqb _ _ h, p, ne_eqb _ _ u))
  why_find r (root h p u v q) = q ∙ (rw (eq-eqb _ _ h, p, eq-eqb _ _ u, ne_eqb _ 0 v))
  why_find r (leads_to_lem o l) = leads_only d s (root_of d) 0 0 (components path) r l ∙ sym (opened o)

-- ---- outcomes are determined

pub find_determined : (d : Disk) (s path : List ℕ) (r r' : Result Found Refusal) → Finds d s path r → Finds d s path r'
    → (numbers_of r ≡ numbers_of r') × (r ≡ r')
find_determined d s path r r' a b = (a.numbers ∙ sym b.numbers, a.answer ∙ sym b.answer)
