-- 42 is given exactly at the first target that is too near one before it. Assumes nothing.
use Rattle.std.specs.Prelude.{Ok, Err}
use Rattle.std.proofs.Common.{◌≡◌, ℕ, ◌+◌, ◌<◌, Bool, true, false, ltb, ◌⊎◌, ◌↔◌, List, [], ◌∷◌, ◌++◌, sym, refl, ap}
use Rattle.std.proofs.Common.{◌∙◌, subst, inl, inr, ⊎_elim, arith, ltb-true, lt-ltb}
use Rattle.answers.specs.Numbers as fault
use Rattle.words.specs.Shift.{Target}
use Rattle.words.proofs.Words.{Far}
use Rattle.words.proofs.Shifts.{FarAll, Apart}
use Rattle.answers.specs.Tests.{pick}
use Rattle.answers.specs.Refusals.{refusal}
use Rattle.answers.specs.declared.Refusal.{Refusal}
use Rattle.answers.proofs.Tests.{pick_passed}
use Rattle.program.proofs.Answers.{not_failed}
use Rattle.loader.specs.Near.{near, near_any, clash}
use Rattle.answers.specs.Members.{◌∈◌}
use Rattle.loader.proofs.Marking.{no_bool}
use Rattle.loader.proofs.Moving.{Among, apart}
use Rattle.loader.proofs.Picks.{or_left, or_right, pick_and, pick_failed, pick_fails, pick_goes, pick_or}

-- as it is tested, over all of memory: a target is the first that has less than 4 bytes to one before it, the other
pub record ClashWhy (ts : List Target) (f : Refusal) : Type 0 where
  pub before : List Target
  pub target : Target
  pub after : List Target
  pub split : ts ≡ before ++ (target ∷ after)
  pub said : f ≡ refusal fault.near_targets target.byte
  pub first : clash [] before ≡ Ok tt
  pub other : Target
  pub among : (other ∈ before)
  pub below : target.loaded_at < other.loaded_at + 4
  pub above : other.loaded_at < target.loaded_at + 4

near_there : (p : ℕ) (seen : List ℕ) → near_any p seen ≡ true → (q : ℕ) × Among q seen × (p < q + 4) × (q < p + 4)
unfolding near_any
near_there p [] h = no_bool h
near_there p (x ∷ xs) h = go (pick_or (near p x) (near_any p xs) h) (near_there p xs)
  where
    go : (near p x ≡ true) ⊎ (near_any p xs ≡ true)
        → (near_any p xs ≡ true → (q : ℕ) × Among q xs × (p < q + 4) × (q < p + 4))
        → (q : ℕ) × Among q (x ∷ xs) × (p < q + 4) × (q < p + 4)
    go (inl y) g =
        let r = pick_and (ltb p (x + 4)) (ltb x (p + 4)) y in (x, inl refl, ltb-true _ _ r.0, ltb-true _ _ r.1)
    go (inr y) g = let r = g y in (r.0, inr r.1, r.2, r.3)

near_back : (p q : ℕ) (seen : List ℕ) → Among q seen → p < q + 4 → q < p + 4 → near_any p seen ≡ true
unfolding near_any pick
near_back p q [] a h k = absurd a
near_back p q (x ∷ xs) (inl e) h k =
    or_left (near p x) _ (subst (λ (z : ℕ). near p z ≡ true) e (rw (lt-ltb p (q + 4) h) (lt-ltb q (p + 4) k)))
near_back p q (x ∷ xs) (inr a) h k = or_right (near p x) _ (near_back p q xs a h k)

-- seen before, or the byte of a target in us
abbrev Before : List ℕ → List Target → ℕ → Type 0
Before seen us q = Among q seen ⊎ ((u : Target) × (u ∈ us) × (q ≡ u.loaded_at))

abbrev Clashes : List ℕ → List Target → Refusal → Type 0
Clashes seen ts f =
    (us : List Target)
    × (t : Target)
    × (vs : List Target)
    × (ts ≡ us ++ (t ∷ vs))
    × (f ≡ refusal fault.near_targets t.byte)
    × (clash seen us ≡ Ok tt)
    × (q : ℕ)
    × Before seen us q
    × (t.loaded_at < q + 4)
    × (q < t.loaded_at + 4)

clash_from : (seen : List ℕ) (ts : List Target) (f : Refusal) → clash seen ts ≡ Err f → Clashes seen ts f
unfolding clash
clash_from seen [] f h = not_failed h
clash_from seen (s ∷ ts) f h =
    go (pick_failed (near_any s.loaded_at seen) (refusal fault.near_targets s.byte) (clash (s.loaded_at ∷ seen) ts)
    f h) (clash_from (s.loaded_at ∷ seen) ts f)
  where
    earlier : (us : List Target) (q : ℕ) → Before (s.loaded_at ∷ seen) us q → Before seen (s ∷ us) q
    earlier us q (inl (inl e)) = inr (s, inl refl, e)
    earlier us q (inl (inr a)) = inl a
    earlier us q (inr x) = inr (x.0, inr x.1, x.2)

    go : ((near_any s.loaded_at seen ≡ true) × (f ≡ refusal fault.near_targets s.byte))
        ⊎ ((near_any s.loaded_at seen ≡ false) × (clash (s.loaded_at ∷ seen) ts ≡ Err f))
        → (clash (s.loaded_at ∷ seen) ts ≡ Err f → Clashes (s.loaded_at ∷ seen) ts f) → Clashes seen (s ∷ ts) f
    go (inl x) g =
        let r = near_there s.loaded_at seen x.0 in ([], s, ts, refl, x.1, refl, r.0, inl r.1, r.2, r.3)
    go (inr x) g =
        let r = g x.1 in (
          s ∷ r.0,
          r.1,
          r.2,
          ap (λ (l : List Target). s ∷ l) r.3,
          r.4,
          pick_goes _ _ _ _ x.0 r.5,
          r.6,
          earlier r.0 r.6 r.7,
          r.8,
          r.9,
        )

clash_then : (seen : List ℕ) (us : List Target) (t : Target) (vs : List Target) (q : ℕ) → clash seen us ≡ Ok tt
    → Before seen us q → t.loaded_at < q + 4 → q < t.loaded_at + 4
    → clash seen (us ++ (t ∷ vs)) ≡ Err (refusal fault.near_targets t.byte)
unfolding clash
clash_then seen [] t vs q c b h k = pick_fails _ _ _ (near_back t.loaded_at q seen (old b) h k)
  where
    old : Before seen [] q → Among q seen
    old (inl a) = a
    old (inr x) = absurd x.1
clash_then seen (s ∷ us) t vs q c b h k =
    let p =
    pick_passed (near_any s.loaded_at seen) (refusal fault.near_targets s.byte) (clash (s.loaded_at ∷ seen) us)
    c in
    pick_goes _ _ _ _ p.0 (clash_then (s.loaded_at ∷ seen) us t vs q p.1 (later b) h k)
  where
    later : Before seen (s ∷ us) q → Before (s.loaded_at ∷ seen) us q
    later (inl a) = inl (inr a)
    later (inr (u, inl e, d)) = inl (inl (d ∙ ap (λ (x : Target). x.loaded_at) e))
    later (inr (u, inr m, d)) = inr (u, m, d)

module _ (ts : List Target) (f : Refusal) where
  clash_there : clash [] ts ≡ Err f → ClashWhy ts f
  clash_there h = let r = clash_from [] ts f h in go r r.7
    where
      go : (r : Clashes [] ts f) → Before [] r.0 r.6 → ClashWhy ts f
      go r (inl a) = absurd a
      go r (inr x) =
          let e = x.2 in
          record {
            before = r.0;
            target = r.1;
            after = r.2;
            split = r.3;
            said = r.4;
            first = r.5;
            other = x.0;
            among = x.1;
            below = omega (arith, r.8, e);
            above = omega (arith, r.9, e);
          }

  clash_back : ClashWhy ts f → clash [] ts ≡ Err f
  clash_back r =
      ap (clash []) r.split
      ∙ clash_then [] r.before r.target r.after r.other.loaded_at r.first
      (inr (r.other, r.among, refl)) r.below r.above
      ∙ ap Err (sym r.said)

  pub clash_why : (clash [] ts ≡ Err f) ↔ ClashWhy ts f
  clash_why = (clash_there, clash_back)

-- targets pass if and only if no two share a byte
none_near : (p : ℕ) (seen : List ℕ) → ((q : ℕ) → Among q seen → Far q p) → near_any p seen ≡ false
none_near p seen g = go (near_any p seen) refl
  where
    go : (b : Bool) → near_any p seen ≡ b → b ≡ false
    go true e =
        let r = near_there p seen e in
        ⊎_elim (λ l. absurd (omega (arith, l, r.2, r.3))) (λ l. absurd (omega (arith, l, r.2, r.3)))
        (g r.0 r.1)
    go false e = refl

clash_passes : (seen : List ℕ) (ts : List Target) → Apart ts → ((q : ℕ) → Among q seen → FarAll q ts)
    → clash seen ts ≡ Ok tt
unfolding clash
clash_passes seen [] a g = refl
clash_passes seen (t ∷ ts) a g =
    pick_goes _ _ _ _ (none_near t.loaded_at seen (λ q x. (g q x).0))
    (clash_passes (t.loaded_at ∷ seen) ts a.1 far)
  where
    far : (q : ℕ) → Among q (t.loaded_at ∷ seen) → FarAll q ts
    far q (inl e) = subst (λ (z : ℕ). FarAll z ts) (sym e) a.0
    far q (inr x) = (g q x).1

pub apart_exactly : (ts : List Target) → (clash [] ts ≡ Ok tt) ↔ Apart ts
apart_exactly ts = (apart [] ts, λ a. clash_passes [] ts a (λ q x. absurd x))
