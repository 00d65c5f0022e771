-- 42 in the terms of the page: it is given at the first target that is near an earlier one of its hunk, at its byte
-- in the file. Assumes nothing.
use Rattle.std.specs.Prelude.{Ok, Err}
use Rattle.std.proofs.Common.{◌≡◌, ℕ, ◌+◌, ◌<◌, ◌↔◌, List, [], ◌∷◌, ◌++◌, map, sym, refl, ap, ◌∙◌, subst, ap₂, inl, inr}
use Rattle.std.proofs.Common.{arith}
use mathlib.Core.List.{map-append}
use native.Mathlib.Decide.{dec_lt}
use Rattle.answers.specs.Numbers as fault
use Rattle.words.specs.Shift.{Target}
use Rattle.words.proofs.Words.{Far}
use Rattle.words.proofs.Shifts.{FarAll, Apart}
use Rattle.answers.specs.Refusals.{refusal}
use Rattle.answers.specs.declared.Refusal.{Refusal}
use Rattle.answers.proofs.Clashes.{impossible}
use Rattle.program.specs.Page.{Hunk, Each, Holds}
use Rattle.loader.specs.Memory.{targets_of}
use Rattle.loader.specs.Near.{clash_of}
use Rattle.loader.specs.Pages.{PageTarget, Named, file_targets, bare}
use Rattle.answers.specs.Members.{◌∈◌}
use Rattle.loader.specs.Verdicts.{Near, Spaced, FirstNear}
use Rattle.loader.proofs.NearTargets.{ClashWhy, clash_why, apart_exactly}
use Rattle.loader.proofs.PageLoads.{page_targets}
use Rattle.loader.proofs.OneHunk.{each_member, targets_named, near_one_hunk}

-- ---- lists of bare targets

-- a list that is cut stands for a list that is cut
record Cut (ts : List PageTarget) (us : List Target) (t : Target) (vs : List Target) : Type 0 where
  before : List PageTarget
  target : PageTarget
  after : List PageTarget
  split : ts ≡ before ++ (target ∷ after)
  firsts : map bare before ≡ us
  this : bare target ≡ t

cut_more : (x : PageTarget) (ts : List PageTarget) (u : Target) (us : List Target) (t : Target) (vs : List Target)
    → bare x ≡ u → Cut ts us t vs → Cut (x ∷ ts) (u ∷ us) t vs
cut_more x ts u us t vs q c =
    record {
      before = x ∷ c.before;
      target = c.target;
      after = c.after;
      split = ap (λ (l : List PageTarget). x ∷ l) c.split;
      firsts = ap₂ ◌∷◌ q c.firsts;
      this = c.this;
    }

cut_at : (ts : List PageTarget) (us : List Target) (t : Target) (vs : List Target) → map bare ts ≡ us ++ (t ∷ vs)
    → Cut ts us t vs
cut_at [] [] t vs e = impossible cc
cut_at [] (u ∷ us) t vs e = impossible cc
cut_at (x ∷ ts) [] t vs e =
    let q : bare x ≡ t = cc in
    record { before = []; target = x; after = ts; split = refl; firsts = refl; this = q }
cut_at (x ∷ ts) (u ∷ us) t vs e =
    let q : bare x ≡ u = cc in
    let r : map bare ts ≡ us ++ (t ∷ vs) = cc in
    cut_more x ts u us t vs q (cut_at ts us t vs r)

bare_member : (t : Target) (ts : List PageTarget) → (t ∈ (map bare ts)) → (x : PageTarget) × (x ∈ ts) × (bare x ≡ t)
bare_member t [] m = absurd m
bare_member t (x ∷ ts) (inl e) = (x, inl refl, sym e)
bare_member t (x ∷ ts) (inr m) = let r = bare_member t ts m in (r.0, inr r.1, r.2)

member_bare : (x : PageTarget) (ts : List PageTarget) → (x ∈ ts) → ((bare x) ∈ (map bare ts))
member_bare x [] m = absurd m
member_bare x (y ∷ ts) (inl e) = inl (ap bare e)
member_bare x (y ∷ ts) (inr m) = inr (member_bare x ts m)

each_left : {A : Type 0} (P : A → Type 0) (xs ys : List A) → Each P (xs ++ ys) → Each P xs
each_left P [] ys p = tt
each_left P (x ∷ xs) ys p = (p.0, each_left P xs ys p.1)

each_right : {A : Type 0} (P : A → Type 0) (xs ys : List A) → Each P (xs ++ ys) → Each P ys
each_right P [] ys p = p
each_right P (x ∷ xs) ys p = each_right P xs ys p.1

-- ---- far and near

far_not_near : (x y : PageTarget) → Far x.loaded_at y.loaded_at → Near x y → ⊥
far_not_near x y (inl l) n = omega (arith, l, n.2)
far_not_near x y (inr l) n = omega (arith, l, n.1)

apart_spaced : (ts : List PageTarget) → Apart (map bare ts) → Spaced ts
apart_spaced [] a = tt
apart_spaced (x ∷ ts) a = (all ts a.0, apart_spaced ts a.1)
  where
    all : (us : List PageTarget) → FarAll x.loaded_at (map bare us) → Each (λ y. Near x y → ⊥) us
    all [] f = tt
    all (y ∷ us) f = (far_not_near x y f.0, all us f.1)

module _ (file : List ℕ) (hs : List Hunk) (held : Holds file hs) where
  far : (x y : PageTarget) → Named file hs x → Named file hs y → (Near x y → ⊥) → Far x.loaded_at y.loaded_at
  far x y a b n = go (dec_lt x.loaded_at (y.loaded_at + 4)) (dec_lt y.loaded_at (x.loaded_at + 4))
    where
      go : Dec (x.loaded_at < y.loaded_at + 4) → Dec (y.loaded_at < x.loaded_at + 4) → Far x.loaded_at y.loaded_at
      go (yes u) (yes v) = absurd (n (near_one_hunk file hs held x y a b u v, u, v))
      go (no u) v = inr (omega (arith, u))
      go (yes u) (no v) = inl (omega (arith, v))

  spaced_apart : (ts : List PageTarget) → Each (Named file hs) ts → Spaced ts → Apart (map bare ts)
  spaced_apart [] a s = tt
  spaced_apart (x ∷ ts) a s = (all ts a.1 s.0, spaced_apart ts a.1 s.1)
    where
      all : (us : List PageTarget) → Each (Named file hs) us → Each (λ y. Near x y → ⊥) us
          → FarAll x.loaded_at (map bare us)
      all [] b f = tt
      all (y ∷ us) b f = (far x y a.0 b.0 f.0, all us b.1 f.1)

  named : Each (Named file hs) (file_targets hs)
  named = targets_named file hs held

  triples : targets_of file ≡ map bare (file_targets hs)
  triples = page_targets file hs held.fits held.whole held.words

  -- No target is refused if and only if no two targets of one hunk are near.
  pub spaced_exactly : (clash_of file ≡ Ok tt) ↔ Spaced (file_targets hs)
  spaced_exactly = (
    λ c. apart_spaced (file_targets hs) (subst Apart triples ((apart_exactly (targets_of file)).0 c)),
    λ s. (apart_exactly (targets_of file)).1 (subst Apart (sym triples) (spaced_apart (file_targets hs) named s)),
  )

  near_there : (f : Refusal) → ClashWhy (targets_of file) f
      → (p : ℕ) × (f ≡ refusal fault.near_targets p) × FirstNear hs p
  near_there f r =
      let c = cut_at (file_targets hs) r.before r.target r.after (sym triples ∙ r.split) in
      let o = bare_member r.other c.before (subst (λ l. r.other ∈ l) (sym c.firsts) r.among) in
      let all = subst (Each (Named file hs)) c.split named in
      let a = (each_right (Named file hs) c.before (c.target ∷ c.after) all).0 in
      let b =
      each_member (Named file hs) o.0 c.before
      (each_left (Named file hs) c.before (c.target ∷ c.after) all) o.1 in
      let pt = ap (λ (t : Target). t.loaded_at) c.this in
      let po = ap (λ (t : Target). t.loaded_at) o.2 in
      let u : c.target.loaded_at < o.0.loaded_at + 4 = omega (arith, pt, po, r.below) in
      let v : o.0.loaded_at < c.target.loaded_at + 4 = omega (arith, pt, po, r.above) in (
        c.target.byte,
        r.said ∙ ap (λ (t : Target). refusal fault.near_targets t.byte) (sym c.this),
        record {
          before = c.before;
          target = c.target;
          after = c.after;
          split = c.split;
          spaced = apart_spaced c.before (subst Apart (sym c.firsts) ((apart_exactly r.before).0 r.first));
          other = o.0;
          earlier = o.1;
          near = (near_one_hunk file hs held c.target o.0 a b u v, u, v);
          place = refl;
        },
      )

  near_back : (f : Refusal) (p : ℕ) → f ≡ refusal fault.near_targets p → FirstNear hs p → ClashWhy (targets_of file) f
  near_back f p e r =
      let all = subst (Each (Named file hs)) r.split named in
      let b = each_left (Named file hs) r.before (r.target ∷ r.after) all in
      record {
        before = map bare r.before;
        target = bare r.target;
        after = map bare r.after;
        split = triples ∙ ap (map bare) r.split ∙ map-append bare r.before (r.target ∷ r.after);
        said = e ∙ ap (refusal fault.near_targets) r.place;
        first = (apart_exactly (map bare r.before)).1 (spaced_apart r.before b r.spaced);
        other = bare r.other;
        among = member_bare r.other r.before r.earlier;
        below = r.near.1;
        above = r.near.2;
      }

  -- 42 is given exactly at the first target that is near an earlier one of its hunk, at its byte in the file.
  pub near_exactly : (f : Refusal)
      → (clash_of file ≡ Err f) ↔ ((p : ℕ) × (f ≡ refusal fault.near_targets p) × FirstNear hs p)
  near_exactly f = (
    λ h. near_there f ((clash_why (targets_of file) f).0 h),
    λ h. (clash_why (targets_of file) f).1 (near_back f h.0 h.1 h.2),
  )
