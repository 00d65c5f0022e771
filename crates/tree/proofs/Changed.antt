-- One pointer has changed, in block p: the root and the entries are alike but for links, list blocks and data blocks
-- are the same. Assumes nothing.
use Prim.Native.Nat.{ℕ}
use mathlib.Core.Path.{◌≡◌, refl, sym, ap, ◌∙◌, subst}
use mathlib.Core.Logic.{inl, inr}
use mathlib.Core.List.{List}
use native.Mathlib.Omega.{arith}
use native.Mathlib.Decide.{ℕ_discrete}
use Rattle.reach.specs.References.{Reached, top}
use Rattle.volume.specs.declared.disk.Disk.{Disk}
use Rattle.volume.specs.Disks.{root_of}
use Rattle.volume.specs.Blocks.{directory}
use Rattle.volume.specs.References.{Kind, Ref, to, references}
use Rattle.writes.specs.Alike.{Alike, SameBlock}
use Rattle.tree.specs.Links.{Links, RootLinks}
use Rattle.tree.specs.Pointers.{Points, in_root, in_directory, in_chain, Pointer, Repointed}

-- the root, and an entry, hold entries
abbrev pub Holding : Kind → Type 0
Holding Kind.root = Unit {0}
Holding Kind.bitmap = ⊥
Holding Kind.entry = Unit {0}
Holding Kind.list = ⊥
Holding Kind.datum = ⊥

abbrev IsRoot : Kind → Type 0
IsRoot Kind.root = Unit {0}
IsRoot Kind.bitmap = ⊥
IsRoot Kind.entry = ⊥
IsRoot Kind.list = ⊥
IsRoot Kind.datum = ⊥

pub clash : {x y : ℕ} {X : Type 0} → to Kind.entry x ≡ to Kind.root y → X
clash e = absurd (subst (λ r. IsRoot r.kind) (sym e) tt)

pub points_holding : (d : Disk) (s : List ℕ) (p : Ref) (w : ℕ) → Points d s p w → Holding p.kind
points_holding d s p w (in_root i l e f) = subst (λ r. Holding r.kind) (sym e) tt
points_holding d s p w (in_directory x i l e g f) = subst (λ r. Holding r.kind) (sym e) tt
points_holding d s p w (in_chain x e f) = subst (λ r. Holding r.kind) (sym e) tt

-- of what t reaches only p has p's key
module _ (d : Disk) (s t : List ℕ) (p : Ref) (w m : ℕ) (at : Points d s p w) (c : Repointed s t p.key w m)
    (one : (r : Ref) → Reached (references d t) r → r.key ≡ p.key → r ≡ p) where
  pub bare_same : (r : Ref) → Reached (references d t) r → (Holding r.kind → ⊥) → SameBlock s t r.key
  bare_same r h n =
      c.others r.key (λ e. n (subst (λ x. Holding x.kind) (sym (one r h e)) (points_holding d s p w at)))

  pub root_alike : Alike RootLinks s t (root_of d)
  root_alike = go (ℕ_discrete (root_of d) p.key)
    where
      linked : to Kind.root (root_of d) ≡ p → Points d s p w → {j : ℕ} → Pointer w j → RootLinks j
      linked q (in_root i l e f) (inl g) = inl g
      linked q (in_root i l e f) (inr g) = inr (inr (omega (arith, f, g), omega (arith, f, g, l)))
      linked q (in_directory x i l e g f) h = clash (sym e ∙ sym q)
      linked q (in_chain x e f) h = clash (sym e ∙ sym q)

      go : Dec (root_of d ≡ p.key) → Alike RootLinks s t (root_of d)
      go (yes e) i l n =
          let q = one (to Kind.root (root_of d)) (top refl) e in
          subst (λ y. Alike (Pointer w) s t y) (sym e) c.rest i l (λ g. n (linked q at g))
      go (no e) i l n = c.others (root_of d) e i l (λ z. z)

  pub entry_alike : (x : ℕ) → Reached (references d t) (to Kind.entry x) → Alike (Links s x) s t x
  entry_alike x h = go (ℕ_discrete x p.key)
    where
      linked : to Kind.entry x ≡ p → Points d s p w → {j : ℕ} → Pointer w j → Links s x j
      linked q (in_root i l e f) g = clash (q ∙ e)
      linked q (in_directory y i l e g f) (inl a) = inl a
      linked q (in_directory y i l e g f) (inr a) =
          inr (inr (ap (λ r. directory s r.key) (q ∙ e) ∙ g, (omega (arith, f, a), omega (arith, f, a, l))))
      linked q (in_chain y e f) (inl a) = inl a
      linked q (in_chain y e f) (inr a) = inr (inl (a ∙ f))

      go : Dec (x ≡ p.key) → Alike (Links s x) s t x
      go (yes e) i l n =
          let q = one (to Kind.entry x) h e in
          subst (λ y. Alike (Pointer w) s t y) (sym e) c.rest i l (λ g. n (linked q at g))
      go (no e) i l n = c.others x e i l (λ z. z)
