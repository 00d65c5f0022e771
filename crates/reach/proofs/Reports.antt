-- The theorem `report`: an accepted walk hands back just what is reached. Assumes nothing.
use mathlib.Core.Path.{◌≡◌, refl, sym, ap, ◌∙◌, subst}
use mathlib.Core.Logic.{◌≢◌, ◌⊎◌, inl, inr}
use mathlib.Core.List.{List, [], ◌∷◌, map}
use Prim.Native.Nat.{ℕ, ◌<◌}
use native.Mathlib.Omega.{arith}
use lib.ListN.{get_or, length-map}
use Rattle.reach.specs.References.{◌∈◌, Uniq, Reached}
use Rattle.reach.specs.Walk.{Graph, Outcome, done, refused, audit}
use Rattle.reach.specs.Law.{Report}
use Rattle.reach.proofs.Lists.{in_map, map_in}
use Rattle.reach.proofs.Tree.{Item, tree, up, down, told}
use Rattle.reach.proofs.Found.{Distinct, found_all}
use Rattle.reach.proofs.Kept.{Claim}
use Rattle.reach.proofs.WholeWalk.{whole, Fits, whole_fits, audit_whole}

module _ {Node S : Type 0} (G : Graph Node S) where
  open G.references use {key}
  open tree G.references use {key as K}

  uniq_keys : (t : List (Item Node)) → Distinct G t → Uniq (map key (map (λ p. p.1) t))
  uniq_keys [] d = tt
  uniq_keys (p ∷ t) d = (not_in, uniq_keys t d.1)
    where
      not_in : ¬ (K p ∈ map key (map (λ p. p.1) t))
      not_in h =
          let r = map_in key (K p) (map (λ p. p.1) t) h in
          let r' = map_in (λ p. p.1) r.0 t r.1 in
          d.0 r'.0 r'.1 (ap key (sym r'.2) ∙ sym r.2)

  module _ (N : ℕ) (s₀ : S) where
    abbrev Reports : Outcome S → Type 0
    Reports (done c s) = Report G N s₀ c s
    Reports (refused v k) = Unit {0}

    reports : (r : Outcome (List (Item Node))) → Fits G N r → Reports (told G s₀ r)
    reports (refused v k) i = tt
    reports (done c t) i =
        record {
          size = i.size;
          byte = byte';
          nodes = map (λ p. p.1) t;
          all = all';
          only = only';
          keys = uniq_keys t i.found.distinct;
          noted = refl;
          used = rw length-map i.total;
        }
      where
        all' : (n : Node) → Reached G.references n → n ∈ map (λ p. p.1) t
        all' n r = let u = up G.references r in in_map (λ p. p.1) (u.0, n) t (found_all G c t i.found u.1)

        only' : (n : Node) → n ∈ map (λ p. p.1) t → Reached G.references n
        only' n h =
            let r = map_in (λ p. p.1) n t h in
            subst (λ x. Reached G.references x) (sym r.2) (down G.references (i.kept.seen r.0 r.1))

        byte' : (k : ℕ) → k < N
            → ((get_or c k 1 ≡ 0) × ((n : Node) → Reached G.references n → key n ≢ k))
            ⊎ ((get_or c k 1 ≡ 1) × ((n : Node) × Reached G.references n × (key n ≡ k)))
        byte' k b = go (i.kept.bytes k (subst (λ x. k < x) (sym i.size) b))
          where
            go : Claim G c t k
                → ((get_or c k 1 ≡ 0) × ((n : Node) → Reached G.references n → key n ≢ k))
                ⊎ ((get_or c k 1 ≡ 1) × ((n : Node) × Reached G.references n × (key n ≡ k)))
            go (inl z) =
                inl (
                  z,
                  λ n r e. let u = up G.references r in absurd
                      (omega (
                        arith,
                        z,
                        i.found.marked (u.0, n) (found_all G c t i.found u.1),
                        ap (λ x. get_or c x 1) e,
                      )),
                )
            go (inr o) = inr (o.0, (o.1.0.1, down G.references (i.kept.seen o.1.0 o.1.1), o.1.2))

    pub report : (c : List ℕ) (s : S) → audit G N s₀ ≡ done c s → Report G N s₀ c s
    report c s e = subst Reports (sym (audit_whole G N s₀) ∙ e) (reports (whole G N) (whole_fits G N))
