-- No key stands twice on a chain of a volume whose blocks are owned once (`chain_apart`): each position but the first
-- is referred to by the one before, and the first by a slot. Assumes nothing.
use Prim.Native.Nat.{ℕ, zero, suc, ◌<◌}
use mathlib.Core.Path.{◌≡◌, refl, sym, ap, ◌∙◌, subst}
use mathlib.Core.Logic.{◌≢◌, inl, inr}
use mathlib.Core.Bool.{true}
use mathlib.Core.List.{List}
use native.Mathlib.Omega.{arith}
use lib.ListN.{length}
use Rattle.answers.specs.Tests.{pick}
use Rattle.reach.specs.References.{At, ◌∈◌, Reached, top, ref, Owned}
use Rattle.reach.proofs.Lists.{in_at, in_map}
use Rattle.volume.specs.declared.disk.Disk.{Disk}
use Rattle.volume.specs.Disks.{root_of}
use Rattle.volume.specs.Blocks.{slots, word_of, slot_word, directory}
use Rattle.volume.specs.References.{Kind, Ref, to, link, slot_refs, key_refs, refers_to, references}
use Rattle.volume.specs.Law.{chain_key}
-- where a chain may hang
pub use Rattle.walk.specs.Refusals.{Holder}
use Rattle.walk.specs.Nodes.{entry, bare, slot_nodes}
use Rattle.walk.proofs.Lists.{at_below, at_left, at_end}
use Rattle.walk.proofs.Nodes.{slot_in, slots_bare}
use Rattle.walk.proofs.Chains.{chain_next, chain_before}

module _ (d : Disk) (s : List ℕ) where
  -- what block k refers to before its chain link
  abbrev within : ℕ → List Ref
  within k = pick (directory s k) (slot_refs s k 0 slots) (key_refs s k)

  within_open : (t : ℕ) → directory s t ≡ true → within t ≡ slot_refs s t 0 slots
  unfolding pick
  within_open t e = rw e

  link_at : (k : ℕ) → k ≢ 0 → At 0 (to Kind.entry k) (link Kind.entry k)
  link_at zero h = absurd (h refl)
  link_at (suc k) h = refl

  next_at : (k : ℕ) → word_of s k 124 ≢ 0
      → At (length (within k)) (to Kind.entry (word_of s k 124)) (refers_to s Kind.entry k)
  unfolding refers_to
  next_at k h =
      at_end (to Kind.entry (word_of s k 124)) (within k) (link Kind.entry (word_of s k 124))
      (link_at (word_of s k 124) h)

  slot_at : (t i : ℕ) → i < slots → slot_word s t i ≢ 0
      → (j : ℕ) × At j (to Kind.entry (slot_word s t i)) (slot_refs s t 0 slots)
  slot_at t i l h =
      let m =
      in_map (bare d) (entry (slot_word s t i) t i 0) (slot_nodes s t 0 slots)
      (slot_in s t 0 slots i (omega arith) (omega arith) h) in
      in_at (to Kind.entry (slot_word s t i)) (slot_refs s t 0 slots)
      (subst (λ l. to Kind.entry (slot_word s t i) ∈ l) (slots_bare d s t 0 slots) m)

  -- where the key k is referred to
  pub record From (k : ℕ) : Type 0 where
    pub from : Ref
    pub nth : ℕ
    pub reached : Reached (references d s) from
    pub stands : At nth (to Kind.entry k) (refers_to s from.kind from.key)

  pub referred : (k : ℕ) → From k → Reached (references d s) (to Kind.entry k)
  referred k f = ref f.nth f.reached f.stands

  module _ (t i : ℕ) (holder : Holder d s t) (l : i < slots) where
    abbrev K : ℕ → ℕ
    K p = chain_key s (slot_word s t i) p

    -- no chain link stands there
    abbrev NoLink : Ref → ℕ → Type 0
    NoLink r j = (k : ℕ) → k ≢ root_of d → r.key ≡ k → j ≢ length (within k)

    first : Holder d s t → slot_word s t i ≢ 0 → (f : From (slot_word s t i)) × NoLink f.from f.nth
    unfolding refers_to pick
    first (inl e) h =
        let a = slot_at t i l h in (
          record { from = to Kind.root (root_of d); nth = suc a.0; reached = top refl; stands = rw (← e) a.1 },
          λ k n q. absurd (n (sym q)),
        )
    first (inr o) h =
        let a = slot_at t i l h in
        let x = to Kind.entry (slot_word s t i) in
        let w = within_open t o.1 in (
          record {
            from = to Kind.entry t;
            nth = a.0;
            reached = o.0;
            stands = at_left x a.0 (within t) (link Kind.entry (word_of s t 124))
                (subst (At a.0 x) (sym w) a.1);
          },
          λ k n q e. omega (
            arith,
            at_below x a.0 (slot_refs s t 0 slots) a.1,
            e
                ∙ ap (λ y. length (within y)) (sym q) ∙ ap length w,
          ),
        )

    pub from_chain : (p : ℕ) → K p ≢ 0 → From (K p)
    unfolding chain_key
    from_chain zero h = (first holder h).0
    from_chain (suc p) h =
        let z = chain_before s (slot_word s t i) p h in
        let e = chain_next s (slot_word s t i) p z in
        record {
          from = to Kind.entry (K p);
          nth = length (within (K p));
          reached = referred (K p) (from_chain p z);
          stands = subst (λ k. At (length (within (K p))) (to Kind.entry k) (refers_to s Kind.entry (K p))) (sym e)
              (next_at (K p) (λ q. h (e ∙ q)));
        }

    module _ (owned : Owned (references d s)) where
      -- two references to one key are one
      same_referral : {k l : ℕ} (f : From k) (g : From l) → k ≡ l → (f.from.key ≡ g.from.key) × (f.nth ≡ g.nth)
      same_referral {k} {l} f g e =
          owned.once f.from g.from (to Kind.entry k) (to Kind.entry l) f.nth g.nth f.reached
          g.reached f.stands g.stands e

      pub chain_apart : (q p : ℕ) → q < p → K p ≢ 0 → K q ≡ K p → ⊥
      unfolding chain_key from_chain
      chain_apart q zero o h e = absurd (omega arith)
      chain_apart zero (suc p) o h e =
          let z = chain_before s (slot_word s t i) p h in
          let a = first holder (λ y. h (sym e ∙ y)) in
          let b = from_chain p z in
          let w = same_referral a.0 (from_chain (suc p) h) e in
          a.1 (K p) (owned.none b.from (to Kind.entry (K p)) b.nth b.reached b.stands) w.0 w.1
      chain_apart (suc q) (suc p) o h e =
          chain_apart q p (omega arith) (chain_before s (slot_word s t i) p h)
          (same_referral (from_chain (suc q) (λ y. h (sym e ∙ y))) (from_chain (suc p) h) e).0
