-- `cause_breaks`: each number of a refusal names a rule of the law that is broken, so what it says holds of no tree
-- with w78 valid. Assumes nothing.
use Prim.Native.Nat.{ℕ, suc, ◌-◌}
use mathlib.Core.Path.{◌≡◌, refl, sym, ap, ◌∙◌, subst}
use mathlib.Core.Logic.{◌⊎◌, inl, inr}
use mathlib.Core.Bool.{true}
use mathlib.Core.List.{List, [], ◌∷◌, ◌++◌}
use native.Mathlib.Omega.{arith}
use borrow.Author.Tests.{ne_eqb}
use Rattle.answers.proofs.Clashes.{impossible}
use Rattle.reach.specs.References.{At, ◌∈◌, Reached}
use Rattle.reach.proofs.Lists.{at_in, at_one, at_map}
use Rattle.volume.specs.declared.disk.Disk.{Disk}
use Rattle.volume.specs.Disks.{is_old}
use Rattle.volume.specs.Blocks.{word_of}
use Rattle.volume.specs.Names.{name_good}
use Rattle.volume.specs.Files.{blocks_of, lists_of, keys_of}
use Rattle.volume.specs.References.{Kind, Ref, to, references}
use Rattle.volume.specs.Law.{OneBitmap, Entry, File, Tree, Valid, RootFixed}
use Rattle.volume.specs.Breaks.{Link, HeaderSound, DataTies}
use Rattle.volume.proofs.Keys.{keys_long}
use Rattle.volume.proofs.Passes.{entry_passed, list_passed, data_passed}
use Rattle.walk.specs.Nodes.{Node, root, bitmap, entry, list, datum, bare, fault_of}
use Rattle.walk.specs.Refusals.{FileAt, KindRight, Cause, number_4, number_5, number_6, number_7, number_8}
use Rattle.walk.specs.Refusals.{number_9, number_10, number_10_list, number_11, number_12, number_13, number_14}
use Rattle.walk.specs.Refusals.{number_14_list, number_15, number_16}
use Rattle.walk.proofs.Lists.{at_left, at_end}
use Rattle.walk.proofs.Passes.{InTree, hung_passed}
use Rattle.walk.proofs.Accepts.{node_reached}
use Rattle.walk.proofs.Spreads.{file_header}
use Rattle.walk.proofs.Lawful.{held_by, tree_passes}

module _ (d : Disk) (s : List ℕ) (v : Tree d s) where
  -- ---- w0 and w127

  node_kind : (n : Node) → InTree d s n → KindRight d s (bare d n).key (bare d n).kind
  unfolding fault_of
  node_kind root h = h.1.kind
  node_kind (bitmap k) h = tt
  node_kind (entry k t i p) h = inl (entry_passed d s k t i (hung_passed d s k t i p h).0).entry.kind
  node_kind (list k b m c) h = (list_passed s k b (blocks_of d s b - m) h).1.kind
  node_kind (datum k b n c) h = λ o. (data_passed d s k b n (word_of s c 4) h o).ties.block.type

  kind_right : (a : Kind) (k : ℕ) → Reached (references d s) (to a k) → KindRight d s k a
  kind_right a k r =
      let w = node_reached d s (tree_passes d s v) r in
      subst (λ (x : Ref). KindRight d s x.key x.kind) (sym w.2)
      (node_kind w.0 (tree_passes d s v w.0 w.1).1)

  no_link : (k : ℕ) → Entry s k → Link s k → ⊥
  no_link k h l = go h.kind.kind l.kind
    where
      go : (word_of s k 127 ≡ 2) ⊎ (word_of s k 127 ≡ 0xFFFFFFFD) → word_of s k 127 ∈ (3 ∷ 4 ∷ 0xFFFFFFFC ∷ []) → ⊥
      go (inl e) (inl f) = omega arith
      go (inl e) (inr (inl f)) = omega arith
      go (inl e) (inr (inr (inl f))) = omega arith
      go (inl e) (inr (inr (inr f))) = f
      go (inr e) (inl f) = omega arith
      go (inr e) (inr (inl f)) = omega arith
      go (inr e) (inr (inr (inl f))) = omega arith
      go (inr e) (inr (inr (inr f))) = f

  -- ---- a file

  file : (h : ℕ) → FileAt d s h → File d s h
  file h f = v.files h f.reached (ne_eqb (word_of s h 127) 2 (λ e. omega (arith, e, f.kind)))

  header : (h : ℕ) → FileAt d s h → HeaderSound d s h
  header h f = file_header d s h (file h f)

  module _ (h i c k : ℕ) (o : is_old d ≡ true) (f : FileAt d s h) (here : At i k (keys_of d s h))
      (last : At i c (h ∷ keys_of d s h)) where
    -- what stands at a position among the w4 words
    follows : (j x y : ℕ) → At j x (h ∷ keys_of d s h) → At j y (keys_of d s h ++ (0 ∷ [])) → word_of s x 4 ≡ y
    follows j x y a b =
        at_one j (keys_of d s h ++ (0 ∷ []))
        (subst (At j (word_of s x 4)) ((file h f).following o) (at_map (λ k. word_of s k 4) j x (h ∷ keys_of d s h) a))
        b

    ties : DataTies d s k h (suc i) (word_of s c 4)
    ties =
        record {
          block = (file h f).blocks o i k here;
          here = follows i c k last (at_left k i (keys_of d s h) (0 ∷ []) here);
          last =
              λ e. follows (suc i) k 0 here
              (subst (λ j. At j 0 (keys_of d s h ++ (0 ∷ []))) (keys_long d s h ∙ sym e)
              (at_end 0 (keys_of d s h) (0 ∷ []) refl));
        }

  -- ---- the theorem

  pub cause_breaks : Valid d s → (n k : ℕ) → Cause d s n k → ⊥
  cause_breaks u n k (number_4 e h q) = h (subst (RootFixed s) (sym e) v.top.fixed)
  cause_breaks u n k (number_5 a r h q) = let w = v.keys (to a k) r in h (record { low = w.0; high = w.1 })
  cause_breaks u n k (number_6 (p, inl e) q) =
      v.owned.none p.from p.to p.nth p.reached p.stands (p.keyed ∙ e)
  cause_breaks u n k (number_6 (p, inr (o, w)) q) =
      w (v.owned.once p.from o.from p.to o.to p.nth o.nth p.reached o.reached p.stands
      o.stands (p.keyed ∙ sym o.keyed))
  cause_breaks u n k (number_7 a r o h q) = h (v.sums (to a k) r o)
  cause_breaks u n k (number_8 a r h q) = h (kind_right a k r)
  cause_breaks u n k (number_9 r l q) = no_link k (v.entries k r) l
  cause_breaks u n k (number_10 t i g x h q) =
      h (record {
        own = (v.entries k g.reached).own;
        parent = (held_by d s v t g.holder).parent i k g.hangs;
        link = λ e. (v.directories k g.reached e).0;
      })
  cause_breaks u n k (number_10_list b i f a x h q) = h ((file b f).lists k (at_in k i (lists_of d s b) a))
  cause_breaks u n k (number_11 (inl e) h q) =
      let w = v.top.name in let z = sym (ap (λ x. name_good s x) e) in impossible cc
  cause_breaks u n k (number_11 (inr r) h q) = let w = (v.entries k r).name in impossible cc
  cause_breaks u n k (number_12 t i g h q) = h ((held_by d s v t g.holder).slot i k g.hangs)
  cause_breaks u n k (number_13 t i l g g' o w e q) = w ((held_by d s v t g.holder).names i i l k g' g.hangs e)
  cause_breaks u n k (number_14 f h q) = h (header k f)
  cause_breaks u n k (number_14_list b i f a h q) = h ((file b f).counts (suc i) k a)
  cause_breaks u n k (number_15 b i c o f a h q) = h (ties b i c k o f a.here a.before)
  cause_breaks u n k (number_16 e (inl h) q) = h u
  cause_breaks u n k (number_16 e (inr h) q) = h (subst (OneBitmap s) (sym e) v.top.rest)
