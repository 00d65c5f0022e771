-- The audit: from the root to the answer, and the claim area after it. Assumes nothing.
use Rattle.std.specs.Prelude.{Result, Ok, Err, is_err}
use Prim.Native.Nat.{ℕ, zero, suc, ◌+◌, ◌-◌, ◌≤◌, ◌<◌}
use mathlib.Core.Path.{◌≡◌, refl, sym, ap, ap₂, ◌∙◌, subst}
use mathlib.Core.List.{List, [], ◌∷◌, ◌++◌, append-nil}
use mathlib.Core.Bool.{Bool, true, false}
use native.Mathlib.Omega.{arith}
use lib.Dec.{eqb}
use lib.ListN.{length, take, drop, replicate, length-append, length-replicate, replicate-append-replicate}
use lib.Seq.{drop_at}
use Rattle.std.proofs.lemmas.List.{length-take-le}
use borrow.Author.Tests.{lt-ltb, le-ltb, eq-eqb, ne_eqb}
use Rattle.answers.proofs.Clashes.{impossible}
use Rattle.answers.specs.Numbers as fault
use Rattle.answers.specs.declared.Refusal.{Refusal}
use Rattle.answers.specs.Tests.{pick}
use Rattle.words.specs.Word.{word_at}
use Rattle.reach.specs.References.{top, ref}
use Rattle.reach.specs.Walk.{done, refused, audit, free, Accepted as Through}
use Rattle.reach.proofs.Claims.{free_all}
use Rattle.reach.proofs.Runs.{run_end}
use Rattle.volume.specs.declared.disk.Disk.{Disk}
use Rattle.volume.specs.Disks.{Sized, most_blocks, image_bytes, claim_bytes, tag_of, root_of, disk_of}
use Rattle.volume.specs.Blocks.{slots, word_of}
use Rattle.walk.specs.declared.Counts.{Counts}
use Rattle.walk.specs.Nodes.{Node, root, bitmap, leads_to, noted, slot_nodes, nothing, graph, walk_of}
use Rattle.walk.proofs.Passes.{key_passed}
use Rattle.walk.proofs.Accepts.{accepted_lawful}
use Rattle.audit.specs.declared.audit.Report.{Report}
use Rattle.audit.specs.Walks.{Met, Walks, Ready, total, goes_on}
use Rattle.audit.specs.Bits.{bits_of}
use Rattle.audit.specs.Audits.{numbers_of, refuse, report_of, claim_after, audit_of, Audits}
use Rattle.audit.specs.Parts.{Fresh, Within, Tagged}
use Rattle.audit.proofs.Walking.{not_both, walks_none, walks_stopped, walks_then, walks_part, met_inside, met_stops}
use Rattle.audit.proofs.Walking.{met_goes, ready_met}

-- ---- a claim area of zeros, with a byte for each block

module _ (d : Disk) (cl : List ℕ) (z : cl ≡ replicate (claim_bytes d) 0) where
  pub zeros_long : length cl ≡ claim_bytes d
  zeros_long = rw z (length-replicate _ 0)

  pub kept_long : (cl₁ : List ℕ) → length cl₁ ≡ length cl → length cl₁ ≡ claim_bytes d
  kept_long cl₁ e = e ∙ zeros_long

-- ---- the root and the bitmap block

module _ (d : Disk) (s cl cl₁ : List ℕ) (f : Result Unit Refusal) (m : Met d s root cl f cl₁) where
  pub root_stops : (x : Refusal) (cl'' : List ℕ) → f ≡ Err x → Walks d s (root ∷ []) [] nothing cl (Err x) cl''
  root_stops x cl'' t = met_stops d s root cl cl₁ f m [] nothing cl'' x t

  pub root_ready : {u : Unit {0}} → f ≡ Ok u → Sized d → length s ≡ image_bytes d → cl ≡ replicate (claim_bytes d) 0
      → length cl₁ ≡ length cl → Ready d s cl₁ nothing
  unfolding noted
  root_ready z h i c l =
      ready_met d s root nothing cl cl₁ f
      (record {
        sized = h;
        image = i;
        claim = zeros_long d cl c;
        room = rw c (omega (arith, free_all d.blocks));
      }) m z l nothing refl

  module _ {u : Unit {0}} (z : f ≡ Ok u) (k bitmap_key : ℕ) (e : k ≡ root_of d) (p : bitmap_key ≡ word_of s k 79)
      (g : Result Unit Refusal) (cl₂ : List ℕ) (n : Met d s (bitmap bitmap_key) cl₁ g cl₂) where
    abbrev inside : List Node
    inside = slot_nodes s (root_of d) 0 slots

    rooted : (r : Result Counts Refusal) (cl₃ : List ℕ) → Walks d s (bitmap bitmap_key ∷ inside) [] nothing cl₁ r cl₃
        → Walks d s (root ∷ []) [] nothing cl r cl₃
    unfolding noted leads_to
    rooted r cl₃ w = met_goes d s root cl cl₁ f m [] nothing cl₃ r z (rw (p, e) at w)

    pub bitmap_stops : (x : Refusal) (cl'' : List ℕ) → g ≡ Err x → Walks d s (root ∷ []) [] nothing cl (Err x) cl''
    bitmap_stops x cl'' t =
        rooted (Err x) cl'' (walks_stopped d s _ _ [] nothing cl₁ cl'' (Err x) x
        (walks_part d s (bitmap bitmap_key ∷ []) [] inside nothing cl₁ cl'' (Err x)
        (met_stops d s (bitmap bitmap_key) cl₁ cl₂ g n [] nothing cl'' x t)) refl)

    pub root_goes : (r : Result Counts Refusal) (cl₃ : List ℕ) {v : Unit {0}} → g ≡ Ok v
        → Walks d s inside [] nothing cl₂ r cl₃ → Walks d s (root ∷ []) [] nothing cl r cl₃
    unfolding noted leads_to
    root_goes r cl₃ y w =
        rooted r cl₃
        (walks_then d s _ inside inside [] [] nothing nothing cl₁ cl₂ cl₃ (Ok nothing) r
        (walks_part d s (bitmap bitmap_key ∷ []) [] inside nothing cl₁ cl₂ (Ok nothing)
        (met_goes d s (bitmap bitmap_key) cl₁ cl₂ g n [] nothing cl₂ (Ok nothing) y
        (walks_none d s [] nothing cl₂)))
        refl (sym (append-nil _)) w)

pub bitmap_ready : (d : Disk) (s cl cl' : List ℕ) (k : ℕ) (f : Result Unit Refusal) {u : Unit {0}}
    → Met d s (bitmap k) cl f cl' → f ≡ Ok u → length cl' ≡ length cl → Ready d s cl nothing → Ready d s cl' nothing
unfolding noted
bitmap_ready d s cl cl' k f m z l r = ready_met d s (bitmap k) nothing cl cl' f r m z l nothing refl

pub bitmap_range : (d : Disk) (s cl cl' : List ℕ) (k : ℕ) (f : Result Unit Refusal) {u : Unit {0}}
    → Met d s (bitmap k) cl f cl' → f ≡ Ok u → k < d.blocks
bitmap_range d s cl cl' k f m z = met_inside d s (bitmap k) cl cl' f m z

-- ---- the walk's outcome

module _ (d : Disk) (s cl cl' : List ℕ) (w : Result Counts Refusal) (z : cl ≡ replicate (claim_bytes d) 0)
    (h : Walks d s (root ∷ []) [] nothing cl w cl') where
  walk_is : walk_of d s ≡ goes_on d s w cl' []
  unfolding walk_of audit
  walk_is = rw z at (h.same [])

  pub walk_stopped : (x : Refusal) → w ≡ Err x → walk_of d s ≡ refused x.number x.place
  unfolding goes_on
  walk_stopped x e = walk_is ∙ rw e refl

  pub walk_done : (c : Counts) → w ≡ Ok c → walk_of d s ≡ done cl' c
  unfolding goes_on
  walk_done c e = walk_is ∙ rw e (run_end (graph d s) cl' c)

  pub within_stopped : (x : Refusal) (cl'' : List ℕ) → w ≡ Err x → Within d s (Err x) cl''
  within_stopped x cl'' e =
      record {
        answer = rw (walk_stopped x e) refl;
        claims = λ p q. not_both x p q;
      }

  module _ (c : Counts) (e : w ≡ Ok c) where
    pub walk_few : Sized d → total c ≤ most_blocks
    walk_few y = omega (arith, h.count c e, ap free z ∙ free_all d.blocks, y.most)

    -- the bitmap's key is in range
    pub bitmap_inside : (k bitmap_key : ℕ) → k ≡ root_of d → bitmap_key ≡ word_of s k 79 → bitmap_key < d.blocks
    unfolding leads_to
    bitmap_inside k bitmap_key g p =
        let f = ((accepted_lawful d s).0 (subst Through (sym (walk_done c e)) tt)).0 in
        rw (p, g) (key_passed d _ (f (bitmap (word_of s (root_of d) 79)) (ref 0 (top refl) refl)).0).1

    module _ (k bitmap_key : ℕ) (g : k ≡ root_of d) (p : bitmap_key ≡ word_of s k 79) (b : Result ℕ Refusal)
        (q : b ≡ bits_of d s bitmap_key cl') where
      bits_so : bits_of d s (word_of s (root_of d) 79) cl' ≡ b
      bits_so = sym (q ∙ rw (p, g) refl)

      pub within_right : (n : ℕ) (x : Report) → b ≡ Ok n → x ≡ report_of c n → Within d s (Ok x) cl'
      within_right n x y u =
          record { answer = rw (walk_done c e, bits_so, y, u) refl; claims = λ _ _. rw (walk_done c e) refl }

      pub within_wrong : (x : Refusal) (cl'' : List ℕ) → b ≡ Err x → Within d s (Err x) cl''
      within_wrong x cl'' y =
          record {
            answer = rw (walk_done c e, bits_so, y) refl;
            claims = λ p u. not_both x p u;
          }

-- ---- a claim area that is longer than the blocks

take_zeros : (k n : ℕ) → k ≤ n → take {A = ℕ} k (replicate n 0) ≡ replicate k 0
take_zeros zero n h = refl
take_zeros (suc k) zero h = absurd (omega arith)
take_zeros (suc k) (suc n) h = ap (λ (l : List ℕ). 0 ∷ l) (take_zeros k n (omega arith))

drop_zeros : (k n : ℕ) → drop {A = ℕ} k (replicate n 0) ≡ replicate (n - k) 0
drop_zeros zero n = let e : n ≡ n - 0 = omega arith in ap (λ (j : ℕ). replicate j 0) e
drop_zeros (suc k) zero = let e : 0 ≡ 0 - suc k = omega arith in ap (λ (j : ℕ). replicate j 0) e
drop_zeros (suc k) (suc n) =
    let e : n - k ≡ suc n - suc k = omega arith in drop_zeros k n ∙ ap (λ (j : ℕ). replicate j 0) e

module _ (d : Disk) (X : List ℕ) (n : ℕ) (e : n ≡ claim_bytes d) (h : Fresh d X) where
  abbrev z : X ≡ replicate (length X) 0
  z = h.zero

  pub part_zero : take n X ≡ replicate (claim_bytes d) 0
  part_zero = rw (e, z) (take_zeros (claim_bytes d) (length X) h.room)

  pub part_long : n ≡ length (take n X)
  part_long = e ∙ sym (ap length part_zero ∙ length-replicate (claim_bytes d) 0)

  module _ (s : List ℕ) (r : Result Report Refusal) (cl' : List ℕ) (w : Within d s r cl') (b : Bool)
      (q : b ≡ is_err r) where
    pub tagged_kept : b ≡ false → Tagged d s (length X) r (cl' ++ drop n X)
    tagged_kept t = go r refl (sym q ∙ t)
      where
        rest : drop n X ≡ replicate (length X - claim_bytes d) 0
        rest = ap (drop n) z ∙ drop_zeros n (length X) ∙ ap (λ (j : ℕ). replicate (length X - j) 0) e

        go : (o : Result Report Refusal) → r ≡ o → is_err o ≡ false → Tagged d s (length X) r (cl' ++ drop n X)
        go (Ok p) f h =
            record { answer = w.answer; claim = rw f (ap₂ (λ (a b : List ℕ). a ++ b) (w.claims p f) rest) }
        go (Err x) f h = impossible cc

    -- its first n bytes are set to 0
    pub tagged_cleared : (Y : List ℕ) → b ≡ true → length cl' ≡ length (take n X)
        → Y ≡ replicate (length (take n (cl' ++ drop n X))) 0
        → Tagged d s (length X) r (Y ++ drop n (cl' ++ drop n X))
    tagged_cleared Y t l y = go r refl (sym q ∙ t)
      where
        zeros : Y ++ drop n (cl' ++ drop n X) ≡ replicate (length X) 0
        zeros =
            let f : length cl' ≡ n = l ∙ sym part_long in
            let g : n + (length X - n) ≡ length X = omega (arith, h.room) in
            let k : n ≤ length (cl' ++ drop n X) = omega (arith, f, length-append cl' (drop n X)) in
            let u : length (take n (cl' ++ drop n X)) ≡ n = length-take-le n (cl' ++ drop n X) k in
            rw (y, u) (ap (λ (a : List ℕ). replicate n 0 ++ a)
            (drop_at cl' (drop n X) n f ∙ ap (drop n) z ∙ drop_zeros n (length X))
            ∙ replicate-append-replicate n (length X - n) 0 ∙ ap (λ (j : ℕ). replicate j 0) g)

        go : (o : Result Report Refusal) → r ≡ o → is_err o ≡ true
            → Tagged d s (length X) r (Y ++ drop n (cl' ++ drop n X))
        go (Ok p) f h = impossible cc
        go (Err x) f h = record { answer = w.answer; claim = rw f zeros }

-- ---- the tests before the walk

-- the answer's numbers are those of the answer
audited : (d : Disk) (s : List ℕ) (n : ℕ) (r : Result Report Refusal) (claim' : List ℕ) → r ≡ audit_of d s n
    → claim' ≡ claim_after d s r n → Audits d s n r claim'
audited d s n r claim' e c = record { answer = e; numbers = ap numbers_of e; claim = c }

module _ (d : Disk) (s X : List ℕ) (n b : ℕ) (r : Result Report Refusal) (z : X ≡ replicate n 0)
    (e : b ≡ image_bytes d) where
  pub audit_length : (length s ≡ b → ⊥) → r ≡ refuse fault.image_length 0 → Audits d s n r X
  unfolding audit_of pick
  audit_length h q = audited d s n r X (q ∙ rw (ne_eqb (length s) (image_bytes d) (λ f. h (f ∙ sym e))) refl) (rw q z)

  module _ (l : length s ≡ b) (a m : ℕ) (f : a ≡ claim_bytes d) (g : m ≡ n) where
    pub audit_short : m < a → r ≡ refuse fault.claim_area 0 → Audits d s n r X
    unfolding audit_of pick
    audit_short h q =
        audited d s n r X (q ∙ rw (eq-eqb (length s) (image_bytes d) (l ∙ e), lt-ltb n (claim_bytes d) (omega arith))
        refl) (rw q z)

    module _ (h : a ≤ m) (t : Bool) (u : t ≡ eqb (word_at s 0) (tag_of d)) where
      pub audit_untagged : t ≡ false → r ≡ refuse fault.boot_tag 0 → Audits d s n r X
      unfolding audit_of pick
      audit_untagged v q =
          audited d s n r X (q ∙ rw (
            eq-eqb (length s) (image_bytes d) (l ∙ e),
            le-ltb n (claim_bytes d) (omega arith),
            sym u ∙ v,
          ) refl) (rw q z)

      pub audit_goes : (Y : List ℕ) → t ≡ true → Tagged d s m r Y → Audits d s n r Y
      unfolding audit_of pick
      audit_goes Y v w =
          audited d s n r Y (w.answer
          ∙ rw (eq-eqb (length s) (image_bytes d) (l ∙ e), le-ltb n (claim_bytes d) (omega arith), sym u ∙ v) refl)
          (rw g at w.claim)

-- on the disk that the image is taken for
pub on_disk : (b : ℕ) (d : Disk) (s : List ℕ) (n : ℕ) (r : Result Report Refusal) (X : List ℕ) → d ≡ disk_of b s
    → Audits d s n r X → Audits (disk_of b s) s n r X
on_disk b d s n r X e h = rw e at h
