-- What an accepted audit says: `accepted_exactly`, and `accepted_volume` of every kind; `accepted_claims`,
-- `accepted_report`; and `audit_determined`. Assumes nothing.
use Rattle.std.specs.Prelude.{Result, Ok, Err}
use Prim.Native.Nat.{ℕ, zero, suc, ◌+◌, ◌-◌, ◌≤◌, ◌<◌}
use mathlib.Core.Path.{◌≡◌, refl, sym, ap, ◌∙◌, subst}
use mathlib.Core.Logic.{◌⊎◌, ◌↔◌, inl, inr}
use mathlib.Core.List.{List, ◌++◌}
use native.Mathlib.Omega.{arith}
use native.Mathlib.Decide.{dec_lt}
use lib.ListN.{length, get_or, replicate, length-append, length-replicate, get_or-append}
use lib.Seq.{get_or-append-add}
use Rattle.answers.specs.declared.Refusal.{Refusal}
use Rattle.reach.specs.References.{top}
use Rattle.reach.specs.Walk.{Outcome, done, free, Accepted as Through}
use Rattle.volume.specs.declared.disk.Disk.{Disk}
use Rattle.volume.specs.Disks.{first_key, bit_span, claim_bytes, root_of, disk_of}
use Rattle.volume.specs.References.{to, root}
use Rattle.volume.specs.Law.{bitmap_key_of, Used, Volume, IsVolume}
use Rattle.volume.proofs.Disks.{volume_is}
use Rattle.walk.specs.declared.Counts.{Counts}
use Rattle.walk.specs.Nodes.{key_of, walk_of}
use Rattle.walk.specs.Reports.{Walked}
use Rattle.walk.proofs.Passes.{key_passed}
use Rattle.walk.proofs.Accepts.{passes_in_tree, accepted_lawful, node_reached, node_key}
use Rattle.walk.proofs.Decides.{volume_decided}
use Rattle.walk.proofs.Reports.{walked_report}
use Rattle.audit.specs.declared.audit.Report.{Report}
use Rattle.audit.specs.Bits.{bits_of}
use Rattle.audit.specs.Audits.{numbers_of, report_of, claims_of, claim_after, audit_of, Audits}
use Rattle.audit.specs.Verdicts.{free_from, Opened, Reported, Claimed}
use Rattle.audit.proofs.Bitmaps.{claim_byte, right_exactly, bits_right, count_free}
use Rattle.audit.proofs.Answers.{through, answers_exactly}

zero_byte : (n k : ℕ) → get_or {A = ℕ} (replicate n 0) k 0 ≡ 0
zero_byte zero k = refl
zero_byte (suc n) zero = refl
zero_byte (suc n) (suc k) = zero_byte n k

-- any two outcomes allowed for one input coincide
pub audit_determined : (d : Disk) (s : List ℕ) (n : ℕ) (r r' : Result Report Refusal) (c c' : List ℕ) → Audits d s n r c
    → Audits d s n r' c' → (numbers_of r ≡ numbers_of r') × (r ≡ r') × (c ≡ c')
audit_determined d s n r r' c c' a b =
    let e : r ≡ r' = a.answer ∙ sym b.answer in
    (ap numbers_of e, e, a.claim ∙ ap (λ (x : Result Report Refusal). claim_after d s x n) e ∙ sym b.claim)

module _ (d : Disk) (s : List ℕ) where
  module _ (c : List ℕ) (m : Counts) (e : walk_of d s ≡ done c m) where
    -- reached blocks lie after the boot blocks, in the volume
    used_inside : (k : ℕ) → Used d s k → (first_key ≤ k) × (k < d.blocks)
    used_inside k u =
        let fine = passes_in_tree d s ((accepted_lawful d s).0 (subst Through (sym e) tt)).0 in
        let n = node_reached d s fine u.1 in
        subst (λ (j : ℕ). (first_key ≤ j) × (j < d.blocks)) (node_key d s fine u.1 ∙ u.2)
        (key_passed d (key_of d n.0) (fine n.0 n.1).0)

    -- the root is one
    enough : first_key < d.blocks
    enough = let r = used_inside (root_of d) (to root (root_of d), top refl, refl) in omega (arith, r.0, r.1)

    boot_byte : (k : ℕ) → k < first_key → get_or c k 0 ≡ 0
    boot_byte k l = go (claim_byte d s c m (walked_report d s c m e) k (omega (arith, enough)))
      where
        go : ((get_or c k 0 ≡ 1) × Used d s k) ⊎ ((get_or c k 0 ≡ 0) × (¬ Used d s k)) → get_or c k 0 ≡ 0
        go (inl h) = absurd (omega (arith, (used_inside k h.1).0))
        go (inr h) = h.0

    free_blocks : (f : ℕ) → bits_of d s (bitmap_key_of d s) c ≡ Ok f
        → free c ≡ first_key + free_from s (bitmap_key_of d s) first_key (bit_span d)
    free_blocks f b =
        count_free s (bitmap_key_of d s) c (bit_span d) (omega (arith, (walked_report d s c m e).size, enough))
        (boot_byte 0 (omega arith)) (boot_byte 1 (omega arith))
        ((right_exactly s (bitmap_key_of d s) c first_key 0 (bit_span d) f).0 b).0

  -- ---- an image is accepted if and only if it is a volume as the law says

  module _ (n : ℕ) where
    pub accepted_exactly : claim_bytes d ≤ n → ((r : Report) × (audit_of d s n ≡ Ok r)) ↔ Volume d s
    accepted_exactly l = (there, back)
      where
        there : (r : Report) × (audit_of d s n ≡ Ok r) → Volume d s
        there (r, e) =
            let z = (answers_exactly d s n (Ok r)).0 e in
            let b =
            (bits_right d s z.claims z.counts (walked_report d s z.claims z.counts z.walks)
            z.free).0 z.maps in
            (volume_decided d s).1 (subst Through (sym z.walks) tt, z.opened.long, z.opened.tag, b.0)

        back : Volume d s → (r : Report) × (audit_of d s n ≡ Ok r)
        back v =
            let p = (volume_decided d s).0 v in
            let t = through d s p.0 in
            let f = free_from s (bitmap_key_of d s) first_key (bit_span d) in
            let m = (bits_right d s t.0 t.1 (walked_report d s t.0 t.1 t.2) f).1 (p.3, refl) in
            let o : Opened d s n = record { long = p.1; room = l; tag = p.2 } in (
              report_of t.1 f,
              (answers_exactly d s n (Ok (report_of t.1 f))).1
                  (record { opened = o; claims = t.0; counts = t.1; free = f; walks = t.2; maps = m; told = refl }),
            )

    -- ---- what it leaves

    module _ (r : Result Report Refusal) (claim' : List ℕ) (a : Audits d s n r claim') where
      pub accepted_claims : (p : Report) → r ≡ Ok p → Claimed d s n claim'
      accepted_claims p q =
          let z = (answers_exactly d s n (Ok p)).0 (sym a.answer ∙ q) in
          let e : claim' ≡ z.claims ++ zeros =
          a.claim ∙ ap (λ (x : Result Report Refusal). claim_after d s x n) q
          ∙ ap (λ (o : Outcome Counts). claims_of o ++ zeros)
          z.walks in
          subst (Claimed d s n) (sym e) (claimed z.claims z.counts z.walks z.opened.room)
        where
          zeros : List ℕ
          zeros = replicate (n - claim_bytes d) 0

          claimed : (c : List ℕ) (m : Counts) → walk_of d s ≡ done c m → claim_bytes d ≤ n → Claimed d s n (c ++ zeros)
          claimed c m e l =
              let w = walked_report d s c m e in
              record {
                size = omega (
                  arith,
                  length-append c zeros,
                  length-replicate {A = ℕ} (n - claim_bytes d) 0,
                  w.size,
                );
                byte = λ k. at w k (dec_lt k d.blocks);
              }
            where
              at : Walked d s c m → (k : ℕ) → Dec (k < d.blocks)
                  → ((get_or (c ++ zeros) k 0 ≡ 1) × Used d s k) ⊎ ((get_or (c ++ zeros) k 0 ≡ 0) × (¬ Used d s k))
              at w k (yes u) =
                  let z = w.size in rw (get_or-append c zeros 0 k (omega arith)) (claim_byte d s c m w k u)
              at w k (no u) =
                  let z = w.size in
                  let j : k ≡ length c + (k - length c) = omega arith in
                  inr (
                    ap (λ (i : ℕ). get_or (c ++ zeros) i 0) j ∙ get_or-append-add c zeros (k - length c) 0
                        ∙ zero_byte (n - claim_bytes d) (k - length c),
                    λ h. u (used_inside c m e k h).1,
                  )

      pub refused_claims : (x : Refusal) → r ≡ Err x → claim' ≡ replicate n 0
      refused_claims x q = a.claim ∙ ap (λ (y : Result Report Refusal). claim_after d s y n) q

    -- ---- what it reports

    pub accepted_report : (p : Report) → audit_of d s n ≡ Ok p → Reported d s p
    accepted_report p q =
        let z = (answers_exactly d s n (Ok p)).0 q in
        subst (Reported d s) (sym z.told) (reported z.claims z.counts z.walks z.free z.maps)
      where
        reported : (c : List ℕ) (m : Counts) → walk_of d s ≡ done c m → (f : ℕ)
            → bits_of d s (bitmap_key_of d s) c ≡ Ok f → Reported d s (report_of m f)
        reported c m e f b =
            let w = walked_report d s c m e in
            let x = (bits_right d s c m w f).0 b in
            record {
              reached = w.reached;
              all = w.all;
              only = w.only;
              keys = w.keys;
              directories = w.directories;
              files = w.files;
              lists = w.lists;
              blocks = w.blocks;
              used = w.total;
              free = x.1;
              whole = omega (arith, w.total, w.used, x.1, free_blocks c m e f b);
            }

-- An audit that names b accepts if and only if the image is a volume of a disk that exists and is named.
pub accepted_volume : (b : ℕ) (s : List ℕ) (n : ℕ) → claim_bytes (disk_of b s) ≤ n
    → ((r : Report) × (audit_of (disk_of b s) s n ≡ Ok r)) ↔ IsVolume b s
accepted_volume b s n l =
    let a = accepted_exactly (disk_of b s) s n l in
    let v = volume_is b s in
    (λ e. v.0 (a.0 e), λ w. a.1 (v.1 w))
