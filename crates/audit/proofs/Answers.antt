-- An audit's answer taken apart, test by test: each answer is given exactly then (`answers_exactly`). Assumes nothing.
use Rattle.std.specs.Prelude.{Result, Ok, Err}
use Prim.Native.Nat.{ℕ}
use mathlib.Core.Path.{◌≡◌, refl, sym, ap, ap₂, ◌∙◌, subst}
use mathlib.Core.Logic.{◌↔◌}
use mathlib.Core.Bool.{Bool, true, false}
use mathlib.Core.List.{List}
use lib.Dec.{eqb, ltb}
use lib.ListN.{length}
use borrow.Author.Tests.{ltb-true, ltb-false, eqb-true, eqb-false, lt-ltb, le-ltb, eq-eqb, ne_eqb}
use Rattle.answers.specs.Numbers as fault
use Rattle.answers.specs.declared.Refusal.{Refusal}
use Rattle.answers.specs.Tests.{pick}
use Rattle.words.specs.Word.{word_at}
use Rattle.reach.specs.Walk.{Outcome, done, refused, Accepted as Through}
use Rattle.volume.specs.declared.disk.Disk.{Disk}
use Rattle.volume.specs.Disks.{first_key, bit_span, image_bytes, claim_bytes, tag_of}
use Rattle.volume.specs.Law.{bitmap_key_of}
use Rattle.walk.specs.declared.Counts.{Counts}
use Rattle.walk.specs.Nodes.{walk_of}
use Rattle.walk.proofs.Decides.{tree_decided}
use Rattle.walk.proofs.Reports.{walked_report}
use Rattle.walk.proofs.Refuses.{refused_first}
use Rattle.walk.proofs.Causes.{refused_cause}
use Rattle.audit.specs.declared.audit.Report.{Report}
use Rattle.audit.specs.Bits.{bits_of}
use Rattle.audit.specs.Audits.{refuse, report_of, mapped, walked, audit_of}
use Rattle.audit.specs.Verdicts.{Opened, Test, size, area, tag, walk, bits, test_of, Says}
use Rattle.audit.proofs.Bitmaps.{wrong_number, bits_wrong}
use Rattle.audit.proofs.Numbers.{Numbered, numbered, walk_number, by_walk}

-- a walk that is through has claims and counts
pub through : (d : Disk) (s : List ℕ) → Through (walk_of d s) → (c : List ℕ) × (m : Counts) × (walk_of d s ≡ done c m)
through d s h = go (walk_of d s) refl h
  where
    go : (o : Outcome Counts) → walk_of d s ≡ o → Through o → (c : List ℕ) × (m : Counts) × (walk_of d s ≡ done c m)
    go (done c m) e h = (c, m, e)
    go (refused v k) e h = absurd h

module _ (d : Disk) (s : List ℕ) (n : ℕ) where
  -- all tests pass
  pub record Passed (p : Report) : Type 0 where
    pub opened : Opened d s n
    pub claims : List ℕ
    pub counts : Counts
    pub free : ℕ
    pub walks : walk_of d s ≡ done claims counts
    pub maps : bits_of d s (bitmap_key_of d s) claims ≡ Ok free
    pub told : p ≡ report_of counts free

  abbrev pub Answers : Result Report Refusal → Type 0
  Answers (Ok p) = Passed p
  Answers (Err x) = Says d s n x.number x.place (test_of x.number)

  -- ---- what the answer says

  walked_says : Opened d s n → Answers (walked d s (walk_of d s))
  unfolding pick
  walked_says o = go (walk_of d s) refl
    where
      says : (c : List ℕ) (m : Counts) → walk_of d s ≡ done c m → (b : Result ℕ Refusal)
          → bits_of d s (bitmap_key_of d s) c ≡ b
          → Answers (mapped m b)
      says c m e (Ok f) b = record { opened = o; claims = c; counts = m; free = f; walks = e; maps = b; told = refl }
      says c m e (Err x) b =
          let t = (tree_decided d s).1 (subst Through (sym e) tt, o.long, o.tag) in
          let q = wrong_number s (bitmap_key_of d s) c first_key 0 (bit_span d) x b in
          let w = (bits_wrong d s c m (walked_report d s c m e) x.place).0 (b ∙ ap Err q) in
          subst (λ (y : Refusal). Answers (Err y)) (sym q) (o.room, t.0, t.1, w)

      go : (u : Outcome Counts) → walk_of d s ≡ u → Answers (walked d s u)
      go (done c m) e = says c m e (bits_of d s (bitmap_key_of d s) c) refl
      go (refused v k) e =
          let w = (refused_first d s v k).0 e in
          rw (by_walk v (walk_number d s v k (refused_cause d s v k e))) (o, w)

  answers : Answers (audit_of d s n)
  unfolding audit_of pick
  answers = go (eqb (length s) (image_bytes d)) refl (ltb n (claim_bytes d)) refl (eqb (word_at s 0) (tag_of d)) refl
    where
      go : (a : Bool) → eqb (length s) (image_bytes d) ≡ a → (b : Bool) → ltb n (claim_bytes d) ≡ b → (c : Bool)
          → eqb (word_at s 0) (tag_of d) ≡ c
          → Answers (pick a (pick b (refuse fault.claim_area 0)
          (pick c (walked d s (walk_of d s)) (refuse fault.boot_tag 0))) (refuse fault.image_length 0))
      go false p b q c r = (refl, eqb-false _ _ p)
      go true p true q c r = (refl, eqb-true _ _ p, ltb-true _ _ q)
      go true p false q false r = (refl, eqb-true _ _ p, ltb-false _ _ q, eqb-false _ _ r)
      go true p false q true r =
          walked_says (record { long = eqb-true _ _ p; room = ltb-false _ _ q; tag = eqb-true _ _ r })

  -- ---- and what makes it

  opens : Opened d s n → (o : Outcome Counts) → walk_of d s ≡ o → audit_of d s n ≡ walked d s o
  unfolding audit_of pick
  opens h o e =
      rw (
        eq-eqb (length s) (image_bytes d) h.long,
        le-ltb n (claim_bytes d) h.room,
        eq-eqb (word_at s 0) (tag_of d) h.tag,
        e,
      )

  refuses : (v k : ℕ) (t : Test) → Numbered v t → Says d s n v k t → audit_of d s n ≡ refuse v k
  unfolding audit_of pick
  refuses v k size e (q, l) = rw (ne_eqb (length s) (image_bytes d) l) (ap₂ refuse (sym e) (sym q))
  refuses v k area e (q, l, h) =
      rw (eq-eqb (length s) (image_bytes d) l, lt-ltb n (claim_bytes d) h) (ap₂ refuse (sym e) (sym q))
  refuses v k tag e (q, l, h, t) =
      rw (eq-eqb (length s) (image_bytes d) l, le-ltb n (claim_bytes d) h, ne_eqb (word_at s 0) (tag_of d) t)
      (ap₂ refuse (sym e) (sym q))
  refuses v k walk e (o, w) = opens o (refused v k) ((refused_first d s v k).1 w)
  refuses v k bits e (l, h, u, w) =
      let p = (tree_decided d s).0 (h, u) in
      let t = through d s p.0 in
      opens (record { long = p.1; room = l; tag = p.2 }) (done t.0 t.1) t.2
      ∙ ap (mapped t.1) ((bits_wrong d s t.0 t.1 (walked_report d s t.0 t.1 t.2) k).1 w)
      ∙ ap (λ (u : ℕ). refuse u k) (sym e)

  back : (r : Result Report Refusal) → Answers r → audit_of d s n ≡ r
  back (Ok p) h =
      opens h.opened (done h.claims h.counts) h.walks ∙ ap (mapped h.counts) h.maps
      ∙ ap Ok (sym h.told)
  back (Err x) h = refuses x.number x.place (test_of x.number) (numbered x.number) h

  pub answers_exactly : (r : Result Report Refusal) → (audit_of d s n ≡ r) ↔ Answers r
  answers_exactly r = ((λ e. subst Answers e answers), back r)
