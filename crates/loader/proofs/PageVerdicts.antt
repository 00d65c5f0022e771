-- A load and a move in the terms of the page: when a call is accepted, and when each of 40, 41 and 42 is given, and
-- where. Each is said once, of a call that is lent lists of bases. Assumes nothing.
use Rattle.std.specs.Prelude.{Ok, Err}
use Rattle.std.proofs.Common.{◌≡◌, ℕ, ◌+◌, ◌*◌, ◌↔◌, List, [], ◌∷◌, length, sym, refl, ap, ◌∙◌, subst, ap₂, inl, inr}
use Rattle.std.proofs.Common.{arith}
use Rattle.answers.specs.Numbers as fault
use Rattle.answers.specs.Refusals.{refusal}
use Rattle.answers.specs.declared.Refusal.{Refusal}
use Rattle.program.proofs.Answers.{accepted_same}
use Rattle.program.specs.Page.{Hunk, Holds, Each, total}
use Rattle.program.specs.Header.{total_of}
use Rattle.answers.proofs.Members.{unlisted}
use Rattle.program.specs.Check.{accepted, check_refusals, check_of}
use Rattle.program.proofs.Pages.{page_accepted, accepted_page}
use Rattle.loader.specs.Memory.{loaded_of}
use Rattle.loader.specs.Bases.{bases_fault}
use Rattle.loader.specs.Calls.{room_fault, load_answer, move_answer}
use Rattle.loader.specs.Verdicts.{Accepts, GoodBases, FirstBad, Room, Short, FirstNear, Takes, Refuses40}
use Rattle.loader.specs.Verdicts.{Refuses41, Refuses42, CallWhy}
use Rattle.loader.proofs.Answering.{room_passed}
use Rattle.loader.proofs.Deciding.{room_good}
use Rattle.loader.proofs.BadBases.{BasesWhy, bases_why}
use Rattle.loader.proofs.Rooms.{room_why}
use Rattle.program.proofs.AsNumbers.{check_number}
use Rattle.loader.proofs.PageLoads.{page_loaded}
use Rattle.loader.proofs.PageBases.{held_total, good_exactly, bad_exactly}
use Rattle.loader.proofs.PageNear.{spaced_exactly, near_exactly}
use Rattle.loader.proofs.Lists.{AllPass, FirstFails, call_answer, TestWhy, call_passes, call_fails, load_call}
use Rattle.loader.proofs.Lists.{move_call}

place_of : {f g : Refusal} → f ≡ g → f.place ≡ g.place
place_of e = ap (λ (f : Refusal). f.place) e

-- ---- the tests of a file that holds hunks

module _ (file : List ℕ) (hs : List Hunk) (held : Holds file hs) where
  accepts : Accepts (check_of file)
  accepts = (length hs, 4 * total hs, page_accepted file hs held)

  -- lists of bases
  all_good : (from : ℕ) (ls : List (List ℕ)) → AllPass file from ls → Each (GoodBases hs) ls
  all_good from [] a = tt
  all_good from (l ∷ ls) a = ((good_exactly file hs held l from).0 a.0, all_good (from + total_of file) ls a.1)

  good_all : (from : ℕ) (ls : List (List ℕ)) → Each (GoodBases hs) ls → AllPass file from ls
  good_all from [] a = tt
  good_all from (l ∷ ls) a = ((good_exactly file hs held l from).1 a.0, good_all (from + total_of file) ls a.1)

  first_bad : (p from : ℕ) (ls : List (List ℕ)) → FirstFails file from ls (refusal fault.bad_base p)
      → FirstBad hs from ls p
  first_bad p from [] a = a
  first_bad p from (l ∷ ls) (inl x) = inl ((bad_exactly file hs held l from p).0 x)
  first_bad p from (l ∷ ls) (inr x) =
      inr (
        (good_exactly file hs held l from).0 x.0,
        subst (λ (k : ℕ). FirstBad hs (from + k) ls p)
            (held_total file hs held) (first_bad p (from + total_of file) ls x.1),
      )

  bad_first : (p from : ℕ) (ls : List (List ℕ)) → FirstBad hs from ls p
      → FirstFails file from ls (refusal fault.bad_base p)
  bad_first p from [] a = a
  bad_first p from (l ∷ ls) (inl x) = inl ((bad_exactly file hs held l from p).1 x)
  bad_first p from (l ∷ ls) (inr x) =
      inr (
        (good_exactly file hs held l from).1 x.0,
        bad_first p (from + total_of file) ls
            (subst (λ (k : ℕ). FirstBad hs (from + k) ls p) (sym (held_total file hs held)) x.1),
      )

  -- room
  module _ (m r w : ℕ) where
    same_room : room_fault (total_of file) (loaded_of file) m r w ≡ room_fault (length hs) (4 * total hs) m r w
    same_room =
        ap₂ (λ (t n : ℕ). room_fault t n m r w) (held_total file hs held)
        (page_loaded file hs held.fits held.whole held.words)

    room_exactly : (room_fault (total_of file) (loaded_of file) m r w ≡ Ok tt) ↔ Room (length hs) (4 * total hs) m r w
    room_exactly = (
      λ h. let x =
          room_passed (length hs) (4 * total hs) m r w (sym same_room ∙ h) in record {
            memory_fits = x.0;
            records_fit = x.1;
            work_fits = x.2;
          },
      λ h. same_room ∙ room_good _ _ m r w h,
    )

    short_exactly : (f : Refusal)
        → (room_fault (total_of file) (loaded_of file) m r w ≡ Err f)
        ↔ ((f ≡ refusal fault.short_room 0) × Short (length hs) (4 * total hs) m r w)
    short_exactly f = (
      λ h. (room_why (length hs) (4 * total hs) m r w f).0 (sym same_room ∙ h),
      λ h. same_room ∙ (room_why (length hs) (4 * total hs) m r w f).1 h,
    )

-- a list that fails gives 40
list_40 : (file bases : List ℕ) (from : ℕ) (f : Refusal) → bases_fault file bases from ≡ Err f
    → f ≡ refusal fault.bad_base f.place
list_40 file bases from f h = go ((bases_why file bases from f).0 h)
  where
    at : (q : ℕ) → f ≡ refusal fault.bad_base q → f ≡ refusal fault.bad_base f.place
    at q e = e ∙ ap (refusal fault.bad_base) (sym (place_of e))

    go : BasesWhy file bases from f → f ≡ refusal fault.bad_base f.place
    go (inl x) = at from x.0
    go (inr (c, x)) = at (from + x.0) x.2

lists_40 : (file : List ℕ) (f : Refusal) (from : ℕ) (ls : List (List ℕ)) → FirstFails file from ls f
    → f ≡ refusal fault.bad_base f.place
lists_40 file f from [] a = absurd a
lists_40 file f from (l ∷ ls) (inl x) = list_40 file l from f x
lists_40 file f from (l ∷ ls) (inr x) = lists_40 file f (from + total_of file) ls x.1

-- ---- a call

module _ (file : List ℕ) (lists : List (List ℕ)) (m r w : ℕ) where
  -- A call is accepted if and only if the file holds hunks, every list of bases is good, there is room, and no two
  -- targets of one hunk are near.
  pub call_accepted : (t n : ℕ)
      → (call_answer file lists m r w ≡ accepted t n) ↔ ((hs : List Hunk) × Holds file hs × Takes hs lists m r w t n)
  call_accepted t n = (there, back)
    where
      there : call_answer file lists m r w ≡ accepted t n → (hs : List Hunk) × Holds file hs × Takes hs lists m r w t n
      there a =
          let x = (call_passes file lists m r w t n).0 a in
          let g = accepted_page file t n x.0 in
          let e = accepted_same t n (length g.0) (4 * total g.0) (sym x.0 ∙ page_accepted file g.0 g.1) in (
            g.0,
            g.1,
            record {
              hunks = e.0;
              bytes = e.1;
              bases = all_good file g.0 g.1 0 lists x.1;
              room = (room_exactly file g.0 g.1 m r w).0 x.2;
              spaced = (spaced_exactly file g.0 g.1).0 x.3;
            },
          )

      back : (hs : List Hunk) × Holds file hs × Takes hs lists m r w t n → call_answer file lists m r w ≡ accepted t n
      back (hs, h, y) =
          (call_passes file lists m r w t n).1 (
            page_accepted file hs h ∙ sym (ap₂ accepted y.hunks y.bytes),
            good_all file hs h 0 lists y.bases,
            (room_exactly file hs h m r w).1 y.room,
            (spaced_exactly file hs h).1 y.spaced,
          )

  -- A call is refused if and only if the file has a fault of its own, or 40, 41 or 42 is to be given.
  pub call_refused : (f : Refusal) → (call_answer file lists m r w ≡ Err f) ↔ CallWhy file lists m r w f
  call_refused f = (λ a. there ((call_fails file lists m r w f).0 a), λ h. (call_fails file lists m r w f).1 (back h))
    where
      there : TestWhy file lists m r w f → CallWhy file lists m r w f
      there (inl x) = inl x
      there (inr (inl x)) =
          let g = accepted_page file x.0.0 x.0.1 x.0.2 in
          let e = lists_40 file f 0 lists x.1 in
          inr (
            g.0,
            g.1,
            f.place,
            inl
                (e, first_bad file g.0 g.1 f.place 0 lists (subst (FirstFails file 0 lists) e x.1)),
          )
      there (inr (inr (inl x))) =
          let g = accepted_page file x.0.0 x.0.1 x.0.2 in
          let y = (short_exactly file g.0 g.1 m r w f).0 x.2 in
          inr (g.0, g.1, 0, inr (inl (y.0, (all_good file g.0 g.1 0 lists x.1, y.1, refl))))
      there (inr (inr (inr x))) =
          let g = accepted_page file x.0.0 x.0.1 x.0.2 in
          let y = (near_exactly file g.0 g.1 f).0 x.3 in
          inr (
            g.0,
            g.1,
            y.0,
            inr (inr (
              y.1,
              (
                all_good file g.0 g.1 0 lists x.1,
                (room_exactly file g.0 g.1 m r w).0 x.2,
                y.2,
              ),
            )),
          )

      back : CallWhy file lists m r w f → TestWhy file lists m r w f
      back (inl x) = inl x
      back (inr (hs, h, p, inl (e, y))) =
          inr (inl (accepts file hs h, subst (FirstFails file 0 lists) (sym e) (bad_first file hs h p 0 lists y)))
      back (inr (hs, h, p, inr (inl (e, y)))) =
          inr (inr (inl (
            accepts file hs h,
            good_all file hs h 0 lists y.0,
            (short_exactly file hs h m r w f).1 (e ∙ ap (refusal fault.short_room) y.2, y.1),
          )))
      back (inr (hs, h, p, inr (inr (e, y)))) =
          inr (inr (inr (
            accepts file hs h,
            good_all file hs h 0 lists y.0,
            (room_exactly file hs h m r w).1 y.1,
            (near_exactly file hs h f).1 (p, e, y.2),
          )))

  -- each number alone
  module _ (p : ℕ) where
    number_of : {f g : Refusal} → f ≡ g → f.number ≡ g.number
    number_of e = ap (λ (f : Refusal). f.number) e

    -- 40 exactly for a list with another count, at its entry 0, or at the first bad entry; a list counts on from the
    -- one before.
    pub call_40 : (call_answer file lists m r w ≡ Err (refusal fault.bad_base p))
        ↔ ((hs : List Hunk) × Holds file hs × Refuses40 hs lists p)
    call_40 = (
      λ a. go ((call_refused (refusal fault.bad_base p)).0 a),
      λ h. (call_refused (refusal fault.bad_base p)).1
          (inr (h.0, h.1, p, inl (refl, h.2))),
    )
      where
        go : CallWhy file lists m r w (refusal fault.bad_base p)
            → (hs : List Hunk) × Holds file hs × Refuses40 hs lists p
        go (inl x) = unlisted check_refusals fault.bad_base 40 tt (check_number file (refusal fault.bad_base p) x) refl
        go (inr (hs, h, q, inl (e, y))) = (hs, h, subst (Refuses40 hs lists) (sym (place_of e)) y)
        go (inr (hs, h, q, inr (inl (e, y)))) = absurd (omega (arith, number_of e))
        go (inr (hs, h, q, inr (inr (e, y)))) = absurd (omega (arith, number_of e))

    -- 41 if and only if every list is good, and memory, records or work area is short.
    pub call_41 : (call_answer file lists m r w ≡ Err (refusal fault.short_room p))
        ↔ ((hs : List Hunk) × Holds file hs × Refuses41 hs lists m r w p)
    call_41 = (
      λ a. go ((call_refused (refusal fault.short_room p)).0 a),
      λ h. (call_refused (refusal fault.short_room p)).1
          (inr (h.0, h.1, p, inr (inl (refl, h.2)))),
    )
      where
        go : CallWhy file lists m r w (refusal fault.short_room p)
            → (hs : List Hunk) × Holds file hs × Refuses41 hs lists m r w p
        go (inl x) = unlisted check_refusals fault.short_room 41 tt
            (check_number file (refusal fault.short_room p) x) refl
        go (inr (hs, h, q, inl (e, y))) = absurd (omega (arith, number_of e))
        go (inr (hs, h, q, inr (inl (e, y)))) = (hs, h, (y.0, y.1, place_of e ∙ y.2))
        go (inr (hs, h, q, inr (inr (e, y)))) = absurd (omega (arith, number_of e))

    -- 42 if and only if every list is good and there is room, at the first target that is near an earlier one of its
    -- hunk.
    pub call_42 : (call_answer file lists m r w ≡ Err (refusal fault.near_targets p))
        ↔ ((hs : List Hunk) × Holds file hs × Refuses42 hs lists m r w p)
    call_42 = (
      λ a. go ((call_refused (refusal fault.near_targets p)).0 a),
      λ h. (call_refused (refusal fault.near_targets p)).1
          (inr (h.0, h.1, p, inr (inr (refl, h.2)))),
    )
      where
        go : CallWhy file lists m r w (refusal fault.near_targets p)
            → (hs : List Hunk) × Holds file hs × Refuses42 hs lists m r w p
        go (inl x) =
            unlisted check_refusals fault.near_targets 42 tt (check_number file (refusal fault.near_targets p) x) refl
        go (inr (hs, h, q, inl (e, y))) = absurd (omega (arith, number_of e))
        go (inr (hs, h, q, inr (inl (e, y)))) = absurd (omega (arith, number_of e))
        go (inr (hs, h, q, inr (inr (e, y)))) = (hs, h, (y.0, y.1, subst (FirstNear hs) (sym (place_of e)) y.2))

-- ---- a load is lent one list, a move the old and the new

module _ (file bases : List ℕ) (m r w : ℕ) where
  pub load_accepted : (t n : ℕ)
      → (load_answer file bases m r w ≡ accepted t n)
      ↔ ((hs : List Hunk) × Holds file hs × Takes hs (bases ∷ []) m r w t n)
  load_accepted t n = rw (load_call file bases m r w) (call_accepted file (bases ∷ []) m r w t n)

  pub load_refused : (f : Refusal) → (load_answer file bases m r w ≡ Err f) ↔ CallWhy file (bases ∷ []) m r w f
  load_refused f = rw (load_call file bases m r w) (call_refused file (bases ∷ []) m r w f)

  pub load_40_exactly : (p : ℕ)
      → (load_answer file bases m r w ≡ Err (refusal fault.bad_base p))
      ↔ ((hs : List Hunk) × Holds file hs × Refuses40 hs (bases ∷ []) p)
  load_40_exactly p = rw (load_call file bases m r w) (call_40 file (bases ∷ []) m r w p)

  pub load_41_exactly : (p : ℕ)
      → (load_answer file bases m r w ≡ Err (refusal fault.short_room p))
      ↔ ((hs : List Hunk) × Holds file hs × Refuses41 hs (bases ∷ []) m r w p)
  load_41_exactly p = rw (load_call file bases m r w) (call_41 file (bases ∷ []) m r w p)

  pub load_42_exactly : (p : ℕ)
      → (load_answer file bases m r w ≡ Err (refusal fault.near_targets p))
      ↔ ((hs : List Hunk) × Holds file hs × Refuses42 hs (bases ∷ []) m r w p)
  load_42_exactly p = rw (load_call file bases m r w) (call_42 file (bases ∷ []) m r w p)

module _ (file old new : List ℕ) (m r w : ℕ) where
  pub move_accepted : (t n : ℕ)
      → (move_answer file old new m r w ≡ accepted t n)
      ↔ ((hs : List Hunk) × Holds file hs × Takes hs (old ∷ new ∷ []) m r w t n)
  move_accepted t n = rw (move_call file old new m r w) (call_accepted file (old ∷ new ∷ []) m r w t n)

  pub move_refused : (f : Refusal) → (move_answer file old new m r w ≡ Err f)
      ↔ CallWhy file (old ∷ new ∷ []) m r w f
  move_refused f = rw (move_call file old new m r w) (call_refused file (old ∷ new ∷ []) m r w f)

  pub move_40_exactly : (p : ℕ)
      → (move_answer file old new m r w ≡ Err (refusal fault.bad_base p))
      ↔ ((hs : List Hunk) × Holds file hs × Refuses40 hs (old ∷ new ∷ []) p)
  move_40_exactly p = rw (move_call file old new m r w) (call_40 file (old ∷ new ∷ []) m r w p)

  pub move_41_exactly : (p : ℕ)
      → (move_answer file old new m r w ≡ Err (refusal fault.short_room p))
      ↔ ((hs : List Hunk) × Holds file hs × Refuses41 hs (old ∷ new ∷ []) m r w p)
  move_41_exactly p = rw (move_call file old new m r w) (call_41 file (old ∷ new ∷ []) m r w p)

  pub move_42_exactly : (p : ℕ)
      → (move_answer file old new m r w ≡ Err (refusal fault.near_targets p))
      ↔ ((hs : List Hunk) × Holds file hs × Refuses42 hs (old ∷ new ∷ []) m r w p)
  move_42_exactly p = rw (move_call file old new m r w) (call_42 file (old ∷ new ∷ []) m r w p)
