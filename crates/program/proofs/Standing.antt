-- Wherever the reader comes, whole hunks and a begun one stand before it, or all hunks do. Assumes nothing.
use Prim.Native.Nat.{ℕ, suc, ◌+◌, ◌*◌, ◌-◌, ◌%◌, ◌<◌, ◌≤◌}
use mathlib.Core.Path.{◌≡◌, refl, sym, ap, ap₂, ◌∙◌}
use mathlib.Core.Logic.{◌≢◌, ◌⊎◌, inl, inr, ◌↔◌}
use mathlib.Core.List.{List, [], ◌∷◌, ◌++◌, append_assoc, append-nil}
use mathlib.Core.Bool.{Bool, true, false}
use native.Mathlib.Omega.{arith}
use native.Mathlib.Numerals.{add-one}
use lib.ListN.{length, length-append}
use lib.Dec.{ltb, leb, eqb}
use borrow.Author.Tests.{ltb-true, ltb-false, leb-false, eqb-true, eqb-false}
use Rattle.std.specs.Prelude.{Ok}
use Rattle.program.specs.Types as type
use Rattle.answers.specs.Numbers as fault
use Rattle.words.specs.Word.{word_at, words_at}
use Rattle.answers.specs.Tests.{pick}
use Rattle.program.specs.declared.reader.After.{After}
use Rattle.program.specs.declared.reader.After.TheVariants as after
use Rattle.program.specs.declared.reader.Cursor.{Cursor}
use Rattle.program.specs.declared.reader.Mode.TheVariants as mode
use Rattle.program.specs.Page.{Name, Body, Group, Symbol, Part, Hunk, none, named, code, stores, bss}
use Rattle.program.specs.Page.{relocation, symbols, debug, joined, name_words, body_words, group_words}
use Rattle.program.specs.Page.{symbol_words, part_words, hunk_words, Each, body_count, stored_words, OffsetFits}
use Rattle.program.specs.Page.{GroupFits, SymbolFits, PartFits, HunkFits, total}
use Rattle.program.specs.Begun.{PartBegun, Begun, a_part, a_count, a_number, an_offset, a_symbol, symbol_word}
use Rattle.program.specs.Begun.{debug_length, debug_word, first, name_length, name_word, a_body, body_length}
use Rattle.program.specs.Begun.{body_word, after_body, part_so_far, so_far, PartBegunFits, BegunFits}
use Rattle.program.specs.Header.{total_of, space_of, size_of, start_at}
use Rattle.program.specs.Spaces.{Space}
use Rattle.program.specs.Reader.{Next, resume, skip, body_of, stored_from, end_of, turn, step_of}
use Rattle.program.specs.Cursors.{HeaderFits}
use Rattle.program.specs.Verdicts.{Stand, OfSpaces, Before, AllHunks}
use Rattle.program.proofs.Coming.{Comes, begins, takes}
use Rattle.program.proofs.Heading.{words_add}
use Rattle.program.proofs.CursorsFit.{pick_on, on_on, bad_on}
use Rattle.program.proofs.Spaces.{size_same}
use Rattle.program.proofs.Taken.{cursor}
use Rattle.program.proofs.Beginnings.{part_mode, mode_of, cursor_in, cursor_of, cursor_past, before_comes}
use Rattle.program.proofs.Beginnings.{whole_comes}

pub cons : {w v : ℕ} {a b : List ℕ} → w ≡ v → a ≡ b → w ∷ a ≡ v ∷ b
cons p q = cc

-- ---- one more at the end

infixl 65 ◌▹◌
abbrev ◌▹◌ : {A : Type 0} → List A → A → List A
xs ▹ x = xs ++ (x ∷ [])

length_snoc : {A : Type 0} (ws : List A) (w : A) → length (ws ▹ w) ≡ suc (length ws)
length_snoc ws w = simp length-append (omega arith)

each_snoc : {A : Type 0} (P : A → Type 0) (xs : List A) (x : A) → Each P xs → P x → Each P (xs ▹ x)
each_snoc P [] x f g = (g, tt)
each_snoc P (y ∷ xs) x f g = (f.0, each_snoc P xs x f.1 g)

joined_snoc : {A : Type 0} (f : A → List ℕ) (xs : List A) (x : A) → joined f (xs ▹ x) ≡ joined f xs ++ f x
joined_snoc f [] x = append-nil (f x)
joined_snoc f (y ∷ xs) x =
    ap (λ (l : List ℕ). f y ++ l) (joined_snoc f xs x) ∙ sym (append_assoc (f y) (joined f xs) (f x))

spaces_snoc : (t : ℕ) (space : ℕ → Space) (hs : List Hunk) (i j : ℕ) (x : Hunk) → i + length hs ≡ j
    → OfSpaces t space i hs
    → x.space ≡ space j → HunkFits t x
    → OfSpaces t space i (hs ▹ x)
spaces_snoc t space [] i j x e z s f = let a : i ≡ j = omega arith in (rw a s, f, tt)
spaces_snoc t space (h ∷ hs) i j x e z s f = (z.0, z.1, spaces_snoc t space hs (i + 1) j x (omega arith) z.2 s f)

total_snoc : (hs : List Hunk) (x : Hunk) → total (hs ▹ x) ≡ total hs + x.space.size
total_snoc [] x = omega arith
total_snoc (h ∷ hs) x = omega (arith, total_snoc hs x)

-- ---- a word of a begun hunk

abbrev group_of : ℕ → List ℕ → Group
group_of k os = record { hunk = k; offsets = os }

module _ (t : ℕ) (space : ℕ → Space) (h p w : ℕ) (d : Cursor) where
  -- words that are passed over: w is their number, or one of n of them
  abbrev Counts : ℕ → After → Type 0
  Counts s a = ((w ≡ 0) × (cursor (resume a) h p s ≡ d)) ⊎ ((0 < w) × (cursor (mode.Skip (w - 1) a) h p s ≡ d))

  counts : (s : ℕ) (a : After) → skip (cursor mode.Part h p s) w a ≡ Ok d → Counts s a
  counts s a =
      pick_on (eqb w 0) _ _ (Ok d) (λ q x. inl (eqb-true w 0 q, on_on _ d x))
      (λ q x. let z = eqb-false w 0 q in inr (omega (arith, z), on_on _ d x))

  abbrev Passes : ℕ → After → ℕ → List ℕ → Type 0
  Passes s a n ws =
      ((length (ws ▹ w) ≡ n) × (cursor (resume a) h p s ≡ d))
      ⊎ ((length (ws ▹ w) < n) × (cursor (mode.Skip (n - suc (length (ws ▹ w))) a) h p s ≡ d))

  passes : (s : ℕ) (a : After) (n : ℕ) (ws : List ℕ) → length ws < n
      → skip (cursor mode.Part h p s) (n - suc (length ws)) a ≡ Ok d → Passes s a n ws
  passes s a n ws l =
      let k = length_snoc ws w in
      pick_on (eqb (n - suc (length ws)) 0) _ _ (Ok d)
      (λ q x. let z = eqb-true (n - suc (length ws)) 0 q in inl (omega arith, on_on _ d x))
      (λ q x.
      let z = eqb-false (n - suc (length ws)) 0 q in
      let y : n - suc (length (ws ▹ w)) ≡ n - suc (length ws) - 1 = omega arith in
      inr (omega (arith, z), ap (λ (i : ℕ). cursor (mode.Skip i a) h p s) y ∙ on_on _ d x))

  module _ (s : ℕ) where
    -- the part goes on, or is whole; or the hunk ends
    abbrev PartStep : PartBegun → Type 0
    PartStep q =
        ((r : PartBegun) × PartBegunFits t s r × (part_so_far q ▹ w ≡ part_so_far r) × (cursor (part_mode r) h p s ≡ d))
        ⊎ ((x : Part) × PartFits t s x × (part_so_far q ▹ w ≡ part_words x) × (cursor mode.Part h p s ≡ d))
        ⊎ ((part_so_far q ▹ w ≡ type.end ∷ []) × (end_of t space (cursor mode.Part h p s) ≡ Ok d))

    offset_step : (gs : List Group) (n k : ℕ) (os : List ℕ) → PartBegunFits t s (an_offset gs n k os) → OffsetFits s w
        → pick {X = Next} (eqb (n - suc (length os)) 0) (Ok (cursor mode.Count h p s))
        (Ok (cursor (mode.Offset (n - suc (length os) - 1) k) h p s)) ≡ Ok d
        → PartStep (an_offset gs n k os)
    offset_step gs n k os f o =
        pick_on (eqb (n - suc (length os)) 0) _ _ (Ok d)
        (λ q x.
        let z = eqb-true (n - suc (length os)) 0 q in
        inl (
          a_count (gs ▹ group_of k (os ▹ w)),
          each_snoc (GroupFits t s) gs (group_of k (os ▹ w)) f.0 fits,
          last (omega (arith, long, f.3)),
          on_on _ d x,
        ))
        (λ q x.
        let z = eqb-false (n - suc (length os)) 0 q in
        let y : n - suc (length (os ▹ w)) ≡ n - suc (length os) - 1 = omega (arith, long) in
        inl (
          an_offset gs n k (os ▹ w),
          (f.0, f.1, each_snoc (OffsetFits s) os w f.2 o, omega (arith, long, f.3, z)),
          ap (λ (l : List ℕ). type.relocation ∷ l) (append_assoc (joined group_words gs) (n ∷ k ∷ os) (w ∷ [])),
          ap (λ (i : ℕ). cursor (mode.Offset i k) h p s) y ∙ on_on _ d x,
        ))
      where
        long : length (os ▹ w) ≡ suc (length os)
        long = length_snoc os w

        fits : GroupFits t s (group_of k (os ▹ w))
        fits =
            record {
              some = λ e. let z : length (os ▹ w) ≡ 0 = ap length e in omega (arith, long);
              number = f.1;
              offsets = each_snoc (OffsetFits s) os w f.2 o;
            }

        last : length (os ▹ w) ≡ n
            → part_so_far (an_offset gs n k os) ▹ w ≡ part_so_far (a_count (gs ▹ group_of k (os ▹ w)))
        last e =
            ap (λ (l : List ℕ). type.relocation ∷ l)
            (append_assoc (joined group_words gs) (n ∷ k ∷ os) (w ∷ [])
            ∙ ap (λ (i : ℕ). joined group_words gs ++ (i ∷ k ∷ os ▹ w)) (sym e)
            ∙ sym (joined_snoc group_words gs (group_of k (os ▹ w))))

    part_step : (q : PartBegun) → PartBegunFits t s q → turn t space (cursor (part_mode q) h p s) w (part_mode q) ≡ Ok d
        → PartStep q
    part_step a_part f =
        pick_on (eqb w type.relocation) _ _ (Ok d)
        (λ e x. inl (a_count [], tt, cons (eqb-true _ _ e) refl, on_on _ d x))
        (λ _. pick_on (eqb w type.symbols) _ _ (Ok d)
        (λ e x. inl (a_symbol [], tt, cons (eqb-true _ _ e) refl, on_on _ d x))
        (λ _. pick_on (eqb w type.debug) _ _ (Ok d)
        (λ e x. inl (debug_length, tt, cons (eqb-true _ _ e) refl, on_on _ d x))
        (λ _. pick_on (eqb w type.end) _ _ (Ok d) (λ e x. inr (inr (cons (eqb-true _ _ e) refl, x)))
        (λ _. bad_on fault.misplaced_block d))))
    part_step (a_count gs) f =
        pick_on (eqb w 0) _ _ (Ok d)
        (λ e x. inr (inl (
          relocation gs,
          f,
          ap (λ (i : ℕ). type.relocation ∷ joined group_words gs ++ (i ∷ []))
              (eqb-true w 0 e),
          on_on _ d x,
        )))
        (λ e x. let z = eqb-false w 0 e in inl (a_number gs w, (f, omega (arith, z)), refl, on_on _ d x))
    part_step (a_number gs n) f =
        pick_on (ltb w t) _ _ (Ok d)
        (λ e x.
        let words = ap (λ (l : List ℕ). type.relocation ∷ l) (append_assoc (joined group_words gs) (n ∷ []) (w ∷ [])) in
        inl (an_offset gs n w [], (f.0, ltb-true w t e, tt, f.1), words, on_on _ d x))
        (λ _. bad_on fault.bad_target d)
    part_step (an_offset gs n k os) f =
        pick_on (eqb (w % 2) 0) _ _ (Ok d)
        (λ e. pick_on (ltb (4 * s) (w + 4)) _ _ (Ok d) (λ _. bad_on fault.bad_target d)
        (λ g x. offset_step gs n k os f (eqb-true _ _ e, ltb-false _ _ g) x))
        (λ _. bad_on fault.bad_target d)
    part_step (a_symbol us) f =
        pick_on (eqb w 0) _ _ (Ok d)
        (λ e x. inr (inl (
          symbols us,
          f,
          ap (λ (i : ℕ). type.symbols ∷ joined symbol_words us ++ (i ∷ []))
              (eqb-true w 0 e),
          on_on _ d x,
        )))
        (λ e. pick_on (leb 0x1000000 w) _ _ (Ok d) (λ _. bad_on fault.symbol_type d)
        (λ g x.
        let z = eqb-false w 0 e in
        let y : w + 1 - 1 ≡ w = omega arith in
        inl (
          symbol_word us w [],
          (f, omega (arith, z), leb-false _ w g, omega arith),
          refl,
          ap (λ (i : ℕ). cursor (mode.Skip i after.Symbol) h p s) y ∙ on_on _ d x,
        )))
    part_step (symbol_word us n ws) f = λ e. go (passes s after.Symbol (n + 1) ws f.3 e)
      where
        words : part_so_far (symbol_word us n ws) ▹ w ≡ type.symbols ∷ joined symbol_words us ++ (n ∷ ws ▹ w)
        words = ap (λ (l : List ℕ). type.symbols ∷ l) (append_assoc (joined symbol_words us) (n ∷ ws) (w ∷ []))

        go : Passes s after.Symbol (n + 1) ws → PartStep (symbol_word us n ws)
        go (inl r) =
            let u : Symbol = record { name = ws; value = w } in
            let k : length ws ≡ n = omega (arith, length_snoc ws w, r.0) in
            inl (
              a_symbol (us ▹ u),
              each_snoc SymbolFits us u f.0 (omega (arith, f.1), omega (arith, f.2)),
              words ∙ ap (λ (l : List ℕ). type.symbols ∷ l)
                  (ap (λ (i : ℕ). joined symbol_words us ++ (i ∷ ws ▹ w)) (sym k)
                  ∙ sym (joined_snoc symbol_words us u)),
              r.1,
            )
        go (inr r) = inl (symbol_word us n (ws ▹ w), (f.0, f.1, f.2, r.0), words, r.1)
    part_step debug_length f = λ e. go (counts s after.Part e)
      where
        go : Counts s after.Part → PartStep debug_length
        go (inl r) = inr (inl (debug [], tt, ap (λ (i : ℕ). type.debug ∷ i ∷ []) r.0, r.1))
        go (inr r) = inl (debug_word w [], r.0, refl, r.1)
    part_step (debug_word n ws) f = λ e. go (passes s after.Part n ws f e)
      where
        go : Passes s after.Part n ws → PartStep (debug_word n ws)
        go (inl r) = inr (inl (debug (ws ▹ w), tt, ap (λ (i : ℕ). type.debug ∷ i ∷ ws ▹ w) (sym r.0), r.1))
        go (inr r) = inl (debug_word n (ws ▹ w), r.0, refl, r.1)

  -- the hunk goes on; or it ends
  abbrev Step : Begun → Type 0
  Step b =
      ((r : Begun) × BegunFits t (space h).size r × (so_far b ▹ w ≡ so_far r) × (cursor_in r h p ≡ d))
      ⊎ ((x : Name) × (y : Body) × (ps : List Part) × (body_count y ≤ (space h).size)
      × Each (PartFits t (length (stored_words y))) ps
      × (so_far b ▹ w ≡ name_words x ++ body_words y ++ joined part_words ps ++ (type.end ∷ []))
      × (end_of t space (cursor mode.Part h p (length (stored_words y))) ≡ Ok d))

  type_step : (s : ℕ) → body_of (cursor mode.Part h p s) w ≡ Ok d
      → ((w ≡ type.code) ⊎ (w ≡ type.stores) ⊎ (w ≡ type.bss)) × (cursor (mode.Length w) h p s ≡ d)
  type_step s =
      pick_on (eqb w type.code) _ _ (Ok d) (λ e x. (inl (eqb-true _ _ e), on_on _ d x))
      (λ _. pick_on (eqb w type.stores) _ _ (Ok d) (λ e x. (inr (inl (eqb-true _ _ e)), on_on _ d x))
      (λ _. pick_on (eqb w type.bss) _ _ (Ok d) (λ e x. (inr (inr (eqb-true _ _ e)), on_on _ d x))
      (λ _. bad_on fault.misplaced_block d)))

  -- of n stored words, i stand there
  abbrev Stores : ℕ → ℕ → Type 0
  Stores n i = ((i ≡ n) × (cursor mode.Part h p n ≡ d)) ⊎ ((i ≢ n) × (cursor (mode.Stored i) h p n ≡ d))

  stored_step : (n i : ℕ) → stored_from (cursor mode.Part h p n) i ≡ Ok d → Stores n i
  stored_step n i =
      pick_on (eqb i n) _ _ (Ok d) (λ e x. inl (eqb-true _ _ e, on_on _ d x))
      (λ e x. inr (eqb-false _ _ e, on_on _ d x))

  -- a whole body
  body_words_lem : (x : Name) (l : List ℕ) (b : Body) → l ▹ w ≡ body_words b
      → (name_words x ++ l) ▹ w ≡ so_far (after_body x b [] a_part)
  body_words_lem x l b e =
      append_assoc (name_words x) l (w ∷ []) ∙ ap (λ (k : List ℕ). name_words x ++ k) e
      ∙ sym (append-nil (name_words x ++ body_words b)) ∙ sym (append-nil (name_words x ++ body_words b ++ []))

  -- code or data: a body of type k whose words are all stored
  abbrev Full : ℕ → (List ℕ → Body) → Type 0
  Full k c =
      ((k ≡ type.code) ⊎ (k ≡ type.stores))
      × ((us : List ℕ) → (body_words (c us) ≡ k ∷ length us ∷ us) × (body_count (c us) ≡ length us)
      × (stored_words (c us) ≡ us))

  as_code : (k : ℕ) → k ≡ type.code → Full k code
  as_code k e = (inl e, λ us. (ap (λ (i : ℕ). i ∷ length us ∷ us) (sym e), refl, refl))

  as_data : (k : ℕ) → k ≡ type.stores → Full k stores
  as_data k e = (inr e, λ us. (ap (λ (i : ℕ). i ∷ length us ∷ us) (sym e), refl, refl))

  -- a body's number of words
  module _ (x : Name) (l : w ≤ (space h).size) where
    full_step : (k : ℕ) (c : List ℕ → Body) → Full k c → stored_from (cursor mode.Part h p w) 0 ≡ Ok d
        → Step (body_length x k)
    full_step k c f e = go (f.1 []) (stored_step w 0 e)
      where
        go : (body_words (c []) ≡ k ∷ 0 ∷ []) × (body_count (c []) ≡ 0) × (stored_words (c []) ≡ []) → Stores w 0
            → Step (body_length x k)
        go b (inl r) =
            let z : length (stored_words (c [])) ≡ w = ap length b.2 ∙ r.0 in
            inl (
              after_body x (c []) [] a_part,
              (omega (arith, b.1), tt, tt),
              body_words_lem x (k ∷ []) (c []) (ap (λ (i : ℕ). k ∷ i ∷ []) (sym r.0) ∙ sym b.0),
              ap (λ (i : ℕ). cursor mode.Part h p i) z ∙ r.1,
            )
        go b (inr r) =
            let z = r.0 in
            inl (body_word x k w [], (f.0, l, omega (arith, z)), append_assoc (name_words x) (k ∷ []) (w ∷ []), r.1)

    length_step : (k : ℕ) → (k ≡ type.code) ⊎ (k ≡ type.stores) ⊎ (k ≡ type.bss)
        → stored_from (cursor mode.Part h p (pick (eqb k type.bss) 0 w)) 0 ≡ Ok d
        → Step (body_length x k)
    unfolding pick
    length_step k (inl e) q = full_step k code (as_code k e) (rw e at q)
    length_step k (inr (inl e)) q = full_step k stores (as_data k e) (rw e at q)
    length_step k (inr (inr e)) q =
        let y : ◌≡◌ {A = Next} (Ok (cursor mode.Part h p 0)) (Ok d) = rw e at q in
        inl (
          after_body x (bss w) [] a_part,
          (l, tt, tt),
          body_words_lem x (k ∷ []) (bss w) (ap (λ (i : ℕ). i ∷ w ∷ []) e),
          on_on _ d y,
        )

  -- a stored word
  word_step : (x : Name) (k n : ℕ) (ws : List ℕ) (c : List ℕ → Body) → Full k c → n ≤ (space h).size → length ws < n
      → stored_from (cursor mode.Part h p n) (length ws + 1) ≡ Ok d → Step (body_word x k n ws)
  word_step x k n ws c f l m e = go (f.1 (ws ▹ w)) (stored_step n (length ws + 1) e)
    where
      go : (body_words (c (ws ▹ w)) ≡ k ∷ length (ws ▹ w) ∷ (ws ▹ w)) × (body_count (c (ws ▹ w)) ≡ length (ws ▹ w))
          × (stored_words (c (ws ▹ w)) ≡ ws ▹ w)
          → Stores n (length ws + 1) → Step (body_word x k n ws)
      go b (inl r) =
          let y : length (ws ▹ w) ≡ n = omega (arith, length_snoc ws w, r.0) in
          inl (
            after_body x (c (ws ▹ w)) [] a_part,
            (omega (arith, b.1), tt, tt),
            body_words_lem x (k ∷ n ∷ ws) (c (ws ▹ w)) (ap (λ (i : ℕ). k ∷ i ∷ (ws ▹ w)) (sym y) ∙ sym b.0),
            ap (λ (i : ℕ). cursor mode.Part h p i) (ap length b.2 ∙ y) ∙ r.1,
          )
      go b (inr r) =
          let z = r.0 in
          let y : length (ws ▹ w) ≡ length ws + 1 = omega (arith, length_snoc ws w) in
          inl (
            body_word x k n (ws ▹ w),
            (f.0, l, omega (arith, z)),
            append_assoc (name_words x) (k ∷ n ∷ ws) (w ∷ []),
            ap (λ (i : ℕ). cursor (mode.Stored i) h p n) y ∙ r.1,
          )

  begun_step : (b : Begun) → BegunFits t (space h).size b → turn t space (cursor_in b h p) w (mode_of b) ≡ Ok d → Step b
  begun_step first f =
      pick_on (eqb w type.name) _ _ (Ok d) (λ e x. inl (name_length, tt, cons (eqb-true _ _ e) refl, on_on _ d x))
      (λ _ x. let y = type_step 0 x in inl (body_length none w, y.0, refl, y.1))
  begun_step name_length f = λ e. go (counts 0 after.Body e)
    where
      go : Counts 0 after.Body → Step name_length
      go (inl r) = inl (a_body [], tt, ap (λ (i : ℕ). type.name ∷ i ∷ []) r.0, r.1)
      go (inr r) = inl (name_word w [], r.0, refl, r.1)
  begun_step (name_word n ws) f = λ e. go (passes 0 after.Body n ws f e)
    where
      go : Passes 0 after.Body n ws → Step (name_word n ws)
      go (inl r) = inl (a_body (ws ▹ w), tt, ap (λ (i : ℕ). type.name ∷ i ∷ ws ▹ w) (sym r.0), r.1)
      go (inr r) = inl (name_word n (ws ▹ w), r.0, refl, r.1)
  begun_step (a_body ws) f = λ e. let y = type_step 0 e in inl (body_length (named ws) w, y.0, refl, y.1)
  begun_step (body_length x k) f =
      pick_on (ltb (space h).size w) _ _ (Ok d) (λ _. bad_on fault.body_length d)
      (λ q e. length_step x (ltb-false _ _ q) k f e)
  begun_step (body_word x k n ws) f = go f.0
    where
      go : (k ≡ type.code) ⊎ (k ≡ type.stores) → stored_from (cursor mode.Part h p n) (length ws + 1) ≡ Ok d
          → Step (body_word x k n ws)
      go (inl q) e = word_step x k n ws code (as_code k q) f.1 f.2 e
      go (inr q) e = word_step x k n ws stores (as_data k q) f.1 f.2 e
  begun_step (after_body x b ps q) f = λ e. go (part_step (length (stored_words b)) q f.2 e)
    where
      -- words after the whole parts
      grown : (l : List ℕ) → part_so_far q ▹ w ≡ l
          → so_far (after_body x b ps q) ▹ w ≡ name_words x ++ body_words b ++ joined part_words ps ++ l
      grown l e =
          append_assoc (name_words x ++ body_words b ++ joined part_words ps) (part_so_far q) (w ∷ [])
          ∙ ap (λ (k : List ℕ). name_words x ++ body_words b ++ joined part_words ps ++ k) e

      -- one whole part more
      parted : (y : Part)
          → name_words x ++ body_words b ++ joined part_words ps ++ part_words y
          ≡ so_far (after_body x b (ps ▹ y) a_part)
      parted y =
          append_assoc (name_words x ++ body_words b) (joined part_words ps) (part_words y)
          ∙ ap (λ (l : List ℕ). name_words x ++ body_words b ++ l) (sym (joined_snoc part_words ps y))
          ∙ sym (append-nil (name_words x ++ body_words b ++ joined part_words (ps ▹ y)))

      go : PartStep (length (stored_words b)) q → Step (after_body x b ps q)
      go (inl r) = inl (after_body x b ps r.0, (f.0, f.1, r.1), grown (part_so_far r.0) r.2, r.3)
      go (inr (inl r)) =
          inl (
            after_body x b (ps ▹ r.0) a_part,
            (f.0, each_snoc (PartFits t (length (stored_words b))) ps r.0 f.1 r.1, tt),
            grown (part_words r.0) r.2 ∙ parted r.0,
            r.3,
          )
      go (inr (inr r)) = inr (x, b, ps, f.0, f.1, grown (type.end ∷ []) r.0, r.1)

-- ---- the words before a byte

-- whole hunks and a begun one, and the cursor that knows them
pub record Within (file : List ℕ) (c : Cursor) (at : ℕ) : Type 0 where
  pub hunks : List Hunk
  pub begun : Begun
  pub before : Before file hunks begun at
  pub is : cursor_of hunks begun ≡ c

-- all hunks, likewise
pub record Past (file : List ℕ) (c : Cursor) (at : ℕ) : Type 0 where
  pub hunks : List Hunk
  pub whole : AllHunks file hunks at
  pub is : cursor_past hunks ≡ c

after_hunks : (hs : List Hunk) (us : List ℕ) (w : ℕ) (vs : List ℕ) → us ▹ w ≡ vs
    → (joined hunk_words hs ++ us) ▹ w ≡ joined hunk_words hs ++ vs
after_hunks hs us w vs e =
    append_assoc (joined hunk_words hs) us (w ∷ []) ∙ ap (λ (k : List ℕ). joined hunk_words hs ++ k) e

module _ (file : List ℕ) (whole : length file % 4 ≡ 0) (s : HeaderFits file) where
  stand_on : (ws vs : List ℕ) (at : ℕ) → Stand file ws at → at < length file → ws ▹ word_at file at ≡ vs
      → Stand file vs (at + 4)
  unfolding words_at
  stand_on ws vs at r l e =
      let n : length vs ≡ length ws + 1 = ap length (sym e) ∙ simp length-append in
      let a : start_at file + 4 * length ws ≡ at = sym r.reaches in
      record {
        reaches = omega (arith, r.reaches);
        within = omega (arith, r.reaches);
        words = ap (words_at file (start_at file)) n ∙ words_add file (length ws) (start_at file) 1 ∙ rw (a, r.words) e;
      }

  -- the last word of a hunk
  whole_hunk : (hs : List Hunk) (b : Begun) (at : ℕ) → Before file hs b at → at < length file → (x : Hunk)
      → x.space ≡ space_of file (length hs)
      → HunkFits (total_of file) x
      → so_far b ▹ word_at file at ≡ hunk_words x → (n : ℕ) (d : Cursor)
      → end_of (total_of file) (space_of file) (cursor mode.Part (length hs) (4 * total hs) n) ≡ Ok d
      → Within file d (at + 4) ⊎ Past file d (at + 4)
  unfolding pick
  whole_hunk hs b at r l x z f e n d q = go (eqb (length hs + 1) (total_of file)) refl (on_on _ d q)
    where
      long : length (hs ▹ x) ≡ length hs + 1
      long = length_snoc hs x ∙ sym (add-one (length hs))

      place : 4 * total (hs ▹ x) ≡ 4 * total hs + 4 * size_of file (length hs)
      place = omega (arith, total_snoc hs x, size_same z)

      fitted : OfSpaces (total_of file) (space_of file) 0 (hs ▹ x)
      fitted = spaces_snoc (total_of file) (space_of file) hs 0 (length hs) x (omega arith) r.hunks z f

      stood : Stand file (joined hunk_words (hs ▹ x)) (at + 4)
      stood =
          stand_on (joined hunk_words hs ++ so_far b) _ at r.stand l
          (after_hunks hs (so_far b) (word_at file at) _ e ∙ sym (joined_snoc hunk_words hs x))

      go : (t : Bool) → eqb (length hs + 1) (total_of file) ≡ t
          → cursor (pick t mode.End mode.Begin) (length hs + 1) (4 * total hs + 4 * size_of file (length hs)) 0 ≡ d
          → Within file d (at + 4) ⊎ Past file d (at + 4)
      go true k i =
          inr (record {
            hunks = hs ▹ x;
            whole = record { all = long ∙ eqb-true _ _ k; hunks = fitted; stand = stood };
            is = ap₂ (λ (j p : ℕ). cursor mode.End j p 0) long place ∙ i;
          })
      go false k i =
          let u = eqb-false (length hs + 1) (total_of file) k in
          inl (record {
            hunks = hs ▹ x;
            begun = first;
            before =
                record {
                  next = omega (arith, long, r.next, u);
                  hunks = fitted;
                  begun = tt;
                  stand = rw append-nil stood;
                };
            is = ap₂ (λ (j p : ℕ). cursor mode.Begin j p 0) long place ∙ i;
          })

  -- a word that is taken
  word_on : (c d : Cursor) (at : ℕ) → at < length file
      → step_of (total_of file) (space_of file) c (word_at file at) ≡ Ok d
      → Within file c at ⊎ Past file c at → Within file d (at + 4) ⊎ Past file d (at + 4)
  unfolding step_of
  word_on c d at l e (inl r) =
      go (begun_step (total_of file) (space_of file) (length r.hunks) (4 * total r.hunks) (word_at file at) d
      r.begun r.before.begun (rw (← r.is) at e))
    where
      go : Step (total_of file) (space_of file) (length r.hunks) (4 * total r.hunks) (word_at file at) d r.begun
          → Within file d (at + 4) ⊎ Past file d (at + 4)
      go (inl k) =
          let b = r.before in
          inl (record {
            hunks = r.hunks;
            begun = k.0;
            before =
                record {
                  next = b.next;
                  hunks = b.hunks;
                  begun = k.1;
                  stand = stand_on _ _ at b.stand l
                      (after_hunks r.hunks (so_far r.begun) (word_at file at) _ k.2);
                };
            is = k.3;
          })
      go (inr k) =
          let n = space_of file (length r.hunks) in
          let x : Hunk = record { space = n; name = k.0; body = k.1; parts = k.2 } in
          let f : HunkFits (total_of file) x =
          record { space = s.spaces (length r.hunks) r.before.next; body = k.3; parts = k.4 } in
          whole_hunk r.hunks r.begun at r.before l x refl f k.5 (length (stored_words k.1)) d k.6
  word_on c d at l e (inr r) = bad_on fault.trailing_words d (rw (← r.is) at e)

  pub comes_stands : (c : Cursor) (at : ℕ) → Comes file c at → Within file c at ⊎ Past file c at
  unfolding words_at
  comes_stands c at begins =
      let b : Before file [] first (start_at file) =
      record {
        next = s.some;
        hunks = tt;
        begun = tt;
        stand = record { reaches = omega arith; within = s.long; words = refl };
      } in
      inl (record { hunks = []; begun = first; before = b; is = refl })
  comes_stands c at (takes {c = c'} {d = d} {at = i} r l e) = word_on c' d i l e (comes_stands c' i r)

  -- and there alone
  stands_comes : (c : Cursor) (at : ℕ) → Within file c at ⊎ Past file c at → Comes file c at
  stands_comes c at (inl r) = rw (← r.is) (before_comes file s.some r.hunks at r.begun r.before)
  stands_comes c at (inr r) = rw (← r.is) (whole_comes file s.some r.hunks at r.whole)

  -- the reader comes to a byte, with this cursor, if and only if whole hunks and a begun one stand before it, or all
  -- hunks do, and the cursor is theirs
  pub comes_exactly : (c : Cursor) (at : ℕ) → Comes file c at ↔ (Within file c at ⊎ Past file c at)
  comes_exactly c at = (comes_stands c at, stands_comes c at)
