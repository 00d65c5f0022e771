-- Copying, block by block: what each turn leaves to copy. Assumes nothing.
use Prim.Native.Nat.{ℕ, suc, ◌+◌, ◌-◌, ◌/◌, ◌%◌, ◌≤◌, ◌<◌, ◌^◌, min}
use mathlib.Core.Path.{◌≡◌, refl, sym, ap, ◌∙◌}
use mathlib.Core.List.{List, [], ◌∷◌, ◌++◌}
use native.Mathlib.Nat.{sub-zero, mod-lt}
use native.Mathlib.Omega.{arith}
use native.Mathlib.Decide.{dec_lt}
use borrow.Rule.Slice.PartMut.{put_mid}
use Rattle.std.proofs.Common.{append_assoc}
use lib.ListN.{length, take, drop, length-drop, drop_of_length-le}
use lib.Seq.{paste, length-paste, drop-drop, drop-nil, take-nil, take-take, take_all}
use Rattle.reach.specs.References.{At}
use Rattle.reach.proofs.Lists.{at_in}
use Rattle.volume.specs.declared.disk.Disk.{Disk}
use Rattle.volume.specs.Blocks.{slots, Holds, key_word}
use Rattle.volume.specs.Disks.{Sized, data_bytes, image_bytes, file_limit}
use Rattle.volume.specs.Files.{size_of, blocks_of, keys_of}
use Rattle.volume.proofs.Sizes.{limit_most, data_some, data_inside}
use Rattle.volume.proofs.Keys.{keys_long}
use Rattle.reading.specs.declared.copy.Listed.{Listed}
use Rattle.reading.specs.Bytes.{data_byte, data_of, data_in, file_bytes, part, filled_by}
use Rattle.reading.specs.Parts.{Copied, BlocksInside, IsListed, WayHeld, Steps}
use Rattle.reading.proofs.Parts.{drop_take, drop_from, filled_more, turn_front, turn_rest}
use Rattle.reading.proofs.Contents.{data_long, all_none, all_first, part_long}
use Rattle.reading.proofs.Contents.{part_there, block_there}
use Rattle.reading.proofs.Listing.{way_held, lister_held, key_at}

room : (a b n : ℕ) → b + n ≤ a → n ≤ a - b
room a b n h = omega arith

small : (a b c e : ℕ) → a ≤ b → b ≤ c → c ≤ e → e ≤ 2079232 → a < 2 ^ 64
small a b c e f g h i = omega arith

module _ (d : Disk) (s : List ℕ) (h o : ℕ) (before : List ℕ) where
  -- what is copied in the end
  abbrev whole : List ℕ
  whole = part (file_bytes d s h) o (length before)

  pub record Going (count bytes : ℕ) (out : List ℕ) (at : Listed) (within done : ℕ) : Type 0 where
    pub sized : Sized d
    pub long : length s ≡ image_bytes d
    pub header : h < d.blocks
    pub tested : BlocksInside d s h
    pub counted : count ≡ min (length before) (size_of s h - o)
    pub each : bytes ≡ data_bytes d
    pub block : ℕ
    pub here : IsListed s h block at
    pub near : within < bytes
    pub upto : done ≤ count
    pub filled : out ≡ take done whole ++ drop done before
    pub kept : length out ≡ length before
    pub rest : drop done whole ≡ take (count - done) (drop within (data_in d s (drop block (keys_of d s h))))

  -- an offset at or past the end, or no room
  pub none : (z left count : ℕ) → length s ≡ image_bytes d → BlocksInside d s h → z ≡ size_of s h → left ≡ z - o
      → count ≡ min (length before) left → count ≡ 0 → Copied (file_bytes d s h) o before 0 before
  unfolding filled_by
  none z left count g t q y e n =
      let l : length whole ≡ 0 = part_long d s h g t o (length before) ∙ rw (← q) (omega arith) in
      record { count = sym l; output = sym (rw l (ap (λ (p : List ℕ). p ++ before) (empty whole l))) }
    where
      empty : (p : List ℕ) → length p ≡ 0 → p ≡ []
      empty [] e = refl
      empty (x ∷ p) e = absurd (omega arith)

  some : (z left count : ℕ) → z ≡ size_of s h → left ≡ z - o → count ≡ min (length before) left → (count ≡ 0 → ⊥)
      → o < size_of s h
  some z left count q y e n = go (dec_lt o (size_of s h))
    where
      go : Dec (o < size_of s h) → o < size_of s h
      go (yes p) = p
      go (no p) = absurd (n (omega arith))

  -- the way to the block of the offset
  pub way : (z left count b : ℕ) → length s ≡ image_bytes d → h < d.blocks → BlocksInside d s h → z ≡ size_of s h
      → left ≡ z - o → count ≡ min (length before) left → (count ≡ 0 → ⊥) → b ≡ data_bytes d → WayHeld s h (o / b)
  way z left count b g i t q y e n f =
      rw f (way_held d s h (o / data_bytes d) (block_there d (size_of s h) o (some z left count q y e n)) i t g)

  pub starts : (z left count b : ℕ) (at : Listed) → Sized d → length s ≡ image_bytes d → h < d.blocks
      → BlocksInside d s h → z ≡ size_of s h → left ≡ z - o → count ≡ min (length before) left → b ≡ data_bytes d
      → IsListed s h (o / b) at → Going count b before at (o % b) 0
  starts z left count b at i g j t q y e f r =
      let c : count ≡ min (length before) (size_of s h - o) = rw (← q, ← y) e in
      record {
        sized = i;
        long = g;
        header = j;
        tested = t;
        counted = c;
        each = f;
        block = o / b;
        here = r;
        near = rw f (mod-lt o (data_some d));
        upto = omega arith;
        filled = refl;
        kept = refl;
        rest = part_there d s h g t o (length before)
            ∙ rw (c, f, sub-zero (min (length before) (size_of s h - o))) refl;
      }

  module _ (count bytes : ℕ) (out : List ℕ) (at : Listed) (within done : ℕ)
      (v : Going count bytes out at within done) where
    whole_long : length whole ≡ count
    whole_long = part_long d s h v.long v.tested o (length before) ∙ sym v.counted

    pub ends : count ≤ done → Copied (file_bytes d s h) o before count out
    unfolding filled_by
    ends q =
        let e : done ≡ length whole = omega (arith, v.upto, whole_long) in
        record {
          count = sym whole_long;
          output = v.filled
              ∙ rw e (ap (λ (p : List ℕ). p ++ drop (length whole) before)
              (take_all (length whole) whole (omega arith)));
        }

    module _ (p : done < count) where
      there : v.block < blocks_of d s h
      there = go (dec_lt v.block (blocks_of d s h))
        where
          nothing : drop v.block (keys_of d s h) ≡ [] → drop done whole ≡ []
          nothing e = v.rest ∙ rw (e, all_none d s, drop-nil within, take-nil (count - done)) refl

          go : Dec (v.block < blocks_of d s h) → v.block < blocks_of d s h
          go (yes q) = q
          go (no q) =
              let r : length (keys_of d s h) ≤ v.block = rw (keys_long d s h) (omega arith) in
              absurd (omega (
                arith,
                length-drop done whole,
                whole_long,
                ap length (nothing (drop_of_length-le (keys_of d s h) r)),
              ))

      pub listed_few : at.index < slots
      listed_few = let e = v.here.index in omega arith

      pub listed_held : Holds s at.block
      listed_held =
          rw v.here.block (lister_held d s h v.block there v.header v.tested v.long (v.block / slots)
          (omega arith))

      module _ (n : ℕ) (m : n ≡ min (bytes - within) (count - done)) where
        upto : done + n ≤ count
        upto = omega arith

        ahead : count - done - n ≡ count - (done + n)
        ahead = omega arith

        pub to_inside : done + n ≤ length out
        to_inside = omega (arith, v.counted, v.kept)

        pub done_fits : done + n < 2 ^ 64
        done_fits =
            small (done + n) count (size_of s h) (file_limit d) upto (omega (arith, v.counted)) v.tested.size
            (limit_most d v.sized)

        module _ (key : ℕ) (k : key ≡ key_word s at.block at.index) where
          -- it is the key of the next block to copy
          is : At v.block key (keys_of d s h)
          is = key_at d s h v.block there at key v.here k

          inside : key < d.blocks
          inside = v.tested.keys key (at_in key v.block (keys_of d s h) is)

          held : Holds s key
          held = omega (arith, inside, v.long)

          -- the data of this block, and of those after it
          abbrev mine : List ℕ
          mine = data_of d s key

          abbrev others : List ℕ
          others = data_in d s (drop (suc v.block) (keys_of d s h))

          mine_long : length mine ≡ bytes
          mine_long = data_long d s v.long key inside ∙ sym v.each

          within_mine : within ≤ length mine
          within_mine = omega (arith, mine_long, v.near)

          opened : drop done whole ≡ take (count - done) (drop within (mine ++ others))
          opened = v.rest ∙ rw (drop_from (keys_of d s h) v.block key is, all_first d s) refl

          taken : n ≡ min (length mine - within) (count - done)
          taken = rw mine_long m

          module _ (byte : ℕ) (q : byte ≡ data_byte d key) where
            pub byte_fits : byte + within < 2 ^ 64
            byte_fits = omega (arith, data_inside d, inside, v.each, v.near, v.sized.most)

            pub from_inside : byte + within + n ≤ length s
            from_inside = omega (arith, data_inside d, held, v.each, v.near)

            pub from_fits : byte + within + n < 2 ^ 64
            from_fits = omega (arith, from_inside, v.long, v.sized.most)

            -- what is copied in this turn
            copied : take n (drop (byte + within) s) ≡ take n (drop done whole)
            copied =
                let g : n ≤ data_bytes d - within = omega (arith, v.each) in
                let e : take n (drop within mine) ≡ take n (drop (byte + within) s) =
                rw (
                  drop_take within (data_bytes d) (drop (data_byte d key) s),
                  take-take n (data_bytes d - within) (drop within (drop (data_byte d key) s)) g,
                  drop-drop within (data_byte d key) s,
                  q,
                ) refl in
                sym (turn_front (drop done whole) mine others within (count - done) n opened within_mine taken ∙ e)

            -- as code copies it: `part` is that part of the image
            pasted : (part : List ℕ) → part ≡ take (byte + within + n - (byte + within)) (drop (byte + within) s)
                → put_mid done (done + n - done) out part ≡ paste out done (drop (byte + within) s) n
            pasted part e =
                let a : done + n - done ≡ n = omega arith in
                let b : byte + within + n - (byte + within) ≡ n = omega arith in
                rw (e, a, b, append_assoc, drop-drop n done out) refl

            pub goes : (part : List ℕ) (at' : Listed)
                → part ≡ take (byte + within + n - (byte + within)) (drop (byte + within) s) → Steps s at at'
                → Going count bytes (put_mid done (done + n - done) out part) at' 0 (done + n)
            goes part at' e' f =
                let e = pasted part e' in
                record {
                  sized = v.sized;
                  long = v.long;
                  header = v.header;
                  tested = v.tested;
                  counted = v.counted;
                  each = v.each;
                  block = suc v.block;
                  here = f.next h v.block v.here;
                  near = rw v.each (data_some d);
                  upto = upto;
                  filled =
                      e ∙ filled_more whole before out (drop (byte + within) s) done n v.filled copied
                      (rw whole_long upto);
                  kept =
                      ap length e ∙ length-paste out done (drop (byte + within) s) n to_inside
                      (rw (length-drop (byte + within) s) (room (length s) (byte + within) n from_inside))
                      ∙ v.kept;
                  rest =
                      sym (drop-drop n done whole) ∙ turn_rest (drop done whole) mine others within (count - done) n
                      opened within_mine taken ∙ ap (λ (j : ℕ). take j others) ahead;
                }
