-- How many entries a lookup compares: of each component at most as many as a chain may have (`found_few`). Assumes
-- nothing.
use Prim.Native.Nat.{ℕ, suc, ◌+◌, ◌*◌, ◌≤◌}
use mathlib.Core.Path.{◌≡◌, ap, ◌∙◌}
use mathlib.Core.Logic.{◌⊎◌, inl, inr}
use mathlib.Core.List.{List, ◌∷◌}
use native.Mathlib.Nat.{suc-mul}
use native.Mathlib.Omega.{arith}
use lib.ListN.{length, length-append}
use Rattle.std.specs.Prelude.{Ok}
use Rattle.volume.specs.declared.disk.Disk.{Disk}
use Rattle.volume.specs.Disks.{chain_limit}
use Rattle.lookup.specs.declared.find.Found.TheVariants.{Directory, File}
use Rattle.lookup.specs.Paths.{components}
use Rattle.lookup.specs.Lookup.{find_of}
use Rattle.lookup.specs.Trails.{First, Trail, stay, down}
use Rattle.lookup.specs.Verdicts.{IsFile}
use Rattle.lookup.proofs.Refusing.{directory_exactly, file_exactly}

module _ (d : Disk) (s : List ℕ) where
  -- one component
  pub first_few : (t : ℕ) (name : List ℕ) (p : ℕ) → First d s t name p → p + 1 ≤ chain_limit d
  first_few t name p f = let n = f.tests.near in omega arith

  -- components that lead to a directory
  pub trail_few : {t k n : ℕ} {cs : List (List ℕ)} → Trail d s t cs k n → n ≤ length cs * chain_limit d
  trail_few stay = omega arith
  trail_few {t} (down {n = n} {c = c} {cs = cs} p f e h) =
      let a = first_few t c p f in
      let b = trail_few h in
      rw (suc-mul (length cs) (chain_limit d)) (omega (arith, a, b))

  module _ (path : List ℕ) where
    file_few : (k z n : ℕ) → IsFile d s path k z n → n ≤ length (components path) * chain_limit d
    file_few k z n h =
        let a = first_few h.comes.parent h.comes.name h.position h.found in
        let b = trail_few h.comes.trail in
        let e =
        ap length h.comes.parts ∙ length-append h.comes.front (h.comes.name ∷ h.comes.back)
        ∙ ap (λ l. length h.comes.front + suc (length l)) h.last in
        let g : length (components path) ≡ suc (length h.comes.front) = omega (arith, e) in
        rw (g, suc-mul (length h.comes.front) (chain_limit d)) (omega (arith, a, b, h.count))

    -- All components together compare at most that many for each.
    pub found_few : (k z n : ℕ) → (find_of d s path ≡ Ok (Directory k n)) ⊎ (find_of d s path ≡ Ok (File k z n))
        → n ≤ length (components path) * chain_limit d
    found_few k z n (inl e) = trail_few ((directory_exactly d s path k n).0 e).1
    found_few k z n (inr e) = file_few k z n ((file_exactly d s path k z n).0 e)
