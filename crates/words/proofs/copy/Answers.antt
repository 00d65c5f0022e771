-- `words::copy` meets its contract: the first i items are copied. Assumes nothing.
use Rattle.std.proofs.Common.{ℕ, ◌≡◌, ◌+◌, ◌<◌, ◌≤◌, List, ◌++◌, length, get_or, take, drop, set, refl, ap, ◌∙◌, arith}
use Rattle.std.proofs.Common.{add-one, append-nil, drop_of_length-le}
use native.Mathlib.Nat.{zero-add}
use lib.Seq.{take_all, paste-suc}
use Rattle.words.proofs.copy.Goals as goal

more : {X : Type 0} (s d : List X) (i : ℕ) (x : X) → i < length s → length s ≡ length d → x ≡ get_or s i x
    → set (take i s ++ drop i d) i x ≡ take (i + 1) s ++ drop (i + 1) d
more s d i x h e q =
    ap (λ y. set (take i s ++ drop i d) i y) q ∙ rw (add-one i) (simp zero-add at (paste-suc d 0 s i x (omega arith) h))

all : {X : Type 0} (s d t : List X) (i : ℕ) → t ≡ take i s ++ drop i d → length s ≤ i → length s ≡ length d → t ≡ s
all s d t i e h q =
    let l : length d ≤ i = omega arith in
    e ∙ rw (take_all i s h, drop_of_length-le d l) (append-nil s)

pub loop-i-init : goal.loop-i-init
loop-i-init g c = refl

pub loop-i-preserved : goal.loop-i-preserved
loop-i-preserved g c =
    rw c.loop-i.invariant (more _ _ _ _ c.loop-i-test.true c.requires c.index-from-i.is)

pub returns : goal.returns
returns g c = all _ _ _ _ c.loop-i.invariant c.loop-i-test.false c.requires
