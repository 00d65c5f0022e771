-- `audit::directories::used_slot` meets its contract. Assumes nothing.
use Rattle.std.proofs.Common.{◌≡◌, rules, tests}
use Rattle.std.proofs.lemmas.Iterator.{first_from_Range}
use Rattle.volume.specs.Blocks.{slot_word}
use Rattle.audit.proofs.Hanging.{used_found}
use Rattle.audit.proofs.directories.used_slot.Goals as goal

pub returns : goal.returns
returns c =
    let s = c.args.image.now in
    let t = c.args.key in
    used_found s t c.args.slot _ c.requires.1
    (first_from_Range _ _ _ _ (λ k. Unit {0}) (λ k. slot_word s t k ≡ 0) c.find.ensures.ran (λ x q k. tt)
    (λ x q k. search (rules, tests)))
