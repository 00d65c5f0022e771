-- The cycle of calls of `walk_directory` and `walk_entry` meets its contracts. Assumes nothing.
use Rattle.std.proofs.Common.{rules, arith}
use Rattle.audit.proofs.Meeting.{met_entry}
use Rattle.audit.proofs.Walking.{handed}
use Rattle.audit.proofs.KeyBlocks.{ready_holds}
use Rattle.audit.proofs.Hanging.{slots_start, slot_used, slots_less, slots_out, slots_again, slots_end}
use Rattle.audit.proofs.Hanging.{chain_start, chain_out, chain_again, entry_ready, entry_goes, entry_stops, entry_falls}
use Rattle.audit.proofs.Hanging.{met_high, met_holds, met_file}
use Rattle.audit.proofs.directories.+walk_directory_walk_entry.Goals as goal

pub walk_directory-slots-init : goal.walk_directory-slots-init
walk_directory-slots-init t c =
    record { from = 0; so_far = search slots_start depth 9; used = c.used_slot-used.ensures }

pub walk_directory-word_of-entry-requires : goal.walk_directory-word_of-entry-requires
walk_directory-word_of-entry-requires t c =
    let v = c.slots.invariant in
    let u = slot_used _ _ _ _ _ _ _ _ v.so_far _ v.used _ c.in-Some.is in
    (omega arith, search ready_holds depth 9)

pub walk_directory-chain-init : goal.walk_directory-chain-init
walk_directory-chain-init t c =
    let v = c.slots.invariant in
    let u = slot_used _ _ _ _ _ _ _ _ v.so_far _ v.used _ c.in-Some.is in
    search (chain_start, u) depth 9

pub walk_directory-returns-in_err-n : goal.walk_directory-returns-in_err-n
walk_directory-returns-in_err-n t c =
    let v = c.slots.invariant in
    rw (handed _ _ c.from_residual.ensures.1)
    (slots_out _ _ _ _ _ _ _ _ v.so_far _ v.used _ c.in-Some.is _ _ (search (chain_out, c.in_err-n.was) depth 9))

pub walk_directory-chain-preserved : goal.walk_directory-chain-preserved
walk_directory-chain-preserved t c = search (chain_again, c.in_ok-n.was) depth 9

pub walk_directory-used_slot-used-requires-in-Some : goal.walk_directory-used_slot-used-requires-in-Some
walk_directory-used_slot-used-requires-in-Some t c =
    let v = c.slots.invariant in
    let u = slot_used _ _ _ _ _ _ _ _ v.so_far _ v.used _ c.in-Some.is in
    (search ready_holds depth 9, omega arith)

pub walk_directory-slots-smaller : goal.walk_directory-slots-smaller
walk_directory-slots-smaller t c =
    let v = c.slots.invariant in
    let u = slot_used _ _ _ _ _ _ _ _ v.so_far _ v.used _ c.in-Some.is in
    rw c.in-Some.is (slots_less _ _ _ _ u c.used_slot-used-in-Some.ensures)

pub walk_directory-slots-preserved : goal.walk_directory-slots-preserved
walk_directory-slots-preserved t c =
    let v = c.slots.invariant in
    record {
      from = _;
      so_far = search (slots_again, v.so_far, v.used, c.in-Some.is) depth 9;
      used = c.used_slot-used-in-Some.ensures;
    }

pub walk_directory-returns : goal.walk_directory-returns
walk_directory-returns t c =
    let v = c.slots.invariant in slots_end _ _ _ _ _ _ _ _ v.so_far _ v.used c.in_default.is

pub walk_entry-returns-in_err-meet : goal.walk_entry-returns-in_err-meet
walk_entry-returns-in_err-meet t c =
    let e = c.args.e in
    let m =
    met_entry _ c.args.image.now _ _ _ _ e.key c.meet.ensures e.directory e.slot e.position
    (λ x q. search rules) in
    rw (handed _ _ c.from_residual.ensures.1) (search (entry_stops, m, c.in_err-meet.was) depth 9)

pub walk_entry-is_directory-requires : goal.walk_entry-is_directory-requires
walk_entry-is_directory-requires t c =
    let e = c.args.e in
    let m =
    met_entry _ c.args.image.now _ _ _ _ e.key c.meet.ensures e.directory e.slot e.position
    (λ x q. search rules) in
    search (met_holds, m, c.in_ok-meet.was) depth 9

pub walk_entry-walk_directory-requires : goal.walk_entry-walk_directory-requires
walk_entry-walk_directory-requires t c =
    let e = c.args.e in
    let m =
    met_entry _ c.args.image.now _ _ _ _ e.key c.meet.ensures e.directory e.slot e.position
    (λ x q. search rules) in (
      search (entry_falls, m, c.in_ok-meet.was) depth 9,
      (
        search (entry_ready, m, c.in_ok-meet.was) depth 9,
        search (met_high, m, c.in_ok-meet.was) depth 9,
        search rules,
      ),
    )

pub walk_entry-returns-then-is_directory : goal.walk_entry-returns-then-is_directory
walk_entry-returns-then-is_directory t c =
    let e = c.args.e in
    let m =
    met_entry _ c.args.image.now _ _ _ _ e.key c.meet.ensures e.directory e.slot e.position
    (λ x q. search rules) in
    search (entry_goes, m, c.in_ok-meet.was) depth 9

pub walk_entry-walk_file-requires : goal.walk_entry-walk_file-requires
walk_entry-walk_file-requires t c =
    let e = c.args.e in
    let m =
    met_entry _ c.args.image.now _ _ _ _ e.key c.meet.ensures e.directory e.slot e.position
    (λ x q. search rules) in (
      search (entry_ready, m, c.in_ok-meet.was) depth 9,
      search (met_high, m, c.in_ok-meet.was) depth 9,
      search (met_file, m, c.in_ok-meet.was) depth 9,
      search rules,
    )

pub walk_entry-returns : goal.walk_entry-returns
walk_entry-returns t c =
    let e = c.args.e in
    let m =
    met_entry _ c.args.image.now _ _ _ _ e.key c.meet.ensures e.directory e.slot e.position
    (λ x q. search rules) in
    search (entry_goes, m, c.in_ok-meet.was) depth 9
