-- `audit::top::walk_volume` meets its contract. Assumes nothing.
use Rattle.std.proofs.Common.{rules}
use Rattle.audit.proofs.Meeting.{met_root, met_bitmap}
use Rattle.audit.proofs.Walking.{handed}
use Rattle.audit.proofs.Auditing.{root_stops, root_ready, bitmap_stops, bitmap_ready, bitmap_range, root_goes}
use Rattle.audit.proofs.top.walk_volume.Goals as goal

pub returns-in_err-meet : goal.returns-in_err-meet
returns-in_err-meet c =
    let m = met_root _ c.args.image.now _ _ _ _ _ c.meet.ensures c.root-root.ensures (λ t q. search rules) in
    rw (handed _ _ c.from_residual.ensures.1) (root_stops _ _ _ _ _ m _ _ c.in_err-meet.was)

pub returns-in_err-meet-2 : goal.returns-in_err-meet-2
returns-in_err-meet-2 c =
    let m = met_root _ c.args.image.now _ _ _ _ _ c.meet.ensures c.root-root.ensures (λ t q. search rules) in
    let n = met_bitmap _ c.args.image.now _ _ _ _ _ c.meet-2.ensures (λ t q. search rules) in
    rw (handed _ _ c.from_residual-in_err-meet-2.ensures.1)
    (search (bitmap_stops, m, n, c.in_ok-meet.was, c.in_err-meet-2.was) depth 9)

pub walk_tree-requires : goal.walk_tree-requires
walk_tree-requires c =
    let m = met_root _ c.args.image.now _ _ _ _ _ c.meet.ensures c.root-root.ensures (λ t q. search rules) in
    let n = met_bitmap _ c.args.image.now _ _ _ _ _ c.meet-2.ensures (λ t q. search rules) in
    let y =
    root_ready _ _ _ _ _ m c.in_ok-meet.was c.requires.0 c.requires.1 c.requires.2 c.meet.auto.claim in (
      bitmap_ready _ _ _ _ _ _ n c.in_ok-meet-2.was c.meet-2.auto.claim y,
      bitmap_range _ _ _ _ _ _ n c.in_ok-meet-2.was,
    )

pub returns : goal.returns
returns c =
    let m = met_root _ c.args.image.now _ _ _ _ _ c.meet.ensures c.root-root.ensures (λ t q. search rules) in
    let n = met_bitmap _ c.args.image.now _ _ _ _ _ c.meet-2.ensures (λ t q. search rules) in
    search (root_goes, m, n, c.in_ok-meet.was, c.in_ok-meet-2.was) depth 9
