-- `audit::files::walk_list` meets its contract. Assumes nothing.
use Rattle.std.proofs.Common.{rules, refl}
use Rattle.walk.specs.KeyBlocks.{list_node}
use Rattle.audit.proofs.Meeting.{met}
use Rattle.audit.proofs.Walking.{handed}
use Rattle.audit.proofs.KeyBlocks.{list_stops, list_counts, list_lists, list_goes}
use Rattle.audit.proofs.files.walk_list.Goals as goal

pub returns-in_err-meet : goal.returns-in_err-meet
returns-in_err-meet c =
    let m = met c.args.disk c.args.image.now (list_node c.args.b) _ _ _ _ _ refl c.meet.ensures (λ t q. search rules) in
    rw (handed _ _ c.from_residual.ensures.1) (list_stops _ _ _ _ _ _ _ _ _ m c.in_err-meet.was)

pub walk_keys-requires : goal.walk_keys-requires
walk_keys-requires c =
    let m = met c.args.disk c.args.image.now (list_node c.args.b) _ _ _ _ _ refl c.meet.ensures (λ t q. search rules) in
    search (rules, m, c.in_ok-meet.was, list_counts, list_lists) depth 9

pub returns : goal.returns
returns c =
    let m = met c.args.disk c.args.image.now (list_node c.args.b) _ _ _ _ _ refl c.meet.ensures (λ t q. search rules) in
    search (rules, m, c.in_ok-meet.was, list_goes) depth 9
