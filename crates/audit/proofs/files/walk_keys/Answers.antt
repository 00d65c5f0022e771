-- `audit::files::walk_keys` meets its contract. Assumes nothing.
use Rattle.std.proofs.Common.{◌+◌, refl, rules, arith}
use Rattle.walk.specs.Nodes.{datum}
use Rattle.walk.proofs.Loops.{turn_start}
use Rattle.audit.proofs.Meeting.{met}
use Rattle.audit.proofs.Walking.{handed, ready_most}
use Rattle.audit.proofs.KeyBlocks.{keys_start, keys_out, keys_step, keys_end}
use Rattle.audit.proofs.files.walk_keys.Goals as goal

pub loop-i-init : goal.loop-i-init
loop-i-init c = search (keys_start, turn_start) depth 7

pub returns-in_err-meet : goal.returns-in_err-meet
returns-in_err-meet c =
    let v = c.loop-i.invariant in
    let b = c.args.b in
    let n = datum c.key_of-key.result b.header (b.done + c.loop-i.i + 1) c.loop-i.last in
    let m = met c.args.disk c.args.image.now n _ _ _ _ _ refl c.meet.ensures (λ t q. search rules) in
    rw (handed _ _ c.from_residual.ensures.1)
    (keys_out _ _ _ _ _ _ _ _ _ _ v _ _ _ c.loop-i-test.true c.key_of-key.ensures m _ c.in_err-meet.was)

pub overflow_add-n : goal.overflow_add-n
overflow_add-n c = omega (arith, ready_most _ _ _ _ c.loop-i.invariant.ready)

pub loop-i-preserved : goal.loop-i-preserved
loop-i-preserved c =
    let v = c.loop-i.invariant in
    let b = c.args.b in
    let n = datum c.key_of-key.result b.header (b.done + c.loop-i.i + 1) c.loop-i.last in
    let m = met c.args.disk c.args.image.now n _ _ _ _ _ refl c.meet.ensures (λ t q. search rules) in
    keys_step _ _ _ _ _ _ _ _ _ _ v _ _ _ c.loop-i-test.true c.key_of-key.ensures m _ c.in_ok-meet.was
    c.meet.auto.claim refl

pub returns : goal.returns
returns c = search keys_end depth 7
