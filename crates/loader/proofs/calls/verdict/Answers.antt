-- `loader::calls::verdict` meets its contract: the first test that fails, or the file's extent. Assumes nothing.
use Rattle.std.proofs.Common.{ℕ, replicate, ap, ◌∙◌}
use Rattle.std.specs.Prelude.{Err}
use Rattle.std.proofs.lemmas.Result.{err_from_is_err_and}
use Rattle.loader.specs.Calls.{room_fault}
use Rattle.loader.proofs.Answering.{check_stops, check_passed, lists_stop, room_stops, bytes_fit, near_stops, all_pass}
use Rattle.loader.proofs.Answering.{all_zeros}
use Rattle.loader.proofs.calls.verdict.Goals as goal

pub returns-in_err-extent : goal.returns-in_err-extent
returns-in_err-extent c =
    let p = err_from_is_err_and c.from_residual.result c.from_residual.ensures.1 in
    record {
      answer = p.1 ∙ ap Err p.2 ∙ check_stops _ _ _ _ _ _ _ c.check.ensures.answer c.in_err-extent.was;
      clean = c.fill.ensures.after (λ y e. e);
    }

pub lists_fault-requires : goal.lists_fault-requires
lists_fault-requires c = (check_passed _ _ c.check.ensures.answer _ c.in_ok-extent.was).header

pub returns-in_err-lists_fault : goal.returns-in_err-lists_fault
returns-in_err-lists_fault c =
    let r = c.from_residual-in_err-lists_fault in
    let p = err_from_is_err_and r.result r.ensures.1 in
    record {
      answer =
          p.1 ∙ ap Err p.2
          ∙ lists_stop _ _ _ _ _ _ _ c.check.ensures.answer _ c.in_ok-extent.was _ c.lists_fault.ensures
          c.in_err-lists_fault.was;
      clean = c.fill.ensures.after (λ y e. e);
    }

pub returns-in_err-room_fault : goal.returns-in_err-room_fault
returns-in_err-room_fault c =
    let r = c.from_residual-in_err-room_fault in
    let p = err_from_is_err_and r.result r.ensures.1 in
    record {
      answer =
          p.1 ∙ ap Err p.2
          ∙ room_stops _ _ _ _ _ _ _ c.check.ensures.answer _ c.in_ok-extent.was _ c.lists_fault.ensures
          c.in_ok-lists_fault.was _ (c.room_fault.ensures ∙ ap (room_fault _ _ _ _) c.fill.ensures.len)
          c.in_err-room_fault.was;
      clean = c.fill.ensures.after (λ y e. e);
    }

pub near_fault-requires : goal.near_fault-requires
near_fault-requires c =
    let f = check_passed _ _ c.check.ensures.answer _ c.in_ok-extent.was in (
      f.header,
      f.whole,
      f.bytes,
      bytes_fit _ _ _ _ _ _ c.room_fault.ensures c.in_ok-room_fault.was,
      all_zeros _ _ (c.fill.ensures.after (λ y e. e)),
    )

pub returns-in_err-near_fault : goal.returns-in_err-near_fault
returns-in_err-near_fault c =
    let r = c.from_residual-in_err-near_fault in
    let p = err_from_is_err_and r.result r.ensures.1 in
    record {
      answer =
          p.1 ∙ ap Err p.2
          ∙ near_stops _ _ _ _ _ _ _ c.check.ensures.answer _ c.in_ok-extent.was _ c.lists_fault.ensures
          c.in_ok-lists_fault.was _ (c.room_fault.ensures ∙ ap (room_fault _ _ _ _) c.fill.ensures.len)
          c.in_ok-room_fault.was _ c.near_fault.ensures.0 c.in_err-near_fault.was;
      clean = c.near_fault.ensures.1 ∙ ap (λ (n : ℕ). replicate n 0) c.fill.ensures.len;
    }

pub returns : goal.returns
returns c =
    record {
      answer =
          all_pass _ _ _ _ _ _ _ c.check.ensures.answer _ c.in_ok-extent.was _ c.lists_fault.ensures
          c.in_ok-lists_fault.was _ (c.room_fault.ensures ∙ ap (room_fault _ _ _ _) c.fill.ensures.len)
          c.in_ok-room_fault.was _ c.near_fault.ensures.0 c.in_ok-near_fault.was;
      clean = c.near_fault.ensures.1 ∙ ap (λ (n : ℕ). replicate n 0) c.fill.ensures.len;
    }
