use Rattle.mtapi_machine.proofs.Names.{◌≡◌, ◌<◌, arith, ◌∷◌, ◌++◌, pos, entry, Legal, after_from, reported, h1, finish, small, [], replay, live_of, issue, change, change_all, listed, issued_at, retired, is_full, may_issue, fits, answer_of, has_worker, end_each, endings, is_ready, can_take, has_better}
use Rattle.mtapi_values.specs.declared.kinds.Kind.TheVariants as kind
use Rattle.action_fn.specs.declared.finished.ActEnd.TheVariants.{Done}
use Rattle.mtapi_machine.specs.declared.ops.Op.TheVariants as op
use Rattle.mtapi_machine.specs.declared.replies.Reply.TheVariants as reply
use Rattle.mtapi_machine.specs.WorkedWork.{picking, two_workers_table, finishing, stopped_watch, whole_watch, bad_watches, running}
use Rattle.mtapi_machine.proofs.Lines.{last_is_next, worked, wrong_differ}
use Rattle.mtapi_machine.proofs.tables.worked_work.Goals as goal

another_end_illegal : Legal small (reported running ++ entry 0 (finish h1 kind.Add (pos 2 ∷ pos 3 ∷ []) (Done (pos 6 ∷ []))) reply.Ok ∷ []) → ⊥
unfolding fits answer_of
another_end_illegal h = let k : Done (pos 6 ∷ []) ≡ Done (pos 5 ∷ []) = (last_is_next small (reported running) _ h).honest.answer in cc

no_seat_illegal : Legal small (reported running ++ entry 3 (op.JobGet 1) (reply.Number (pos 1)) ∷ []) → ⊥
unfolding running after_from issue change is_full live_of retired may_issue listed issued_at has_worker is_ready has_better can_take
no_seat_illegal h = let k : 3 < 3 = (last_is_next small (reported running) _ h).seat in omega arith

pub returns : goal.returns
unfolding picking two_workers_table finishing stopped_watch whole_watch bad_watches running replay wrong_differ live_of issue change change_all listed issued_at
    retired is_full may_issue fits answer_of has_worker end_each endings is_ready can_take has_better
returns c = search (worked, another_end_illegal, no_seat_illegal)
