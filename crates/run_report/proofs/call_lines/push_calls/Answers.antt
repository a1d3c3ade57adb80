use Rattle.run_report.proofs.Names.{nat_eq, get, names_by, nows}
use Rattle.run_report.proofs.Zips.{nows_past, nows_room, nows_at_by, call_lines_next, call_lines_past_replies, call_lines_past}
use Rattle.run_report.proofs.call_lines.push_calls.Goals as goal

pub returns-in_default : goal.returns-in_default
returns-in_default c =
    call_lines_past_replies c.args.part.now (names_by c.args.statements.now (get nat_eq c.args.places.now)) c.args.statements.now
    (nows c.args.replies.now) c.loop-i.i c.loop-i.out.items _ (nows_past c.args.replies.now c.loop-i.i c.in_default.ensures.lookup.3) c.loop-i.invariant

pub loop-i-preserved : goal.loop-i-preserved
loop-i-preserved c =
    call_lines_next c.args.part.now (names_by c.args.statements.now (get nat_eq c.args.places.now)) c.args.statements.now
    (nows c.args.replies.now) c.loop-i.i c.index-statements-i.result c.reply_of.result
    c.loop-i.out.items c.push_call.new.out.items _
    c.loop-i-test.true c.index-statements-i.is (nows_room c.args.replies.now c.loop-i.i c.in-Some.ensures.lookup.3.0)
    (nows_at_by c.args.replies.now c.loop-i.i c.in-Some.short.now c.reply_of.result c.in-Some.ensures.lookup.3.0 c.in-Some.ensures.lookup.1 c.reply_of.ensures)
    c.loop-i.invariant
    c.in_ok-push_call.ensures

pub returns : goal.returns
returns c = call_lines_past c.args.part.now (names_by c.args.statements.now (get nat_eq c.args.places.now)) c.args.statements.now
    (nows c.args.replies.now) c.loop-i.i c.loop-i.out.items _ c.loop-i-test.false c.loop-i.invariant
