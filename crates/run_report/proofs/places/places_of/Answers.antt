use Rattle.run_report.proofs.Names.{nat_eq, ap, List, ℕ, get, first_or_second, place_from, nows}
use Rattle.std.specs.Map.{lookup}
use Rattle.run_report.proofs.Zips.{nows_past, nows_room, nows_at_by, place_next, place_past_replies, place_past}
use Rattle.run_report.proofs.places.places_of.Goals as goal

pub loop-i-init : goal.loop-i-init
loop-i-init c h = ap (λ (es : List (ℕ × ℕ)). first_or_second (lookup (nat_eq h) es)
    (place_from 0 c.args.statements.now (nows c.args.replies.now) h)) c.new-places.ensures.empty

pub returns-in_default : goal.returns-in_default
returns-in_default c h =
    place_past_replies c.args.statements.now (nows c.args.replies.now) h c.loop-i.i (get nat_eq c.loop-i.places h) _
    (nows_past c.args.replies.now c.loop-i.i c.in_default.ensures.lookup.3) (c.loop-i.invariant h)

pub loop-i-preserved : goal.loop-i-preserved
loop-i-preserved c h =
    place_next c.args.statements.now (nows c.args.replies.now) h c.loop-i.i c.index-statements-i.result c.reply_of.result (get nat_eq c.loop-i.places h)
    (get nat_eq c.note.new.places h) _ c.made.result
    c.loop-i-test.true c.index-statements-i.is (nows_room c.args.replies.now c.loop-i.i c.in-Some.ensures.lookup.3.0)
    (nows_at_by c.args.replies.now c.loop-i.i c.in-Some.short.now c.reply_of.result c.in-Some.ensures.lookup.3.0 c.in-Some.ensures.lookup.1 c.reply_of.ensures)
    (c.loop-i.invariant h)
    (c.in_ok-note.ensures h) (c.made.ensures h)

pub returns : goal.returns
returns c h = place_past c.args.statements.now (nows c.args.replies.now) h c.loop-i.i (get nat_eq c.loop-i.places h) _ c.loop-i-test.false
    (c.loop-i.invariant h)
