use Rattle.std.proofs.Common.{◌≡◌, false}
use Rattle.workload_runners.specs.Carries.{is_ok}
use Rattle.workload_runners.proofs.CarryLemmas.{refused_adds}
use Rattle.workload_runners.proofs.parts.call_part.Goals as goal

pub returns-then-not-is_ok : goal.returns-then-not-is_ok
returns-then-not-is_ok g c =
    let n : is_ok c.in-Ok-look.reply ≡ false = (let a = c.is_ok.ensures in let b = c.if-not-is_ok.true in cc) in
    let l = c.in-Ok-look.ensures.answered in
    record { same = l.same; did = λ none. refused_adds c.args.part.now.statements c.args.seat c.look.new.seat c.in-Ok-look.reply n l }
