use Rattle.std.proofs.Common.{refl, sym, arith}
use Rattle.std.proofs.lemmas.List.{take_rest, take_all, drop_all}
use Rattle.number_text.proofs.Pieces.{place_some, place_none, between_some, between_none}
use Rattle.number_text.proofs.cut.cut_at.Goals as goal

pub returns-in-Some-clause-prefix : goal.returns-in-Some-clause-prefix
returns-in-Some-clause-prefix c = let h = place_some _ c.args.text.now c.in-Some.at (sym c.in-Some.ensures) in rw h.1 refl

pub returns-in-Some-clause-parts : goal.returns-in-Some-clause-parts
returns-in-Some-clause-parts c = rw take_rest (between_some c.args.byte c.args.text.now c.in-Some.at (sym c.in-Some.ensures))

pub returns-in-None-clause-prefix : goal.returns-in-None-clause-prefix
returns-in-None-clause-prefix c = let h = place_none _ c.args.text.now (sym c.in-None.ensures) in sym (take_all _ c.args.text.now h)

pub returns-in-None-clause-parts : goal.returns-in-None-clause-parts
returns-in-None-clause-parts c = between_none c.args.byte c.args.text.now (sym c.in-None.ensures)

pub returns-in-Some-clause-back : goal.returns-in-Some-clause-back
returns-in-Some-clause-back c = let h = place_some _ c.args.text.now c.in-Some.at (sym c.in-Some.ensures) in rw (take_rest, h.1) refl

pub returns-in-None-clause-none : goal.returns-in-None-clause-none
returns-in-None-clause-none c = let h = place_none _ c.args.text.now (sym c.in-None.ensures) in drop_all _ c.args.text.now (omega arith)
