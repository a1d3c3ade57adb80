use Rattle.std.proofs.lemmas.Int.{to_z_pos}
use Rattle.std.specs.Int.{w64}
use Rattle.number_text.proofs.Parsing.{plain_small, plain_large, plain_none}
use Rattle.number_text.proofs.numbers.plain.Goals as goal

pub returns-then-n : goal.returns-then-n
returns-then-n c = rw (to_z_pos w64 c.in-Some.n c.if-n.true) (plain_small c.args.text.now c.in-Some.n c.in-Some.ensures c.if-n.true)

pub returns-else-n : goal.returns-else-n
returns-else-n c = plain_large c.args.text.now c.in-Some.n c.in-Some.ensures c.if-n.false

pub returns-in-None : goal.returns-in-None
returns-in-None c = plain_none c.args.text.now c.in-None.ensures
