use Rattle.std.proofs.lemmas.Bool.{ne_eqb}
use Rattle.number_text.proofs.Parsing.{negative_some, negative_none}
use Rattle.number_text.proofs.numbers.negative.Goals as goal

pub returns-in-Some : goal.returns-in-Some
returns-in-Some c = negative_some c.args.digits.now c.in-Some.n _ (ne_eqb _ _ c.if-digits-eq48.false) c.in-Some.ensures c.checked_sub_unsigned.ensures

pub returns-in-None : goal.returns-in-None
returns-in-None c = negative_none c.args.digits.now c.in-None.ensures
