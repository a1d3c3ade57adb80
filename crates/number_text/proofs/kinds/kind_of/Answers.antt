use Rattle.number_text.proofs.KindWords.{kind_utf8, kind_known}
use Rattle.number_text.proofs.kinds.kind_of.Goals as goal

pub returns-in-Err : goal.returns-in-Err
returns-in-Err c =
    let none = kind_utf8 c.args.text.now c.in-Err.ensures.cases.0 in
    record { value = none; inverse = kind_known c.args.text.now _ none }
