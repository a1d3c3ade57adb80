use Rattle.std.proofs.Common.{arith, sym, ◌∙◌}
use Rattle.number_text.proofs.Parsing.{read_over, read_done}
use Rattle.number_text.proofs.numbers.digits_number.Goals as goal

pub returns-in_default : goal.returns-in_default
returns-in_default c = read_over c.loop-byte.number c.loop-byte.byte-index c.args.text.now _ c.loop-byte-test.true (sym c.is_ascii_digit.ensures.value
    ∙ c.if-not-is_ascii_digit.false) (omega (arith, c.in_default.ensures)) c.loop-byte.invariant.so_far

pub returns-in_default-checked_add : goal.returns-in_default-checked_add
returns-in_default-checked_add c = read_over c.loop-byte.number c.loop-byte.byte-index c.args.text.now _ c.loop-byte-test.true
    (sym c.is_ascii_digit.ensures.value ∙ c.if-not-is_ascii_digit.false) (omega (arith, c.in_default-checked_add.ensures)) c.loop-byte.invariant.so_far

pub returns : goal.returns
returns c = read_done c.loop-byte.number c.loop-byte.byte-index c.args.text.now _ c.loop-byte-test.false c.loop-byte.invariant.fits c.loop-byte.invariant.so_far
