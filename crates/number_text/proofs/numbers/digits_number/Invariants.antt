use Rattle.std.proofs.Common.{◌≡◌, ◌<◌, ◌^◌, drop}
use Rattle.number_text.proofs.Parsing.{read_from}
use Rattle.number_text.proofs.numbers.digits_number.Given as goal

abbrev pub invariant-loop-byte : goal.invariant-loop-byte
invariant-loop-byte l = record {
  so_far : read_from l.number (drop l.byte-index l.text) ≡ read_from 0 l.text;
  fits : l.number < 2 ^ 64;
}
