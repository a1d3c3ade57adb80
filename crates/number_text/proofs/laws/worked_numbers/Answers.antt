unfoldable use Rattle.std.specs.Fmt.{digits}
unfoldable use Rattle.number_text.specs.Numbers.{number, number_within, whole_number}
unfoldable use Rattle.number_text.specs.Lists.{wholes, list_of}
unfoldable use Rattle.number_text.specs.Cores.{bits_from, cores_below}
use Rattle.number_text.proofs.laws.worked_numbers.Goals as goal

pub returns : goal.returns
unfolding digits number number_within whole_number wholes list_of bits_from cores_below
returns c = search
