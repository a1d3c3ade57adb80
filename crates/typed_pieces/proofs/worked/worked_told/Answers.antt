use Rattle.std.proofs.Common.{refl}
use Rattle.typed_pieces.proofs.worked.worked_told.Goals as goal

pub returns : goal.returns
returns c = record {
  places = record { low = refl; high = refl };
  ends = λ task. record { places = refl; first = refl; alone = refl };
  starts = λ group. record { cores = refl; mask = refl; none = refl; two = refl };
  spent = record { tasks = refl; resources = refl; says = refl; resource_says = refl };
}
