use Rattle.std.proofs.Common.{◌≡◌, ◌≤◌, ◌<◌, zero, suc, refl, arith, rules}
use Rattle.peek_board.specs.Worked.{WorkedClasses, in_slot_7, group_there, of_no_generation}
use Rattle.peek_board.specs.Numbers.{OnBoard}
use Rattle.peek_board.proofs.worked.worked_numbers.Goals as goal

not_below : OnBoard 7 in_slot_7 → ⊥
not_below x = let below : 7 < 7 = x.below in omega arith

not_task : OnBoard 8 group_there → ⊥
not_task x = let e : suc (suc (suc zero)) ≡ suc (suc zero) = x.kind in omega arith

not_issued : OnBoard 8 of_no_generation → ⊥
not_issued x = let least : 1 ≤ 0 = x.issued in omega arith

on_board : OnBoard 8 in_slot_7
on_board = record {
  kind = refl;
  issued = (let e : 1 ≤ 5 = omega arith in e);
  below = (let e : 7 < 8 = omega arith in e);
}

classes : WorkedClasses
classes = record {
  of_ends = refl;
  numbers = refl;
  classes = refl;
  generation = refl;
  slot = refl;
  pairs = refl;
  peeks = refl;
  shown = ((tt, tt), (λ x. x, λ x. x));
  on = on_board;
  no_slot = not_below;
  no_task = not_task;
  unissued = not_issued;
}

pub returns : goal.returns
returns c = record { classes = classes; tokens = search rules; seats = search rules }
