-- What seats ask next, by computing.
use Rattle.std.proofs.Common.{◌≡◌, ℕ, false, true, refl, ap, arith}
use Rattle.workload_file.specs.Deeds.{is_begin}
use Rattle.mtapi_machine.specs.declared.ops.Op.{Op}
use Rattle.mtapi_machine.specs.declared.ops.Op.TheVariants as op
use Rattle.workload_runs.specs.Parts.{has_begin}
use Rattle.begun_runs.specs.Asks.{AsksPart, AsksNext, AsksOp}
use Rattle.begun_runs.specs.WorkedAsks.{WorkedAsks}

abbrev looked_for : Op → ℕ
looked_for (op.SemLook x last) = x.0
looked_for _ = 0

pub worked_asks : WorkedAsks
unfolding AsksPart AsksNext AsksOp has_begin is_begin
worked_asks = record {
  opens = refl;
  not_yet = λ e. cc;
  releases = refl;
  creates = refl;
  not_again = λ x. let e = x.1 in cc;
  by_handle = (false, refl, λ _. refl);
  by_another = λ x. let e : 8 ≡ 9 = ap looked_for x.1 in omega (arith, e);
  never_last = λ x. let e = x.1 in let f = x.2 refl in cc;
  not_early = λ x. let e = x.1 in cc;
  closes = refl;
  finals = refl;
  closes_once = λ e. cc;
  begins = refl;
  then_closes = refl;
  enters = refl;
  enters_once = λ e. cc;
  first = refl;
  looks = (false, refl, λ _. refl);
  looks_last = (true, refl, λ e. absurd (cc));
  asks_no_more = λ p x. x;
}
