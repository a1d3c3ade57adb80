use Rattle.std.proofs.Common.{◌≡◌, refl, arith}
use Rattle.std.proofs.lemmas.Bool.Decides.{nat_tests}
use Rattle.mtapi_machine.specs.declared.ops.Op.{Op}
use Rattle.mtapi_machine.specs.declared.ops.Op.TheVariants as op
use Rattle.mtapi_renaming.specs.Ops.{renamed_op}
use Rattle.mtapi_renaming.proofs.ops.renamed_op.Goals as goal

-- every other op names no object
pub returns-in_default : goal.returns-in_default
returns-in_default g c = by_op c.args.op refl
  where
    by_op : (o : Op) → c.args.op ≡ o → o ≡ renamed_op (g.R.Rename.renaming c.args.names.now) o
    by_op op.Initialize i = refl
    by_op o i = grind (arith, nat_tests, c.in_default)
