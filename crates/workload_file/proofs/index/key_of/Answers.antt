use Rattle.workload_file.proofs.Cited.{◌-◌, ◌*◌, ℕ, length, arith, pow_pos}
use Rattle.workload_file.proofs.Places.{key_none, key_more, key_next, key_wide}
use Rattle.workload_file.proofs.index.key_of.Goals as goal

pub digits-init : goal.digits-init
digits-init c = (key_none c.args.name.now, pow_pos (8 * (length c.args.name.now - length c.args.name.now)))

pub overflow_mul-key : goal.overflow_mul-key
overflow_mul-key c =
    let n : ℕ = length c.args.name.now in
    let next = key_next n c.digits.at c.digits.key 0 c.digits-test.true c.digits.auto.at c.digits.invariant.1 (omega arith) in
    let wide = key_wide (n - (c.digits.at - 1)) _ (omega (arith, c.requires.short)) next in
    record { fits = omega (arith, wide) }

pub overflow_add-key : goal.overflow_add-key
overflow_add-key c =
    let n : ℕ = length c.args.name.now in
    let next = key_next n c.digits.at c.digits.key c.from.result c.digits-test.true c.digits.auto.at c.digits.invariant.1
    (rw c.from.ensures (c.type_inv.name (c.digits.at - 1)).fits) in
    record { fits = key_wide (n - (c.digits.at - 1)) _ (omega (arith, c.requires.short)) next }

pub digits-preserved : goal.digits-preserved
digits-preserved c =
    let n : ℕ = length c.args.name.now in (
      rw c.from.ensures (key_more c.args.name.now c.digits.at c.digits.key _ c.digits-test.true c.digits.auto.at c.digits.invariant.0),
      key_next n c.digits.at c.digits.key c.from.result c.digits-test.true c.digits.auto.at c.digits.invariant.1
          (rw c.from.ensures (c.type_inv.name (c.digits.at - 1)).fits),
    )
