use Rattle.workload_file.proofs.Cited.{◌≡◌, false, list_any, take, key_text}
use Rattle.workload_file.specs.Options.{opens}
use Rattle.workload_file.proofs.options.option_in.Given as goal

abbrev pub invariant-loop-place : goal.invariant-loop-place
invariant-loop-place l = list_any (λ f. opens l.word (key_text f.key)) (take l.place l.fields) ≡ false
