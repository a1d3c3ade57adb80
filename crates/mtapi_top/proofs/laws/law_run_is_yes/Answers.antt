use Rattle.mtapi_top.proofs.Kept.{judged_yes, writable, kept_input}
use Rattle.mtapi_top.proofs.laws.law_run_is_yes.Goals as goal

pub returns-clause-verdict : goal.returns-clause-verdict
returns-clause-verdict c = judged_yes

pub returns-clause-writable : goal.returns-clause-writable
returns-clause-writable c = writable

pub returns-clause-input : goal.returns-clause-input
returns-clause-input c = kept_input
