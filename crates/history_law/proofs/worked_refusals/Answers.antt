use Rattle.history_law.proofs.Refused.{laws_refuse}
use Rattle.history_law.proofs.RefusedRuns.{run_laws_refuse}
use Rattle.history_law.proofs.RefusedCauses.{causes_refuse}
use Rattle.history_law.proofs.RefusedClauses.{clauses_refuse}
use Rattle.history_law.proofs.RefusedFields.{fields_refuse}
use Rattle.history_law.proofs.WorkedWords.{worked_words}
use Rattle.history_law.proofs.worked_refusals.Goals as goal

pub returns-clause-of_lists : goal.returns-clause-of_lists
returns-clause-of_lists c = laws_refuse

pub returns-clause-of_runs : goal.returns-clause-of_runs
returns-clause-of_runs c = run_laws_refuse

pub returns-clause-of_causes : goal.returns-clause-of_causes
returns-clause-of_causes c = causes_refuse

pub returns-clause-of_clauses : goal.returns-clause-of_clauses
returns-clause-of_clauses c = clauses_refuse

pub returns-clause-of_fields : goal.returns-clause-of_fields
returns-clause-of_fields c = fields_refuse

pub returns-clause-of_words : goal.returns-clause-of_words
returns-clause-of_words c = worked_words
