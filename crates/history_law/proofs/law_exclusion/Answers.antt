use Rattle.history_law.proofs.locks.Exclusion.{sems_keep_to}
use Rattle.history_law.proofs.locks.Exclusive.{mutexes_keep_to}
use Rattle.history_law.proofs.locks.RwlSteps.{rwls_keep_to}
use Rattle.history_law.proofs.law_exclusion.Goals as goal

pub returns-clause-mutexes : goal.returns-clause-mutexes
returns-clause-mutexes c L R h cut = mutexes_keep_to _ _ c.requires L R h cut

pub returns-clause-semaphores : goal.returns-clause-semaphores
returns-clause-semaphores c L R h cut = sems_keep_to _ _ c.requires L R h cut

pub returns-clause-reader_writer_locks : goal.returns-clause-reader_writer_locks
returns-clause-reader_writer_locks c L R h cut = rwls_keep_to _ _ c.requires L R h cut
