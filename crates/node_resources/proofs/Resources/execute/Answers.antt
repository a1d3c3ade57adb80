use Rattle.node_resources.proofs.Names.{w64, rules, to_z-of_z}
use Rattle.node_resources.proofs.Resources.execute.Goals as goal

pub returns-in-MutexCreate : goal.returns-in-MutexCreate
returns-in-MutexCreate g c = rw c.in-MutexCreate.is c.mutex_create.ensures

pub returns-in-MutexGet : goal.returns-in-MutexGet
returns-in-MutexGet g c = rw c.in-MutexGet.is c.mutex_get.ensures

pub returns-in-MutexDelete : goal.returns-in-MutexDelete
returns-in-MutexDelete g c = rw (c.in-MutexDelete.is, ← c.other_mutex.ensures) c.mutex_delete.ensures

pub returns-in-MutexLook : goal.returns-in-MutexLook
returns-in-MutexLook g c = rw (c.in-MutexLook.is, ← c.other_mutex-in-MutexLook.ensures) c.mutex_look.ensures

pub returns-in-MutexUnlock : goal.returns-in-MutexUnlock
returns-in-MutexUnlock g c = rw (c.in-MutexUnlock.is, ← c.other_mutex-in-MutexUnlock.ensures) c.mutex_unlock.ensures

pub returns-in-SemCreate : goal.returns-in-SemCreate
returns-in-SemCreate g c = rw c.in-SemCreate.is c.sem_create.ensures

pub returns-in-SemGet : goal.returns-in-SemGet
returns-in-SemGet g c = rw c.in-SemGet.is c.sem_get.ensures

pub returns-in-SemDelete : goal.returns-in-SemDelete
returns-in-SemDelete g c = rw (c.in-SemDelete.is, ← c.other_sem.ensures) c.sem_delete.ensures

pub returns-in-SemLook : goal.returns-in-SemLook
returns-in-SemLook g c = rw (c.in-SemLook.is, ← c.other_sem-in-SemLook.ensures) c.sem_look.ensures

pub returns-in-SemUnlock : goal.returns-in-SemUnlock
returns-in-SemUnlock g c = rw (c.in-SemUnlock.is, ← c.other_sem-in-SemUnlock.ensures) c.sem_unlock.ensures

pub returns-in-RwlCreate : goal.returns-in-RwlCreate
returns-in-RwlCreate g c = rw c.in-RwlCreate.is c.rwl_create.ensures

pub returns-in-RwlGet : goal.returns-in-RwlGet
returns-in-RwlGet g c = rw c.in-RwlGet.is c.rwl_get.ensures

pub returns-in-RwlDelete : goal.returns-in-RwlDelete
returns-in-RwlDelete g c = rw (c.in-RwlDelete.is, ← c.other_rwl.ensures) c.rwl_delete.ensures

pub returns-in-RwlLook : goal.returns-in-RwlLook
returns-in-RwlLook g c = rw (c.in-RwlLook.is, ← c.other_rwl-in-RwlLook.ensures) c.rwl_look.ensures

pub returns-in-RwlUnlock : goal.returns-in-RwlUnlock
returns-in-RwlUnlock g c = rw (c.in-RwlUnlock.is, ← c.other_rwl-in-RwlUnlock.ensures) c.rwl_unlock.ensures

pub returns-in-ShmemCreate : goal.returns-in-ShmemCreate
returns-in-ShmemCreate g c = rw c.in-ShmemCreate.is c.shmem_create.ensures

pub returns-in-ShmemGet : goal.returns-in-ShmemGet
returns-in-ShmemGet g c = rw c.in-ShmemGet.is c.shmem_get.ensures

pub returns-in-ShmemDelete : goal.returns-in-ShmemDelete
returns-in-ShmemDelete g c = rw (c.in-ShmemDelete.is, ← c.other_shmem.ensures) c.shmem_delete.ensures

pub returns-in-ShmemAttach : goal.returns-in-ShmemAttach
returns-in-ShmemAttach g c = rw (c.in-ShmemAttach.is, ← c.other_shmem-in-ShmemAttach.ensures) c.shmem_attach.ensures

pub returns-in-ShmemDetach : goal.returns-in-ShmemDetach
returns-in-ShmemDetach g c = rw (c.in-ShmemDetach.is, ← c.other_shmem-in-ShmemDetach.ensures) c.shmem_detach.ensures

pub returns-in-ShmemRead : goal.returns-in-ShmemRead
returns-in-ShmemRead g c = rw (c.in-ShmemRead.is, ← c.other_shmem-in-ShmemRead.ensures) c.shmem_read.ensures

pub returns-in-ShmemWrite : goal.returns-in-ShmemWrite
returns-in-ShmemWrite g c = rw (
  c.in-ShmemWrite.is,
  ← c.other_shmem-in-ShmemWrite.ensures,
  ← to_z-of_z w64 c.in-ShmemWrite.value
      (search rules),
) c.shmem_write.ensures
