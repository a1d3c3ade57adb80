-- The tables of statuses: each one's number and its name.
use Rattle.std.specs.Prelude.{ℕ, List, [], ◌∷◌, codes}
use Rattle.mtapi_values.specs.declared.statuses.MtapiStatus.{MtapiStatus}
use Rattle.mtapi_values.specs.declared.statuses.MrapiStatus.{MrapiStatus}
use Rattle.mtapi_values.specs.declared.statuses.MtapiStatus.TheVariants as t
use Rattle.mtapi_values.specs.declared.statuses.MrapiStatus.TheVariants as r

-- the numbers of the MTAPI statuses, of which none is 15
abbrev pub mtapi_number : MtapiStatus → ℕ
mtapi_number t.Success = 0
mtapi_number t.Timeout = 1
mtapi_number t.GroupCompleted = 2
mtapi_number t.ErrParameter = 3
mtapi_number t.ErrNodeInitialized = 4
mtapi_number t.ErrNodeNotinit = 5
mtapi_number t.ErrActionInvalid = 6
mtapi_number t.ErrActionLimit = 7
mtapi_number t.ErrActionFailed = 8
mtapi_number t.ErrActionDeleted = 9
mtapi_number t.ErrActionDisabled = 10
mtapi_number t.ErrArgSize = 11
mtapi_number t.ErrJobInvalid = 12
mtapi_number t.ErrNoCore = 13
mtapi_number t.ErrTaskInvalid = 14
mtapi_number t.ErrTaskLimit = 16
mtapi_number t.ErrTaskCancelled = 17
mtapi_number t.ErrGroupInvalid = 18
mtapi_number t.ErrGroupLimit = 19
mtapi_number t.ErrQueueInvalid = 20
mtapi_number t.ErrQueueLimit = 21
mtapi_number t.ErrQueueDeleted = 22
mtapi_number t.ErrQueueDisabled = 23
mtapi_number t.ErrQueueExists = 24
mtapi_number t.ErrWaitPending = 25
mtapi_number t.ErrAttrNum = 26
mtapi_number t.ErrAttrReadonly = 27
mtapi_number t.ErrCoreNum = 28
mtapi_number t.ErrSpent = 29

-- the names of the MTAPI statuses
abbrev pub mtapi_name : MtapiStatus → List ℕ
mtapi_name t.Success = codes "MTAPI_SUCCESS"
mtapi_name t.Timeout = codes "MTAPI_TIMEOUT"
mtapi_name t.GroupCompleted = codes "MTAPI_GROUP_COMPLETED"
mtapi_name t.ErrParameter = codes "MTAPI_ERR_PARAMETER"
mtapi_name t.ErrNodeInitialized = codes "MTAPI_ERR_NODE_INITIALIZED"
mtapi_name t.ErrNodeNotinit = codes "MTAPI_ERR_NODE_NOTINIT"
mtapi_name t.ErrActionInvalid = codes "MTAPI_ERR_ACTION_INVALID"
mtapi_name t.ErrActionLimit = codes "MTAPI_ERR_ACTION_LIMIT"
mtapi_name t.ErrActionFailed = codes "MTAPI_ERR_ACTION_FAILED"
mtapi_name t.ErrActionDeleted = codes "MTAPI_ERR_ACTION_DELETED"
mtapi_name t.ErrActionDisabled = codes "MTAPI_ERR_ACTION_DISABLED"
mtapi_name t.ErrArgSize = codes "MTAPI_ERR_ARG_SIZE"
mtapi_name t.ErrJobInvalid = codes "MTAPI_ERR_JOB_INVALID"
mtapi_name t.ErrNoCore = codes "MTAPI_ERR_NO_CORE"
mtapi_name t.ErrTaskInvalid = codes "MTAPI_ERR_TASK_INVALID"
mtapi_name t.ErrTaskLimit = codes "MTAPI_ERR_TASK_LIMIT"
mtapi_name t.ErrTaskCancelled = codes "MTAPI_ERR_TASK_CANCELLED"
mtapi_name t.ErrGroupInvalid = codes "MTAPI_ERR_GROUP_INVALID"
mtapi_name t.ErrGroupLimit = codes "MTAPI_ERR_GROUP_LIMIT"
mtapi_name t.ErrQueueInvalid = codes "MTAPI_ERR_QUEUE_INVALID"
mtapi_name t.ErrQueueLimit = codes "MTAPI_ERR_QUEUE_LIMIT"
mtapi_name t.ErrQueueDeleted = codes "MTAPI_ERR_QUEUE_DELETED"
mtapi_name t.ErrQueueDisabled = codes "MTAPI_ERR_QUEUE_DISABLED"
mtapi_name t.ErrQueueExists = codes "MTAPI_ERR_QUEUE_EXISTS"
mtapi_name t.ErrWaitPending = codes "MTAPI_ERR_WAIT_PENDING"
mtapi_name t.ErrAttrNum = codes "MTAPI_ERR_ATTR_NUM"
mtapi_name t.ErrAttrReadonly = codes "MTAPI_ERR_ATTR_READONLY"
mtapi_name t.ErrCoreNum = codes "MTAPI_ERR_CORE_NUM"
mtapi_name t.ErrSpent = codes "MTAPI_ERR_SPENT"

-- the numbers of the MRAPI statuses
abbrev pub mrapi_number : MrapiStatus → ℕ
mrapi_number r.Success = 0
mrapi_number r.Timeout = 1
mrapi_number r.ErrParameter = 2
mrapi_number r.ErrNodeNotinit = 3
mrapi_number r.ErrMutexInvalid = 4
mrapi_number r.ErrMutexIdInvalid = 5
mrapi_number r.ErrMutexExists = 6
mrapi_number r.ErrMutexLimit = 7
mrapi_number r.ErrMutexLocked = 8
mrapi_number r.ErrMutexNotlocked = 9
mrapi_number r.ErrMutexKey = 10
mrapi_number r.ErrMutexLockorder = 11
mrapi_number r.ErrSemInvalid = 12
mrapi_number r.ErrSemIdInvalid = 13
mrapi_number r.ErrSemExists = 14
mrapi_number r.ErrSemLocked = 15
mrapi_number r.ErrSemNotlocked = 16
mrapi_number r.ErrRwlInvalid = 17
mrapi_number r.ErrRwlIdInvalid = 18
mrapi_number r.ErrRwlExists = 19
mrapi_number r.ErrRwlLimit = 20
mrapi_number r.ErrRwlLocked = 21
mrapi_number r.ErrRwlNotlocked = 22
mrapi_number r.ErrShmInvalid = 23
mrapi_number r.ErrShmIdInvalid = 24
mrapi_number r.ErrShmExists = 25
mrapi_number r.ErrShmLimit = 26
mrapi_number r.ErrShmAttached = 27
mrapi_number r.ErrShmNotattached = 28
mrapi_number r.ErrSpent = 29
mrapi_number r.ErrSemLimit = 30

-- the names of the MRAPI statuses
abbrev pub mrapi_name : MrapiStatus → List ℕ
mrapi_name r.Success = codes "MRAPI_SUCCESS"
mrapi_name r.Timeout = codes "MRAPI_TIMEOUT"
mrapi_name r.ErrParameter = codes "MRAPI_ERR_PARAMETER"
mrapi_name r.ErrNodeNotinit = codes "MRAPI_ERR_NODE_NOTINIT"
mrapi_name r.ErrMutexInvalid = codes "MRAPI_ERR_MUTEX_INVALID"
mrapi_name r.ErrMutexIdInvalid = codes "MRAPI_ERR_MUTEX_ID_INVALID"
mrapi_name r.ErrMutexExists = codes "MRAPI_ERR_MUTEX_EXISTS"
mrapi_name r.ErrMutexLimit = codes "MRAPI_ERR_MUTEX_LIMIT"
mrapi_name r.ErrMutexLocked = codes "MRAPI_ERR_MUTEX_LOCKED"
mrapi_name r.ErrMutexNotlocked = codes "MRAPI_ERR_MUTEX_NOTLOCKED"
mrapi_name r.ErrMutexKey = codes "MRAPI_ERR_MUTEX_KEY"
mrapi_name r.ErrMutexLockorder = codes "MRAPI_ERR_MUTEX_LOCKORDER"
mrapi_name r.ErrSemInvalid = codes "MRAPI_ERR_SEM_INVALID"
mrapi_name r.ErrSemIdInvalid = codes "MRAPI_ERR_SEM_ID_INVALID"
mrapi_name r.ErrSemExists = codes "MRAPI_ERR_SEM_EXISTS"
mrapi_name r.ErrSemLocked = codes "MRAPI_ERR_SEM_LOCKED"
mrapi_name r.ErrSemNotlocked = codes "MRAPI_ERR_SEM_NOTLOCKED"
mrapi_name r.ErrRwlInvalid = codes "MRAPI_ERR_RWL_INVALID"
mrapi_name r.ErrRwlIdInvalid = codes "MRAPI_ERR_RWL_ID_INVALID"
mrapi_name r.ErrRwlExists = codes "MRAPI_ERR_RWL_EXISTS"
mrapi_name r.ErrRwlLimit = codes "MRAPI_ERR_RWL_LIMIT"
mrapi_name r.ErrRwlLocked = codes "MRAPI_ERR_RWL_LOCKED"
mrapi_name r.ErrRwlNotlocked = codes "MRAPI_ERR_RWL_NOTLOCKED"
mrapi_name r.ErrShmInvalid = codes "MRAPI_ERR_SHM_INVALID"
mrapi_name r.ErrShmIdInvalid = codes "MRAPI_ERR_SHM_ID_INVALID"
mrapi_name r.ErrShmExists = codes "MRAPI_ERR_SHM_EXISTS"
mrapi_name r.ErrShmLimit = codes "MRAPI_ERR_SHM_LIMIT"
mrapi_name r.ErrShmAttached = codes "MRAPI_ERR_SHM_ATTACHED"
mrapi_name r.ErrShmNotattached = codes "MRAPI_ERR_SHM_NOTATTACHED"
mrapi_name r.ErrSpent = codes "MRAPI_ERR_SPENT"
mrapi_name r.ErrSemLimit = codes "MRAPI_ERR_SEM_LIMIT"

-- each MTAPI status once
abbrev pub mtapi_all : List MtapiStatus
mtapi_all = t.Success ∷ t.Timeout ∷ t.GroupCompleted ∷ t.ErrParameter ∷ t.ErrNodeInitialized ∷ t.ErrNodeNotinit ∷ t.ErrActionInvalid ∷ t.ErrActionLimit
    ∷ t.ErrActionFailed ∷ t.ErrActionDeleted ∷ t.ErrActionDisabled ∷ t.ErrArgSize ∷ t.ErrJobInvalid ∷ t.ErrNoCore ∷ t.ErrTaskInvalid ∷ t.ErrTaskLimit
    ∷ t.ErrTaskCancelled ∷ t.ErrGroupInvalid ∷ t.ErrGroupLimit ∷ t.ErrQueueInvalid ∷ t.ErrQueueLimit ∷ t.ErrQueueDeleted ∷ t.ErrQueueDisabled ∷ t.ErrQueueExists
    ∷ t.ErrWaitPending ∷ t.ErrAttrNum ∷ t.ErrAttrReadonly ∷ t.ErrCoreNum ∷ t.ErrSpent ∷ []

-- each MRAPI status once
abbrev pub mrapi_all : List MrapiStatus
mrapi_all = r.Success ∷ r.Timeout ∷ r.ErrParameter ∷ r.ErrNodeNotinit ∷ r.ErrMutexInvalid ∷ r.ErrMutexIdInvalid ∷ r.ErrMutexExists ∷ r.ErrMutexLimit
    ∷ r.ErrMutexLocked ∷ r.ErrMutexNotlocked ∷ r.ErrMutexKey ∷ r.ErrMutexLockorder ∷ r.ErrSemInvalid ∷ r.ErrSemIdInvalid ∷ r.ErrSemExists ∷ r.ErrSemLocked
    ∷ r.ErrSemNotlocked ∷ r.ErrRwlInvalid ∷ r.ErrRwlIdInvalid ∷ r.ErrRwlExists ∷ r.ErrRwlLimit ∷ r.ErrRwlLocked ∷ r.ErrRwlNotlocked ∷ r.ErrShmInvalid
    ∷ r.ErrShmIdInvalid ∷ r.ErrShmExists ∷ r.ErrShmLimit ∷ r.ErrShmAttached ∷ r.ErrShmNotattached ∷ r.ErrSpent ∷ r.ErrSemLimit ∷ []
