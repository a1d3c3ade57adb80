-- What the calls of a caller, and its whole part, add to its seat's own entries.
use Rattle.std.specs.Prelude.{◌≡◌, ℕ, ◌+◌, ◌-◌, ◌<◌, Bool, true, false, List, [], ◌∷◌, ◌++◌, Option, Some, MatchOption, slice_get, replicate, ◌==◌, if◌then◌else◌}
use Rattle.std.specs.Bool.{MatchBool}
use Rattle.workload_runners.specs.Names.{entry, Statement, Part, Op, Reply, Ok, Pending, handle_of, NodeEntry, is_pending, Carried, has_begin, is_timeout}
use Rattle.mtapi_values.specs.Timeouts.{looks_of}
use Rattle.mtapi_machine.specs.declared.ops.Op.TheVariants as op
use Rattle.workload_runs.specs.Calls.{Call, Once, Looking}

-- the entries of a call that looks, which comes to this reply
pub record LookedAs (w : ℕ) (o : Bool → Op) (limit : Option ℕ) (es : List NodeEntry) (r : Reply) : Type 0 where
  pub pending : ℕ
  pub last : Bool
  pub is : es ≡ replicate pending (entry w (o false) Pending) ++ entry w (o last) r ∷ []
  pub bound : MatchOption limit (last ≡ false) (λ n. (pending < n) × (last ≡ (pending + 1 == n)))
  pub decides : last ≡ false → is_pending r ≡ false
  pub late : is_timeout r ≡ true → last ≡ true

-- the entries of one call, which comes to this reply
abbrev pub MadeAs : ℕ → Call → List NodeEntry → Reply → Type 0
MadeAs w (Once o) es r = es ≡ entry w o r ∷ []
MadeAs w (Looking waits o timeout) es r = LookedAs w o (looks_of timeout) es r

-- the entries of one call, which binds this handle
pub record StatedAs (c : Call) (handle : ℕ) (w : ℕ) (es : List NodeEntry) : Type 0 where
  pub reply : Reply
  pub made : MadeAs w c es reply
  pub is : handle ≡ handle_of reply

-- the entries of these statements
pub record CarriedAs (bound : List ℕ) (ss : List Statement) (w : ℕ) (es : List NodeEntry) : Type 0 where
  pub replies : List Reply
  pub carried : Carried (MadeAs w) bound ss es replies

-- main initializes, and releases at once where no statement does
pub record OpensAs (begins : Bool) (w : ℕ) (es : List NodeEntry) : Type 0 where
  pub first : Reply
  pub lets : List NodeEntry
  pub is : es ≡ entry w op.Initialize first ∷ lets
  pub let_is : MatchBool begins (lets ≡ []) ((r : Reply) × (lets ≡ entry w op.Release r ∷ []))

-- and then it carries its statements out
pub record MainAs (ss : List Statement) (w : ℕ) (es : List NodeEntry) : Type 0 where
  pub front : List NodeEntry
  pub own : List NodeEntry
  pub is : es ≡ front ++ own
  pub opens : OpensAs (has_begin ss) w front
  pub carried : CarriedAs [] ss w own

abbrev pub is_ok : Reply → Bool
is_ok Ok = true
is_ok _ = false

-- a further caller looks at the entrance, and is answered this
pub record EntersAs (r : Reply) (w : ℕ) (es : List NodeEntry) : Type 0 where
  pub pending : ℕ
  pub is : es ≡ replicate pending (entry w op.Enter Pending) ++ entry w op.Enter r ∷ []
  pub decides : is_pending r ≡ false

-- and then it carries its statements out where it entered, and none where it didn't
pub record CallerAs (ss : List Statement) (w : ℕ) (es : List NodeEntry) : Type 0 where
  pub reply : Reply
  pub front : List NodeEntry
  pub own : List NodeEntry
  pub is : es ≡ front ++ own
  pub enters : EntersAs reply w front
  pub carried : CarriedAs [] (if is_ok reply then ss else []) w own

-- its part is the one of its number behind main's
abbrev pub CallerIn : List Part → ℕ → ℕ → List NodeEntry → Type 0
CallerIn parts main w es = (p : Part) × (slice_get parts (w - main) ≡ Some p) × CallerAs p.statements w es
