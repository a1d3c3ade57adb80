-- One seat's part of a journal, and how its calls are told by it.
use Rattle.std.specs.Prelude.{◌≡◌, ℕ, ◌+◌, ◌≤◌, Bool, true, false, ◌==◌, List, [], ◌∷◌, ◌++◌, Option, Some, None, if◌then◌else◌}
use Rattle.mtapi_values.specs.declared.timeouts.Timeout.{Timeout}
use Rattle.mtapi_values.specs.Timeouts.{looks_of}
use Rattle.mtapi_values.specs.declared.statuses.MtapiStatus.TheVariants as mtapi
use Rattle.mtapi_values.specs.declared.statuses.MrapiStatus.TheVariants as mrapi
use Rattle.mtapi_machine.specs.declared.ops.Op.{Op}
use Rattle.mtapi_machine.specs.declared.ops.Op.TheVariants as op
use Rattle.mtapi_machine.specs.declared.replies.Reply.{Reply}
use Rattle.mtapi_machine.specs.declared.replies.Reply.TheVariants as reply
use Rattle.mtapi_machine.specs.Legal.{NodeEntry}
use Rattle.mtapi_machine.specs.Kept.{is_pending}
use Rattle.workload_runs.specs.Calls.{Call, Once, Looking}
use Rattle.workload_runs.specs.Parts.{Form}

-- an entry of one seat, and the number beside it
pub record Line : Type 0 where
  pub op : Op
  pub reply : Reply
  pub beside : ℕ

abbrev pub line_with : Op → Reply → ℕ → Line
line_with o r n = record { op = o; reply = r; beside = n }

-- the lines of a seat, in the order of the journal
unfoldable pub lines_of : ℕ → List NodeEntry → List ℕ → List Line
lines_of who [] ns = []
lines_of who (e ∷ es) [] = []
lines_of who (e ∷ es) (n ∷ ns) = if e.who == who then line_with e.op e.reply n ∷ lines_of who es ns else lines_of who es ns

-- the look that was kept before the deciding one, with its number
abbrev pub before_it : Op → Option ℕ → List Line
before_it o None = []
before_it o (Some n) = line_with o reply.Pending n ∷ []

-- how many looks that makes: the kept one, and those that its number tells
abbrev pub looks_before : Option ℕ → ℕ
looks_before None = 0
looks_before (Some n) = n + 1

-- where there is a bound, there are at most so many looks, and the deciding one is the last exactly where they are that many;
-- where there is none, no look is the last
abbrev pub KeepsTimeout : Option ℕ → Bool → ℕ → Type 0
KeepsTimeout None last looks = last ≡ false
KeepsTimeout (Some most) last looks = (looks ≤ most) × (last ≡ (looks == most))

-- the reply says that the looks are used up
abbrev pub is_timeout : Reply → Bool
is_timeout (reply.Mtapi mtapi.Timeout) = true
is_timeout (reply.Mrapi mrapi.Timeout) = true
is_timeout _ = false

-- the lines of a call that looks: one kept Pending at most, and only where the caller stands as waiter, and the look that decided
pub record LookedLines (waits : Bool) (o : Bool → Op) (timeout : Timeout) (lines : List Line) (r : Reply) : Type 0 where
  pub first : Option ℕ
  pub beside : ℕ
  pub last : Bool
  pub is : lines ≡ before_it (o false) first ++ line_with (o last) r beside ∷ []
  pub none_kept : waits ≡ false → first ≡ None
  pub decides : is_pending r ≡ false
  pub within : KeepsTimeout (looks_of timeout) last (looks_before first + (beside + 1))
  pub late : is_timeout r ≡ true → last ≡ true

-- the lines of one call, and the reply that it comes to
abbrev pub MadeLines : Call → List Line → Reply → Type 0
MadeLines (Once o) lines r = (lines ≡ line_with o r 0 ∷ []) × (is_pending r ≡ false)
MadeLines (Looking waits o timeout) lines r = LookedLines waits o timeout lines r

-- main initializes, and releases at once where no statement does
abbrev pub head_lines : Bool → List Line
head_lines true = line_with op.Initialize reply.Ok 0 ∷ []
head_lines false = line_with op.Initialize reply.Ok 0 ∷ line_with op.Release reply.Ok 0 ∷ []

-- main closes, and finalizes
abbrev pub tail_of_main : List Line
tail_of_main = line_with op.Close reply.Ok 0 ∷ line_with op.Final reply.Ok 0 ∷ []

-- a further caller enters, after any number of looks
abbrev pub Entered : List Line → Type 0
Entered lines = (looks : ℕ) × (lines ≡ line_with op.Enter reply.Ok looks ∷ [])

-- what a seat makes, told by lines
abbrev pub in_lines : Form Line
in_lines = record { made = MadeLines; head = head_lines; tail = tail_of_main; entrance = Entered }
