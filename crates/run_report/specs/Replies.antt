-- The reply to each statement of a run.
use Rattle.std.specs.Prelude.{ℕ, ◌+◌, ◌==◌, ◌&&◌, Bool, not, List, [], ◌∷◌, length, take, drop, map, if◌then◌else◌}
use denote.Ref.{Bor}
use Rattle.node_journals.specs.Shorts.{entry_of}
use Rattle.node_journals.specs.declared.shorts.ShortEntry.{ShortEntry}
use Rattle.run_report.specs.Names.{Statement, Part, Reply, NodeEntry}
use Rattle.mtapi_machine.specs.Kept.{is_pending}
use Rattle.workload_runs.specs.Parts.{has_begin}

-- the replies of the entries behind a list of references
abbrev pub nows : List (Bor ShortEntry) → List Reply
nows shorts = map (λ s. (entry_of s.now).reply) shorts

-- the entry decides a call of this seat: its reply isn't Pending
abbrev pub decides : ℕ → NodeEntry → Bool
decides who e = (e.who == who) && not (is_pending e.reply)

-- the replies that decide the calls of this seat, in order
unfoldable pub decided : ℕ → List NodeEntry → List Reply
decided who [] = []
decided who (e ∷ es) = if decides who e then e.reply ∷ decided who es else decided who es

-- how many calls main makes before those of its statements: it initializes, and releases at once where no statement is `begin`
abbrev pub calls_before : List Statement → ℕ
calls_before statements = if has_begin statements then 1 else 2

-- a part, and the replies to its statements, one for each, in order
pub record Told : Type 0 where
  pub name : List ℕ
  pub statements : List Statement
  pub replies : List Reply

-- a part whose caller has this seat and makes so many calls before those of its statements
abbrev pub reported_part : ℕ → ℕ → List NodeEntry → Part → Told
reported_part who before es p = record { name = p.name; statements = p.statements; replies = take (length p.statements) (drop before (decided who es)) }

-- the parts of further callers, from this seat on: each caller makes one call before those of its statements, to enter
unfoldable pub further_told : ℕ → List NodeEntry → List Part → List Told
further_told who es [] = []
further_told who es (p ∷ ps) = reported_part who 1 es p ∷ further_told (who + 1) es ps

-- all parts: main's is the first
abbrev pub all_told : ℕ → List NodeEntry → List Part → List Told
all_told main es [] = []
all_told main es (p ∷ ps) = reported_part main (calls_before p.statements) es p ∷ further_told (main + 1) es ps
