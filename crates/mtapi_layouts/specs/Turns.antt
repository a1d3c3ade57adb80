-- Laws of a node that has its handles in layout one, and turns them at its ops and replies alone.
use Rattle.std.specs.Prelude.{◌≡◌, ℕ, List, [], ◌∷◌}
use Rattle.mtapi_values.specs.declared.handles.Layout.TheVariants.{Two}
use Rattle.mtapi_values.specs.declared.handles.ObjectKind.{ObjectKind}
use Rattle.mtapi_values.specs.Layouts.{outer}
use Rattle.history.specs.Histories.{entry}
use Rattle.mtapi_machine.specs.declared.terms.Terms.{Terms}
use Rattle.mtapi_machine.specs.declared.ops.Op.{Op}
use Rattle.mtapi_machine.specs.declared.replies.Reply.{Reply}
use Rattle.mtapi_machine.specs.State.{State, opening}
use Rattle.mtapi_machine.specs.Row.{Allows, after_row}
use Rattle.mtapi_machine.specs.Rows.{row}
use Rattle.mtapi_machine.specs.Legal.{NodeEntry, Legal, after}
use Rattle.mtapi_machine.specs.Kept.{pends_alike}
use Rattle.mtapi_layouts.specs.Inward.{inward, NamesThisKind}
use Rattle.mtapi_layouts.specs.Turned.{in_layout_one, state_in_one}
use Rattle.mtapi_layouts.specs.Named.{Named}
use Rattle.mtapi_layouts.specs.Ops.{inward_op, outward_reply, IssuesSmall, IsSmall}

-- each handle of the reply can be turned outwards, and layout two allows the reply then; the state after it turns into the one after
-- the step inside, and each handle in it names its kind
pub record StepTurns (s : State) (who : ℕ) (op : Op) (r : Reply) : Type 0 where
  pub small : IsSmall r
  pub allowed : Allows (row s who op (outward_reply op r)) (outward_reply op r)
  pub leads : state_in_one (after_row s (row s who op (outward_reply op r))) ≡ after_row (state_in_one s) (row (state_in_one s) who (inward_op op) r)
  pub named : Named (after_row s (row s who op (outward_reply op r)))

-- so of each step that layout one allows inside
abbrev pub Turns : Type 0
Turns = (s : State) (who : ℕ) (op : Op) (r : Reply) → s.terms.layout ≡ Two → Named s → IssuesSmall op r → Allows (row (state_in_one s) who (inward_op op) r) r
    → StepTurns s who op r

-- a history of a node, each entry with the op as its caller asked it and the reply as the node has it inside: the entries inside, and
-- those that the callers see
abbrev pub inner_entries : List NodeEntry → List NodeEntry
inner_entries [] = []
inner_entries (e ∷ es) = entry e.who (inward_op e.op) e.reply ∷ inner_entries es

abbrev pub outer_entries : List NodeEntry → List NodeEntry
outer_entries [] = []
outer_entries (e ∷ es) = entry e.who e.op (outward_reply e.op e.reply) ∷ outer_entries es

-- each new handle in it leaves room for the number of its kind
abbrev pub AllIssueSmall : List NodeEntry → Type 0
AllIssueSmall [] = Unit {0}
AllIssueSmall (e ∷ es) = IssuesSmall e.op e.reply × AllIssueSmall es

-- what the callers see is a legal history of layout two, and its state turns into the one inside
pub record HistoryTurns (terms : Terms) (L : List NodeEntry) : Type 0 where
  pub legal : Legal terms (outer_entries L)
  pub leads : state_in_one (after terms (outer_entries L)) ≡ after (in_layout_one terms) (inner_entries L)

-- so of each legal history inside
abbrev pub HistoriesTurn : Type 0
HistoriesTurn = (terms : Terms) (L : List NodeEntry) → terms.layout ≡ Two → AllIssueSmall L → Legal (in_layout_one terms) (inner_entries L)
    → HistoryTurns terms L

-- a node starts so
pub record StartTurns (terms : Terms) : Type 0 where
  pub named : Named (opening terms)
  pub turned : state_in_one (opening terms) ≡ opening (in_layout_one terms)

abbrev pub OpeningTurns : Type 0
OpeningTurns = (terms : Terms) → StartTurns terms

-- after every history of layout two each handle names its kind
abbrev pub HistoriesAreNamed : Type 0
HistoriesAreNamed = (terms : Terms) (L : List NodeEntry) → terms.layout ≡ Two → Named (after terms L)

-- a handle that names its kind is its pool's handle, as callers see it
abbrev pub NamedIsOuter : Type 0
NamedIsOuter = (k : ObjectKind) (h : ℕ) → NamesThisKind k h → outer k (inward k h) ≡ h

-- where the reply to an op is Pending, the state stays as it was on both sides, or on none
abbrev pub PendsAlike : Type 0
PendsAlike = (s : State) (who : ℕ) (op : Op) → Named s → pends_alike (state_in_one s) who (inward_op op) ≡ pends_alike s who op
