-- Every step of layout two, seen from inside, and histories of such steps.
use Rattle.mtapi_layouts.proofs.Names.{◌≡◌, ℕ, List, [], ◌∷◌, refl, sym, ◌∙◌, ap, subst, Two, inside, Op, Reply, State, opening, Move, apply, after_moves, Allows, moves_of, after_row, row, FitsState, answered_kind, renamed_reply, inward, turned_task, in_layout_one, room_one, state_in_one, TaskIsNamed, Named, inward_op, outward_reply, IssuesSmall, nat_tests, arith}
use Rattle.mtapi_values.specs.declared.handles.ObjectKind.TheVariants as kind
use Rattle.mtapi_machine.specs.declared.terms.Terms.{Terms}
use Rattle.mtapi_machine.specs.Kept.{pends_alike}
use Rattle.mtapi_machine.specs.Legal.{NodeEntry, IsHonest, next, LegalFrom, after_from, Legal}
use Rattle.mtapi_renaming.proofs.LastMoves.{terms_stay}
use Rattle.mtapi_layouts.specs.Turns.{StepTurns, inner_entries, outer_entries, AllIssueSmall, HistoryTurns, StartTurns}
use Rattle.mtapi_layouts.proofs.Handles.{inward-one, inward-zero}
use Rattle.mtapi_layouts.proofs.Lists.{found-turned}
use Rattle.mtapi_layouts.proofs.Table.{inward-outward, row_turned, row_small}

-- handles that name their kinds have others, those inside
fits : {s : State} → Named s → FitsState inward s
fits n = grind (arith, nat_tests, inward-one, inward-zero)

named : {s : State} → FitsState inward s → Named s
named n = grind (arith, nat_tests)

-- no moves change the terms
pub all_stay : (ms : List Move) (s : State) → (after_moves ms s).terms ≡ s.terms
all_stay [] s = refl
all_stay (m ∷ ms) s = all_stay ms (apply m s) ∙ terms_stay s m

pub history_named : (s : State) (L : List NodeEntry) → s.terms.layout ≡ Two → Named s → Named (after_from s L)
unfolding after_from
history_named s [] two n = n
history_named s (e ∷ es) two n = history_named (next s e) es (ap (λ (t : Terms). t.layout) (all_stay (moves_of (row s e.who e.op e.reply)) s)
    ∙ two) (named (row_turned (fits n) two e.who e.op e.reply).fits)

-- a step inside, and a history of such steps
pub step_turns : (s : State) (who : ℕ) (o : Op) (r : Reply) → s.terms.layout ≡ Two → Named s → IssuesSmall o r
    → Allows (row (state_in_one s) who (inward_op o) r) r
    → StepTurns s who o r
step_turns s who o r two n issued a = grind (
  arith,
  nat_tests,
  row_small (fits n) two who o r issued a,
  fits n,
  inward-outward (answered_kind o) r,
  row_turned (fits n) two who o
      (outward_reply o r),
  renamed_reply,
  outward_reply,
  answered_kind,
  inward_op,
  room_one,
  after_row,
  all_stay,
  moves_of,
)

-- the seat that waits for a task
pub pends_turned : (s : State) (who : ℕ) (o : Op) → Named s → pends_alike (state_in_one s) who (inward_op o) ≡ pends_alike s who o
pends_turned s who o n = grind (arith, nat_tests, found-turned kind.Task turned_task TaskIsNamed)

honest_out : (o : Op) → IsHonest (inward_op o) → IsHonest o
honest_out o h = grind (arith, nat_tests)

history_from : (s : State) (L : List NodeEntry) → s.terms.layout ≡ Two → Named s → AllIssueSmall L → LegalFrom (state_in_one s) (inner_entries L) →
    LegalFrom s (outer_entries L) × (state_in_one (after_from s (outer_entries L)) ≡ after_from (state_in_one s) (inner_entries L))
unfolding LegalFrom after_from
history_from s [] two n small l = (tt, refl)
history_from s (e ∷ es) two n small l =
    let w : StepTurns s e.who e.op e.reply = step_turns s e.who e.op e.reply two n small.0 l.0.allowed in
    let t : State = after_row s (row s e.who e.op (outward_reply e.op e.reply)) in
    let rest : LegalFrom t (outer_entries es) × (state_in_one (after_from t (outer_entries es)) ≡ after_from (state_in_one t) (inner_entries es)) =
    history_from t es (ap (λ (x : Terms). x.layout) (all_stay (moves_of (row s e.who e.op (outward_reply e.op e.reply))) s)
    ∙ two) w.named small.1 (subst (λ (x : State). LegalFrom x (inner_entries es)) (sym w.leads) l.1) in (
      (record { seat = l.0.seat; honest = honest_out e.op l.0.honest; allowed = w.allowed }, rest.0),
      rest.1
          ∙ ap (λ (x : State). after_from x (inner_entries es)) w.leads,
    )

pub opening_turns : (terms : Terms) → StartTurns terms
unfolding inside
opening_turns terms = grind (arith, nat_tests)

pub history_turns : (terms : Terms) (L : List NodeEntry) → terms.layout ≡ Two → AllIssueSmall L → Legal (in_layout_one terms) (inner_entries L)
    → HistoryTurns terms L
history_turns terms L two small l =
    let start : state_in_one (opening terms) ≡ opening (in_layout_one terms) = (opening_turns terms).turned in
    let w : LegalFrom (opening terms) (outer_entries L)
    × (state_in_one (after_from (opening terms) (outer_entries L)) ≡ after_from (state_in_one (opening terms)) (inner_entries L)) =
    history_from (opening terms) L two (opening_turns terms).named small (subst (λ (x : State). LegalFrom x (inner_entries L)) (sym start) l.from) in
    record {
      legal = record { fits = record { settings = l.fits.settings; some_caller = l.fits.some_caller; callers = l.fits.callers }; from = w.0 };
      leads = w.1 ∙ ap (λ (x : State). after_from x (inner_entries L)) start;
    }
