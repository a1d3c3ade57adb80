-- A history as the callers of a node see it, and as the node inside saw it.
use Rattle.node_core.proofs.Names.{◌≡◌, ℕ, suc, Bool, List, [], ◌∷◌, ◌++◌, length, refl, sym, ◌∙◌, ap, subst, Two, entry, Terms, Op, Reply, State, opening, NodeEntry, IsNext, next, LegalFrom, Legal, after_from, after, pends_alike, in_layout_one, state_in_one, Named, inward_op, outward_reply, IssuesSmall, IsSmall, inner_entries, outer_entries, AllIssueSmall, all_stay, step_turns, opening_turns, history_turns, history_named, pends_turned}
use Rattle.mtapi_machine.specs.declared.ops.Op.TheVariants as op
use Rattle.mtapi_machine.specs.Row.{Allows, moves_of}
use Rattle.mtapi_machine.specs.Rows.{row}
use Rattle.mtapi_machine.proofs.Lists.{Legal-rest}

-- Lists of entries

pub inner_append : (L M : List NodeEntry) → inner_entries (L ++ M) ≡ inner_entries L ++ inner_entries M
inner_append [] M = refl
inner_append (e ∷ es) M = ap (λ (l : List NodeEntry). entry e.who (inward_op e.op) e.reply ∷ l) (inner_append es M)

pub outer_append : (L M : List NodeEntry) → outer_entries (L ++ M) ≡ outer_entries L ++ outer_entries M
outer_append [] M = refl
outer_append (e ∷ es) M = ap (λ (l : List NodeEntry). entry e.who e.op (outward_reply e.op e.reply) ∷ l) (outer_append es M)

pub small_append : (L M : List NodeEntry) → AllIssueSmall L → AllIssueSmall M → AllIssueSmall (L ++ M)
small_append [] M h k = k
small_append (e ∷ es) M h k = (h.0, small_append es M h.1 k)

pub same_length : (L : List NodeEntry) → length (inner_entries L) ≡ length (outer_entries L)
same_length [] = refl
same_length (e ∷ es) = ap suc (same_length es)

-- An op and the op turned inwards

pub small_outside : (o : Op) (r : Reply) → IssuesSmall (inward_op o) r → IssuesSmall o r
small_outside (op.ActionCreate job x cores) r h = h
small_outside (op.TaskStart job args priority cores detached group) r h = h
small_outside (op.TaskEnqueue q args cores detached group) r h = h
small_outside op.GroupCreate r h = h
small_outside (op.QueueCreate id job priority limit ordered retain) r h = h
small_outside (op.MutexCreate id recursive) r h = h
small_outside (op.SemCreate id limit) r h = h
small_outside (op.RwlCreate id limit) r h = h
small_outside (op.ShmemCreate id cells) r h = h
small_outside o r h = tt

-- What the callers see

layout_stays : (s : State) (L : List NodeEntry) → s.terms.layout ≡ Two → (after_from s L).terms.layout ≡ Two
unfolding after_from
layout_stays s [] two = two
layout_stays s (e ∷ es) two = layout_stays (next s e) es (ap (λ (t : Terms). t.layout) (all_stay (moves_of (row s e.who e.op e.reply)) s) ∙ two)

-- in the state that the callers see each handle names its kind
pub named : (t : Terms) (L : List NodeEntry) → t.layout ≡ Two → Named (after t (outer_entries L))
named t L two = history_named (opening t) (outer_entries L) two (opening_turns t).named

-- a reply of the node inside can be turned outwards
pub reply_small : (t : Terms) (L : List NodeEntry) (who : ℕ) (o : Op) (r : Reply) → t.layout ≡ Two → AllIssueSmall L → IssuesSmall o r
    → Legal (in_layout_one t) (inner_entries L ++ entry who (inward_op o) r ∷ []) → Legal (in_layout_one t) (inner_entries L) → IsSmall r
unfolding LegalFrom
reply_small t L who o r two small new l before =
    let last : IsNext (after (in_layout_one t) (inner_entries L)) (entry who (inward_op o) r) =
    (Legal-rest (opening (in_layout_one t)) (inner_entries L) (entry who (inward_op o) r ∷ []) l.from).0 in
    let leads : state_in_one (after t (outer_entries L)) ≡ after (in_layout_one t) (inner_entries L) = (history_turns t L two small before).leads in
    (step_turns (after t (outer_entries L)) who o r (layout_stays (opening t) (outer_entries L) two) (named t L two) new
    (subst (λ (s : State). Allows (row s who (inward_op o) r) r) (sym leads) last.allowed)).small

-- a Pending reply leaves the state as it was on both sides, or on none
pub pends_outside : (t : Terms) (L K : List NodeEntry) (who : ℕ) (o : Op) (b : Bool) → t.layout ≡ Two → outer_entries L ≡ K → AllIssueSmall L
    → Legal (in_layout_one t) (inner_entries L) → pends_alike (after (in_layout_one t) (inner_entries L)) who (inward_op o) ≡ b
    → pends_alike (after t K) who o ≡ b
pends_outside t L K who o b two seen small l e =
    ap (λ (l : List NodeEntry). pends_alike (after t l) who o) (sym seen)
    ∙ (sym (pends_turned (after t (outer_entries L)) who o (named t L two))
    ∙ (ap (λ (s : State). pends_alike s who (inward_op o)) (history_turns t L two small l).leads ∙ e))
