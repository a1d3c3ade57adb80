-- A node goes on with the list that its callers see, as the node inside goes on with what it saw.
use Rattle.node_core.proofs.Names.{nat_tests, ◌≡◌, ℕ, ◌<◌, Bool, List, [], ◌∷◌, ◌++◌, length, Option, refl, sym, ◌∙◌, ap, subst, arith, entry, NodeSettings, One, Two, Terms, Op, Reply, NodeEntry, Legal, after, pends_alike, ObjectKind, inward_op, answered_kind, outward, outward_reply, IssuesSmall, IsSmall, inner_entries, outer_entries, AllIssueSmall, history_turns, Node, NodeStands, terms_of_node}
use Rattle.node_steps.specs.Stands.{PoolNodeStands as StandsInside, terms_of as terms_inside}
use Rattle.node_core.proofs.Outside.{inner_append, outer_append, small_append, same_length, small_outside, reply_small, pends_outside}

-- what callers see of a history of the node inside is legal
seen_legal : (n : Node) (L entries : List NodeEntry) → outer_entries entries ≡ L → AllIssueSmall entries → StandsInside n.inner (inner_entries entries)
    → Legal (terms_of_node n) L
seen_legal n L entries seen small inside = subst (Legal (terms_of_node n)) seen (history_turns (terms_of_node n) entries refl small inside.legal).legal

pub new_node : (n : Node) → StandsInside n.inner [] → NodeStands n []
new_node n s = record { entries = []; seen = refl; small = tt; inside = s; legal = seen_legal n [] [] refl tt s }

pub same_terms : (n m : Node) → terms_inside m.inner ≡ terms_inside n.inner → terms_of_node m ≡ terms_of_node n
same_terms n m e = ap (λ (t : Terms). record t { layout = Two }) e

-- the node inside has room for one more op
pub room_inside : (n : Node) (k : ℕ) → ((L : List NodeEntry) × NodeStands n L × (length L < k)) → (L : List NodeEntry) × StandsInside n.inner L × (length L < k)
room_inside n k x = grind (arith, nat_tests, same_length)

-- one more entry: the node inside was asked the op turned inwards, and its reply is turned outwards
module _ (n m : Node) (L : List NodeEntry) (who : ℕ) (o p : Op) (k : Option ObjectKind) (r out : Reply) (st : NodeStands n L) (inward : p
    ≡ inward_op o) (kind : k
    ≡ answered_kind o) where
  pub goes_on : terms_of_node m ≡ terms_of_node n → ((K : List NodeEntry) → StandsInside n.inner K → StandsInside m.inner (K ++ entry who p r ∷ []))
      → IssuesSmall p r
      → (IsSmall r → out ≡ outward k r) → NodeStands m (L ++ entry who o out ∷ [])
  goes_on same goes small is = record {
    entries = entries;
    seen = seen;
    small = all_small;
    inside = stands;
    legal = seen_legal m (L ++ entry who o out ∷ []) entries seen all_small stands;
  }
    where
      entries : List NodeEntry
      entries = st.entries ++ entry who o r ∷ []

      new : IssuesSmall o r
      new = small_outside o r (subst (λ (x : Op). IssuesSmall x r) inward small)

      inside : StandsInside m.inner (inner_entries st.entries ++ entry who (inward_op o) r ∷ [])
      inside = subst (λ (x : Op). StandsInside m.inner (inner_entries st.entries ++ entry who x r ∷ [])) inward (goes (inner_entries st.entries) st.inside)

      legal : Legal (terms_inside n.inner) (inner_entries st.entries ++ entry who (inward_op o) r ∷ [])
      legal = subst (λ (t : Terms). Legal (record t { layout = One }) (inner_entries st.entries ++ entry who (inward_op o) r ∷ [])) same inside.legal

      turned : out ≡ outward_reply o r
      turned = is (reply_small (terms_of_node n) st.entries who o r refl st.small new legal st.inside.legal) ∙ ap (λ (x : Option ObjectKind). outward x r) kind

      seen : outer_entries entries ≡ L ++ entry who o out ∷ []
      seen = outer_append st.entries (entry who o r ∷ []) ∙ (λ i. st.seen i ++ entry who o (sym turned i) ∷ [])

      all_small : AllIssueSmall entries
      all_small = small_append st.entries (entry who o r ∷ []) st.small (new, tt)

      stands : StandsInside m.inner (inner_entries entries)
      stands = subst (StandsInside m.inner) (sym (inner_append st.entries (entry who o r ∷ []))) inside

-- a Pending reply leaves the state as it was, where it does so inside
pub pends_alike_so : (n : Node) (L : List NodeEntry) (who : ℕ) (o p : Op) (b : Bool) → NodeStands n L → p ≡ inward_op o
    → ((K : List NodeEntry) → StandsInside n.inner K → pends_alike (after (terms_inside n.inner) K) who p ≡ b)
    → pends_alike (after (terms_of_node n) L) who o ≡ b
pends_alike_so n L who o p b st inward is = grind (arith, nat_tests, pends_outside, terms_of_node, after)
