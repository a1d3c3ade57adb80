-- An entry whose op makes an object, where it is refused, and where there is no room.
use Rattle.journal_check.proofs.Names.{◌≡◌, ◌↔◌, ◌+◌, ◌≤◌, Bool, true, false, List, [], ◌∷◌, ◌++◌, Option, Some, None, refl, sym, ◌∙◌, ap, subst, arith, length, Decides, IsTrue, MatchBool, IsSome, length-append, ObjectKind, Terms, Op, Reply, Handle, State, opening, Allows, handle_of, NodeEntry, row_of, next, after, after-one, PoolNodeStands, Renaming, renamed, renamed_op, made_kind, limit_of, is_full_of, is_fresh_of, is_handle, made_in, Follows, refusal_of, CanAnswer, renaming_of, Following, TellsState, Laws, room_of, HasFollowed, Same, JudgesEntry, nat_tests, eqb-true, eq-eqb}
use Rattle.mtapi_values.specs.declared.handles.ObjectKind.TheVariants as kind
use Rattle.mtapi_machine.specs.declared.ops.Op.TheVariants as op
use Rattle.node_steps.specs.Stands.{terms_of}

-- the renamed op makes an object of the same kind
pub renamed_kind : (g : Renaming) (o : Op) → made_kind (renamed_op g o) ≡ made_kind o
renamed_kind g o = grind (arith, nat_tests)

pub makes_some : (g : Renaming) (o : Op) (k : ObjectKind) → made_kind o ≡ Some k → IsSome (made_kind (renamed_op g o))
makes_some g o k e = subst IsSome (sym (renamed_kind g o ∙ e)) refl

-- no limit is a handle
pub plain_limit : (k : ObjectKind) → is_handle (limit_of k) ≡ false
plain_limit k = grind (arith, nat_tests)

module _ (w : Laws) (f : Following) (e : NodeEntry) (k : ObjectKind) (makes : made_kind e.op ≡ Some k) where
  -- the node refuses its op as the state refuses the journal's
  pub refused_alike : (L : List NodeEntry) (h : HasFollowed f L) →
      refusal_of (after (terms_of f.node) h.node.own) e.who (renamed_op (renaming_of f.names) e.op) ≡ refusal_of (after f.terms L) e.who e.op
  refused_alike L h =
      ap (λ (t : State). refusal_of t e.who (renamed_op (renaming_of f.names) e.op)) h.node.renames
      ∙ w.refused (renaming_of f.names) (room_of f.terms) (after f.terms L) e.who e.op k h.follows makes

  pub refusal_here : (o : Option Reply) → ((K : List NodeEntry) → PoolNodeStands f.node K
      → refusal_of (after (terms_of f.node) K) e.who (renamed_op (renaming_of f.names) e.op) ≡ o) →
      (L : List NodeEntry) → HasFollowed f L → refusal_of (after f.terms L) e.who e.op ≡ o
  refusal_here o told L h = sym (refused_alike L h) ∙ told h.node.own h.node.stands

  -- what the op may answer
  pub told_here : (L : List NodeEntry) (o : Option Reply) → refusal_of (after f.terms L) e.who e.op ≡ o
      → Allows (row_of (after f.terms L) e) e.reply ↔ CanAnswer o k (after f.terms L) e.reply
  told_here L o i = subst (λ (p : Option Reply). Allows (row_of (after f.terms L) e) e.reply
      ↔ CanAnswer p k (after f.terms L) e.reply) i (w.told (after f.terms L) e.who e.op k e.reply makes)

  -- a follower that is as far judges the same
  pub judges_same : (g : Following) (b : Bool) → Same f g → JudgesEntry f e b f → JudgesEntry f e b g
  judges_same g b same j = record {
    terms = same.terms;
    exact = j.exact;
    goes_on = λ L h short p. same.there (L ++ e ∷ []) (j.goes_on L h short p);
  }

  pub judges_from : (g m : Following) (b : Bool) → Same f g → JudgesEntry g e b m → JudgesEntry f e b m
  judges_from g m b same j = record {
    terms = j.terms ∙ same.terms;
    exact = λ L h short. subst (λ (t : Terms). IsTrue b ↔ Allows (row_of (after t L) e) e.reply) same.terms (j.exact L (same.there L h) short);
    goes_on = λ L h short p. j.goes_on L (same.there L h) short p;
  }

  -- where nothing has changed, the follower is as far as before
  unmoved : (L : List NodeEntry) → HasFollowed f L → next (after f.terms L) e ≡ after f.terms L → HasFollowed f (L ++ e ∷ [])
  unmoved L h i =
      let a : after f.terms (L ++ e ∷ []) ≡ after f.terms L = after-one (opening f.terms) L e ∙ i in
      let l : length (L ++ e ∷ []) ≡ length L + 1 = length-append L (e ∷ []) in
      record {
        node = record {
          own = h.node.own;
          stands = h.node.stands;
          renames = h.node.renames ∙ ap (renamed (renaming_of f.names) (room_of f.terms)) (sym a);
          few = let b : length h.node.own ≤ length L = h.node.few in omega (arith, l, b);
        };
        terms = h.terms;
        follows = subst (λ (s : State). Follows (renaming_of f.names) s) (sym a) h.follows;
        made = subst (λ (s : State). TellsState f.made s) (sym a) h.made;
        few = λ k. let b : made_in k (after f.terms L) ≤ length L = h.few k in let c : made_in k (after f.terms (L ++ e ∷ [])) ≡ made_in k (after f.terms L) =
            ap (made_in k) a in omega (arith, l, b, c);
      }

  -- the one reply that is allowed is no handle, and so it changes nothing
  judged : (same : Bool) (wanted : Reply) → Decides same (e.reply ≡ wanted) → ((L : List NodeEntry) → HasFollowed f L → is_handle wanted ≡ false) →
      ((L : List NodeEntry) → HasFollowed f L → Allows (row_of (after f.terms L) e) e.reply ↔ (e.reply ≡ wanted)) → JudgesEntry f e same f
  judged same wanted d plain only = record {
    terms = refl;
    exact = λ L h short. (λ p. (only L h).1 (d.0 p), λ i. d.1 ((only L h).0 i));
    goes_on = λ L h short p.
        let i : e.reply ≡ wanted = d.0 p in
        unmoved L h (w.stay (after f.terms L) e.who e.op k e.reply makes ((only L h).1 i) (ap is_handle i ∙ plain L h));
  }

  -- refused
  pub judged_refused : (same : Bool) (wanted : Reply) → Decides same (e.reply ≡ wanted) →
      ((K : List NodeEntry) → PoolNodeStands f.node K → refusal_of (after (terms_of f.node) K) e.who (renamed_op (renaming_of f.names) e.op) ≡ Some wanted)
      → JudgesEntry f e same f
  judged_refused same wanted d told =
      judged same wanted d (λ L h. w.plain (after f.terms L) e.who e.op k wanted makes (refusal_here (Some wanted) told L h))
      (λ L h. told_here L (Some wanted) (refusal_here (Some wanted) told L h))

  module _ (accepted : (L : List NodeEntry) → HasFollowed f L → refusal_of (after f.terms L) e.who e.op ≡ None) where
    -- neither refused nor full
    abbrev Given : State → Type 0
    Given s = (is_fresh_of k s (handle_of e.reply) ≡ true) × (e.reply ≡ Handle (handle_of e.reply))

    pub by_room : (L : List NodeEntry) → HasFollowed f L → (b : Bool) → is_full_of k (after f.terms L) ≡ b
        → Allows (row_of (after f.terms L) e) e.reply ↔ MatchBool b (e.reply ≡ limit_of k) (Given (after f.terms L))
    by_room L h b i = subst (λ (c : Bool). Allows (row_of (after f.terms L) e) e.reply
        ↔ MatchBool c (e.reply ≡ limit_of k) (Given (after f.terms L))) i (told_here L None (accepted L h))

    -- full
    pub judged_full : (same : Bool) → Decides same (e.reply ≡ limit_of k) → ((L : List NodeEntry) → HasFollowed f L → is_full_of k (after f.terms L) ≡ true)
        → JudgesEntry f e same f
    judged_full same d full = judged same (limit_of k) d (λ L h. plain_limit k) (λ L h. by_room L h true (full L h))
