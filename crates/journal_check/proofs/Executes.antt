-- An entry whose op makes nothing.
use Rattle.journal_check.proofs.Names.{◌≡◌, ℕ, ◌≤◌, Bool, true, false, List, [], ◌∷◌, ◌++◌, Option, None, length, refl, sym, ◌∙◌, subst, arith, Decides, ObjectKind, entry, Op, Reply, Picked, State, Allows, after_row, row, NodeEntry, row_of, next, after, PoolNode, PoolNodeStands, Renaming, renamed, renamed_op, renamed_answer, renamed_reply, made_kind, takes_task, StepRenames, made_in, MakesNone, AreGone, renaming_of, Following, gone_count, freed_count, of_kind, TellsState, Laws, room_of, HasFollowed, JudgesEntry, nat_tests, eqb-true, eq-eqb}
use Rattle.mtapi_machine.specs.declared.ops.Op.TheVariants.{Pick}
use Rattle.node_steps.specs.Stands.{terms_of}
use Rattle.journal_check.proofs.Goes.{node_allows, mirrors_on, followed_on}
use Rattle.journal_check.proofs.Ends.{gone_on, freed_on}

-- the renaming leaves whether a worker takes a task
takes_op : (g : Renaming) (o : Op) (r : Reply) → takes_task (renamed_op g o) r ≡ takes_task o r
takes_op g o r = grind (arith, nat_tests)

takes_answer : (g : Renaming) (k : Option ObjectKind) (o : Op) (r : Reply) → takes_task o (renamed_answer g k r) ≡ takes_task o r
takes_answer g k o r = grind (arith, nat_tests)

-- where a worker may take some task, what else it may be told is that it takes one
takes : (w : Laws) (s : State) (who : ℕ) (o : Op) (given r : Reply) → takes_task o given ≡ true → Allows (row s who o given) given → Allows (row s who o r) r
    → takes_task o r ≡ true
takes w s who o given r e i j = grind (arith, nat_tests, w.picks s who)

-- what was made stays told where nothing is made
pub tells_none : (w : Laws) (f : Following) (s : State) (who : ℕ) (o : Op) (r : Reply) → made_kind o ≡ None
    → ((k : ObjectKind) → AreGone s (after_row s (row s who o r)) k 0 0) → TellsState f.made s →
    TellsState f.made (after_row s (row s who o r))
tells_none w f s who o r idle gone t =
    let none : MakesNone s (after_row s (row s who o r)) = w.none s who o r idle in
    record {
      counts = λ k h. t.counts k h ∙ sym (none.slots k h);
      lasts = λ k. t.lasts k ∙ sym (w.lasts s who o r k idle);
      made = λ k. t.made k ∙ sym (none.counts k);
      gone = λ k. gone_on (gone k) (gone_count (of_kind f.made k)) (t.gone k);
      freed = λ k. freed_on (gone k) (freed_count (of_kind f.made k)) (t.freed k);
    }

module _ (w : Laws) (f : Following) (e : NodeEntry) (m : PoolNode) (given : Reply) (idle : made_kind e.op ≡ None) where
  abbrev g : Renaming
  g = renaming_of f.names

  abbrev asked : Op
  asked = renamed_op g e.op

  abbrev told : Reply
  told = renamed_reply g e.op e.reply

  module _ (terms : terms_of m ≡ terms_of f.node)
      (stands : (L : List NodeEntry) → PoolNodeStands f.node L → PoolNodeStands m (L ++ entry e.who asked given ∷ []))
      (toward : (L : List NodeEntry) → PoolNodeStands f.node L → takes_task asked told ≡ true → Allows (row (after (terms_of f.node) L) e.who asked told) told
      → given ≡ told) where
    module _ (L : List NodeEntry) (h : HasFollowed f L) where
      abbrev s : State
      s = after f.terms L

      abbrev other : State
      other = renamed g (room_of f.terms) s

      step : StepRenames g (room_of f.terms) s e.who e.op e.reply
      step = w.steps g (room_of f.terms) s e.who e.op e.reply h.follows idle

      answered : Allows (row other e.who asked given) given
      answered = subst (λ (u : State). Allows (row u e.who asked given) given) h.node.renames
          (node_allows f.node m h.node.own e.who asked given terms (stands h.node.own h.node.stands))

      same : Allows (row_of s e) e.reply → told ≡ given
      same i = by_told (takes_task asked told) refl
        where
          there : Allows (row other e.who asked told) told
          there = step.allowed.0 i

          by_given : takes_task asked told ≡ false → (b : Bool) → takes_task asked given ≡ b → told ≡ given
          by_given not_told true d = let t : takes_task asked told ≡ true = takes w other e.who asked given told d answered there in absurd (cc)
          by_given not_told false d =
              (w.decided g (room_of f.terms) s e.who e.op given e.reply h.follows idle
              (sym (takes_op g e.op given) ∙ d) (sym (takes_answer g _ e.op e.reply) ∙ sym (takes_op g e.op told) ∙ not_told) answered).0 i

          by_told : (b : Bool) → takes_task asked told ≡ b → told ≡ given
          by_told true d = sym (toward h.node.own h.node.stands d (subst (λ (u : State). Allows (row u e.who asked told) told) (sym h.node.renames) there))
          by_told false d = by_given d (takes_task asked given) refl

      allowed : told ≡ given → Allows (row_of s e) e.reply
      allowed i = step.allowed.1 (subst (λ (r : Reply). Allows (row other e.who asked r) r) (sym i) answered)

      goes : told ≡ given → HasFollowed (record f { node = m }) (L ++ e ∷ [])
      goes i =
          let a = allowed i in
          let none : MakesNone s (next s e) = w.none s e.who e.op e.reply idle in
          followed_on f.terms m f.names f.made L e
          (mirrors_on {g = g} {h = g} {s = s} {t = next s e} h.node e.who asked given terms (stands h.node.own h.node.stands)
          (subst (λ (r : Reply). after_row other (row other e.who asked r) ≡ renamed g (room_of f.terms) (next s e)) i (sym (step.leads a))))
          (terms ∙ h.terms) (step.follows a) (tells_none w f s e.who e.op e.reply idle (λ k. w.gone_stay f.terms L e k) h.made)
          (λ k. let c : made_in k (next s e) ≡ made_in k s = none.counts k in let d : made_in k s ≤ length L = h.few k in omega (arith, c, d))

    pub executed : (b : Bool) → Decides b (told ≡ given) → JudgesEntry f e b (record f { node = m })
    executed b d = record {
      terms = refl;
      exact = λ L h short. (λ p. allowed L h (d.0 p), λ i. d.1 (same L h i));
      goes_on = λ L h short p. goes L h (d.0 p);
    }
