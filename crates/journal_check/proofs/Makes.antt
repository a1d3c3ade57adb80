-- An entry whose op makes an object.
use Rattle.journal_check.proofs.Names.{◌≡◌, ◌↔◌, ℕ, ◌+◌, ◌≤◌, ◌<◌, Bool, true, false, cond, List, [], ◌∷◌, ◌++◌, Option, Some, None, refl, sym, ◌∙◌, ap, subst, arith, length, MatchBool, eqb-true, eq-eqb, ◌==◌, ◌&&◌, nat_le, nat_tests, ObjectKind, names_kind, slot_of, generation_of, entry, Terms, Op, Reply, Handle, State, Allows, after_row, handle_of, row, NodeEntry, row_of, next, after, PoolNode, PoolNodeStands, OtherHandles, Renaming, with_pair, renamed, Follows, renamed_op, made_kind, limit_of, CanBe, live_in, is_full_of, is_fresh_of, CreateRenames, made_in, made_at, most_of, is_next_of, MakesOne, refusal_of, CanAnswer, lasts_of, gone_of, with_last_handle, MakesLast, gone_in, taken_in, AreGone, renaming_of, Following, Made, MadeOfKind, made_in_slot, last_handles, made_count, gone_count, freed_count, of_kind, NotesObject, TellsState, Laws, last_generation, room_of, HasFollowed, JudgesEntry}
use Rattle.mtapi_machine.proofs.Made.{snd_true}
use Rattle.node_steps.specs.Stands.{terms_of}
use Rattle.journal_check.proofs.Goes.{node_allows, mirrors_on, followed_on}
use Rattle.journal_check.proofs.Creates.{renamed_kind, by_room}
use Rattle.journal_check.proofs.EachKind.{by_kind, made-renamed, most-renamed}
use Rattle.journal_check.proofs.Ends.{gone_on, freed_on}

-- where fewer are live or retired than there may be, fewer are live
fewer_live : (alive retired most : ℕ) → alive + retired ≤ most → (alive + retired == most) ≡ false → (alive == most) ≡ false
fewer_live alive retired most within e = grind (arith, nat_tests)

-- the generation of the next handle of a slot
generation_next : (k : ObjectKind) (s : State) (h : ℕ) → is_next_of k s h ≡ true → generation_of h ≡ made_at k s h + 1
generation_next k s h e = grind (arith, nat_tests, snd_true)

-- the new object is told with what was made before
module _ {m n : Made} {s t : State} {k : ObjectKind} {h : ℕ} (told : TellsState m s) (one : MakesOne s t k h) (last : MakesLast s t k h)
    (notes : NotesObject k s.terms.settings.generations h m n) (generation : generation_of h ≡ made_at k s h + 1)
    (gone : (i : ObjectKind) → AreGone s t i 0 0) where
  count_here : (j : ℕ) → made_in_slot (of_kind n k) (slot_of j) ≡ made_at k t j
  count_here j = grind (arith, nat_tests, one.slot j, told.counts k h, told.counts k j, notes.one.counts (slot_of j))

  pub tells_one : TellsState n t
  tells_one = record {
    counts = by_kind (λ (i : ObjectKind). (j : ℕ) → made_in_slot (of_kind n i) (slot_of j) ≡ made_at i t j) k count_here
        (λ i ne j. ap (λ (x : MadeOfKind). made_in_slot x (slot_of j)) (notes.others i ne) ∙ told.counts i j ∙ sym (one.other_slots i ne j));
    lasts = by_kind (λ (i : ObjectKind). last_handles (of_kind n i) ≡ lasts_of i t) k
        (notes.one.lasts ∙ ap (with_last_handle s.terms.settings.generations h) (told.lasts k) ∙ sym last.one)
        (λ i ne. ap last_handles (notes.others i ne) ∙ told.lasts i ∙ sym (last.others i ne));
    made = by_kind (λ (i : ObjectKind). made_count (of_kind n i) ≡ made_in i t) k
        (notes.one.made ∙ ap (λ (c : ℕ). c + 1) (told.made k) ∙ sym one.one)
        (λ i ne. ap made_count (notes.others i ne) ∙ told.made i ∙ sym (one.others i ne));
    gone = by_kind (λ (i : ObjectKind). gone_count (of_kind n i)
        ≤ gone_in i t) k (subst (λ (c : ℕ). c ≤ gone_in k t) (sym notes.one.gone) (gone_on (gone k) (gone_count (of_kind m k)) (told.gone k)))
        (λ i ne. subst (λ (x : MadeOfKind). gone_count x ≤ gone_in i t) (sym (notes.others i ne)) (gone_on (gone i) (gone_count (of_kind m i)) (told.gone i)));
    freed = by_kind (λ (i : ObjectKind). freed_count (of_kind n i) + taken_in i t
        ≤ made_in i t) k (subst (λ (c : ℕ). c + taken_in k t
        ≤ made_in k t) (sym notes.one.freed) (freed_on (gone k) (freed_count (of_kind m k)) (told.freed k)))
        (λ i ne. subst (λ (x : MadeOfKind). freed_count x + taken_in i t
        ≤ made_in i t) (sym (notes.others i ne)) (freed_on (gone i) (freed_count (of_kind m i)) (told.freed i)));
  }

pub few_one : {s t : State} {k : ObjectKind} {h c : ℕ} → MakesOne s t k h → ((i : ObjectKind) → made_in i s ≤ c) → (i : ObjectKind) → made_in i t ≤ c + 1
few_one {s} {t} {k} {h} {c} one few = by_kind (λ (i : ObjectKind). made_in i t
    ≤ c + 1) k (omega (arith, one.one, few k)) (λ i ne. omega (arith, one.others i ne, few i))

module _ (w : Laws) (f : Following) (e : NodeEntry) (k : ObjectKind) (makes : made_kind e.op ≡ Some k)
    (accepted : (L : List NodeEntry) → HasFollowed f L → refusal_of (after f.terms L) e.who e.op ≡ None)
    (more : (L : List NodeEntry) → HasFollowed f L → is_full_of k (after f.terms L) ≡ false) where
  abbrev g : Renaming
  g = renaming_of f.names

  abbrev asked : Op
  asked = renamed_op g e.op

  -- what is allowed: any handle that may be given
  pub given_here : (L : List NodeEntry) → HasFollowed f L
      → Allows (row_of (after f.terms L) e) e.reply ↔ ((is_fresh_of k (after f.terms L) (handle_of e.reply) ≡ true) × (e.reply ≡ Handle (handle_of e.reply)))
  given_here L h = by_room w f e k makes accepted L h false (more L h)

  -- the reply isn't allowed
  pub judged_never : (m : PoolNode) → ((L : List NodeEntry) → HasFollowed f L → length L < last_generation → Allows (row_of (after f.terms L) e) e.reply → ⊥)
      → JudgesEntry f e false (record f { node = m })
  judged_never m never = record {
    terms = refl;
    exact = λ L h short. (λ p. absurd (cc), λ i. absurd (never L h short i));
    goes_on = λ L h short p. absurd (cc);
  }

  pub judged_other : ((h : ℕ) → e.reply ≡ Handle h → ⊥) → JudgesEntry f e false f
  judged_other other = judged_never f.node (λ L h short i. other (handle_of e.reply) ((given_here L h).0 i).1)

  module _ (handle : ℕ) (is : e.reply ≡ Handle handle) where
    fresh_here : (L : List NodeEntry) → is_fresh_of k (after f.terms L) (handle_of e.reply) ≡ is_next_of k (after f.terms L) handle
    fresh_here L = ap (λ (r : Reply). is_fresh_of k (after f.terms L) (handle_of r)) is ∙ w.fresh f.terms L k handle

    pub judged_stale : ((L : List NodeEntry) → HasFollowed f L → is_next_of k (after f.terms L) handle ≡ false) → JudgesEntry f e false f
    judged_stale stale = judged_never f.node (λ L h short i. let a = ((given_here L h).0 i).0 in let b = fresh_here L in let d = stale L h in absurd (cc))

    module _ (fresh : (L : List NodeEntry) → HasFollowed f L
        → is_next_of k (after f.terms L) handle ≡ true) (m : PoolNode) (terms : terms_of m ≡ terms_of f.node) where
      -- the node has room
      room_there : (L : List NodeEntry) (h : HasFollowed f L) → length L < last_generation
          → is_full_of k (renamed g (room_of f.terms) (after f.terms L)) ≡ false
      room_there L h short =
          let s = after f.terms L in
          let there = renamed g (room_of f.terms) s in
          let full : made_in k there < there.terms.settings.generations → is_full_of k there ≡ (live_in k there == most_of k there) =
          subst (λ (t : State). made_in k t < t.terms.settings.generations
          → is_full_of k t ≡ (live_in k t == most_of k t)) h.node.renames (w.full (terms_of f.node) h.node.own k) in
          let made : made_in k there ≡ made_in k s = made-renamed k g (room_of f.terms) s in
          let few : made_in k s ≤ length L = h.few k in
          let less : made_in k there < last_generation = omega (arith, made, few, short) in
          let alive : live_in k there ≡ live_in k s = (w.live g (room_of f.terms) s k h.follows).count in
          let most : most_of k there ≡ most_of k s = most-renamed k g f.terms s (w.terms f.terms L) in
          full less ∙ ap (λ (n : ℕ). n == most_of k there) alive ∙ ap (λ (n : ℕ). live_in k s == n) most
          ∙ fewer_live (live_in k s) (gone_of k s (lasts_of k s)) (most_of k s) (w.kept f.terms L k) (sym (w.room f.terms L k) ∙ more L h)

      module _ (given : Reply) (stands : (L : List NodeEntry) → PoolNodeStands f.node L → PoolNodeStands m (L ++ entry e.who asked given ∷ [])) where
        answered : (L : List NodeEntry) (h : HasFollowed f L) → Allows (row (renamed g (room_of f.terms) (after f.terms L)) e.who asked given) given
        answered L h = subst (λ (u : State). Allows (row u e.who asked given) given) h.node.renames
            (node_allows f.node m h.node.own e.who asked given terms (stands h.node.own h.node.stands))

        -- and so it has made an object
        node_makes : (L : List NodeEntry) (h : HasFollowed f L) → length L < last_generation → given ≡ Handle (handle_of given)
        node_makes L h short =
            let there = renamed g (room_of f.terms) (after f.terms L) in
            let none : refusal_of there e.who asked ≡ None = w.refused g (room_of f.terms) (after f.terms L) e.who e.op k h.follows makes ∙ accepted L h in
            let can : CanAnswer (refusal_of there e.who asked) k there given =
            (w.told there e.who asked k given (renamed_kind g e.op ∙ makes)).0 (answered L h) in
            let be : CanBe k there given = subst (λ (o : Option Reply). CanAnswer o k there given) none can in
            (subst (λ (b : Bool). MatchBool b (given ≡ limit_of k) ((is_fresh_of k there (handle_of given) ≡ true) × (given ≡ Handle (handle_of given))))
            (room_there L h short) be).1

        pub judged_idle : ((h : ℕ) → given ≡ Handle h → ⊥) → JudgesEntry f e false (record f { node = m })
        judged_idle other = judged_never m (λ L h short i. other (handle_of given) (node_makes L h short))

      module _ (other : ℕ) (stands : (L : List NodeEntry) → PoolNodeStands f.node L
          → PoolNodeStands m (L ++ entry e.who asked (Handle other) ∷ [])) (names : OtherHandles) (made : Made)
          (pair : renaming_of names ≡ with_pair k handle other g) (notes : NotesObject k f.terms.settings.generations handle f.made made) where
        goes : (L : List NodeEntry) (h : HasFollowed f L) → HasFollowed (record { terms = f.terms; node = m; names = names; made = made }) (L ++ e ∷ [])
        goes L h =
            let s = after f.terms L in
            let x = room_of f.terms in
            let next_is : next s e ≡ after_row s (row s e.who e.op (Handle handle)) = ap (λ (r : Reply). after_row s (row s e.who e.op r)) is in
            let here : Allows (row s e.who e.op (Handle handle)) (Handle handle) =
            subst (λ (r : Reply). Allows (row s e.who e.op r) r) is ((given_here L h).1 (
              fresh_here L ∙ fresh L h,
              is
                  ∙ ap (λ (r : Reply). Handle (handle_of r)) (sym is),
            )) in
            let there = answered (Handle other) stands L h in
            let makes_pair : CreateRenames g x s e.who e.op k handle other = w.created g x s e.who e.op k handle other h.follows makes in
            let one : MakesOne s (next s e) k handle = subst (λ (t : State). MakesOne s t k handle) (sym next_is) (w.one s e.who e.op k handle makes here) in
            let last : MakesLast s (next s e) k handle =
            subst (λ (t : State). MakesLast s t k handle) (sym next_is) (w.last s e.who e.op k handle makes here) in
            let noted : NotesObject k s.terms.settings.generations handle f.made made =
            subst (λ (t : Terms). NotesObject k t.settings.generations handle f.made made) (sym (w.terms f.terms L)) notes in
            followed_on f.terms m names made L e
            (mirrors_on {g = g} {h = renaming_of names} {s = s} {t = next s e} h.node e.who asked (Handle other) terms (stands h.node.own h.node.stands)
            (sym (makes_pair.leads here there) ∙ ap (renamed (with_pair k handle other g) x) (sym next_is)
            ∙ ap (λ (p : Renaming). renamed p x (next s e)) (sym pair)))
            (terms ∙ h.terms)
            (subst (λ (p : Renaming). Follows p (next s e)) (sym pair)
            (subst (λ (t : State). Follows (with_pair k handle other g) t) (sym next_is) (makes_pair.follows here there)))
            (tells_one h.made one last noted (generation_next k s handle (fresh L h)) (λ i. w.gone_stay f.terms L e i))
            (few_one one h.few)

        pub judged_made : JudgesEntry f e true (record { terms = f.terms; node = m; names = names; made = made })
        judged_made = record {
          terms = refl;
          exact = λ L h short. (λ p. (given_here L h).1 (fresh_here L ∙ fresh L h, is ∙ ap (λ (r : Reply). Handle (handle_of r)) (sym is)), λ i. refl);
          goes_on = λ L h short p. goes L h;
        }
