-- No handle is used again, and in layout two none names objects of two kinds.
use Rattle.history_law.proofs.Names.{nat_tests, ◌≡◌, ℕ, ◌+◌, ◌≤◌, Bool, true, false, cond, List, [], ◌∷◌, ◌++◌, refl, sym, ◌∙◌, ap, subst, arith, ◌==◌, eqb-true, eq-eqb, false_from_ne_true, true_from_ne_false, ObjectKind, Layout, Two, object_number, named_kind, names_kind, Terms, Op, Reply, Handle, Listed, listed, may_issue, issue, Objects, FieldsOf, objects_of, State, opening, Move, is_fresh, apply, Allows, live, after_row, row, NodeEntry, IsNext, next, LegalFrom, Legal, after_from, after, IsMade, Legal-front, Legal-rest, after-append, fst_true, snd_true, own_kind, at_opening, along, by_moves, rest_keeps, some_entry, times, is_live_object, is_this_handle, issues, NeverAgain, NotInBoth, released, Answers, after_moves, answered}
use Rattle.mtapi_values.specs.declared.handles.ObjectKind.TheVariants as kind
use Rattle.history_law.specs.Words.{makes_object}
use Rattle.mtapi_machine.specs.Answers as is
use Rattle.history_law.proofs.SeatMoves.{kept_without}
use Rattle.history_law.proofs.Ages.{SameFields, kind_move, listed_ages, Dead, dead_ages, dead_issue, dead_none, none_dead, live_listed}
use Rattle.history_law.proofs.Answered.{true_false, on_test}

-- A fresh handle is listed nowhere

pub unlisted_if : {T : Type 0} (o : Objects T) (s : State) (h : ℕ) → is_fresh o s h ≡ true → listed h (o.list s) ≡ 0
unfolding may_issue
unlisted_if o s h e = eqb-true (listed h (o.list s)) 0 (fst_true _ _ (fst_true _ _ (snd_true (names_kind s.terms.layout o.kind h) _ e)))

pub apart_if : {T : Type 0} (o : Objects T) (s : State) (h j : ℕ) → 1 ≤ listed h (o.list s) → is_fresh o s j ≡ true → (j == h) ≡ false
apart_if o s h j l e = grind (arith, nat_tests, false_from_ne_true, eqb-true, unlisted_if)

pub fresh_unlisted : (k : ObjectKind) (s : State) (h : ℕ) → is_fresh (objects_of k) s h ≡ true → times k h s ≡ 0
fresh_unlisted k s h e = unlisted_if (objects_of k) s h e

pub fresh_apart : (k : ObjectKind) (s : State) (h j : ℕ) → 1 ≤ times k h s → is_fresh (objects_of k) s j ≡ true → (j == h) ≡ false
fresh_apart k s h j l e = apart_if (objects_of k) s h j l e

pub listed_issue_some : {T : Type 0} (h j : ℕ) (x : T) (l : List (Listed T)) → 1 ≤ listed h l → 1 ≤ listed h (issue j x l)
unfolding listed issue
listed_issue_some h j x [] e = absurd (omega arith)
listed_issue_some h j x (r ∷ rs) e = grind (arith, nat_tests, listed_issue_some h j x rs)

-- What was issued stays listed, and what isn't live any more stays so

abbrev pub Listed1 : ObjectKind → ℕ → State → Type 0
Listed1 k h s = 1 ≤ times k h s

pub record Gone (k : ObjectKind) (h : ℕ) (l : List (Listed (FieldsOf k))) : Type 0 where
  pub some : 1 ≤ listed h l
  pub dead : Dead h l

pub listed_move : (k : ObjectKind) (h : ℕ) (s : State) (o : Op) (m : Move) → IsMade s o m → Listed1 k h s → Listed1 k h (apply m s)
listed_move k h s o m e v =
    kind_move k s o (λ l. 1 ≤ listed h l) (λ j x b i w. listed_issue_some h j x _ w)
    (λ l a w. subst (λ (n : ℕ). 1 ≤ n) (sym (listed_ages (SameFields k) h _ l a)) w) m e v

gone_move : (k : ObjectKind) (h : ℕ) (s : State) (o : Op) (m : Move) → IsMade s o m → Gone k h ((objects_of k).list s)
    → Gone k h ((objects_of k).list (apply m s))
gone_move k h s o m e v =
    kind_move k s o (Gone k h)
    (λ j x b i w. record { some = listed_issue_some h j x _ w.some; dead = dead_issue h j x _ (fresh_apart k s h j w.some i) w.dead })
    (λ l a w. record {
      some = subst (λ (n : ℕ). 1 ≤ n) (sym (listed_ages (SameFields k) h _ l a)) w.some;
      dead = dead_ages (SameFields k) h _ l a w.dead;
    }) m e v

-- An entry that issues a handle finds it unlisted

fresh_by : (k : ObjectKind) (s : State) (who : ℕ) (o : Op) (h : ℕ) (ms : List Move) → makes_object k o ≡ true → Answers s who o (Handle h) ms
    → is_fresh (objects_of k) s h ≡ true
fresh_by kind.Action s who _ _ _ e (is.creates_action job x cores h f) = f
fresh_by kind.Task s who _ _ _ e (is.starts job args priority cores detached group h f) = f.fresh
fresh_by kind.Task s who _ _ _ e (is.enqueues q args cores detached group h x d p f n) = f.fresh
fresh_by kind.Group s who _ _ _ e (is.creates_group h f) = f
fresh_by kind.Queue s who _ _ _ e (is.creates_queue id job priority limit ordered retain h n f) = f
fresh_by kind.Mutex s who _ _ _ e (is.creates_mutex id recursive h n f) = f
fresh_by kind.Sem s who _ _ _ e (is.creates_sem id limit h n f) = f
fresh_by kind.Rwl s who _ _ _ e (is.creates_rwl id limit h n f) = f
fresh_by kind.Shmem s who _ _ _ e (is.creates_segment id cells h n f) = f
fresh_by _ s who _ _ _ e _ = true_false e refl

issue_fresh : (k : ObjectKind) (s : State) (who : ℕ) (o : Op) (h : ℕ) → makes_object k o ≡ true → Allows (row s who o (Handle h)) (Handle h)
    → is_fresh (objects_of k) s h ≡ true
issue_fresh k s who o h e a = fresh_by k s who o h _ e (answered s who o (Handle h) a)

-- an entry that issues a handle has the row of this reply, so what holds after that row holds after the entry
pub issued_as : (k : ObjectKind) (h : ℕ) (s : State) (P : Op → State → Type 0)
    → ((who : ℕ) (o : Op) → makes_object k o ≡ true → Allows (row s who o (Handle h)) (Handle h) → P o (after_row s (row s who o (Handle h)))) → (e : NodeEntry)
    → IsNext s e → issues k h e ≡ true → P e.op (next s e)
issued_as k h s P e1 e e2 e3 = grind (arith, nat_tests)

pub issues_fresh : (k : ObjectKind) (s : State) (e : NodeEntry) (h : ℕ) → IsNext s e → issues k h e ≡ true → is_fresh (objects_of k) s h ≡ true
issues_fresh k s e h n i = issued_as k h s (λ o t. is_fresh (objects_of k) s h ≡ true) (λ who o. issue_fresh k s who o h) e n i

not_issued : (k : ObjectKind) (s : State) (e : NodeEntry) (h : ℕ) → IsNext s e → 1 ≤ times k h s → issues k h e ≡ false
not_issued k s e h n l = false_from_ne_true (issues k h e) (λ i. let none : times k h s ≡ 0 = fresh_unlisted k s h (issues_fresh k s e h n i) in omega arith)

pub listed_new : {T : Type 0} (h j : ℕ) (x : T) (l : List (Listed T)) → (j == h) ≡ false → listed h (issue j x l) ≡ listed h l
unfolding listed issue
listed_new h j x [] e = ap (λ (b : Bool). cond {A = ℕ} b 1 0 + 0) e
listed_new h j x (r ∷ rs) e = ap (λ (n : ℕ). cond {A = ℕ} (r.handle == h) 1 0 + n) (listed_new h j x rs e)

-- What is listed was issued by an entry

pub none_times : (k : ObjectKind) (h : ℕ) (terms : Terms) → times k h (opening terms) ≡ 0
unfolding listed
none_times k h terms = at_opening (λ T l. listed h l ≡ 0) (λ T. refl) terms k

-- an entry whose op makes no object of the kind lists none
listed_same : (k : ObjectKind) (h : ℕ) (s : State) (e : NodeEntry) → makes_object k e.op ≡ false → times k h (next s e) ≡ times k h s
listed_same k h s e z =
    by_moves (λ t. times k h t ≡ times k h s) s e
    (λ t m y w. kind_move k t e.op (λ l. listed h l ≡ times k h s) (λ j x b i u. true_false b z) (λ l a u. listed_ages (SameFields k) h _ l a ∙ u) m y w) refl

-- nor does one that answers with another handle, or with none
beside_issue : (k : ObjectKind) (h : ℕ) (s : State) (who : ℕ) (o : Op) (r : Reply) (ms : List Move) → makes_object k o ≡ true → is_this_handle h r ≡ false
    → Answers s who o r ms → times k h (after_moves ms s) ≡ times k h s
beside_issue kind.Action h s who _ _ _ e n (is.creates_action job x cores j f) = listed_new h j _ s.actions n
beside_issue kind.Task h s who _ _ _ e n (is.starts job args priority cores detached group j f) = listed_new h j _ s.tasks n
beside_issue kind.Task h s who _ _ _ e n (is.enqueues q args cores detached group j x d p f m) = listed_new h j _ s.tasks n
beside_issue kind.Group h s who _ _ _ e n (is.creates_group j f) = listed_new h j _ s.groups n
beside_issue kind.Queue h s who _ _ _ e n (is.creates_queue id job priority limit ordered retain j m f) = listed_new h j _ s.queues n
beside_issue kind.Mutex h s who _ _ _ e n (is.creates_mutex id recursive j m f) = listed_new h j _ s.mutexes n
beside_issue kind.Sem h s who _ _ _ e n (is.creates_sem id limit j m f) = listed_new h j _ s.sems n
beside_issue kind.Rwl h s who _ _ _ e n (is.creates_rwl id limit j m f) = listed_new h j _ s.rwls n
beside_issue kind.Shmem h s who _ _ _ e n (is.creates_segment id cells j m f) = listed_new h j _ s.segments n
beside_issue _ h s who _ _ _ e n (is.refuses o x y) = refl
beside_issue _ h s who _ _ _ e n (is.refuses_caller o x y) = refl
beside_issue _ h s who _ _ _ e n _ = true_false e refl

-- so no entry lists the handle but the one that issues it
unissued : (k : ObjectKind) (h : ℕ) (s : State) (e : NodeEntry) → IsNext s e → issues k h e ≡ false → times k h (next s e) ≡ times k h s
unissued k h s e i n = grind (arith, nat_tests, beside_issue k h s e.who e.op e.reply, answered s e.who e.op e.reply i.allowed, listed_same k h s e)

pub none_listed : (k : ObjectKind) (h : ℕ) (s : State) (L : List NodeEntry) → LegalFrom s L → times k h s ≡ 0 → some_entry (issues k h) L ≡ false
    → times k h (after_from s L) ≡ 0
none_listed k h s L legal z n = kept_without (issues k h) (λ t. times k h t ≡ 0) (λ t e i m v. unissued k h t e i m ∙ v) s L legal n z

pub was_issued : (k : ObjectKind) (h : ℕ) (terms : Terms) (L : List NodeEntry) → LegalFrom (opening terms) L → 1 ≤ times k h (after terms L)
    → some_entry (issues k h) L ≡ true
was_issued k h terms L legal n = true_from_ne_false (some_entry (issues k h) L) (λ i. let z : times k h (after terms L) ≡ 0 =
    none_listed k h (opening terms) L legal (none_times k h terms) i in omega arith)

-- The law

pub stays_gone : (k : ObjectKind) (h : ℕ) (s : State) (N : List NodeEntry) → LegalFrom s N → Gone k h ((objects_of k).list s)
    → Gone k h ((objects_of k).list (after_from s N)) × (some_entry (issues k h) N ≡ false)
unfolding LegalFrom after_from
stays_gone k h s [] l v = (v, refl)
stays_gone k h s (e ∷ es) l v =
    let rest = stays_gone k h (next s e) es l.1 (by_moves (λ t. Gone k h ((objects_of k).list t)) s e (λ t m y w. gone_move k h t e.op m y w) v) in
    (rest.0, ap (λ (b : Bool). cond b true (some_entry (issues k h) es)) (not_issued k s e h l.0 v.some) ∙ rest.1)

pub never_again : (terms : Terms) (es : List NodeEntry) (k : ObjectKind) (h : ℕ) → Legal terms es → NeverAgain terms es k h
never_again terms es k h legal P M N R cut live dead =
    let whole : LegalFrom (opening terms) ((P ++ M) ++ (N ++ R)) = subst (λ (L : List NodeEntry). LegalFrom (opening terms) L) cut legal.from in
    let behind : LegalFrom (after terms (P ++ M)) (N ++ R) = Legal-rest (opening terms) (P ++ M) (N ++ R) whole in
    let old : 1 ≤ times k h (after terms P) = live_listed h _ live in
    let still : 1 ≤ times k h (after_from (after terms P) M) = along (Listed1 k h) (λ o t m e. listed_move k h t o m e) (after terms P) M old in
    let some : 1 ≤ times k h (after terms (P ++ M)) = subst (λ (t : State). 1 ≤ times k h t) (sym (after-append (opening terms) P M)) still in
    let gone = stays_gone k h (after terms (P ++ M)) N (Legal-front _ N R behind) (record { some = some; dead = none_dead h _ dead }) in record {
      dead = ap (λ (t : State). is_live_object k h t) (after-append (opening terms) (P ++ M) N) ∙ dead_none h _ gone.0.dead;
      none = gone.1;
    }

-- The kinds in layout two

record Named (T : Terms) (k : ObjectKind) (h : ℕ) (s : State) : Type 0 where
  terms : s.terms ≡ T
  named : 1 ≤ times k h s → names_kind T.layout (objects_of k).kind h ≡ true

terms_move : (T : Terms) (s : State) (m : Move) → s.terms ≡ T → (apply m s).terms ≡ T
terms_move T s released v = v
terms_move T s x v = rest_keeps (λ t. t.terms ≡ T) (λ t g q m c r y p. p) x s v

named_move : (T : Terms) (k : ObjectKind) (h : ℕ) (s : State) (o : Op) (m : Move) → IsMade s o m → Named T k h s → Named T k h (apply m s)
named_move T k h s o m e v = record {
  terms = terms_move T s m v.terms;
  named = kind_move k s o (λ l. 1 ≤ listed h l
      → names_kind T.layout (objects_of k).kind h
      ≡ true) (λ j x b i w. by_new j x i w (j == h) refl) (λ l a w u. w (subst (λ (n : ℕ). 1 ≤ n) (listed_ages (SameFields k) h _ l a) u)) m e v.named;
}
  where
    by_new : (j : ℕ) (x : FieldsOf k) → is_fresh (objects_of k) s j ≡ true → (1 ≤ times k h s → names_kind T.layout (objects_of k).kind h ≡ true) → (b : Bool)
        → (j == h) ≡ b
        → 1 ≤ listed h (issue j x ((objects_of k).list s)) → names_kind T.layout (objects_of k).kind h ≡ true
    by_new j x i w true c u = grind (arith, nat_tests, eqb-true j, names_kind, objects_of, fst_true, may_issue)
    by_new j x i w false c u = w (subst (λ (n : ℕ). 1 ≤ n) (listed_new h j x _ c) u)

named_after : (terms : Terms) (es : List NodeEntry) (k : ObjectKind) (h : ℕ) → terms.layout ≡ Two → 1 ≤ times k h (after terms es)
    → named_kind h ≡ object_number k
named_after terms es k h two l =
    let start : Named terms k h (opening terms) =
    record { terms = refl; named = λ u. let z : times k h (opening terms) ≡ 0 = none_times k h terms in absurd (omega arith) } in
    let end : Named terms k h (after terms es) = along (Named terms k h) (λ o t m e. named_move terms k h t o m e) (opening terms) es start in
    let n : names_kind Two k h ≡ true = subst (λ (x : ObjectKind). names_kind Two x h
    ≡ true) (own_kind k) (subst (λ (x : Layout). names_kind x (objects_of k).kind h ≡ true) two (end.named l)) in
    eqb-true (named_kind h) (object_number k) n

names_two : (T : Terms) (k : ObjectKind) (h : ℕ) (s : State) → s.terms ≡ T → T.layout ≡ Two → is_fresh (objects_of k) s h ≡ true
    → named_kind h ≡ object_number k
names_two T k h s same two e = grind (arith, nat_tests, names_kind, objects_of, fst_true, may_issue, own_kind)

pub terms_next : (T : Terms) (s : State) (e : NodeEntry) → s.terms ≡ T → (next s e).terms ≡ T
terms_next T s e v = by_moves (λ t. t.terms ≡ T) s e (λ t m y w. terms_move T t m w) v

-- an entry that issues a handle in layout two issues one that names the kind
issued_names : (T : Terms) (k : ObjectKind) (h : ℕ) (s : State) (L : List NodeEntry) → s.terms ≡ T → T.layout ≡ Two → LegalFrom s L
    → some_entry (issues k h) L ≡ true → named_kind h ≡ object_number k
unfolding LegalFrom
issued_names T k h s [] same two l i = absurd (cc)
issued_names T k h s (e ∷ es) same two l i = on_test (λ b. cond b true (some_entry (issues k h) es) ≡ true → named_kind h ≡ object_number k) (issues k h e)
    (λ j c. names_two T k h s same two (issues_fresh k s e h l.0 j))
    (λ d c. issued_names T k h (next s e) es (terms_next T s e same) two l.1 c) i

pub not_in_both : (terms : Terms) (es : List NodeEntry) (a b : ObjectKind) (h : ℕ) → Legal terms es → NotInBoth terms.layout terms es a b h
not_in_both terms es a b h legal two apart =
    grind (arith, nat_tests, eq-eqb (object_number a), named_after terms es a h, named_after terms es b h, issued_names terms a h, issued_names terms b h)
