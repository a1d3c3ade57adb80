-- After a legal history the ends that are seen by the entries are those in the records of the last state.
use Rattle.run_report.proofs.Names.{nat_tests, ◌≡◌, ℕ, ◌+◌, ◌<◌, length, get_or, take, List, [], ◌∷◌, ◌++◌, refl, arith, take_at_read, listed, live_of, State, opening, end_at, NodeEntry, next, LegalFrom, Legal, after_from, after, effect_of, SeenRun, FollowsSeen, unstarted_at, with_effect, nothing_seen, seen_from, SameAs}
use Rattle.mtapi_machine.specs.declared.terms.Terms.{Terms}
use Rattle.run_report.proofs.Sound.{Sound, sound_next}
use Rattle.run_report.proofs.Rows.{follows_next}

follows_from : (n : ℕ) (v : SeenRun) (s : State) (L : List NodeEntry) → LegalFrom s L → Sound n s → FollowsSeen v s
    → FollowsSeen (seen_from n v L) (after_from s L)
unfolding LegalFrom after_from seen_from
follows_from n v s [] h i f = f
follows_from n v s (e ∷ L) h i f = follows_from n (with_effect n (effect_of e.op e.reply) v) (next s e) L h.1 (sound_next n s e i)
    (follows_next n v s e h.0 i f)

pub ends_by_entries : (terms : Terms) (L : List NodeEntry) → Legal terms L → (h : ℕ)
    → (seen_from terms.settings.workers nothing_seen L).ends h ≡ end_at (after terms L).tasks h
unfolding listed live_of end_at unstarted_at
ends_by_entries terms L legal h =
    (follows_from terms.settings.workers nothing_seen (opening terms) L legal.from (record { once = λ k. omega arith; distinct = tt; workers = refl })
    (record { ends = λ k. refl; unstarted = λ k. refl; actions = refl; queues = λ k. refl })).ends h

-- The same is seen

pub same_path : (v w : SeenRun) → SameAs v w → v ≡ w
same_path v w s = λ i. record { ends = λ h. s.ends h i; unstarted = λ h. s.unstarted h i; actions = s.actions i; queues = λ h. s.queues h i }

pub path_same : (v w : SeenRun) → v ≡ w → SameAs v w
path_same v w e = record { ends = λ h i. (e i).ends h; unstarted = λ h i. (e i).unstarted h; actions = λ i. (e i).actions; queues = λ h i. (e i).queues h }

-- One more entry of a list

pub seen_more : (n : ℕ) (v : SeenRun) (L : List NodeEntry) (e : NodeEntry)
    → seen_from n v (L ++ e ∷ []) ≡ with_effect n (effect_of e.op e.reply) (seen_from n v L)
unfolding seen_from
seen_more n v [] e = refl
seen_more n v (x ∷ L) e = seen_more n (with_effect n (effect_of x.op x.reply) v) L e

pub seen_none : (n : ℕ) (v : SeenRun) → SameAs v nothing_seen → SameAs v (seen_from n nothing_seen [])
unfolding seen_from
seen_none n v s = s

pub seen_next : (n i : ℕ) (L : List NodeEntry) (e : NodeEntry) (old new : SeenRun) → i < length L → e ≡ get_or L i e
    → SameAs old (seen_from n nothing_seen (take i L))
    → SameAs new (with_effect n (effect_of e.op e.reply) old) → SameAs new (seen_from n nothing_seen (take (i + 1) L))
seen_next n i L e old new e1 e2 e3 e4 = grind (arith, nat_tests, take_at_read, path_same, same_path, with_effect, effect_of, seen_more)
