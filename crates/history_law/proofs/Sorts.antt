-- What each move does to the objects of a kind that no rule of tasks speaks of.
use Rattle.history_law.proofs.Names.{ℕ, List, Listed, change, issue, with_fields, gone, Op, State, Move, Sort, Groups, Queues, Mutexes, Sems, Rwls, Segments, Fields, all_of, makes, alters, removes, apply, IsMade, AltersObject, RemovesObject}

-- what making, altering and removing keep, each move keeps
pub sort_move : (k : Sort) (s : State) (o : Op) (Q : List (Listed (Fields k)) → Type 0)
    → ((j : ℕ) (x : Fields k) → IsMade s o (makes k j x) → Q ((all_of k).list s) → Q (issue j x ((all_of k).list s)))
    → ((j : ℕ) (f : Fields k → Fields k) → AltersObject k j f o → Q ((all_of k).list s) → Q (change j (with_fields f) ((all_of k).list s)))
    → ((j : ℕ) → RemovesObject k j o → Q ((all_of k).list s) → Q (change j gone ((all_of k).list s)))
    → (m : Move) → IsMade s o m → Q ((all_of k).list s) → Q ((all_of k).list (apply m s))
sort_move Groups s o Q new old away (makes Groups j x) e v = new j x e v
sort_move Groups s o Q new old away (alters Groups j f) e v = old j f e.by v
sort_move Groups s o Q new old away (removes Groups j) e v = away j e.by v
sort_move Groups s o Q new old away _ e v = v
sort_move Queues s o Q new old away (makes Queues j x) e v = new j x e v
sort_move Queues s o Q new old away (alters Queues j f) e v = old j f e.by v
sort_move Queues s o Q new old away (removes Queues j) e v = away j e.by v
sort_move Queues s o Q new old away _ e v = v
sort_move Mutexes s o Q new old away (makes Mutexes j x) e v = new j x e v
sort_move Mutexes s o Q new old away (alters Mutexes j f) e v = old j f e.by v
sort_move Mutexes s o Q new old away (removes Mutexes j) e v = away j e.by v
sort_move Mutexes s o Q new old away _ e v = v
sort_move Sems s o Q new old away (makes Sems j x) e v = new j x e v
sort_move Sems s o Q new old away (alters Sems j f) e v = old j f e.by v
sort_move Sems s o Q new old away (removes Sems j) e v = away j e.by v
sort_move Sems s o Q new old away _ e v = v
sort_move Rwls s o Q new old away (makes Rwls j x) e v = new j x e v
sort_move Rwls s o Q new old away (alters Rwls j f) e v = old j f e.by v
sort_move Rwls s o Q new old away (removes Rwls j) e v = away j e.by v
sort_move Rwls s o Q new old away _ e v = v
sort_move Segments s o Q new old away (makes Segments j x) e v = new j x e v
sort_move Segments s o Q new old away (alters Segments j f) e v = old j f e.by v
sort_move Segments s o Q new old away (removes Segments j) e v = away j e.by v
sort_move Segments s o Q new old away _ e v = v
