-- What the tests of `halts` know of the elements of a list, and of a seat's replies.
use Rattle.std.specs.Prelude.{◌==◌, ◌-◌, take, drop, map}
use Rattle.std.specs.List.{All, Contains, AllByRecursion as ByRecursion}
use Rattle.std.proofs.lemmas.Bool.Decides.{nat_tests}
use Rattle.std.proofs.Common.{◌≡◌, ◌⊎◌, ℕ, zero, suc, ◌+◌, ◌<◌, ◌≤◌, inl, inr, cond, List, [], ◌∷◌, ◌++◌, length, get_or, refl, sym, ◌∙◌, ap, subst, arith}
use Rattle.std.proofs.lemmas.Grind.{take_at_read}
use Rattle.std.proofs.lemmas.List.{take_all, map-append}
use Rattle.std.proofs.lemmas.List.Elements.{Contains-get_or, All-from_recursion, recursion_from_All}
use Rattle.mtapi_machine.specs.Legal.{NodeEntry}
use Rattle.mtapi_machine.specs.Row.{handle_of}
use Rattle.mtapi_machine.specs.declared.replies.Reply.{Reply}
use Rattle.run_report.specs.Replies.{decided, decides}
use Rattle.workload_file.specs.declared.workload.Statement.{Statement}
use Rattle.workload_file.specs.declared.workload.Part.{Part}
use Rattle.workload_file.specs.declared.workload.Workload.{Workload}
use Rattle.begun_runs.specs.Halts.{IsProbeRefusal, LeavesState, WorkerHalts, MainHalts, CallersHalt, PartsHalt, Halts, reply_handles}
use Rattle.begun_runs.proofs.Lasts.{decided_append}

-- the element at a place is one of the list
pub contains_here : {X : Type 0} (xs : List X) (i : ℕ) (x y : X) → i < length xs → x ≡ get_or xs i x → x ≡ y → Contains xs y
contains_here xs i x y l at is = subst (Contains xs) is (subst (Contains xs) (sym at) (Contains-get_or xs i x l))

-- of no element each is known, of one more where it is known of that, and of all in the end
pub all_none : {X : Type 0} (P : X → Type 0) → All P []
all_none P = All-from_recursion P [] tt

all_last : {X : Type 0} (P : X → Type 0) (xs : List X) (x : X) → ByRecursion P xs → P x → ByRecursion P (xs ++ x ∷ [])
all_last P [] x a p = (p, tt)
all_last P (y ∷ xs) x a p = (a.0, all_last P xs x a.1 p)

one_more : {X : Type 0} (xs : List X) (i : ℕ) (x : X) → i < length xs → x ≡ get_or xs i x → take (i + 1) xs ≡ take i xs ++ x ∷ []
one_more xs i x l at = (take_at_read xs i x l).1 ∙ ap (λ y. take i xs ++ y ∷ []) (sym at)

pub all_more : {X : Type 0} (P : X → Type 0) (xs : List X) (i : ℕ) (x : X) → i < length xs → x ≡ get_or xs i x → All P (take i xs) → P x
    → All P (take (i + 1) xs)
all_more P xs i x l at a p =
    subst (All P) (sym (one_more xs i x l at))
    (All-from_recursion P (take i xs ++ x ∷ []) (all_last P (take i xs) x (recursion_from_All P (take i xs) a) p))

pub all_of : {X : Type 0} (P : X → Type 0) (xs : List X) (i : ℕ) → length xs ≤ i → All P (take i xs) → All P xs
all_of P xs i l a = subst (All P) (take_all i xs l) a

-- the handles of a seat's replies, one more entry on
handles_last : (who : ℕ) (L : List NodeEntry) (e : NodeEntry)
    → reply_handles who (L ++ e ∷ []) ≡ reply_handles who L ++ cond (decides who e) (handle_of e.reply ∷ []) []
unfolding decided
handles_last who L e = ap (map handle_of) (decided_append who L (e ∷ []))
    ∙ (map-append handle_of (decided who L) (decided who (e ∷ [])) ∙ ap (λ l. reply_handles who L ++ l) one)
  where
    one : map handle_of (decided who (e ∷ [])) ≡ cond (decides who e) (handle_of e.reply ∷ []) []
    one = grind (arith, nat_tests)

pub handles_none : (who : ℕ) → [] ≡ reply_handles who []
unfolding decided
handles_none who = refl

pub handles_next : (who i : ℕ) (es : List NodeEntry) (e : NodeEntry) (old new : List ℕ) → i < length es → e ≡ get_or es i e
    → old ≡ reply_handles who (take i es)
    → new ≡ old ++ cond (decides who e) (handle_of e.reply ∷ []) [] → new ≡ reply_handles who (take (i + 1) es)
handles_next who i es e old new l at is more =
    more ∙ (ap (λ (h : List ℕ). h ++ cond (decides who e) (handle_of e.reply ∷ []) []) is
    ∙ (sym (handles_last who (take i es) e) ∙ ap (reply_handles who) (sym (one_more es i e l at))))

pub handles_all : (who i : ℕ) (es : List NodeEntry) (hs : List ℕ) → length es ≤ i → hs ≡ reply_handles who (take i es) → hs ≡ reply_handles who es
handles_all who i es hs l e = e ∙ ap (reply_handles who) (take_all i es l)

-- what holds of all numbers below one, and of that one, holds of all below the next
below_split : (k n : ℕ) → k < suc n → (k < n) ⊎ (k ≡ n)
below_split zero zero l = inr refl
below_split zero (suc n) l = inl (omega arith)
below_split (suc k) zero l = absurd (omega arith)
below_split (suc k) (suc n) l = elim (below_split k n (omega arith)) [ inl h ↦ inl (omega arith) | inr h ↦ inr (ap suc h) ]

pub each_below : (P : ℕ → Type 0) (n : ℕ) → ((k : ℕ) → k < n → P k) → P n → (k : ℕ) → k < n + 1 → P k
each_below P n below here k l = elim (below_split k n (omega arith)) [ inl h ↦ below k h | inr h ↦ subst P (sym h) here ]

pub all_below : (P : ℕ → Type 0) (n m : ℕ) → m ≤ n → ((k : ℕ) → k < n → P k) → (k : ℕ) → k < m → P k
all_below P n m le below k l = below k (omega arith)

-- no seat goes on, where none of the first worker's and main's refusals, the looks, the workers, main and the further callers tells otherwise
pub halts_all : (load : Workload) (es looks refused : List NodeEntry) (first : Part) (others : List Part) → load.parts ≡ first ∷ others
    → All (IsProbeRefusal load.settings.workers) refused → All (LeavesState refused) looks
    → ((w : ℕ) → w < load.settings.workers → WorkerHalts looks w)
    → MainHalts es looks refused load.settings.workers first.statements others (reply_handles load.settings.workers es)
    → CallersHalt es looks (suc load.settings.workers) others → Halts load es looks refused
halts_all load es looks refused first others e r l w m c = record {
  refused_each = r;
  looks_each = l;
  workers = w;
  parts = subst (PartsHalt es looks refused load.settings.workers) (sym e) (m, c);
}

-- the same of main and of the further callers, whatever stands for their numbers, statements and parts
pub main_at : (es looks refused : List NodeEntry) (m n : ℕ) (ss statements : List Statement) (rest others : List Part) → m ≡ n → ss ≡ statements
    → rest ≡ others → MainHalts es looks refused m ss rest (reply_handles m es)
    → MainHalts es looks refused n statements others (reply_handles n es)
main_at es looks refused m n ss statements rest others a b c h = subst (λ (x : ℕ). MainHalts es looks refused x statements others (reply_handles x es)) a
    (subst (λ (x : List Statement). MainHalts es looks refused m x others (reply_handles m es)) b
    (subst (λ (x : List Part). MainHalts es looks refused m ss x (reply_handles m es)) c h))

pub callers_at : (es ls looks : List NodeEntry) (m n : ℕ) (rest others : List Part) → ls ≡ looks → m ≡ n → rest ≡ others
    → CallersHalt es ls (m + 1) rest → CallersHalt es looks (suc n) others
callers_at es ls looks m n rest others l a c h = subst (λ (x : ℕ). CallersHalt es looks x others) (omega (arith, a))
    (subst (λ (x : List Part). CallersHalt es looks (m + 1) x) c (subst (λ (x : List NodeEntry). CallersHalt es x (m + 1) rest) l h))

-- all parts but the first
pub all_but_first : (parts : List Part) → take (length parts - 1) (drop 1 parts) ≡ drop 1 parts
all_but_first [] = refl
all_but_first (p ∷ ps) = take_all (length (p ∷ ps) - 1) ps (omega arith)
