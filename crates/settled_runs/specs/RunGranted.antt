-- In a run of a settled workload no statement that makes an object is refused.
use Rattle.std.specs.Prelude.{◌≡◌, ℕ, true, List, [], ◌∷◌, length}
use Rattle.settled_runs.specs.Names.{Layout, Deed, Statement, Part, Workload, Reply, NodeEntry, Legal, RunOf, run_terms}
use Rattle.workload_file.specs.declared.workload.Deed.TheVariants as deed
use Rattle.workload_file.specs.Formed.{WellFormed}
use Rattle.settled_runs.specs.Granted.{IsGranted}
use Rattle.settled_runs.specs.Settled.{is_settled}

-- the statement makes an object, and was given its handle, or it is one of the others that a settled workload may have
abbrev pub GrantedTo : Deed → Reply → Type 0
GrantedTo (deed.Action job kind cores) r = IsGranted r
GrantedTo (deed.Start job args priority cores detached group) r = IsGranted r
GrantedTo (deed.Enqueue queue args cores detached group) r = IsGranted r
GrantedTo deed.Group r = IsGranted r
GrantedTo (deed.Queue id job priority limit ordered retain) r = IsGranted r
GrantedTo deed.Begin r = Unit {0}
GrantedTo (deed.Wait place timeout) r = Unit {0}
GrantedTo (deed.WaitAll group timeout) r = Unit {0}
GrantedTo _ r = ⊥

-- so it is of these statements and their replies, and of each part's
abbrev pub AllGranted : List Statement → List Reply → Type 0
AllGranted [] rs = Unit {0}
AllGranted (s ∷ ss) [] = ⊥
AllGranted (s ∷ ss) (r ∷ rs) = GrantedTo s.deed r × AllGranted ss rs

abbrev pub PartsGranted : List Part → List (List Reply) → Type 0
PartsGranted [] rss = Unit {0}
PartsGranted (p ∷ ps) [] = ⊥
PartsGranted (p ∷ ps) (rs ∷ rss) = AllGranted p.statements rs × PartsGranted ps rss

-- a run of a well-formed settled workload
pub record SettledRun (layout : Layout) (load : Workload) (es : List NodeEntry) (ns : List ℕ) : Type 0 where
  pub settled : is_settled load ≡ true
  pub formed : WellFormed load
  pub legal : Legal (run_terms layout load) es
  pub same : length es ≡ length ns
  pub run : RunOf load es ns

-- in such a run each statement that makes an object is given its handle
abbrev pub SettledStatementsAreGranted : Type 0
SettledStatementsAreGranted = (layout : Layout) (load : Workload) (es : List NodeEntry) (ns : List ℕ) → (u : SettledRun layout load es ns)
    → PartsGranted load.parts u.run.replies
