-- What a table of a run shows of what decides how tasks end.
use Rattle.std.specs.Prelude.{◌≡◌, ℕ, ◌==◌, ◌&&◌, suc, Bool, List, [], ◌∷◌, Option, Some, None, option_map, if◌then◌else◌, nat_eq}
use Rattle.std.specs.HashMap.{get}
use Rattle.mtapi_values.specs.Masks.{in_mask}
use Rattle.mtapi_objects.specs.Actions.{Action, has_enabled_job, some_below}
use Rattle.run_report.specs.declared.changes.Unstarted.{Unstarted}
use Rattle.run_report.specs.declared.changes.LiveAction.{LiveAction}
use Rattle.run_report.specs.declared.standings.Standings.{Standings}
use Rattle.run_report.specs.declared.standings.Passing.{Passing}
use Rattle.run_report.specs.declared.standings.Passing.TheVariants.{Left, Of, Shut}
use Rattle.run_report.specs.Seen.{SeenRun, live_pairs, is_left, is_of, is_queue_shut}

abbrev pub seen_in_standings : Standings → SeenRun
seen_in_standings t = record {
  ends = get nat_eq t.ended;
  unstarted = get nat_eq t.unstarted;
  actions = live_pairs t.actions.items;
  queues =
      get nat_eq t.queues;
}

-- the same is seen
pub record SameAs (v w : SeenRun) : Type 0 where
  pub ends : (h : ℕ) → v.ends h ≡ w.ends h
  pub unstarted : (h : ℕ) → v.unstarted h ≡ w.unstarted h
  pub actions : v.actions ≡ w.actions
  pub queues : (h : ℕ) → v.queues h ≡ w.queues h

-- which tasks that haven't begun end
abbrev pub passes_unstarted : ℕ → Passing → SeenRun → Unstarted → Bool
passes_unstarted workers Left v = is_left workers v.actions
passes_unstarted workers (Of q) v = is_of q
passes_unstarted workers Shut v = is_queue_shut v.queues

-- some worker may run a task of this job on these cores by the action
abbrev pub can_run : ℕ → ℕ → ℕ → Action → Bool
can_run workers job cores a = has_enabled_job job a && some_below workers (λ w. in_mask w a.cores && in_mask w cores)

-- the place of the first of these actions that has this handle
abbrev pub place_of_action : ℕ → List LiveAction → Option ℕ
place_of_action h [] = None
place_of_action h (a ∷ more) = if a.handle == h then Some 0 else option_map suc (place_of_action h more)
