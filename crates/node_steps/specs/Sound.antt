-- What every state that a history leads to keeps, and an op may use.
use Rattle.mtapi_machine.specs.State.{State}
use Rattle.mtapi_machine.specs.Laws.{IsServed, Rises, start_numbers}
use Rattle.history_law.specs.TallyHolds.{TalliesHold}

pub record Sound (s : State) : Type 0 where
  -- some worker has an eligible action for every scheduled task
  pub served : IsServed s
  -- each task was started before those listed behind it
  pub ordered : Rises (start_numbers s.tasks)
  -- the worker of a running tally that has got its mutex and its segment holds both
  pub tallies : TalliesHold s
