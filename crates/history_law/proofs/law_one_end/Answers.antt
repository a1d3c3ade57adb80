use Rattle.history_law.proofs.Accepted.{listed_once, front_stays}
use Rattle.history_law.proofs.Told.{tells_its_end}
use Rattle.history_law.proofs.law_one_end.Goals as goal

pub returns-clause-one : goal.returns-clause-one
returns-clause-one c = record {
  one = listed_once _ _ c.args.t.0 c.requires;
  stays = λ P M Q e is i. front_stays _ _ P M Q c.args.t.0 e c.requires is i;
}

pub returns-clause-reported : goal.returns-clause-reported
returns-clause-reported c P Q x e cut i = tells_its_end _ _ c.args.t.0 c.requires P Q x e cut i
