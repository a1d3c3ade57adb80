-- The laws by which a follower judges.
use Rattle.mtapi_renaming.specs.Laws.{StepsRename, AnswersDecide, CreatesRename, LivesAlike, StartsRename}
use Rattle.mtapi_renaming.specs.Counts.{FreshIsNext, FullIsLive, CreatesMakeOne, OthersMakeNone, TermsStay}
use Rattle.mtapi_renaming.specs.Refusals.{RefusalsTell, RefusalsStay, RefusalsRename, RefusalsArePlain, PicksTake}
use Rattle.mtapi_renaming.specs.Lasts.{FullIsTold, RoomIsKept, CreatesMakeLast, OthersKeepLasts}
use Rattle.mtapi_renaming.specs.Gone.{GoneAreMade, GoneStayGone, EndsAreGone}

-- all of them
pub record Laws : Type 0 where
  pub steps : StepsRename
  pub decided : AnswersDecide
  pub created : CreatesRename
  pub live : LivesAlike
  pub opening : StartsRename
  pub fresh : FreshIsNext
  pub full : FullIsLive
  pub one : CreatesMakeOne
  pub none : OthersMakeNone
  pub told : RefusalsTell
  pub stay : RefusalsStay
  pub refused : RefusalsRename
  pub picks : PicksTake
  pub room : FullIsTold
  pub last : CreatesMakeLast
  pub lasts : OthersKeepLasts
  pub plain : RefusalsArePlain
  pub kept : RoomIsKept
  pub gone : GoneAreMade
  pub gone_stay : GoneStayGone
  pub ends : EndsAreGone
  pub terms : TermsStay
