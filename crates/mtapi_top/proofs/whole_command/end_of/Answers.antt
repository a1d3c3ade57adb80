use Rattle.mtapi_top.proofs.Names.{◌≡◌, ◌⊎◌, ◌∙◌, true, judges, status_of, StartsNothing, Option, Some, Asked, refl, sym, ap, subst, asked_by_words, texts}
use Rattle.mtapi_top.proofs.Comes.{usage_comes, check_comes, as_words}
use Rattle.mtapi_top.proofs.whole_command.end_of.Goals as goal

pub returns-in_default-clause-comes : goal.returns-in_default-clause-comes
returns-in_default-clause-comes g c = usage_comes (asked_by_words (texts c.args.words.now)) _ _ (sym c.asked_of.ensures.value ∙ c.in_default.is)

pub returns-in_default-clause-idle : goal.returns-in_default-clause-idle
returns-in_default-clause-idle g c = λ s. (refl, refl)

pub returns-in-Check-clause-comes : goal.returns-in-Check-clause-comes
returns-in-Check-clause-comes g c =
    check_comes (asked_by_words (texts c.args.words.now)) (g.S.Source.left c.args.src.now)
    (g.S.Source.left c.check_input.new.src) _ _ _ _ _ _ _ c.check_input.result
    (sym c.asked_of.ensures.value ∙ (c.in-Some.is ∙ ap (λ (x : Asked). Some x) c.in-Check.is))
    c.check_input.ensures.end c.check_input.ensures.clean c.check_input.ensures.taken c.check_input.ensures.faultless c.check_input.ensures.later

pub returns-in-Check-clause-idle : goal.returns-in-Check-clause-idle
returns-in-Check-clause-idle g c = λ s. (refl, refl)

pub returns-in-Report : goal.returns-in-Report
returns-in-Report g c = record {
  comes = as_words (asked_by_words (texts c.args.words.now)) c.in-Some.asked (sym c.asked_of.ensures.value ∙ c.in-Some.is) c.carry_out.ensures.comes;
  idle = λ s. c.carry_out.ensures.idle (subst (λ (w : Option Asked). (judges w ≡ true)
      ⊎ StartsNothing (status_of c.carry_out.result)) (sym c.asked_of.ensures.value ∙ c.in-Some.is) s);
}
