-- What a worker's entries are: each of them is work.
use Rattle.std.proofs.lemmas.Bool.Decides.{nat_tests}
use Rattle.std.proofs.Common.{arith}
use Rattle.workload_runners.proofs.Names.{[], ◌++◌, ◌∷◌, ◌≡◌, Bool, List, NodeEntry, Ran, Rested, Round, Tallied, Tallying, TaskHandle, Watched, all_in, watch_asks, entries_in, entry, is_work, refl, retries, suc, tally_steps, true, zero, ℕ}
use Rattle.mtapi_machine.specs.declared.ops.Op.TheVariants as op
use Rattle.mtapi_machine.specs.declared.replies.Reply.TheVariants as reply

abbrev pub AllWork : List NodeEntry → Type 0
AllWork [] = Unit {0}
AllWork (e ∷ es) = (is_work e.op e.reply ≡ true) × AllWork es

work_append : (xs ys : List NodeEntry) → AllWork xs → AllWork ys → AllWork (xs ++ ys)
work_append [] ys a b = b
work_append (x ∷ xs) ys a b = (a.0, work_append xs ys a.1 b)

asks_work : (w : ℕ) (t : TaskHandle) (heard : List Bool) → AllWork (watch_asks w t heard)
asks_work w t [] = tt
asks_work w t (b ∷ bs) = (refl, asks_work w t bs)

retries_work : (w : ℕ) (t : TaskHandle) (n : ℕ) → AllWork (retries w t n)
retries_work w t zero = tt
retries_work w t (suc n) = (refl, retries_work w t n)

steps_work : (w : ℕ) (t : TaskHandle) (x : Tallying) → AllWork (tally_steps w t x)
steps_work w t x = grind (arith, nat_tests)

round_work : (w : ℕ) (r : Round) → AllWork (entries_in w r)
round_work w Rested = (refl, tt)
round_work w (Ran t a k args done) = (refl, (refl, tt))
round_work w (Watched t a k args heard e) =
    (refl, work_append (watch_asks w t heard) (entry w (op.WatchEnd t) (reply.Ended e) ∷ []) (asks_work w t heard) (refl, tt))
round_work w (Tallied t a k args pending steps e) = (
  refl,
  work_append (retries w t pending ++ tally_steps w t steps) (entry w (op.TallyEnd t) (reply.Ended e)
      ∷ []) (work_append (retries w t pending) (tally_steps w t steps) (retries_work w t pending) (steps_work w t steps)) (refl, tt),
)

pub rounds_work : (w : ℕ) (rs : List Round) → AllWork (all_in w rs)
unfolding all_in
rounds_work w [] = tt
rounds_work w (r ∷ rs) = work_append (entries_in w r) (all_in w rs) (round_work w r) (rounds_work w rs)
