use Rattle.std.proofs.Common.{refl, ◌∙◌, ap, sym, arith, ◌≡◌, ◌-◌, ◌+◌, List, length, take, drop, vec_len, ℕ}
use Rattle.turn_cell.specs.Seats.{fresh_seats}
use Rattle.workload_runners.specs.Turns.{Seat}
use Rattle.workload_runners.proofs.CrewSeats.{dealt}
use Rattle.workload_runners.proofs.crew.run.deal.Goals as goal

pub returns : goal.returns
returns g c =
    let z = c.args.cell.now in
    let w = z.terms.node.settings.workers in
    let n = vec_len c.args.seats in
    let r = c.in_ok-rest.ensures in
    let s = c.in_ok-further.ensures in
    let l1 = c.len.ensures in
    let l2 = c.len-2.ensures in
    let count = c.requires.count in
    let at : (c.len.result - c.len-2.result) - 1 ≡ w = omega arith in
    let left : (n - w) - 1 ≡ length c.args.others.items = omega arith in
    let d = dealt z w n c.args.seats.items c.split_off.new.self.items c.in_ok-rest.rest.items c.split_off-2.new.self.items
    c.in_ok-further.further.items c.pop.new.self.items c.in-Some.main c.requires.fresh (omega arith)
    (r.items ∙ ap (λ (k : ℕ). take k c.args.seats.items) at) (r.tail ∙ ap (λ (k : ℕ). drop k c.args.seats.items) at) s.items s.tail
    c.in-Some.ensures.items in
    let few : vec_len c.split_off.new.self ≡ w = r.len ∙ at in
    let e1 = c.in_ok-room.ensures.exact in
    let e2 = c.in_ok-told.ensures.exact in
    let e3 = c.in_ok-sets.ensures.exact in
    let l3 = c.len-3.ensures in
    let l4 = c.len-4.ensures in
    record {
      ready = record {
        workers = d.workers_are ∙ ap (λ (k : ℕ). fresh_seats z.terms z.id 0 k) (sym few);
        few = omega arith;
        callers = record {
          main = d.main_is;
          seats = d.callers_are ∙ ap (λ (k : ℕ). fresh_seats z.terms z.id (w + 1) k) left;
          empty = c.in_ok-room.ensures.items;
          untold = c.in_ok-told.ensures.items;
          room = omega arith;
          room_told = omega arith;
        };
        none = c.in_ok-sets.ensures.len;
        room = omega arith;
        room_sets = omega arith;
      };
      workers = few;
      client_is = refl;
      others_are = refl;
      room = omega arith;
    }
