use Rattle.workload_file.proofs.Cited.{refl}
use Rattle.workload_file.proofs.Placed.{fresh_texts}
use Rattle.workload_file.proofs.options.place_texts.Goals as goal

pub place_each-requires : goal.place_each-requires
place_each-requires c = rw c.fields.ensures at (fresh_texts c.resize.new.self.items c.clear.new.self.items _ _ c.fields.result.now c.clear.ensures.items
    c.clear.ensures.len refl c.in_ok-resize.ensures.items)
