use Rattle.node_steps.specs.Stands.{state_of}
use Rattle.node_steps.proofs.TallySteps.{lock_fault, lock_both, lock_owned, lock_absent}
use Rattle.node_steps.proofs.node.PoolNode.lock_both.Goals as goal

pub returns-in_default-args : goal.returns-in_default-args
returns-in_default-args c l v = lock_fault c.args.self.now l c.args.who c.args.task c.args.tally v c.requires.tally c.in-Begun.is c.fault-fault.result
    c.note_tally.new.self c.in_default-args.is c.fault-fault.ensures c.note_tally.ensures

pub returns-in-Both : goal.returns-in-Both
returns-in-Both c l v =
    lock_both c.args.self.now l c.args.who c.args.task c.args.tally v c.requires.tally c.in-Begun.is c.in-Some.args c.in-Some.is c.in-Both.mutex
    c.in-Both.segment c.tally_lock.new.self c.note_tally-in-Both.new.self
    (c.in-Both.ensures (state_of c.args.self.now l) v.resources) c.note_tally-in-Both.ensures

pub returns-in-Owned : goal.returns-in-Owned
returns-in-Owned c l v = lock_owned c.args.self.now l c.args.who c.args.task c.args.tally v c.requires.tally c.in-Begun.is c.in-Some.args c.in-Some.is
    c.tally_lock.new.self (c.in-Owned.ensures (state_of c.args.self.now l) v.resources)

pub returns-in-Absent : goal.returns-in-Absent
returns-in-Absent c l v =
    lock_absent c.args.self.now l c.args.who c.args.task c.args.tally v c.requires.tally c.in-Begun.is c.in-Some.args c.in-Some.is c.tally_lock.new.self
    c.note_tally-in-Absent.new.self (c.in-Absent.ensures (state_of c.args.self.now l) v.resources) c.note_tally-in-Absent.ensures
