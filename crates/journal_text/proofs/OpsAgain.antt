-- An op or a reply that was spelled is the one that is read.
use Rattle.std.proofs.lemmas.Bool.Decides.{nat_tests}
use Rattle.journal_text.proofs.Names.{arith, ◌≡◌, map, Some, IsHonest, Op, Reply, OpWord, ReplyWord, op_row, op_word_of, op_spelled, node_op, task_op, queue_op, work_op, lock_op, segment_op, op_of, reply_row, reply_word_of, reply_spelled, reply_of}
use Rattle.journal_text.proofs.ValuesAgain.{shape_of}

pub op_word_again : (w : OpWord) → op_word_of (op_row w).0 ≡ Some w
unfolding op_word_of op_row
op_word_again w = grind (arith, nat_tests)

pub op_shapes : (o : Op) → (op_row (op_spelled o).0).1 ≡ map shape_of (op_spelled o).1
unfolding op_row op_spelled
op_shapes o = grind (arith, nat_tests)

pub op_again : (o : Op) → IsHonest o → op_of (op_spelled o).0 (op_spelled o).1 ≡ Some o
unfolding op_of op_spelled node_op task_op queue_op work_op lock_op segment_op
op_again o e1 = grind (arith, nat_tests)

pub reply_word_again : (w : ReplyWord) → reply_word_of (reply_row w).0 ≡ Some w
unfolding reply_word_of reply_row
reply_word_again w = grind (arith, nat_tests)

pub reply_shapes : (r : Reply) → (reply_row (reply_spelled r).0).1 ≡ map shape_of (reply_spelled r).1
unfolding reply_row reply_spelled
reply_shapes r = grind (arith, nat_tests)

pub reply_again : (r : Reply) → reply_of (reply_spelled r).0 (reply_spelled r).1 ≡ Some r
unfolding reply_of reply_spelled
reply_again r = grind (arith, nat_tests)
