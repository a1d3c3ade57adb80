use Rattle.workload_file.proofs.Cited.{refl, ◌∙◌}
use Rattle.workload_file.proofs.Fields.{name_changed}
use Rattle.workload_file.proofs.grammar.add_statement.Goals as goal

pub with_change-requires-clause-named : goal.with_change-requires-clause-named
with_change-requires-clause-named c =
    let same = c.in_ok-cause.ensures.said in
    record {
      statements = rw same c.requires.statements;
      count = rw same c.requires.count;
      names = λ other. c.in_ok-cause.ensures.bound c.in-None.is other
          ∙ rw (same, c.change_with.ensures, name_changed c.args.line c.args.word c.name_in-name.result.now _ _, c.requires.names other) refl;
    }
