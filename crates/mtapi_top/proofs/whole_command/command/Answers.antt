use Rattle.mtapi_top.proofs.Told.{told_of, shown, headline, headline_cut, text_two, settled, settled_cut, journal, spent, usage, refused, refused_where, reading, read_fault, write_fault, no_thread, all_threads, turns_spent, nothing, complete, complete_generated, check_yes, check_no, check_cut, check_nine, check_refused, check_refused_where, check_complete, ended, read, decides, later, idle}
use Rattle.mtapi_top.proofs.Names.{asked_by_words, texts}
use Rattle.mtapi_top.proofs.whole_command.command.Goals as goal

pub returns : goal.returns
returns g c =
    let t = told_of c.end_of-end.ensures.comes c.tell.ensures.reported in
    let x = shown t in
    record {
      headline = headline x;
      headline_cut = headline_cut x;
      text_two = text_two x;
      settled = settled x t.comes.range;
      settled_cut = settled_cut x t.comes.range;
      journal = journal x;
      spent = spent x;
      usage = usage x;
      refused = refused x;
      refused_where = refused_where x;
      reading = reading x;
      read_fault = read_fault x;
      write_fault = write_fault x;
      no_thread = no_thread x;
      all_threads = all_threads t;
      turns_spent = turns_spent x;
      nothing = nothing x;
      complete = complete x;
      complete_generated = complete_generated x;
      check_yes = check_yes x;
      check_no = check_no x;
      check_cut = check_cut x;
      check_nine = check_nine x;
      check_refused = check_refused x;
      check_refused_where = check_refused_where x;
      check_complete = check_complete x;
      ended = ended t;
      read = read t;
      check_decides = decides x;
      later = later t;
      idle = idle _ (asked_by_words (texts c.args.words.now)) c.end_of-end.result _ _ _ _ c.tell.result c.end_of-end.ensures.idle c.tell.ensures.reported;
    }
