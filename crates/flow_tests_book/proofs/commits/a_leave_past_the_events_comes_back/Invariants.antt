use Rattle.flow_tests_book.proofs.commits.a_leave_past_the_events_comes_back.Given as goal

abbrev pub ghosts-leave_refused : goal.ghosts-leave_refused
ghosts-leave_refused g a = record { table = a.opened }
