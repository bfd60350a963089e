use Rattle.ax_tree_tests.proofs.of_pages.an_erased_value_stays_in_the_share.Given as goal

abbrev pub ghosts-erased_after : goal.ghosts-erased_after
ghosts-erased_after g a = record { name = a.blank.name; parts = a.blank.parts }
