use Rattle.ax_tree_tests.proofs.of_mirror.a_fresh_bundle_begins_anew.Given as goal

abbrev pub ghosts-begins_anew : goal.ghosts-begins_anew
ghosts-begins_anew g a = record { name = a.blank.name; parts = a.blank.parts }
