use Rattle.ax_tree_tests.proofs.of_mirror.a_refused_bundle_leaves_all.Given as goal

abbrev pub ghosts-stays : goal.ghosts-stays
ghosts-stays g a = record { name = a.blank.name; parts = a.blank.parts }
