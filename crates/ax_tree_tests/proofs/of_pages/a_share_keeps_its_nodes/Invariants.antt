use Rattle.ax_tree_tests.proofs.of_pages.a_share_keeps_its_nodes.Given as goal

abbrev pub ghosts-share_keeps_its_nodes : goal.ghosts-share_keeps_its_nodes
ghosts-share_keeps_its_nodes g a = record { name = a.blank.name; parts = a.blank.parts }
