use Rattle.ax_mirror.proofs.mirrored.Mirror.unserialize.Given as goal

abbrev pub ghosts-unserialize_counted : goal.ghosts-unserialize_counted
ghosts-unserialize_counted a = record { name = a.blank.name; parts = a.blank.parts }
