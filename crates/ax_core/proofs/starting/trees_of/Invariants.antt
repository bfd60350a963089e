use Rattle.std.proofs.Common.{◌≡◌, map, take}
use Rattle.ax_script.specs.declared.script.FrameScript.{FrameScript}
use Rattle.ax_core.proofs.starting.trees_of.Given as goal

abbrev pub invariant-loop-frame : goal.invariant-loop-frame
invariant-loop-frame l = l.trees ≡ map (λ (f : FrameScript). f.tree) (take l.frame-index l.frames)
