use Rattle.std.proofs.Common.{ℕ, map, length, sym, ap, ◌∙◌}
use Rattle.std.proofs.lemmas.Iterator.{YieldsList-from_slice, YieldsList-from_zip}
use Rattle.std.proofs.lemmas.Iterator.Adapters.{YieldsList-from_vec}
use Rattle.std.proofs.lemmas.Iterator.Consumers.{YieldsList-at, YieldsList-end}
use Rattle.std.proofs.lemmas.Simd.{map-map}
use Rattle.ax_script.specs.declared.script.FrameScript.{FrameScript}
use Rattle.ax_frame.specs.Frames.{Journaled}
use Rattle.ax_run_rules.specs.States.{FrameRun}
use Rattle.ax_core.specs.Starting.{seat_on}
use Rattle.ax_core.proofs.resuming.seats_on.Goals as goal

-- the loop has seen each script beside its frame and its count
pub returns : goal.returns
returns c =
    let scripts = YieldsList-from_vec c.args.scripts (c.into_iter-scripts.ensures.rest ∙ c.into_vec.ensures) (c.into_iter-scripts.ensures.len ∙ (c.into_vec.result.ok.0 ∙ ap length c.into_vec.ensures)) in
    let frames = YieldsList-from_vec c.args.frames.items c.zip.ensures.second.0 (c.zip.ensures.second.1 ∙ c.args.frames.ok.0) in
    let done = YieldsList-from_slice c.args.done.now.items (cc) in
    let pairs = YieldsList-at c.zip-script-items.ensures.first (YieldsList-from_zip (YieldsList-at c.zip.ensures.first scripts) frames) in
    let all = YieldsList-at c.into_iter-script-iterator.ensures.into_iter_gives (YieldsList-from_zip pairs done) in
    let seen = YieldsList-end all c.loop-script.yielded c.loop-script.script-iterator c.loop-script.yielded_by c.next.result c.next.new.self c.in-None.is c.next.ensures.steps in
    let seat : ((FrameScript × Journaled) × ℕ) → FrameRun = λ p. seat_on p.0.0 p.0.1 p.1 in
    c.loop-script.invariant ∙ (sym (map-map seat _ c.loop-script.yielded) ∙ ap (map seat) seen.0)
