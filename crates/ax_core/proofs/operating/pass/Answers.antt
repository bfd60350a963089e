use Rattle.std.proofs.Common.{◌≡◌, sym, Ok, [], ◌∷◌, ◌++◌, ap, ◌∙◌}
use Rattle.ax_tree.specs.Journals.{frame_of, is_short}
use Rattle.ax_frame.specs.Passes.{is_nothing, IsPass}
use Rattle.ax_run_rules.specs.FrameSteps.{made_note}
use Rattle.ax_core.proofs.Operations.{made_so, on_err, pass_broken, idle_done, sent_done, sent_fits}
use Rattle.ax_core.proofs.operating.pass.Goals as goal

pub returns-in_err-pass-clause-broken : goal.returns-in_err-pass-clause-broken
returns-in_err-pass-clause-broken c = on_err c.from_residual-in_err-pass.result (pass_broken c.args.frame.now c.pass.new.self c.args.waiting.now.items c.reserve.new.self.items c.reserve.ensures.items c.in_err-pass.ensures.broken)

pub returns-in-Nothing-clause-done : goal.returns-in-Nothing-clause-done
returns-in-Nothing-clause-done c =
    idle_done c.args.frame.now c.pass.new.self c.args.waiting.now.items c.reserve.new.self.items c.tree-tree.result c.reserve.ensures.items c.tree-tree.ensures (sym (ap is_nothing c.in-Nothing.is) ∙ c.in_ok-pass.ensures.nothing) c.in_ok-pass.ensures.passed

pub returns-in-Made-clause-done : goal.returns-in-Made-clause-done
returns-in-Made-clause-done c =
    sent_done c.args.frame.now c.pass.new.self c.args.waiting.now.items c.push_back_reserved.new.self.items c.tree-tree.result c.in-Made.packet c.made_note-note.result c.tree-tree.ensures
    (record {
      some = sym (ap is_nothing c.in-Made.is) ∙ c.in_ok-pass.ensures.nothing;
      packet = made_so c.in_ok-pass.field-0 c.in-Made.packet c.in-Made.resumed c.in-Made.updates (λ p r u. IsPass c.args.frame.now.tree (frame_of c.args.frame.now.tree c.args.frame.now.journal) p) c.in-Made.is c.in_ok-pass.ensures.packet;
      told = c.made_note-note.ensures ∙ ap (λ b. record (made_note c.in-Made.packet) { resumed = b })
          (made_so c.in_ok-pass.field-0 c.in-Made.packet c.in-Made.resumed c.in-Made.updates (λ p r u. r ≡ is_short c.args.frame.now.tree c.args.frame.now.journal) c.in-Made.is c.in_ok-pass.ensures.resumed);
      passed = c.in_ok-pass.ensures.passed;
      waits = c.push_back_reserved.ensures.items ∙ ap (λ l. l ++ c.in-Made.packet ∷ []) c.reserve.ensures.items;
    })

pub returns-in-Made-clause-fits : goal.returns-in-Made-clause-fits
returns-in-Made-clause-fits c =
    sent_fits c.args.frame.now c.pass.new.self c.args.waiting.now.items c.push_back_reserved.new.self.items c.pass.result c.in-Made.packet c.in-Made.resumed c.in-Made.updates (c.in_ok-pass.was ∙ ap Ok c.in-Made.is) c.in_ok-pass.ensures.passed
    (c.push_back_reserved.ensures.items ∙ ap (λ l. l ++ c.in-Made.packet ∷ []) c.reserve.ensures.items) c.pass.ensures.fits
