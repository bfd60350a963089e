use Rattle.std.proofs.Common.{None, false, sym, subst}
use Rattle.ax_laws.proofs.FrameSteps.{kept_frame}
use Rattle.ax_tree.specs.declared.packet.JEntry.TheVariants.{Delivered}
use Rattle.ax_tree.specs.Journals.{frame_of}
use Rattle.ax_trees.specs.Trees.{bare}
use Rattle.ax_serializer.specs.Sending.{Sending}
use Rattle.ax_frame.specs.Frames.{HoldsFrame, all_kept}
use Rattle.ax_frame.proofs.Holding.{at_entry, delivered_holds}
use Rattle.ax_frame.proofs.Fitting.{fits_more}
use Rattle.ax_frame.proofs.frame.Frame.deliver.Goals as goal

pub invariant_of-self-2 : goal.invariant_of-self-2
invariant_of-self-2 c =
    subst (λ (z : Sending). HoldsFrame (frame_of c.self.inside.tree c.push.new.self) c.self.inside.source z.client (all_kept z.kept None) c.self.inside.slip c.self.inside.passes c.args.n.0 false) (sym c.reset.ensures)
    (at_entry c.self.inside.tree c.self.inside.journal c.push.new.self (Delivered c.args.n) c.self.inside.source bare _ c.self.inside.slip c.self.inside.passes c.args.n.0 false c.in_ok-push.ensures.ok
    (delivered_holds c.self.inside.tree (frame_of c.self.inside.tree c.self.inside.journal) (kept_frame c.self.inside.tree c.self.inside.journal) c.self.inside.source _ _ c.self.inside.slip c.self.inside.passes _ _ c.self.invariant c.args.n.0))

pub returns-clause-fits : goal.returns-clause-fits
returns-clause-fits c = fits_more (Delivered c.args.n) c.args.self.now c.self.inside.tree c.self.inside.journal c.push.new.self c.self.view_is c.in_ok-push.ensures.ok (λ p. absurd (cc))
