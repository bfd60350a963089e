use Rattle.std.proofs.Common.{suc, ◌≡◌, true, false, List, sym, ap, subst, ◌∙◌, arith}
use Rattle.ax_laws.proofs.FrameSteps.{kept_frame}
use Rattle.ax_tree.specs.declared.edit.Edit.{Edit}
use Rattle.ax_tree.specs.declared.packet.JEntry.{JEntry}
use Rattle.ax_tree.specs.declared.packet.JEntry.TheVariants.{Passed, Short}
use Rattle.ax_tree.specs.Journals.{frame_of}
use Rattle.ax_frame.specs.Frames.{Journaled, all_kept, with_entry}
use Rattle.ax_frame.specs.Passes.{IsPass}
use Rattle.ax_frame.proofs.Fitting.{fits_more, fits_pass, pending_is, set_passed, still_pending}
use Rattle.ax_frame.proofs.Holding.{at_entry}
use Rattle.ax_frame.proofs.Packing.{idle_holds, is_pass, passed_holds, short_holds}
use Rattle.ax_frame.proofs.frame.Frame.pass.Goals as goal

-- ---- nothing to send

pub invariant_of-self-then-not-pending : goal.invariant_of-self-then-not-pending
invariant_of-self-then-not-pending c =
    let none = pending_is c.args.self.now c.self.inside.tree c.self.inside.journal c.pending.result false c.self.view_is c.pending.ensures c.if-not-pending.true in
    at_entry c.self.inside.tree c.self.inside.journal c.push.new.self Passed c.self.inside.source c.self.inside.serializer.client (all_kept c.self.inside.serializer.kept c.self.inside.back) c.self.inside.slip c.self.inside.passes c.self.inside.token c.self.inside.short c.in_ok-push.ensures.ok
    (idle_holds c.self.inside.tree (frame_of c.self.inside.tree c.self.inside.journal) (kept_frame c.self.inside.tree c.self.inside.journal) c.self.inside.source c.self.inside.serializer.client (all_kept c.self.inside.serializer.kept c.self.inside.back) c.self.inside.slip c.self.inside.passes c.self.inside.token c.self.inside.short c.self.invariant none)

pub returns-then-not-pending-clause-fits : goal.returns-then-not-pending-clause-fits
returns-then-not-pending-clause-fits c =
    let none = pending_is c.args.self.now c.self.inside.tree c.self.inside.journal c.pending.result false c.self.view_is c.pending.ensures c.if-not-pending.true in
    fits_more Passed c.args.self.now c.self.inside.tree c.self.inside.journal c.push.new.self c.self.view_is c.in_ok-push.ensures.ok (λ _. none)

-- ---- want of memory

pub invariant_of-self-in_default-send_bundle : goal.invariant_of-self-in_default-send_bundle
invariant_of-self-in_default-send_bundle c =
    let some = pending_is c.args.self.now c.self.inside.tree c.self.inside.journal c.pending.result true c.self.view_is c.pending.ensures c.if-not-pending.false in
    at_entry c.self.inside.tree c.self.inside.journal c.push-2.new.self Short c.send_bundle.new.source c.send_bundle.new.serializer.client (all_kept c.send_bundle.new.serializer.kept c.send_bundle.new.back) c.self.inside.slip c.self.inside.passes c.self.inside.token true c.in_ok-push-2.ensures.ok
    (short_holds c.self.inside.tree (frame_of c.self.inside.tree c.self.inside.journal) (kept_frame c.self.inside.tree c.self.inside.journal) c.self.inside.source c.self.inside.serializer.client (all_kept c.self.inside.serializer.kept c.self.inside.back) c.self.inside.slip c.self.inside.passes c.self.inside.token c.self.inside.short c.self.invariant
    c.send_bundle.new.source c.send_bundle.new.serializer.client (all_kept c.send_bundle.new.serializer.kept c.send_bundle.new.back) some c.in_default-send_bundle.ensures.stays c.send_bundle.ensures.tree c.in_default-send_bundle.ensures.flag)

pub returns-in_default-send_bundle-clause-fits : goal.returns-in_default-send_bundle-clause-fits
returns-in_default-send_bundle-clause-fits c = fits_more Short c.args.self.now c.self.inside.tree c.self.inside.journal c.push-2.new.self c.self.view_is c.in_ok-push-2.ensures.ok (λ p. absurd (cc))

pub returns-in_default-send_bundle-clause-still_pending : goal.returns-in_default-send_bundle-clause-still_pending
returns-in_default-send_bundle-clause-still_pending c = still_pending c.args.self.now c.self.inside.tree c.self.inside.journal c.push-2.new.self c.self.view_is c.in_ok-push-2.ensures.ok

-- ---- a packet

pub invariant_of-self-2 : goal.invariant_of-self-2
invariant_of-self-2 c =
    let some = pending_is c.args.self.now c.self.inside.tree c.self.inside.journal c.pending.result true c.self.view_is c.pending.ensures c.if-not-pending.false in
    let number : c.in-Some.pass ≡ suc c.self.inside.passes = omega (arith, c.in-Some.ensures) in
    at_entry c.self.inside.tree c.self.inside.journal c.set.new.self Passed c.send_bundle.new.source c.send_bundle.new.serializer.client (all_kept c.send_bundle.new.serializer.kept c.send_bundle.new.back) c.replace.new.dest c.in-Some.pass c.self.inside.token false
    (set_passed c.self.inside.journal c.push-2.new.self c.set.new.self c.len-entry.result c.in_ok-push-2.ensures.ok c.len-entry.ensures c.set.ensures)
    (passed_holds c.self.inside.tree (frame_of c.self.inside.tree c.self.inside.journal) (kept_frame c.self.inside.tree c.self.inside.journal) c.self.inside.source c.self.inside.serializer.client (all_kept c.self.inside.serializer.kept c.self.inside.back) c.self.inside.slip c.self.inside.passes c.self.inside.token c.self.inside.short c.self.invariant
    c.send_bundle.new.source c.send_bundle.new.serializer.client (all_kept c.send_bundle.new.serializer.kept c.send_bundle.new.back) c.replace.new.dest c.in-Some.pass some c.in-Ok.ensures.client c.send_bundle.ensures.tree c.in-Ok.ensures.sent c.in-Ok.ensures.marks c.in-Ok.ensures.kept
    (c.replace.ensures.after ∙ c.new.ensures) number)

pub returns-clause-packet : goal.returns-clause-packet
returns-clause-packet c =
    let some = pending_is c.args.self.now c.self.inside.tree c.self.inside.journal c.pending.result true c.self.view_is c.pending.ensures c.if-not-pending.false in
    let number : c.in-Some.pass ≡ suc c.self.inside.passes = omega (arith, c.in-Some.ensures) in
    subst (λ (j : Journaled). IsPass j.tree (frame_of j.tree j.journal) (record { tree = c.self.inside.tree; pass = record { 0 = c.in-Some.pass }; base = c.base_of.result; token = record { 0 = c.self.inside.token }; slip = c.replace.result; bundle = c.in-Ok.sent.bundle })) c.self.view_is
    (subst (λ (l : List Edit). IsPass c.self.inside.tree (frame_of c.self.inside.tree c.self.inside.journal) (record { tree = c.self.inside.tree; pass = record { 0 = c.in-Some.pass }; base = c.base_of.result; token = record { 0 = c.self.inside.token }; slip = l; bundle = c.in-Ok.sent.bundle })) (sym c.replace.ensures.value)
    (is_pass c.self.inside.tree (frame_of c.self.inside.tree c.self.inside.journal) (kept_frame c.self.inside.tree c.self.inside.journal) c.self.inside.source c.self.inside.serializer.client (all_kept c.self.inside.serializer.kept c.self.inside.back) c.self.inside.slip c.self.inside.passes c.self.inside.token c.self.inside.short c.self.invariant
    c.in-Some.pass c.base_of.result.0 c.in-Ok.sent.fresh c.in-Ok.sent.bundle some number c.base_of.ensures c.in-Ok.ensures.fresh c.in-Ok.ensures.bundle))

pub returns-clause-passed : goal.returns-clause-passed
returns-clause-passed c =
    ap (λ (js : List JEntry). record { tree = c.self.inside.tree; journal = js }) (set_passed c.self.inside.journal c.push-2.new.self c.set.new.self c.len-entry.result c.in_ok-push-2.ensures.ok c.len-entry.ensures c.set.ensures)
    ∙ ap (with_entry Passed) c.self.view_is

pub returns-clause-fits : goal.returns-clause-fits
returns-clause-fits c =
    let some = pending_is c.args.self.now c.self.inside.tree c.self.inside.journal c.pending.result true c.self.view_is c.pending.ensures c.if-not-pending.false in
    let number : c.in-Some.pass ≡ suc c.self.inside.passes = omega (arith, c.in-Some.ensures) in
    fits_pass c.args.self.now c.self.inside.tree c.self.inside.journal c.set.new.self _ c.self.view_is
    (set_passed c.self.inside.journal c.push-2.new.self c.set.new.self c.len-entry.result c.in_ok-push-2.ensures.ok c.len-entry.ensures c.set.ensures) some
    (subst (λ (l : List Edit). IsPass c.self.inside.tree (frame_of c.self.inside.tree c.self.inside.journal) (record { tree = c.self.inside.tree; pass = record { 0 = c.in-Some.pass }; base = c.base_of.result; token = record { 0 = c.self.inside.token }; slip = l; bundle = c.in-Ok.sent.bundle })) (sym c.replace.ensures.value)
    (is_pass c.self.inside.tree (frame_of c.self.inside.tree c.self.inside.journal) (kept_frame c.self.inside.tree c.self.inside.journal) c.self.inside.source c.self.inside.serializer.client (all_kept c.self.inside.serializer.kept c.self.inside.back) c.self.inside.slip c.self.inside.passes c.self.inside.token c.self.inside.short c.self.invariant
    c.in-Some.pass c.base_of.result.0 c.in-Ok.sent.fresh c.in-Ok.sent.bundle some number c.base_of.ensures c.in-Ok.ensures.fresh c.in-Ok.ensures.bundle))
