use Rattle.std.proofs.Common.{◌≤◌, suc, sym, ap, subst, ◌∙◌, arith}
use Rattle.ax_trees.specs.Trees.{height}
use Rattle.ax_tree.specs.Serialised.{client_after_update, update_of}
use Rattle.ax_serializer.specs.Following.{begun, listings, lists_len, CanBegin}
use Rattle.ax_serializer.specs.Sending.{Sending, left_after}
use Rattle.ax_serializer.proofs.Marking.{all_unmarked, marked_as, same_sending}
use Rattle.ax_serializer.proofs.Takings.{accepted, can_begin, followed, stays_low, update_same}
use Rattle.ax_serializer.proofs.serializer.Serializer.serialize.Goals as goal

pub begin-requires-clause-there : goal.begin-requires-clause-there
begin-requires-clause-there c =
    subst (λ w. CanBegin c.in_ok-update.update.root c.in_ok-update.update.clear w) (sym c.in_ok-reserve.ensures.tree)
    (can_begin c.self.inside.client.tree c.args.s.now.tree c.marks.result.now c.args.d c.root-2.ensures.is_tree c.root.ensures.well_formed c.self.invariant c.root.ensures.low c.requires c.in_ok-update.update c.in_ok-update.ensures)

pub begin-requires-clause-room : goal.begin-requires-clause-room
begin-requires-clause-room c = let ok = c.in_ok-reserve.ensures.ok in let room = c.in_ok-room.ensures in omega (arith, ok, room)

pub follow-requires-clause-accepted : goal.follow-requires-clause-accepted
follow-requires-clause-accepted c =
    accepted c.self.inside.client.tree c.args.s.now.tree c.marks.result.now c.args.d c.root-2.ensures.is_tree c.root.ensures.well_formed c.self.invariant c.root.ensures.low c.requires c.in_ok-update.update c.in_ok-update.ensures
    c.begin.new.client.tree c.in_ok-lists.lists (c.begin.ensures.tree ∙ ap (begun c.in_ok-update.update.root c.in_ok-update.update.clear) c.in_ok-reserve.ensures.tree) (c.in_ok-lists.ensures ∙ ap listings c.as_slice.ensures)

pub follow-requires-clause-room : goal.follow-requires-clause-room
follow-requires-clause-room c =
    let ok = c.in_ok-reserve.ensures.ok in
    let room = c.in_ok-room.ensures ∙ ap (λ ls. suc (lists_len ls)) c.as_slice-2.ensures in
    omega (arith, ok, room, c.begin.ensures.room)

pub invariant_of-self : goal.invariant_of-self
invariant_of-self c = subst (λ w. height w ≤ 256) (sym c.in_err-reserve.ensures.tree) c.self.invariant

pub invariant_of-self-2 : goal.invariant_of-self-2
invariant_of-self-2 c =
    let is = followed c.self.inside.client.tree c.args.s.now.tree c.marks.result.now c.args.d c.root-2.ensures.is_tree c.root.ensures.well_formed c.self.invariant c.root.ensures.low c.requires c.in_ok-update.update c.in_ok-update.ensures
    c.begin.new.client.tree c.in_ok-lists.lists (c.begin.ensures.tree ∙ ap (begun c.in_ok-update.update.root c.in_ok-update.update.clear) c.in_ok-reserve.ensures.tree) (c.in_ok-lists.ensures ∙ ap listings c.as_slice.ensures) in
    subst (λ w. height w ≤ 256) (sym (c.follow.ensures ∙ is))
    (stays_low c.self.inside.client.tree c.args.s.now.tree c.marks.result.now c.args.d c.root-2.ensures.is_tree c.root.ensures.well_formed c.self.invariant c.root.ensures.low c.requires c.in_ok-update.update c.in_ok-update.ensures)

pub returns-clause-client : goal.returns-clause-client
returns-clause-client c =
    let is = followed c.self.inside.client.tree c.args.s.now.tree c.marks.result.now c.args.d c.root-2.ensures.is_tree c.root.ensures.well_formed c.self.invariant c.root.ensures.low c.requires c.in_ok-update.update c.in_ok-update.ensures
    c.begin.new.client.tree c.in_ok-lists.lists (c.begin.ensures.tree ∙ ap (begun c.in_ok-update.update.root c.in_ok-update.update.clear) c.in_ok-reserve.ensures.tree) (c.in_ok-lists.ensures ∙ ap listings c.as_slice.ensures) in
    same_sending _ _ _ _
    (c.follow.ensures ∙ is ∙ ap (λ m. client_after_update c.self.inside.client.tree (update_of c.self.inside.client.tree c.args.s.now.tree m c.args.d)) c.marks.ensures.marks
    ∙ ap (λ (v : Sending). client_after_update v.client (update_of v.client c.args.s.now.tree c.args.s.now.marks c.args.d)) c.self.view_is)
    (ap (λ (v : Sending). v.kept) c.self.view_is)

pub returns-clause-marks : goal.returns-clause-marks
returns-clause-marks c =
    let e = update_same c.self.inside.client.tree c.args.self.now.client c.args.s.now.tree c.marks.result.now c.args.s.now.marks c.args.d c.in_ok-update.update c.in_ok-update.ensures (ap (λ (v : Sending). v.client) c.self.view_is) c.marks.ensures.marks in
    all_unmarked c.unmark.new.self c.unmark_listed.new.s c.args.s.now c.in_ok-update.update _ c.args.d
    (marked_as c.unmark_listed.new.s c.args.s.now _ _ c.unmark_listed.ensures (ap (λ ns. left_after ns c.args.s.now.marks) c.as_slice-3.ensures)) c.unmark.ensures e

pub returns-clause-update : goal.returns-clause-update
returns-clause-update c =
    update_same c.self.inside.client.tree c.args.self.now.client c.args.s.now.tree c.marks.result.now c.args.s.now.marks c.args.d c.in_ok-update.update c.in_ok-update.ensures (ap (λ (v : Sending). v.client) c.self.view_is) c.marks.ensures.marks
