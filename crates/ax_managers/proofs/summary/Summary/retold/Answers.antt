use Rattle.std.proofs.Common.{◌∙◌, ap, sym, subst}
use Rattle.ax_node.specs.declared.tree_data.TreeData.{TreeData}
use Rattle.ax_trees.specs.Lists.{contains}
use Rattle.ax_managers.specs.Indexes.{IsOf}
use Rattle.ax_managers.specs.Managed.{IsToldOf}
use Rattle.ax_managers.specs.Shown.{Agrees}
use Rattle.ax_managers.proofs.Indexes.{still_of}
use Rattle.ax_managers.proofs.Shown.{index_of, told_of}
use Rattle.ax_managers.proofs.summary.Summary.retold.Goals as goal

pub returns-then-stays-clause-of : goal.returns-then-stays-clause-of
returns-then-stays-clause-of g c n told h =
    let new = g.T.TreeView.tree c.args.t.now in
    let s = c.self.inside in
    let was : IsOf n s.index = index_of n s.rooted s.parent s.index (subst (IsToldOf n) (sym c.self.view_is) told) in
    let is : IsOf new s.index = still_of s.index new n c.args.touched.now was h c.root.ensures.well_formed (c.stays.ensures.calm c.if-stays.true)
    (λ z t. c.in_ok-renamed.ensures z t (ap (λ xs. contains xs z) (c.is_empty.ensures.0 c.if-is_empty.true))) in
    subst (IsToldOf new) c.self.view_is (told_of new s.rooted s.parent s.index (c.stays.ensures.rooted c.if-stays.true) (c.stays.ensures.parent c.if-stays.true) is)

pub returns-then-stays-clause-agrees : goal.returns-then-stays-clause-agrees
returns-then-stays-clause-agrees g c = subst Agrees c.self.view_is c.self.invariant.hosting

pub returns-clause-of : goal.returns-clause-of
returns-clause-of g c n told h =
    let new = g.T.TreeView.tree c.args.t.now in
    let s = c.self.inside in
    let was : IsOf n s.index = index_of n s.rooted s.parent s.index (subst (IsToldOf n) (sym c.self.view_is) told) in
    let is : IsOf new c.in_ok-index.index = c.in_ok-index.ensures.of n c.args.touched.now was c.self.invariant h
    (λ z t q. c.in_ok-renamed.ensures z t (ap (λ xs. contains xs z) (sym c.as_slice.ensures) ∙ q)) in
    told_of new c.has_root-rooted.result c.tree_data.result.now.parent c.in_ok-index.index c.has_root-rooted.ensures (ap (λ (d : TreeData). d.parent) c.tree_data.ensures) is

pub returns-clause-agrees : goal.returns-clause-agrees
returns-clause-agrees g c = (c.in_ok-index.ensures.sound c.self.invariant).hosting
