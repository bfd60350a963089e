use Rattle.std.proofs.Common.{nat_eq, cond, Some, sym, ap, ◌∙◌, arith}
use Rattle.std.specs.Prelude.{is_some}
use Rattle.std.proofs.lemmas.Bool.{false≢true}
use Rattle.std.specs.HashMap.{get}
use Rattle.ax_views.proofs.Climbing.{is_above}
use Rattle.ax_views.proofs.Walking.{there_from, absent_from}
use Rattle.ax_order.specs.declared.marks.Branches.TheVariants.{Nothing, One}
use Rattle.ax_order.specs.Marks.{with_branch}
use Rattle.ax_order.proofs.Marking.{Puts, puts, put_grows, put_here, open_begins, open_next, open_meets, open_ends}
use Rattle.ax_order.proofs.marks.mark.Goals as goal

pub returns-in-None-clause-marked : goal.returns-in-None-clause-marked
returns-in-None-clause-marked g c h = absurd (false≢true (sym (absent_from _ c.args.id c.in-None.ensures) ∙ h))

pub loop-above-init : goal.loop-above-init
loop-above-init g c =
    let p : Puts (get nat_eq c.args.marks.now) (get nat_eq c.put.new.marks) c.args.id Nothing = puts _ _ _ _ c.in_ok-put.ensures in
    record {
      open' = open_begins _ _ _ c.args.id c.requires (there_from _ c.args.id _ c.in-Some.ensures) (sym c.in-None-branches_at.ensures) p;
      grows = put_grows p;
      marked = ap is_some (put_here p);
    }

pub returns-in-Some-branches_at-2-clause-marking : goal.returns-in-Some-branches_at-2-clause-marking
returns-in-Some-branches_at-2-clause-marking g c =
    let p : Puts (get nat_eq c.loop-above.marks) (get nat_eq c.put-in-Some-branches_at-2.new.marks) c.in-Some-parent.above (with_branch c.in-Some-branches_at-2.known c.loop-above.at) =
    puts _ _ _ _ (λ z. c.in_ok-put-in-Some-branches_at-2.ensures z ∙ ap (λ b. cond (nat_eq c.in-Some-parent.above z) (Some b) (get nat_eq c.loop-above.marks z)) c.with.ensures) in
    open_meets _ _ _ c.loop-above.at c.in-Some-parent.above c.in-Some-branches_at-2.known c.loop-above.invariant.open' (sym c.in-Some-parent.ensures) (sym c.in-Some-branches_at-2.ensures) p

pub loop-above-smaller : goal.loop-above-smaller
loop-above-smaller g c =
    let a = is_above (g.T.TreeView.tree c.args.t.now).trees c.loop-above.at c.in-Some-parent.above c.root.ensures.well_formed.distinct (sym c.in-Some-parent.ensures) in
    omega (arith, a.deep)

pub loop-above-preserved : goal.loop-above-preserved
loop-above-preserved g c =
    let a = is_above (g.T.TreeView.tree c.args.t.now).trees c.loop-above.at c.in-Some-parent.above c.root.ensures.well_formed.distinct (sym c.in-Some-parent.ensures) in
    let p : Puts (get nat_eq c.loop-above.marks) (get nat_eq c.put-in-None-branches_at-2.new.marks) c.in-Some-parent.above (One c.loop-above.at) = puts _ _ _ _ c.in_ok-put-in-None-branches_at-2.ensures in
    record {
      open' = open_next _ _ _ c.loop-above.at c.in-Some-parent.above c.loop-above.invariant.open' (sym c.in-Some-parent.ensures) a.up (sym c.in-None-branches_at-2.ensures) p;
      grows = λ z h. put_grows p z (c.loop-above.invariant.grows z h);
      marked = put_grows p _ c.loop-above.invariant.marked;
    }

pub returns-clause-marking : goal.returns-clause-marking
returns-clause-marking g c = open_ends _ (get nat_eq c.loop-above.marks) (get nat_eq c.loop-above.marks) c.loop-above.at c.loop-above.invariant.open' (sym c.in_default.ensures)
