use Rattle.std.proofs.Common.{sym, subst}
use Rattle.ax_forest.specs.Tallied.{IsTallied}
use Rattle.ax_forest.proofs.Pasts.{past_live, past_gone}
use Rattle.ax_forest.proofs.Receipts.{gone_told, why_of_live}
use Rattle.ax_forest.proofs.Results.{if_ok, if_err}
use Rattle.ax_forest.proofs.fate.fate_of.Goals as goal

pub returns-in-Some-tree-clause-ok : goal.returns-in-Some-tree-clause-ok
returns-in-Some-tree-clause-ok g c = if_ok c.fate_at.result (λ f is ts h i.
    let t = c.args.packet.now.tree in
    let k = subst (IsTallied ts h t) (sym c.in-Some.ensures) (i.tallied t) in
    let l = past_live c.args.trees.now c.args.tallies.now ts h i t k.0 c.in-Some-tree.old.now (sym c.in-Some-tree.ensures.tree) in
    (k.0, is h (record { live = l.0; mirror = l.1; tally = k.1 })))
    c.fate_at.ensures.ok

pub returns-in-Some-tree-clause-err : goal.returns-in-Some-tree-clause-err
returns-in-Some-tree-clause-err g c = if_err c.fate_at.result (λ e is ts h i.
    let t = c.args.packet.now.tree in
    let k = subst (IsTallied ts h t) (sym c.in-Some.ensures) (i.tallied t) in
    let l = past_live c.args.trees.now c.args.tallies.now ts h i t k.0 c.in-Some-tree.old.now (sym c.in-Some-tree.ensures.tree) in
    why_of_live ts h c.args.packet.now e k.0 (is h (record { live = l.0; mirror = l.1; tally = k.1 })))
    c.fate_at.ensures.err

pub returns-in-None-clause-ok : goal.returns-in-None-clause-ok
returns-in-None-clause-ok g c = λ ts h i.
    let t = c.args.packet.now.tree in
    let k = subst (IsTallied ts h t) (sym c.in-Some.ensures) (i.tallied t) in
    (k.0, gone_told h c.args.packet.now (past_gone c.args.trees.now c.args.tallies.now ts h i t k.0 (sym c.in-None.ensures.tree)))
