use Rattle.std.proofs.Common.{ℕ, Vec, Global, ap, sym, subst, ◌∙◌}
use Rattle.ax_trees.specs.Lists.{NoneTwice}
use Rattle.ax_script.specs.declared.script.Script.{Script}
use Rattle.ax_run_rules.specs.States.{start}
use Rattle.ax_core.specs.Starting.{CanRun, script_in}
use Rattle.ax_forest.specs.Past.{Past}
use Rattle.ax_top.specs.Gen.{nodes_of}
use Rattle.ax_top.proofs.Counting.{counts_heard}
use Rattle.ax_top.proofs.Made.{made_runs, gen_is}
use Rattle.ax_top.proofs.making.gen_text.Goals as goal

pub new-requires : goal.new-requires
new-requires c = subst CanRun (sym c.in_ok-script.ensures) (made_runs c.args.seed c.args.frames c.args.ops c.requires.some)

pub nodes_of-requires : goal.nodes_of-requires
nodes_of-requires c = subst (λ (p : Past). NoneTwice p.trees) (sym c.forest.ensures.past) c.forest.ensures.stands.apart

pub returns : goal.returns
returns c =
    let told = c.in_ok-tell_finale.ensures.done in
    gen_is c.args.seed c.args.frames c.args.ops c.in_ok-nodes.nodes c.deref.result.now _ _ c.in_ok-core.core c.tell_finale.new.self told.lines c.tell_finale.new.listener
    (c.in_ok-core.ensures.state ∙ ap (λ (s : Script). start (script_in s)) c.in_ok-script.ensures) (told.ruled c.in_ok-core.ensures.whole)
    (counts_heard c.no_counts-counts.result c.tell_finale.new.listener told.lines c.no_counts-counts.ensures told.told) (c.in_ok-nodes.ensures ∙ ap nodes_of c.forest.ensures.mirrors)
    (c.deref.ensures ∙ c.in_ok-head.ensures.ok) c.in_ok-line.ensures (ap (λ (v : Vec ℕ Global). v.items) c.into_bytes.ensures.value)
