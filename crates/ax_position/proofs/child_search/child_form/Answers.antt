use Rattle.std.proofs.Common.{sym, ◌∙◌}
use Rattle.ax_rules.specs.Stitched.{stitched}
use Rattle.ax_position.proofs.Before.{child_bad}
use Rattle.ax_position.proofs.ChildSearches.{child_told, child_form_told, index_form}
use Rattle.ax_position.proofs.child_search.child_form.Goals as goal

pub returns-in-Err-clause-form : goal.returns-in-Err-clause-form
returns-in-Err-clause-form g c = index_form (stitched (g.G.Grove.forest c.args.g.now)) c.args.place.now c.args.child c.in-Err.count (sym c.in-Err.is ∙ c.child_before.ensures)

pub returns-in-Err-clause-refused : goal.returns-in-Err-clause-refused
returns-in-Err-clause-refused g c = sym (child_bad (stitched (g.G.Grove.forest c.args.g.now)) c.args.place.now c.args.child c.in-Err.count (sym c.in-Err.is ∙ c.child_before.ensures))

pub unwrap-form-requires : goal.unwrap-form-requires
unwrap-form-requires g c =
    (child_told (g.G.Grove.forest c.args.g.now) c.args.place.now c.args.child c.in-Ok.end c.searched_child-search.result c.on_child_leaf.result c.searched_child-search.ensures.sound c.requires.there c.requires.later
    (sym c.in-Ok.is ∙ c.child_before.ensures) c.searched_child-search.ensures.seen c.on_child_leaf.ensures).there

pub returns-clause-form : goal.returns-clause-form
returns-clause-form g c =
    child_form_told (g.G.Grove.forest c.args.g.now) c.args.place.now c.args.child c.on_child_leaf.result c.unwrap-form.result
    (child_told (g.G.Grove.forest c.args.g.now) c.args.place.now c.args.child c.in-Ok.end c.searched_child-search.result c.on_child_leaf.result c.searched_child-search.ensures.sound c.requires.there c.requires.later
    (sym c.in-Ok.is ∙ c.child_before.ensures) c.searched_child-search.ensures.seen c.on_child_leaf.ensures) (sym c.unwrap-form.ensures)
