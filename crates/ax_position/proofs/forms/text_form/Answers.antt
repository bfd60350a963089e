use Rattle.std.proofs.Common.{sym, ap, ◌∙◌, arith}
use Rattle.std.specs.Prelude.{Ok}
use Rattle.ax_position.specs.Forms.{if_some}
use Rattle.ax_position.proofs.LeafForms.{form_bad, form_refused, form_good, form_there}
use Rattle.ax_position.proofs.Sought.{form_told}
use Rattle.ax_position.proofs.forms.text_form.Goals as goal

pub returns-then-offset-search-clause-form : goal.returns-then-offset-search-clause-form
returns-then-offset-search-clause-form g c =
    form_bad (g.G.Grove.forest c.args.g.now) c.args.place.now c.args.offset c.args.affinity.now c.searched-search.result c.searched-search.ensures.sound c.requires c.searched-search.ensures.seen (omega arith)

pub returns-then-offset-search-clause-refused : goal.returns-then-offset-search-clause-refused
returns-then-offset-search-clause-refused g c =
    form_refused (g.G.Grove.forest c.args.g.now) c.args.place.now c.args.offset c.args.affinity.now c.searched-search.result c.searched-search.ensures.sound c.requires c.searched-search.ensures.seen (omega arith)

pub unwrap-form-requires : goal.unwrap-form-requires
unwrap-form-requires g c =
    form_there (g.G.Grove.forest c.args.g.now) c.args.place.now c.args.offset c.args.affinity.now c.searched-search.result c.on_leaf.result c.searched-search.ensures.sound c.requires c.searched-search.ensures.seen (omega arith)
    (form_told (g.G.Grove.forest c.args.g.now) c.args.place.now c.args.offset c.args.affinity.now c.searched-search.result c.on_leaf.result c.searched-search.ensures.sound c.requires c.searched-search.ensures.seen c.on_leaf.ensures)

pub returns-clause-form : goal.returns-clause-form
returns-clause-form g c =
    ap (λ o. if_some (Ok o)) (sym c.unwrap-form.ensures)
    ∙ form_good (g.G.Grove.forest c.args.g.now) c.args.place.now c.args.offset c.args.affinity.now c.searched-search.result c.on_leaf.result c.searched-search.ensures.sound c.requires c.searched-search.ensures.seen (omega arith)
    (form_told (g.G.Grove.forest c.args.g.now) c.args.place.now c.args.offset c.args.affinity.now c.searched-search.result c.on_leaf.result c.searched-search.ensures.sound c.requires c.searched-search.ensures.seen c.on_leaf.ensures)
