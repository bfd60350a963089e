use Rattle.std.proofs.Common.{◌≡◌, ℕ, Bool, OnOk, IfOk, not, cond, List, [], ◌∷◌, ◌++◌, sym, ap, subst, ◌∙◌}
use Rattle.ax_trees.specs.Lists.{contains}
use Rattle.ax_tree.specs.Touching.{with_id}
use Rattle.ax_tree.proofs.TouchingLemmas.{contains_any, none_twice}
use Rattle.ax_tree.proofs.touching.Touched.add.Goals as goal
use Rattle.ax_tree.proofs.touching.Touched.add.Goals.{in-Ok, in-Err}

pub invariant_of-self : goal.invariant_of-self
invariant_of-self c = none_twice _ c.insert.ensures.unique

pub returns-clause-ok : goal.returns-clause-ok
returns-clause-ok c =
    let ids : List ℕ = c.self.inside.ids.keys in
    elim c.match-insert.branch [
      | in-Ok w ↦
          subst (λ r. OnOk r (c.insert.new.self.keys ≡ with_id c.args.self.now c.args.id)) (sym w.result-is)
          (w.in-Ok.ensures.keys ∙ ap (λ b. cond b ids (ids ++ c.args.id ∷ [])) (contains_any ids c.args.id) ∙ ap (λ js. with_id js c.args.id) c.self.view_is)
      | in-Err w ↦ subst (λ r. OnOk r (c.insert.new.self.keys ≡ with_id c.args.self.now c.args.id)) (sym w.result-is) tt
    ]

pub returns-clause-new : goal.returns-clause-new
returns-clause-new c =
    let ids : List ℕ = c.self.inside.ids.keys in
    elim c.match-insert.branch [
      | in-Ok w ↦
          subst (λ r. IfOk r (λ (b : Bool). b ≡ not (contains c.args.self.now c.args.id))) (sym w.result-is)
          (w.in-Ok.ensures.added ∙ ap not (contains_any ids c.args.id ∙ ap (λ js. contains js c.args.id) c.self.view_is))
      | in-Err w ↦ subst (λ r. IfOk r (λ (b : Bool). b ≡ not (contains c.args.self.now c.args.id))) (sym w.result-is) tt
    ]
