use Rattle.std.proofs.Common.{◌∙◌, ◌++◌, ap, sym, refl, List, ℕ, reverse, arith, nat_eq}
use Rattle.std.specs.HashSet as bag
use Rattle.std.proofs.lemmas.List.{reverse-reverse}
use Rattle.ax_trees.specs.Lists.{contains}
use Rattle.ax_mirror.proofs.Lists.{unlisted_ext}
use Rattle.ax_mirror.proofs.stepping.change_of.Goals as goal

pub returns-clause-ok : goal.returns-clause-ok
returns-clause-ok c = record {
  once = sym c.in-Ok-None.ensures ∙ c.in-Ok-None.field-0-is;
  old = c.in-Ok-set_of.ensures;
  gone = ap reverse (c.in-Ok-push_reversed.ensures.ok ∙ ap (λ (js : List ℕ). js ++ reverse c.in-Ok-outside.out) c.new-gone.ensures) ∙ reverse-reverse c.in-Ok-outside.out ∙ c.in-Ok-outside.ensures
      ∙ unlisted_ext (bag.contains nat_eq c.in-Ok.listed) (contains c.args.children.now) c.args.entry.now.node.children c.in-Ok.ensures;
  above = refl;
  level = refl;
  inner = let e = c.in-Some.ensures in omega arith;
}
