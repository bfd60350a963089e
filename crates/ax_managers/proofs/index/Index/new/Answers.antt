use Rattle.std.proofs.Common.{◌≡◌, ℕ, ◌∙◌, nat_eq, Option, Some, None, sym, ap}
use Rattle.std.specs.Ordering.{nat_cmp}
use Rattle.std.specs.HashMap.{get}
use Rattle.std.specs.FinMap as fin
use Rattle.ax_order.specs.Marks.{is_marked}
use Rattle.ax_managers.proofs.Watching.{none_watched, watching_none}
use Rattle.ax_managers.proofs.index.Index.new.Goals as goal

pub returns-clause-of : goal.returns-clause-of
returns-clause-of c t = record {
  names = λ z. ap (λ m. fin.get m z) c.new.ensures ∙ fin.get-empty nat_cmp z;
  firsts = λ u. ap (λ m. fin.get m u) c.new-2.ensures ∙ fin.get-empty nat_cmp u;
  watching = watching_none t (is_marked (get nat_eq c.new-4.result)) (none_watched c.new-4.result c.new-4.ensures.len);
}

pub returns-clause-sound : goal.returns-clause-sound
returns-clause-sound c = record {
  hosting = λ u z e. absurd (let no : ◌≡◌ {A = Option ℕ} None (Some z) = sym (ap (λ m. fin.get m u) c.new-2.ensures ∙ fin.get-empty nat_cmp u) ∙ e in cc);
  listed = λ z u e n. absurd (let no : ◌≡◌ {A = Option ℕ} None (Some u) = sym (ap (λ m. fin.get m z) c.new.ensures ∙ fin.get-empty nat_cmp z) ∙ e in cc);
}
