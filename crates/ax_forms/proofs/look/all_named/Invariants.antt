use Rattle.std.proofs.Common.{◌≡◌}
use Rattle.serde_json.specs.View.{members_view}
use Rattle.ax_forms.specs.Looks.{all_named, is_attr}
use Rattle.ax_forms.proofs.Attrs.{names_pass}
use Rattle.ax_forms.proofs.look.all_named.Given as goal

abbrev pub invariant-loop-name : goal.invariant-loop-name
invariant-loop-name l = names_pass (is_attr l.version) l.name-iterator ≡ all_named (is_attr l.version) (members_view l.members.entries)
