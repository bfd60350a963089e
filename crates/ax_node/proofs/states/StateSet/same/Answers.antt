use Rattle.std.proofs.Common.{◌≡◌, sym, ◌∙◌}
use Rattle.std.proofs.lemmas.Bool.Decides.{Decides-eqb}
use Rattle.std.proofs.lemmas.Slice.Eq.{slice_eq-Decides}
use Rattle.ax_node.proofs.states.StateSet.same.Goals as goal

pub returns : goal.returns
returns c =
    let one : c.as_slice.result.now ≡ c.args.self.now = c.as_slice.ensures.value ∙ c.self.view_is in
    let two : c.as_slice-2.result.now ≡ c.args.other.now = c.as_slice-2.ensures.value ∙ c.other.view_is in
    let told = slice_eq-Decides Decides-eqb _ _ _ c.eq.ensures in
    (λ t. sym one ∙ told.0 t ∙ two, λ e. told.1 (one ∙ e ∙ sym two))
