-- The verdict rule at a live tree, by its tally.
use Rattle.std.proofs.Common.{◌≡◌, Bool, true, false, cond, not, ◌||◌, ◌==◌, List, sym, ap, ap₂, ◌∙◌}
use Rattle.ax_base.specs.declared.pass.PassNo.{PassNo}
use Rattle.ax_base.specs.declared.pass.Token.{Token}
use Rattle.ax_tree.specs.declared.packet.HEntry.{HEntry}
use Rattle.ax_tree.specs.declared.packet.Packet.{Packet}
use Rattle.ax_tree.specs.declared.verdict.Event.{Event}
use Rattle.ax_tree.specs.declared.verdict.Verdict.{Verdict}
use Rattle.ax_tree.specs.declared.verdict.Verdict.TheVariants.{Applied, Stale, Gap, Gone}
use Rattle.ax_rules.specs.Histories.{is_gone, token_of, applied_pass, verdict_at}
use Rattle.ax_forest.specs.declared.tally.Tally.{Tally}
use Rattle.ax_forest.specs.Tallied.{IsTallyOf}

pub verdict_of_tests : Bool → Bool → Token → Token → PassNo → PassNo → PassNo → List Event → Verdict
verdict_of_tests fresh near had want base at pass told = cond (not fresh) (Stale had want) (cond (not near) (Gap base at) (Applied pass told))

module _ (h : List HEntry) (p : Packet) (told : List Event) (y : Tally) (live : is_gone h p.tree ≡ false) (i : IsTallyOf h p.tree y) where
  verdict_is : verdict_at h (applied_pass h p.tree) p told ≡ verdict_of_tests (p.token.0 == y.token.0) (p.base.0 == 0 || p.base.0 == y.at.0) p.token y.token p.base y.at p.pass told
  unfolding verdict_at verdict_of_tests
  verdict_is =
      ap (λ g. cond g Gone (verdict_of_tests (p.token.0 == token_of h p.tree) (p.base.0 == 0 || p.base.0 == applied_pass h p.tree) p.token (record { 0 = token_of h p.tree }) p.base (record { 0 = applied_pass h p.tree }) p.pass told)) live
      ∙ ap₂ (λ n a. verdict_of_tests (p.token.0 == n) (p.base.0 == 0 || p.base.0 == a) p.token (record { 0 = n }) p.base (record { 0 = a }) p.pass told) (sym i.token) (sym i.at)

  pub is_stale : (p.token.0 == y.token.0) ≡ false → verdict_at h (applied_pass h p.tree) p told ≡ Stale p.token y.token
  unfolding verdict_of_tests
  is_stale e = verdict_is ∙ ap (λ b. verdict_of_tests b (p.base.0 == 0 || p.base.0 == y.at.0) p.token y.token p.base y.at p.pass told) e

  pub is_gap : (p.token.0 == y.token.0) ≡ true → (p.base.0 == 0 || p.base.0 == y.at.0) ≡ false → verdict_at h (applied_pass h p.tree) p told ≡ Gap p.base y.at
  unfolding verdict_of_tests
  is_gap e f = verdict_is ∙ ap₂ (λ b c. verdict_of_tests b c p.token y.token p.base y.at p.pass told) e f

  pub is_applied : (p.token.0 == y.token.0) ≡ true → (p.base.0 == 0 || p.base.0 == y.at.0) ≡ true → verdict_at h (applied_pass h p.tree) p told ≡ Applied p.pass told
  unfolding verdict_of_tests
  is_applied e f = verdict_is ∙ ap₂ (λ b c. verdict_of_tests b c p.token y.token p.base y.at p.pass told) e f
