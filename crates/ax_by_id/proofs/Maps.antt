-- What a finite map by numbers has after a change.
use Rattle.std.proofs.Common.{◌≡◌, ℕ, cond, eqb, Some, None, ap, ◌∙◌}
use Rattle.std.specs.Ordering.{nat_cmp}
use Rattle.std.specs.Cmp.{nat_cmp_total}
use Rattle.std.specs.FinMap.{FinMap, get, insert, remove, get-insert, get-remove}
use Rattle.ax_pages.proofs.TableLemmas.{cmp_is}

module _ {X : Type 0} (m : FinMap nat_cmp X) (id : ℕ) where
  pub put_at : (x : X) (q : ℕ) → get (insert m id x) q ≡ cond (eqb id q) (Some x) (get m q)
  put_at x q = get-insert nat_cmp_total m id x q ∙ ap (λ b. cond b (Some x) (get m q)) (cmp_is q id)

  pub out_at : (q : ℕ) → get (remove m id) q ≡ cond (eqb id q) None (get m q)
  out_at q = get-remove nat_cmp_total m id q ∙ ap (λ b. cond b None (get m q)) (cmp_is q id)
