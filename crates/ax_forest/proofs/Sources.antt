-- Where the packets of a tree are good, the verdict is that of the sources, and no bundle is refused.
use Rattle.std.proofs.Common.{ℕ, ◌≡◌, Bool, true, false, cond, ◌==◌, List, [], ◌∷◌, ◌++◌, filter_map, Option, Some, None, Ok, Err, refl, sym, ap, subst, ◌∙◌, arith}
use Rattle.ax_tree.specs.declared.packet.HEntry.{HEntry}
use Rattle.ax_tree.specs.declared.packet.HEntry.TheVariants.{Got}
use Rattle.ax_tree.specs.declared.packet.Packet.{Packet}
use Rattle.ax_tree.specs.declared.update.BundleErr.{BundleErr}
use Rattle.ax_tree.specs.Packets.{IsGood}
use Rattle.ax_rules.specs.Histories.{got, is_applied}
use Rattle.ax_rules.specs.Mirrors.{mirror_of}
use Rattle.ax_rules.proofs.Building.{bundles_build, verdicts_agree, applied_accepted, got_then}
use Rattle.ax_forest.specs.declared.answers.ForestErr.{ForestErr}
use Rattle.ax_forest.specs.declared.answers.ForestErr.TheVariants.{NoTree, AlreadyGone, Refused, NoMemory}
use Rattle.ax_forest.specs.Fates.{ContinuesGood, IsOfSource, IsRefused, IsWhy, IsNoRefusal}

one_got : (p : Packet) → got (Got p ∷ []) p.tree ≡ p ∷ []
unfolding got
one_got p = by (p.tree == p.tree) (grind arith)
  where
    by : (b : Bool) → b ≡ true → filter_map (λ (o : Option Packet). o) (cond b (Some p) None ∷ []) ≡ p ∷ []
    by true e = refl
    by false e = absurd (let no : ⊥ = cc in no)

pub is_of_source : (h : List HEntry) (p : Packet) → ContinuesGood h p → IsOfSource h p
is_of_source h p good = record {
  verdict = verdicts_agree h p good;
  source = bundles_build (h ++ Got p ∷ []) p.tree (subst (IsGood p.tree) (sym (got_then h p)) good);
}

never_refused : (h : List HEntry) (p : Packet) → ContinuesGood h p → (e : BundleErr) → IsRefused h p e → ⊥
never_refused h p good e r =
    let ok = applied_accepted h p good (ap is_applied (sym (verdicts_agree h p good)) ∙ r.is) in
    let no : Err e ≡ Ok (mirror_of (h ++ Got p ∷ []) p.tree) = sym r.gives ∙ ok in
    let bad : ⊥ = cc in bad

pub no_refusal : (ts : List ℕ) (h : List HEntry) (p : Packet) (e : ForestErr) → IsWhy ts h p e → ContinuesGood h p → IsNoRefusal e
no_refusal ts h p (NoTree t) w good = tt
no_refusal ts h p (AlreadyGone t) w good = tt
no_refusal ts h p (Refused e) w good = never_refused h p good e w.1
no_refusal ts h p NoMemory w good = tt
