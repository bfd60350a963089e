-- What a packet makes of what is kept of a forest.
use Rattle.std.proofs.Common.{ℕ, ◌≡◌, inl, inr, true, false, cond, ◌==◌, nat_eq, List, [], ◌∷◌, ◌++◌, Option, Some, Ok, Err, refl, sym, ap, subst, ◌∙◌, arith}
use Rattle.std.proofs.lemmas.Bool.{eqb-true, false≢true}
use Rattle.ax_base.specs.declared.pass.Token.{Token}
use Rattle.ax_trees.proofs.Trees.{by_go}
use Rattle.ax_trees.specs.Lists.{contains}
use Rattle.ax_tree.specs.declared.packet.HEntry.{HEntry}
use Rattle.ax_tree.specs.declared.packet.HEntry.TheVariants.{Got}
use Rattle.ax_tree.specs.declared.packet.Packet.{Packet}
use Rattle.ax_tree.specs.declared.update.BundleErr.{BundleErr}
use Rattle.ax_tree.specs.declared.verdict.Verdict.{Verdict}
use Rattle.ax_tree.specs.declared.verdict.Verdict.TheVariants.{Applied, Stale, Gap, Gone}
use Rattle.ax_tree.specs.Tree.{Tree}
use Rattle.ax_tree.specs.Forest.{Forest}
use Rattle.ax_mirror.specs.Mirrors.{BrokenAs}
use Rattle.ax_rules.specs.Histories.{is_gone, token_of, applied_pass, pass_after, verdict_at, is_applied}
use Rattle.ax_rules.specs.Mirrors.{tree_or, built_of, built_by, built_or, built_forest_of, built_verdict_of}
use Rattle.ax_rules.proofs.Appends.{is_gone-append, applied_pass-append, built-append}
use Rattle.ax_rules.proofs.Tokens.{token-append}
use Rattle.ax_forest_laws.proofs.Forests.{each_entry_retells}
use Rattle.ax_managers.specs.Telling.{retold}
use Rattle.ax_forest.specs.declared.tally.Tally.{Tally}
use Rattle.ax_forest.specs.declared.judging.Renewed.{Renewed}
use Rattle.ax_forest.specs.declared.fate.Fate.{Fate}
use Rattle.ax_forest.specs.declared.fate.Fate.TheVariants as fate
use Rattle.ax_forest.specs.declared.answers.ForestErr.{ForestErr}
use Rattle.ax_forest.specs.declared.answers.ForestErr.TheVariants.{NoTree, AlreadyGone, Refused, NoMemory}
use Rattle.ax_forest.specs.ById.{at_id, Puts}
use Rattle.ax_forest.specs.Tallied.{IsTallyOf, IsTallied, IsPast}
use Rattle.ax_forest.specs.Fates.{bundle_gives, IsTold, Renews, IsFate, IsTaken, IsWhy, IsWhyLive, IsWhyBroken}
use Rattle.ax_forest.proofs.Pasts.{Unsaid, or_false, same_either, tally_stays, all_stays}

-- why the bundle of a packet that would be applied is refused
pub why_live : (h : List HEntry) (p : Packet) (e : BundleErr) (f : ForestErr) → is_applied (built_verdict_of h p) ≡ true → IsWhyBroken e f → BrokenAs e (bundle_gives h p) → IsWhyLive h p f
why_live h p e (NoTree t) a w b = absurd w
why_live h p e (AlreadyGone t) a w b = absurd w
why_live h p e (Refused d) a w (inl n) = absurd (w.1 n)
why_live h p e (Refused d) a w (inr q) = record { is = a; gives = q ∙ ap (λ x. Err x) (sym w.0) }
why_live h p e NoMemory a w b = tt

pub why_of_live : (ts : List ℕ) (h : List HEntry) (p : Packet) (f : ForestErr) → contains ts p.tree ≡ true → IsWhyLive h p f → IsWhy ts h p f
why_of_live ts h p (NoTree t) c w = absurd w
why_of_live ts h p (AlreadyGone t) c w = absurd w
why_of_live ts h p (Refused e) c w = (c, w)
why_of_live ts h p NoMemory c w = c

-- ---- what a packet says of the trees

got_gone : (h : List HEntry) (p : Packet) (t : ℕ) → is_gone (h ++ Got p ∷ []) t ≡ is_gone h t
got_gone h p t = is_gone-append h (Got p) t ∙ or_false (is_gone h t)

got_token : (h : List HEntry) (p : Packet) (t : ℕ) → token_of (h ++ Got p ∷ []) t ≡ token_of h t
got_token h p t = token-append h (Got p) t ∙ same_either (is_gone h t) (token_of h t)

idle_pass : (at : ℕ) (v : Verdict) → is_applied v ≡ false → pass_after at v ≡ at
unfolding is_applied
idle_pass at (Applied n es) e = absurd (false≢true (sym e))
idle_pass at (Stale a b) e = refl
idle_pass at (Gap a b) e = refl
idle_pass at Gone e = refl

idle_built : (old : Tree) (p : Packet) (v : Verdict) → is_applied v ≡ false → built_or old p v ≡ old
unfolding is_applied
idle_built old p (Applied n es) e = absurd (false≢true (sym e))
idle_built old p (Stale a b) e = refl
idle_built old p (Gap a b) e = refl
idle_built old p Gone e = refl

-- a packet of another tree says nothing of t
other_unsaid : (h : List HEntry) (p : Packet) (t : ℕ) → (p.tree == t) ≡ false → Unsaid h (Got p) t
other_unsaid h p t q = record {
  gone = got_gone h p t;
  token = got_token h p t;
  at = applied_pass-append h (Got p) t ∙ ap (λ b. cond b (pass_after (applied_pass h t) (verdict_at h (applied_pass h t) p [])) (applied_pass h t)) q;
  built = built-append h (Got p) t ∙ ap (λ b. cond b (built_or (built_of h t) p (verdict_at h (applied_pass h t) p [])) (built_of h t)) q;
}

module _ (h : List HEntry) (p : Packet) (v : Verdict) (told : verdict_at h (applied_pass h p.tree) p [] ≡ v) where
  same_tree : (p.tree == p.tree) ≡ true
  same_tree = grind arith

  now_pass : applied_pass (h ++ Got p ∷ []) p.tree ≡ pass_after (applied_pass h p.tree) v
  now_pass =
      applied_pass-append h (Got p) p.tree
      ∙ (ap (λ b. cond b (pass_after (applied_pass h p.tree) (verdict_at h (applied_pass h p.tree) p [])) (applied_pass h p.tree)) same_tree ∙ ap (pass_after (applied_pass h p.tree)) told)

  now_built : built_of (h ++ Got p ∷ []) p.tree ≡ built_or (built_of h p.tree) p v
  now_built =
      built-append h (Got p) p.tree
      ∙ (ap (λ b. cond b (built_or (built_of h p.tree) p (verdict_at h (applied_pass h p.tree) p [])) (built_of h p.tree)) same_tree ∙ ap (built_or (built_of h p.tree) p) told)

-- ---- a verdict without a change

told_unsaid : (h : List HEntry) (p : Packet) (v : Verdict) → IsTold h p v → Unsaid h (Got p) p.tree
told_unsaid h p v k = record {
  gone = got_gone h p p.tree;
  token = got_token h p p.tree;
  at = now_pass h p v (k.is []) ∙ idle_pass (applied_pass h p.tree) v k.idle;
  built = now_built h p v (k.is []) ∙ idle_built (built_of h p.tree) p v k.idle;
}

pub told_stays : (f : Forest) (ys : List (Option Tally)) (ts : List ℕ) (h : List HEntry) (p : Packet) (v : Verdict) → IsTold h p v → IsPast f ys ts h → IsPast f ys ts (h ++ Got p ∷ [])
told_stays f ys ts h p v k =
    all_stays f ys ts h (Got p) (λ t. by_go (p.tree == t) (λ q. subst (λ (u : ℕ). Unsaid h (Got p) u) (eqb-true p.tree t q) (told_unsaid h p v k)) (λ q. other_unsaid h p t q))

pub told_verdict : (h : List HEntry) (p : Packet) (v : Verdict) → IsTold h p v → v ≡ built_verdict_of h p
unfolding built_verdict_of
told_verdict h p v k = sym (k.is _)

-- the packet of an ended tree
pub gone_told : (h : List HEntry) (p : Packet) → is_gone h p.tree ≡ true → IsTold h p Gone
unfolding verdict_at is_applied
gone_told h p g = record { is = λ told. rw g refl; idle = refl }

-- ---- an applied packet

module _ (h : List HEntry) (p : Packet) (r : Renewed) (token : Token) (k : Renews h p r token) where
  pub renewed_built : built_of (h ++ Got p ∷ []) p.tree ≡ r.mirror
  unfolding built_by
  renewed_built = now_built h p (Applied p.pass []) (k.is []) ∙ ap (tree_or (built_of h p.tree)) k.gives

  renewed_tally : IsTallyOf (h ++ Got p ∷ []) p.tree (record { token = token; at = p.pass })
  renewed_tally = record { token = k.asked ∙ sym (got_token h p p.tree); at = sym (now_pass h p (Applied p.pass []) (k.is [])) }

  module _ (f g : Forest) (ys zs : List (Option Tally)) (ts : List ℕ) (c : contains ts p.tree ≡ true) (told : g ≡ retold p.tree r.mirror f)
      (puts : Puts p.tree (Some (record { token = token; at = p.pass })) ys zs) where
    forest_now : built_forest_of ts (h ++ Got p ∷ []) ≡ retold p.tree r.mirror (built_forest_of ts h)
    forest_now =
        each_entry_retells ts h (Got p)
        ∙ (ap (λ b. cond b (built_forest_of ts h) (retold p.tree (built_of (h ++ Got p ∷ []) p.tree) (built_forest_of ts h))) k.live
        ∙ ap (λ (m : Tree). retold p.tree m (built_forest_of ts h)) renewed_built)

    pub renews : IsPast f ys ts h → IsPast g zs ts (h ++ Got p ∷ [])
    renews i = record {
      stands = told ∙ (ap (retold p.tree r.mirror) i.stands ∙ sym forest_now);
      tallied = λ u. subst (λ (o : Option Tally). IsTallied ts (h ++ Got p ∷ []) u o) (sym (puts u))
          (by_go (nat_eq p.tree u)
          (λ q. rw q (subst (λ (t : ℕ). IsTallied ts (h ++ Got p ∷ []) t (Some (record { token = token; at = p.pass }))) (eqb-true p.tree u q) (c, renewed_tally)))
          (λ q. rw q (tally_stays ts h (Got p) u (at_id ys u) (got_token h p u) (other_unsaid h p u q).at (i.tallied u))));
    }

pub taken : (ts : List ℕ) (h : List HEntry) (p : Packet) (f : Fate) → IsFate ts h p f → IsTaken ts h p
taken ts h p (fate.Told v) k = record { known = k.0; gives = λ a. absurd (false≢true (sym k.1.idle ∙ (ap is_applied (told_verdict h p v k.1) ∙ a))) }
taken ts h p (fate.Renewed r token) k = record { known = k.0; gives = λ a. k.1.gives ∙ ap Ok (sym (renewed_built h p r token k.1)) }
