-- What isn't touched stays, and what isn't made keeps its level.
use Rattle.std.proofs.Common.{◌≡◌, ◌⊎◌, ⊎_elim, not, ◌&&◌, ℕ, ◌+◌, ◌≤◌, Bool, true, false, cond, eqb, List, Option, Some, None, refl, sym, ap, subst, ◌∙◌, arith}
use Rattle.std.specs.FinMap as fin
use Rattle.ax_trees.specs.Lists.{contains}
use Rattle.ax_mirror.specs.declared.entries.Entry.{Entry}
use Rattle.ax_mirror.specs.declared.draft.Draft.{Draft}
use Rattle.ax_tree.specs.Touching.{with_id}
use Rattle.ax_mirror.specs.Steps.{Tracked, Makes, Unmade, TakesOut, Places}
use Rattle.ax_mirror.specs.Placed.{pending_entry}
use Rattle.ax_trees.proofs.Trees.{by_go}
use Rattle.std.proofs.lemmas.Bool.{eqb-true, false≢true}
use Rattle.ax_mirror.proofs.Lists.{contains_with}

pub track_start : (d : Draft) → Tracked d d
track_start d = record { same = λ z h. refl; grows = λ z h. h }

pub track_then : (d e f : Draft) → Tracked d e → Tracked e f → Tracked d f
track_then d e f a b = record {
  same = λ z h. b.same z h ∙ a.same z (not_yet z (contains e.touched z) refl h);
  grows = λ z h. b.grows z (a.grows z h);
}
  where
    not_yet : (z : ℕ) (c : Bool) → contains e.touched z ≡ c → contains f.touched z ≡ false → contains e.touched z ≡ false
    not_yet z true q h = let g = b.grows z q in absurd (cc)
    not_yet z false q h = q

-- one id is touched
pub track_touch : (d e : Draft) (i : ℕ) → ((z : ℕ) → eqb i z ≡ false → fin.get e.nodes z ≡ fin.get d.nodes z) → e.touched ≡ with_id d.touched i → Tracked d e
track_touch d e i w t = record {
  same = λ z h. w z (parts (eqb i z) (contains d.touched z) (sym (ap (λ xs. contains xs z) t ∙ contains_with d.touched i z) ∙ h));
  grows = λ z h. ap (λ xs. contains xs z) t ∙ contains_with d.touched i z ∙ or_more (eqb i z) (contains d.touched z) h;
}
  where
    parts : (b c : Bool) → cond b true c ≡ false → b ≡ false
    parts true c h = absurd (cc)
    parts false c h = refl

    or_more : (b c : Bool) → c ≡ true → cond b true c ≡ true
    or_more true c h = refl
    or_more false c h = h

-- steps and touched ids, one part after the other
pub costs_then : (a b c x y z : ℕ) → b + x ≤ a + y → c + y ≤ b + z → c + x ≤ a + z
costs_then a b c x y z p q = omega arith

pub unmade_same : (o p : Option Entry) → p ≡ o → Unmade o p
unmade_same o None e = tt
unmade_same None (Some a) e = absurd (cc)
unmade_same (Some b) (Some a) e = let s : a ≡ b = cc in (ap (λ (x : Entry). x.level) s, λ h. ap (λ (x : Entry). x.pending) s ∙ h)

unmade_then : (o p q : Option Entry) → Unmade o p → Unmade p q → Unmade o q
unmade_then o p None a b = tt
unmade_then o None (Some c) a b = absurd b
unmade_then None (Some x) (Some c) a b = absurd a
unmade_then (Some y) (Some x) (Some c) a b = (b.0 ∙ a.0, λ h. b.1 (a.1 h))

pub made_start : (d : Draft) → Makes d d
made_start d = record { unmade = λ z h. unmade_same (fin.get d.nodes z) (fin.get d.nodes z) refl; grows = λ z h. h }

pub made_then : (d e f : Draft) → Makes d e → Makes e f → Makes d f
made_then d e f a b = record {
  unmade = λ z h. unmade_then (fin.get d.nodes z) (fin.get e.nodes z) (fin.get f.nodes z) (a.unmade z (not_yet z (contains e.made z) refl h)) (b.unmade z h);
  grows = λ z h. b.grows z (a.grows z h);
}
  where
    not_yet : (z : ℕ) (c : Bool) → contains e.made z ≡ c → contains f.made z ≡ false → contains e.made z ≡ false
    not_yet z true q h = let g = b.grows z q in absurd (cc)
    not_yet z false q h = q

pub unmade_less : (o p : Option Entry) → (p ≡ None) ⊎ (p ≡ o) → Unmade o p
unmade_less o p h = ⊎_elim (λ e. subst (λ x. Unmade o x) (sym e) tt) (λ e. unmade_same o p e) h

-- one node's data: nodes out, new ones pending, and the node itself
pub made_step : (d n e f : Draft) (stack : List ℕ) (above level : ℕ) (old : ℕ → Bool) (cs : List ℕ) (id : ℕ) (x to : Entry) → TakesOut d n stack → Places n e above level old cs → Some x ≡ fin.get d.nodes id → to.level ≡ x.level → to.pending ≡ false
    → ((z : ℕ) → fin.get f.nodes z ≡ cond (eqb id z) (Some to) (fin.get e.nodes z)) → f.made ≡ e.made → Makes d f
made_step d n e f stack above level old cs id x to out pl there l p w same = record {
  unmade = λ z h. by_go (eqb id z)
      (λ q. here z (eqb-true id z q) (w z ∙ ap (λ b. cond b (Some to) (fin.get e.nodes z)) q))
      (λ q. unmade_less (fin.get d.nodes z) (fin.get f.nodes z) (subst (λ o. (o ≡ None) ⊎ (o ≡ fin.get d.nodes z)) (sym (w z ∙ ap (λ b. cond b (Some to) (fin.get e.nodes z)) q ∙ pl.at z ∙ unplaced z h)) (out.less z)));
  grows = λ z h. ap (λ js. contains js z) same ∙ pl.grows z (ap (λ js. contains js z) out.made ∙ h);
}
  where
    here : (z : ℕ) → id ≡ z → fin.get f.nodes z ≡ Some to → Unmade (fin.get d.nodes z) (fin.get f.nodes z)
    here z s e =
        let o : fin.get d.nodes z ≡ Some x = ap (fin.get d.nodes) (sym s) ∙ sym there in
        subst (λ v. Unmade (fin.get d.nodes z) v) (sym e) (subst (λ v. Unmade v (Some to)) (sym o) (l, λ _. p))

    unplaced : (z : ℕ) → contains f.made z ≡ false → cond (contains cs z && not (old z)) (Some (pending_entry (Some above) level z)) (fin.get n.nodes z) ≡ fin.get n.nodes z
    unplaced z h = by_go (contains cs z && not (old z))
        (λ q. absurd (false≢true (sym h ∙ (ap (λ js. contains js z) same ∙ pl.made z q))))
        (λ q. rw q refl)
