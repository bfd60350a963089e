-- What a run over updates has come to, and what it makes of a mirror.
use Rattle.std.proofs.Common.{◌≡◌, ◌≤◌, ◌⊎◌, ⊎_elim, inl, inr, ℕ, suc, ◌+◌, ◌<◌, true, false, List, [], ◌∷◌, length, drop, get_or, Option, None, Result, Ok, Err, refl, sym, ap, subst, ◌∙◌, arith}
use Rattle.std.specs.Prelude.{option_map}
use Rattle.std.specs.FinMap as fin
use Rattle.std.specs.Ordering.{nat_cmp}
use Rattle.std.proofs.lemmas.List.{drop_more}
use Rattle.std.proofs.lemmas.Bool.{false_from_ne_true, false≢true}
use Rattle.ax_node.specs.Look.{Look}
use Rattle.ax_node.specs.declared.tree_data.TreeData.{TreeData}
use Rattle.ax_trees.specs.Trees.{Trees, bare, has}
use Rattle.ax_trees.specs.Nodes.{node_at}
use Rattle.ax_trees.specs.Lists.{contains}
use Rattle.ax_trees.proofs.Trees.{by_go}
use Rattle.ax_trees.proofs.Grown.{node_none}
use Rattle.ax_tree.specs.declared.update.Refusal.{Refusal}
use Rattle.ax_tree.specs.declared.update.Refusal.TheVariants.{NoMemory}
use Rattle.ax_tree.specs.declared.update.BundleErr.{BundleErr}
use Rattle.ax_tree.specs.declared.update.TreeUpdate.{TreeUpdate}
use Rattle.ax_tree.specs.Tree.{Tree, data_of}
use Rattle.ax_tree.specs.UpdateRule.{draft_of}
use Rattle.ax_tree.specs.Updates.{applied, applied_from, applied_all, told}
use Rattle.ax_tree.proofs.Drafts.{has-draft}
use Rattle.ax_mirror.specs.declared.draft.Draft.{Draft}
use Rattle.ax_mirror.specs.Placed.{Nodes}
use Rattle.ax_mirror.specs.Kept.{HoldsTree, shown}
use Rattle.ax_mirror.specs.Steps.{Updates, UpdateRefused, updated, GivesTrees, Tracked}
use Rattle.ax_mirror.specs.Begins.{TrackedTrees, Forgets}
use Rattle.ax_mirror.specs.Accounts.{is_listed, is_named, MayBeTouched, NamesOnly, TouchesOnly}
use Rattle.ax_mirror.specs.Mirrors.{NamesChanges, GivesTree, Applies, IsRefused, IsBroken, TrackedHeld, with_about}
use Rattle.ax_mirror.proofs.Lists.{drop_whole}
use Rattle.ax_mirror.proofs.Tracks.{track_start, track_then}
use Rattle.ax_mirror.proofs.Shows.{shown_is, holds_shown, holds_none, same_data, there_same}
use Rattle.ax_mirror.proofs.Accounts.{only_next, come_next, or_left, or_right}

-- ---- one update

one_ok : (u : TreeUpdate) (a b : TreeData) (f g : Trees Look) → updated u f ≡ Ok g → b ≡ told u.tree_data a → applied u (with_about a f) ≡ Ok (with_about b g)
one_ok u a b f g h e = rw h (ap (λ x. Ok (with_about x g)) (sym e))

one_err : (u : TreeUpdate) (a : TreeData) (f : Trees Look) (r : Refusal) → updated u f ≡ Err r → applied u (with_about a f) ≡ Err r
one_err u a f r h = rw h refl

pub applies_one : (d e : Draft) (a b : TreeData) (u : TreeUpdate) → Updates d e u → b ≡ told u.tree_data a → Applies (λ t. applied u t) d a e b
applies_one d e a b u h s = λ f k.
    let g : GivesTrees e (updated u f) = h f k in
    record { next = g.next; is = one_ok u a b f g.next g.is s; holds = g.holds }

pub refuses_one : (d : Draft) (a : TreeData) (u : TreeUpdate) (r : Refusal) → UpdateRefused d u r → IsRefused (λ t. applied u t) d a r
refuses_one d a u r h = λ f k. ⊎_elim (λ q. inl q) (λ q. inr (one_err u a f r q)) (h f k)

pub held_tracked : (d e : Draft) → TrackedTrees d e → TrackedHeld d e
held_tracked d e t = λ f k. t (draft_of f) k.keeps

-- ---- the run

pub record Reached (d : Draft) (f : Trees Look) (e : Draft) (b : TreeData) (us : List TreeUpdate) (i : ℕ) (t : Tree) : Type 0 where
  pub now : Trees Look
  pub holds : HoldsTree e.nodes e.root now
  pub rest : applied_from 0 us t ≡ applied_from i (drop i us) (with_about b now)
  pub only : (z : ℕ) → contains e.touched z ≡ true → (contains d.touched z ≡ true) ⊎ MayBeTouched us f now z
  pub come : (z : ℕ) → has now z ≡ true → (has f z ≡ true) ⊎ (is_listed us z ≡ true)

pub record CameTo (d : Draft) (a : TreeData) (e : Draft) (b : TreeData) (us : List TreeUpdate) (i : ℕ) : Type 0 where
  pub came : (f : Trees Look) → HoldsTree d.nodes d.root f → Reached d f e b us i (with_about a f)
  pub tracked : TrackedHeld d e

pub all_begin : (d : Draft) (a : TreeData) (us : List TreeUpdate) → CameTo d a d a us 0
all_begin d a us = record { came = λ f h. record { now = f; holds = h; rest = refl; only = λ z t. inl t; come = λ z t. inl t }; tracked = λ f h. track_start d }

drop_at : (us : List TreeUpdate) (i : ℕ) (u : TreeUpdate) → i < length us → u ≡ get_or us i u → drop i us ≡ u ∷ drop (i + 1) us
drop_at us i u l e = drop_more us i u l ∙ ap (λ v. v ∷ drop (i + 1) us) (sym e)

from_ok : (i : ℕ) (u : TreeUpdate) (us : List TreeUpdate) (t s : Tree) → applied u t ≡ Ok s → applied_from i (u ∷ us) t ≡ applied_from (i + 1) us s
from_ok i u us t s h = rw h (ap (λ j. applied_from j us s) (next i))
  where
    next : (i : ℕ) → suc i ≡ i + 1
    next i = omega arith

from_err : (i : ℕ) (u : TreeUpdate) (us : List TreeUpdate) (t : Tree) (r : Refusal) → applied u t ≡ Err r → applied_from i (u ∷ us) t ≡ Err (record { at = i; why = r })
from_err i u us t r h = rw h refl

pub all_next : (d : Draft) (a : TreeData) (e : Draft) (b : TreeData) (g : Draft) (c : TreeData) (us : List TreeUpdate) (i : ℕ) (u : TreeUpdate) → CameTo d a e b us i → i < length us → u ≡ get_or us i u
    → Applies (λ t. applied u t) e b g c → TrackedHeld e g → TouchesOnly (u ∷ []) e g → CameTo d a g c us (i + 1)
all_next d a e b g c us i u k l q h t o = record {
  came = λ f p.
      let r : Reached d f e b us i (with_about a f) = k.came f p in
      let n : GivesTree g c (applied u (with_about b r.now)) = h r.now r.holds in
      record {
        now = n.next;
        holds = n.holds;
        rest = r.rest ∙ ap (λ vs. applied_from i vs (with_about b r.now)) (drop_at us i u l q) ∙ from_ok i u (drop (i + 1) us) (with_about b r.now) (with_about c n.next) n.is;
        only = only_next us i u d e g f r.now n.next l q o r.holds n.holds r.only r.come;
        come = come_next us i u e g f r.now n.next l q o r.holds n.holds r.come;
      };
  tracked = λ f p. let r : Reached d f e b us i (with_about a f) = k.came f p in track_then d e g (k.tracked f p) (t r.now r.holds);
}

pub all_stop : (d : Draft) (a : TreeData) (e : Draft) (b : TreeData) (us : List TreeUpdate) (i : ℕ) (u : TreeUpdate) (r : Refusal) → CameTo d a e b us i → i < length us → u ≡ get_or us i u
    → IsRefused (λ t. applied u t) e b r → IsBroken (λ t. applied_all us t) d a (record { at = i; why = r })
all_stop d a e b us i u r k l q h = λ f p.
    let n : Reached d f e b us i (with_about a f) = k.came f p in
    ⊎_elim
    (λ x. inl x)
    (λ x. inr (n.rest ∙ ap (λ vs. applied_from i vs (with_about b n.now)) (drop_at us i u l q) ∙ from_err i u (drop (i + 1) us) (with_about b n.now) r x))
    (h n.now n.holds)

pub all_end : (d : Draft) (a : TreeData) (e : Draft) (b : TreeData) (us : List TreeUpdate) (i : ℕ) → CameTo d a e b us i → length us ≤ i → Applies (λ t. applied_all us t) d a e b
all_end d a e b us i k h = λ f p.
    let n : Reached d f e b us i (with_about a f) = k.came f p in
    record { next = n.now; is = n.rest ∙ ap (λ vs. applied_from i vs (with_about b n.now)) (drop_whole us i h); holds = n.holds }

pub all_only : (d : Draft) (a : TreeData) (e : Draft) (b : TreeData) (us : List TreeUpdate) (i : ℕ) → CameTo d a e b us i → TouchesOnly us d e
all_only d a e b us i k = record {
  only = λ f g h p z c.
      let n : Reached d f e b us i (with_about a f) = k.came f h in
      subst (λ v. (contains d.touched z ≡ true) ⊎ MayBeTouched us f v z) (sym (shown_is e.nodes e.root n.now n.holds) ∙ shown_is e.nodes e.root g p) (n.only z c);
  come = λ f g h p z c.
      let n : Reached d f e b us i (with_about a f) = k.came f h in
      n.come z (ap (λ v. has v z) (sym (shown_is e.nodes e.root n.now n.holds) ∙ shown_is e.nodes e.root g p) ∙ c);
}

-- ---- what it makes of a mirror

module _ (m : Nodes) (root : Option ℕ) (a : TreeData) (k : HoldsTree m root (shown m root)) (d e : Draft) (b : TreeData) where
  held_as : d.nodes ≡ m → d.root ≡ root → HoldsTree d.nodes d.root (shown m root)
  held_as p q = subst (λ (o : Option ℕ). HoldsTree d.nodes o (shown m root)) (sym q) (subst (λ (n : Nodes). HoldsTree n root (shown m root)) (sym p) k)

  module _ {E : Type 0} (rule : Tree → Result Tree E) (p : d.nodes ≡ m) (q : d.root ≡ root) (h : Applies rule d a e b) where
    given : GivesTree e b (rule (with_about a (shown m root)))
    given = h (shown m root) (held_as p q)

    pub mirror_holds : HoldsTree e.nodes e.root (shown e.nodes e.root)
    mirror_holds = holds_shown e.nodes e.root given.next given.holds

    pub mirror_is : rule (with_about a (shown m root)) ≡ Ok (with_about b (shown e.nodes e.root))
    mirror_is = given.is ∙ ap (λ (f : Trees Look). Ok (with_about b f)) (sym (shown_is e.nodes e.root given.next given.holds))

    pub mirror_names : TrackedHeld d e → NamesChanges (with_about a (shown m root)) (with_about b (shown e.nodes e.root)) e.touched
    mirror_names t = λ z c. same_data m e.nodes root e.root (shown m root) (shown e.nodes e.root) z k mirror_holds ((t (shown m root) (held_as p q)).same z c ∙ ap (λ (n : Nodes). fin.get n z) p)

    pub mirror_only : (us : List TreeUpdate) → TouchesOnly us d e → d.touched ≡ [] → NamesOnly us (with_about a (shown m root)) (with_about b (shown e.nodes e.root)) e.touched
    mirror_only us t none = λ z c. ⊎_elim
        (λ (x : contains d.touched z ≡ true). absurd (false≢true (sym (ap (λ js. contains js z) none) ∙ x)))
        (λ x. x)
        (t.only (shown m root) (shown e.nodes e.root) (held_as p q) mirror_holds z c)

  pub mirror_refused : (rule : Tree → Result Tree Refusal) (r : Refusal) → d.nodes ≡ m → d.root ≡ root → IsRefused rule d a r → (r ≡ NoMemory) ⊎ (rule (with_about a (shown m root)) ≡ Err r)
  mirror_refused rule r p q h = h (shown m root) (held_as p q)

  pub mirror_broken : (rule : Tree → Result Tree BundleErr) (r : BundleErr) → d.nodes ≡ m → d.root ≡ root → IsBroken rule d a r → (r.why ≡ NoMemory) ⊎ (rule (with_about a (shown m root)) ≡ Err r)
  mirror_broken rule r p q h = h (shown m root) (held_as p q)

-- upon the empty tree
module _ (m : Nodes) (root : Option ℕ) (old : TreeData) (k : HoldsTree m root (shown m root)) (d e : Draft) (a b : TreeData) (fg : Forgets m root d) where
  none_held : HoldsTree d.nodes d.root bare
  none_held = subst (λ (o : Option ℕ). HoldsTree d.nodes o bare) (sym fg.none) (holds_none d.nodes fg.nodes)

  pub anew_broken : (rule : Tree → Result Tree BundleErr) (r : BundleErr) → IsBroken rule d a r → (r.why ≡ NoMemory) ⊎ (rule (with_about a bare) ≡ Err r)
  anew_broken rule r h = h bare none_held

  module _ {E : Type 0} (rule : Tree → Result Tree E) (h : Applies rule d a e b) where
    given_anew : GivesTree e b (rule (with_about a bare))
    given_anew = h bare none_held

    pub anew_holds : HoldsTree e.nodes e.root (shown e.nodes e.root)
    anew_holds = holds_shown e.nodes e.root given_anew.next given_anew.holds

    pub anew_is : rule (with_about a bare) ≡ Ok (with_about b (shown e.nodes e.root))
    anew_is = given_anew.is ∙ ap (λ (f : Trees Look). Ok (with_about b f)) (sym (shown_is e.nodes e.root given_anew.next given_anew.holds))

    pub anew_names : TrackedHeld d e → NamesChanges (with_about old (shown m root)) (with_about b (shown e.nodes e.root)) e.touched
    anew_names t = λ z c.
        let tr : Tracked d e = t bare none_held in
        let untouched : contains d.touched z ≡ false = false_from_ne_true (contains d.touched z) (λ g. false≢true (sym c ∙ tr.grows z g)) in
        let gone : has (draft_of (shown m root)) z ≡ false = false_from_ne_true (has (draft_of (shown m root)) z) (λ g. false≢true (sym untouched ∙ fg.all (draft_of (shown m root)) k.keeps z g)) in
        let none : fin.get e.nodes z ≡ None = tr.same z c ∙ ap (λ (n : Nodes). fin.get n z) fg.nodes ∙ fin.get-empty nat_cmp z in
        nothing_new z none ∙ sym (ap (option_map data_of) (node_none (shown m root) z (sym (has-draft (shown m root) z) ∙ gone)))
      where
        nothing_new : (z : ℕ) → fin.get e.nodes z ≡ None → option_map data_of (node_at (shown e.nodes e.root) z) ≡ None
        nothing_new z n = same_data d.nodes e.nodes d.root e.root bare (shown e.nodes e.root) z none_held anew_holds (n ∙ sym (ap (λ (n : Nodes). fin.get n z) fg.nodes ∙ fin.get-empty nat_cmp z))

    pub anew_only : (us : List TreeUpdate) → TouchesOnly us d e → NamesOnly us (with_about old (shown m root)) (with_about b (shown e.nodes e.root)) e.touched
    anew_only us t = λ z c. ⊎_elim
        (λ (x : contains d.touched z ≡ true). were z (sym (there_same m root (shown m root) k z) ∙ fg.only z x))
        (λ (x : MayBeTouched us bare (shown e.nodes e.root) z). ⊎_elim
        (λ l. inl l)
        (λ (g : (has (shown e.nodes e.root) z ≡ false) × (is_named us z ≡ true)). inr (g.0, or_right (has (shown m root) z) (is_named us z) g.1))
        x)
        (t.only bare (shown e.nodes e.root) none_held anew_holds z c)
      where
        were : (z : ℕ) → has (shown m root) z ≡ true → MayBeTouched us (shown m root) (shown e.nodes e.root) z
        were z h = by_go (has (shown e.nodes e.root) z)
            (λ n. ⊎_elim (λ (x : false ≡ true). absurd (false≢true x)) (λ l. inl l) (t.come bare (shown e.nodes e.root) none_held anew_holds z n))
            (λ n. inr (n, or_left (has (shown m root) z) (is_named us z) h))
