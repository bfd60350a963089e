-- What a run over the data of nodes has come to.
use Rattle.std.proofs.Common.{◌≡◌, ◌≤◌, ⊎_elim, inl, inr, ℕ, ◌+◌, ◌<◌, List, ◌∷◌, length, drop, get_or, Option, Ok, Err, refl, sym, ap, ◌∙◌}
use Rattle.std.proofs.lemmas.List.{drop_more}
use Rattle.ax_node.specs.Look.{Look}
use Rattle.ax_node.specs.declared.node.NodeData.{NodeData}
use Rattle.ax_trees.specs.Trees.{Trees}
use Rattle.ax_tree.specs.declared.update.Refusal.{Refusal}
use Rattle.ax_mirror.specs.declared.draft.Draft.{Draft}
use Rattle.ax_mirror.specs.Kept.{KeepsDraft}
use Rattle.ax_mirror.specs.Steps.{taken, all_taken, Accepts, Refuses, MakesDraft}
use Rattle.ax_mirror.proofs.Lists.{drop_whole}

-- the trees that the node data before an index made
pub record Came (e : Draft) (us : List NodeData) (i : ℕ) (w : Trees (Option Look)) : Type 0 where
  pub now : Trees (Option Look)
  pub keeps : KeepsDraft e.nodes e.root now
  pub rest : all_taken w us ≡ all_taken now (drop i us)

pub record RanTo (d e : Draft) (us : List NodeData) (i : ℕ) : Type 0 where
  pub came : (w : Trees (Option Look)) → KeepsDraft d.nodes d.root w → Came e us i w

pub run_begins : (d : Draft) (us : List NodeData) → RanTo d d us 0
run_begins d us = record { came = λ w k. record { now = w; keeps = k; rest = refl } }

one_step : (w v : Trees (Option Look)) (u : NodeData) (us : List NodeData) → taken w u ≡ Ok v → all_taken w (u ∷ us) ≡ all_taken v us
one_step w v u us h = rw h refl

no_step : (w : Trees (Option Look)) (u : NodeData) (us : List NodeData) (e : Refusal) → taken w u ≡ Err e → all_taken w (u ∷ us) ≡ Err e
no_step w u us e h = rw h refl

drop_at : (us : List NodeData) (i : ℕ) (u : NodeData) → i < length us → u ≡ get_or us i u → drop i us ≡ u ∷ drop (i + 1) us
drop_at us i u l e = drop_more us i u l ∙ ap (λ v. v ∷ drop (i + 1) us) (sym e)

pub run_next : (d e f : Draft) (us : List NodeData) (i : ℕ) (u : NodeData) → RanTo d e us i → i < length us → u ≡ get_or us i u → Accepts (λ w. taken w u) e f → RanTo d f us (i + 1)
run_next d e f us i u r l q a = record {
  came = λ w k.
      let c : Came e us i w = r.came w k in
      let g : MakesDraft f (taken c.now u) = a c.now c.keeps in
      record {
        now = g.next;
        keeps = g.keeps;
        rest = c.rest ∙ ap (all_taken c.now) (drop_at us i u l q) ∙ one_step c.now g.next u (drop (i + 1) us) g.is;
      };
}

pub run_stops : (d e : Draft) (us : List NodeData) (i : ℕ) (u : NodeData) (r : Refusal) → RanTo d e us i → i < length us → u ≡ get_or us i u → Refuses (λ w. taken w u) e r → Refuses (λ w. all_taken w us) d r
run_stops d e us i u r t l q f = λ w k.
    let c : Came e us i w = t.came w k in
    ⊎_elim
    (λ h. inl h)
    (λ h. inr (c.rest ∙ ap (all_taken c.now) (drop_at us i u l q) ∙ no_step c.now u (drop (i + 1) us) r h))
    (f c.now c.keeps)

pub run_ends : (d e : Draft) (us : List NodeData) (i : ℕ) → RanTo d e us i → length us ≤ i → Accepts (λ w. all_taken w us) d e
run_ends d e us i r h = λ w k.
    let c : Came e us i w = r.came w k in
    record { next = c.now; is = c.rest ∙ ap (all_taken c.now) (drop_whole us i h); keeps = c.keeps }
