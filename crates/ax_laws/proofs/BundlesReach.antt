-- The updates of a bundle make the source of a receiver in step, also where a bundle was broken off.
use Rattle.std.proofs.Common.{Err, List, Ok, Result, Some, [], ap, arith, eqb, length, not, refl, subst, suc, sym, true, zero, ℕ, ◌++◌, ◌||◌, ◌∙◌, ◌∷◌, ◌≡◌, ◌≤◌}
use Rattle.std.proofs.lemmas.Bool.Decides.{eqb_tells}
use Rattle.ax_tree.specs.Bundles.{Client, client_after, first_update, result_or, rounds, trees_after_all, trees_updates}
use Rattle.ax_tree.specs.InStep.{TreesInStep, lists, marks_left}
use Rattle.ax_tree.specs.declared.update.Refusal.{Refusal}
use Rattle.ax_tree.specs.SerialRule.{trees_update}
use Rattle.ax_tree.specs.UpdateRule.{Update, and_then, trees_after}
use Rattle.ax_tree.specs.UpdateShape.{mapped_result}
use Rattle.ax_trees.specs.Trees.{Trees, bare, has, root_of, tree}
use Rattle.ax_trees.specs.Shape.{shape}
use Rattle.ax_laws.proofs.Served.{Served, serve}
use Rattle.ax_laws.proofs.Shapes.{trees_update_same, trees_after-mapped}
use Rattle.ax_laws.proofs.Steps.{done_is_source, update_keeps}
use Rattle.ax_trees.proofs.Lists.{length-filter, same_Ok}

-- the client after an update that its receiver accepts is the result's shape
pub client_after-shape : {X : Type 0} (b : X) (u : Update X) (r made : Trees X) → trees_after b u r ≡ Ok made → client_after (shape r) u ≡ shape made
client_after-shape {X} b u r made e =
    ap (result_or (shape r)) (trees_after-mapped (λ _. tt) b u r ∙ ap (mapped_result (λ _. tt)) e)

-- one round, and what follows from where it leaves the receiver
pub one_round : {X : Type 0} (b : X) (u : Update X) (us : List (Update X)) (r s made : Trees X) → trees_after b u r ≡ Ok made → trees_after_all b us made ≡ Ok s
    → trees_after_all b (u ∷ us) r ≡ Ok s
one_round b u us r s made e h = rw e h

pub marks_left_head : {X : Type 0} (u : Update X) (d : ℕ) (m : List ℕ) → length (marks_left u d (d ∷ m)) ≤ length m
marks_left_head u d m = grind (arith, eqb_tells d d, length-filter (λ z. not (lists u.nodes z || eqb z d)) m)

-- more rounds than marks change nothing
pub rounds_enough : {X : Type 0} (n k : ℕ) (c : Client) (s : Trees X) (m : List ℕ) → length m ≤ n → length m ≤ k → rounds n c s m ≡ rounds k c s m
rounds_enough zero zero c s m l g = refl
rounds_enough zero (suc k) c s [] l g = refl
rounds_enough (suc n) zero c s [] l g = refl
rounds_enough (suc n) (suc k) c s [] l g = refl
rounds_enough zero (suc k) c s (d ∷ m) l g = absurd (omega arith)
rounds_enough (suc n) zero c s (d ∷ m) l g = absurd (omega arith)
rounds_enough (suc n) (suc k) c s (d ∷ m) l g =
    let u : Update _ = trees_update c s (d ∷ m) d in
    ap (λ us. trees_update c s (d ∷ m) d ∷ us)
    (rounds_enough n k (client_after c (trees_update c s (d ∷ m) d)) s (marks_left (trees_update c s (d ∷ m) d) d (d ∷ m))
    (omega (arith, marks_left_head (trees_update c s (d ∷ m) d) d m)) (omega (arith, marks_left_head (trees_update c s (d ∷ m) d) d m)))

-- a round of a client is the round of its receiver
pub served_round : {X : Type 0} (b : X) (r s : Trees X) (m : List ℕ) (d : ℕ) (rest : Client → Update X → List (Update X)) (made : Trees X) → trees_after b (trees_update r s m d) r ≡ Ok made
    → trees_update (shape r) s m d ∷ rest (client_after (shape r) (trees_update (shape r) s m d)) (trees_update (shape r) s m d)
    ≡ trees_update r s m d ∷ rest (shape made) (trees_update r s m d)
served_round b r s m d rest made e =
    ap (λ u. u ∷ rest (client_after (shape r) u) u) (trees_update_same (λ _. tt) r s m d)
    ∙ ap (λ c. trees_update r s m d ∷ rest c (trees_update r s m d)) (client_after-shape b (trees_update r s m d) r made e)

pub rounds_reach : {X : Type 0} (n : ℕ) (b : X) (r s : Trees X) (m : List ℕ) (x : ℕ) → TreesInStep r s m → root_of r ≡ Some x → length m ≤ n
    → trees_after_all b (rounds n (shape r) s m) r ≡ Ok s
rounds_reach zero b r s [] x st e l = ap Ok (done_is_source r s x st e)
rounds_reach zero b r s (d ∷ m) x st e l = absurd (omega arith)
rounds_reach (suc n) b r s [] x st e l = ap Ok (done_is_source r s x st e)
rounds_reach {X} (suc n) b r s (d ∷ m) x st e l =
    let h : has s d ≡ true = st.marks_in d (grind (arith, eqb_tells d d)) in
    let sv : Served b (trees_update r s (d ∷ m) d) r s = serve b r s (d ∷ m) d st.receiver st.source st.receiver_low st.source_low h in
    subst (λ us. trees_after_all b us r ≡ Ok s)
    (sym (served_round b r s (d ∷ m) d (λ c u. rounds n c s (marks_left u d (d ∷ m))) sv.made sv.accepted))
    (one_round b (trees_update r s (d ∷ m) d) (rounds n (shape sv.made) s (marks_left (trees_update r s (d ∷ m) d) d (d ∷ m))) r s sv.made sv.accepted
    (rounds_reach n b sv.made s (marks_left (trees_update r s (d ∷ m) d) d (d ∷ m)) (st.root_fits x e).0 (update_keeps b r s (d ∷ m) d st h sv)
    (sv.same_root ∙ (st.root_fits x e).1) (omega (arith, marks_left_head (trees_update r s (d ∷ m) d) d m))))

-- the update at the root, and what follows
pub first_reach : {X : Type 0} (b : X) (r s : Trees X) (m : List ℕ) (x : ℕ) → TreesInStep r s m → has s x ≡ true → root_of s ≡ Some x
    → trees_after_all b (first_update (shape r) s m x) r ≡ Ok s
first_reach {X} b r s m x st h e =
    let sv : Served b (trees_update r s m x) r s = serve b r s m x st.receiver st.source st.receiver_low st.source_low h in
    subst (λ us. trees_after_all b us r ≡ Ok s)
    (sym (served_round b r s m x (λ c u. rounds (length m) c s (marks_left u x m)) sv.made sv.accepted))
    (one_round b (trees_update r s m x) (rounds (length m) (shape sv.made) s (marks_left (trees_update r s m x) x m)) r s sv.made sv.accepted
    (rounds_reach (length m) b sv.made s (marks_left (trees_update r s m x) x m) x (update_keeps b r s m x st h sv) (sv.same_root ∙ e)
    (length-filter (λ z. not (lists (trees_update r s m x).nodes z || eqb z x)) m)))

pub updates_reach : {X : Type 0} (b : X) (r s : Trees X) (m : List ℕ) → TreesInStep r s m → trees_after_all b (trees_updates (shape r) s m) r ≡ Ok s
updates_reach b bare bare m st = refl
updates_reach b (tree i e k q) s m st = rounds_reach (length m) b (tree i e k q) s m i st refl (omega arith)
updates_reach {X} b bare (tree i e k q) m st = first_reach b bare (tree i e k q) m i st (grind (arith, eqb_tells i i)) refl

pub trees_after_all-append : {X : Type 0} (b : X) (us vs : List (Update X)) (r w s : Trees X) → trees_after_all b us r ≡ Ok w → trees_after_all b vs w ≡ Ok s → trees_after_all b (us ++ vs) r ≡ Ok s
trees_after_all-append b [] vs r w s h g = subst (λ y. trees_after_all b vs y ≡ Ok s) (sym (same_Ok r w h)) g
trees_after_all-append {X} b (u ∷ us) vs r w s h g = go (trees_after b u r) h (λ y k. trees_after_all-append b us vs y w s k g)
  where
    go : (o : Result (Trees X) Refusal) → and_then o (trees_after_all b us) ≡ Ok w → ((y : Trees X) → trees_after_all b us y ≡ Ok w → trees_after_all b (us ++ vs) y ≡ Ok s)
        → and_then o (trees_after_all b (us ++ vs)) ≡ Ok s
    go (Ok y) h k = k y h
    go (Err e) h k = absurd (cc)

-- updates that were kept, and the updates from where they leave the receiver
pub resumed_reach : {X : Type 0} (b : X) (kept : List (Update X)) (r₀ r s : Trees X) (m : List ℕ) → trees_after_all b kept r₀ ≡ Ok r → TreesInStep r s m
    → trees_after_all b (kept ++ trees_updates (shape r) s m) r₀ ≡ Ok s
resumed_reach b kept r₀ r s m h st = trees_after_all-append b kept (trees_updates (shape r) s m) r₀ r s h (updates_reach b r s m st)
