-- The updates of a pass, one after the other.
use Rattle.std.proofs.Common.{ℕ, zero, suc, ◌≡◌, ◌≤◌, ◌⊎◌, inl, inr, ⊎_elim, Bool, true, false, ◌||◌, ◌&&◌, eqb, not, List, [], ◌∷◌, ◌++◌, map, length, filter, append_assoc, slice_get, Option, Some, None, Result, Ok, Err, refl, sym, ap, ap₂, subst, ◌∙◌, arith}
use Rattle.std.specs.Prelude.{is_none, is_some, OnOk}
use Rattle.std.proofs.lemmas.Bool.{false≢true}
use Rattle.std.proofs.lemmas.List.{append-nil, map-append}
use Rattle.std.proofs.lemmas.Bool.Decides.{eqb_tells}
use Rattle.ax_node.specs.Look.{Look, blank_look}
use Rattle.ax_trees.specs.Trees.{Trees, bare, tree, is_bare, is_root, has, root_of}
use Rattle.ax_trees.specs.Lists.{contains}
use Rattle.ax_trees.specs.Shape.{shape}
use Rattle.ax_trees.proofs.Trees.{by_go}
use Rattle.ax_trees.proofs.Lists.{length-filter, same_Ok}
use Rattle.ax_tree.specs.declared.update.TreeUpdate.{TreeUpdate}
use Rattle.ax_tree.specs.UpdateRule.{Update}
use Rattle.ax_tree.specs.SerialRule.{last_held, trees_update}
use Rattle.ax_tree.specs.InStep.{TreesInStep, lists, marks_left}
use Rattle.ax_tree.specs.Bundles.{Client, client_after, first_update, rounds, trees_after_all, trees_updates}
use Rattle.ax_tree.specs.Tree.{Tree}
use Rattle.ax_tree.specs.Updates.{nodes_part}
use Rattle.ax_tree.specs.Serialised.{client_after_update, marks_after_update, update_of}
use Rattle.ax_tree.specs.Journals.{Frame, pending}
use Rattle.ax_laws.proofs.BundlesReach.{client_after-shape, marks_left_head, one_round, resumed_reach, rounds_enough, trees_after_all-append}
use Rattle.ax_laws.proofs.Listed.{lists_all}
use Rattle.ax_laws.proofs.Sent.{is_bare-shape, nodes_part-with}
use Rattle.ax_laws.proofs.Served.{Served, serve}
use Rattle.ax_laws.proofs.Shapes.{trees_update_same}
use Rattle.ax_laws.proofs.Steps.{update_keeps}
use Rattle.ax_serializer.specs.Sending.{Sending}
use Rattle.ax_source.specs.Source.{Source}
use Rattle.ax_frame.specs.Frames.{all_kept, begins_fresh, IsSending}
use Rattle.ax_frame.specs.Passes.{is_fresh_pass, Completes, StaysSending}
use Rattle.ax_serializer.proofs.Takings.{partial_root}
use Rattle.ax_frame.proofs.Holding.{pending_rooted}

-- ---- lists

some_last : {A : Type 0} (xs : List A) (x : A) → xs ++ x ∷ [] ≡ [] → ⊥
some_last [] x e = absurd (cc)
some_last (y ∷ xs) x e = absurd (cc)

-- ---- answers

pub ok_then : {A E P Q : Type 0} (r : Result A E) → (P → Q) → OnOk r P → OnOk r Q
ok_then (Ok x) f p = f p
ok_then (Err e) f p = tt

pub ok_all : {A E P Q R S : Type 0} (r : Result A E) → (P → Q → R → S) → OnOk r P → OnOk r Q → OnOk r R → OnOk r S
ok_all (Ok x) f p q h = f p q h
ok_all (Err e) f p q h = tt

-- ---- where a bundle begins

root_some : {X : Type 0} (s : Trees X) → is_bare s ≡ false → is_some (root_of s) ≡ true
root_some bare h = absurd (false≢true (sym h))
root_some (tree i x k r) h = refl

-- an update begins a bundle afresh exactly where the client is empty
pub update_fresh : (c : Client) (s : Trees Look) (m : List ℕ) (d : ℕ) (us : List (Update Look)) → is_bare s ≡ false → begins_fresh (trees_update c s m d ∷ us) ≡ is_bare c
update_fresh bare s m d us h = rw (root_some s h) refl
update_fresh (tree i x k r) s m d us h =
    by_go (is_root s i)
    (λ p. let none : (trees_update (tree i x k r) s m d).root ≡ None = rw p (partial_root (tree i x k r) s m i (last_held (tree i x k r) s i d)) in
    ap (λ o. is_some o && is_none (trees_update (tree i x k r) s m d).clear) none)
    (λ p. let some : (trees_update (tree i x k r) s m d).clear ≡ Some i = rw p refl in
    ap (λ o. is_some (trees_update (tree i x k r) s m d).root && is_none o) some ∙ and_false (is_some (trees_update (tree i x k r) s m d).root))
  where
    and_false : (b : Bool) → (b && false) ≡ false
    and_false true = refl
    and_false false = refl

fresh_more : (us vs : List (Update Look)) → (us ≡ [] → ⊥) → begins_fresh (us ++ vs) ≡ begins_fresh us
fresh_more [] vs h = absurd (h refl)
fresh_more (u ∷ us) vs h = refl

part_of : (c : Client) (s : Tree) (m : List ℕ) (d : ℕ) → nodes_part (update_of c s m d) ≡ trees_update c s.trees m d
part_of c s m d = nodes_part-with (trees_update c s.trees m d) None

-- what is kept after one more update
pub parts_push : (kept : List TreeUpdate) (c : Client) (s : Tree) (m : List ℕ) (d : ℕ) → map nodes_part (kept ++ update_of c s m d ∷ []) ≡ map nodes_part kept ++ trees_update c s.trees m d ∷ []
parts_push kept c s m d = map-append nodes_part kept (update_of c s m d ∷ []) ∙ ap (λ u. map nodes_part kept ++ u ∷ []) (part_of c s m d)

nil_or : {A : Type 0} (xs : List A) → (xs ≡ []) ⊎ (xs ≡ [] → ⊥)
nil_or [] = inl refl
nil_or (x ∷ xs) = inr (λ e. absurd (cc))

map_nil : (xs : List TreeUpdate) → map nodes_part xs ≡ [] → xs ≡ []
map_nil [] e = refl
map_nil (x ∷ xs) e = absurd (cc)

-- where nothing is kept, the receiver has what was sent
pub receiver_none : (f : Frame) (m : List ℕ) (c : Client) (kept : List TreeUpdate) (sd : IsSending f m c kept) → kept ≡ [] → f.sent.trees ≡ sd.receiver
receiver_none f m c kept sd e = same_Ok f.sent.trees sd.receiver (sym (ap (λ ks. trees_after_all blank_look (map nodes_part ks) f.sent.trees) e) ∙ sd.reached)

client_bare : (f : Frame) (m : List ℕ) (c : Client) (kept : List TreeUpdate) → IsSending f m c kept → kept ≡ [] → is_bare c ≡ is_bare f.sent.trees
client_bare f m c kept sd e = ap is_bare sd.known ∙ is_bare-shape sd.receiver ∙ ap is_bare (sym (receiver_none f m c kept sd e))

-- One kept update keeps a frame sending.
pub round_sends : (f : Frame) (m : List ℕ) (c : Client) (kept : List TreeUpdate) (d : ℕ) → f.short ≡ true → pending f ≡ true → has f.source.trees d ≡ true → IsSending f m c kept
    → IsSending f (marks_after_update (update_of c f.source m d) d m) (client_after_update c (update_of c f.source m d)) (kept ++ update_of c f.source m d ∷ [])
round_sends f m c kept d sh p h sd =
    let s : Trees Look = f.source.trees in
    let st : TreesInStep sd.receiver f.source.trees m = sd.step in
    let sv : Served blank_look (trees_update sd.receiver f.source.trees m d) sd.receiver f.source.trees = serve blank_look sd.receiver f.source.trees m d st.receiver st.source st.receiver_low st.source_low h in
    let same : trees_update c f.source.trees m d ≡ trees_update sd.receiver f.source.trees m d = ap (λ (k : Client). trees_update k f.source.trees m d) sd.known ∙ trees_update_same (λ _. tt) sd.receiver f.source.trees m d in
    let part : nodes_part (update_of c f.source m d) ≡ trees_update sd.receiver f.source.trees m d = part_of c f.source m d ∙ same in
    record {
      receiver = sv.made;
      known = ap₂ (λ (k : Client) (u : Update Look). client_after k u) sd.known part ∙ client_after-shape blank_look (trees_update sd.receiver f.source.trees m d) sd.receiver sv.made sv.accepted;
      reached = ap (λ us. trees_after_all blank_look us f.sent.trees) (parts_push kept c f.source m d ∙ ap (λ u. map nodes_part kept ++ u ∷ []) same)
          ∙ trees_after_all-append blank_look (map nodes_part kept) (trees_update sd.receiver f.source.trees m d ∷ []) f.sent.trees sd.receiver sv.made sd.reached
          (one_round blank_look (trees_update sd.receiver f.source.trees m d) [] sd.receiver sv.made sv.made sv.accepted refl);
      step = subst (λ u. TreesInStep sv.made f.source.trees (marks_left u d m)) (sym part) (update_keeps blank_look sd.receiver f.source.trees m d st h sv);
      none = λ e. absurd (some_last kept (update_of c f.source m d) e);
      some = λ n. p;
      whole = λ e. absurd (false≢true (sym e ∙ sh));
      fresh = λ n. ap begins_fresh (parts_push kept c f.source m d)
          ∙ ⊎_elim (λ e. ap (λ ks. begins_fresh (map nodes_part ks ++ trees_update c f.source.trees m d ∷ [])) e ∙ update_fresh c f.source.trees m d [] (pending_rooted f p) ∙ client_bare f m c kept sd e)
          (λ e. fresh_more (map nodes_part kept) (trees_update c f.source.trees m d ∷ []) (λ q. e (map_nil kept q)) ∙ sd.fresh e) (nil_or kept);
    }

-- The same by what the calls of a round tell: the kept ones with the one that came back, the update, and what is kept of it.
pub stays_after : (src now : Source) (z z1 z2 : Sending) (b b2 : Option TreeUpdate) (c : Client) (kept : List TreeUpdate) (d : ℕ) (u : TreeUpdate)
    → z.client ≡ c → all_kept z.kept b ≡ kept → b ≡ None → u ≡ update_of z.client src.tree src.marks d
    → z1 ≡ record z { client = client_after_update z.client (update_of z.client src.tree src.marks d) }
    → now ≡ record src { marks = marks_after_update (update_of z.client src.tree src.marks d) d src.marks }
    → has src.tree.trees d ≡ true → z2.client ≡ z1.client → all_kept z2.kept b2 ≡ z1.kept ++ u ∷ []
    → StaysSending src.tree src.marks c kept now.marks z2.client (all_kept z2.kept b2)
stays_after src now z z1 z2 b b2 c kept d u ec ek eb eu e1 en there e2 k2 f es sh p sd =
    let held : z.kept ≡ kept = sym (append-nil z.kept) ∙ sym (ap (all_kept z.kept) eb) ∙ ek in
    let here : has f.source.trees d ≡ true = ap (λ (t : Tree). has t.trees d) es ∙ there in
    let st : IsSending f (marks_after_update (update_of c f.source src.marks d) d src.marks) (client_after_update c (update_of c f.source src.marks d)) (kept ++ update_of c f.source src.marks d ∷ []) = round_sends f src.marks c kept d sh p here sd in
    let eu0 : update_of z.client src.tree src.marks d ≡ update_of c f.source src.marks d = ap₂ (λ (k : Client) (t : Tree). update_of k t src.marks d) ec (sym es) in
    let em : now.marks ≡ marks_after_update (update_of c f.source src.marks d) d src.marks = ap (λ (v : Source). v.marks) en ∙ ap (λ v. marks_after_update v d src.marks) eu0 in
    let ecl : z2.client ≡ client_after_update c (update_of c f.source src.marks d) = e2 ∙ ap (λ (v : Sending). v.client) e1 ∙ ap₂ (λ (k : Client) (v : TreeUpdate). client_after_update k v) ec eu0 in
    let ekk : all_kept z2.kept b2 ≡ kept ++ update_of c f.source src.marks d ∷ [] = k2 ∙ ap₂ (λ (ks : List TreeUpdate) (v : TreeUpdate). ks ++ v ∷ []) (ap (λ (v : Sending). v.kept) e1 ∙ held) (eu ∙ eu0) in
    subst (λ m. IsSending f m z2.client (all_kept z2.kept b2)) (sym em)
    (subst (λ k. IsSending f (marks_after_update (update_of c f.source src.marks d) d src.marks) k (all_kept z2.kept b2)) (sym ecl)
    (subst (λ ks. IsSending f (marks_after_update (update_of c f.source src.marks d) d src.marks) (client_after_update c (update_of c f.source src.marks d)) ks) (sym ekk) st))

-- the first of the marks
pub first_of : (m : List ℕ) (d : ℕ) → slice_get m 0 ≡ Some d → (rest : List ℕ) × (m ≡ d ∷ rest)
first_of [] d e = absurd (cc)
first_of (x ∷ m) d e = let same : x ≡ d = cc in (m, ap (λ y. y ∷ m) same)

pub none_of : (m : List ℕ) → slice_get m 0 ≡ None → m ≡ []
none_of [] e = refl
none_of (x ∷ m) e = absurd (cc)

-- a round at the first mark leaves fewer marks
pub fewer : (c : Client) (s : Tree) (m now : List ℕ) (d : ℕ) → slice_get m 0 ≡ Some d → now ≡ marks_after_update (update_of c s m d) d m → suc (length now) ≤ length m
fewer c s m now d e en =
    let a = first_of m d e in
    let same : now ≡ marks_left (nodes_part (update_of c s m d)) d (d ∷ a.0) = en ∙ ap (marks_left (nodes_part (update_of c s m d)) d) a.1 in
    let one : length now ≡ length (marks_left (nodes_part (update_of c s m d)) d (d ∷ a.0)) = ap length same in
    let all : length m ≡ suc (length a.0) = ap length a.1 in
    omega (arith, one, all, marks_left_head (nodes_part (update_of c s m d)) d a.0)

-- what is kept after a round, followed by the later rounds, is what was kept, followed by the rounds
pub round_parts : (c after : Client) (s : Tree) (m now : List ℕ) (d : ℕ) (kept all : List TreeUpdate) → slice_get m 0 ≡ Some d
    → after ≡ client_after_update c (update_of c s m d) → now ≡ marks_after_update (update_of c s m d) d m → all ≡ kept ++ update_of c s m d ∷ []
    → map nodes_part all ++ rounds (length now) after s.trees now ≡ map nodes_part kept ++ rounds (length m) c s.trees m
round_parts c after s m now d kept all e ec en ek =
    let a = first_of m d e in
    let part = part_of c s m d in
    let u : Update Look = trees_update c s.trees m d in
    let ec1 : after ≡ client_after c (trees_update c s.trees m d) = ec ∙ ap (client_after c) part in
    let en1 : now ≡ marks_left (trees_update c s.trees m d) d m = en ∙ ap (λ v. marks_left v d m) part in
    let left : length (marks_left (trees_update c s.trees m d) d m) ≤ length a.0 = let same : length (marks_left (trees_update c s.trees m d) d m) ≡ length (marks_left (trees_update c s.trees m d) d (d ∷ a.0)) = ap (λ ms. length (marks_left (trees_update c s.trees m d) d ms)) a.1 in omega (arith, same, marks_left_head (trees_update c s.trees m d) d a.0) in
    ap (λ us. us ++ rounds (length now) after s.trees now) (ap (map nodes_part) ek ∙ parts_push kept c s m d)
    ∙ append_assoc (map nodes_part kept) (trees_update c s.trees m d ∷ []) (rounds (length now) after s.trees now)
    ∙ ap (λ us. map nodes_part kept ++ trees_update c s.trees m d ∷ us) (ap₂ (λ (k : Client) (ms : List ℕ). rounds (length ms) k s.trees ms) ec1 en1
    ∙ rounds_enough (length (marks_left (trees_update c s.trees m d) d m)) (length a.0) (client_after c (trees_update c s.trees m d)) s.trees (marks_left (trees_update c s.trees m d) d m) (omega arith) left)
    ∙ ap (λ us. map nodes_part kept ++ us) (turn a.0 m a.1)
  where
    turn : (rest ms : List ℕ) → ms ≡ d ∷ rest → trees_update c s.trees ms d ∷ rounds (length rest) (client_after c (trees_update c s.trees ms d)) s.trees (marks_left (trees_update c s.trees ms d) d ms) ≡ rounds (length ms) c s.trees ms
    turn rest ms q = subst (λ ns. trees_update c s.trees ns d ∷ rounds (length rest) (client_after c (trees_update c s.trees ns d)) s.trees (marks_left (trees_update c s.trees ns d) d ns) ≡ rounds (length ns) c s.trees ns) (sym q) refl

-- ---- the update at the root

pub held_updates : (c : Client) (s : Trees Look) (m : List ℕ) → is_some (root_of c) ≡ true → trees_updates c s m ≡ rounds (length m) c s m
held_updates bare s m h = absurd (false≢true h)
held_updates (tree i x k r) s m h = refl

first_updates : (c : Client) (s : Trees Look) (m : List ℕ) (d : ℕ) → is_some (root_of c) ≡ false → root_of s ≡ Some d → trees_updates c s m ≡ first_update c s m d
first_updates bare bare m d h e = absurd (cc)
first_updates bare (tree i x k r) m d h e = let same : i ≡ d = cc in ap (first_update bare (tree i x k r) m) same
first_updates (tree a b k r) s m d h e = absurd (false≢true (sym h))

-- what is kept after the update at the root, followed by the rounds, is what was kept, followed by all updates of the pass
pub root_parts : (c after : Client) (s : Tree) (m now : List ℕ) (d : ℕ) (kept all : List TreeUpdate) → is_some (root_of c) ≡ false → root_of s.trees ≡ Some d
    → after ≡ client_after_update c (update_of c s m d) → now ≡ marks_after_update (update_of c s m d) d m → all ≡ kept ++ update_of c s m d ∷ []
    → map nodes_part all ++ rounds (length now) after s.trees now ≡ map nodes_part kept ++ trees_updates c s.trees m
root_parts c after s m now d kept all h e ec en ek =
    let part = part_of c s m d in
    let u : Update Look = trees_update c s.trees m d in
    let ec1 : after ≡ client_after c (trees_update c s.trees m d) = ec ∙ ap (client_after c) part in
    let en1 : now ≡ marks_left (trees_update c s.trees m d) d m = en ∙ ap (λ v. marks_left v d m) part in
    let left : length (marks_left (trees_update c s.trees m d) d m) ≤ length m = length-filter (λ z. not (lists (trees_update c s.trees m d).nodes z || eqb z d)) m in
    ap (λ us. us ++ rounds (length now) after s.trees now) (ap (map nodes_part) ek ∙ parts_push kept c s m d)
    ∙ append_assoc (map nodes_part kept) (trees_update c s.trees m d ∷ []) (rounds (length now) after s.trees now)
    ∙ ap (λ us. map nodes_part kept ++ trees_update c s.trees m d ∷ us) (ap₂ (λ (k : Client) (ms : List ℕ). rounds (length ms) k s.trees ms) ec1 en1
    ∙ rounds_enough (length (marks_left (trees_update c s.trees m d) d m)) (length m) (client_after c (trees_update c s.trees m d)) s.trees (marks_left (trees_update c s.trees m d) d m) (omega arith) left)
    ∙ ap (λ us. map nodes_part kept ++ us) (sym (first_updates c s.trees m d h e))

-- ---- where a pass begins

pub updates_fresh : (c : Client) (s : Trees Look) (m : List ℕ) → is_bare s ≡ false → begins_fresh (trees_updates c s m) ≡ is_bare c
updates_fresh c bare m h = absurd (false≢true (sym h))
updates_fresh bare (tree i x k r) m h = update_fresh bare (tree i x k r) m i (rounds (length m) (client_after bare (trees_update {E = Unit {0}} bare (tree i x k r) m i)) (tree i x k r) (marks_left (trees_update {E = Unit {0}} bare (tree i x k r) m i) i m)) h
updates_fresh (tree a b e g) (tree i x k r) [] h = refl
updates_fresh (tree a b e g) (tree i x k r) (d ∷ m) h =
    update_fresh (tree a b e g) (tree i x k r) (d ∷ m) d
    (rounds (length m) (client_after (tree a b e g) (trees_update (tree a b e g) (tree i x k r) (d ∷ m) d)) (tree i x k r) (marks_left (trees_update (tree a b e g) (tree i x k r) (d ∷ m) d) d (d ∷ m))) h

-- a pass begins from an empty receiver exactly where the frame's packet does
pub fresh_is : (f : Frame) (m : List ℕ) (c : Client) (kept : List TreeUpdate) → is_bare f.source.trees ≡ false → IsSending f m c kept → is_fresh_pass kept c f.source.trees m ≡ is_bare f.sent.trees
fresh_is f m c kept b sd =
    ⊎_elim
    (λ e. ap (λ (ks : List TreeUpdate). begins_fresh (map nodes_part ks ++ trees_updates c f.source.trees m)) e ∙ updates_fresh c f.source.trees m b ∙ client_bare f m c kept sd e)
    (λ e. fresh_more (map nodes_part kept) (trees_updates c f.source.trees m) (λ q. e (map_nil kept q)) ∙ sd.fresh e)
    (nil_or kept)

-- ---- what all updates give

-- The receiver then has the source.
pub completes : (s : Tree) (m left : List ℕ) (c after : Client) (kept all : List TreeUpdate) → StaysSending s m c kept left after all
    → map nodes_part all ≡ map nodes_part kept ++ trees_updates c s.trees m → Completes s m c kept after
completes s m left c after kept all st e f es sh p sd =
    let done : IsSending f left after all = st f es sh p sd in
    let us : map nodes_part all ≡ map nodes_part kept ++ trees_updates (shape sd.receiver) f.source.trees m = e ∙ ap₂ (λ (k : Client) (t : Tree). map nodes_part kept ++ trees_updates k t.trees m) sd.known (sym es) in
    let same : done.receiver ≡ f.source.trees = same_Ok done.receiver f.source.trees (sym done.reached ∙ ap (λ vs. trees_after_all blank_look vs f.sent.trees) us
    ∙ resumed_reach blank_look (map nodes_part kept) f.sent.trees sd.receiver f.source.trees m sd.reached sd.step) in
    done.known ∙ ap shape same ∙ ap (λ (t : Tree). shape t.trees) es

-- ---- a frame that isn't short

filter_none : (p : ℕ → Bool) (m : List ℕ) → ((z : ℕ) → contains m z ≡ true → p z ≡ false) → filter p m ≡ []
filter_none p [] h = refl
filter_none p (x ∷ m) h =
    let no : p x ≡ false = h x (grind (arith, eqb_tells x x)) in
    rw no (filter_none p m (λ z g. h z (grind (arith, g))))

no_rounds : (n : ℕ) (c : Client) (s : Trees Look) → rounds n c s [] ≡ []
no_rounds zero c s = refl
no_rounds (suc n) c s = refl

-- an update that lists all marks leaves none
none_left : (u : Update Look) (i : ℕ) (m : List ℕ) → ((z : ℕ) → contains m z ≡ true → lists u.nodes z ≡ true) → marks_left u i m ≡ []
none_left u i m h = filter_none (λ z. not (lists u.nodes z || eqb z i)) m (λ z g. let l : lists u.nodes z ≡ true = h z g in grind (arith, l))

one_update : (c : Client) (s : Trees Look) (m : List ℕ) (i : ℕ) → ((z : ℕ) → contains m z ≡ true → lists (trees_update c s m i).nodes z ≡ true) → first_update c s m i ≡ trees_update c s m i ∷ []
one_update c s m i h =
    ap (λ us. trees_update c s m i ∷ us)
    (ap (rounds (length m) (client_after c (trees_update c s m i)) s) (none_left (trees_update c s m i) i m h) ∙ no_rounds (length m) (client_after c (trees_update c s m i)) s)

-- an empty receiver gets the whole source, whatever is marked
pub whole_updates : (s : Trees Look) (m : List ℕ) → ((z : ℕ) → contains m z ≡ true → has s z ≡ true) → trees_updates bare s m ≡ trees_updates bare s []
whole_updates bare m h = refl
whole_updates (tree i x k r) m h = one_update bare (tree i x k r) m i (λ z g. lists_all (tree i x k r) z ∙ h z g) ∙ sym (one_update bare (tree i x k r) [] i (λ z g. absurd (false≢true g)))
