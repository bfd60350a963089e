-- Runs that are the same but for the packets' bundles go on the same.
use Rattle.std.proofs.Common.{ℕ, zero, suc, ◌+◌, ◌≡◌, ◌==◌, true, false, if◌then◌else◌, List, [], ◌∷◌, ◌++◌, length, map, find, flat_map, replicate, slice_get, refl, sym, ap, ◌∙◌, Option, Some, None, option_map, option_and_then}
use Rattle.std.proofs.lemmas.List.{map-append, length-map}
use Rattle.ax_trees.proofs.Trees.{by_go}
use Rattle.ax_tree.specs.declared.packet.Packet.{Packet}
use Rattle.ax_tree.specs.declared.packet.JEntry.TheVariants as entries
use Rattle.ax_tree.specs.declared.packet.HEntry.{HEntry}
use Rattle.ax_tree.specs.declared.packet.HEntry.TheVariants as events
use Rattle.ax_ask.specs.declared.op.FrameOp.{FrameOp}
use Rattle.ax_ask.specs.declared.op.FrameOp.TheVariants as ops
use Rattle.ax_ask.specs.declared.op.BrowserOp.{BrowserOp}
use Rattle.ax_ask.specs.declared.op.BrowserOp.TheVariants as browsers
use Rattle.ax_ask.specs.declared.op.TimedOp.{TimedOp}
use Rattle.ax_ask.specs.declared.op.Item.{Item}
use Rattle.ax_ask.specs.declared.op.Item.TheVariants as items
use Rattle.ax_ask.specs.declared.query.TimedQuery.{TimedQuery}
use Rattle.ax_ask.specs.declared.line.Line.TheVariants as lines
use Rattle.ax_rules.specs.Mirrors.{forest_of}
use Rattle.ax_run_rules.specs.Replies.{answer_of}
use Rattle.ax_run_rules.specs.States.{FrameRun, Run, frame_now, trees_of, forest_now, find_frame, with_frame}
use Rattle.ax_run_rules.specs.FrameSteps.{entry_of, sent_by, do_op}
use Rattle.ax_run_rules.specs.Steps.{next_token, name_of, do_receive, do_ask, do_browser, do_deliver, do_query, do_next_op, do_oldest, do_next_browser, do_next_query, do_reader, step, run}
use Rattle.ax_run_rules.specs.Finale.{ops_left, packets_left, delivery_of, serve, is_behind, pass_of, refresh, refresh_if, catch_up, queries_left, finale_of}
use Rattle.ax_run_laws.proofs.Found.{of_tree, replaced}
use Rattle.ax_order_laws.specs.Parts.{without_bundle, entry_without, without_bundles, run_without}
use Rattle.ax_order_laws.specs.Told.{entry_line}
use Rattle.ax_order_laws.specs.Laws.{GoOnTheSame}
use Rattle.ax_order_laws.proofs.Places.{event_of}
use Rattle.ax_order_laws.proofs.Bare.{bare, bare_gone, bare_token, bare_pass, bare_forest, bare_line, bare_verdict_of}
use Rattle.ax_order_laws.proofs.Own.{map_map, map_same}
use Rattle.ax_order_laws.proofs.Walk.{frame_of_parts, same_run, entry_done}

abbrev stripped : FrameRun → FrameRun
stripped f = record f { waiting = map without_bundle f.waiting }

-- ---- what is without bundles stays so

twice_packets : (ps : List Packet) → map without_bundle (map without_bundle ps) ≡ map without_bundle ps
twice_packets ps = map_map without_bundle without_bundle ps

entry_twice : (e : HEntry) → entry_without (entry_without e) ≡ entry_without e
entry_twice (events.Got p) = refl
entry_twice (events.Asked t) = refl
entry_twice (events.Ended t) = refl
entry_twice (events.Probed t u) = refl

bare_twice : (h : List HEntry) → bare (bare h) ≡ bare h
bare_twice h = map_map entry_without entry_without h ∙ map_same (λ e. entry_without (entry_without e)) entry_without h (λ n e q. entry_twice e)

stripped_twice : (f : FrameRun) → stripped (stripped f) ≡ stripped f
stripped_twice f = ap (frame_of_parts f.tree f.left f.journal) (twice_packets f.waiting)

frames_twice : (fs : List FrameRun) → map stripped (map stripped fs) ≡ map stripped fs
frames_twice fs = map_map stripped stripped fs ∙ map_same (λ f. stripped (stripped f)) stripped fs (λ n f q. stripped_twice f)

bare_push : (h : List HEntry) (e f : HEntry) → entry_without e ≡ entry_without f → bare (bare h ++ e ∷ []) ≡ bare (h ++ f ∷ [])
bare_push h e f q =
    map-append entry_without (bare h) (e ∷ []) ∙ (ap (λ l. l ++ entry_without e ∷ []) (bare_twice h) ∙ (ap (λ x. bare h ++ x ∷ []) q ∙ sym (map-append entry_without h (f ∷ []))))

found_stripped : (t : ℕ) (fs : List FrameRun) → find (of_tree t) (map stripped fs) ≡ option_map stripped (find (of_tree t) fs)
found_stripped t [] = refl
found_stripped t (f ∷ fs) = by_go (f.tree == t) (λ q. rw q refl) (λ q. rw q (found_stripped t fs))

-- a frame replaced by one that is the same but for bundles
put_same : (x y : FrameRun) (fs : List FrameRun) → stripped x ≡ stripped y → map stripped (map (replaced x) (map stripped fs)) ≡ map stripped (map (replaced y) fs)
put_same x y [] e = refl
put_same x y (f ∷ fs) e =
    let rest = put_same x y fs e in
    let same : x.tree ≡ y.tree = ap (λ (z : FrameRun). z.tree) e in
    by_go (f.tree == x.tree)
    (λ q. let r : (f.tree == y.tree) ≡ true = ap (λ u. f.tree == u) (sym same) ∙ q in
    rw (q, r) (ap (λ z. z ∷ map stripped (map (replaced x) (map stripped fs))) e ∙ ap (λ l. stripped y ∷ l) rest))
    (λ q. let r : (f.tree == y.tree) ≡ false = ap (λ u. f.tree == u) (sym same) ∙ q in
    rw (q, r) (ap (λ z. z ∷ map stripped (map (replaced x) (map stripped fs))) (stripped_twice f) ∙ ap (λ l. stripped f ∷ l) rest))

-- ---- steps

abbrev Bare : Option Run → Option Run
Bare o = option_map run_without o

op_same : (r : Run) (f : FrameRun) (os : List FrameOp) → Bare (do_next_op (run_without r) (stripped f) os) ≡ Bare (do_next_op r f os)
unfolding without_bundles do_op with_frame frame_now
op_same r f [] = refl
op_same r f (o ∷ left) =
    ap Some (same_run _ _ _ _ _ _ _ _ _ _
    (put_same _ _ r.state.frames (ap (frame_of_parts f.tree left (f.journal ++ entry_of o ∷ []))
    (map-append without_bundle (map without_bundle f.waiting) (sent_by f.tree (frame_now f) o)
    ∙ (ap (λ l. l ++ map without_bundle (sent_by f.tree (frame_now f) o)) (twice_packets f.waiting) ∙ sym (map-append without_bundle f.waiting (sent_by f.tree (frame_now f) o))))))
    refl refl (bare_twice r.state.history) refl)

pass_same : (r : Run) (f : FrameRun) → run_without (do_op (run_without r) (stripped f) ops.Pass f.left) ≡ run_without (do_op r f ops.Pass f.left)
unfolding without_bundles do_op with_frame frame_now
pass_same r f =
    same_run _ _ _ _ _ _ _ _ _ _
    (put_same _ _ r.state.frames (ap (frame_of_parts f.tree f.left (f.journal ++ entries.Passed ∷ []))
    (map-append without_bundle (map without_bundle f.waiting) (sent_by f.tree (frame_now f) ops.Pass)
    ∙ (ap (λ l. l ++ map without_bundle (sent_by f.tree (frame_now f) ops.Pass)) (twice_packets f.waiting) ∙ sym (map-append without_bundle f.waiting (sent_by f.tree (frame_now f) ops.Pass))))))
    refl refl (bare_twice r.state.history) refl

oldest_same : (r : Run) (f : FrameRun) (ps : List Packet) → Bare (do_oldest (run_without r) (stripped f) (map without_bundle ps)) ≡ Bare (do_oldest r f ps)
unfolding without_bundles do_receive with_frame
oldest_same r f [] = refl
oldest_same r f (p ∷ ps) =
    ap Some (same_run _ _ _ _ _ _ _ _ _ _
    (put_same _ _ r.state.frames (ap (frame_of_parts f.tree f.left f.journal) (twice_packets ps)))
    refl refl (bare_push r.state.history (events.Got (without_bundle p)) (events.Got p) refl)
    (ap (λ v. r.lines ++ lines.Received f.tree v ∷ []) (bare_verdict_of r.state.history p)))

browser_same : (r : Run) (op : BrowserOp) → run_without (do_browser (run_without r) op) ≡ run_without (do_browser r op)
unfolding without_bundles
browser_same r op =
    ap run_without (entry_done (run_without r) op)
    ∙ (same_run _ _ _ _ _ _ _ _ _ _
    (frames_twice r.state.frames) refl refl (bare_push r.state.history (event_of op) (event_of op) refl)
    (ap (λ l. r.lines ++ l ∷ []) (ap (entry_line (bare r.state.history)) (sym (own_twice op)) ∙ bare_line r.state.history (event_of op)))
    ∙ ap run_without (sym (entry_done r op)))
  where
    own_twice : (x : BrowserOp) → entry_without (event_of x) ≡ event_of x
    own_twice (browsers.Ask t) = refl
    own_twice (browsers.Destroy t) = refl
    own_twice (browsers.Probe t u) = refl

next_browser_same : (r : Run) (os : List TimedOp) → Bare (do_next_browser (run_without r) os) ≡ Bare (do_next_browser r os)
unfolding without_bundles
next_browser_same r [] = refl
next_browser_same r (o ∷ left) = ap Some (browser_same (record r { state = record r.state { browser = left } }) o.op)

next_browser_bare : (r : Run) → Bare (do_next_browser (run_without r) (run_without r).state.browser) ≡ Bare (do_next_browser r r.state.browser)
unfolding without_bundles
next_browser_bare r = next_browser_same r r.state.browser

delivery_same : (r : Run) (f : FrameRun) (n : ℕ) → run_without (do_deliver (run_without r) (stripped f) n) ≡ run_without (do_deliver r f n)
unfolding without_bundles do_deliver with_frame
delivery_same r f n =
    same_run _ _ _ _ _ _ _ _ _ _
    (put_same _ _ r.state.frames (ap (frame_of_parts f.tree f.left (f.journal ++ entries.Delivered (record { 0 = n }) ∷ [])) (twice_packets f.waiting)))
    refl refl (bare_twice r.state.history) refl

same_trees : (fs : List FrameRun) → map (λ (f : FrameRun). f.tree) (map stripped fs) ≡ map (λ (f : FrameRun). f.tree) fs
same_trees fs = map_map stripped (λ (f : FrameRun). f.tree) fs

pub forest_same : (r : Run) → forest_now (run_without r).state ≡ forest_now r.state
unfolding forest_now without_bundles
forest_same r = ap (λ ts. forest_of ts (bare r.state.history)) (same_trees r.state.frames) ∙ bare_forest (map (λ (f : FrameRun). f.tree) r.state.frames) r.state.history

query_same : (r : Run) (k : ℕ) (qs : List TimedQuery) → Bare (do_next_query (run_without r) k qs) ≡ Bare (do_next_query r k qs)
unfolding without_bundles do_query
query_same r k [] = refl
query_same r k (q ∷ left) =
    ap Some (same_run _ _ _ _ _ _ _ _ _ _
    (frames_twice r.state.frames) refl refl (bare_twice r.state.history)
    (ap (λ f. r.lines ++ lines.Answered (suc k) (name_of q.query) (answer_of f q.query) ∷ []) (forest_same r)))

queries_same : (r : Run) (k : ℕ) (o : Option (List TimedQuery)) → Bare (option_and_then (do_next_query (run_without r) k) o) ≡ Bare (option_and_then (do_next_query r k) o)
queries_same r k None = refl
queries_same r k (Some qs) = query_same r k qs

reader_same : (r : Run) (k : ℕ) → Bare (do_reader (run_without r) k) ≡ Bare (do_reader r k)
unfolding without_bundles
reader_same r zero = refl
reader_same r (suc k) = queries_same r k (slice_get r.state.readers k)

-- with the frame that is found
with_same : (r : Run) (t : ℕ) (g h : FrameRun → Option Run) → ((f : FrameRun) → Bare (g (stripped f)) ≡ Bare (h f))
    → Bare (option_and_then g (find_frame (run_without r).state t)) ≡ Bare (option_and_then h (find_frame r.state t))
unfolding find_frame without_bundles
with_same r t g h e = ap (λ o. Bare (option_and_then g o)) (found_stripped t r.state.frames) ∙ go (find (of_tree t) r.state.frames)
  where
    go : (o : Option FrameRun) → Bare (option_and_then g (option_map stripped o)) ≡ Bare (option_and_then h o)
    go None = refl
    go (Some f) = e f

as_then : (g : FrameRun → Run) (o : Option FrameRun) → option_map g o ≡ option_and_then (λ f. Some (g f)) o
as_then g None = refl
as_then g (Some f) = refl

mapped_same : (r : Run) (t : ℕ) (g h : FrameRun → Run) → ((f : FrameRun) → run_without (g (stripped f)) ≡ run_without (h f))
    → Bare (option_map g (find_frame (run_without r).state t)) ≡ Bare (option_map h (find_frame r.state t))
mapped_same r t g h e =
    ap Bare (as_then g (find_frame (run_without r).state t)) ∙ (with_same r t (λ f. Some (g f)) (λ f. Some (h f)) (λ f. ap Some (e f)) ∙ ap Bare (sym (as_then h (find_frame r.state t))))

step_bare : (r : Run) (i : Item) → Bare (step (run_without r) i) ≡ Bare (step r i)
unfolding step
step_bare r (items.Frame t) = with_same r t (λ (f : FrameRun). do_next_op (run_without r) f f.left) (λ (f : FrameRun). do_next_op r f f.left) (λ f. op_same r f f.left)
step_bare r (items.Receive t) = with_same r t (λ (f : FrameRun). do_oldest (run_without r) f f.waiting) (λ (f : FrameRun). do_oldest r f f.waiting) (λ f. oldest_same r f f.waiting)
step_bare r items.Browser = next_browser_bare r
step_bare r (items.Deliver t n) = mapped_same r t (λ (f : FrameRun). do_deliver (run_without r) f n.0) (λ (f : FrameRun). do_deliver r f n.0) (λ f. delivery_same r f n.0)
step_bare r (items.Reader k) = reader_same r k

-- ---- runs and the finale

-- what goes the same for runs that are the same but for bundles
pub record Respects (g : Run → Option Run) : Type 0 where
  pub same : (a b : Run) → run_without a ≡ run_without b → Bare (g a) ≡ Bare (g b)

by_bare : (g : Run → Option Run) → ((r : Run) → Bare (g (run_without r)) ≡ Bare (g r)) → Respects g
by_bare g h = record { same = λ a b e. sym (h a) ∙ (ap (λ x. Bare (g x)) e ∙ h b) }

then_same : (g : Run → Option Run) → Respects g → (x y : Option Run) → Bare x ≡ Bare y → Bare (option_and_then g x) ≡ Bare (option_and_then g y)
then_same g h None None e = refl
then_same g h None (Some b) e = absurd (cc)
then_same g h (Some a) None e = absurd (cc)
then_same g h (Some a) (Some b) e = h.same a b (let s : run_without a ≡ run_without b = cc in s)

then_respects : (g h : Run → Option Run) → Respects g → Respects h → Respects (λ r. option_and_then g (h r))
then_respects g h x y = record { same = λ a b e. then_same g x (h a) (h b) (y.same a b e) }

-- what is chosen by the state without bundles
chosen : {C : Type 0} (choose : Run → C) (g : C → Run → Option Run) → ((r : Run) → choose (run_without r) ≡ choose r) → ((c : C) → Respects (g c)) → Respects (λ r. g (choose r) r)
chosen choose g e h = record {
  same = λ a b q.
      ap (λ c. Bare (g c a)) (sym (e a) ∙ (ap choose q ∙ e b)) ∙ (h (choose b)).same a b q;
}

pub run_respects : (o : List Item) → Respects (run o)
run_respects [] = record { same = λ a b e. ap Some e }
run_respects (i ∷ o) = then_respects (run o) (λ r. step r i) (run_respects o) (by_bare (λ r. step r i) (λ r. step_bare r i))

-- ---- the finale

flat_map_map : {X Y Z : Type 0} (f : X → Y) (g : Y → List Z) (xs : List X) → flat_map g (map f xs) ≡ flat_map (λ x. g (f x)) xs
flat_map_map f g [] = refl
flat_map_map f g (x ∷ xs) = ap (λ l. g (f x) ++ l) (flat_map_map f g xs)

ops_same : (r : Run) → ops_left (run_without r).state ≡ ops_left r.state
unfolding ops_left without_bundles
ops_same r = flat_map_map stripped (λ (f : FrameRun). replicate (length f.left) (items.Frame f.tree)) r.state.frames

packets_same : (r : Run) → packets_left (run_without r).state ≡ packets_left r.state
unfolding packets_left without_bundles
packets_same r = go r.state.frames
  where
    go : (fs : List FrameRun) → flat_map (λ (f : FrameRun). replicate (length f.waiting) (items.Receive f.tree)) (map stripped fs) ≡ flat_map (λ (f : FrameRun). replicate (length f.waiting) (items.Receive f.tree)) fs
    go [] = refl
    go (f ∷ fs) =
        ap (λ n. replicate n (items.Receive f.tree) ++ flat_map (λ (g : FrameRun). replicate (length g.waiting) (items.Receive g.tree)) (map stripped fs)) (length-map f.waiting without_bundle)
        ∙ ap (λ l. replicate (length f.waiting) (items.Receive f.tree) ++ l) (go fs)

delivery_of_same : (r : Run) (op : BrowserOp) → delivery_of (run_without r).state op ≡ delivery_of r.state op
unfolding without_bundles
delivery_of_same r (browsers.Ask t) = let g = bare_gone r.state.history t in let k = bare_token r.state.history t in rw (g, k) refl
delivery_of_same r (browsers.Destroy t) = refl
delivery_of_same r (browsers.Probe t u) = refl

serve_respects : (os : List TimedOp) → Respects (serve os)
serve_respects [] = record { same = λ a b e. ap Some e }
serve_respects (o ∷ left) =
    then_respects (serve left) (λ r. run (items.Browser ∷ delivery_of r.state o.op) r) (serve_respects left)
    (chosen (λ r. delivery_of r.state o.op) (λ l r. run (items.Browser ∷ l) r) (λ r. delivery_of_same r o.op) (λ l. run_respects (items.Browser ∷ l)))

pass_of_respects : (t : ℕ) → Respects (λ r. pass_of r t)
unfolding pass_of
pass_of_respects t = by_bare (λ r. pass_of r t) (λ r. mapped_same r t (λ (f : FrameRun). do_op (run_without r) f ops.Pass f.left) (λ (f : FrameRun). do_op r f ops.Pass f.left) (λ f. pass_same r f))

ask_same : (r : Run) (t : ℕ) → run_without (do_ask (run_without r) t) ≡ run_without (do_ask r t)
unfolding do_browser
ask_same r t = browser_same r (browsers.Ask t)

asked_respects : (o : List Item) (t : ℕ) → Respects (λ r. run o (do_ask r t))
asked_respects o t = record { same = λ a b e. (run_respects o).same (do_ask a t) (do_ask b t) (sym (ask_same a t) ∙ (ap (λ x. run_without (do_ask x t)) e ∙ ask_same b t)) }

token_same : (r : Run) (t : ℕ) → next_token (run_without r).state.history t ≡ next_token r.state.history t
unfolding without_bundles
token_same r t = ap (λ n. n + 1) (bare_token r.state.history t)

refresh_respects : (t : ℕ) → Respects (refresh t)
unfolding refresh
refresh_respects t =
    then_respects (run (items.Receive t ∷ [])) (λ r. option_and_then (λ q. pass_of q t) (run (items.Deliver t (record { 0 = next_token r.state.history t }) ∷ []) (do_ask r t))) (run_respects (items.Receive t ∷ []))
    (then_respects (λ q. pass_of q t) (λ r. run (items.Deliver t (record { 0 = next_token r.state.history t }) ∷ []) (do_ask r t)) (pass_of_respects t)
    (chosen (λ r. next_token r.state.history t) (λ n r. run (items.Deliver t (record { 0 = n }) ∷ []) (do_ask r t)) (λ r. token_same r t) (λ n. asked_respects (items.Deliver t (record { 0 = n }) ∷ []) t)))

run_twice : (r : Run) → run_without (run_without r) ≡ run_without r
unfolding without_bundles
run_twice r = same_run _ _ _ _ _ _ _ _ _ _ (frames_twice r.state.frames) refl refl (bare_twice r.state.history) refl

behind_same : (r : Run) (f : FrameRun) → is_behind (run_without r).state (stripped f) ≡ is_behind r.state f
unfolding is_behind without_bundles frame_now
behind_same r f = let g = bare_gone r.state.history f.tree in let p = bare_pass r.state.history f.tree in rw (g, p) refl

refresh_if_same : (r : Run) (f : FrameRun) → Bare (refresh_if (run_without r) (stripped f)) ≡ Bare (refresh_if r f)
refresh_if_same r f =
    ap (λ b. Bare (if b then refresh f.tree (run_without r) else Some (run_without r))) (behind_same r f)
    ∙ by_go (is_behind r.state f) (λ q. rw q ((refresh_respects f.tree).same (run_without r) r (run_twice r))) (λ q. rw q (ap Some (run_twice r)))

catch_up_respects : (ts : List ℕ) → Respects (catch_up ts)
catch_up_respects [] = record { same = λ a b e. ap Some e }
catch_up_respects (t ∷ ts) =
    then_respects (catch_up ts) (λ r. option_and_then (refresh_if r) (find_frame r.state t)) (catch_up_respects ts)
    (by_bare (λ r. option_and_then (refresh_if r) (find_frame r.state t)) (λ r. with_same r t (refresh_if (run_without r)) (refresh_if r) (λ f. refresh_if_same r f)))

queries_left_same : (r : Run) → queries_left (run_without r).state ≡ queries_left r.state
unfolding queries_left without_bundles
queries_left_same r = refl

trees_of_same : (r : Run) → trees_of (run_without r).state ≡ trees_of r.state
unfolding without_bundles
trees_of_same r = same_trees r.state.frames

browser_left_same : (r : Run) → (run_without r).state.browser ≡ r.state.browser
unfolding without_bundles
browser_left_same r = refl

pub finale_respects : Respects finale_of
unfolding finale_of
finale_respects =
    then_respects (λ (a : Run). run (queries_left a.state) a) _ (chosen (λ (r : Run). queries_left r.state) run queries_left_same run_respects)
    (then_respects (λ (a : Run). catch_up (trees_of a.state) a) _ (chosen (λ (r : Run). trees_of r.state) catch_up trees_of_same catch_up_respects)
    (then_respects (λ (a : Run). serve a.state.browser a) _ (chosen (λ (r : Run). r.state.browser) serve browser_left_same serve_respects)
    (then_respects (λ (a : Run). run (packets_left a.state) a) _ (chosen (λ (r : Run). packets_left r.state) run packets_same run_respects)
    (chosen (λ (r : Run). ops_left r.state) run ops_same run_respects))))

pub go_on_the_same : (a b : Run) → run_without a ≡ run_without b → GoOnTheSame a b
go_on_the_same a b e = record {
  orders = λ o. (run_respects o).same a b e;
  finale = finale_respects.same a b e;
  forest = sym (forest_same a) ∙ (ap (λ (r : Run). forest_now r.state) e ∙ forest_same b);
}
