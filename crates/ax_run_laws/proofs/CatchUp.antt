-- In the finale each live tree catches up with its frame.
use Rattle.std.proofs.Common.{ℕ, zero, suc, ◌+◌, ◌≡◌, ◌==◌, Bool, true, false, not, ◌&&◌, ◌||◌, cond, if◌then◌else◌, List, [], ◌∷◌, ◌++◌, length, filter, map, find, flat_map, replicate, refl, sym, ap, ◌∙◌, subst, Option, Some, None, Result, Ok, append-nil, option_and_then, option_map, option_to_list, slice_get, true≢false}
use Rattle.std.proofs.lemmas.Bool.{eqb-true}
use Rattle.std.proofs.Math.Seq.{take-length}
use Rattle.std.specs.List.{enumerate_from}
use Rattle.ax_node.specs.Look.{Look}
use Rattle.ax_node.specs.declared.tree_data.TreeData.{TreeData}
use Rattle.ax_trees.specs.Trees.{Trees, bare, tree, is_bare}
use Rattle.ax_trees.specs.Lists.{contains, is_nil}
use Rattle.ax_tree.specs.declared.packet.Packet.{Packet}
use Rattle.ax_tree.specs.declared.packet.JEntry.{JEntry}
use Rattle.ax_tree.specs.declared.packet.JEntry.TheVariants as entries
use Rattle.ax_tree.specs.declared.packet.HEntry.{HEntry}
use Rattle.ax_tree.specs.declared.packet.HEntry.TheVariants.{Got, Asked}
use Rattle.ax_tree.specs.declared.update.BundleErr.{BundleErr}
use Rattle.ax_tree.specs.Tree.{Tree, empty}
use Rattle.ax_tree.specs.Serialised.{InStep}
use Rattle.ax_tree.specs.Journals.{Frame, new_frame, frame_of, pending, after_packet, packet_at, packets_of, source_of}
use Rattle.ax_tree.specs.Packets.{source_at, edited_all}
use Rattle.ax_ask.specs.declared.op.FrameOp.TheVariants as ops
use Rattle.ax_ask.specs.declared.op.BrowserOp.TheVariants as browsers
use Rattle.ax_ask.specs.declared.op.Item.{Item}
use Rattle.ax_ask.specs.declared.op.Item.TheVariants as items
use Rattle.ax_ask.specs.declared.query.TimedQuery.{TimedQuery}
use Rattle.ax_rules.specs.Histories.{asks, is_gone, token_of, got, applied_pass}
use Rattle.ax_rules.specs.Mirrors.{mirror_of}
use Rattle.ax_run_rules.specs.Scripts.{Script}
use Rattle.ax_run_rules.specs.States.{FrameRun, State, Run, begin, trees_of, frame_now, find_frame, with_frame, without_lines}
use Rattle.ax_run_rules.specs.FrameSteps.{packet_now, sent_by, do_op}
use Rattle.ax_run_rules.specs.Steps.{next_token, do_ask, do_browser, do_receive, do_deliver, do_query, do_next_query, do_reader, do_oldest, step, run}
use Rattle.ax_run_rules.specs.Finale.{ops_left, packets_left, serve, is_behind, pass_of, refresh, refresh_if, catch_up, queries_left, finale_of}
use Rattle.ax_rules.proofs.Appends.{is_gone-append, got-append, applied_pass-append, frame_of-append}
use Rattle.ax_rules.proofs.Tokens.{token-append}
use Rattle.ax_rules.proofs.Building.{Open, pass_then}
use Rattle.ax_tree.proofs.GoodFronts.{slips}
use Rattle.ax_laws.proofs.GoodPackets.{made_frame}
use Rattle.ax_laws.proofs.FrameSteps.{kept_frame, frame_source}
use Rattle.ax_laws.proofs.Sent.{bundle_reach}
use Rattle.ax_run_laws.proofs.Found.{of_tree, replaced, some_same, found_in, other_in, same_in, same_number, each_found}
use Rattle.ax_run_laws.proofs.Held.{FrameHeld, Held, AllHeld, op_held, browser_op_held, delivery_held, receive_held, run_held, begin_held, got_other}
use Rattle.ax_run_laws.proofs.Quiet.{AllRun, next, Calm, AllSendNothing, run_calm, packets_calm, serve_calm}

-- ---- a frame with nothing to send

abbrev accepted : Tree → Result Tree BundleErr
accepted a = Ok a

ok_same : (a b : Tree) → accepted a ≡ accepted b → a ≡ b
ok_same a b h = cc

in_step_same : (a : TreeData) (f : Trees Look) (s : Tree) → is_bare f ≡ false → InStep (record { about = a; trees = f }) s [] false (is_bare f) → record { about = a; trees = f } ≡ s
in_step_same a bare s n st = absurd (true≢false n)
in_step_same a (tree i x inner others) s n st = ok_same (record { about = a; trees = tree i x inner others }) s (bundle_reach (record { about = a; trees = tree i x inner others }) s [] false st)

-- the parts of a test that says that there is nothing to send
idle_parts : (a b c d : Bool) → (not a && (b || (not c || d))) ≡ false → a ≡ false → (b ≡ false) × (c ≡ true) × (d ≡ false)
idle_parts true b c d h a = absurd (true≢false a)
idle_parts false true c d h a = absurd (true≢false h)
idle_parts false false false d h a = absurd (true≢false h)
idle_parts false false true true h a = absurd (true≢false h)
idle_parts false false true false h a = (refl, refl, refl)

nil_is : (xs : List ℕ) → is_nil xs ≡ true → xs ≡ []
nil_is [] h = refl
nil_is (x ∷ xs) h = absurd (true≢false (sym h))

idle_sent : (t : ℕ) (j : List JEntry) → pending (frame_of t j) ≡ false → is_bare (frame_of t j).source.trees ≡ false
    → (is_bare (frame_of t j).sent.trees ≡ false) × ((frame_of t j).sent ≡ (frame_of t j).source)
idle_sent t j p n =
    let f = frame_of t j in
    let q = idle_parts (is_bare f.source.trees) (is_bare f.sent.trees) (is_nil f.marks) f.flag p n in (
      q.0,
      in_step_same f.sent.about f.sent.trees f.source q.0
          (subst (λ m. InStep f.sent f.source m false (is_bare f.sent.trees)) (nil_is f.marks q.1)
          (subst (λ b. InStep f.sent f.source f.marks b (is_bare f.sent.trees)) q.2 (kept_frame t j).step)),
    )

whole_source : (t : ℕ) (ps : List Packet) → source_at t ps (length ps) ≡ edited_all (slips ps) (empty t)
whole_source t ps = ap (λ l. edited_all (slips l) (empty t)) (take-length ps)

-- where all packets were received and the last was applied, the mirror is the source
caught : (h : List HEntry) (t : ℕ) (f : FrameRun) → FrameHeld h t f → f.waiting ≡ [] → applied_pass h t ≡ (frame_of t f.journal).passes → pending (frame_of t f.journal) ≡ false
    → is_bare (frame_of t f.journal).source.trees ≡ false → source_at t (got h t) (applied_pass h t) ≡ (frame_of t f.journal).source
caught h t f held e at idle n =
    let g : got h t ≡ packets_of t f.journal = sym (append-nil (got h t)) ∙ (ap (λ l. got h t ++ l) (sym e) ∙ held.packets) in
    let m = made_frame t f.journal in
    let s = idle_sent t f.journal idle n in
    ap (λ l. source_at t l (applied_pass h t)) g
    ∙ (ap (source_at t (packets_of t f.journal)) (at ∙ m.count) ∙ (whole_source t (packets_of t f.journal) ∙ (sym (m.sent s.0).0 ∙ s.1)))

-- ---- a tree that has caught up

pub record CaughtUp (h : List HEntry) (t : ℕ) (f : FrameRun) : Type 0 where
  pub same : is_gone h t ≡ false → is_bare (frame_of t f.journal).source.trees ≡ false → source_at t (got h t) (applied_pass h t) ≡ (frame_of t f.journal).source

-- the same by the journal's source
pub mirror_same : (h : List HEntry) (t : ℕ) (f : FrameRun) → CaughtUp h t f → is_gone h t ≡ false → is_bare (source_of t f.journal).trees ≡ false
    → source_at t (got h t) (applied_pass h t) ≡ source_of t f.journal
mirror_same h t f c gone n =
    let same = frame_source t f.journal (new_frame t) in c.same gone (ap (λ (x : Tree). is_bare x.trees) same ∙ n) ∙ same

pub record Up (t : ℕ) (r : Run) : Type 0 where
  pub at : (f : FrameRun) → find (of_tree t) r.state.frames ≡ Some f → CaughtUp r.state.history t f

behind_parts : (g b e p : Bool) → (not g && (not b && (not e || p))) ≡ false → g ≡ false → b ≡ false → (e ≡ true) × (p ≡ false)
behind_parts true b e p h k l = absurd (true≢false k)
behind_parts false true e p h k l = absurd (true≢false l)
behind_parts false false false p h k l = absurd (true≢false h)
behind_parts false false true true h k l = absurd (true≢false h)
behind_parts false false true false h k l = (refl, refl)

behind_true : (g b c : Bool) → (not g && (not b && c)) ≡ true → (g ≡ false) × (b ≡ false)
behind_true true b c h = absurd (true≢false (sym h))
behind_true false true c h = absurd (true≢false (sym h))
behind_true false false c h = (refl, refl)

not_behind : (s : State) (f : FrameRun) → FrameHeld s.history f.tree f → f.waiting ≡ [] → is_behind s f ≡ false → CaughtUp s.history f.tree f
unfolding is_behind frame_now
not_behind s f held e b = record {
  same = λ g n.
      let k = frame_of f.tree f.journal in
      let q = behind_parts (is_gone s.history f.tree) (is_bare k.source.trees) (applied_pass s.history f.tree == k.passes) (pending k) b g n in
      caught s.history f.tree f held e (eqb-true (applied_pass s.history f.tree) k.passes q.0) q.1 n;
}

-- ---- asking a tree anew

pub record Fresh (r : Run) (t : ℕ) (q : Run) : Type 0 where
  pub calm : Calm q
  pub up : Up t q
  pub others : (u : ℕ) → (t == u) ≡ false → Up u r → Up u q

abbrev delivered : ℕ → JEntry
delivered n = entries.Delivered (record { 0 = n })

-- the frame after the delivery: it is to send its whole source
record Reset (t n : ℕ) (j : List JEntry) (g : Frame) : Type 0 where
  rooted : is_bare g.source.trees ≡ is_bare (frame_of t j).source.trees
  empty : is_bare g.sent.trees ≡ true
  token : g.token ≡ n

reset : (t n : ℕ) (j : List JEntry) → Reset t n j (frame_of t (j ++ delivered n ∷ []))
reset t n j = record {
  rooted = ap (λ (f : Frame). is_bare f.source.trees) (frame_of-append t j (delivered n));
  empty = ap (λ (f : Frame). is_bare f.sent.trees) (frame_of-append t j (delivered n));
  token = ap (λ (f : Frame). f.token) (frame_of-append t j (delivered n));
}

pub pending_reset : (a b c : Bool) → a ≡ false → b ≡ true → (not a && (b || c)) ≡ true
pending_reset a b c h k = rw (h, k) refl

idle_after : (a : Bool) → a ≡ false → (not a && (a || (not true || false))) ≡ false
idle_after a h = rw h refl

pub token_after : (h : List HEntry) (t : ℕ) → is_gone h t ≡ false → token_of (h ++ Asked t ∷ []) t ≡ next_token h t
token_after h t n =
    token-append h (Asked t) t
    ∙ (ap (λ b. cond b (token_of h t) (token_of h t + length (filter (asks t) (Asked t ∷ [])))) n
    ∙ ap (λ b. token_of h t + length (cond b (Asked t ∷ []) [])) (same_number t))

open_after : (h : List HEntry) (t : ℕ) (p : Packet) → p.tree ≡ t → is_gone h t ≡ false → p.token.0 ≡ next_token h t → p.base.0 ≡ 0 → Open (h ++ Asked t ∷ []) p
open_after h t p e n k b =
    subst (λ u. (is_gone (h ++ Asked t ∷ []) u ≡ false) × (not (p.token.0 == token_of (h ++ Asked t ∷ []) u) ≡ false) × (not (p.base.0 == 0 || p.base.0 == applied_pass (h ++ Asked t ∷ []) u) ≡ false))
    (sym e) (
      is_gone-append h (Asked t) t ∙ ap (λ c. c || false) n,
      ap (λ x. not (x == token_of (h ++ Asked t ∷ []) t)) k ∙ (ap (λ x. not (next_token h t == x)) (token_after h t n) ∙ ap not (same_number (next_token h t))),
      ap (λ x. not (x == 0 || x == applied_pass (h ++ Asked t ∷ []) t)) b,
    )

abbrev f2 : FrameRun → ℕ → FrameRun
f2 f n = record f { journal = f.journal ++ delivered n ∷ [] }

abbrev sent_now : FrameRun → ℕ → List Packet
sent_now f n = sent_by f.tree (frame_of f.tree (f2 f n).journal) ops.Pass

abbrev f3 : FrameRun → ℕ → FrameRun
f3 f n = record { tree = f.tree; left = f.left; journal = (f2 f n).journal ++ entries.Passed ∷ []; waiting = f.waiting ++ sent_now f n }

abbrev f4 : FrameRun → ℕ → FrameRun
f4 f n = record (f3 f n) { waiting = [] }

abbrev p4 : FrameRun → ℕ → Packet
p4 f n = packet_at f.tree (frame_of f.tree (f2 f n).journal)

abbrev h4 : List HEntry → FrameRun → ℕ → List HEntry
h4 h f n = (h ++ Asked f.tree ∷ []) ++ Got (p4 f n) ∷ []

pub one_sent : (b : Bool) (p : Packet) → b ≡ true → option_to_list (if b then Some p else None) ≡ p ∷ []
one_sent b p h = rw h refl

sent_one : (f : FrameRun) (n : ℕ) → is_bare (frame_of f.tree f.journal).source.trees ≡ false → sent_now f n ≡ p4 f n ∷ []
unfolding packet_now
sent_one f n h =
    let g = frame_of f.tree (f2 f n).journal in
    let r = reset f.tree n f.journal in
    one_sent (pending g) (packet_at f.tree g) (pending_reset (is_bare g.source.trees) (is_bare g.sent.trees) (not (is_nil g.marks) || g.flag) (r.rooted ∙ h) r.empty)

after_pass : (b : Bool) (g : Frame) → b ≡ true → (if b then after_packet g else g) ≡ after_packet g
after_pass b g h = rw h refl

frame_after : (f : FrameRun) (n : ℕ) → is_bare (frame_of f.tree f.journal).source.trees ≡ false → frame_of f.tree (f4 f n).journal ≡ after_packet (frame_of f.tree (f2 f n).journal)
frame_after f n h =
    let g = frame_of f.tree (f2 f n).journal in
    let r = reset f.tree n f.journal in
    frame_of-append f.tree (f2 f n).journal entries.Passed
    ∙ after_pass (pending g) g (pending_reset (is_bare g.source.trees) (is_bare g.sent.trees) (not (is_nil g.marks) || g.flag) (r.rooted ∙ h) r.empty)

-- the tree that was asked anew has caught up
caught_anew : (h : List HEntry) (f : FrameRun) → is_gone h f.tree ≡ false → is_bare (frame_of f.tree f.journal).source.trees ≡ false
    → FrameHeld (h4 h f (next_token h f.tree)) f.tree (f4 f (next_token h f.tree)) → CaughtUp (h4 h f (next_token h f.tree)) f.tree (f4 f (next_token h f.tree))
caught_anew h f gone n held =
    let t = f.tree in
    let k = next_token h t in
    let g = frame_of t (f2 f k).journal in
    let r = reset t k f.journal in
    let a = frame_after f k n in
    let o = open_after h t (p4 f k) refl gone r.token (ap (λ b. if b then 0 else g.passes) r.empty) in
    record {
      same = λ _ m. caught (h4 h f k) t (f4 f k) held refl
          (pass_then (h ++ Asked t ∷ []) (p4 f k) o ∙ sym (ap (λ (x : Frame). x.passes) a))
          (ap pending a ∙ idle_after (is_bare g.source.trees) (r.rooted ∙ n)) m;
    }

-- another tree is left as it was
gone_other : (h : List HEntry) (t u : ℕ) (p : Packet) → is_gone ((h ++ Asked t ∷ []) ++ Got p ∷ []) u ≡ is_gone h u
gone_other h t u p = is_gone-append (h ++ Asked t ∷ []) (Got p) u ∙ (ap (λ b. b || false) (is_gone-append h (Asked t) u) ∙ no_more (is_gone h u))
  where
    no_more : (b : Bool) → ((b || false) || false) ≡ b
    no_more true = refl
    no_more false = refl

got_asked : (t u : ℕ) → got (Asked t ∷ []) u ≡ []
unfolding got
got_asked t u = refl

got_unchanged : (h : List HEntry) (t u : ℕ) (p : Packet) → (p.tree == u) ≡ false → got ((h ++ Asked t ∷ []) ++ Got p ∷ []) u ≡ got h u
got_unchanged h t u p n =
    got-append (h ++ Asked t ∷ []) (Got p ∷ []) u
    ∙ (ap (λ l. got (h ++ Asked t ∷ []) u ++ l) (got_other p u n)
    ∙ (append-nil (got (h ++ Asked t ∷ []) u) ∙ (got-append h (Asked t ∷ []) u ∙ (ap (λ l. got h u ++ l) (got_asked t u) ∙ append-nil (got h u)))))

pass_unchanged : (h : List HEntry) (t u : ℕ) (p : Packet) → (p.tree == u) ≡ false → applied_pass ((h ++ Asked t ∷ []) ++ Got p ∷ []) u ≡ applied_pass h u
pass_unchanged h t u p n = applied_pass-append (h ++ Asked t ∷ []) (Got p) u ∙ rw n (applied_pass-append h (Asked t) u)

caught_other : (h : List HEntry) (t u : ℕ) (p : Packet) (f : FrameRun) → (p.tree == u) ≡ false → CaughtUp h u f → CaughtUp ((h ++ Asked t ∷ []) ++ Got p ∷ []) u f
caught_other h t u p f n c = record {
  same = λ g b.
      ap (λ l. source_at u l (applied_pass ((h ++ Asked t ∷ []) ++ Got p ∷ []) u)) (got_unchanged h t u p n)
      ∙ (ap (source_at u (got h u)) (pass_unchanged h t u p n) ∙ c.same (sym (gone_other h t u p) ∙ g) b);
}

-- ---- the four steps

abbrev r1 : Run → FrameRun → Run
r1 r f = do_ask r f.tree

abbrev token_now : Run → FrameRun → ℕ
token_now r f = next_token r.state.history f.tree

abbrev r2 : Run → FrameRun → Run
r2 r f = do_deliver (r1 r f) f (token_now r f)

abbrev r3 : Run → FrameRun → Run
r3 r f = do_op (r2 r f) (f2 f (token_now r f)) ops.Pass f.left

abbrev r4 : Run → FrameRun → Run
r4 r f = do_receive (r3 r f) (f3 f (token_now r f)) (p4 f (token_now r f)) []

record Steps (r : Run) (f : FrameRun) : Type 0 where
  first : find (of_tree f.tree) (r1 r f).state.frames ≡ Some f
  second : find (of_tree f.tree) (r2 r f).state.frames ≡ Some (f2 f (token_now r f))
  third : find (of_tree f.tree) (r3 r f).state.frames ≡ Some (f3 f (token_now r f))
  fourth : find (of_tree f.tree) (r4 r f).state.frames ≡ Some (f4 f (token_now r f))

steps_of : (r : Run) (f : FrameRun) → find (of_tree f.tree) r.state.frames ≡ Some f → Steps r f
unfolding do_ask do_deliver do_op do_receive with_frame frame_now
steps_of r f e =
    let n = token_now r f in
    let a = same_in (f2 f n) f r.state.frames e in
    let b = same_in (f3 f n) (f2 f n) (map (replaced (f2 f n)) r.state.frames) a in
    let c = same_in (f4 f n) (f3 f n) (map (replaced (f3 f n)) (map (replaced (f2 f n)) r.state.frames)) b in
    record { first = e; second = a; third = b; fourth = c }

waits_one : (f : FrameRun) (n : ℕ) → f.waiting ≡ [] → is_bare (frame_of f.tree f.journal).source.trees ≡ false → (f3 f n).waiting ≡ p4 f n ∷ []
waits_one f n e h = ap (λ l. l ++ sent_now f n) e ∙ sent_one f n h

delivered_run : (q : Run) (t n : ℕ) (f : FrameRun) → find (of_tree t) q.state.frames ≡ Some f → run (items.Deliver t (record { 0 = n }) ∷ []) q ≡ Some (do_deliver q f n)
unfolding step find_frame
delivered_run q t n f e = ap (λ o. option_and_then (run []) (option_map (λ g. do_deliver q g n) o)) e

passed_run : (q : Run) (t : ℕ) (f : FrameRun) → find (of_tree t) q.state.frames ≡ Some f → pass_of q t ≡ Some (do_op q f ops.Pass f.left)
unfolding pass_of find_frame
passed_run q t f e = ap (λ o. option_map (λ (g : FrameRun). do_op q g ops.Pass g.left) o) e

received_run : (q : Run) (t : ℕ) (f : FrameRun) (p : Packet) → find (of_tree t) q.state.frames ≡ Some f → f.waiting ≡ p ∷ [] → run (items.Receive t ∷ []) q ≡ Some (do_receive q f p [])
unfolding step find_frame
received_run q t f p e w =
    ap (λ o. option_and_then (run []) (option_and_then (λ (g : FrameRun). do_oldest q g g.waiting) o)) e ∙ ap (λ l. option_and_then (run []) (do_oldest q f l)) w

refreshed : (r : Run) (f : FrameRun) → find (of_tree f.tree) r.state.frames ≡ Some f → f.waiting ≡ [] → is_bare (frame_of f.tree f.journal).source.trees ≡ false
    → refresh f.tree r ≡ Some (r4 r f)
unfolding refresh
refreshed r f e w n =
    let s = steps_of r f e in
    let k = token_now r f in
    ap (λ o. option_and_then (run (items.Receive f.tree ∷ [])) (option_and_then (λ q. pass_of q f.tree) o)) (delivered_run (r1 r f) f.tree k f s.first)
    ∙ (ap (λ o. option_and_then (run (items.Receive f.tree ∷ [])) o) (passed_run (r2 r f) f.tree (f2 f k) s.second)
    ∙ received_run (r3 r f) f.tree (f3 f k) (p4 f k) s.third (waits_one f k w n))

asked_held : (r : Run) (t : ℕ) → Held r.state.frames r.state.history → Held (do_ask r t).state.frames (do_ask r t).state.history
unfolding do_browser
asked_held r t h = browser_op_held r (browsers.Ask t) h

passed_held : (r : Run) (f : FrameRun) → Held r.state.frames r.state.history → find (of_tree f.tree) r.state.frames ≡ Some f → f.waiting ≡ []
    → is_bare (frame_of f.tree f.journal).source.trees ≡ false → Held (r4 r f).state.frames (r4 r f).state.history
passed_held r f h e w n =
    let s = steps_of r f e in
    let k = token_now r f in
    let b = delivery_held (r1 r f) f k (record { there = s.first; held = asked_held r f.tree h }) in
    let c : AllHeld (Some (r3 r f)) = op_held (r2 r f) (f2 f k) (ops.Pass ∷ f.left) (record { there = s.second; held = b }) in
    receive_held (r3 r f) (f3 f k) (p4 f k ∷ []) (waits_one f k w n) (record { there = s.third; held = c })

history_after : (r : Run) (f : FrameRun) → (r4 r f).state.history ≡ h4 r.state.history f (token_now r f)
unfolding do_ask do_deliver do_op do_receive with_frame
history_after r f = refl

found_before : (r : Run) (f x : FrameRun) (u : ℕ) → (f.tree == u) ≡ false → find (of_tree u) (r3 r f).state.frames ≡ Some x → find (of_tree u) r.state.frames ≡ Some x
unfolding do_ask do_deliver do_op with_frame frame_now
found_before r f x u n e =
    let k = token_now r f in
    sym (other_in (f2 f k) u r.state.frames n) ∙ (sym (other_in (f3 f k) u (map (replaced (f2 f k)) r.state.frames) n) ∙ e)

-- what is found after the four steps
found_after : (P : ℕ → FrameRun → Type 0) (r : Run) (f : FrameRun) → find (of_tree f.tree) r.state.frames ≡ Some f → P f.tree (f4 f (token_now r f))
    → ((u : ℕ) (x : FrameRun) → (f.tree == u) ≡ false → find (of_tree u) r.state.frames ≡ Some x → P u x)
    → (u : ℕ) (x : FrameRun) → find (of_tree u) (r4 r f).state.frames ≡ Some x → P u x
unfolding do_receive with_frame
found_after P r f e new others =
    each_found P (f4 f (token_now r f)) (f3 f (token_now r f)) (r3 r f).state.frames (steps_of r f e).third new (λ u x n k. others u x n (found_before r f x u n k))

fresh_after : (r : Run) (f : FrameRun) → Calm r → find (of_tree f.tree) r.state.frames ≡ Some f → is_gone r.state.history f.tree ≡ false
    → is_bare (frame_of f.tree f.journal).source.trees ≡ false → Fresh r f.tree (r4 r f)
fresh_after r f c e gone n =
    let t = f.tree in
    let k = token_now r f in
    let w = c.quiet.at t f e in
    let held = passed_held r f c.held e w n in
    let s = steps_of r f e in
    let up : CaughtUp (h4 r.state.history f k) t (f4 f k) =
    caught_anew r.state.history f gone n (subst (λ h. FrameHeld h t (f4 f k)) (history_after r f) (held.at t (f4 f k) s.fourth)) in
    record {
      calm = record { held = held; quiet = record { at = found_after (λ u x. x.waiting ≡ []) r f e refl (λ u x m q. c.quiet.at u x q) } };
      up = record { at = λ x q. subst (λ h. CaughtUp h t x) (sym (history_after r f)) (subst (λ y. CaughtUp (h4 r.state.history f k) t y) (some_same (f4 f k) x (sym s.fourth ∙ q)) up) };
      others = λ u m before. record {
        at = λ x q.
            subst (λ h. CaughtUp h u x) (sym (history_after r f))
            (found_after (λ v y. (t == v) ≡ false → Up v r → CaughtUp (h4 r.state.history f k) v y) r f e (λ d _. absurd (true≢false (sym (same_number t) ∙ d)))
            (λ v y d z _ b. caught_other r.state.history t v (p4 f k) y d (b.at y z)) u x q m before);
      };
    }

refresh_fresh : (r : Run) (f : FrameRun) → Calm r → find (of_tree f.tree) r.state.frames ≡ Some f → is_behind r.state f ≡ true → AllRun (Fresh r f.tree) (refresh f.tree r)
unfolding is_behind frame_now
refresh_fresh r f c e b =
    let q = behind_true (is_gone r.state.history f.tree) (is_bare (frame_of f.tree f.journal).source.trees) (not (applied_pass r.state.history f.tree == (frame_of f.tree f.journal).passes) || pending (frame_of f.tree f.journal)) b in
    subst (λ o. AllRun (Fresh r f.tree) o) (sym (refreshed r f e (c.quiet.at f.tree f e) q.1)) (fresh_after r f c e q.0 q.1)

kept_fresh : (r : Run) (f : FrameRun) → Calm r → find (of_tree f.tree) r.state.frames ≡ Some f → is_behind r.state f ≡ false → Fresh r f.tree r
kept_fresh r f c e b = record {
  calm = c;
  up = record { at = λ x q. subst (λ y. CaughtUp r.state.history f.tree y) (some_same f x (sym e ∙ q)) (not_behind r.state f (c.held.at f.tree f e) (c.quiet.at f.tree f e) b) };
  others = λ u n before. before;
}

refresh_if_fresh : (r : Run) (f : FrameRun) → Calm r → find (of_tree f.tree) r.state.frames ≡ Some f → AllRun (Fresh r f.tree) (refresh_if r f)
refresh_if_fresh r f c e = go (is_behind r.state f) refl
  where
    go : (b : Bool) → is_behind r.state f ≡ b → AllRun (Fresh r f.tree) (if b then refresh f.tree r else Some r)
    go true h = refresh_fresh r f c e h
    go false h = kept_fresh r f c e h

-- ---- all trees

pub record CalmUp (u : ℕ) (r : Run) : Type 0 where
  pub calm : Calm r
  pub up : Up u r

-- a run in which the listed trees are still to catch up
record Due (ts : List ℕ) (u : ℕ) (r : Run) : Type 0 where
  calm : Calm r
  up : contains ts u ≡ false → Up u r

fewer_due : (t : ℕ) (ts : List ℕ) (u : ℕ) (r : Run) (q : Run) → (contains (t ∷ ts) u ≡ false → Up u r) → Fresh r t q → Due ts u q
fewer_due t ts u r q h fresh = record { calm = fresh.calm; up = go (t == u) refl h }
  where
    go : (b : Bool) → (t == u) ≡ b → ((b || contains ts u) ≡ false → Up u r) → contains ts u ≡ false → Up u q
    go true e k n = subst (λ v. Up v q) (eqb-true t u e) fresh.up
    go false e k n = fresh.others u e (k n)

all_due : (t : ℕ) (ts : List ℕ) (u : ℕ) (r : Run) (o : Option Run) → (contains (t ∷ ts) u ≡ false → Up u r) → AllRun (Fresh r t) o → AllRun (Due ts u) o
all_due t ts u r None h f = tt
all_due t ts u r (Some q) h f = fewer_due t ts u r q h f

one_due : (t : ℕ) (ts : List ℕ) (u : ℕ) (r : Run) → Due (t ∷ ts) u r → (o : Option FrameRun) → find (of_tree t) r.state.frames ≡ o → AllRun (Due ts u) (option_and_then (refresh_if r) o)
one_due t ts u r d None e = tt
one_due t ts u r d (Some f) e =
    let same = found_in t r.state.frames f e in
    all_due t ts u r (refresh_if r f) d.up
    (subst (λ v. AllRun (Fresh r v) (refresh_if r f)) same (refresh_if_fresh r f d.calm (ap (λ v. find (of_tree v) r.state.frames) same ∙ e)))

catch_up_due : (ts : List ℕ) (u : ℕ) (r : Run) → Due ts u r → AllRun (CalmUp u) (catch_up ts r)
unfolding find_frame
catch_up_due [] u r d = record { calm = d.calm; up = d.up refl }
catch_up_due (t ∷ ts) u r d =
    next (Due ts u) (CalmUp u) (catch_up ts) (λ q k. catch_up_due ts u q k) (option_and_then (refresh_if r) (find (of_tree t) r.state.frames)) (one_due t ts u r d (find (of_tree t) r.state.frames) refl)

-- a tree that isn't among those of a state has no frame there
no_frame : (u : ℕ) (fs : List FrameRun) (f : FrameRun) → contains (map (λ (g : FrameRun). g.tree) fs) u ≡ false → find (of_tree u) fs ≡ Some f → ⊥
no_frame u [] f n e = cc
no_frame u (g ∷ fs) f n e = go (g.tree == u) (λ m k. no_frame u fs f m k) n e
  where
    go : (b : Bool) → (contains (map (λ (x : FrameRun). x.tree) fs) u ≡ false → find (of_tree u) fs ≡ Some f → ⊥)
        → (b || contains (map (λ (x : FrameRun). x.tree) fs) u) ≡ false → (if b then Some g else find (of_tree u) fs) ≡ Some f → ⊥
    go true ih m k = true≢false m
    go false ih m k = ih m k

pub all_catch_up : (u : ℕ) (r : Run) → Calm r → AllRun (CalmUp u) (catch_up (trees_of r.state) r)
all_catch_up u r c = catch_up_due (trees_of r.state) u r (record { calm = c; up = λ n. record { at = λ f e. absurd (no_frame u r.state.frames f n e) } })

-- ---- the queries

abbrev AllReaders : List Item → Type 0
AllReaders [] = Unit {0}
AllReaders (items.Frame t ∷ o) = ⊥
AllReaders (items.Receive t ∷ o) = ⊥
AllReaders (items.Browser ∷ o) = ⊥
AllReaders (items.Deliver t n ∷ o) = ⊥
AllReaders (items.Reader k ∷ o) = AllReaders o

query_up : (u : ℕ) (r : Run) (k : ℕ) (qs : List TimedQuery) → Up u r → AllRun (Up u) (do_next_query r k qs)
unfolding do_query
query_up u r k [] h = tt
query_up u r k (q ∷ left) h = record { at = λ f e. h.at f e }

reader_up : (u : ℕ) (r : Run) (k : ℕ) → Up u r → AllRun (Up u) (do_reader r k)
reader_up u r zero h = tt
reader_up u r (suc k) h = go (slice_get r.state.readers k)
  where
    go : (o : Option (List TimedQuery)) → AllRun (Up u) (option_and_then (do_next_query r k) o)
    go None = tt
    go (Some qs) = query_up u r k qs h

ask_up : (u : ℕ) (r : Run) (k : ℕ) → Up u r → AllRun (Up u) (step r (items.Reader k))
unfolding step
ask_up u r k h = reader_up u r k h

readers_up : (u : ℕ) (o : List Item) → AllReaders o → (r : Run) → Up u r → AllRun (Up u) (run o r)
readers_up u [] a r h = h
readers_up u (items.Frame t ∷ o) a r h = absurd a
readers_up u (items.Receive t ∷ o) a r h = absurd a
readers_up u (items.Browser ∷ o) a r h = absurd a
readers_up u (items.Deliver t n ∷ o) a r h = absurd a
readers_up u (items.Reader k ∷ o) a r h = next (Up u) (Up u) (run o) (λ q x. readers_up u o a q x) (step r (items.Reader k)) (ask_up u r k h)

readers_both : (xs ys : List Item) → AllReaders xs → AllReaders ys → AllReaders (xs ++ ys)
readers_both [] ys a b = b
readers_both (items.Frame t ∷ xs) ys a b = absurd a
readers_both (items.Receive t ∷ xs) ys a b = absurd a
readers_both (items.Browser ∷ xs) ys a b = absurd a
readers_both (items.Deliver t n ∷ xs) ys a b = absurd a
readers_both (items.Reader k ∷ xs) ys a b = readers_both xs ys a b

same_reader : (n k : ℕ) → AllReaders (replicate n (items.Reader k))
same_reader zero k = tt
same_reader (suc n) k = same_reader n k

left_readers : (rs : List (ℕ × List TimedQuery)) → AllReaders (flat_map (λ (r : ℕ × List TimedQuery). replicate (length r.1) (items.Reader r.0)) rs)
left_readers [] = tt
left_readers (r ∷ rs) =
    readers_both (replicate (length r.1) (items.Reader r.0)) (flat_map (λ (q : ℕ × List TimedQuery). replicate (length q.1) (items.Reader q.0)) rs) (same_reader (length r.1) r.0) (left_readers rs)

queries_up : (u : ℕ) (r : Run) → CalmUp u r → AllRun (Up u) (run (queries_left r.state) r)
unfolding queries_left
queries_up u r c = readers_up u _ (left_readers (enumerate_from 1 r.state.readers)) r c.up

-- ---- the finale

abbrev HeldRun : Run → Type 0
HeldRun r = Held r.state.frames r.state.history

all_held : (o : Option Run) → AllHeld o → AllRun HeldRun o
all_held None h = tt
all_held (Some r) h = h

pub finale_up : (u : ℕ) (r : Run) → HeldRun r → AllRun (Up u) (finale_of r)
unfolding finale_of
finale_up u r h =
    next (CalmUp u) (Up u) (λ a. run (queries_left a.state) a) (λ a c. queries_up u a c) _
    (next Calm (CalmUp u) (λ a. catch_up (trees_of a.state) a) (λ a c. all_catch_up u a c) _
    (next Calm Calm (λ a. serve a.state.browser a) (λ a c. serve_calm a.state.browser a c) _
    (next HeldRun Calm (λ a. run (packets_left a.state) a) (λ a k. packets_calm a k) _
    (all_held (run (ops_left r.state) r) (run_held (ops_left r.state) r h)))))

-- after the finale each live tree whose frame has a root is its frame's source
pub caught_up : (s : Script) (o : List Item) (r e : Run) (t : ℕ) (f : FrameRun) → run o (begin s) ≡ Some r → finale_of (without_lines r) ≡ Some e → find_frame e.state t ≡ Some f
    → is_gone e.state.history t ≡ false → is_bare (source_of t f.journal).trees ≡ false → mirror_of e.state.history t ≡ source_of t f.journal
unfolding find_frame mirror_of
caught_up s o r e t f h k q gone n =
    let held : AllHeld (Some r) = subst (λ x. AllHeld x) h (run_held o (begin s) (begin_held s)) in
    let up : AllRun (Up t) (Some e) = subst (λ x. AllRun (Up t) x) k (finale_up t (without_lines r) held) in
    let same = frame_source t f.journal (new_frame t) in
    (up.at f q).same gone (ap (λ (x : Tree). is_bare x.trees) same ∙ n) ∙ same

abbrev CalmRun : Run → Type 0
CalmRun r = Calm r

calm_of : (u : ℕ) (o : Option Run) → AllRun (CalmUp u) o → AllRun CalmRun o
calm_of u None c = tt
calm_of u (Some r) c = c.calm

calm_catch_up : (r : Run) → Calm r → AllRun CalmRun (catch_up (trees_of r.state) r)
calm_catch_up r c = calm_of 0 (catch_up (trees_of r.state) r) (all_catch_up 0 r c)

held_again : (o : Option Run) → AllRun HeldRun o → AllHeld o
held_again None h = tt
held_again (Some r) h = h

-- the packets are those of the journals after the finale too
pub finale_held : (r : Run) → HeldRun r → AllHeld (finale_of r)
unfolding finale_of
finale_held r h = held_again (finale_of r) (
    next CalmRun HeldRun (λ a. run (queries_left a.state) a) (λ a c. all_held (run (queries_left a.state) a) (run_held (queries_left a.state) a c.held)) _
    (next Calm CalmRun (λ a. catch_up (trees_of a.state) a) (λ a c. calm_catch_up a c) _
    (next Calm Calm (λ a. serve a.state.browser a) (λ a c. serve_calm a.state.browser a c) _
    (next HeldRun Calm (λ a. run (packets_left a.state) a) (λ a k. packets_calm a k) _
    (all_held (run (ops_left r.state) r) (run_held (ops_left r.state) r h))))))

-- queries send nothing, so all is received after the finale too
readers_send_nothing : (o : List Item) → AllReaders o → AllSendNothing o
readers_send_nothing [] a = tt
readers_send_nothing (items.Frame t ∷ o) a = absurd a
readers_send_nothing (items.Receive t ∷ o) a = absurd a
readers_send_nothing (items.Browser ∷ o) a = absurd a
readers_send_nothing (items.Deliver t n ∷ o) a = absurd a
readers_send_nothing (items.Reader k ∷ o) a = (tt, readers_send_nothing o a)

queries_calm : (r : Run) → Calm r → AllRun Calm (run (queries_left r.state) r)
unfolding queries_left
queries_calm r c = run_calm _ (readers_send_nothing _ (left_readers (enumerate_from 1 r.state.readers))) r c

pub finale_calm : (r : Run) → HeldRun r → AllRun Calm (finale_of r)
unfolding finale_of
finale_calm r h =
    next Calm Calm (λ a. run (queries_left a.state) a) (λ a c. queries_calm a c) _
    (next Calm Calm (λ a. catch_up (trees_of a.state) a) (λ a c. calm_catch_up a c) _
    (next Calm Calm (λ a. serve a.state.browser a) (λ a c. serve_calm a.state.browser a c) _
    (next HeldRun Calm (λ a. run (packets_left a.state) a) (λ a k. packets_calm a k) _
    (all_held (run (ops_left r.state) r) (run_held (ops_left r.state) r h)))))
