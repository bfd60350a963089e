-- What the calls of a finale do, as pieces of its work.
use Rattle.std.proofs.Common.{ℕ, zero, suc, ◌≡◌, ◌⊎◌, inl, inr, ◌==◌, Bool, true, false, ◌&&◌, ◌||◌, not, if◌then◌else◌, ◌<◌, List, [], ◌∷◌, ◌++◌, length, map, find, get_or, slice_get, refl, sym, ap, ap₂, ◌∙◌, subst, true≢false, IsTrue, IsSome, is_some, ◌↔◌, Option, Some, None, Result, Ok, Err, IfOk, OnOk, OnErr, is_ok}
use Rattle.std.specs.Prelude.{option_to_list}
use Rattle.std.proofs.lemmas.Bool.{eqb-true}
use Rattle.std.proofs.lemmas.Option.{slice_get-get_or}
use Rattle.std.proofs.lemmas.List.Elements.{All-weaker}
use Rattle.ax_base.specs.declared.seq.NoMemory.{NoMemory}
use Rattle.ax_trees.specs.Trees.{Trees, bare, tree, is_bare, root_of}
use Rattle.ax_trees.specs.Lists.{contains, NoneTwice}
use Rattle.ax_tree.specs.Tree.{Tree}
use Rattle.ax_tree.specs.Forest.{live_tree}
use Rattle.ax_tree.specs.Journals.{frame_of, pending}
use Rattle.ax_tree.specs.declared.packet.HEntry.{HEntry}
use Rattle.ax_tree.specs.declared.packet.HEntry.TheVariants as entries
use Rattle.ax_ask.specs.declared.op.FrameOp.TheVariants as ops
use Rattle.ax_ask.specs.declared.op.BrowserOp.{BrowserOp}
use Rattle.ax_ask.specs.declared.op.BrowserOp.TheVariants as browsers
use Rattle.ax_ask.specs.declared.op.Item.{Item}
use Rattle.ax_ask.specs.declared.op.Item.TheVariants as items
use Rattle.ax_ask.specs.declared.line.Line.{Line}
use Rattle.ax_ask.specs.declared.line.Line.TheVariants as lines
use Rattle.ax_ask.specs.Calls.{HaveLeaves}
use Rattle.ax_rules.specs.Histories.{is_gone, applied_pass}
use Rattle.ax_rules.specs.Mirrors.{built_of}
use Rattle.ax_run_rules.specs.States.{FrameRun, State, trees_of, find_frame, frame_now}
use Rattle.ax_run_rules.specs.Steps.{next_token, do_ask}
use Rattle.ax_run_rules.specs.Finale.{delivery_of, is_behind}
use Rattle.ax_run_laws.proofs.Found.{of_tree, same_number, some_same}
use Rattle.ax_frame.specs.Frames.{Journaled}
use Rattle.ax_forest.specs.Past.{Past, forest_of}
use Rattle.ax_forest.proofs.Pasts.{tree_built}
use Rattle.ax_core.specs.declared.answers.CoreErr.{CoreErr}
use Rattle.ax_core.specs.declared.answers.CoreErr.TheVariants.{NotThere as IsNotThere, NoMemory as HasNoMemory}
use Rattle.ax_core.specs.FrameRuns.{journaled, IsDone, IsRuled, MayResume, IsBroken, with_short, IsFitting, KeepsFitting}
use Rattle.ax_core.specs.Items.{IsRefused}
use Rattle.ax_core.specs.Finishing.{run_of, Call, Told, IsAsked, IsPassed, IsPassCut, Passes, delivery_in}
use Rattle.ax_core.specs.Receipts.{line_by}
use Rattle.ax_core.specs.Standing.{IsKept}
use Rattle.ax_core.proofs.Found.{all_at, there_at}
use Rattle.ax_core.proofs.FrameItems.{put, put_same, with_put}
use Rattle.ax_core.proofs.Kept.{Follows, kept_put, entry_got, fits_entry}

-- ---- calls

-- what was done is told, or there is no memory for its line
pub pushed : (Does : State → State → Line → Type 0) (Breaks : State → State → Type 0) (r : Result (Unit {0}) NoMemory) (s m : State) (l : Line) (old new : List Line) → Does s m l
    → OnOk r (new ≡ old ++ l ∷ []) → OnErr r (new ≡ old) → Call Does Breaks (is_ok r) (run_of s old) (run_of m new)
pushed Does Breaks (Ok x) s m l old new d k e = (l, (d, k))
pushed Does Breaks (Err x) s m l old new d k e = (e, inr (inr (l, d)))

-- an item that is refused has done nothing, or is a pass that was broken off
pub refused : (i : Item) (s m : State) (e : CoreErr) (ls : List Line) → IsRefused s i m e → Told i false (run_of s ls) (run_of m ls)
refused i s m (IsNotThere j) ls r = (refl, inl r.1.1)
refused i s m HasNoMemory ls (inl k) = (refl, inl k)
refused i s m HasNoMemory ls (inr k) = (refl, inr (inl k))

-- ---- an ask

-- the token of an ask is delivered
ask_delivery : (b : Bool) (t n : ℕ) → option_to_list (delivery_in (lines.Asked t (if b then None else Some (record { 0 = n })))) ≡ (if b then [] else items.Deliver t (record { 0 = n }) ∷ [])
ask_delivery true t n = refl
ask_delivery false t n = refl

pub line_delivery : (s : State) (o : BrowserOp) (l : Line) → l ≡ line_by s.history o → option_to_list (delivery_in l) ≡ delivery_of s o
line_delivery s o l e = ap (λ k. option_to_list (delivery_in k)) e ∙ go o
  where
    go : (p : BrowserOp) → option_to_list (delivery_in (line_by s.history p)) ≡ delivery_of s p
    go (browsers.Ask t) = ask_delivery (is_gone s.history t) t (next_token s.history t)
    go (browsers.Destroy t) = refl
    go (browsers.Probe t u) = refl

pub live_delivery : (s : State) (t : ℕ) → is_gone s.history t ≡ false → delivery_of s (browsers.Ask t) ≡ items.Deliver t (record { 0 = next_token s.history t }) ∷ []
live_delivery s t e = ap (λ b. if b then [] else items.Deliver t (record { 0 = next_token s.history t }) ∷ []) e

pub asked : (s : State) (t : ℕ) (h : List HEntry) (l : Line) → l ≡ line_by s.history (browsers.Ask t) → h ≡ s.history ++ entries.Asked t ∷ [] → IsAsked t s (record s { history = h }) l
unfolding do_ask
asked s t h l told new = ap₂ (λ (u : List HEntry) (k : Line). run_of (record s { history = u }) (k ∷ [])) (sym new) (sym told)

pub kept_asked : (s : State) (ps ts us : List ℕ) (t : ℕ) (h : List HEntry) → IsKept s ps ts → us ≡ ts → h ≡ s.history ++ entries.Asked t ∷ [] → IsKept (record s { history = h }) ps us
kept_asked s ps ts us t h k same new =
    subst (λ (u : List HEntry). IsKept (record s { history = u }) ps us) (sym new)
    (record {
      places = k.places;
      trees = same ∙ k.trees;
      stands = record {
        some = k.stands.some;
        apart = k.stands.apart;
        named = k.stands.named;
        leaves = k.stands.leaves;
        fitting = All-weaker (IsFitting s.history) (IsFitting (s.history ++ entries.Asked t ∷ [])) (λ f fit. fits_entry s.history (entries.Asked t) f (entry_got (browsers.Ask t) f.tree) fit) s.frames k.stands.fitting;
      };
    })

-- ---- a pass

-- the frame at a place is found by its tree
pub find_at : (fs : List FrameRun) (i : ℕ) (f : FrameRun) → NoneTwice (map (λ (x : FrameRun). x.tree) fs) → slice_get fs i ≡ Some f → find (of_tree f.tree) fs ≡ Some f
find_at [] i f n h = absurd (let no : ⊥ = cc in no)
find_at (x ∷ fs) zero f n h =
    let e : x ≡ f = some_same x f h in
    ap (λ b. if b then Some x else find (of_tree f.tree) fs) (ap (λ (y : FrameRun). y.tree == f.tree) e ∙ same_number f.tree) ∙ ap Some e
find_at (x ∷ fs) (suc i) f n h = go (x.tree == f.tree) refl (find_at fs i f n.1 h)
  where
    same : (a b : ℕ) → (a == b) ≡ true → contains (map (λ (y : FrameRun). y.tree) fs) b ≡ true → contains (map (λ (y : FrameRun). y.tree) fs) a ≡ true
    same a b e c = subst (λ k. contains (map (λ (y : FrameRun). y.tree) fs) k ≡ true) (sym (eqb-true a b e)) c

    go : (b : Bool) → (x.tree == f.tree) ≡ b → find (of_tree f.tree) fs ≡ Some f → (if b then Some x else find (of_tree f.tree) fs) ≡ Some f
    go true e k = absurd (true≢false (sym (same x.tree f.tree e (there_at fs i f h)) ∙ n.0))
    go false e k = k

pub found_at_place : (s : State) (i : ℕ) (f : FrameRun) → NoneTwice (trees_of s) → slice_get s.frames i ≡ Some f → find_frame s f.tree ≡ Some f
unfolding find_frame
found_at_place s i f n h = find_at s.frames i f n h

done_tree : (f g : FrameRun) (l : Line) → IsDone f ops.Pass f.left g l → Follows f g
done_tree f g l d = go d.is
  where
    go : (IsRuled f ops.Pass f.left g l ⊎ MayResume f ops.Pass f.left g l) → Follows f g
    go (inl k) = record { tree = ap (λ (x : FrameRun). x.tree) k.after; leaves = λ v. subst (λ (x : FrameRun). HaveLeaves x.left) (sym k.after) v }
    go (inr k) = record { tree = ap (λ (x : FrameRun). x.tree) k.after; leaves = λ v. subst (λ (x : FrameRun). HaveLeaves x.left) (sym k.after) v }

broken_tree : (f g : FrameRun) → IsBroken f ops.Pass g → Follows f g
broken_tree f g (inl k) = record { tree = ap (λ (x : FrameRun). x.tree) k; leaves = λ v. subst (λ (x : FrameRun). HaveLeaves x.left) (sym k) v }
broken_tree f g (inr k) = record { tree = ap (λ (x : FrameRun). x.tree) k.1.1; leaves = λ v. subst (λ (x : FrameRun). HaveLeaves x.left) (sym k.1.1) v }

pub pass_follows : (r : Result Line NoMemory) (f g : FrameRun) → IfOk r (λ l. IsDone f ops.Pass f.left g l) → OnErr r (IsBroken f ops.Pass g) → Follows f g
pass_follows (Ok l) f g d b = done_tree f g l d
pass_follows (Err e) f g d b = broken_tree f g b

pub pass_kept : (r : Result Line NoMemory) (s : State) (ps ts : List ℕ) (i : ℕ) (f g : FrameRun) → IsKept s ps ts → slice_get s.frames i ≡ Some f → IfOk r (λ l. IsDone f ops.Pass f.left g l) → OnErr r (IsBroken f ops.Pass g)
    → KeepsFitting f g → IsKept (put s i g) ps ts
pass_kept r s ps ts i f g k h d b keeps = kept_put s ps ts i f g k h (pass_follows r f g d b) (keeps s.history (all_at (IsFitting s.history) s.frames i f k.stands.fitting h))

pub passed : (s : State) (i : ℕ) (f g : FrameRun) (l : Line) → NoneTwice (trees_of s) → slice_get s.frames i ≡ Some f → IsDone f ops.Pass f.left g l → IsPassed f.tree s (put s i g) l
passed s i f g l n h d = record {
  frame = f;
  found = found_at_place s i f n h;
  after = g;
  done = d;
  state = sym (with_put s i f g n h (sym (done_tree f g l d).tree));
}

pub pass_broken : (s : State) (i : ℕ) (f g : FrameRun) (ls : List Line) → NoneTwice (trees_of s) → slice_get s.frames i ≡ Some f → IsBroken f ops.Pass g → Passes f.tree false (run_of s ls) (run_of (put s i g) ls)
pass_broken s i f g ls n h (inl k) = (refl, inl (put_same s i f g h k))
pass_broken s i f g ls n h (inr k) = (
  refl,
  inr (inl (record {
    frame = f;
    found = found_at_place s i f n h;
    pends = k.1.0;
    state = ap (put s i) k.1.1 ∙ sym (with_put s i f (with_short f) n h refl);
  })),
)

-- ---- is a tree behind?

live_or_gone : (b g : Bool) (o : Option Tree) (m : Tree) → (IsTrue b ↔ IsSome o) → o ≡ (if g then None else Some m) → b ≡ not g
live_or_gone true true o m k e = absurd (true≢false (sym (subst (λ (x : Option Tree). is_some x ≡ true) e (k.0 refl))))
live_or_gone true false o m k e = refl
live_or_gone false true o m k e = refl
live_or_gone false false o m k e = absurd (true≢false (sym (k.1 (ap is_some e))))

-- a tree of the forest is live, or it is gone
pub is_live : (p : Past) (t : ℕ) (b : Bool) → contains p.trees t ≡ true → (IsTrue b ↔ IsSome (live_tree (forest_of p) t)) → b ≡ not (is_gone p.history t)
is_live p t b c k = live_or_gone b (is_gone p.history t) (live_tree (forest_of p) t) (built_of p.history t) k (tree_built p.trees p.history t c)

pub behind : (s : State) (f : FrameRun) (live rooted differs pends : Bool) → live ≡ not (is_gone s.history f.tree) → rooted ≡ not (is_bare (frame_of f.tree f.journal).source.trees)
    → differs ≡ not (applied_pass s.history f.tree == (frame_of f.tree f.journal).passes) → pends ≡ pending (frame_of f.tree f.journal) → (live && (rooted && (differs || pends))) ≡ is_behind s f
unfolding is_behind frame_now
behind s f live rooted differs pends a b c d = ap₂ (λ (x y : Bool). x && y) a (ap₂ (λ (x y : Bool). x && y) b (ap₂ (λ (x y : Bool). x || y) c d))

behind_live : (g x : Bool) → (not g && x) ≡ true → g ≡ false
behind_live true x h = absurd (true≢false (sym h))
behind_live false x h = refl

-- a tree that is behind is live
pub live_behind : (s : State) (f : FrameRun) → is_behind s f ≡ true → is_gone s.history f.tree ≡ false
unfolding is_behind
live_behind s f h = behind_live (is_gone s.history f.tree) _ h

-- ---- a pass of the frame at a place, by what the state is seen as

-- the frame that was read at a place stands there
pub read_at : (s v : State) (i : ℕ) (f : FrameRun) → s ≡ v → i < length v.frames → f ≡ get_or s.frames i f → slice_get s.frames i ≡ Some f
read_at s v i f e h r = slice_get-get_or s.frames i f (subst (λ (x : State). i < length x.frames) (sym e) h) ∙ ap Some (sym r)

frame_same : (s v : State) (i : ℕ) (f x : FrameRun) → s ≡ v → slice_get s.frames i ≡ Some f → slice_get v.frames i ≡ Some x → f ≡ x
frame_same s v i f x e h k = some_same f x (sym h ∙ (ap (λ (y : State). slice_get y.frames i) e ∙ k))

pub broke_at : (s v : State) (i : ℕ) (f x g : FrameRun) (ls : List Line) → s ≡ v → NoneTwice (trees_of s) → slice_get s.frames i ≡ Some f → slice_get v.frames i ≡ Some x → IsBroken f ops.Pass g
    → Passes x.tree false (run_of v ls) (run_of (put s i g) ls)
broke_at s v i f x g ls e n h k b =
    subst (λ (y : State). Passes x.tree false (run_of y ls) (run_of (put s i g) ls)) e
    (subst (λ (y : FrameRun). Passes y.tree false (run_of s ls) (run_of (put s i g) ls)) (frame_same s v i f x e h k) (pass_broken s i f g ls n h b))

pub passed_at : (s v : State) (i : ℕ) (f x g : FrameRun) (l : Line) (r : Result (Unit {0}) NoMemory) (old new : List Line) → s ≡ v → NoneTwice (trees_of s) → slice_get s.frames i ≡ Some f → slice_get v.frames i ≡ Some x
    → IsDone f ops.Pass f.left g l → OnOk r (new ≡ old ++ l ∷ []) → OnErr r (new ≡ old) → Passes x.tree (is_ok r) (run_of v old) (run_of (put s i g) new)
passed_at s v i f x g l r old new e n h k d ok err =
    subst (λ (y : State). Passes x.tree (is_ok r) (run_of y old) (run_of (put s i g) new)) e
    (subst (λ (y : FrameRun). Passes y.tree (is_ok r) (run_of s old) (run_of (put s i g) new)) (frame_same s v i f x e h k)
    (pushed (λ a b m. IsPassed f.tree a b m) (λ a b. IsPassCut f.tree a b) r s (put s i g) l old new (passed s i f g l n h d) ok err))

-- ---- an ask for the tree of the frame at a place

-- the tree of the frame at a place is one of those that are kept
pub tree_kept : (s : State) (ts : List ℕ) (i t : ℕ) (g : FrameRun) → ts ≡ trees_of s → slice_get s.frames i ≡ Some g → t ≡ g.tree → contains ts t ≡ true
tree_kept s ts i t g kept h own = ap₂ (λ (l : List ℕ) (n : ℕ). contains l n) kept own ∙ there_at s.frames i g h

module _ (s v : State) (i t : ℕ) (g f : FrameRun) (l : Line) (e : s ≡ v) (at_s : slice_get s.frames i ≡ Some g) (at_v : slice_get v.frames i ≡ Some f) (own : t ≡ g.tree)
    (told : l ≡ line_by s.history (browsers.Ask t)) where
  its : t ≡ f.tree
  its = own ∙ ap (λ (x : FrameRun). x.tree) (frame_same s v i g f e at_s at_v)

  pub asked_at : (h : List HEntry) → h ≡ s.history ++ entries.Asked t ∷ [] → IsAsked f.tree v (record s { history = h }) l
  asked_at h new =
      subst (λ (n : ℕ). IsAsked n v (record s { history = h }) l) its
      (subst (λ (x : State). IsAsked t x (record s { history = h }) l) e (asked s t h l told new))

  pub delivery_at : (d : Option Item) → d ≡ delivery_in l → option_to_list d ≡ delivery_of v (browsers.Ask f.tree)
  delivery_at d given =
      ap (λ (o : Option Item). option_to_list o) given
      ∙ (line_delivery s (browsers.Ask t) l told ∙ ap₂ (λ (x : State) (n : ℕ). delivery_of x (browsers.Ask n)) e its)

-- ---- what is read of the frame at a place, and of its tree in the forest, says whether it is behind

rooted_is : {X : Type 0} (xs : Trees X) → is_some (root_of xs) ≡ not (is_bare xs)
rooted_is bare = refl
rooted_is (tree i x inner others) = refl

module _ (s v : State) (i : ℕ) (g f : FrameRun) (j : Journaled) (p : Past) (e : s ≡ v) (at_s : slice_get s.frames i ≡ Some g) (at_v : slice_get v.frames i ≡ Some f) (seen : j ≡ journaled g)
    (kept : p.trees ≡ trees_of s) (past : p.history ≡ s.history) where
  read_live : (t : ℕ) (live : Bool) → t ≡ j.tree → (IsTrue live ↔ IsSome (live_tree (forest_of p) t)) → live ≡ not (is_gone s.history g.tree)
  read_live t live own k =
      is_live p t live (tree_kept s p.trees i t g kept at_s (own ∙ ap (λ (x : Journaled). x.tree) seen)) k
      ∙ ap₂ (λ (h : List HEntry) (n : ℕ). not (is_gone h n)) past (own ∙ ap (λ (x : Journaled). x.tree) seen)

  read_rooted : (m : Tree) (root : Option ℕ) (rooted : Bool) → m ≡ (frame_of j.tree j.journal).source → root ≡ root_of m.trees → rooted ≡ is_some root
      → rooted ≡ not (is_bare (frame_of g.tree g.journal).source.trees)
  read_rooted m root rooted source is some =
      some
      ∙ (ap (λ (o : Option ℕ). is_some o) is
      ∙ (rooted_is m.trees ∙ ap (λ (x : Tree). not (is_bare x.trees)) (source ∙ ap (λ (x : Journaled). (frame_of x.tree x.journal).source) seen)))

  read_differs : (t applied passes : ℕ) (differs : Bool) → t ≡ j.tree → applied ≡ (if contains p.trees t then applied_pass p.history t else 0) → passes ≡ (frame_of j.tree j.journal).passes
      → differs ≡ not (applied == passes) → differs ≡ not (applied_pass s.history g.tree == (frame_of g.tree g.journal).passes)
  read_differs t applied passes differs own a b d = d ∙ ap₂ (λ (x y : ℕ). not (x == y)) there (b ∙ ap (λ (x : Journaled). (frame_of x.tree x.journal).passes) seen)
    where
      mine : t ≡ g.tree
      mine = own ∙ ap (λ (x : Journaled). x.tree) seen

      there : applied ≡ applied_pass s.history g.tree
      there =
          a
          ∙ (ap (λ (b : Bool). if b then applied_pass p.history t else 0) (tree_kept s p.trees i t g kept at_s mine)
          ∙ ap₂ (λ (h : List HEntry) (n : ℕ). applied_pass h n) past mine)

  pub read_behind : (t applied passes : ℕ) (m : Tree) (root : Option ℕ) (live rooted differs pends : Bool) → t ≡ j.tree → (IsTrue live ↔ IsSome (live_tree (forest_of p) t))
      → m ≡ (frame_of j.tree j.journal).source → root ≡ root_of m.trees → rooted ≡ is_some root → applied ≡ (if contains p.trees t then applied_pass p.history t else 0)
      → passes ≡ (frame_of j.tree j.journal).passes → differs ≡ not (applied == passes) → pends ≡ pending (frame_of j.tree j.journal) → (live && (rooted && (differs || pends))) ≡ is_behind v f
  read_behind t applied passes m root live rooted differs pends own k source is some a b d pend =
      behind s g live rooted differs pends (read_live t live own k) (read_rooted m root rooted source is some) (read_differs t applied passes differs own a b d)
      (pend ∙ ap (λ (x : Journaled). pending (frame_of x.tree x.journal)) seen)
      ∙ ap₂ (λ (x : State) (y : FrameRun). is_behind x y) e (frame_same s v i g f e at_s at_v)
