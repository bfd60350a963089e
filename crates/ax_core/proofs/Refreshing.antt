-- The calls of a refreshment, and those of an operation of the browser, joined.
use Rattle.std.proofs.Common.{ℕ, zero, suc, ◌≡◌, ◌<◌, inl, inr, Bool, true, false, List, [], ◌∷◌, ◌++◌, length, map, slice_get, sym, ap, ◌∙◌, subst, arith, Option, Some}
use Rattle.std.specs.Prelude.{option_to_list}
use Rattle.ax_ask.specs.declared.op.BrowserOp.TheVariants as browsers
use Rattle.ax_ask.specs.declared.op.TimedOp.{TimedOp}
use Rattle.ax_ask.specs.declared.op.Item.{Item}
use Rattle.ax_ask.specs.declared.op.Item.TheVariants as items
use Rattle.ax_ask.specs.declared.line.Line.{Line}
use Rattle.ax_rules.specs.Histories.{is_gone}
use Rattle.ax_run_rules.specs.States.{FrameRun, State, Run, trees_of, find_frame}
use Rattle.ax_run_rules.specs.Steps.{next_token}
use Rattle.ax_run_rules.specs.Finale.{delivery_of, is_behind}
use Rattle.ax_core.specs.Items.{Steps}
use Rattle.ax_core.specs.Finishing.{run_of, Then, Told, Turns, Serves, Asks, Passes, Refreshes, RefreshesIf, CatchesUp, delivery_in}
use Rattle.ax_core.specs.Hearing.{Hears, AtFrame}
use Rattle.ax_core.proofs.Hearing.{follows, joins}
use Rattle.ax_core.proofs.Moving.{MovesBrowser, moves, steps_trees}
use Rattle.ax_core.proofs.Telling.{line_delivery, live_delivery}
use Rattle.ax_core.proofs.Turning.{asked_trees, item_at, as_many}

abbrev tree_in : FrameRun → ℕ
tree_in f = f.tree

-- ---- an operation of the browser

first_op : (os left : List TimedOp) (o p : TimedOp) → slice_get os 0 ≡ Some o → os ≡ p ∷ left → p ≡ o
first_op [] left o p h e = absurd (let no : ⊥ = cc in no)
first_op (x ∷ os) left o p h e = cc

pub serves_on : (o : TimedOp) (s m e : State) (l : Line) (l0 l1 l2 : List Line) (d : Option Item) (b : Bool) → slice_get s.browser 0 ≡ Some o → Steps s items.Browser m l → l1 ≡ l0 ++ l ∷ [] → d ≡ delivery_in l
    → Turns (option_to_list d) b (run_of m l1) (run_of e l2) → Serves o b (run_of s l0) (run_of e l2)
serves_on o s m e l l0 l1 l2 d b h steps told given q = go b (subst (λ p. Turns p b (run_of m l1) (run_of e l2)) same q)
  where
    k : MovesBrowser s m l
    k = moves s items.Browser m l steps

    own : k.op ≡ o
    own = first_op s.browser k.left o k.op h k.was

    same : option_to_list d ≡ delivery_of s o.op
    same = ap (λ x. option_to_list x) given ∙ (line_delivery s k.op.op l k.told ∙ ap (λ (x : TimedOp). delivery_of s x.op) own)

    first : Told items.Browser true (run_of s l0) (run_of m l1)
    first = (l, (steps, told))

    go : (c : Bool) → Turns (delivery_of s o.op) c (run_of m l1) (run_of e l2) → Serves o c (run_of s l0) (run_of e l2)
    go true t = (run_of m l1, (first, t))
    go false t = inr (run_of m l1, (first, t))

pub serves_halted : (o : TimedOp) (r e : Run) → Told items.Browser false r e → Serves o false r e
serves_halted o r e q = inl q

-- ---- a refreshment

single : (i : Item) (b : Bool) (r e : Run) → Turns (i ∷ []) b r e → Told i b r e
single i true r e q = subst (λ (x : Run). Told i true r x) (sym q.1.1) q.1.0
single i false r e (inl q) = q
single i false r e (inr q) = absurd q.1.1

tree_at_place : (fs gs : List FrameRun) (i : ℕ) (f g : FrameRun) → map tree_in gs ≡ map tree_in fs → slice_get fs i ≡ Some f → slice_get gs i ≡ Some g → g.tree ≡ f.tree
tree_at_place [] gs i f g e h k = absurd (let no : ⊥ = cc in no)
tree_at_place (x ∷ fs) [] i f g e h k = absurd (let no : ⊥ = cc in no)
tree_at_place (x ∷ fs) (y ∷ gs) zero f g e h k =
    let u : x ≡ f = cc in
    let v : y ≡ g = cc in
    ap tree_in (sym v) ∙ (heads (tree_in y) (tree_in x) (map tree_in gs) (map tree_in fs) e ∙ ap tree_in u)
  where
    heads : (a b : ℕ) (xs ys : List ℕ) → a ∷ xs ≡ b ∷ ys → a ≡ b
    heads a b xs ys z = cc
tree_at_place (x ∷ fs) (y ∷ gs) (suc i) f g e h k = tree_at_place fs gs i f g (tails (tree_in y) (tree_in x) (map tree_in gs) (map tree_in fs) e) h k
  where
    tails : (a b : ℕ) (xs ys : List ℕ) → a ∷ xs ≡ b ∷ ys → xs ≡ ys
    tails a b xs ys z = cc

abbrev pub deliver_item : State → ℕ → Item
deliver_item s t = items.Deliver t (record { 0 = next_token s.history t })

-- the delivery of a live tree's token
pub delivers : (s : State) (t : ℕ) (d : Option Item) (b : Bool) (a e : Run) → is_gone s.history t ≡ false → option_to_list d ≡ delivery_of s (browsers.Ask t) → Turns (option_to_list d) b a e → Told (deliver_item s t) b a e
delivers s t d b a e live given q = single (deliver_item s t) b a e (subst (λ o. Turns o b a e) (given ∙ live_delivery s t live) q)

pub asks_trees : (t : ℕ) (r a : Run) → Asks t true r a → trees_of a.state ≡ trees_of r.state
asks_trees t r a q = asked_trees t r.state a.state q.0 q.1.0

pub told_trees : (i : Item) (r a : Run) → Told i true r a → trees_of a.state ≡ trees_of r.state
told_trees i r a q = steps_trees r.state a.state i q.0 q.1.0

-- the pass of the frame at the place, which has the same tree as before
pub passes_at : (s m : State) (i : ℕ) (f : FrameRun) (b : Bool) (r e : Run) → trees_of m ≡ trees_of s → slice_get s.frames i ≡ Some f → i < length m.frames → ((g : FrameRun) → slice_get m.frames i ≡ Some g → Passes g.tree b r e)
    → Passes f.tree b r e
passes_at s m i f b r e same h low q =
    let x = item_at m.frames i low in
    subst (λ t. Passes t b r e) (tree_at_place s.frames m.frames i f x.0 same h x.1) (q x.0 x.1)

module _ (t : ℕ) (r a : Run) where
  pub refresh_1 : Asks t false r a → Refreshes t false r a
  refresh_1 q = inl q

  module _ (first : Asks t true r a) (d : Run) where
    pub refresh_2 : Told (deliver_item r.state t) false a d → Refreshes t false r d
    refresh_2 q = inr (a, (first, inl q))

    module _ (second : Told (deliver_item r.state t) true a d) (p : Run) where
      pub refresh_3 : Passes t false d p → Refreshes t false r p
      refresh_3 q = inr (a, (first, inr (d, (second, inl q))))

      module _ (third : Passes t true d p) (e : Run) where
        pub refresh_4 : (u : ℕ) (b : Bool) → u ≡ t → Told (items.Receive u) b p e → Refreshes t b r e
        refresh_4 u b own q = go b (subst (λ (n : ℕ). Told (items.Receive n) b p e) own q)
          where
            go : (c : Bool) → Told (items.Receive t) c p e → Refreshes t c r e
            go true k = (a, (first, (d, (second, (p, (third, k))))))
            go false k = inr (a, (first, inr (d, (second, inr (p, (third, k))))))

-- ---- a tree that is behind, or isn't

pub catches : (f : FrameRun) (b c : Bool) (r e : Run) → find_frame r.state f.tree ≡ Some f → c ≡ is_behind r.state f → RefreshesIf c f.tree b r e → CatchesUp f.tree b r e
catches f b c r e found behind q = (f, (found, subst (λ x. RefreshesIf x f.tree b r e) behind q))

-- ---- the parts of a refreshment as they are heard

-- an ask and the delivery of its token, and then the pass too
abbrev pub Delivers : FrameRun → Bool → Run → Run → Type 0
Delivers f b r e = Then (Asks f.tree) (Told (deliver_item r.state f.tree)) b r e

abbrev pub Sends : FrameRun → Bool → Run → Run → Type 0
Sends f b r e = Then (Asks f.tree) (Then (Told (deliver_item r.state f.tree)) (Passes f.tree)) b r e

delivered_trees : (f : FrameRun) (r e : Run) → Delivers f true r e → trees_of e.state ≡ trees_of r.state
delivered_trees f r e q = told_trees (deliver_item r.state f.tree) q.0 e q.1.1 ∙ asks_trees f.tree r q.0 q.1.0

pub still_there : (i : ℕ) (s m : State) (ks ls : List Line) → i < length s.frames → (f : FrameRun) → Delivers f true (run_of s ks) (run_of m ls) → i < length m.frames
still_there i s m ks ls low f q = let k = as_many s m (delivered_trees f (run_of s ks) (run_of m ls) q) in omega (arith, k, low)

-- the pass behind an ask and a delivery
passes_behind : (i : ℕ) (s m e : State) (b : Bool) (f : FrameRun) (is js ks : List Line) → i < length s.frames → slice_get s.frames i ≡ Some f → Delivers f true (run_of s is) (run_of m js)
    → AtFrame i (λ g. Passes g.tree) b (run_of m js) (run_of e ks) → Passes f.tree b (run_of m js) (run_of e ks)
passes_behind i s m e b f is js ks low h p q =
    passes_at s m i f b (run_of m js) (run_of e ks) (delivered_trees f (run_of s is) (run_of m js) p) h (still_there i s m is js low f p) q

module _ {A : Type 0} {heard : A → Line → A} {i : ℕ} where
  pub asked_first : {s m : State} {a b : A} → Hears heard (AtFrame i (λ f. Asks f.tree)) false s m a b → Hears heard (AtFrame i (λ f. Refreshes f.tree)) false s m a b
  asked_first {s = s} {m = m} h = follows h (λ is js q f k. refresh_1 f.tree (run_of s is) (run_of m js) (q f k))

  pub delivered_second : {s m e : State} {a b c : A} (d : Option Item) → ((f : FrameRun) → slice_get s.frames i ≡ Some f → is_gone s.history f.tree ≡ false)
      → ((f : FrameRun) → slice_get s.frames i ≡ Some f → option_to_list d ≡ delivery_of s (browsers.Ask f.tree)) → Hears heard (AtFrame i (λ f. Asks f.tree)) true s m a b
      → Hears heard (Turns (option_to_list d)) true m e b c → Hears heard (AtFrame i Delivers) true s e a c
  delivered_second {s = s} {m = m} {e = e} d live given first h =
      joins {b = true} first h
      (λ is js ks p q f k. (run_of m js, (p f k, delivers s f.tree d true (run_of m js) (run_of e ks) (live f k) (given f k) q)))

  pub halted_second : {s m e : State} {a b c : A} (d : Option Item) → ((f : FrameRun) → slice_get s.frames i ≡ Some f → is_gone s.history f.tree ≡ false)
      → ((f : FrameRun) → slice_get s.frames i ≡ Some f → option_to_list d ≡ delivery_of s (browsers.Ask f.tree)) → Hears heard (AtFrame i (λ f. Asks f.tree)) true s m a b
      → Hears heard (Turns (option_to_list d)) false m e b c → Hears heard (AtFrame i (λ f. Refreshes f.tree)) false s e a c
  halted_second {s = s} {m = m} {e = e} d live given first h =
      joins {b = false} first h
      (λ is js ks p q f k. refresh_2 f.tree (run_of s is) (run_of m js) (p f k) (run_of e ks) (delivers s f.tree d false (run_of m js) (run_of e ks) (live f k) (given f k) q))

  pub passed_third : {s m e : State} {a b c : A} → i < length s.frames → Hears heard (AtFrame i Delivers) true s m a b → Hears heard (AtFrame i (λ f. Passes f.tree)) true m e b c
      → Hears heard (AtFrame i Sends) true s e a c
  passed_third {s = s} {m = m} {e = e} low second h =
      joins {b = true} second h
      (λ is js ks p q f k. let x = p f k in (x.0, (x.1.0, (run_of m js, (x.1.1, passes_behind i s m e true f is js ks low k x q)))))

  pub halted_third : {s m e : State} {a b c : A} → i < length s.frames → Hears heard (AtFrame i Delivers) true s m a b → Hears heard (AtFrame i (λ f. Passes f.tree)) false m e b c
      → Hears heard (AtFrame i (λ f. Refreshes f.tree)) false s e a c
  halted_third {s = s} {m = m} {e = e} low second h =
      joins {b = false} second h
      (λ is js ks p q f k. let x = p f k in refresh_3 f.tree (run_of s is) x.0 x.1.0 (run_of m js) x.1.1 (run_of e ks) (passes_behind i s m e false f is js ks low k x q))

  pub received_last : {s m e : State} {a b c : A} (t : ℕ) (done : Bool) → ((f : FrameRun) → slice_get s.frames i ≡ Some f → t ≡ f.tree) → Hears heard (AtFrame i Sends) true s m a b
      → Hears heard (Told (items.Receive t)) done m e b c → Hears heard (AtFrame i (λ f. Refreshes f.tree)) done s e a c
  received_last {s = s} {m = m} {e = e} t done own third h =
      joins {b = done} third h
      (λ is js ks p q f k. let x = p f k in refresh_4 f.tree (run_of s is) x.0 x.1.0 x.1.1.0 x.1.1.1.0 (run_of m js) x.1.1.1.1 (run_of e ks) t done (own f k) q)
